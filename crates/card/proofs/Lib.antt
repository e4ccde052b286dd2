mod DoorLaws
mod ReadingLaws
