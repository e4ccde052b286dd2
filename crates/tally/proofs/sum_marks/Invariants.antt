-- What is summed are the marks of the buckets so far.
use Rattle.std.proofs.Common.{◌≡◌, ◌≤◌, ◌*◌, length}
use Rattle.settings.specs.Checked.{paper}
use Rattle.tally.proofs.TallyLaws.{sum_below, records_of, is_255, Left}
use Rattle.tally.proofs.sum_marks.Given as goal

abbrev pub invariant-loop-bucket : goal.invariant-loop-bucket
invariant-loop-bucket l = record {
  left : Left (paper l.fn.s) l.buckets (length l.yielded) l.bucket-iterator;
  records : l.in_buckets ≡ sum_below (records_of (paper l.fn.s) l.buckets) (length l.yielded);
  marked : l.marked_255 ≡ sum_below (is_255 (paper l.fn.s) l.buckets) (length l.yielded);
  records_few : l.in_buckets ≤ 255 * length l.yielded;
  marked_few : l.marked_255 ≤ length l.yielded;
}
