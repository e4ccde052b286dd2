-- Whether a mark of the buckets that are left cannot be is whether any cannot.
use Rattle.std.proofs.Common.{not, ◌&&◌, eqb, ltb, length}
use Rattle.settings.specs.Checked.{paper, card}
use Rattle.tally.proofs.TallyLaws.{AnyLeft, Left, mark_at}
use Rattle.tally.proofs.marks_valid.Given as goal

abbrev pub invariant-loop-bucket : goal.invariant-loop-bucket
invariant-loop-bucket l = record {
  left : Left (paper l.s) l.buckets (length l.yielded) l.bucket-iterator;
  valid : AnyLeft (λ b. ltb l.s.room (mark_at (paper l.s) l.buckets b) && not (eqb (mark_at (paper l.s) l.buckets b) 255)) (card l.s).buckets (length l.yielded);
}
