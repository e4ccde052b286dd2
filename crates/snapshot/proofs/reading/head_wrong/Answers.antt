-- too short for a count, by the first count, or by its length
use mathlib.Core.Bool.{not}
use Rattle.std.proofs.Common.{sym, ap}
use Rattle.snapshot.proofs.FileLaws.{head_cut, head_unknown, head_by_length}
use Rattle.snapshot.proofs.reading.head_wrong.Goals as goal

pub returns-then-file-lt2 : goal.returns-then-file-lt2
returns-then-file-lt2 c = sym (head_cut c.args.file.now c.if-file-lt2.true)

pub returns-then-not-first : goal.returns-then-not-first
returns-then-not-first c = sym (head_unknown c.args.file.now c.count_at-first.ensures.0 (ap not c.if-not-first.true))

pub returns : goal.returns
returns c = sym (head_by_length c.args.file.now c.count_at-first.ensures.0 (ap not c.if-not-first.false) c.head_size.ensures)
