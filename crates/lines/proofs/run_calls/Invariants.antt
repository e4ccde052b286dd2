-- After some calls, what `Ran` says.
use Rattle.std.proofs.Common.{◌≡◌, ◌+◌, ◌*◌, ◌≤◌, length}
use Rattle.std.specs.Slice.Iter.{chunks_rest, chunks_size}
use Rattle.std.specs.Iterator.Adapters.{enumerate_source, enumerate_count}
use Rattle.theory.specs.Flowrun.{call_count}
use Rattle.settings.specs.Areas.{contents, SameSlices}
use Rattle.lines.proofs.BlockLaws.{Ran}
use Rattle.lines.proofs.run_calls.Given as goal

abbrev pub invariant-loop-i : goal.invariant-loop-i
invariant-loop-i l =
    let left = chunks_rest (enumerate_source l.i-iterator) in
    record {
      size : chunks_size (enumerate_source l.i-iterator) ≡ 18;
      ran : Ran (length l.initial.work) l.first l.input (contents l.initial.areas) l.initial.text.bytes.now (l.first + enumerate_count l.i-iterator) left (contents l.areas) l.text;
      room : l.text.end + 128 * call_count left ≤ length l.text.bytes.now;
      few : enumerate_count l.i-iterator + length left ≤ length l.input;
      work : length l.work ≡ length l.initial.work;
      slices : SameSlices l.initial.areas l.areas;
      text : l.text.bytes.ghost_name ≡ l.initial.text.bytes.ghost_name;
      long : length l.text.bytes.now ≡ length l.initial.text.bytes.now;
    }
