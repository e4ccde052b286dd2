-- `lookup::bursts::search_burst` meets its contract: judged first, then the three passes.
use Rattle.std.proofs.Common.{sym, ℕ, length}
use Rattle.std.proofs.lemmas.Result.{err_from_is_err_and}
use Rattle.hash.specs.Table.{H_by}
use Rattle.settings.specs.Checked.{card, given_of}
use Rattle.lookup.specs.Bursts.{burst_key}
use Rattle.lookup.proofs.BurstLaws.{by_packed, numbered, burst_refused, burst_answered}
use Rattle.lookup.proofs.JudgeLaws.{unrefused_burst}
use Rattle.lookup.proofs.bursts.search_burst.Goals as goal

pub returns-in_err-s : goal.returns-in_err-s
returns-in_err-s c =
    let p = err_from_is_err_and c.from_residual.result c.from_residual.ensures.1 in
    rw (p.1, p.2) (burst_refused c.args.table.now (given_of c.args.given) _ _ _ c.args.keys.now _ _ (sym c.in_err-s.ensures))

pub hash_all-requires : goal.hash_all-requires
hash_all-requires c =
    let right = unrefused_burst c.args.table.now (given_of c.args.given) _ _ _ c.args.keys.now _ c.in_ok-s.s (sym c.in_ok-s.ensures) in
    (right.table_size, right.keys_size)

pub read_all_counters-requires : goal.read_all_counters-requires
read_all_counters-requires c =
    let right = unrefused_burst c.args.table.now (given_of c.args.given) _ _ _ c.args.keys.now _ c.in_ok-s.s (sym c.in_ok-s.ensures) in
    (right.checked.ok, right.checked.clipped_size)

pub answer_all-requires : goal.answer_all-requires
answer_all-requires c =
    let right = unrefused_burst c.args.table.now (given_of c.args.given) _ _ _ c.args.keys.now _ c.in_ok-s.s (sym c.in_ok-s.ensures) in
    let h : ℕ → ℕ = λ j. H_by c.args.table.now (burst_key (card c.in_ok-s.s).width c.args.keys.now j) in
    by_packed right.checked h _ _ _ c.hash_all.ensures c.read_all_counters.ensures _ right.keys_size

pub returns : goal.returns
returns c =
    let right = unrefused_burst c.args.table.now (given_of c.args.given) _ _ _ c.args.keys.now _ c.in_ok-s.s (sym c.in_ok-s.ensures) in
    let h : ℕ → ℕ = λ j. H_by c.args.table.now (burst_key (card c.in_ok-s.s).width c.args.keys.now j) in
    burst_answered _ right _
    (numbered right.checked h (length c.args.answers.now) _ _ c.hash_all.ensures c.read_all_counters.ensures c.args.keys.now _ c.answer_all.ensures)
