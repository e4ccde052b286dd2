-- Laws of a search with a lent table: what it answers by its judgement, and that with the right table it is the search call.
use mathlib.Core.Path.{◌≡◌, refl, sym, ap, ◌∙◌}
use mathlib.Core.List.{List}
use Prim.Native.Nat.{ℕ, ◌≤◌, ◌<◌}
use mathlib.Core.Bool.{true}
use native.Mathlib.Omega.{arith}
use lib.Dec.{eqb}
use lib.ListN.{length, get_or}
use Rattle.theory.specs.Lists.{all, has}
use Rattle.theory.specs.Settings as plain
use Rattle.theory.specs.Settings.{card_of}
use Rattle.theory.specs.Lookup.{bare, search_areas, driver_number}
use Rattle.theory.specs.Calls.{lookup_lengths}
use Rattle.theory.proofs.ListLaws.{by_test}
use Rattle.theory.proofs.LookupLaws.{search_few}
use Rattle.hash.specs.Table.{table_lengths, TableFor, H_by}
use Rattle.hash.proofs.KeyHashLaws.{by_right}
use Rattle.std.specs.Prelude.{Result, Ok, Err}
use Rattle.memory.specs.declared.refusals.Refusal.{Refusal}
use Rattle.memory.specs.Refusals.{number_of}
use Rattle.settings.specs.declared.Settings.{Settings}
use Rattle.settings.specs.Checked.{paper}
use Rattle.lookup.specs.Choosing.{card_at}
use Rattle.lookup.specs.Answers.{lookup_areas, search_of, judged_of, judged_with_table, search_with}
use Rattle.lookup.proofs.JudgeLaws.{Searched, search_refused, search_answered, search_number, lent_judged, lent_unrefused}

module _ (table : List ℕ) (t : plain.Settings) (clipped buckets side key : List ℕ) where
  pub with_refused : (e : Refusal) → judged_with_table table t clipped buckets side key ≡ Err e → bare (number_of e) ≡ search_with table t clipped buckets side key
  unfolding search_with
  with_refused x e = rw e

  -- under settings that are t
  pub with_ready : (c : Settings) → judged_with_table table t clipped buckets side key ≡ Ok c → (u : plain.Settings) → u ≡ t
      → (h : ℕ) → h ≡ H_by table key → search_areas (card_at u h) clipped buckets side key ≡ search_with table t clipped buckets side key
  unfolding search_with
  with_ready c e u same h is = rw (e, same, is)

  -- its number is at most 100
  pub with_few : (search_with table t clipped buckets side key).number ≤ 100
  unfolding search_with judged_with_table judged_of
  with_few =
      by_test (plain.allowed t)
      (λ a. rw a (by_test (has (length table) (table_lengths (card_of t).width))
      (λ l. rw l (by_test (all (λ x. x) (lookup_lengths (card_of t) (lookup_areas clipped buckets side)))
      (λ r. rw r (by_test (eqb (length key) (card_of t).width)
      (λ w. rw w (search_few (card_at t (H_by table key)) clipped buckets side key)) (λ w. rw w (omega arith))))
      (λ r. rw r (omega arith))))
      (λ l. rw l (omega arith))))
      (λ a. rw a (omega arith))

  -- ---- with a right table of its length it is `perform`'s search, and its number the search door's
  module _ (long : has (length table) (table_lengths (card_of t).width) ≡ true) (right : TableFor (card_of t).width table)
      (bytes : (i : ℕ) → get_or key i 0 < 256) where
    performs : (x : Result Settings Refusal) → judged_with_table table t clipped buckets side key ≡ x
        → Searched t clipped buckets side key (search_with table t clipped buckets side key)
    performs (Err n) e =
        search_refused t clipped buckets side key n (sym (lent_judged table t clipped buckets side key long) ∙ e) _ (sym (with_refused n e))
    performs (Ok c) e =
        let u = (lent_unrefused table t clipped buckets side key c e).1 in
        let wide : length key ≡ (card_of t).width = u.wide ∙ ap (λ (v : plain.Settings). (card_of v).width) u.same in
        search_answered u (H_by table key) (by_right (card_of t).width table right long key wide bytes) _
        (sym (with_ready c e (paper c) u.same (H_by table key) refl))

    pub with_performs : Searched t clipped buckets side key (search_with table t clipped buckets side key)
    with_performs = performs _ refl

    pub with_number : driver_number (search_with table t clipped buckets side key) ≡ search_of t clipped buckets side key
    with_number = search_number t clipped buckets side key _ with_performs
