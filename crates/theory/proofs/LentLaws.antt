-- Laws of what a call is lent: contracts speak of those areas alone, `run` of all five.
use mathlib.Core.Path.{◌≡◌, refl, sym, ap, ◌∙◌}
use mathlib.Core.Bool.{true}
use mathlib.Core.List.{List, ◌∷◌}
use Prim.Native.Nat.{ℕ}
use lib.Dec.{eqb}
use lib.ListN.{length}
use Rattle.theory.specs.Lists.{all}
use Rattle.theory.specs.Settings.{Settings, allowed, card_of, ledger_length}
use Rattle.theory.specs.Layout.{Areas}
use Rattle.theory.specs.Ledger.{Call, clear, add, change, remove, search, fetch, tally, Reply, Step}
use Rattle.theory.specs.Calls.{lookup_invalid, tally_areas, call, lookup_lengths, lent_lengths, lent_areas, lent_work, only_reads, perform}
use Rattle.theory.specs.Demands.{AsLent}
use Rattle.theory.proofs.ListLaws.{by_test}
use Rattle.theory.proofs.Demands.{search_reply, fetch_reply, reads_keep}

module _ (t : Settings) (w : ℕ) (a : Areas) where
  -- clear takes no work area
  pub clear_lent : perform t w clear a ≡ perform t 0 clear a
  unfolding perform lent_lengths
  clear_lent = refl

  -- what comes back of the calls that only read
  pub search_lent : (k : List ℕ) → (perform t w (search k) a).reply ≡ (perform t 0 (search k) (lent_areas (search k) a)).reply
  unfolding lookup_lengths
  search_lent k = search_reply t w k a ∙ sym (search_reply t 0 k (lent_areas (search k) a))

  pub fetch_lent : (k : List ℕ) → (perform t w (fetch k) a).reply ≡ (perform t 0 (fetch k) (lent_areas (fetch k) a)).reply
  unfolding lookup_lengths
  fetch_lent k = fetch_reply t w k a ∙ sym (fetch_reply t 0 k (lent_areas (fetch k) a))

  pub tally_lent : (perform t w tally a).reply ≡ (perform t 0 tally (lent_areas tally a)).reply
  unfolding perform call lent_lengths lookup_lengths tally_areas lookup_invalid
  tally_lent =
      by_test (allowed t)
      (λ e. rw e (by_test (all (λ x. x) (eqb (length a.ledger) (ledger_length (card_of t)) ∷ lookup_lengths (card_of t) a)) (λ f. rw f) (λ f. rw f)))
      (λ e. rw e)

  reply_lent : (c : Call) → (perform t w c a).reply ≡ (perform t (lent_work c w) c (lent_areas c a)).reply
  reply_lent clear = rw clear_lent
  reply_lent (add k x) = refl
  reply_lent (change k x) = refl
  reply_lent (remove k) = refl
  reply_lent (search k) = search_lent k
  reply_lent (fetch k) = fetch_lent k
  reply_lent tally = tally_lent

  reading_lent : (c : Call) → only_reads c ≡ true → lent_areas c (perform t w c a).state ≡ (perform t (lent_work c w) c (lent_areas c a)).state
  reading_lent c e = ap (lent_areas c) (reads_keep t w c a e) ∙ sym (reads_keep t (lent_work c w) c (lent_areas c a) e)

  state_lent : (c : Call) → lent_areas c (perform t w c a).state ≡ (perform t (lent_work c w) c (lent_areas c a)).state
  state_lent clear = rw clear_lent
  state_lent (add k x) = refl
  state_lent (change k x) = refl
  state_lent (remove k) = refl
  state_lent (search k) = reading_lent (search k) refl
  state_lent (fetch k) = reading_lent (fetch k) refl
  state_lent tally = reading_lent tally refl

  -- a call that only reads: what its contract says of the areas lent, `perform` says of all
  pub read_on_all : (c : Call) → only_reads c ≡ true → (r : Reply) → record { reply = r; state = lent_areas c a } ≡ perform t (lent_work c w) c (lent_areas c a)
      → record { reply = r; state = a } ≡ perform t w c a
  read_on_all c e r f =
      step_is (perform t w c a) r a (reply_lent c ∙ sym (ap (λ (s : Step Areas). s.reply) f)) (reads_keep t w c a e)
    where
      step_is : (s : Step Areas) (r : Reply) (b : Areas) → s.reply ≡ r → s.state ≡ b → record { reply = r; state = b } ≡ s
      step_is s r b e f = rw (← e, ← f)

pub as_lent : AsLent
as_lent t w c a = (reply_lent t w a c, state_lent t w a c)
