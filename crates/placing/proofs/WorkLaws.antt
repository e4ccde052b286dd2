-- What the kept choices of a placed list tell, since the counts, as functions of every bucket, are those of the list.
use mathlib.Core.Path.{◌≡◌, refl, ap, ◌∙◌}
use mathlib.Core.Bool.{Bool}
use mathlib.Core.List.{List, [], ◌∷◌}
use Prim.Native.Nat.{ℕ, zero, suc, ◌<◌, ◌≤◌, zero-le}
use native.Mathlib.Nat.{le_refl}
use native.Mathlib.Omega.{arith}
use borrow.Author.Tests.{eq-eqb, ne_eqb}
use lib.ListN.{length}
use Rattle.std.proofs.Common.{Option}
use Rattle.std.specs.Option.{IfSome, unwrap_or}
use Rattle.theory.specs.Lists.{filter}
use Rattle.theory.specs.Records.{Record}
use Rattle.theory.specs.Settings.{Card}
use Rattle.theory.specs.Placing.{true_count, all_top, chosen, choosers, crowded, belongs_to_side, side_records, side_need}
use Rattle.theory.specs.Ledger.{side_need_of}
use Rattle.theory.proofs.ListLaws.{by_test}
use Rattle.theory.proofs.SettingsLaws.{Sound}
use Rattle.theory.proofs.PlacingLaws.{chosen_below}
use Rattle.placing.specs.declared.Placement.{Placement}
use Rattle.placing.specs.Worked.{nth, belongs_by, choice_of, choice_by, choices_by, ChoseParts, Placed, side_by_choice}

-- ---- a key's choice as one number
module _ (s : Card) (sound : Sound s) (c : ℕ → ℕ) where
  pub choice_within : (k : List ℕ) → choice_by s c k ≤ s.buckets
  unfolding choice_by
  choice_within k = by_test (all_top s c k) (λ e. rw e (le_refl s.buckets)) (λ e. rw e (omega (arith, chosen_below s sound c k e)))

  -- kept as one number, with x for none
  pub kept_within : (k : List ℕ) (choice : Option ℕ) (v x : ℕ) → choice ≡ choice_of s c k → v ≡ unwrap_or choice x → x ≤ s.buckets → v ≤ s.buckets
  unfolding choice_of
  kept_within k choice v x e f le =
      rw (f, e) (by_test (all_top s c k) (λ q. rw q le) (λ q. rw q (omega (arith, chosen_below s sound c k q))))

  -- one that is a bucket is one of the buckets
  pub choice_below : (k : List ℕ) (choice : Option ℕ) → choice ≡ choice_of s c k → IfSome choice (λ b. b < s.buckets)
  unfolding choice_of
  choice_below k choice e = rw e (by_test (all_top s c k) (λ q. rw q tt) (λ q. rw q (chosen_below s sound c k q)))

  -- it tells who belongs to the side
  pub side_choice : (d : ℕ → ℕ) (k : List ℕ) → side_by_choice s d (choice_by s c k) ≡ belongs_by s c d k
  unfolding choice_by belongs_by
  side_choice d k =
      by_test (all_top s c k) (λ e. rw (e, eq-eqb s.buckets s.buckets refl))
      (λ e. let lt = chosen_below s sound c k e in rw (e, ne_eqb (chosen s c k) s.buckets (omega arith)))

  choices_within : (l : List Record) (i : ℕ) → nth (choices_by s c l) i ≤ s.buckets
  choices_within [] i = zero-le
  choices_within (r ∷ rs) zero = choice_within r.key
  choices_within (r ∷ rs) (suc i) = choices_within rs i

  side_choices : (d : ℕ → ℕ) (l : List Record)
      → length (filter (side_by_choice s d) (choices_by s c l)) ≡ length (filter (λ r. belongs_by s c d r.key) l)
  side_choices d [] = refl
  side_choices d (r ∷ rs) =
      rw (side_choice d r.key) (by_test (belongs_by s c d r.key) (λ e. rw (e, side_choices d rs)) (λ e. rw (e, side_choices d rs)))

-- ---- a list whose counts and choosers are these is placed
pub placed : (s : Card) (l : List Record) (p : Placement) → length p.counts.now ≡ s.buckets → length p.choosers.now ≡ s.buckets
    → ((b : ℕ) → nth p.counts.now b ≡ true_count s l b) → ChoseParts s p.counts.now l p.choosers.now p.choices.now → Placed s l p
placed s l p counts_length choosers_length counts chose =
    let q : nth p.counts.now ≡ true_count s l = λ i b. counts b i in
    record {
      counts_length = counts_length;
      choosers_length = choosers_length;
      counts = counts;
      choosers = λ b. chose.choosers b ∙ ap (λ (c : ℕ → ℕ). length (choosers s c l b)) q;
      choices = chose.kept ∙ ap (λ (c : ℕ → ℕ). choices_by s c l) q;
    }

module _ {s : Card} {l : List Record} {p : Placement} (g : Placed s l p) where
  pub counts_are : nth p.counts.now ≡ true_count s l
  counts_are i b = g.counts b i

  pub choosers_are : nth p.choosers.now ≡ (λ (b : ℕ). length (choosers s (true_count s l) l b))
  choosers_are i b = g.choosers b i

  -- who belongs to the side by the placement does so by the list
  pub belongs_is : (k : List ℕ) → belongs_by s (nth p.counts.now) (nth p.choosers.now) k ≡ belongs_to_side s (true_count s l) l k
  unfolding belongs_by belongs_to_side crowded
  belongs_is k =
      ap (λ (c : ℕ → ℕ). belongs_by s c (nth p.choosers.now) k) counts_are ∙ ap (λ (d : ℕ → ℕ). belongs_by s (true_count s l) d k) choosers_are

  pub need_is : length (filter (λ r. belongs_by s (nth p.counts.now) (nth p.choosers.now) r.key) l) ≡ side_need_of s l
  unfolding side_need_of side_need side_records
  need_is = ap (λ (t : List ℕ → Bool). length (filter (λ (r : Record). t r.key) l)) (λ i k. belongs_is k i)

  module _ (sound : Sound s) where
    pub placed_within : (i : ℕ) → nth p.choices.now i ≤ s.buckets
    placed_within i = rw g.choices (choices_within s sound (true_count s l) l i)

    pub need_kept : length (filter (side_by_choice s (nth p.choosers.now)) p.choices.now) ≡ side_need_of s l
    need_kept =
        rw (g.choices, side_choices s sound (true_count s l) (nth p.choosers.now) l, ← counts_are) need_is
