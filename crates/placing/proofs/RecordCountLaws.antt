-- What the loops over the records of an area ask: the next record and its key, and what is counted of the records, with one record more.
-- By the last record of a list that grows at its end.
use mathlib.Core.Path.{◌≡◌, refl, sym, ap, ◌∙◌}
use mathlib.Core.Bool.{Bool, true, false, cond}
use mathlib.Core.List.{List, [], ◌∷◌, ◌++◌, map-append}
use Prim.Native.Nat.{ℕ, ◌+◌, ◌*◌, ◌<◌, ◌≤◌}
use native.Mathlib.Nat.{add-zero}
use native.Mathlib.Numerals.{add-one}
use native.Mathlib.Omega.{arith}
use lib.ListN.{length, take, drop, set, replicate}
use lib.Seq.{take-suc-set, take_all}
use Rattle.theory.specs.Lists.{filter, has}
use Rattle.theory.specs.Records.{Record, entries, record_at, records}
use Rattle.theory.specs.Settings.{Card}
use Rattle.theory.specs.Placing.{true_count, all_top, chosen, chooses, choosers}
use Rattle.theory.proofs.ListLaws.{by_test, filter_len}
use Rattle.theory.proofs.GrowingLaws.{count_append, count_end, records_more}
use Rattle.theory.proofs.ByteLaws.{length_records}
use Rattle.memory.proofs.SliceLaws.{zero_at}
use Rattle.std.proofs.Common.{Option, Some, None}
use Rattle.std.specs.Option.{unwrap_or}
use Rattle.placing.specs.Worked.{nth, choice_of, is_choice, choice_by, choices_by, Chose}

-- ---- a slice that was filled with zeros
pub zero : (n : ℕ) {l : List ℕ} → (((y : ℕ) → y ≡ 0 → y ≡ 0) → l ≡ replicate n 0) → (b : ℕ) → nth l b ≡ 0
zero n filled b = rw (filled (λ y e. e)) (zero_at n b)

-- ---- how many records pass a test of their key
module _ (p : List ℕ → Bool) where
  abbrev kept : List Record → ℕ
  kept l = length (filter (λ (r : Record). p r.key) l)

  pub kept_none : (w : ℕ) (a : List ℕ) → kept (records w 0 a) ≡ 0
  unfolding records entries
  kept_none w a = refl

  pub kept_more : (w i : ℕ) (a : List ℕ) → kept (records w (i + 1) a) ≡ kept (records w i a) + cond (p (take w (drop (i * (w + 4)) a))) 1 0
  unfolding record_at
  kept_more w i a = rw (records_more w i a, count_end (λ (r : Record). p r.key) (records w i a) (record_at w (drop (i * (w + 4)) a)))

  pub kept_bound : (w n : ℕ) (a : List ℕ) → kept (records w n a) ≤ n
  kept_bound w n a = omega (arith, filter_len (λ (r : Record). p r.key) (records w n a), length_records w n a)

  pub kept_append : (l m : List Record) → kept (l ++ m) ≡ kept l + kept m
  kept_append l m = count_append (λ (r : Record). p r.key) l m

-- ---- a key's choice, and which bucket it is
module _ (s : Card) (c : ℕ → ℕ) (k : List ℕ) where
  pub none_chosen : all_top s c k ≡ true → None ≡ choice_of s c k
  unfolding choice_of
  none_chosen e = rw e

  pub some_chosen : (x : ℕ) → all_top s c k ≡ false → x ≡ chosen s c k → Some x ≡ choice_of s c k
  unfolding choice_of
  some_chosen x e f = rw (e, f)

  chooses_is : (b : ℕ) → is_choice b (choice_of s c k) ≡ chooses s c b k
  unfolding choice_of chooses
  chooses_is b = by_test (all_top s c k) (λ e. rw e) (λ e. rw e)

  pub choice_number : unwrap_or (choice_of s c k) s.buckets ≡ choice_by s c k
  unfolding choice_of choice_by
  choice_number = by_test (all_top s c k) (λ e. rw e) (λ e. rw e)

-- ---- true counts
module _ (s : Card) where
  pub count_none : (w : ℕ) (a : List ℕ) (b : ℕ) → true_count s (records w 0 a) b ≡ 0
  unfolding true_count
  count_none w a b = kept_none (λ k. has b (s.numbers k)) w a

  pub count_bound : (w n : ℕ) (a : List ℕ) (b : ℕ) → true_count s (records w n a) b ≤ n
  unfolding true_count
  count_bound w n a b = kept_bound (λ k. has b (s.numbers k)) w n a

  pub true_count_append : (l m : List Record) (b : ℕ) → true_count s (l ++ m) b ≡ true_count s l b + true_count s m b
  unfolding true_count
  true_count_append l m b = kept_append (λ k. has b (s.numbers k)) l m

  -- the counts after i records
  pub record Counted (old part : List ℕ) (i : ℕ) (counts : List ℕ) : Type 0 where
    pub same : length counts ≡ length old
    pub each : (b : ℕ) → nth counts b ≡ nth old b + true_count s (records s.width i part) b

  module _ (old part : List ℕ) where
    pub counted_none : Counted old part 0 old
    counted_none = record { same = refl; each = λ b. sym (rw (count_none s.width part b) (add-zero _)) }

    -- one record counted
    pub counted_more : (i : ℕ) (counts new : List ℕ) → Counted old part i counts → length new ≡ length counts
        → ((b : ℕ) → nth new b ≡ nth counts b + cond (has b (s.numbers (take s.width (drop (i * (s.width + 4)) part)))) 1 0)
        → Counted old part (i + 1) new
    unfolding true_count
    counted_more i counts new f long g =
        record {
          same = long ∙ f.same;
          each = λ b. rw (kept_more (λ k. has b (s.numbers k)) s.width i part) (omega (arith, f.each b, g b));
        }

    -- the counts have room for as many as there are records
    pub counted_few : (i n : ℕ) (counts : List ℕ) → Counted old part i counts → i ≤ n → ((b : ℕ) → nth old b + n ≤ 60000) → (b : ℕ) → nth counts b ≤ 60000
    counted_few i n counts f le few b = omega (arith, f.each b, few b, count_bound s.width i part b)

  -- ---- choosers, by counts c
  module _ (c : ℕ → ℕ) where
    pub choosers_bound : (w n : ℕ) (a : List ℕ) (b : ℕ) → length (choosers s c (records w n a) b) ≤ n
    unfolding choosers
    choosers_bound w n a b = kept_bound (chooses s c b) w n a

    pub choosers_append : (l m : List Record) (b : ℕ) → length (choosers s c (l ++ m) b) ≡ length (choosers s c l b) + length (choosers s c m b)
    unfolding choosers
    choosers_append l m b = kept_append (chooses s c b) l m

    choices_more : (w i : ℕ) (a : List ℕ)
        → choices_by s c (records w (i + 1) a) ≡ choices_by s c (records w i a) ++ (choice_by s c (take w (drop (i * (w + 4)) a)) ∷ [])
    unfolding record_at
    choices_more w i a = rw (records_more w i a, map-append)

  module _ (counts : List ℕ) where
    abbrev c : ℕ → ℕ
    c = nth counts

    pub chose_none : (w : ℕ) (a old kept : List ℕ) → Chose s counts (records w 0 a) old old (take 0 kept)
    unfolding records entries choosers
    chose_none w a old kept = record { more = λ b. sym (add-zero _); kept = refl }

    pub chose_all : (w i n : ℕ) (a old new kept : List ℕ) → Chose s counts (records w i a) old new (take i kept) → i ≡ n → length kept ≡ n
        → Chose s counts (records w n a) old new kept
    chose_all w i n a old new kept chose e long = rw (e, take_all n kept (omega arith)) at chose

    -- two lists that choose one after the other
    pub chose_append : (l r : List Record) (old mid new ys zs : List ℕ) → Chose s counts l old mid ys → Chose s counts r mid new zs
        → Chose s counts (l ++ r) old new (ys ++ zs)
    chose_append l r old mid new ys zs f g =
        record { more = λ b. omega (arith, f.more b, g.more b, choosers_append c l r b); kept = rw (f.kept, g.kept, map-append) }

    -- the choosers of a list that has chosen
    pub chose_few : (l : List Record) (old new ys : List ℕ) → Chose s counts l old new ys → (b : ℕ) → nth new b ≤ nth old b + length l
    unfolding choosers
    chose_few l old new ys f b = omega (arith, f.more b, filter_len (λ r. chooses s c b r.key) l)

    -- the choosers of the first records of a part, where there is room for as many as it has records
    pub chose_bound : (w i n : ℕ) (a old new ys : List ℕ) → Chose s counts (records w i a) old new ys → i ≤ n → ((b : ℕ) → nth old b + n ≤ 60000)
        → (b : ℕ) → nth new b ≤ 60000
    chose_bound w i n a old new ys f le few b = omega (arith, f.more b, few b, choosers_bound c w i a b)

    -- one record's choice
    module _ (w i : ℕ) (a old mid kept : List ℕ) (so_far : Chose s counts (records w i a) old mid (take i kept)) (choice : Option ℕ)
        (choice_is : choice ≡ choice_of s c (take w (drop (i * (w + 4)) a))) where
      pub chose_more : (new : List ℕ) → ((b : ℕ) → nth new b ≡ nth mid b + cond (is_choice b choice) 1 0) → (v : ℕ) → v ≡ unwrap_or choice s.buckets
          → i < length kept → Chose s counts (records w (i + 1) a) old new (take (i + 1) (set kept i v))
      unfolding choosers
      chose_more new more v v-is there =
          let key = take w (drop (i * (w + 4)) a) in
          let stored : take (i + 1) (set kept i v) ≡ take i kept ++ (v ∷ []) = rw (add-one i) (take-suc-set kept i v there) in
          let number : v ≡ choice_by s c key = v-is ∙ ap (λ (o : Option ℕ). unwrap_or o s.buckets) choice_is ∙ choice_number s c key in
          record {
            more = λ b. rw (kept_more (chooses s c b) w i a, ← chooses_is s c key b, ← choice_is) (omega (arith, so_far.more b, more b));
            kept = rw (stored, number, choices_more c w i a, so_far.kept);
          }
