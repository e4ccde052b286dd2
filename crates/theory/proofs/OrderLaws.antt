-- Laws of the order of keys, and of a rising list that gains, changes or loses a record.
use mathlib.Core.Path.{◌≡◌, refl, sym, ap, ◌∙◌}
use mathlib.Core.Logic.{◌≢◌}
use mathlib.Core.Bool.{Bool, true, false, cond, ◌&&◌, ◌||◌, true≢false, false≢true}
use mathlib.Core.List.{List, [], ◌∷◌, map}
use mathlib.Core.Option.{none, some}
use Prim.Native.Nat.{ℕ, suc}
use native.Mathlib.Nat.{le_refl}
use native.Mathlib.Omega.{arith}
use lib.Dec.{eqb, ltb}
use borrow.Author.Tests.{ltb-true, ltb-false, lt-ltb, le-ltb, eqb-true, eqb-false, eq-eqb}
use lib.ListN.{length}
use Rattle.theory.specs.Lists.{filter}
use Rattle.theory.specs.Records.{Record, same_key, key_below, below_first, rising, find}
use Rattle.theory.specs.Ledger.{held, insert}
use Rattle.theory.proofs.ListLaws.{by_test, and_left, and_right, and_both, or_left, or_right, All, filter_all}
use Rattle.theory.proofs.PlacingLaws.{same_key_eq}

-- ---- keys
pub key_below_trans : (a b c : List ℕ) → key_below a b ≡ true → key_below b c ≡ true → key_below a c ≡ true
key_below_trans [] [] c p q = absurd (false≢true p)
key_below_trans [] (y ∷ ys) [] p q = absurd (false≢true q)
key_below_trans [] (y ∷ ys) (z ∷ zs) p q = refl
key_below_trans (x ∷ xs) [] c p q = absurd (false≢true p)
key_below_trans (x ∷ xs) (y ∷ ys) [] p q = absurd (false≢true q)
key_below_trans (x ∷ xs) (y ∷ ys) (z ∷ zs) p q =
    go (ltb x y) refl (eqb x y) refl (ltb y z) refl (eqb y z) refl p q (λ f g. key_below_trans xs ys zs f g)
  where
    go : (t : Bool) → ltb x y ≡ t → (u : Bool) → eqb x y ≡ u → (v : Bool) → ltb y z ≡ v → (w : Bool) → eqb y z ≡ w
        → (t || (u && key_below xs ys)) ≡ true → (v || (w && key_below ys zs)) ≡ true
        → (key_below xs ys ≡ true → key_below ys zs ≡ true → key_below xs zs ≡ true) → (ltb x z || (eqb x z && key_below xs zs)) ≡ true
    go true t u _ true v w _ f g r = rw (lt-ltb x z (omega (arith, ltb-true x y t, ltb-true y z v)))
    go true t u _ false v true w f g r = rw (lt-ltb x z (omega (arith, ltb-true x y t, eqb-true y z w)))
    go true t u _ false v false w f g r = absurd (false≢true g)
    go false t true u true v w _ f g r = rw (lt-ltb x z (omega (arith, eqb-true x y u, ltb-true y z v)))
    go false t true u false v true w f g r =
        rw (le-ltb x z (omega (arith, eqb-true x y u, eqb-true y z w)), eq-eqb x z (eqb-true x y u ∙ eqb-true y z w)) (r f g)
    go false t true u false v false w f g r = absurd (false≢true g)
    go false t false u v _ w _ f g r = absurd (false≢true f)

pub key_below_total : (a b : List ℕ) → key_below a b ≡ false → same_key a b ≡ false → key_below b a ≡ true
key_below_total [] [] p q = absurd (true≢false q)
key_below_total [] (y ∷ ys) p q = absurd (true≢false p)
key_below_total (x ∷ xs) [] p q = refl
key_below_total (x ∷ xs) (y ∷ ys) p q = go (ltb x y) refl (eqb x y) refl p q (λ f g. key_below_total xs ys f g)
  where
    go : (t : Bool) → ltb x y ≡ t → (u : Bool) → eqb x y ≡ u → (t || (u && key_below xs ys)) ≡ false → (u && same_key xs ys) ≡ false
        → (key_below xs ys ≡ false → same_key xs ys ≡ false → key_below ys xs ≡ true) → (ltb y x || (eqb y x && key_below ys xs)) ≡ true
    go true t u _ f g r = absurd (true≢false f)
    go false t true u f g r = rw (le-ltb y x (omega (arith, eqb-true x y u)), eq-eqb y x (sym (eqb-true x y u))) (r f g)
    go false t false u f g r = let n : x ≢ y = eqb-false x y u in rw (lt-ltb y x (omega (arith, ltb-false x y t)))

-- ---- a record more
insert_before : (k : List ℕ) (r : Record) (l : List Record) → below_first k l ≡ true → key_below k r.key ≡ true → below_first k (insert r l) ≡ true
insert_before k r [] p q = q
insert_before k r (x ∷ xs) p q = by_test (key_below r.key x.key) (λ e. rw e q) (λ e. rw e p)

pub rising_insert : (r : Record) (l : List Record) → held r.key l ≡ false → rising l ≡ true → rising (insert r l) ≡ true
unfolding held
rising_insert r [] n h = refl
rising_insert r (x ∷ xs) n h =
    by_test (key_below r.key x.key) (λ e. rw (e, e) h)
    (λ e. rw e (and_both _ _
    (insert_before x.key r xs (and_left _ _ h) (key_below_total r.key x.key e (or_left _ _ n)))
    (rising_insert r xs (or_right (same_key r.key x.key) _ n) (and_right (below_first x.key xs) _ h))))

pub length_insert : (r : Record) (l : List Record) → length (insert r l) ≡ suc (length l)
length_insert r [] = refl
length_insert r (x ∷ xs) = by_test (key_below r.key x.key) (λ e. rw e) (λ e. rw e (ap suc (length_insert r xs)))

pub insert_all : (P : Record → Type 0) (r : Record) (l : List Record) → P r → All P l → All P (insert r l)
insert_all P r [] p h = (p, tt)
insert_all P r (x ∷ xs) p h = by_test (key_below r.key x.key) (λ e. rw e (p, h)) (λ e. rw e (h.0, insert_all P r xs p h.1))

-- ---- a record less
pub below_first_far : (k : List ℕ) (l : List Record) → below_first k l ≡ true → rising l ≡ true → All (λ r. key_below k r.key ≡ true) l
below_first_far k [] p h = tt
below_first_far k (x ∷ xs) p h =
    (p, below_first_far k xs (go xs (and_left _ _ h)) (and_right (below_first x.key xs) _ h))
  where
    go : (l : List Record) → below_first x.key l ≡ true → below_first k l ≡ true
    go [] q = refl
    go (y ∷ ys) q = key_below_trans k x.key y.key p q

below_first_near : (k : List ℕ) (l : List Record) → All (λ r. key_below k r.key ≡ true) l → below_first k l ≡ true
below_first_near k [] h = refl
below_first_near k (x ∷ xs) h = h.0

pub rising_filter : (p : Record → Bool) (l : List Record) → rising l ≡ true → rising (filter p l) ≡ true
rising_filter p [] h = refl
rising_filter p (x ∷ xs) h =
    by_test (p x)
    (λ e. rw e (and_both _ _
    (below_first_near x.key (filter p xs)
    (filter_all (λ r. key_below x.key r.key ≡ true) p xs (below_first_far x.key xs (and_left _ _ h) (and_right (below_first x.key xs) _ h))))
    (rising_filter p xs (and_right (below_first x.key xs) _ h))))
    (λ e. rw e (rising_filter p xs (and_right (below_first x.key xs) _ h)))

-- ---- a record changed
pub replace_key : (r x : Record) → (cond (same_key r.key x.key) r x).key ≡ x.key
replace_key r x = by_test (same_key r.key x.key) (λ e. rw e (same_key_eq r.key x.key e)) (λ e. rw e)

pub rising_map : (f : Record → Record) → ((x : Record) → (f x).key ≡ x.key) → (l : List Record) → rising (map f l) ≡ rising l
rising_map f q [] = refl
rising_map f q (x ∷ xs) = rw (q x, rising_map f q xs, go xs)
  where
    go : (l : List Record) → below_first x.key (map f l) ≡ below_first x.key l
    go [] = refl
    go (y ∷ ys) = rw (q y)

-- ---- a rising list is what it answers for every key
same_key_self : (k : List ℕ) → same_key k k ≡ true
same_key_self [] = refl
same_key_self (x ∷ xs) = rw (eq-eqb x x refl, same_key_self xs)

key_below_self : (k : List ℕ) → key_below k k ≡ false
key_below_self [] = refl
key_below_self (x ∷ xs) = rw (le-ltb x x (le_refl x), eq-eqb x x refl, key_below_self xs)

-- the record of a key stands above whatever all records stand above; a key below all records has none
find_above : (b k : List ℕ) (r : Record) (l : List Record) → All (λ x. key_below b x.key ≡ true) l → find k l ≡ some r → key_below b k ≡ true
find_above b k r [] a e = let z : ◌≡◌ {A = ℕ} 0 1 = cc in absurd (omega arith)
find_above b k r (x ∷ xs) a e =
    by_test (same_key k x.key) (λ q. rw (same_key_eq k x.key q) a.0) (λ q. find_above b k r xs a.1 (rw q at e))

find_below : (k : List ℕ) (l : List Record) → All (λ x. key_below k x.key ≡ true) l → find k l ≡ none
find_below k [] a = refl
find_below k (x ∷ xs) a =
    by_test (same_key k x.key)
    (λ q. absurd (true≢false (sym a.0 ∙ ap (λ (y : List ℕ). key_below k y) (sym (same_key_eq k x.key q)) ∙ key_below_self k)))
    (λ q. rw q (find_below k xs a.1))

module _ (x : Record) (xs : List Record) (up : rising (x ∷ xs) ≡ true) where
  above_first : All (λ r. key_below x.key r.key ≡ true) xs
  above_first = below_first_far x.key xs (and_left _ _ up) (and_right (below_first x.key xs) _ up)

  -- a key that is found, and is not the first record's, stands above it
  find_after : (k : List ℕ) (r : Record) → same_key k x.key ≡ false → find k (x ∷ xs) ≡ some r → key_below x.key k ≡ true
  find_after k r q e = find_above x.key k r xs above_first (rw q at e)

pub rising_answers : (l m : List Record) → rising l ≡ true → rising m ≡ true → ((k : List ℕ) → find k l ≡ find k m) → l ≡ m
rising_answers [] [] p q f = refl
rising_answers [] (y ∷ ys) p q f =
    let e = rw (same_key_self y.key) at (f y.key) in let z : ◌≡◌ {A = ℕ} 0 1 = cc in absurd (omega arith)
rising_answers (x ∷ xs) [] p q f =
    let e = rw (same_key_self x.key) at (f x.key) in let z : ◌≡◌ {A = ℕ} 0 1 = cc in absurd (omega arith)
rising_answers (x ∷ xs) (y ∷ ys) p q f = rw
    (first, rising_answers xs ys (and_right (below_first x.key xs) _ p) (and_right (below_first y.key ys) _ q) rest)
  where
    here : (z : Record) (zs : List Record) → find z.key (z ∷ zs) ≡ some z
    here z zs = rw (same_key_self z.key)

    first : x ≡ y
    first =
        by_test (same_key x.key y.key)
        (λ e. let h : some x ≡ some y = sym (here x xs) ∙ f x.key ∙ rw e in cc)
        (λ e. let up : key_below y.key x.key ≡ true = find_after y ys q x.key x e (sym (f x.key) ∙ here x xs) in
        by_test (same_key y.key x.key)
        (λ d. absurd (true≢false (sym up ∙ ap (λ (k : List ℕ). key_below k x.key) (same_key_eq y.key x.key d) ∙ key_below_self x.key)))
        (λ d. let down : key_below x.key y.key ≡ true = find_after x xs p y.key y d (f y.key ∙ here y ys) in
        absurd (true≢false (sym (key_below_trans x.key y.key x.key down up) ∙ key_below_self x.key))))

    rest : (k : List ℕ) → find k xs ≡ find k ys
    rest k =
        by_test (same_key k x.key)
        (λ e. let kx : k ≡ x.key = same_key_eq k x.key e in
        rw (kx, find_below x.key xs (above_first x xs p), first, find_below y.key ys (above_first y ys q)))
        (λ e. let e' : same_key k y.key ≡ false = rw (← first) e in
        let g = f k in rw (e, e') at g)
