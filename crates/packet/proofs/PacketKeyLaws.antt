-- A key written part by part: each part goes behind what is written already. Addresses of w bytes, four bytes of ports, one of the protocol.
use mathlib.Core.Path.{◌≡◌, sym, ap, ◌∙◌}
use mathlib.Core.List.{List, [], ◌∷◌, ◌++◌, append_assoc}
use Prim.Native.Nat.{ℕ, suc, ◌+◌, ◌-◌, ◌*◌, ◌≤◌}
use native.Mathlib.Omega.{arith}
use lib.ListN.{length, drop, set, get_or, length-append, length-drop, drop_of_length-le}
use lib.Seq.{take_at, drop_at, drop-cons, set_at}
use Rattle.memory.proofs.SliceLaws.{back}

-- the part behind what is done is back as ys
next_part : (a k : ℕ) (done rest ys : List ℕ) → length done ≡ a → back a k (done ++ rest) ys ≡ (done ++ ys) ++ drop k rest
next_part a k done rest ys long = rw (take_at done rest a long, drop_at done rest a long) (sym (append_assoc done ys (drop k rest)))

-- the last place of a list of n + 1
last_place : (n : ℕ) (l : List ℕ) → length l ≡ n + 1 → drop n l ≡ get_or l n 0 ∷ []
last_place n l long = rw (drop-cons l n 0 (omega arith), drop_of_length-le l none)
  where
    none : length l ≤ suc n
    none = omega arith

-- the parts of a key, and the place for it
pub record KeyParts (w : ℕ) (key source destination ports : List ℕ) : Type 0 where
  pub room : length key ≡ w + w + 5
  pub source_long : length source ≡ w
  pub destination_long : length destination ≡ w
  pub ports_long : length ports ≡ 4

pub key_written : {w : ℕ} {key source destination ports : List ℕ} → KeyParts w key source destination ports → (x : ℕ)
    → set (back (2 * w) (2 * w + 4 - 2 * w) (back w (2 * w - w) (source ++ drop w key) destination) ports) (2 * w + 4) x
    ≡ source ++ destination ++ ports ++ (x ∷ [])
key_written {w} {key} {source} {destination} {ports} p x =
    let both_long : length (source ++ destination) ≡ 2 * w = rw length-append (omega arith) in
    let all_long : length ((source ++ destination) ++ ports) ≡ 2 * w + 4 = rw (length-append, both_long) (omega arith) in
    let left : List ℕ = drop (2 * w - w) (drop w key) in
    let four : 2 * w + 4 - 2 * w ≡ 4 = omega arith in
    let one_left : drop (2 * w + 4 - 2 * w) left ≡ get_or left 4 0 ∷ [] =
    ap (λ (n : ℕ). drop n left) four ∙ last_place 4 left (simp length-drop (omega arith)) in
    rw (next_part w (2 * w - w) source (drop w key) destination p.source_long)
    (rw (next_part (2 * w) (2 * w + 4 - 2 * w) (source ++ destination) left ports both_long)
    (ap (λ (end : List ℕ). set (((source ++ destination) ++ ports) ++ end) (2 * w + 4) x) one_left
    ∙ set_at ((source ++ destination) ++ ports) (get_or left 4 0) [] x (2 * w + 4) all_long ∙ simp append_assoc))

-- what is written is what each part should be
pub parts_are : {source destination ports a b p : List ℕ} {x y : ℕ} → source ≡ a → destination ≡ b → ports ≡ p → x ≡ y
    → source ++ destination ++ ports ++ (x ∷ []) ≡ a ++ b ++ p ++ (y ∷ [])
parts_are source_is destination_is ports-is x-is = rw (source_is, destination_is, ports-is, x-is)
