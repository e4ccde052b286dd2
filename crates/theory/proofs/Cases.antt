-- The cases of document 01, 'Proved about the definitions', as one table: what the definitions compute, and what the paper says. One test over the table, and a
-- lemma that gives each row.
use mathlib.Core.Path.{◌≡◌, refl}
use mathlib.Core.Bool.{Bool, true}
use mathlib.Core.List.{List, [], ◌∷◌, map}
use Prim.Native.Nat.{ℕ}
use lib.ListN.{length, get_or, replicate}
use Rattle.theory.specs.Lists.{all, All, flat, upto, fresh}
use Rattle.theory.specs.Hash.{if_set, rows_of, H_from, H, hash, numbers_of}
use Rattle.theory.specs.Settings.{Settings, ipv4_width, ipv6_width, Card, card_of}
use Rattle.theory.specs.Records.{Record, to_bytes, record_bytes, same_key}
use Rattle.theory.specs.Placing.{true_count, clip, all_top, least_count, chosen, chooses, choosers, crowded, belongs_to_side, side_records, side_need}
use Rattle.theory.specs.Layout.{counter_bytes}
use Rattle.theory.specs.Ledger.{remove, held, without, fill_of, key_wrong, side_need_of, side_short, next, refusal}
use Rattle.theory.specs.Snapshot.{section, first_count, snapshot}
use Rattle.theory.proofs.ListLaws.{all_each, all_map}
use Rattle.theory.proofs.PlacingLaws.{same_key_eq}

-- ---- keys of one byte, by the hashes that the paper gives them
abbrev a : ℕ
a = 0

abbrev b : ℕ
b = 1

abbrev c : ℕ
c = 2

abbrev d : ℕ
d = 3

abbrev w : ℕ
w = 4

-- hashes in the order 5, 1; and two equal hashes
abbrev reversed : ℕ
reversed = 5

abbrev doubled : ℕ
doubled = 6

-- two further keys with a's buckets
abbrev a₂ : ℕ
a₂ = 7

abbrev a₃ : ℕ
a₃ = 8

hashes : List (List ℕ)
hashes =
    (1 ∷ 5 ∷ []) ∷ (1 ∷ 6 ∷ []) ∷ (5 ∷ 8 ∷ []) ∷ (6 ∷ 9 ∷ []) ∷ (1 ∷ 7 ∷ []) ∷ (5 ∷ 1 ∷ []) ∷ (5 ∷ 5 ∷ []) ∷ (1 ∷ 5 ∷ []) ∷ (1 ∷ 5 ∷ []) ∷ []

-- 16 buckets with so much room, top count and side places
card_with : ℕ → ℕ → ℕ → Card
card_with room top side =
    record {
      width = 1;
      buckets = 16;
      room = room;
      top = top;
      capacity = 128;
      side_places = side;
      numbers = λ k. fresh [] (get_or hashes (get_or k 0 0) []);
    }

flows : List ℕ → List Record
flows ks = map (λ k. record { key = k ∷ []; class = 0 }) ks

-- the bucket that key k chooses among keys ks, T 15; the side need of ks
choice : ℕ → List ℕ → ℕ
choice k ks = chosen (card_with 1 15 8) (true_count (card_with 1 15 8) (flows ks)) (k ∷ [])

need : ℕ → ℕ → List ℕ → ℕ
need room top ks = side_need_of (card_with room top 8) (flows ks)

zero_key : List ℕ
zero_key = replicate ipv4_width 0

-- the zero key of 37 bytes (document 02, U7)
zero_key6 : List ℕ
zero_key6 = replicate ipv6_width 0

-- how many bucket numbers the zero key has under p and k, and which
zero_key_numbers : ℕ → ℕ → List ℕ
zero_key_numbers p k =
    let l = (card_of (record { p = p; k = k; room = 2; top = 4; capacity = 128; side_places = 8; width = ipv4_width })).numbers zero_key in length l ∷ l

-- the settings of the snapshot case
smallest : Settings
smallest = record { p = 4; k = 1; room = 1; top = 2; capacity = 1; side_places = 0; width = ipv4_width }

smallest6 : Settings
smallest6 = record { p = 4; k = 1; room = 1; top = 2; capacity = 1; side_places = 0; width = ipv6_width }

pub record Case : Type 0 where
  pub computed : List ℕ
  pub stated : List ℕ

infixl 20 ◌gives◌
abbrev ◌gives◌ : List ℕ → List ℕ → Case
x gives y = record { computed = x; stated = y }

pub cases : List Case
cases =
    -- the zero key: H 0, bucket 0 alone
    ((H zero_key ∷ []) gives (0 ∷ []))
    ∷ ((H zero_key6 ∷ []) gives (0 ∷ []))
    -- for each p from 4 to 12 and each k from 1 to 4
    ∷ (flat (λ p. flat (λ k. zero_key_numbers p k) (upto 1 4)) (upto 4 9) gives flat (λ i. 1 ∷ 0 ∷ []) (upto 0 36))
    -- buckets a {1,5}, b {1,6}, T 15: a in 5, b in 6; a by itself: in 1
    ∷ ((choice a (a ∷ b ∷ []) ∷ choice b (a ∷ b ∷ []) ∷ choice a (a ∷ []) ∷ []) gives (5 ∷ 6 ∷ 1 ∷ []))
    -- add c {5,8}, d {6,9}, w {1,7}: with B 1 side need 0
    ∷ ((need 1 15 (a ∷ b ∷ c ∷ d ∷ w ∷ []) ∷ []) gives (0 ∷ []))
    -- without w: a and b both choose 1, side need 2; so with S 1 removing w is refused 9, and with S 2 it is accepted; with B 2 need 0
    ∷ ((choice a (a ∷ b ∷ c ∷ d ∷ []) ∷ choice b (a ∷ b ∷ c ∷ d ∷ []) ∷ need 1 15 (a ∷ b ∷ c ∷ d ∷ []) ∷ []) gives (1 ∷ 1 ∷ 2 ∷ []))
    ∷ ((refusal (card_with 1 15 1) (remove (w ∷ [])) (flows (a ∷ b ∷ c ∷ d ∷ w ∷ [])) ∷ []) gives (9 ∷ []))
    ∷ ((refusal (card_with 1 15 2) (remove (w ∷ [])) (flows (a ∷ b ∷ c ∷ d ∷ w ∷ [])) ∷ []) gives (0 ∷ []))
    ∷ ((need 2 15 (a ∷ b ∷ c ∷ d ∷ []) ∷ []) gives (0 ∷ []))
    -- three keys on {1,5}: T 3, need 3, whatever B is; T 4 and B 3, need 0
    ∷ (map (λ room. need room 3 (a ∷ a₂ ∷ a₃ ∷ [])) (1 ∷ 2 ∷ 3 ∷ 4 ∷ []) gives (3 ∷ 3 ∷ 3 ∷ 3 ∷ []))
    ∷ ((need 3 4 (a ∷ a₂ ∷ a₃ ∷ []) ∷ []) gives (0 ∷ []))
    -- counts 3 and 20 in buckets 2 and 3, T 15: byte F3 hexadecimal
    ∷ ((get_or (counter_bytes (card_with 1 15 8) (λ i. get_or (0 ∷ 0 ∷ 3 ∷ 20 ∷ []) i 0)) 1 0 ∷ []) gives (0xF3 ∷ []))
    -- fill for m 16, a half to the even neighbour (document 02, U4): 0 held 0, 2 held 12, 6 held 38, 10 held 62
    ∷ (map (λ n. fill_of n 16) (0 ∷ 2 ∷ 6 ∷ 10 ∷ []) gives (0 ∷ 12 ∷ 38 ∷ 62 ∷ []))
    -- settings 4,1,1,2,1,0, empty
    ∷ (snapshot smallest [] gives (0 ∷ 6 ∷ 0 ∷ 4 ∷ 0 ∷ 1 ∷ 0 ∷ 1 ∷ 0 ∷ 2 ∷ 0 ∷ 1 ∷ 0 ∷ 0 ∷ 0 ∷ 0 ∷ []))
    -- the same with keys of 37 bytes (document 02, U7): first count 7, the width last
    ∷ (snapshot smallest6 [] gives (0 ∷ 7 ∷ 0 ∷ 4 ∷ 0 ∷ 1 ∷ 0 ∷ 1 ∷ 0 ∷ 2 ∷ 0 ∷ 1 ∷ 0 ∷ 0 ∷ 0 ∷ ipv6_width ∷ 0 ∷ 0 ∷ []))
    -- and two that the paper's rows leave open: hashes 5, 1: a tie goes to the lowest bucket and not to the first hash; hashes 5, 5: a counter is raised once
    ∷ ((choice reversed (reversed ∷ []) ∷ []) gives (1 ∷ []))
    ∷ (((card_with 1 15 8).numbers (doubled ∷ [])) gives (5 ∷ []))
    ∷ (map (true_count (card_with 1 15 8) (flows (doubled ∷ []))) (4 ∷ 5 ∷ 6 ∷ []) gives (0 ∷ 1 ∷ 0 ∷ []))
    ∷ []

agrees : Case → Bool
agrees x = same_key x.computed x.stated

tested : all agrees cases ≡ true
unfolding agrees cases choice need flows card_with hashes zero_key zero_key6 zero_key_numbers smallest smallest6 if_set rows_of H_from H hash numbers_of card_of
    to_bytes record_bytes true_count clip all_top least_count chosen chooses choosers crowded belongs_to_side side_records side_need counter_bytes held without
    fill_of key_wrong side_need_of side_short next refusal section first_count snapshot
tested = refl

pub cases_hold : All (λ x. x.computed ≡ x.stated) cases
unfolding agrees
cases_hold = all_map (λ x e. same_key_eq x.computed x.stated e) cases (all_each agrees cases tested)
