-- What judging a packet gives: the facts that reading counts on, and the answer at each outcome.
use mathlib.Core.Path.{◌≡◌, sym, ap}
use mathlib.Core.Bool.{Bool, false}
use mathlib.Core.List.{List}
use Prim.Native.Nat.{ℕ}
use native.Mathlib.Omega.{arith}
use lib.ListN.{length}
use borrow.Author.Tests.{ltb-false, eq-eqb}
use Rattle.theory.specs.Packet.{cut_in, Reading, Keyed, keyed}
use Rattle.theory.proofs.ListLaws.{by_test}
use Rattle.memory.specs.Refusals.{number_of}
use Rattle.memory.specs.declared.refusals.Refusal.{Refusal}
use Rattle.memory.proofs.RefusalLaws.{refused_number}
use Rattle.packet.specs.Judging.{Said, after_header, reading_of, refusal_of, PortsThere}

-- an answer, and the buffer with it
abbrev pub kept : ℕ → List ℕ → Keyed
kept n buffer = record { number = n; buffer = buffer }

ports_there : (has : Bool) (after : List ℕ) → cut_in has after ≡ false → PortsThere has after
ports_there has after whole some = ltb-false (length after) 4 (rw some at whole)

-- any packet, by what is read of it
module _ (width : ℕ) (e : Refusal) (said : Said) (q : List ℕ) where
  abbrev r : Reading
  r = reading_of width (number_of e) said q

  -- no refusal: neither test holds
  neither : 0 ≡ refusal_of r → (r.wrong ≡ false) × (r.cut ≡ false)
  unfolding refusal_of
  neither zero =
      by_test r.wrong (λ wrong. absurd (refused_number e (sym (rw wrong at zero))))
      (λ right. by_test r.cut (λ cut. absurd (omega (arith, rw (right, cut) at zero))) (λ whole. (right, whole)))

  pub unrefused : 0 ≡ refusal_of r → (said.header_wrong ≡ false) × PortsThere said.has_ports (after_header said q)
  unrefused zero = let told = neither zero in (told.0, ports_there said.has_ports (after_header said q) told.1)

  module _ (buffer : List ℕ) (right_length : length buffer ≡ width) where
    pub keyed_refused : (told : Refusal) → number_of told ≡ refusal_of r → kept (number_of told) buffer ≡ keyed r buffer
    unfolding refusal_of
    keyed_refused told is =
        rw (eq-eqb (length buffer) width right_length)
        (by_test r.wrong (λ wrong. rw wrong (ap (λ (m : ℕ). kept m buffer) (rw wrong at is)))
        (λ right. by_test r.cut (λ cut. rw (right, cut) (ap (λ (m : ℕ). kept m buffer) (rw (right, cut) at is)))
        (λ whole. absurd (refused_number told (rw (right, whole) at is)))))

    pub keyed_0 : 0 ≡ refusal_of r → kept 0 r.key ≡ keyed r buffer
    keyed_0 zero = let told = neither zero in rw (eq-eqb (length buffer) width right_length, told.0, told.1)
