-- The code's generator and load as those of document 02, what an input asks for, and a piece of a load.
use Rattle.std.specs.Prelude.{◌≡◌, ℕ, ◌<◌, ◌≤◌, List, ◌++◌, length, take, Result, Ok, Err}
use Rattle.std.proofs.Math.Option.{Option, none, some}
use Rattle.theory.specs.BenchLoad as bench
use Rattle.theory.specs.BenchLoad.{load_written}
use Rattle.memory.specs.declared.refusals.Refusal.{Refusal}
use Rattle.bench_load.specs.declared.Generator.{Generator}
use Rattle.bench_load.specs.declared.BenchLoad.{BenchLoad}

abbrev pub generator_of : Generator → bench.Generator
generator_of g = record { s = g.s; w = g.w }

-- the two numbers of a call
abbrev pub drawn : ℕ → ℕ → bench.Drawn
drawn first second = record { first = first; second = second }

abbrev pub load_of : BenchLoad → bench.BenchLoad
load_of x = record { generator = generator_of x.generator; flows = x.flows; count = x.count }

-- none is 15, by `asked_number`
abbrev pub asked_of : Result BenchLoad Refusal → Option bench.BenchLoad
asked_of (Ok x) = some (load_of x)
asked_of (Err e) = none

-- a load cut in two: a piece, the first bytes of a buffer, and the rest; written one after the other they are the load
pub record Cut (x rest : BenchLoad) (to : List ℕ) (bytes : ℕ) : Type 0 where
  pub inside : bytes ≤ length to
  pub whole : take bytes to ++ load_written (load_of rest) ≡ load_written (load_of x)
  pub flows : rest.flows ≡ x.flows
  pub fewer : 18 ≤ length to → 0 < x.count → rest.count < x.count
