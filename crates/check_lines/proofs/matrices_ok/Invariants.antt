-- `matrices_ok` meets its contract: generator after generator.
use Prim.Native.Nat.{ℕ}
use Rattle.definitions.specs.Monomial.{valid}
use Rattle.numbers.proofs.Tested.{Tested}
use Rattle.level.specs.Stored.{generator_in}
use Rattle.check_lines.proofs.matrices_ok.Given as goal

abbrev pub invariant-loop-g : goal.invariant-loop-g
invariant-loop-g l = Tested (λ (k : ℕ). valid l.m l.d.deg (generator_in l.words l.d k)) l.g
