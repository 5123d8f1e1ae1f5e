-- `run_lines` goes on as long as the degree stays.
use mathlib.Core.Path.{◌≡◌}
use Prim.Native.Nat.{ℕ, ◌*◌}
use lib.ListN.{length}
use Rattle.seek.specs.declared.Scope.{Scope}
use Rattle.check_level.specs.Lines.{RunAsked}
use Rattle.check_level.proofs.Lines.{Running}
use Rattle.check_level.proofs.run_lines.Given as goal

-- for whatever level d is of
abbrev pub invariant-loop-q : goal.invariant-loop-q
invariant-loop-q l = (s : Scope) (i : ℕ) (A : RunAsked s l.words i l.d (length l.initial.firsts) l.at l.r l.reps) → l.step ≡ s.gens * l.d.deg →
    Running A l.initial.firsts l.firsts l.line l.q
