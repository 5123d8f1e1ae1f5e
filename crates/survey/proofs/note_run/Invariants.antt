-- `note_run` goes on as long as the degree stays.
use mathlib.Core.Path.{◌≡◌}
use Prim.Native.Nat.{◌*◌}
use Rattle.survey.proofs.Firsts.{NotingRun}
use Rattle.survey.proofs.note_run.Given as goal

abbrev pub invariant-loop-q : goal.invariant-loop-q
invariant-loop-q l = (l.step ≡ l.f.gens * l.d.deg) × NotingRun l.f l.low l.initial.notes l.r l.notes l.line l.q
