-- `levels_ok` meets its contract: level after level.
use Rattle.numbers.proofs.Tested.{Tested}
use Rattle.check_form.specs.Form.{level_ok, LevelOver}
use Rattle.check_form.proofs.levels_ok.Given as goal

abbrev pub invariant-loop-i : goal.invariant-loop-i
invariant-loop-i l = LevelOver l.fn.s l.words l.i l.low × Tested (level_ok l.fn.s.gens l.fn.s.m l.words) l.i
