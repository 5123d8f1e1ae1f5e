-- `find_lines`: the first lines of the representations before r are noted, and s is where r begins.
use mathlib.Core.Path.{refl, sym}
use native.Mathlib.Omega.{arith}
use Rattle.survey.proofs.Level.{first-zero, first-room}
use Rattle.survey.proofs.Firsts.{firsts-none}
use Rattle.survey.proofs.find_lines.Goals as goal

pub loop-r-init : goal.loop-r-init
loop-r-init c = (refl, sym (first-zero _ _), firsts-none _ _ _ c.requires.1)

pub representation-d-requires : goal.representation-d-requires
representation-d-requires c = omega (arith, c.loop-r.invariant.1, first-room _ _ c.requires.0 _ c.loop-r-test.true)
