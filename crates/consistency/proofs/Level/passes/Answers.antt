-- `passes` meets its contract: the four parts of the test, one after another.
use mathlib.Core.Path.{refl}
use mathlib.Core.Bool.{◌&&◌}
use Rattle.definitions.specs.Consistency.{keeps_powers, keeps_commutators, fixes_power, power_is_inner}
use Rattle.consistency.specs.Level.{Answers}
use Rattle.consistency.proofs.Answers.{both-stops, both-goes, tests-all}
use Rattle.consistency.proofs.Level.passes.Goals as goal
use Rattle.consistency.proofs.Level.passes.Goals.{then-keeps_powers, else-keeps_powers, then-keeps_commutators, else-keeps_commutators}

pub returns-then-fixes_power : goal.returns-then-fixes_power
returns-then-fixes_power c =
    let s = c.args.self.now in
    let two : Answers s (λ P i. keeps_powers P i && keeps_commutators P i) c.if-keeps_powers.value = elim c.if-keeps_powers.branch [
      | then-keeps_powers w ↦ both-goes (λ P. keeps_commutators P s.i) c.keeps_powers.ensures w.value-is w.if-keeps_powers.true w.keeps_commutators.ensures
      | else-keeps_powers w ↦ both-stops (λ P. keeps_commutators P s.i) c.keeps_powers.ensures w.value-is w.if-keeps_powers.false
    ] in
    let three : Answers s (λ P i. keeps_powers P i && keeps_commutators P i && fixes_power P i) c.if-keeps_commutators.value = elim c.if-keeps_commutators.branch [
      | then-keeps_commutators w ↦ both-goes (λ P. fixes_power P s.i) two w.value-is w.if-keeps_commutators.true w.fixes_power.ensures
      | else-keeps_commutators w ↦ both-stops (λ P. fixes_power P s.i) two w.value-is w.if-keeps_commutators.false
    ] in
    tests-all (both-goes (λ P. power_is_inner P s.i) three refl c.if-fixes_power.true c.is_inner.ensures)

pub returns-else-fixes_power : goal.returns-else-fixes_power
returns-else-fixes_power c =
    let s = c.args.self.now in
    let two : Answers s (λ P i. keeps_powers P i && keeps_commutators P i) c.if-keeps_powers.value = elim c.if-keeps_powers.branch [
      | then-keeps_powers w ↦ both-goes (λ P. keeps_commutators P s.i) c.keeps_powers.ensures w.value-is w.if-keeps_powers.true w.keeps_commutators.ensures
      | else-keeps_powers w ↦ both-stops (λ P. keeps_commutators P s.i) c.keeps_powers.ensures w.value-is w.if-keeps_powers.false
    ] in
    let three : Answers s (λ P i. keeps_powers P i && keeps_commutators P i && fixes_power P i) c.if-keeps_commutators.value = elim c.if-keeps_commutators.branch [
      | then-keeps_commutators w ↦ both-goes (λ P. fixes_power P s.i) two w.value-is w.if-keeps_commutators.true w.fixes_power.ensures
      | else-keeps_commutators w ↦ both-stops (λ P. fixes_power P s.i) two w.value-is w.if-keeps_commutators.false
    ] in
    tests-all (both-stops (λ P. power_is_inner P s.i) three refl c.if-fixes_power.false)
