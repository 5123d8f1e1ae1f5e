-- `power_entry`: a signed word by its direction; below zero by a whole lap.
use mathlib.Core.Path.{◌≡◌, sym, ap, ◌∙◌}
use lib.IntN.{ℤ}
use mir.Syntax.{w32}
use mir.ValLaws.{to_z-of_z}
use Rattle.definitions.specs.declared.Entry.{Entry}
use Rattle.definitions.specs.Monomial.{act, signed_power}
use Rattle.signed.specs.Signs.{number}
use Rattle.level.specs.Stored.{matrix_in}
use Rattle.level.proofs.Laps.{closed-late, power-turns}
use Rattle.level.proofs.power_entry.Goals as goal

pub after_laps-requires-clause-below : goal.after_laps-requires-clause-below
after_laps-requires-clause-below c = (c.requires.below, closed-late c.requires.holds c.requires.below c.lap_from-w.ensures)

pub returns-in-Forward : goal.returns-in-Forward
returns-in-Forward c = let a = c.args in
    let is : a.k ≡ number c.from.result = sym (to_z-of_z w32 _ c.ranges.k) ∙ c.from.ensures in
    let power : ℤ → Entry = λ i. act a.m (signed_power a.m a.d (matrix_in a.words.now a.at a.d) i) a.x in
    (c.power_of.ensures.0 ∙ sym (power-turns c.requires.holds c.requires.below _) ∙ ap power (sym (is ∙ ap number c.in-Forward.is)), c.power_of.ensures.1)
