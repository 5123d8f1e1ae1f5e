-- `conjugated` walks the word and turns by its highest generator.
use mathlib.Core.Path.{ap₂, ◌∙◌}
use native.Mathlib.Numerals.{add-one}
use Rattle.definitions.specs.declared.Entry.{Entry}
use Rattle.definitions.specs.Lists.{iter}
use Rattle.definitions.specs.Monomial.{act}
use Rattle.formulas.specs.Formulas.{plus}
use Rattle.level.specs.Stored.{generator_in}
use Rattle.targets.specs.Reached.{conjugated_in}
use Rattle.targets.proofs.conjugated.Goals as goal

pub returns : goal.returns
unfolding conjugated_in
returns c =
    let F : Entry → Entry = λ y. plus c.args.m c.args.c (act c.args.m (generator_in c.args.low.now c.args.d c.args.g) y) in
    (c.scaled_times.ensures.0 ∙ ap₂ (λ i x. iter F i x) (add-one _) c.walked-x.ensures.0, c.scaled_times.ensures.1)
