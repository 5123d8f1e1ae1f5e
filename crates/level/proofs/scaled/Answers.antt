-- `scaled` moves an entry and adds c.
use mathlib.Core.Path.{ap, ap₂, ◌∙◌}
use Prim.Native.Nat.{◌+◌, ◌%◌}
use Rattle.definitions.specs.declared.Entry.{Entry}
use Rattle.definitions.specs.Monomial.{entry}
use Rattle.formulas.specs.Formulas.{plus}
use Rattle.level.proofs.scaled.Goals as goal

pub returns : goal.returns
unfolding plus
returns c = let e = c.moved-y.ensures.0 in (
  ap₂ entry (ap (λ (x : Entry). x.row) e) (c.add_mod.ensures.0 ∙ ap (λ (x : Entry). (x.exp + c.args.c) % c.args.m) e),
  record { row = c.moved-y.ensures.1.row; exp = c.add_mod.ensures.1 },
)
