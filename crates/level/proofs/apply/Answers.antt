-- `apply` reads one line and adds two exponents.
use mathlib.Core.Path.{ap, ap₂, sym, ◌∙◌}
use Prim.Native.Nat.{◌+◌, ◌%◌}
use Rattle.definitions.specs.declared.Entry.{Entry}
use Rattle.definitions.specs.Monomial.{entry}
use Rattle.level.proofs.Columns.{act-in}
use borrow.Author.Rules.{rules}
use Rattle.level.proofs.apply.Goals as goal

pub returns : goal.returns
returns c = let m = c.args.m in let e = c.column-e.ensures.0 in
    let s = c.add_mod.ensures.0 ∙ ap (λ (y : Entry). (y.exp + c.args.x.exp) % m) e in
    (ap₂ entry (ap (λ (y : Entry). y.row) e) s ∙ sym (act-in m _ _ _ _ c.requires.below.row), search rules)
