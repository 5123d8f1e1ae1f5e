-- `ends_at` looks at a line and at the one before it.
use mathlib.Core.Path.{sym, ◌∙◌}
use Prim.Native.Nat.{◌-◌}
use native.Mathlib.Omega.{arith}
use Rattle.seek.proofs.Halves.{line-there, split-behind}
use Rattle.seek.proofs.ends_at.Goals as goal

pub stands_before-requires : goal.stands_before-requires
stands_before-requires c = line-there c.args.words.now c.args.x (omega (arith, c.requires.0))

pub stands_before-requires-2 : goal.stands_before-requires-2
stands_before-requires-2 c = line-there c.args.words.now _ (omega (arith, c.requires.0))

pub returns : goal.returns
returns c = let a = c.args in
    let high = sym c.stands_before.ensures ∙ c.if-stands_before.false in
    λ h. split-behind a.words.now a.i a.r a.x (a.x - 1) c.requires.1 (omega (arith, c.requires.0)) high (omega arith) (omega arith)
    (sym c.stands_before-2.ensures ∙ h)
