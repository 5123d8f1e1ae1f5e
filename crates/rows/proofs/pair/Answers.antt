-- `pair` meets its contract: the pairs of generators below j come first, j (j + 1) / 2 of them.
use mathlib.Core.Path.{sym, ◌∙◌, ap}
use Rattle.definitions.specs.Presentation.{pair_number}
use native.Mathlib.Omega.{arith}
use Rattle.rows.proofs.Pairs.{pair-below, pair-power, pair-commutator}
use borrow.Author.Rules.{rules}
use Rattle.rows.proofs.pair.Goals as goal

pub returns-then-i-j : goal.returns-then-i-j
returns-then-i-j c = let e = pair-power c.args.j ∙ ap (pair_number c.args.j) (sym c.if-i-j.true) in
    (e, omega (arith, e, pair-below c.args.j c.args.i (search rules) (search rules)))

pub returns-else-i-j : goal.returns-else-i-j
returns-else-i-j c = let e = pair-commutator c.args.j c.args.i (search rules) (search rules) in
    (e, omega (arith, e, pair-below c.args.j c.args.i (search rules) (search rules)))
