-- `single_times`: of degree 1 there is one basis index, which every matrix fixes.
use mathlib.Core.Path.{sym, ap, ◌∙◌}
use Prim.Native.Nat.{◌+◌, ◌*◌, ◌%◌}
use native.Mathlib.Omega.{arith}
use Rattle.definitions.specs.declared.Entry.{Entry}
use Rattle.definitions.specs.Monomial.{entry}
use Rattle.level.proofs.Columns.{iter-fixed, act-fixed, turns-none}
use Rattle.level.proofs.single_times.Goals as goal

pub returns-then-k-eq0 : goal.returns-then-k-eq0
returns-then-k-eq0 c = (turns-none _ c.if-k-eq0.true, c.requires.1)

pub returns : goal.returns
returns c = let e = ap (λ (x : Entry). x.exp) c.column-z.ensures.0 in
    let row = (c.requires.0.valid 0 (omega arith)).row in
    let fixed = act-fixed c.args.m c.args.words.now c.args.at 1 0 (omega arith) (omega (arith, row)) in (
      ap (entry 0) (c.add_times.ensures.0 ∙ ap (λ x. (c.args.e + c.args.k * x) % c.args.m) e)
          ∙ sym (iter-fixed _ 0 _ _ fixed _ _ c.requires.1),
      c.add_times.ensures.1,
    )
