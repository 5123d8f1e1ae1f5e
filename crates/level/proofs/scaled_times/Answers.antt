-- `scaled_times`: after so many turns r is what they make of x; turns that keep the basis index add up.
use mathlib.Core.Path.{◌≡◌, sym, ap, ◌∙◌}
use Prim.Native.Nat.{◌+◌, ◌*◌, ◌%◌}
use native.Mathlib.Omega.{arith}
use Rattle.definitions.specs.declared.Entry.{Entry}
use Rattle.definitions.specs.Monomial.{entry}
use Rattle.numbers.proofs.Lists.{iter-zero}
use Rattle.formulas.specs.Formulas.{plus}
use Rattle.level.specs.Stored.{entry_in, line_in}
use Rattle.level.proofs.Columns.{turns-none, turns-one, turns_more, turns-all, iter-fixed, act-in, plus-fixed}
use Rattle.level.proofs.scaled_times.Goals as goal

pub returns-then-k-eq0 : goal.returns-then-k-eq0
returns-then-k-eq0 c = (turns-none _ c.if-k-eq0.true, c.requires.1)

pub returns-then-k-eq1 : goal.returns-then-k-eq1
returns-then-k-eq1 c = let s = c.scaled-y in (turns-one _ c.if-k-eq1.true s.ensures.0, s.ensures.1)

pub returns-then-y-x : goal.returns-then-y-x
unfolding plus
returns-then-y-x c = let scaled' = c.scaled-y in
    let W = c.args.words.now in
    let m = c.args.m in let x = c.args.x in
    let at = line_in c.args.d c.args.g in
    let e = c.column-e.ensures.0 ∙ ap (λ l. entry_in W (l + x.row)) c.matrix_line.ensures in
    let y = ap (λ (t : Entry). t.row) (scaled'.ensures.0 ∙ ap (plus m c.args.c) (act-in m _ at _ _ c.requires.1.row)) in
    let s = c.add_mod.ensures.0 ∙ ap (λ (t : Entry). (t.exp + c.args.c) % m) e in
    let fixed = plus-fixed _ _ at _ _ c.requires.1.row (sym y ∙ c.if-y-x.true) _ in (
      ap (entry x.row) (c.add_times.ensures.0 ∙ ap (λ t. (x.exp + c.args.k * t) % m) s)
          ∙ sym (iter-fixed _ _ _ _ fixed _ _ c.requires.1.exp),
      record { row = c.requires.1.row; exp = c.add_times.ensures.1 },
    )

pub loop-init : goal.loop-init
loop-init c = (omega arith, sym (iter-zero _ _), c.scaled-y.ensures.1)

pub loop-preserved : goal.loop-preserved
loop-preserved c = let l = c.loop in
    (omega arith, turns_more _ _ l.invariant.0 l.invariant.1 c.scaled-r.ensures.0, c.scaled-r.ensures.1)

pub returns : goal.returns
returns c = let l = c.loop in
    let e : l.counter ≡ c.args.k = omega arith in
    (turns-all _ l.invariant.0 e c.scaled-y.ensures.0 l.invariant.1, l.invariant.2)
