-- `power_of`: a product where the basis index stays; else so many turns, or a lap that ends before them.
use mathlib.Core.Path.{refl, sym, ap, ap₂, ◌∙◌}
use Prim.Native.Nat.{◌+◌, ◌*◌, ◌%◌}
use Rattle.definitions.specs.declared.Entry.{Entry}
use Rattle.definitions.specs.Monomial.{entry}
use Rattle.level.proofs.Columns.{turns-none, iter-fixed, act-fixed}
use Rattle.level.proofs.Laps.{power-turns}
use Rattle.level.proofs.power_of.Goals as goal

pub returns-then-k-eq0 : goal.returns-then-k-eq0
returns-then-k-eq0 c = (turns-none _ c.if-k-eq0.true, c.requires.below)

pub returns-then-z-x : goal.returns-then-z-x
returns-then-z-x c = let m = c.args.m in let x = c.args.x in let A = c.add_rounds.ensures in let is = c.column-z.ensures.0 in
    let fixed = act-fixed m _ _ _ _ c.requires.below.row (sym (ap (λ (t : Entry). t.row) is) ∙ c.if-z-x.true) in (
      ap (entry x.row) (A.0 ∙ ap₂ (λ n (t : Entry). (x.exp + n * t.exp) % m) refl is)
          ∙ sym (iter-fixed _ _ _ _ fixed _ _ c.requires.below.exp),
      record { row = c.requires.below.row; exp = A.1 },
    )

pub returns : goal.returns
returns c = (c.after_laps.ensures.0 ∙ power-turns c.requires.holds c.requires.below _, c.after_laps.ensures.1)
