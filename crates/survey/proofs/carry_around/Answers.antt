-- `carry_around`: after so many steps the entry is that of the formulas.
use mathlib.Core.Path.{sym, ap, ap₂, ◌∙◌}
use mathlib.Core.List.{[]}
use Prim.Native.Nat.{ℕ}
use Rattle.definitions.specs.declared.Entry.{Entry}
use Rattle.definitions.specs.Monomial.{act}
use Rattle.numbers.proofs.Lists.{iter-zero}
use Rattle.level.proofs.Columns.{iter-next}
use Rattle.survey.specs.Below.{target_of, source_in}
use Rattle.survey.proofs.Level.{located-degree, located-column}
use Rattle.survey.proofs.Counting.{around-zero, around-next}
use Rattle.survey.proofs.carry_around.Goals as goal

pub loop-init : goal.loop-init
loop-init c = let L = c.requires.0 in
    (sym (iter-zero _ _), around-zero _ _ _, record { rep_below = L.listed; same_degree = located-degree L; entry_below = located-column L })

pub loop-preserved : goal.loop-preserved
loop-preserved c = let l = c.loop in
    let t = c.carry-s.ensures in
    let τ = target_of c.args.f c.args.low.now c.args.f.top in
    let F : ℕ → Entry → Entry = λ q x. act c.args.f.m ((source_in c.args.f c.args.low.now []).matrix q c.args.f.top) x in (
      t.rep_is ∙ ap τ l.invariant.0 ∙ sym (iter-next τ _ _),
      t.entry_is ∙ ap₂ F l.invariant.0 l.invariant.1 ∙ sym (around-next _ _ _ _),
      t.carried,
    )
