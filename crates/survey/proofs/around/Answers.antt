-- `around`: along an orbit that does not move, the power of one intertwiner.
use mathlib.Core.Path.{sym, ap, ◌∙◌, subst}
use Prim.Native.Nat.{suc}
use native.Mathlib.Nat.{le_refl}
use Rattle.definitions.specs.declared.Entry.{Entry}
use Rattle.definitions.specs.Lists.{iter}
use Rattle.definitions.specs.Monomial.{Matrix, entry, act}
use Rattle.level.specs.Stored.{Below}
use Rattle.survey.proofs.Level.{located-stored, located-degree, located-matrix, located-target}
use Rattle.survey.proofs.Counting.{around-fixed}
use Rattle.survey.proofs.around.Goals as goal

pub target-requires : goal.target-requires
target-requires c = (c.args.f.m, located-stored c.requires.0 (suc c.args.f.top) c.requires.0.stands.gens.0)

pub returns-then-target-r : goal.returns-then-target-r
returns-then-target-r c = let L = c.requires.0 in
    let f = c.args.f in
    let t = located-target L _ _ (le_refl _) L.stands.gens.0 c.target.ensures in
    let turns : Matrix → Entry = λ M. iter (act f.m M) f.p (entry 0 0) in (
      c.moved_times.ensures.0 ∙ ap turns (located-matrix L _) ∙ sym (around-fixed _ _ _ (sym t.0 ∙ c.if-target-r.true) _),
      subst (λ d. Below f.m d c.moved_times.result) (located-degree L) c.moved_times.ensures.1,
    )
