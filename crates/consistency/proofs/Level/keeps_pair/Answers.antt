-- `keeps_pair` meets its contract: one of the two is central, or the relation is tested.
use mathlib.Core.Path.{sym, ◌∙◌, subst}
use Prim.Native.Nat.{◌<◌}
use native.Mathlib.Omega.{arith}
use borrow.Author.Tests.{ltb-true}
use Rattle.consistency.specs.Answers.{commutator_kept}
use Rattle.consistency.specs.Level.{Answers}
use Rattle.consistency.proofs.Answers.{commutator-low, commutator-high}
use Rattle.consistency.proofs.Level.keeps_pair.Goals as goal
use Rattle.consistency.proofs.Level.keeps_pair.Goals.{then-self-k, else-self-k}

pub returns-then-self-j : goal.returns-then-self-j
returns-then-self-j c = let s = c.args.self.now in
    let k = c.args.k in
    let j = c.args.j in
    let low : k < s.i = omega (arith, c.requires.0, c.requires.1) in
    subst (Answers s (λ P i. commutator_kept P i j k)) (sym c.if-self-j.true) (elim c.if-self-k.branch [
      | then-self-k w ↦ commutator-low low ((s.central.at k (omega arith)).at s.i w.if-self-k.true) c.requires.0 c.requires.1
      | else-self-k w ↦ commutator-high c.requires.1
          ((s.central.at j (omega (arith, c.requires.1))).at s.i (ltb-true _ _ (sym w.value-is ∙ c.if-self-j.true))) c.requires.0
    ])
