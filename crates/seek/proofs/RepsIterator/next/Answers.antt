-- The next representation stands where the walk is, and the walk goes on behind its lines.
use native.Mathlib.Omega.{arith}
use Rattle.seek.proofs.Halves.{lines-there}
use Rattle.seek.proofs.Seek.{found-there}
use Rattle.seek.proofs.Walk.{walk-found, walk-more}
use Rattle.seek.proofs.RepsIterator.next.Goals as goal
use mathlib.Core.Path.{refl}

pub representation-d-requires : goal.representation-d-requires
representation-d-requires c = let W = c.args.self.now.walks in
    found-there c.args.self.now.scope c.args.self.now.words.now W.whole (walk-found W c.if-self.false refl)

pub matrix_line-self-requires : goal.matrix_line-self-requires
matrix_line-self-requires c = let W = c.args.self.now.walks in
    let F = walk-found W c.if-self.false c.representation-d.ensures in
    omega (arith, lines-there c.args.self.now.words.now _ F.inside)

pub invariant_of-self : goal.invariant_of-self
invariant_of-self c = let W = c.args.self.now.walks in
    record { walks = walk-more W c.if-self.false c.representation-d.ensures c.matrix_line-self.ensures }

pub returns-clause-steps : goal.returns-clause-steps
returns-clause-steps c = let W = c.args.self.now.walks in
    (walk-found W c.if-self.false c.representation-d.ensures, record { scope = refl; words = refl; level = refl; rep = refl })
