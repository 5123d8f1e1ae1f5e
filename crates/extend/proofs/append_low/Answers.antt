-- `append_low` appends the generators up to the one on top, one behind the other.
use mathlib.Core.Path.{◌≡◌, ap}
use Prim.Native.Nat.{◌<◌}
use native.Mathlib.Omega.{arith}
use native.Mathlib.Numerals.{add-one}
use native.Mathlib.Nat.{le_refl}
use borrow.Author.Rules.{rules}
use Rattle.definitions.specs.Lists.{blocks}
use Rattle.text.proofs.Writing.{wrote_as}
use Rattle.lines.proofs.Appending.{going_more, space-none}
use Rattle.survey.specs.Below.{low_of}
use Rattle.extend.specs.Extending.{copy_words}
use Rattle.extend.proofs.Extensions.{going-at, copy-asked, low-last}
use Rattle.extend.proofs.append_low.Goals as goal

pub loop-g-init : goal.loop-g-init
loop-g-init c = space-none c.requires.space

pub append_matrix-pos-requires : goal.append_matrix-pos-requires
append_matrix-pos-requires c = let l = c.loop-g in let less : l.g < c.args.f.top = search rules in
    let A = copy-asked _ _ _ _ c.requires.copies.0 l.invariant (omega arith) c.requires.space in
    record { copies = (A.0, c.requires.copies.1, omega (arith, c.requires.copies.0.located.stands.gens), λ e. omega (arith, e)); space = A.1 }

pub loop-g-preserved : goal.loop-g-preserved
loop-g-preserved c = let G = c.loop-g.invariant in
    going_more G (rw G.below at c.append_matrix-pos.ensures)

pub append_top-requires : goal.append_top-requires
append_top-requires c = let e : c.loop-g.g ≡ c.args.f.top = omega arith in
    let A = copy-asked _ _ _ _ c.requires.copies.0 (going-at e c.loop-g.invariant) (le_refl _) c.requires.space in
    record { copies = (A.0, c.requires.copies.1); space = A.1 }

pub returns : goal.returns
returns c = let a = c.args in
    let e : c.loop-g.g ≡ a.f.top = omega arith in
    let G = low-last _ _ _ _ (going-at e c.loop-g.invariant) c.append_top.ensures in
    wrote_as G.wrote (ap (λ n. blocks n (λ j. copy_words a.f (low_of a.f a.words.now) a.o a.k j a.o.rep)) (add-one _))
