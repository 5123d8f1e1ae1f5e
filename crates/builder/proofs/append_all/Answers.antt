-- `append_all` appends what is above one representation behind the other.
use mathlib.Core.Path.{◌≡◌}
use Prim.Native.Nat.{◌<◌}
use native.Mathlib.Omega.{arith}
use native.Mathlib.Nat.{le_refl}
use borrow.Author.Rules.{rules}
use Rattle.lines.proofs.Appending.{going-none, going_more}
use Rattle.survey.specs.Below.{low_of, source_in}
use Rattle.builder.specs.Level.{BlocksLent}
use Rattle.builder.proofs.Above.{above-space}
use Rattle.builder.proofs.InWords.{all-wrote}
use Rattle.builder.proofs.append_all.Goals as goal

pub loop-r-init : goal.loop-r-init
loop-r-init c = going-none (le_refl _) (omega (arith, c.requires.space.room))

pub append_above-pos-requires : goal.append_above-pos-requires
append_above-pos-requires c = let f = c.args.f in
    let l = c.loop-r in let G = l.invariant in
    let less-than : l.r < f.reps = search rules in
    let S = source_in f (low_of f c.args.words.now) c.args.rows.now in
    let room = above-space f.gens S _ G less-than c.requires.space.room in
    let lent : BlocksLent f l.blocks = λ h. omega (arith, c.requires.surveyed.1 h) in
    rw G.below (record { surveyed = (c.requires.surveyed.0, less-than, lent); space = record { from = G.from; room = room } })

pub loop-r-preserved : goal.loop-r-preserved
loop-r-preserved c = let l = c.loop-r in let G = l.invariant in
    going_more G (rw G.below at c.append_above-pos.ensures)

pub returns : goal.returns
returns c = let l = c.loop-r in
    let e : l.r ≡ c.args.f.reps = omega arith in
    all-wrote c.args.f (low_of c.args.f c.args.words.now) c.args.rows.now l.invariant e
