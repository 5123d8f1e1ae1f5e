-- `level_relates` goes through the representations of the level.
use borrow.Author.Count.{below_more}
use mathlib.Core.Path.{◌≡◌, refl, ◌∙◌, ap}
use Prim.Native.Nat.{◌+◌, ◌<◌}
use native.Mathlib.Omega.{arith}
use lib.ListN.{get_or}
use Rattle.definitions.specs.Table.{DEG, word_at}
use Rattle.level.specs.declared.Listed.{Listed}
use Rattle.compare.proofs.Staged.{found_inside, low-at, high-place}
use Rattle.compare.proofs.Blocks.{inside-matrix}
use Rattle.check_level.specs.Level.{width_below}
use Rattle.check_level.proofs.Level.{listed-inside, listed-refers, listed-reached, listed-relates}
use Rattle.check_level.proofs.level_relates.Goals.{After-up-x}
use Rattle.check_level.proofs.level_relates.Goals as goal

-- what the representation refers to is listed
refers : (c : After-up-x) → c.up-x.result < c.args.g.below
refers c = let (S, H, _) = c.requires in
    omega (arith, listed-refers S H c.loop-r.r (omega arith) c.rep_at-d.ensures, c.up-x.ensures, c.word_at.ensures)

pub rep_at-d-requires : goal.rep_at-d-requires
rep_at-d-requires c = high-place c.requires.0 c.loop-r.r (omega arith)

pub word_at-requires : goal.word_at-requires
word_at-requires c = let (S, H, _) = c.requires in
    let I = listed-inside S H c.loop-r.r (omega arith) c.rep_at-d.ensures in
    (omega (arith, inside-matrix I 0 S.whole.some, I.positive), omega arith)

pub carries_all-requires : goal.carries_all-requires
carries_all-requires c = let (S, H, ready) = c.requires in
    let F = low-at S c.up-x.result (refers (goal.at.carries_all-requires c).After-up-x) c.rep_at-f.ensures refl in
    (listed-reached S H c.loop-r.r (omega arith) c.rep_at-d.ensures, F.positive, (found_inside S.whole S.short F).narrow, ready)

pub loop-r-preserved : goal.loop-r-preserved
loop-r-preserved c = let a = c.args in
    let T = a.words.now in
    let v : c.rep_at-f.result.deg ≡ width_below T a.firsts.now a.g c.rep_at-d.result
    = ap (λ (F : Listed). F.deg) c.rep_at-f.ensures
    ∙ ap (λ x. word_at T (get_or a.firsts.now (a.g.low + x) 0) DEG) (c.up-x.ensures ∙ c.word_at.ensures) in
    below_more _ c.loop-r.r c.loop-r.invariant (listed-relates c.requires.0 c.requires.1 c.loop-r.r (omega arith) c.rep_at-d.ensures v
    (c.carries_all.ensures (c.if-not-carries_all.false)))
