-- `block` meets its contract: its reference is listed, it ends within the columns, and refers to one throughout.
use mathlib.Core.Path.{◌≡◌, sym, ◌∙◌, ap, ap₂}
use Prim.Native.Nat.{◌+◌, ◌<◌}
use native.Mathlib.Omega.{arith}
use lib.ListN.{length}
use Rattle.definitions.specs.Monomial.{rep_of}
use Rattle.definitions.specs.Table.{level_at}
use Rattle.level.specs.Stored.{line_in}
use Rattle.check_form.proofs.Blocks.{block-unlisted, block-long, block-mixed, block-whole}
use Rattle.check_form.proofs.block.Goals.{After-degree_of-f, After-up, Else-low-r}
use Rattle.check_form.proofs.block.Goals as goal

-- where the block begins
there : (c : After-up) → let a = c.args in c.matrix_line.result + c.up.result ≡ line_in a.d 0 + a.o
there c = ap₂ (λ x y. x + y) c.matrix_line.ensures c.up.ensures

-- the reference is listed
listed : (c : Else-low-r) → let a = c.args in c.word_at-x.result < length (level_at a.s.gens a.words.now a.i)
listed c = omega (arith, c.requires.0.counts, c.up-r.ensures, c.if-low-r.false)

-- its degree
degree : (c : After-degree_of-f) → let a = c.args in c.degree_of-f.result ≡ (rep_of (level_at a.s.gens a.words.now a.i) c.word_at-x.result).deg
degree c = let a = c.args in
    c.degree_of-f.ensures.0 ∙ ap (λ r. (rep_of (level_at a.s.gens a.words.now a.i) r).deg) c.up-r.ensures

pub returns-then-low-r : goal.returns-then-low-r
returns-then-low-r c = block-unlisted _ _ c.args.d _ _ _ (there (goal.at.returns-then-low-r c).After-up) c.word_at-x.ensures
    (omega (arith, c.requires.0.counts, c.up-r.ensures, c.if-low-r.true))

pub returns-then-d-o : goal.returns-then-d-o
returns-then-d-o c = block-long _ _ c.args.d _ _ _ (there (goal.at.returns-then-d-o c).After-up) c.word_at-x.ensures _
    (degree (goal.at.returns-then-d-o c).After-degree_of-f) (listed (goal.at.returns-then-d-o c).Else-low-r) c.requires.2 c.if-d-o.true

pub returns-then-not-refs_are : goal.returns-then-not-refs_are
returns-then-not-refs_are c = block-mixed _ _ c.args.d _ _ _ (there (goal.at.returns-then-not-refs_are c).After-up) c.word_at-x.ensures _
    (degree (goal.at.returns-then-not-refs_are c).After-degree_of-f) (listed (goal.at.returns-then-not-refs_are c).Else-low-r) c.requires.2
    (omega (arith, c.if-d-o.false)) (sym c.refs_are.ensures ∙ c.if-not-refs_are.true)

pub returns : goal.returns
returns c = block-whole _ _ c.args.d _ _ _ (there (goal.at.returns c).After-up) c.word_at-x.ensures _ (degree (goal.at.returns c).After-degree_of-f)
    (listed (goal.at.returns c).Else-low-r) c.requires.2
    (omega (arith, c.if-d-o.false)) c.degree_of-f.ensures.1 (sym c.refs_are.ensures ∙ c.if-not-refs_are.false)
