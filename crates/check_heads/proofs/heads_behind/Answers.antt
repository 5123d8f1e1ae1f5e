-- `heads_behind` meets its contract: what is left to walk says what the whole walk says.
use mathlib.Core.Path.{◌≡◌, sym, ◌∙◌, subst}
use mathlib.Core.Bool.{true}
use Prim.Native.Nat.{◌*◌, ◌≤◌, ◌<◌}
use native.Mathlib.Omega.{arith}
use Rattle.definitions.specs.Table.{line_count}
use Rattle.seek.proofs.Halves.{line-there}
use Rattle.check_heads.specs.Places.{orders_in, place_ok}
use Rattle.check_heads.proofs.Places.{Stepped, opened-stepped, stepped-more, stepped-inside, stepped-forth}
use Rattle.check_heads.proofs.Places.{stepped-fails, stepped-short, stepped-all, uneven}
use Rattle.check_heads.proofs.heads_behind.Goals.{After-loop-p, Else-not-place_ok, In-loop-p}
use Rattle.check_heads.proofs.heads_behind.Goals as goal

-- a line stands where the walk is
more : (c : In-loop-p) → c.loop-p.p.line < line_count c.args.words.now
more c = omega (arith, c.requires.0.lines_are, c.loop-p-test.true)

-- the representation where the walk is passes
passed : (c : Else-not-place_ok) → place_ok c.args.s.gens c.args.words.now (orders_in c.args.orders.now) c.turned-t.result ≡ true
passed c = sym c.place_ok.ensures ∙ c.if-not-place_ok.false

-- no line is left
none : (c : After-loop-p) → line_count c.args.words.now ≤ c.loop-p.p.line
none c = omega (arith, c.requires.0.lines_are, c.loop-p-test.false)

pub returns-then-words-ne0 : goal.returns-then-words-ne0
returns-then-words-ne0 c = let a = c.args in uneven a.s.gens a.words.now (orders_in a.orders.now) c.if-words-ne0.true

pub loop-p-init : goal.loop-p-init
loop-p-init c = subst (λ n. Stepped c.args.s.gens c.args.words.now (orders_in c.args.orders.now) (record { line = c.args.k * n; level = 1; rep = c.args.k }))
    (sym c.up.ensures) (opened-stepped c.requires.0.some c.requires.1)

pub turned-t-requires : goal.turned-t-requires
turned-t-requires c = (line-there _ _ (more c), omega (arith, c.loop-p.invariant.levels, c.requires.0.few))

pub returns-then-not-place_ok : goal.returns-then-not-place_ok
returns-then-not-place_ok c = stepped-fails _ _ _ _ _ c.loop-p.invariant (more (goal.at.returns-then-not-place_ok c).In-loop-p) c.turned-t.ensures
    (sym c.place_ok.ensures ∙ c.if-not-place_ok.true)

pub onward-p-requires : goal.onward-p-requires
onward-p-requires c = stepped-inside _ _ _ _ _ c.loop-p.invariant (more (goal.at.onward-p-requires c).In-loop-p) c.turned-t.ensures (passed c)

pub loop-p-smaller : goal.loop-p-smaller
loop-p-smaller c =
    let forth = stepped-forth _ _ _ _ _ c.loop-p.invariant (more (goal.at.loop-p-smaller c).In-loop-p) c.turned-t.ensures
    (passed (goal.at.loop-p-smaller c).Else-not-place_ok) c.requires.0.some
    c.onward-p.result c.onward-p.ensures in
    omega (arith, c.loop-p-test.true, forth)

pub loop-p-preserved : goal.loop-p-preserved
loop-p-preserved c = stepped-more _ _ _ _ _ c.loop-p.invariant (more (goal.at.loop-p-preserved c).In-loop-p) c.turned-t.ensures
    (passed (goal.at.loop-p-preserved c).Else-not-place_ok) c.requires.0.some
    c.onward-p.result c.onward-p.ensures

pub returns-then-p-s : goal.returns-then-p-s
returns-then-p-s c = stepped-short _ _ _ _ c.loop-p.invariant (none (goal.at.returns-then-p-s c).After-loop-p) (omega (arith, c.if-words-ne0.false))
    c.if-p-s.true

pub returns : goal.returns
returns c = stepped-all _ _ _ _ c.loop-p.invariant (none (goal.at.returns c).After-loop-p) (omega (arith, c.if-words-ne0.false)) c.if-p-s.false
