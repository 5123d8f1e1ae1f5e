-- `matrix_marked` meets its contract: the rows of the lines before c are in range, marked, and differ.
use mathlib.Core.Path.{◌≡◌, sym, ◌∙◌}
use mathlib.Core.Bool.{true, false}
use Prim.Native.Nat.{ℕ, ◌+◌}
use native.Mathlib.Omega.{arith}
use Rattle.definitions.specs.Lists.{all_below}
use Rattle.numbers.proofs.Tested.{tested-none, tested-more, tested-all, tested-fails}
use Rattle.level.specs.Stored.{entry_in}
use Rattle.check_lines.specs.Lines.{entry_ok}
use Rattle.check_lines.proofs.Lines.{entry-low, entries_below, matrix-apart, matrix-rows, matrix-missed}
use Rattle.check_lines.proofs.Rows.{seen_none, seen_more, seen_all, seen_twice}
use Rattle.check_lines.proofs.matrix_marked.Goals as goal

pub loop-c-init : goal.loop-c-init
loop-c-init c = (seen_none c.args.words.now c.args.at, tested-none)

pub returns-then-not-entry_ok : goal.returns-then-not-entry_ok
returns-then-not-entry_ok c = let a = c.args in
    let T = a.words.now in
    let fails : false ≡ all_below a.d (λ (k : ℕ). entry_ok a.m a.d (entry_in T (a.at + k))) =
    tested-fails c.loop-c.invariant.1 (omega (arith, c.up-deg.ensures))
    (sym c.entry_ok.ensures ∙ c.if-not-entry_ok.true) in
    matrix-apart a.m T a.at a.d (sym fails)

pub returns-then-seen-r : goal.returns-then-seen-r
returns-then-seen-r c = let a = c.args in
    let T = a.words.now in
    let row = c.up-r.ensures ∙ c.word_at.ensures in
    let missed = seen_twice T a.at c.loop-c.invariant.0 a.d (omega (arith, c.up-deg.ensures)) _ row c.if-seen-r.true in
    matrix-missed a.m T a.at a.d (sym missed)

pub loop-c-preserved : goal.loop-c-preserved
loop-c-preserved c = let a = c.args in
    let ok = sym c.entry_ok.ensures ∙ c.if-not-entry_ok.false in
    let low = entry-low a.m a.d _ ok in
    let row = c.up-r.ensures ∙ c.word_at.ensures in (
      seen_more a.words.now a.at c.loop-c.invariant.0 _ row (omega (arith, low, c.requires.1, row)) c.if-seen-r.false,
      tested-more c.loop-c.invariant.1 ok,
    )

pub returns : goal.returns
returns c = let a = c.args in
    let T = a.words.now in
    let entries : true ≡ all_below a.d (λ (k : ℕ). entry_ok a.m a.d (entry_in T (a.at + k))) =
    tested-all c.loop-c.invariant.1 (omega (arith, c.up-deg.ensures)) in
    seen_all T a.at c.loop-c.invariant.0 a.d (entries_below a.m T a.at a.d (sym entries)) (omega (arith, c.up-deg.ensures))
    ∙ matrix-rows a.m T a.at a.d (sym entries)
