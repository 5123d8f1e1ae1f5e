-- `rep_heads` meets its contract: column after column.
use mathlib.Core.Path.{sym, ◌∙◌, ap}
use Prim.Native.Nat.{◌+◌}
use native.Mathlib.Omega.{arith}
use Rattle.numbers.proofs.Tested.{tested-all, tested-fails}
use Rattle.check_heads.proofs.Places.{columns-are, column-room, first-other}
use Rattle.check_heads.proofs.rep_heads.Goals as goal

pub returns-then-up-p : goal.returns-then-up-p
returns-then-up-p c = let a = c.args in
    first-other a.words.now a.p a.d.line a.d.deg a.n c.requires.1 c.requires.2
    (c.up.ensures ∙ c.word_at.ensures) c.if-up-p.true

pub column_heads-requires : goal.column_heads-requires
column_heads-requires c = let a = c.args in (
  omega (arith, c.up.ensures, c.if-up-p.false),
  column-room a.words.now a.p a.d.line a.d.deg a.n c.requires.0 (ap (λ k. a.d.line + k) c.up-in-loop-c.ensures) c.loop-c-test.true,
)

pub returns-then-not-column_heads : goal.returns-then-not-column_heads
returns-then-not-column_heads c = let a = c.args in
    let column = rw c.up-in-loop-c.ensures at c.column_heads.ensures in
    tested-fails c.loop-c.invariant {n = a.d.deg} c.loop-c-test.true
    (sym column ∙ c.if-not-column_heads.true)
    ∙ columns-are a.words.now a.p a.d.line a.d.deg a.n

pub returns : goal.returns
returns c = let a = c.args in
    tested-all c.loop-c.invariant {n = a.d.deg} c.loop-c-test.false ∙ columns-are a.words.now a.p a.d.line a.d.deg a.n
