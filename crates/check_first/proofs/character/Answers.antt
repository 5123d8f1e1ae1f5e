-- `character` looks at the line of generator 0, takes its exponent, and goes on to the others.
use mathlib.Core.Path.{sym, ◌∙◌, ap}
use Prim.Native.Nat.{◌*◌}
use native.Mathlib.Omega.{arith}
use Rattle.definitions.specs.Table.{EXP, word_at}
use Rattle.check_first.proofs.Marks.{takes-as, multiple-small}
use Rattle.check_first.proofs.Lines.{image-room, placed, head-is}
use Rattle.check_first.proofs.character.Goals as goal

pub line_is-requires : goal.line_is-requires
line_is-requires c = let P = placed c.requires.0.parted c.requires.1 in
    let q = image-room P 0 c.requires.0.parted.counted.some in
    (omega (arith, ap (λ n. c.args.k * n) c.up.ensures, q), omega arith, omega (arith, P.here, P.few))

pub two_at-requires : goal.two_at-requires
two_at-requires c = let q = image-room (placed c.requires.0.parted c.requires.1) 0 c.requires.0.parted.counted.some in
    (omega (arith, ap (λ n. c.args.k * n) c.up.ensures, q), omega arith)

pub word_at-requires : goal.word_at-requires
word_at-requires c = let q = image-room (placed c.requires.0.parted c.requires.1) 0 c.requires.0.parted.counted.some in
    (omega (arith, ap (λ n. c.args.k * n) c.up.ensures, q), omega arith)

pub word_at-e-requires : goal.word_at-e-requires
word_at-e-requires c = let q = image-room (placed c.requires.0.parted c.requires.1) 0 c.requires.0.parted.counted.some in
    (omega (arith, ap (λ n. c.args.k * n) c.up.ensures, q), omega arith)

pub images_ok-requires : goal.images_ok-requires
images_ok-requires c = let a = c.args in
    let M = c.requires.0 in
    let T = a.words.now in
    let P = placed M.parted c.requires.1 in
    let t = c.take.ensures (c.if-not-take.false) in
    let (k, l, e) = M.allowed.only c.up-2.result t.free in (
      P,
      c.word_at-e.ensures ∙ ap (λ n. word_at T (a.k * n) EXP) c.up.ensures,
      omega (arith, c.up-2.ensures, e, multiple-small a.p M.part a.s.m k M.parted.product M.parted.positive l),
    )

pub returns : goal.returns
returns c = λ x.
    let a = c.args in
    let T = a.words.now in
    let at = ap (λ n. a.k * n) c.up.ensures in
    let t = c.take.ensures (c.if-not-take.false) in
    record {
      is = head-is at (c.line_is.ensures (c.if-not-line_is.false))
          c.two_at.ensures c.if-two_at-ne0.false
          (sym c.word_at.ensures ∙ c.if-word_at-ne0.false) (c.images_ok.ensures x);
      takes = takes-as (c.up-2.ensures ∙ c.word_at-e.ensures ∙ ap (λ l. word_at T l EXP) at) t;
    }
