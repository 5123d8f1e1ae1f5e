-- `images_ok` goes through the generators above generator 0.
use mathlib.Core.Path.{sym, ap, ap₂, subst}
use Prim.Native.Nat.{◌+◌, ◌*◌, ◌≤◌}
use native.Mathlib.Omega.{arith}
use lib.ListN.{length}
use Rattle.seek.proofs.Halves.{lines-there}
use Rattle.check_first.proofs.Lines.{reaching-more, image-room, image-is}
use Rattle.check_first.proofs.images_ok.Goals as goal

pub line_is-requires : goal.line_is-requires
line_is-requires c = let q = image-room c.requires.0 c.loop-j.j (omega arith) in (
  omega (arith, ap (λ n. c.args.k * n) c.up-n.ensures, c.up.ensures, q),
  omega (arith, c.requires.0.counted.few),
  omega (arith, c.requires.0.here, c.requires.0.few),
)

pub two_at-requires : goal.two_at-requires
two_at-requires c = let q = image-room c.requires.0 c.loop-j.j (omega arith) in
    (omega (arith, ap (λ n. c.args.k * n) c.up-n.ensures, c.up.ensures, q), omega arith)

pub word_at-requires : goal.word_at-requires
word_at-requires c = let q = image-room c.requires.0 c.loop-j.j (omega arith) in
    (omega (arith, ap (λ n. c.args.k * n) c.up-n.ensures, c.up.ensures, q), omega arith)

pub led_to-requires : goal.led_to-requires
led_to-requires c = let a = c.args in
    let T = a.words.now in
    let q = image-room c.requires.0 c.loop-j.j (omega arith) in (
      omega (arith, ap (λ n. a.k * n) c.up-n.ensures, c.up.ensures, q),
      subst (λ n. 8 * (a.p * n) ≤ length T) (sym c.up-n.ensures) (lines-there T (a.p * a.s.gens) c.requires.0.room),
      omega (arith, c.up-n.ensures, c.requires.0.counted.some),
      c.in-Some.ensures.0,
      c.requires.2,
      c.requires.0.small,
    )

pub loop-j-preserved : goal.loop-j-preserved
loop-j-preserved c = let a = c.args in
    let T = a.words.now in
    let j = c.loop-j.j in
    reaching-more c.loop-j.invariant
    (image-is (ap₂ (λ n j. a.k * n + j) c.up-n.ensures c.up.ensures) c.up-n.ensures c.requires.1
    c.in-Some.ensures.1
    (c.line_is.ensures (c.if-not-line_is.false))
    c.two_at.ensures c.if-two_at-ne0.false c.word_at.ensures (omega (arith, c.if-s-word_at.false))
    (c.led_to.ensures (c.if-not-led_to.false)))
