-- `led_to` compares the exponents of generator 0.
use borrow.Author.Tests.{eqb-true}
use mathlib.Core.Path.{◌≡◌, ◌∙◌, ap}
use Prim.Native.Nat.{suc, ◌*◌, ◌%◌, ◌≤◌}
use native.Mathlib.Omega.{arith}
use native.Mathlib.Nat.{mod-eq_of_lt, mul-le-mul, mul-le-mul_right}
use Rattle.definitions.specs.Presentation.{max_order}
use Rattle.check_first.specs.First.{exponent_of}
use Rattle.check_first.proofs.led_to.Goals as goal

pub overflow_mul-t : goal.overflow_mul-t
overflow_mul-t c = let t = c.up-t.result in
    let q : suc t * c.args.n ≤ c.args.p * c.args.n = mul-le-mul_right {m = suc t} {n = c.args.p} c.args.n (omega arith) in
    omega (arith, q, c.requires.1, c.well_formed)

pub word_at-f-requires : goal.word_at-f-requires
word_at-f-requires c = let t = c.up-t.result in
    let q : suc t * c.args.n ≤ c.args.p * c.args.n = mul-le-mul_right {m = suc t} {n = c.args.p} c.args.n (omega arith) in
    (omega (arith, q, c.requires.1, c.requires.2), omega arith)

pub returns-then-a-eq1 : goal.returns-then-a-eq1
returns-then-a-eq1 c = λ x.
    let a = c.args in
    let t = c.up-t.ensures ∙ c.word_at.ensures in
    let f = c.word_at-f.ensures ∙ ap (exponent_of a.n a.words.now) t in
    let one : a.a * a.e ≡ a.e = omega (arith, ap (λ k. k * a.e) c.if-a-eq1.true) in
    record {
      listed = omega (arith, c.if-p-t.false, t);
      image = ap (λ k. k % a.m) one ∙ mod-eq_of_lt c.requires.4 ∙ eqb-true _ _ x ∙ f;
    }

pub overflow_mul-result : goal.overflow_mul-result
overflow_mul-result c = let a = c.args in
    let q : a.a * a.e ≤ max_order * max_order = mul-le-mul {n₁ = a.a} {m₁ = a.e} {n₂ = max_order} {m₂ = max_order} c.requires.3
    (omega (arith, c.requires.4, c.requires.5)) in
    omega (arith, q)

pub returns : goal.returns
returns c = λ x.
    let a = c.args in
    let t = c.up-t.ensures ∙ c.word_at.ensures in
    let f = c.word_at-f.ensures ∙ ap (exponent_of a.n a.words.now) t in
    record { listed = omega (arith, c.if-p-t.false, t); image = eqb-true _ _ x ∙ f }
