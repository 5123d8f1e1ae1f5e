-- The order so far is the product of the primes so far, and the elements are those of the levels so far.
use mathlib.Core.Path.{◌≡◌, sym, ap, ◌∙◌}
use Prim.Native.Nat.{suc, ◌*◌}
use native.Mathlib.Omega.{arith}
use Rattle.std.proofs.lemmas.List.{get_or-take}
use Rattle.definitions.specs.Lists.{sum}
use Rattle.definitions.specs.Presentation.{line_words}
use Rattle.numbers.proofs.Sums.{sum-zero}
use Rattle.conditions.specs.Conditions.{product}
use Rattle.conditions.proofs.Conditions.{product-zero, product-turn, elements-turn, turn-fits, words-fit}
use Rattle.conditions.proofs.size.measure.Goals as goal

pub loop-p-init : goal.loop-p-init
loop-p-init c = (sym (product-zero c.args.primes.now), sym (sum-zero _), omega arith, omega arith, omega arith)

pub overflow_mul-order : goal.overflow_mul-order
overflow_mul-order c = let l = c.loop-p in
    let ps = c.args.primes.now in
    let is = get_or-take c.args.n ps l.p-index 0 (omega arith) in
    omega (arith, turn-fits ps c.args.n l.p-index l.order _ c.requires.by_index (omega arith) l.invariant.0 is)

pub overflow_add-elements : goal.overflow_add-elements
overflow_add-elements c = let l = c.loop-p in
    let ps = c.args.primes.now in
    let is = get_or-take c.args.n ps l.p-index 0 (omega arith) in
    omega (arith, turn-fits ps c.args.n l.p-index l.order _ c.requires.by_index (omega arith) l.invariant.0 is)

pub loop-p-preserved : goal.loop-p-preserved
loop-p-preserved c = let l = c.loop-p in
    let ps = c.args.primes.now in
    let is = get_or-take c.args.n ps l.p-index 0 (omega arith) in
    let e = product-turn ps l.p-index l.order _ l.invariant.0 is in
    let fits = turn-fits ps c.args.n l.p-index l.order _ c.requires.by_index (omega arith) l.invariant.0 is in
    (e, elements-turn ps l.p-index l.elements _ l.invariant.1 e, omega arith, omega arith, omega arith)

pub overflow_mul-result : goal.overflow_mul-result
overflow_mul-result c = let l = c.loop-p in omega (arith, words-fit c.args.n l.p-index l.elements (omega arith) (omega arith) (omega arith))

pub overflow_mul-result-2 : goal.overflow_mul-result-2
overflow_mul-result-2 c = let l = c.loop-p in omega (arith, words-fit c.args.n l.p-index l.elements (omega arith) (omega arith) (omega arith))

pub returns : goal.returns
unfolding line_words
returns c = let l = c.loop-p in
    let done : l.p-index ≡ c.args.n = omega arith in
    record {
      order_is = l.invariant.0 ∙ ap (product c.args.primes.now) done;
      words_are = ap (λ x. 8 * (c.args.n * x)) (l.invariant.1 ∙ ap (λ k. sum k (λ i. product c.args.primes.now (suc i))) done);
    }
