-- `holds_everywhere` tests the levels one by one.
use native.Mathlib.Omega.{arith}
use Rattle.numbers.proofs.Passed.{passed-more}
use Rattle.seek.proofs.Among.{up-to-known, table-fails, table-holds}
use Rattle.check_relations.proofs.Everywhere.{Behind, asks, level-told}
use Rattle.check_relations.proofs.holds_everywhere.Goals as goal

pub loop-i-init : goal.loop-i-init
loop-i-init g c = λ q rows primes t. let a = c.args in
    let T = a.words.now in
    up-to-known a.s T (Behind q a.s rows primes T a.from) (asks q a.s T) (λ P p. p.known)

pub returns-then-not-holds_on : goal.returns-then-not-holds_on
returns-then-not-holds_on g c = λ q rows primes t. let a = c.args in
    let T = a.words.now in
    let told = level-told q a.s rows primes T c.loop-i.i (c.holds_on.ensures q rows primes t) in
    record {
      is = table-fails a.s T (Behind q a.s rows primes T a.from) (asks q a.s T) a.s.m (λ P p. p.posed.formed.gens_are)
          (c.loop-i.invariant q rows primes t) (omega arith) (λ P p. told P p.posed) c.if-not-holds_on.true;
    }

pub loop-i-preserved : goal.loop-i-preserved
loop-i-preserved g c = λ q rows primes t. let a = c.args in
    let told = level-told q a.s rows primes a.words.now c.loop-i.i (c.holds_on.ensures q rows primes t) in
    passed-more (c.loop-i.invariant q rows primes t) (λ P p. told P p.posed) c.if-not-holds_on.false

pub returns : goal.returns
returns g c = λ q rows primes t. let a = c.args in
    let T = a.words.now in
    record {
      is = table-holds a.s T (Behind q a.s rows primes T a.from) (asks q a.s T) a.s.m (λ P p. p.posed.formed.gens_are)
          (c.loop-i.invariant q rows primes t) (omega arith);
    }
