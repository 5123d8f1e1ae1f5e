-- `holds_on` goes through the representations of the level.
use mathlib.Core.Path.{refl}
use native.Mathlib.Nat.{le_refl}
use Rattle.numbers.proofs.Passed.{passed_none, passed-more}
use Rattle.seek.proofs.Walk.{walked-none, walked-found, walked-more, walked-all}
use Rattle.seek.proofs.Among.{told-found, level-fails, level_holds}
use Rattle.check_relations.proofs.Everywhere.{Posing, asks}
use Rattle.check_relations.proofs.holds_on.Goals as goal

pub of-d-items-requires : goal.of-d-items-requires
of-d-items-requires g c = let p = c.requires.there in (p.0.1.whole, p.1, p.2)

pub loop-d-init : goal.loop-d-init
loop-d-init g c = walked-none c.of-d-items.ensures c.into_iter-d-iterator.ensures.into_iter_gives (λ q rows primes t. passed_none)

pub test-requires : goal.test-requires
test-requires g c = let F = walked-found c.loop-d.invariant _ refl c.in-Some.ensures.steps in
    let (P, formed) = c.requires.there.0 in
    c.requires.asks c.args.i c.in-Some.d (record { presented = P; formed = formed; r = c.loop-d.d-iterator.rep; found = F })

pub returns-then-not-test : goal.returns-then-not-test
returns-then-not-test g c = λ q rows primes t. let a = c.args in
    let T = a.words.now in
    let F = walked-found c.loop-d.invariant _ refl c.in-Some.ensures.steps in
    let (P, formed) = c.requires.there.0 in
    let told = t.each a.i c.in-Some.d _ (record { presented = P; formed = formed; r = c.loop-d.d-iterator.rep; found = F }) c.test.ensures in
    record { is = level-fails a.s T (Posing a.s rows primes T) (asks q a.s T) a.i (c.loop-d.invariant.known q rows primes t) F told.is c.if-not-test.true }

pub loop-d-preserved : goal.loop-d-preserved
loop-d-preserved g c = let a = c.args in
    let T = a.words.now in
    let F = walked-found c.loop-d.invariant _ refl c.in-Some.ensures.steps in
    let (P, formed) = c.requires.there.0 in
    walked-more c.loop-d.invariant refl c.in-Some.ensures.steps (λ q rows primes t.
    let told = t.each a.i c.in-Some.d _ (record { presented = P; formed = formed; r = c.loop-d.d-iterator.rep; found = F }) c.test.ensures in
    passed-more (c.loop-d.invariant.known q rows primes t) (told-found a.s T (Posing a.s rows primes T) (asks q a.s T) a.i F told.is) c.if-not-test.false)

pub returns : goal.returns
returns g c = λ q rows primes t. let a = c.args in
    let T = a.words.now in
    let all = walked-all c.loop-d.invariant c.next.new.self refl c.in-None.ensures.steps in
    record { is = level_holds a.s T (Posing a.s rows primes T) (asks q a.s T) a.i (all q rows primes t) (le_refl _) }
