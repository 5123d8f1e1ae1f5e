-- `separated` tests the levels one by one.
use mathlib.Core.Path.{ap}
use native.Mathlib.Omega.{arith}
use lib.ListN.{get_or}
use Rattle.check_pairs.proofs.Levels.{table_more, table-fails, table-holds}
use Rattle.check_pairs.proofs.separated.Goals as goal

pub returns-then-not-level_separated : goal.returns-then-not-level_separated
returns-then-not-level_separated c = let a = c.args in
    let t = c.level_separated in
    let is = ap (λ k. get_or a.primes.now k 0) c.up.ensures in
    table-fails a.s a.primes.now a.words.now (omega arith) is t.ensures c.loop-i.invariant (c.if-not-level_separated.true)

pub loop-i-preserved : goal.loop-i-preserved
loop-i-preserved c = let a = c.args in
    let t = c.level_separated in
    let is = ap (λ k. get_or a.primes.now k 0) c.up.ensures in
    table_more a.s a.primes.now a.words.now (omega arith) is t.ensures c.loop-i.invariant (c.if-not-level_separated.false)

pub returns : goal.returns
returns c = let a = c.args in
    table-holds a.s a.primes.now a.words.now c.loop-i.invariant (omega arith)
