-- One answer for each way through.
use Rattle.std.proofs.Common.{refl, arith, rules}
use Rattle.presentation.proofs.Judged.{unnamed, unlined, refused-form, not-prime, primes-positive, too_many, concluded}
use Rattle.presentation.proofs.read.Goals as goal

pub returns-in_default : goal.returns-in_default
returns-in_default c = refused-form (unnamed (c.names.ensures.fails c.in_default.is))

pub read_lines-requires : goal.read_lines-requires
read_lines-requires c = let m = c.names.ensures.stands _ _ c.in-Some.is in
    (m.within, m.few, search rules, refl)

pub returns-in_default-read_lines : goal.returns-in_default-read_lines
returns-in_default-read_lines c = let m = c.names.ensures.stands _ _ c.in-Some.is in
    refused-form (unlined m (c.read_lines.ensures.fails c.in_default-read_lines.is))

pub returns-then-not-primes : goal.returns-then-not-primes
returns-then-not-primes c = let m = c.names.ensures.stands _ _ c.in-Some.is in
    let a = c.read_lines.ensures.stands _ c.in-Some-read_lines.is in
    not-prime m a c.if-not-primes.true

pub returns-then-count-gt-GENERATORS : goal.returns-then-count-gt-GENERATORS
returns-then-count-gt-GENERATORS c = let m = c.names.ensures.stands _ _ c.in-Some.is in
    let a = c.read_lines.ensures.stands _ c.in-Some-read_lines.is in
    too_many m a c.if-not-primes.false (omega arith)

pub conclude-requires-clause-by_index : goal.conclude-requires-clause-by_index
conclude-requires-clause-by_index c = let m = c.names.ensures.stands _ _ c.in-Some.is in
    let a = c.read_lines.ensures.stands _ c.in-Some-read_lines.is in
    primes-positive m a c.if-not-primes.false (omega arith)

pub returns : goal.returns
returns c = let m = c.names.ensures.stands _ _ c.in-Some.is in
    let a = c.read_lines.ensures.stands _ c.in-Some-read_lines.is in
    concluded m a c.if-not-primes.false (omega arith) c.conclude.ensures
