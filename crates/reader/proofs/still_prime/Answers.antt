-- The test, case by case.
use mathlib.Core.Path.{sym, ap, ◌∙◌}
use mathlib.Core.Bool.{Bool, ◌&&◌}
use borrow.Author.Tests.{eq-eqb, ne_eqb}
use Rattle.reader.specs.Rows.{passes}
use Rattle.reader.proofs.still_prime.Goals as goal

pub returns-then-not-primes : goal.returns-then-not-primes
returns-then-not-primes c = let a = c.args in
    ap (λ (b : Bool). b && passes a.j a.i a.p) (sym (c.if-not-primes.true))

pub returns-then-i-j : goal.returns-then-i-j
returns-then-i-j c = let a = c.args in
    sym (rw (c.if-not-primes.false, ne_eqb a.i a.j c.if-i-j.true))

pub returns : goal.returns
returns c = let a = c.args in
    c.is_prime.ensures ∙ sym (rw (c.if-not-primes.false, eq-eqb a.i a.j c.if-i-j.false))
