-- One law for each way to go on.
use native.Mathlib.Omega.{arith}
use Rattle.definitions.specs.Text.{largest}
use Rattle.reader.proofs.Pairs.{next-inner, next-generator, next-first, next_power}
use Rattle.reader.proofs.next_pair.Goals as goal

pub returns-then-i-j-2 : goal.returns-then-i-j-2
returns-then-i-j-2 c = let a = c.args in
    (next-inner a.j a.i (omega arith), omega arith, omega arith)

pub overflow_add-result-then-i-j : goal.overflow_add-result-then-i-j
unfolding largest
overflow_add-result-then-i-j c = omega arith

pub overflow_add-result-then-i-j-2 : goal.overflow_add-result-then-i-j-2
unfolding largest
overflow_add-result-then-i-j-2 c = omega arith

pub returns-then-i-j : goal.returns-then-i-j
returns-then-i-j c = let a = c.args in
    (next-generator a.j a.i (omega arith) (omega arith), omega arith, omega arith)

pub returns-then-j-eq0 : goal.returns-then-j-eq0
returns-then-j-eq0 c = let a = c.args in
    (next-first a.j a.i (omega arith) (omega arith), omega arith, omega arith)

pub returns : goal.returns
returns c = let a = c.args in
    (next_power a.j a.i (omega arith) (omega arith), omega arith, omega arith)
