-- The names are read one by one: `NamesGoing` is what has been read.
use mathlib.Core.Path.{sym, subst, ◌∙◌}
use mathlib.Core.Bool.{true≢false}
use native.Mathlib.Omega.{arith}
use Rattle.definitions.specs.Text.{largest}
use Rattle.text.proofs.Reading.{byte-within}
use Rattle.reader.specs.Lines.{NamesAt}
use Rattle.reader.proofs.Naming.{names-unstarted, names-none, names_more, names-fails, names-other, names-stops, names-end}
use Rattle.reader.proofs.names.Goals as goal

pub returns-then-not-starts : goal.returns-then-not-starts
returns-then-not-starts c = names-unstarted (λ h. true≢false (sym (c.starts.ensures.1 h) ∙ c.if-not-starts.true))

pub loop-n-init : goal.loop-n-init
loop-n-init c = names-none (c.starts.ensures.0 c.if-not-starts.false)

pub returns-in_err-v : goal.returns-in_err-v
returns-in_err-v c = subst (NamesAt c.args.text.now) (sym c.from_residual.ensures)
    (names-fails c.loop-n.invariant (omega arith) (c.next_name.ensures.fails c.in_err-v.was))

pub returns-then-v-n : goal.returns-then-v-n
returns-then-v-n c = names-other c.loop-n.invariant (c.next_name.ensures.stands _ _ c.in_ok-v.was) c.if-v-n.true

pub loop-n-smaller : goal.loop-n-smaller
loop-n-smaller c = let k = c.next_name.ensures.stands _ _ c.in_ok-v.was in
    omega (arith, k.further, k.within)

pub loop-n-preserved : goal.loop-n-preserved
loop-n-preserved c = names_more c.loop-n.invariant (c.next_name.ensures.stands _ _ c.in_ok-v.was) c.if-v-n.false

pub returns-then-byte_at-ne10 : goal.returns-then-byte_at-ne10
returns-then-byte_at-ne10 c = names-stops c.loop-n.invariant (λ q. omega arith) (λ l q. omega arith)

pub returns : goal.returns
returns c = names-end c.loop-n.invariant (omega arith) (omega arith) (byte-within c.args.text.now c.loop-n.at (omega arith))

pub returns-then-n-eq0 : goal.returns-then-n-eq0
returns-then-n-eq0 c = names-stops c.loop-n.invariant (λ q. omega arith) (λ l q. omega arith)

pub overflow_add-n : goal.overflow_add-n
unfolding largest
overflow_add-n c = omega arith
