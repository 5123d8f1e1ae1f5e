-- `value` meets its contract: v is the value of the first m exponents.
use native.Mathlib.Omega.{arith}
use Rattle.consistency.proofs.Values.{value_none, value-more}
use Rattle.consistency.proofs.Level.value.Goals as goal

pub loop-m-init : goal.loop-m-init
loop-m-init c = let s = c.args.self.now in value_none s.within s.collector.now.prepared.ranged

pub loop-m-preserved : goal.loop-m-preserved
loop-m-preserved c = value-more (omega (arith, c.requires)) c.args.self.now.imaged c.loop-m.invariant c.scaled-s.ensures
