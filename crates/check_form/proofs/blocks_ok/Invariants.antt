-- `blocks_ok` meets its contract: what is left to cut says what all cuts say.
use Prim.Native.Nat.{◌-◌}
use Rattle.definitions.specs.Table.{level_at}
use Rattle.definitions.specs.Judgement.{whole_block}
use Rattle.heads.proofs.Cutting.{Cutting}
use Rattle.check_form.specs.Form.{listed_rep}
use Rattle.check_form.proofs.blocks_ok.Given as goal

abbrev pub invariant-loop-o : goal.invariant-loop-o
invariant-loop-o l = Cutting (level_at l.s.gens l.words l.i) (listed_rep l.words l.d) (whole_block (level_at l.s.gens l.words l.i) (listed_rep l.words l.d)) l.o

abbrev pub decreases-loop-o : goal.decreases-loop-o
decreases-loop-o l = l.d.deg - l.o
