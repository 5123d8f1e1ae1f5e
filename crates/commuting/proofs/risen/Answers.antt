-- `risen` meets its contract: generator c commutes with every generator below j.
use mathlib.Core.Path.{subst}
use Rattle.commuting.specs.Commuting.{Reach}
use Rattle.commuting.proofs.Skips.{rise-first}
use Rattle.commuting.proofs.risen.Goals as goal

pub loop-j-init : goal.loop-j-init
loop-j-init c = rise-first (subst (Reach c.args.rows.now c.args.c) c.if-reach-c-ne0.false c.requires.2)
