-- `first_level` appends the powers of the root one behind the other.
use mathlib.Core.Path.{◌≡◌}
use Prim.Native.Nat.{◌<◌}
use native.Mathlib.Omega.{arith}
use borrow.Author.Rules.{rules}
use Rattle.lines.proofs.Appending.{going-none, going_more}
use Rattle.first.specs.Roots.{first_words}
use Rattle.first.proofs.Lines.{root-room}
use Rattle.first.proofs.first_level.Goals as goal

pub loop-k-init : goal.loop-k-init
loop-k-init c = going-none (omega arith) (omega arith)

pub append_root-pos-requires : goal.append_root-pos-requires
append_root-pos-requires c = let l = c.loop-k in
    let less-than : l.k < c.args.p = search rules in
    (c.requires.0, c.requires.1, c.requires.2, less-than, c.requires.3, root-room _ _ _ _ l.invariant less-than c.requires.4)

pub loop-k-preserved : goal.loop-k-preserved
loop-k-preserved c = going_more c.loop-k.invariant c.append_root-pos.ensures

pub returns : goal.returns
unfolding first_words
returns c = let e : c.loop-k.k ≡ c.args.p = omega arith in rw e at c.loop-k.invariant.wrote
