-- `put_line`: eight stores in a row.
use Prim.Native.Nat.{◌*◌}
use native.Mathlib.Omega.{arith}
use Rattle.lines.specs.Lines.{head_line}
use Rattle.lines.proofs.Written.{put-eight}
use Rattle.lines.proofs.put_line.Goals as goal

pub returns : goal.returns
unfolding head_line
returns c = let h = c.args.h in
    record {
      content = put-eight _ (8 * c.args.at) h.level h.rep h.deg h.generator h.refn _
          c.args.x.row c.args.x.exp (omega arith);
      end = omega arith;
      room = omega arith;
    }
