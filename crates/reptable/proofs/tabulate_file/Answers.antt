-- `tabulate_file` meets its contract: too many bytes are refused, and others are a text.
use native.Mathlib.Omega.{arith}
use Rattle.reptable.proofs.Calls.{file-long, file-short}
use Rattle.reptable.proofs.tabulate_file.Goals as goal

pub returns-then-bytes-gt-TEXT : goal.returns-then-bytes-gt-TEXT
returns-then-bytes-gt-TEXT c =
    let l = file-long c.args.out.now c.if-bytes-gt-TEXT.true in
    record { tabulated = l.0; prefix_len = l.1 }

pub returns : goal.returns
returns c = record { tabulated = file-short (omega arith) c.tabulate.ensures.tabulated; prefix_len = c.tabulate.ensures.prefix_len }
