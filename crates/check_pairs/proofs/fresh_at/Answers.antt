-- `fresh_at` meets its contract: the columns before o have other references.
use mathlib.Core.Path.{◌∙◌, ap}
use Prim.Native.Nat.{◌+◌}
use Rattle.definitions.specs.Table.{REF, word_at}
use Rattle.check_pairs.proofs.Columns.{fresh-is}
use Rattle.check_pairs.proofs.fresh_at.Goals as goal

pub returns : goal.returns
returns c = let T = c.args.words.now in
    let x = c.word_at-x.ensures ∙ ap (λ k. word_at T (c.args.d.line + k) REF) c.up.ensures in
    c.free_of.ensures ∙ fresh-is T c.args.d c.args.o x
