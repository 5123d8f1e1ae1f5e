-- `width` meets its contract.
use mathlib.Core.Path.{◌∙◌, ap, sym, subst}
use Prim.Native.Nat.{◌<◌}
use lib.ListN.{length}
use Rattle.definitions.specs.Monomial.{rep_of}
use Rattle.definitions.specs.Table.{level_at}
use Rattle.seek.proofs.Columns.{ref-read}
use Rattle.check_pairs.proofs.width.Goals as goal

pub degree_of-requires : goal.degree_of-requires
degree_of-requires c = let T = c.args.words.now in
    let x = ref-read T c.args.d c.args.o c.up.ensures (c.up-2.ensures ∙ c.word_at.ensures) in
    (c.requires.whole, c.requires.level, subst (λ x. x < length (level_at c.args.s.gens T c.args.i)) (sym x) c.requires.listed)

pub returns : goal.returns
returns c = let T = c.args.words.now in
    let x = ref-read T c.args.d c.args.o c.up.ensures (c.up-2.ensures ∙ c.word_at.ensures) in
    let (is, pos) = c.degree_of.ensures in
    (is ∙ ap (λ x. (rep_of (level_at c.args.s.gens T c.args.i) x).deg) x, pos)
