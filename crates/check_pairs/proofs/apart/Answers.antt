-- `apart` meets its contract: by exponents where both are alike, and else by references.
use mathlib.Core.Path.{◌∙◌, ap}
use Rattle.definitions.specs.Table.{EXP, word_at}
use Rattle.check_pairs.proofs.Columns.{apart-unlike, apart-alike}
use Rattle.check_pairs.proofs.apart.Goals as goal

pub returns-then-not-alike : goal.returns-then-not-alike
returns-then-not-alike c = let t = c.alike in
    let a = c.args in
    c.common_free.ensures ∙ apart-unlike a.words.now a.one a.d a.e a.i t.ensures (c.if-not-alike.true)

pub returns : goal.returns
returns c = let t = c.alike in
    let a = c.args in
    let T = a.words.now in
    let x = c.word_at-a.ensures ∙ ap (λ l. word_at T l EXP) c.matrix_line.ensures in
    let y = c.word_at-b.ensures ∙ ap (λ l. word_at T l EXP) c.matrix_line-2.ensures in
    let (D, E) = c.requires in
    apart-alike T a.one a.d a.e a.i t.ensures (c.if-not-alike.false) D.positive E.positive x y
