-- `rep_ok` meets its contract: matrices, blocks, references, targets.
use mathlib.Core.Path.{sym, ◌∙◌}
use Rattle.check_form.proofs.Form.{body-matrices, body-blocks, body-refs, body-targets}
use Rattle.check_form.proofs.rep_ok.Goals as goal

pub returns-then-not-matrices_ok : goal.returns-then-not-matrices_ok
returns-then-not-matrices_ok c = let matrices-ok = c.matrices_ok in
    body-matrices c.args.s.gens c.args.s.m c.args.words.now c.args.i c.args.d
    (sym matrices-ok.ensures ∙ c.if-not-matrices_ok.true)

pub returns-then-not-blocks_ok : goal.returns-then-not-blocks_ok
returns-then-not-blocks_ok c = let blocks-ok = c.blocks_ok in
    let matrices-ok = c.matrices_ok in
    let matrices = sym matrices-ok.ensures ∙ c.if-not-matrices_ok.false in
    body-blocks c.args.s.gens c.args.s.m c.args.words.now c.args.i c.args.d matrices
    (sym blocks-ok.ensures ∙ c.if-not-blocks_ok.true)

pub returns-then-not-refs_equal : goal.returns-then-not-refs_equal
returns-then-not-refs_equal c = let refs-equal = c.refs_equal in
    let blocks-ok = c.blocks_ok in
    let matrices-ok = c.matrices_ok in
    let matrices = sym matrices-ok.ensures ∙ c.if-not-matrices_ok.false in
    let blocks = sym blocks-ok.ensures ∙ c.if-not-blocks_ok.false in
    body-refs c.args.s.gens c.args.s.m c.args.words.now c.args.i c.args.d matrices blocks
    (sym refs-equal.ensures ∙ c.if-not-refs_equal.true)

pub returns : goal.returns
returns c = let refs-equal = c.refs_equal in
    let blocks-ok = c.blocks_ok in
    let matrices-ok = c.matrices_ok in
    let T = c.args.words.now in
    let matrices = sym matrices-ok.ensures ∙ c.if-not-matrices_ok.false in
    let blocks = sym blocks-ok.ensures ∙ c.if-not-blocks_ok.false in
    c.targets_ok.ensures
    ∙ body-targets c.args.s.gens c.args.s.m T c.args.i c.args.d matrices blocks c.args.many c.requires.1.counts
    (sym refs-equal.ensures ∙ c.if-not-refs_equal.false)
