-- `note_run` goes on as long as the degree stays.
use mathlib.Core.Path.{◌≡◌, refl, sym, ◌∙◌}
use native.Mathlib.Nat.{le_refl}
use native.Mathlib.Omega.{arith}
use Rattle.survey.proofs.Level.{located-line}
use Rattle.survey.proofs.Firsts.{run_more, run-there, run_small}
use Rattle.survey.proofs.note_run.Goals as goal

pub matrix_line-requires : goal.matrix_line-requires
matrix_line-requires c = located-line c.requires.0 c.args.f.gens (le_refl _)

pub word_at-requires : goal.word_at-requires
word_at-requires c = (run-there c.requires.0 c.loop-q.invariant.1 (omega arith), omega arith)

pub overflow_cast-notes : goal.overflow_cast-notes
overflow_cast-notes c = omega (arith, run_small c.requires.0 c.loop-q.invariant.1 (omega arith))

pub overflow_add-line : goal.overflow_add-line
overflow_add-line c = omega (arith, run_small c.requires.0 c.loop-q.invariant.1 (omega arith), c.loop-q.invariant.0)

pub loop-q-preserved : goal.loop-q-preserved
loop-q-preserved c = let I = c.loop-q.invariant in
    let same : c.word_at.result ≡ c.args.d.deg = omega (arith, c.if-word_at-d.false) in
    (I.0, run_more c.requires.0 I.1 _ (omega arith) (sym c.word_at.ensures ∙ same) I.0 refl)
