-- `word_at` reads a word of a line.
use mathlib.Core.Path.{refl}
use Rattle.definitions.specs.Presentation.{line_words}
use Rattle.definitions.specs.Table.{word_at}
use Rattle.level.proofs.word_at.Goals as goal

pub returns : goal.returns
unfolding word_at line_words
returns c = refl
