-- The words of the representations above one of the level below, and of a whole level.
--
--   above_words n S r           those above r, on n generators: its extensions, or what its orbit induces if r leads it, or none
--   above_in f W rows r         the same of a level that stands in words
--   next_words f W rows         the words of the level above it
use Rattle.std.specs.Prelude.{cond, List, [], ℕ, suc, ◌+◌, eqb}
use Rattle.definitions.specs.Lists.{blocks}
use Rattle.definitions.specs.Table.{rep_words, level_words}
use Rattle.formulas.specs.Formulas.{Source, fixed, leader, start, extension_at, induction_at, level_by}
use Rattle.survey.specs.declared.Frame.{Frame}
use Rattle.survey.specs.Below.{source_in}

unfoldable pub above_words : (n : ℕ) (S : Source) (r : ℕ) → List ℕ
above_words n S r =
    cond (fixed S r)
    (blocks S.p (λ k. rep_words n (suc S.i) (start S r + k) (extension_at S r k)))
    (cond (eqb (leader S r) r) (rep_words n (suc S.i) (start S r) (induction_at S r)) [])

abbrev pub above_in : Frame → List ℕ → List (List ℕ) → ℕ → List ℕ
above_in f W rows r = above_words f.gens (source_in f W rows) r

abbrev pub next_words : Frame → List ℕ → List (List ℕ) → List ℕ
next_words f W rows = level_words f.gens (suc f.top) (level_by (source_in f W rows))
