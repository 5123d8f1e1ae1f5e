-- The words that rows say.
--
--   says-word, says-power      the word of a pair, and the power word of the generator on top, in the rows
use mathlib.Core.Path.{◌≡◌, ◌∙◌, ap, ap₂}
use mathlib.Core.List.{List, []}
use Prim.Native.Nat.{ℕ, suc, ◌<◌}
use lib.ListN.{get_or}
use Rattle.definitions.specs.Presentation.{Presentation, to_nf, pair_number}
use Rattle.seek.specs.declared.Scope.{Scope}
use Rattle.relations.specs.Said.{PowerOf, WordOf, SaysTop}

module _ {s : Scope} {rows : List (List ℕ)} {i p : ℕ} {P : Presentation} (S : SaysTop s rows i p P) where
  pub says-word : (j : ℕ) → i < j → j < s.gens → (w : List ℕ) (a b : ℕ) → w ≡ get_or rows (pair_number a b) [] → a ≡ j → b ≡ i → WordOf i j w P
  says-word j l h w a b is ja bi = record { word = ap (to_nf (suc i)) (is ∙ ap₂ (λ a b. get_or rows (pair_number a b) []) ja bi) ∙ S.word j l h }

  pub says-power : (u : List ℕ) (a : ℕ) → u ≡ get_or rows (pair_number a a) [] → a ≡ i → PowerOf i p u P
  says-power u a is ai = record { prime = S.prime; word = ap (to_nf i) (is ∙ ap (λ a. get_or rows (pair_number a a) []) ai) ∙ S.power }
