-- The relations of a representation, their words looked up.
--
--   power-read, word_read        prime and words that the rows say
--   word-looked                  a word that was looked up
--   top-fails, top-rest          the relations of a generator, by its power relation
--   relations-top                all relations are those of each generator with the ones below it
use mathlib.Core.Path.{◌≡◌, refl, sym, ◌∙◌, ap, ap₂, subst}
use mathlib.Core.Bool.{Bool, true, false, ◌&&◌}
use mathlib.Core.List.{List, []}
use Prim.Native.Nat.{ℕ, ◌<◌}
use lib.ListN.{get_or}
use Rattle.definitions.specs.Lists.{all_below}
use Rattle.definitions.specs.Presentation.{Presentation, to_nf, pair_number}
use Rattle.definitions.specs.Judgement.{relations_hold}
use Rattle.rows.specs.Rows.{Reads}
use Rattle.separation.specs.Relations.{top_relations}
use Rattle.level.specs.declared.Listed.{Listed}
use Rattle.seek.specs.declared.Scope.{Scope}
use Rattle.relations.specs.Said.{PowerOf, WordOf, WordIn}
use Rattle.relations.specs.Tests.{power_in, commutator_in, top_in, relations_in}

-- ---- Words

module _ {P : Presentation} {n : ℕ} {primes : List ℕ} {rows : List (List ℕ)} (R : Reads P n primes rows) where
  pub power-read : (j t p : ℕ) (u : List ℕ) → j < n → t ≡ j → p ≡ get_or primes t 0 → u ≡ get_or rows (pair_number t t) [] → PowerOf j p u P
  power-read j t p u l e prime word = record {
    prime = prime ∙ ap (λ t. get_or primes t 0) e ∙ R.p_is j l;
    word = ap (to_nf j) (word ∙ ap (λ t. get_or rows (pair_number t t) []) e) ∙ R.u_is j l;
  }

  pub word_read : (k j : ℕ) → k < j → j < n → WordIn k j rows P
  word_read k j l h = record { word = R.w_is k j l h }

pub word-looked : {P : Presentation} {k j : ℕ} (rows : List (List ℕ)) {a b : ℕ} {w : List ℕ} → a ≡ j → b ≡ k → w ≡ get_or rows (pair_number a b) []
    → WordIn k j rows P → WordOf k j w P
word-looked {P} {k} {j} rows e f is W =
    subst (λ w. WordOf k j w P) (sym (is ∙ ap₂ (λ a b. get_or rows (pair_number a b) []) e f)) W

-- ---- Relations

module _ (s : Scope) (T : List ℕ) (D : Listed) (P : Presentation) where
  module _ (j : ℕ) {b : Bool} (power : b ≡ power_in s T D j P) where
    pub top-fails : b ≡ false → false ≡ top_in s T D j P
    unfolding top_relations
    top-fails e = sym (ap (λ b. b && all_below j (λ k. commutator_in s T D k j P)) (sym power ∙ e))

    pub top-rest : b ≡ true → all_below j (λ k. commutator_in s T D k j P) ≡ top_in s T D j P
    unfolding top_relations
    top-rest e = sym (ap (λ b. b && all_below j (λ k. commutator_in s T D k j P)) (sym power ∙ e))

  pub relations-top : (i : ℕ) → all_below i (λ j. top_in s T D j P) ≡ relations_in s T D i P
  unfolding top_relations relations_hold
  relations-top i = refl
