-- Laws of words in bytes.
--
--   digit-yes, digit-no                        the test of a digit, by its two parts
--   behind-space, behind-line, behind-other    the number of the word behind a byte
--   added_none, added-digit, added_out         a byte added to word k
--   Parsing, parsing-none, parsing-more, parsing-all     the first i bytes added
use mathlib.Core.Path.{◌≡◌, refl, sym, ap, ap₂, ◌∙◌}
use mathlib.Core.Bool.{Bool, true, false, ◌&&◌, ◌||◌, cond}
use mathlib.Core.List.{List}
use Prim.Native.Nat.{ℕ, suc, ◌+◌, ◌<◌, ◌≤◌}
use native.Mathlib.Numerals.{add-one}
use native.Mathlib.Omega.{arith}
use lib.ListN.{length, get_or, set}
use lib.Seq.{set_out}
use lib.Dec.{eqb, leb}
use borrow.Author.Tests.{eq-eqb, ne_eqb, le-leb, lt-leb}
use Rattle.case_input.specs.Parsed.{is_digit, ends, with_digit, with_byte, word_of, parsed_to, parsed}

module _ (b : ℕ) where
  pub digit-yes : 48 ≤ b → leb b 57 ≡ is_digit b
  digit-yes l = ap (λ x. x && leb b 57) (sym (le-leb 48 b l))

  pub digit-no : b < 48 → leb 48 b ≡ is_digit b
  digit-no l = let q = lt-leb 48 b l in q ∙ sym (ap (λ x. x && leb b 57) q)

  module _ (k : ℕ) where
    pub behind-space : b ≡ 32 → k + 1 ≡ cond (ends b) (suc k) k
    behind-space e = add-one k ∙ sym (ap (λ x. cond (x || eqb b 10) (suc k) k) (eq-eqb b 32 e))

    pub behind-line : ¬ (b ≡ 32) → b ≡ 10 → k + 1 ≡ cond (ends b) (suc k) k
    behind-line n e = add-one k ∙ sym (ap₂ (λ x y. cond (x || y) (suc k) k) (ne_eqb b 32 n) (eq-eqb b 10 e))

    pub behind-other : ¬ (b ≡ 32) → ¬ (b ≡ 10) → k ≡ cond (ends b) (suc k) k
    behind-other m n = sym (ap₂ (λ x y. cond (x || y) (suc k) k) (ne_eqb b 32 m) (ne_eqb b 10 n))

-- at most one more
cond-le : (x : Bool) (k r : ℕ) → r ≡ cond x (suc k) k → r ≤ k + 1
cond-le true k r e = omega arith
cond-le false k r e = omega arith

module _ (ws : List ℕ) (k b : ℕ) where
  pub added_none : is_digit b ≡ false → ws ≡ with_byte ws k b
  unfolding with_byte
  added_none e = sym (ap (λ x. cond x (set ws k (with_digit (get_or ws k 0) b)) ws) e)

  pub added-digit : {w : ℕ} → is_digit b ≡ true → w ≡ with_digit (get_or ws k 0) b → set ws k w ≡ with_byte ws k b
  unfolding with_byte
  added-digit e q = ap (set ws k) q ∙ sym (ap (λ x. cond x (set ws k (with_digit (get_or ws k 0) b)) ws) e)

  pub added_out : is_digit b ≡ true → length ws ≤ k → ws ≡ with_byte ws k b
  unfolding with_byte
  added_out e l = sym (set_out ws k (with_digit (get_or ws k 0) b) l) ∙ added-digit e refl

-- ---- The first i bytes

pub record Parsing (s ws₀ ws : List ℕ) (k i : ℕ) : Type 0 where
  pub words : ws ≡ parsed_to s ws₀ i
  pub word : k ≡ word_of s i
  pub few : k ≤ i
  pub within : i ≤ length s

module _ (s ws₀ : List ℕ) (i : ℕ) where
  step_words : with_byte (parsed_to s ws₀ i) (word_of s i) (get_or s i 0) ≡ parsed_to s ws₀ (suc i)
  unfolding parsed_to
  step_words = refl

  step-word : cond (ends (get_or s i 0)) (suc (word_of s i)) (word_of s i) ≡ word_of s (suc i)
  unfolding word_of
  step-word = refl

module _ {s ws₀ : List ℕ} where
  pub parsing-none : Parsing s ws₀ ws₀ 0 0
  unfolding parsed_to word_of
  parsing-none = record { words = refl; word = refl; few = omega arith; within = omega arith }

  module _ {ws : List ℕ} {k i : ℕ} (P : Parsing s ws₀ ws k i) where
    pub parsing-more : {after : List ℕ} {r : ℕ} → i < length s → after ≡ with_byte ws k (get_or s i 0) → r ≡ cond (ends (get_or s i 0)) (suc k) k
        → Parsing s ws₀ after r (i + 1)
    parsing-more {after} {r} l w e =
        record {
          words =
              w ∙ ap₂ (λ v j. with_byte v j (get_or s i 0)) P.words P.word ∙ step_words s ws₀ i ∙ ap (parsed_to s ws₀) (sym (add-one i));
          word = e ∙ ap (λ j. cond (ends (get_or s i 0)) (suc j) j) P.word ∙ step-word s ws₀ i ∙ ap (word_of s) (sym (add-one i));
          few = omega (arith, cond-le (ends (get_or s i 0)) k r e, P.few);
          within = omega arith;
        }

    pub parsing-all : length s ≤ i → ws ≡ parsed s ws₀
    unfolding parsed
    parsing-all l = let e : i ≡ length s = omega (arith, P.within) in P.words ∙ ap (parsed_to s ws₀) e
