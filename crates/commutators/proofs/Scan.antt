-- The scan over the exponents of commutator words, in its order: by j, then by i below j, then by exponent up to i.
--
--   Scanned rows j i k            every exponent before exponent k of the word of (j, i) is 0
--   scanned-none, scanned-exponent, scanned-word, scanned-words     from one exponent to the next
--   scanned-all, one_found        the scan ends behind the last word, or at an exponent that is not 0
--   empty-words, words-empty      rows whose words are empty are those of a presentation whose commutator words are
use mathlib.Core.Path.{◌≡◌, refl, sym, ◌∙◌, ap, subst}
use mathlib.Core.Logic.{◌≢◌}
use mathlib.Core.Bool.{Bool, true, false}
use mathlib.Core.List.{List, []}
use Prim.Native.Nat.{ℕ, suc, ◌+◌, ◌≤◌, ◌<◌}
use native.Mathlib.Numerals.{add-one}
use native.Mathlib.Omega.{arith}
use lib.ListN.{get_or}
use Rattle.definitions.specs.Lists.{all_below}
use Rattle.definitions.specs.Presentation.{Presentation, to_nf, trivial, pair_number}
use Rattle.numbers.proofs.Lists.{below_suc, all_below-elim, all_below-intro, all_below-fails}
use Rattle.numbers.proofs.Bools.{refuted}
use Rattle.group.specs.Models.{WordsEmpty}
use Rattle.group.proofs.Clauses.{same_form-eq, eq-same_form}
use Rattle.group.proofs.Rows.{to_nf-get, to_nf-trivial}
use Rattle.rows.specs.Rows.{Reads}
use Rattle.commuting.specs.Commuting.{empty_at}
use Rattle.commutators.specs.Empty.{rows_empty}

-- the word of (b, a), exponent c of it, and whether it is empty
abbrev word : (rows : List (List ℕ)) (b a : ℕ) → List ℕ
word rows b a = get_or rows (pair_number b a) []

abbrev exponent : (rows : List (List ℕ)) (b a c : ℕ) → ℕ
exponent rows b a c = get_or (word rows b a) c 0

abbrev empty : (rows : List (List ℕ)) (b a : ℕ) → Bool
empty rows b a = empty_at (suc a) (word rows b a)

all-empty : (rows : List (List ℕ)) (n : ℕ) → ((b a : ℕ) → b < n → a < b → to_nf (suc a) (word rows b a) ≡ trivial (suc a))
    → rows_empty rows n ≡ true
all-empty rows n h =
    all_below-intro n (λ b. all_below b (empty rows b)) (λ b p. all_below-intro b (empty rows b) (λ a q. eq-same_form (suc a) _ _ (h b a p q)))

trivial-to_nf : (i : ℕ) (x : List ℕ) → to_nf i x ≡ trivial i → (k : ℕ) → k < i → get_or x k 0 ≡ 0
trivial-to_nf i x e = to_nf-get i x [] (e ∙ sym (to_nf-trivial i [] (λ c l. refl)))

pub record Scanned (rows : List (List ℕ)) (j i k : ℕ) : Type 0 where
  pub words : (b : ℕ) → b < j → (a : ℕ) → a < b → (c : ℕ) → c < suc a → exponent rows b a c ≡ 0
  pub word : (a : ℕ) → a < i → (c : ℕ) → c < suc a → exponent rows j a c ≡ 0
  pub part : (c : ℕ) → c < k → exponent rows j i c ≡ 0

module _ {rows : List (List ℕ)} where
  pub scanned-none : Scanned rows 1 0 0
  scanned-none = record { words = λ b l a m. absurd (omega arith); word = λ a l. absurd (omega arith); part = λ c l. absurd (omega arith) }

  module _ {j i k : ℕ} (t : Scanned rows j i k) where
    pub scanned-exponent : {at : ℕ} → at ≡ pair_number j i → get_or (get_or rows at []) k 0 ≡ 0 → Scanned rows j i (k + 1)
    scanned-exponent is e = record {
      words = t.words;
      word = t.word;
      part = subst (λ n. (c : ℕ) → c < n → exponent rows j i c ≡ 0) (sym (add-one k))
          (below_suc k (λ c. exponent rows j i c ≡ 0) t.part (subst (λ at. get_or (get_or rows at []) k 0 ≡ 0) is e));
    }

    pub scanned-word : i < k → Scanned rows j (i + 1) 0
    scanned-word l = record {
      words = t.words;
      word = subst (λ n. (a : ℕ) → a < n → (c : ℕ) → c < suc a → exponent rows j a c ≡ 0) (sym (add-one i))
          (below_suc i (λ a. (c : ℕ) → c < suc a → exponent rows j a c ≡ 0) t.word (λ c m. t.part c (omega arith)));
      part = λ c m. absurd (omega arith);
    }

    pub scanned-words : j ≤ i → Scanned rows (j + 1) 0 0
    scanned-words l = record {
      words = subst (λ n. (b : ℕ) → b < n → (a : ℕ) → a < b → (c : ℕ) → c < suc a → exponent rows b a c ≡ 0) (sym (add-one j))
          (below_suc j (λ b. (a : ℕ) → a < b → (c : ℕ) → c < suc a → exponent rows b a c ≡ 0) t.words (λ a m. t.word a (omega arith)));
      word = λ a m. absurd (omega arith);
      part = λ c m. absurd (omega arith);
    }

    pub scanned-all : {n : ℕ} → n ≤ j → rows_empty rows n ≡ true
    scanned-all {n} l = all-empty rows n (λ b a p q. to_nf-trivial (suc a) (word rows b a) (t.words b (omega arith) a q))

pub one_found : (rows : List (List ℕ)) {n j i k at : ℕ} → j < n → i < j → k < suc i → at ≡ pair_number j i → get_or (get_or rows at []) k 0 ≢ 0
    → rows_empty rows n ≡ false
one_found rows {n} {j} {i} {k} p q r is e =
    all_below-fails n (λ b. all_below b (empty rows b)) j p (all_below-fails j (empty rows j) i q (sym (refuted (empty rows j i)
    (λ h. e (ap (λ at. get_or (get_or rows at []) k 0) is ∙ trivial-to_nf (suc i) (word rows j i) (same_form-eq (suc i) _ _ h) k r)))))

-- ---- What the rows say

module _ {P : Presentation} {n : ℕ} {primes : List ℕ} {rows : List (List ℕ)} (read : Reads P n primes rows) where
  pub empty-words : rows_empty rows n ≡ true → WordsEmpty P n
  empty-words e k j a b =
      let of-j : all_below j (empty rows j) ≡ true = all_below-elim n (λ b. all_below b (empty rows b)) e j b in
      sym (read.w_is k j a b) ∙ same_form-eq (suc k) _ _ (all_below-elim j (empty rows j) of-j k a)

  pub words-empty : WordsEmpty P n → rows_empty rows n ≡ true
  words-empty e = all-empty rows n (λ j k b a. read.w_is k j a b ∙ e k j a b)
