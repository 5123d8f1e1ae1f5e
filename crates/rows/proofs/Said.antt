-- The presentation that primes and rows in range say, so that what the contracts say of every such presentation is said
-- of one at least.
--
--   said m ps rows     the presentation; prime 2 and empty words from generator m on
--   said-two, said-u, said-w    its primes are above 1 and its words valid
--   said-context       it is a context
--   said-reads         primes and rows are its own, where no word uses a generator that it may not use
use mathlib.Core.Path.{◌≡◌, sym, ◌∙◌, subst}
use mathlib.Core.Logic.{by_cases}
use mathlib.Core.Bool.{false, cond}
use mathlib.Core.List.{List, []}
use Prim.Native.Nat.{ℕ, zero, suc, ◌≤◌, ◌<◌}
use native.Mathlib.Omega.{arith}
use native.Mathlib.Decide.{dec_lt}
use lib.Dec.{ltb}
use lib.ListN.{get_or}
use Rattle.definitions.specs.Presentation.{NF, to_nf, trivial, Presentation, Valid, pair_number, allowed}
use Rattle.numbers.proofs.Bools.{cond-lt, cond-ge}
use Rattle.group.specs.Context.{Context}
use Rattle.group.proofs.Rows.{to_nf-valid}
use Rattle.rows.specs.Rows.{Ranged, Reads}

unfoldable pub said : ℕ → List ℕ → List (List ℕ) → Presentation
said m ps rows = record {
  n = m;
  p = λ j. cond (ltb j m) (get_or ps j 0) 2;
  u = λ j. cond (ltb j m) (to_nf j (get_or rows (pair_number j j) [])) (trivial j);
  w = λ k j. cond (ltb j m) (cond (ltb k j) (to_nf (suc k) (get_or rows (pair_number j k) [])) (trivial (suc k))) (trivial (suc k));
}

module _ (m : ℕ) (ps : List ℕ) (rows : List (List ℕ)) (r : Ranged m ps rows) where
  abbrev P : Presentation
  P = said m ps rows

  prime_is : (j : ℕ) → j < m → get_or ps j 0 ≡ P.p j
  unfolding said
  prime_is j l = sym (cond-lt j m (get_or ps j 0) 2 l)

  pub said-two : (j : ℕ) → 1 < (said m ps rows).p j
  unfolding said
  said-two j = by_cases (dec_lt j m)
      (λ l. subst (λ p. 1 < p) (sym (cond-lt j m (get_or ps j 0) 2 l)) (r.two j l))
      (λ l. subst (λ p. 1 < p) (sym (cond-ge j m (get_or ps j 0) 2 (omega arith))) (omega arith))

  trivial-in : (i : ℕ) → Valid P i (trivial i)
  unfolding trivial
  trivial-in zero = tt
  trivial-in (suc i) = (omega (arith, said-two i), trivial-in i)

  -- a choice between two valid forms
  choice : (a b i : ℕ) (x y : NF i) → (a < b → Valid P i x) → Valid P i y → Valid P i (cond (ltb a b) x y)
  choice a b i x y f g = by_cases (dec_lt a b)
      (λ l. subst (Valid P i) (sym (cond-lt a b x y l)) (f l))
      (λ l. subst (Valid P i) (sym (cond-ge a b x y (omega arith))) g)

  row_in : (j i k : ℕ) → i ≤ j → j < m → k ≤ m → Valid P k (to_nf k (get_or rows (pair_number j i) []))
  row_in j i k a b c = to_nf-valid P k _ (λ e l. subst (λ p. get_or (get_or rows (pair_number j i) []) e 0 < p) (prime_is e (omega arith)) ((r.word j i a b).below e (omega arith)))

  pub said-u : (j : ℕ) → Valid (said m ps rows) j ((said m ps rows).u j)
  unfolding said
  said-u j = choice j m j _ _ (λ l. row_in j j j (omega arith) l (omega arith)) (trivial-in j)

  pub said-w : (k j : ℕ) → Valid (said m ps rows) (suc k) ((said m ps rows).w k j)
  unfolding said
  said-w k j = choice j m (suc k) _ _ (λ l. choice k j (suc k) _ _ (λ a. row_in j k (suc k) (omega arith) l (omega arith)) (trivial-in (suc k))) (trivial-in (suc k))

  unfoldable pub said-context : Context
  said-context = record { P = said m ps rows; two = said-two; u_valid = said-u; w_valid = said-w }

  pub said-reads : ((j i k : ℕ) → i ≤ j → j < m → k < m → allowed j i k ≡ false → get_or (get_or rows (pair_number j i) []) k 0 ≡ 0)
      → Reads said-context.P m ps rows
  unfolding said-context said
  said-reads zero-there = record {
    p_is = prime_is;
    u_is = λ j l. sym (cond-lt j m _ _ l);
    w_is = λ k j a l. sym (cond-lt j m _ _ l ∙ cond-lt k j _ _ a);
    rest = zero-there;
  }
