-- The built table by closed formulas: each level from the level below.
--
--   rungs                   every level of an accepted presentation stands, with what its step needs
--   table-by-formulas       the table of the steps is the lines of the closed formulas
--   ReadsLevel, level-told  a source that reads level i as it is written, with the words of the presentation for the generators above i, gives the lines
--                           of level suc i
use mathlib.Core.Path.{◌≡◌, ◌∙◌, subst}
use Prim.Native.Nat.{ℕ, suc, ◌≤◌, ◌<◌}
use native.Mathlib.Omega.{arith}
use lib.ListN.{length}
use Rattle.definitions.specs.Lists.{blocks}
use Rattle.definitions.specs.Presentation.{NF, Presentation, order}
use Rattle.definitions.specs.Monomial.{Matrix, rep_of}
use Rattle.definitions.specs.Table.{level_words}
use Rattle.definitions.specs.Steps.{levels, table_with, table_of}
use Rattle.formulas.specs.Formulas.{source_of, level_by}
use Rattle.numbers.proofs.Blocks.{blocks-below}
use Rattle.group.proofs.Order.{order-positive}
use Rattle.clifford.specs.Stands.{Rung}
use Rattle.clifford.specs.Accepted.{Accepted}
use Rattle.clifford.proofs.Standing.{rung, standing, setting}
use Rattle.clifford.proofs.Agreement.{target-listed}
use Rattle.agreement.proofs.Closed.{same-words}
use Rattle.agreement.proofs.Sources.{Twins, twins-words}

module _ (A : Accepted) where
  abbrev pub P : Presentation
  P = A.C.P

  abbrev pub n : ℕ
  n = A.C.P.n

  abbrev pub m : ℕ
  m = order P n

  abbrev pub rungs : (i : ℕ) → i < n → Rung
  rungs i l = rung (setting A) i l (levels P m i) (standing (setting A) i (omega arith))

  pub level-by-formulas : (i : ℕ) → i < n → level_words n (suc i) (levels P m (suc i)) ≡ level_words n (suc i) (level_by (source_of P m i (levels P m i)))
  unfolding levels rung
  level-by-formulas i l = same-words (rungs i l)

  pub table-by-formulas : table_of P ≡ blocks n (λ i. level_words n (suc i) (level_by (source_of P m i (levels P m i))))
  unfolding table_of table_with
  table-by-formulas = blocks-below n _ _ level-by-formulas

  -- ---- From any source that reads the level as it is written

  pub record ReadsLevel (i : ℕ) (degree : ℕ → ℕ) (matrix : ℕ → ℕ → Matrix) (target : ℕ → ℕ → ℕ) : Type 0 where
    pub degrees : (r : ℕ) → r < length (levels P m i) → (rep_of (levels P m i) r).deg ≡ degree r
    pub matrices : (r g : ℕ) → r < length (levels P m i) → g < n → (rep_of (levels P m i) r).matrix g ≡ matrix r g
    pub targets : (j r : ℕ) → i ≤ j → j < n → r < length (levels P m i) → (rep_of (levels P m i) r).ref j 0 ≡ target j r

  module _ (i : ℕ) (l : i < n) (degree : ℕ → ℕ) (matrix : ℕ → ℕ → Matrix) (target : ℕ → ℕ → ℕ) (reads : ReadsLevel i degree matrix target) where
    pub target-in : (j r : ℕ) → i ≤ j → j < n → r < length (levels P m i) → (rep_of (levels P m i) r).ref j 0 < length (levels P m i)
    target-in j r a b h =
        let St = standing (setting A) i (omega arith) in
        subst (λ s. s < length (levels P m i)) (St.literal j r) (target-listed A.C n m (order-positive A.C n) i (levels P m i) St.F St.stands j a b r h)

    -- the level, and what reads it
    abbrev pub twins : (w : (j : ℕ) → NF (suc i)) → ((j : ℕ) → i < j → j < n → P.w i j ≡ w j) → Twins
    twins w told = record {
      m = m;
      i = i;
      p = P.p i;
      n = n;
      u = P.u i;
      w = P.w i;
      w' = w;
      count = length (levels P m i);
      degree = λ r. (rep_of (levels P m i) r).deg;
      degree' = degree;
      matrix = λ r g. (rep_of (levels P m i) r).matrix g;
      matrix' = matrix;
      target = λ j r. (rep_of (levels P m i) r).ref j 0;
      target' = target;
      in_range = l;
      p_pos = omega (arith, A.C.two i);
      word_same = told;
      degree_same = reads.degrees;
      matrix_same = reads.matrices;
      target_same = reads.targets;
      target_below = target-in;
    }

    pub level-told : (w : (j : ℕ) → NF (suc i)) → ((j : ℕ) → i < j → j < n → P.w i j ≡ w j)
        → level_words n (suc i) (levels P m (suc i)) ≡ level_words n (suc i)
        (level_by (record { m = m; i = i; p = P.p i; u = P.u i; w = w; count = length (levels P m i); degree = degree; matrix = matrix; target = target }))
    unfolding source_of
    level-told w told = level-by-formulas i l ∙ twins-words (twins w told) (suc i)
