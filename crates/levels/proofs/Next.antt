-- The next level, by closed formulas of the words of the levels before.
--
--   next-at, next-words       its lines are those of the formulas, which read the level before off the words
--   below_at, rows-below      exponents of the generator on top are below its prime
use mathlib.Core.Path.{◌≡◌, sym, ◌∙◌, ap, subst}
use mathlib.Core.List.{List, []}
use Prim.Native.Nat.{ℕ, suc, ◌<◌}
use native.Mathlib.Omega.{arith}
use lib.ListN.{get_or}
use Rattle.definitions.specs.Presentation.{NF, to_nf, pair_number}
use Rattle.definitions.specs.Table.{level_words}
use Rattle.formulas.specs.Formulas.{Source, level_by}
use Rattle.clifford.specs.Accepted.{Accepted}
use Rattle.agreement.proofs.Table.{level-told}
use Rattle.rows.specs.Rows.{Reads}
use Rattle.level.specs.Stored.{matrix_in}
use Rattle.survey.specs.declared.Frame.{Frame}
use Rattle.survey.specs.Below.{Rows, source_in, deg_of, matrix_of, target_of}
use Rattle.levels.specs.Built.{up_to, frame_at, Placed, level_of}
use Rattle.levels.proofs.Words.{reads, source_told}
use Rattle.levels.proofs.Standing.{at-placed}

module _ (A : Accepted) where
  pub next-at : (k : ℕ) → suc k < A.C.P.n → (rows : List (List ℕ)) {primes : List ℕ} → Reads A.C.P A.C.P.n primes rows
      → level_words A.C.P.n (suc (suc k)) (level_of A (suc (suc k)))
      ≡ level_words A.C.P.n (suc (suc k)) (level_by (source_in (frame_at A k) (up_to A (suc k)) rows))
  next-at k l rows told =
      level-told A (suc k) l (deg_of (frame_at A k) (up_to A (suc k))) (λ r g. matrix_in (up_to A (suc k)) (matrix_of (frame_at A k) (up_to A (suc k)) g r) (deg_of (frame_at A k) (up_to A (suc k)) r))
      (target_of (frame_at A k) (up_to A (suc k))) (reads A k (omega arith)) (λ j. to_nf (suc (suc k)) (get_or rows (pair_number j (suc k)) []))
      (λ j a b. sym (told.w_is (suc k) j a b))
      ∙ ap (λ (S : Source). level_words A.C.P.n (suc (suc k)) (level_by S)) (source_told A k (omega arith) l rows told)

  pub below_at : (k : ℕ) → suc k < A.C.P.n → (rows : List (List ℕ)) {primes : List ℕ} → Reads A.C.P A.C.P.n primes rows
      → Rows (frame_at A k) (up_to A (suc k)) rows
  unfolding to_nf
  below_at k l rows told = record {
    below = λ j a b. subst (λ x. x < A.C.P.p (suc k)) (sym (ap (λ (x : NF (suc (suc k))). x.0) (told.w_is (suc k) j a b))) (A.C.w_valid (suc k) j).0;
  }

  -- ---- In any frame that says so

  pub next-words : (i : ℕ) (f : Frame) (W : List ℕ) (rows : List (List ℕ)) {primes : List ℕ}
      → Placed A i f W → Reads A.C.P A.C.P.n primes rows
      → level_words A.C.P.n (suc i) (level_of A (suc i)) ≡ level_words A.C.P.n (suc i) (level_by (source_in f W rows))
  next-words i f W rows Q told = at-placed A
      (λ i f W. level_words A.C.P.n (suc i) (level_of A (suc i)) ≡ level_words A.C.P.n (suc i) (level_by (source_in f W rows)))
      (λ k l. next-at k l rows told) i f W Q

  pub rows-below : (i : ℕ) (f : Frame) (W : List ℕ) (rows : List (List ℕ)) {primes : List ℕ}
      → Placed A i f W → Reads A.C.P A.C.P.n primes rows → Rows f W rows
  rows-below i f W rows Q told = at-placed A (λ i f W. Rows f W rows) (λ k l. below_at k l rows told) i f W Q
