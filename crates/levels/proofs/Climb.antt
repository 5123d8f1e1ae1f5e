-- From one level to the next while a table is built: words and frames.
--
--   next-up_to                 the words before, and the lines of the formulas behind them
--   next-lines, next-room     the lines of the formulas, in the numbers of the frame; there is room for them
--   next-reps                 how many representations the formulas give
--   one-reps, one-up_to, one-length, one-room, one_placed      the same for level 1
use mathlib.Core.Path.{◌≡◌, refl, sym, ◌∙◌, ap, ap₂, subst}
use mathlib.Core.List.{List, ◌++◌}
use Prim.Native.Nat.{ℕ, suc, ◌+◌, ◌*◌, ◌-◌, ◌≤◌, ◌<◌}
use native.Mathlib.Omega.{arith}
use lib.ListN.{length, length-append}
use Rattle.definitions.specs.Lists.{blocks, sum}
use Rattle.definitions.specs.Presentation.{Presentation, order, build_words}
use Rattle.definitions.specs.Monomial.{rep_of}
use Rattle.definitions.specs.Table.{level_words, level_zero}
use Rattle.definitions.specs.Steps
use Rattle.definitions.specs.Steps.{levels}
use Rattle.formulas.specs.Formulas as Fm
use Rattle.formulas.specs.Formulas.{level_by}
use Rattle.numbers.proofs.Sums.{sum-suc, sum-zero, sum_below}
use Rattle.clifford.specs.Accepted.{Accepted}
use Rattle.clifford.proofs.Standing.{rung}
use Rattle.clifford.proofs.Numbering.{next-length, made-fixed}
use Rattle.agreement.proofs.Sources.{Twins, made-same}
use Rattle.agreement.proofs.Table.{rungs, twins}
use Rattle.rows.specs.Rows.{Reads}
use Rattle.first.specs.Roots.{first_words}
use Rattle.first.proofs.Lines.{first_words-length}
use Rattle.level.specs.Stored.{matrix_in}
use Rattle.survey.specs.declared.Frame.{Frame}
use Rattle.survey.specs.Below.{source_in, deg_of, matrix_of, target_of, made_in, number_in}
use Rattle.levels.specs.Built.{up_to, frame_at, Placed, level_of}
use Rattle.levels.proofs.Places.{up_to-suc}
use Rattle.levels.proofs.Room.{room}
use Rattle.levels.proofs.Words.{reads}
use Rattle.levels.proofs.Standing.{at-placed}
use Rattle.levels.proofs.Next.{next-words}
use Rattle.levels.proofs.First.{level-one}

module _ (A : Accepted) where
  abbrev pub P : Presentation
  P = A.C.P

  abbrev pub n : ℕ
  n = A.C.P.n

  abbrev pub m : ℕ
  m = order P n

  -- ---- Words

  pub next-up_to : (i : ℕ) (f : Frame) (W : List ℕ) (rows : List (List ℕ)) {primes : List ℕ} → Placed A i f W → Reads P n primes rows
      → W ++ level_words n (suc i) (level_by (source_in f W rows)) ≡ up_to A (suc i)
  next-up_to i f W rows Q told = ap₂ (◌++◌) Q.words_are (sym (next-words A i f W rows Q told)) ∙ sym (up_to-suc A i)

  pub next-lines : (i : ℕ) (f : Frame) (W : List ℕ) (rows : List (List ℕ)) {primes : List ℕ} → Placed A i f W → Reads P n primes rows
      → level_words f.gens (suc f.top) (level_by (source_in f W rows)) ≡ level_words n (suc i) (level_of A (suc i))
  next-lines i f W rows Q told = ap₂ (λ g t. level_words g (suc t) (level_by (source_in f W rows))) Q.gens_is Q.top_is ∙ sym (next-words A i f W rows Q told)

  pub next-room : (i : ℕ) (f : Frame) (W : List ℕ) (rows : List (List ℕ)) {primes : List ℕ} → Placed A i f W → Reads P n primes rows
      → 8 * f.end + length (level_words f.gens (suc f.top) (level_by (source_in f W rows))) ≤ build_words P
  next-room i f W rows Q told =
      let long = ap length (up_to-suc A i) ∙ length-append (up_to A i) (level_words n (suc i) (level_of A (suc i))) in
      let named = ap₂ (◌+◌) (sym Q.end_is) (ap length (sym (next-lines i f W rows Q told))) in
      subst (λ x. x ≤ build_words P) (long ∙ named) (room A (suc i) Q.below)

  -- ---- Representations

  module _ (k : ℕ) (l : suc k < n) where
    abbrev T : Twins
    T = twins A (suc k) l (deg_of (frame_at A k) (up_to A (suc k))) (λ r g. matrix_in (up_to A (suc k)) (matrix_of (frame_at A k) (up_to A (suc k)) g r) (deg_of (frame_at A k) (up_to A (suc k)) r))
        (target_of (frame_at A k) (up_to A (suc k))) (reads A k (omega arith)) (P.w (suc k)) (λ j a b. refl)

    made_at : (r : ℕ) → r < length (levels P m (suc k)) → Steps.made P m (suc k) (levels P m (suc k)) r ≡ made_in (frame_at A k) (up_to A (suc k)) r
    unfolding Steps.made Steps.fixed Steps.leader Steps.orbit Fm.made
    made_at r h = made-same T r h

    count_at : length (levels P m (suc (suc k))) ≡ sum (length (levels P m (suc k))) (Steps.made P m (suc k) (levels P m (suc k)))
    unfolding levels rung
    count_at = next-length (rungs A (suc k) l)

    reps-at : number_in (frame_at A k) (up_to A (suc k)) (length (levels P m (suc k))) ≡ length (levels P m (suc (suc k)))
    unfolding Fm.start
    reps-at = sym (count_at ∙ sum_below (length (levels P m (suc k))) _ _ made_at)

  pub next-reps : (i : ℕ) (f : Frame) (W : List ℕ) → Placed A i f W → number_in f W f.reps ≡ length (level_of A (suc i))
  next-reps = at-placed A (λ i f W. number_in f W f.reps ≡ length (level_of A (suc i))) reps-at

  -- ---- Level 1

  up_to-none : length (up_to A 0) ≡ 0
  unfolding up_to blocks
  up_to-none = refl

  up_to-first : up_to A 1 ≡ level_words n 1 (levels P m 1)
  unfolding up_to blocks
  up_to-first = refl

  pub one-reps : length (level_of A 1) ≡ P.p 0
  unfolding levels rung level_zero rep_of
  one-reps =
      next-length (rungs A 0 A.positive) ∙ sum-suc 0 _ ∙ ap₂ (◌+◌) (sum-zero _) (made-fixed (rungs A 0 A.positive) 0 ((rungs A 0 A.positive).literal 0 0)) ∙ omega arith

  module _ (rows : List (List ℕ)) {primes : List ℕ} (told : Reads P n primes rows) where
    pub one-up_to : first_words n (P.p 0) m rows ≡ up_to A 1
    one-up_to = sym (up_to-first ∙ level-one A rows told)

    pub one-length : length (up_to A 1) ≡ 8 * (P.p 0 * n)
    one-length = ap length (sym one-up_to) ∙ first_words-length n (P.p 0) m rows

    pub one-room : 8 * (P.p 0 * n) ≤ build_words P
    one-room = subst (λ x. x ≤ build_words P) one-length (room A 1 A.positive)

    pub one_placed : 1 < n
        → Placed A 1 (record { m = m; top = 1; gens = n; p = P.p 1; base = 0; reps = P.p 0; end = P.p 0 * n }) (first_words n (P.p 0) m rows)
    one_placed l =
        let c : 1 - 1 ≡ 0 = omega arith in
        record {
          above = omega arith;
          below = l;
          modulus_is = refl;
          top_is = refl;
          gens_is = refl;
          prime_is = refl;
          base_is = sym (ap (λ x. length (up_to A x)) c ∙ up_to-none);
          reps_is = sym one-reps;
          end_is = sym one-length;
          words_are = one-up_to;
        }
