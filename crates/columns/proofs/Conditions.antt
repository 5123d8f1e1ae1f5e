-- The relations and the intertwiners of the judgement, column by column.
--
--   power-columns, commutator-columns     the relations of a representation with square matrices
--   intertwiner-columns                   an intertwiner between representations of one degree
use mathlib.Core.Path.{◌≡◌, ◌∙◌, ap, ap₂}
use mathlib.Core.List.{List}
use Prim.Native.Nat.{ℕ, suc, ◌≤◌, ◌<◌}
use native.Mathlib.Omega.{arith}
use Rattle.definitions.specs.Lists.{all_below}
use Rattle.definitions.specs.Presentation.{Presentation}
use Rattle.definitions.specs.Monomial.{entry, act, product, same_matrix, Rep, image, conjugate}
use Rattle.definitions.specs.Judgement.{power_holds, commutator_holds}
use Rattle.numbers.proofs.Lists.{all_below-below}
use Rattle.columns.specs.Columns.{Square, Squares, same_at, power_at, conjugate_at, commutator_at, intertwines_at}
use Rattle.columns.proofs.Columns.{In, product-square, power-square, value-square, act-product, act-power, act-value, same-matrix}

module _ (P : Presentation) (m : ℕ) (pos : 0 < m) (T : List ℕ) (n : ℕ) (D : Rep) (S : Squares n D) where
  abbrev d : ℕ
  d = D.deg

  here : (c : ℕ) → c < d → In d m (entry c 0)
  here c l = record { row = l; exp = pos }

  below : (i : ℕ) → i ≤ n → (g : ℕ) → g < i → Square d (D.matrix g)
  below i l g h = S.each g (omega arith)

  pub power-columns : (j : ℕ) → j < n → power_holds P m T D j ≡ all_below D.deg (power_at P m D j)
  unfolding power_holds power_at image
  power-columns j l =
      same-matrix m pos d (power-square m pos d (S.each j l) (P.p j)) (value-square m pos d D.matrix j (below j (omega arith)) (P.u j))
      ∙ all_below-below d _ _ (λ c h. ap₂ same_at (act-power m pos d (S.each j l) (P.p j) (entry c 0) (here c h))
      (act-value m pos d D.matrix j (below j (omega arith)) (P.u j) (entry c 0) (here c h)))

  -- ---- Conjugates

  module _ (k j : ℕ) (kn : k < n) where
    conjugate-square : Square d (conjugate m P D k j)
    unfolding conjugate image
    conjugate-square = product-square m pos d (S.each k kn) (value-square m pos d D.matrix (suc k) (below (suc k) kn) (P.w k j))

    conjugate-column : (c : ℕ) → c < d → act m (conjugate m P D k j) (entry c 0) ≡ conjugate_at P m D k j c
    unfolding conjugate image conjugate_at
    conjugate-column c h =
        act-product m pos d (D.matrix k) (value-square m pos d D.matrix (suc k) (below (suc k) kn) (P.w k j)) (entry c 0) h
        ∙ ap (act m (D.matrix k)) (act-value m pos d D.matrix (suc k) (below (suc k) kn) (P.w k j) (entry c 0) (here c h))

    pub commutator-columns : j < n → commutator_holds P m T D k j ≡ all_below D.deg (commutator_at P m D k j)
    unfolding commutator_holds commutator_at
    commutator-columns jn =
        same-matrix m pos d (product-square m pos d (S.each k kn) (S.each j jn)) (product-square m pos d (S.each j jn) conjugate-square)
        ∙ all_below-below d _ _ (λ c h. ap₂ same_at (act-product m pos d (D.matrix k) (S.each j jn) (entry c 0) h)
        (act-product m pos d (D.matrix j) conjugate-square (entry c 0) h ∙ ap (act m (D.matrix j)) (conjugate-column c h)))

    pub intertwiner-columns : j < n → (F : Rep) → Square D.deg (F.matrix k)
        → same_matrix m (product m (D.matrix j) (conjugate m P D k j)) (product m (F.matrix k) (D.matrix j)) ≡ all_below D.deg (intertwines_at P m D F k j)
    unfolding intertwines_at
    intertwiner-columns jn F A =
        same-matrix m pos d (product-square m pos d (S.each j jn) conjugate-square) (product-square m pos d A (S.each j jn))
        ∙ all_below-below d _ _ (λ c h. ap₂ same_at
        (act-product m pos d (D.matrix j) conjugate-square (entry c 0) h ∙ ap (act m (D.matrix j)) (conjugate-column c h))
        (act-product m pos d (F.matrix k) (S.each j jn) (entry c 0) h))
