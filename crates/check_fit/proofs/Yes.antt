-- The levels that are counted pass.
--
--   unshared-blocks     where no reference is claimed twice no two blocks share one
--   counted-pass        levels that fit, with squares that add up, pass the judgement
--   none-counted        no level is counted
use mathlib.Core.Path.{◌≡◌, sym, ◌∙◌, ap, subst}
use mathlib.Core.Logic.{by_cases}
use mathlib.Core.Bool.{true}
use mathlib.Core.List.{List}
use Prim.Native.Nat.{ℕ, suc, ◌+◌, ◌*◌, ◌≤◌, ◌<◌}
use native.Mathlib.Nat.{mul-lt-mul_of_pos_right, le_refl}
use native.Mathlib.Omega.{arith}
use native.Mathlib.Decide.{ℕ_discrete}
use lib.ListN.{length, get_or}
use Rattle.definitions.specs.Lists.{sum}
use Rattle.definitions.specs.Presentation.{Presentation, order}
use Rattle.definitions.specs.Monomial.{col, Level, rep_of}
use Rattle.definitions.specs.Table.{level_at}
use Rattle.clifford.specs.Accepted.{Accepted}
use Rattle.clifford.specs.Passing.{LevelPasses}
use Rattle.heads.specs.Walk.{heads_ok}
use Rattle.fitting.specs.Fits.{block_to, Fitting, Fits}
use Rattle.fitting.proofs.Passes.{fitting-pass}
use Rattle.rows.specs.Rows.{Reads}
use Rattle.seek.specs.declared.Scope.{Scope}
use Rattle.seek.specs.Seek.{Whole}
use Rattle.seek.specs.Formed.{Ordered}
use Rattle.seek.proofs.Seek.{found_first}
use Rattle.claims.specs.Claims.{OneReference, Unshared}
use Rattle.check_blocks.specs.Squares.{squares_in}
use Rattle.relations.specs.Said.{SaysTop}
use Rattle.check_heads.specs.Places.{orders_in}
use Rattle.check_fit.specs.Fit.{FitUpTo, FittingLevels}

-- ---- References

module _ {P : Presentation} {n m i : ℕ} {Low High : Level} (in_range : i < n) (fit : (r : ℕ) → r < length High → Fitting P n m i Low High r) where
  module _ (r : ℕ) (h : r < length High) where
    abbrev F : Fitting P n m i Low High r
    F = fit r h

    part-ref : (k : ℕ) → k < F.cut.count → (rep_of High r).ref 0 (k * F.cut.width) ≡ F.cut.part k
    part-ref k l =
        let e : k * F.cut.width ≡ k * F.cut.width + 0 = omega arith in
        ap ((rep_of High r).ref 0) e ∙ F.cut.refers 0 (omega arith) k 0 l F.cut.width_pos

    part-column : (k : ℕ) → k < F.cut.count → k * F.cut.width < (rep_of High r).deg
    part-column k l = subst (λ d. k * F.cut.width < d) (sym F.cut.degree) (mul-lt-mul_of_pos_right l F.cut.width_pos)

    -- several blocks have several references
    one_block : (k : ℕ) → k < F.cut.count → OneReference (rep_of High r) → F.cut.count ≡ 1
    one_block k l one = by_cases (ℕ_discrete F.cut.count 1)
        (λ e. e)
        (λ ne.
        let t : ℕ = block_to P n m i Low High r F.cut i 0 in
        absurd (F.moved ne (sym (F.follows 0 z) ∙ same t (F.lands i 0 (le_refl i) in_range z) ∙ sym (same 0 z))))
      where
        z : 0 < F.cut.count
        z = omega arith

        same : (k : ℕ) → k < F.cut.count → F.cut.part k ≡ (rep_of High r).ref 0 0
        same k l = sym (part-ref k l) ∙ one (k * F.cut.width) (part-column k l)

  pub unshared-blocks : Unshared i High → (r r' : ℕ) (h : r < length High) (h' : r' < length High) → ¬ (r ≡ r') → (k k' : ℕ) → k < (fit r h).cut.count
      → k' < (fit r' h').cut.count → (fit r h).cut.part k ≡ (fit r' h').cut.part k'
      → ((fit r h).cut.count ≡ 1) × ((fit r' h').cut.count ≡ 1) × ¬ ((col ((rep_of High r).matrix i) 0).exp ≡ (col ((rep_of High r').matrix i) 0).exp)
  unshared-blocks U r r' h h' ne k k' l l' e =
      let (a, b, x) = U.apart r r' h h' ne (k * (F r h).cut.width) (k' * (F r' h').cut.width) (part-column r h k l) (part-column r' h' k' l')
      (part-ref r h k l ∙ e ∙ sym (part-ref r' h' k' l')) in
      (one_block r h k l a, one_block r' h' k' l' b, x)

-- ---- The table

module _ {s : Scope} {T : List ℕ} {rows : List (List ℕ)} {primes orders : List ℕ} (heads : heads_ok s.gens T (orders_in orders) ≡ true) (W : Whole s T)
    (modulus : get_or orders s.gens 0 ≡ s.m) {k : ℕ} (U : FitUpTo s T rows primes orders k) where
  module _ (A : Accepted) (reads : Reads A.C.P s.gens primes rows) (ordered : Ordered A.C.P s orders) where
    abbrev P : Presentation
    P = A.C.P

    in_range : (i : ℕ) → i < k → i < s.gens
    in_range i l = omega (arith, U.within)

    says : (i : ℕ) → i < s.gens → SaysTop s rows i (get_or primes i 0) P
    says i l = record { prime = reads.p_is i l; power = reads.u_is i l; word = λ j a b. reads.w_is i j a b }

    squares-are : (i : ℕ) → i < k → let L = level_at s.gens T (suc i) in sum (length L) (λ r. (rep_of L r).deg * (rep_of L r).deg) ≡ order P (suc i)
    unfolding squares_in
    squares-are i l = U.fits.squares i l ∙ ordered.orders_are (suc i) (subst (λ n. i < n) ordered.gens_are (in_range i l))

    fits-at : (i : ℕ) → i < k → Fits P s.gens s.m i (level_at s.gens T i) (level_at s.gens T (suc i))
    fits-at i l =
        let E = U.fits.each i l in
        let h : i < s.gens = in_range i l in
        record {
          fit = E.fit P (says i h);
          degree_pos = λ r a. let G = found_first s T W (suc i) r (omega arith) h a in subst (λ d. 0 < d) G.deg G.positive;
          unshared = unshared-blocks h (E.fit P (says i h)) E.unshared;
          squares = squares-are i l;
        }

    modulus_is : s.m ≡ order P P.n
    modulus_is = sym modulus ∙ ap (λ n. get_or orders n 0) ordered.gens_are ∙ ordered.orders_are P.n (le_refl P.n)

    levels-pass : (i : ℕ) → i < k → LevelPasses P s.m T i
    levels-pass i l =
        subst (λ m. LevelPasses P m T i) (sym modulus_is) (fitting-pass A T k (subst (λ n. k ≤ n) ordered.gens_are U.within) (λ i l.
        subst (λ m. Fits P P.n m i (level_at P.n T i) (level_at P.n T (suc i))) modulus_is
        (subst (λ n. Fits P n s.m i (level_at n T i) (level_at n T (suc i))) ordered.gens_are (fits-at i l))) i l)

  pub counted-pass : FittingLevels s rows primes orders T k
  counted-pass = record { within = U.within; heads = λ l. heads; pass = levels-pass }

-- nothing is counted, and nothing said
pub none-counted : {s : Scope} {rows : List (List ℕ)} {primes orders T : List ℕ} → FittingLevels s rows primes orders T 0
none-counted = record { within = omega arith; heads = λ l. absurd (omega arith); pass = λ A reads ordered i l. absurd (omega arith) }
