-- Level 1 fits on level 0 if its characters are as asked.
--
--   first_fits      it does
use mathlib.Core.Path.{◌≡◌, refl, sym, ◌∙◌, ap, ap₂, subst}
use mathlib.Core.Bool.{true}
use mathlib.Core.Logic.{inl}
use Prim.Native.Nat.{ℕ, ◌+◌, ◌*◌, ◌-◌, ◌/◌, ◌%◌, ◌<◌}
use native.Mathlib.Nat.{mod-eq_of_lt, sub-zero, zero-mod, zero-div, add-mod_right}
use native.Mathlib.Omega.{arith}
use lib.ListN.{length}
use Rattle.definitions.specs.declared.Entry.{Entry}
use Rattle.definitions.specs.Lists.{upto}
use Rattle.definitions.specs.Presentation.{Presentation, order}
use Rattle.definitions.specs.Monomial.{Matrix, entry, col, identity, less, Level, rep_of}
use Rattle.definitions.specs.Table.{level_zero}
use Rattle.numbers.proofs.Sums.{sum_below, sum-const}
use Rattle.monomial.proofs.Frames.{entry-path}
use Rattle.columns.specs.Columns.{intertwines_at}
use Rattle.clifford.specs.Stands.{Restricts}
use Rattle.clifford.proofs.Standing.{zero-length, zero-degree, zero-ref}
use Rattle.fitting.specs.Fits.{block_to, scalar_of, Fitting, Fits}
use Rattle.fitting.specs.First.{FirstFits}

-- ---- Level 0

zero-column : (g : ℕ) → col ((rep_of level_zero 0).matrix g) 0 ≡ entry 0 0
unfolding rep_of level_zero identity col upto
zero-column g = refl

less_zero : (m x : ℕ) → x < m → less m x 0 ≡ x
unfolding less
less_zero m x l = ap (λ z. (x + (m - z)) % m) (zero-mod m) ∙ ap (λ z. (x + z) % m) (sub-zero m) ∙ add-mod_right x m ∙ mod-eq_of_lt l

module _ (P : Presentation) (n m : ℕ) (High : Level) (Q : FirstFits P n m High) where
  -- ---- One character

  module _ (r : ℕ) (h : r < length High) where
    abbrev M : ℕ → Matrix
    M = (rep_of High r).matrix

    only : (k c : ℕ) → k < 1 → c < 1 → k * 1 + c ≡ 0
    only k c a b = omega arith

    first-column : (k : ℕ) → k < 1 → k * 1 ≡ 0
    first-column k l = omega arith

    one_block : Restricts 0 level_zero (rep_of High r)
    one_block = record {
      count = 1;
      width = 1;
      part = λ k. 0;
      width_pos = omega arith;
      part_below = λ k l. omega (arith, zero-length);
      part_degree = λ k l. zero-degree;
      degree = Q.degree r h ∙ omega arith;
      refers = λ g a k c l b. let z : g ≡ 0 = omega arith in ap₂ (rep_of High r).ref z (only k c l b) ∙ Q.refers r h;
      acts = λ g a. absurd (omega arith);
    }

    lands-zero : (g k : ℕ) → g < n → k < 1 → block_to P n m 0 level_zero High r one_block g k ≡ 0
    unfolding one_block
    lands-zero g k a l = ap (λ c. (col (M g) c).row / 1) (first-column k l) ∙ ap (λ z. z / 1) (Q.row r g h a) ∙ zero-div 1

    scalar-exp : (g k : ℕ) → g < n → k < 1 → scalar_of P n m 0 level_zero High r one_block g k ≡ (col (M g) 0).exp
    unfolding one_block
    scalar-exp g k a l =
        ap₂ (λ c (x : Entry). less m (col (M g) c).exp x.exp) (first-column k l) (zero-column g) ∙ less_zero m (col (M g) 0).exp (Q.exp_below r g h a)

    -- a column below, moved to block t and scaled by s
    shifted : ℕ → ℕ → Entry → Entry
    shifted t s x = entry (t * 1 + x.row) ((x.exp + s) % m)

    shifts : (g k c : ℕ) → g < n → k < 1 → c < 1 → col (M g) (k * 1 + c)
        ≡ shifted (block_to P n m 0 level_zero High r one_block g k) (scalar_of P n m 0 level_zero High r one_block g k) (col ((rep_of level_zero 0).matrix g) c)
    unfolding shifted
    shifts g k c a l b =
        let z : c ≡ 0 = omega arith in
        let e : col ((rep_of level_zero 0).matrix g) c ≡ entry 0 0 = ap (col ((rep_of level_zero 0).matrix g)) z ∙ zero-column g in
        ap (col (M g)) (only k c l b) ∙ entry-path (Q.row r g h a) (sym (mod-eq_of_lt (Q.exp_below r g h a)))
        ∙ sym (ap (shifted _ _) e ∙ ap₂ (λ t s. shifted t s (entry 0 0)) (lands-zero g k a l) (scalar-exp g k a l)
        ∙ entry-path (omega arith) (ap (λ z. z % m) (omega arith)))

    ref-at : (j c : ℕ) → c < (rep_of High r).deg → (rep_of High r).ref j c ≡ (rep_of High r).ref j 0
    ref-at j c l = let z : c ≡ 0 = omega (arith, Q.degree r h) in ap ((rep_of High r).ref j) z

    abbrev fitting : Fitting P n m 0 level_zero High r
    unfolding one_block shifted
    fitting = record {
      cut = one_block;
      one_or_p = inl refl;
      lands = λ g k ig gn l. subst (λ z. z < 1) (sym (lands-zero g k gn l)) (omega arith);
      shifts = λ g k c ig gn l b. shifts g k c gn l b;
      follows = λ k l. sym (zero-ref 0 0);
      moved = λ ne. absurd (ne refl);
      power = Q.power r h;
      listed = λ j ij jn. Q.listed r j h ij jn;
      leads = λ j c ij jn l. ref-at j c l;
      same_degree = λ j ij jn. Q.degree ((rep_of High r).ref j 0) (Q.listed r j h ij jn) ∙ sym (Q.degree r h);
      same_width = λ j ij jn. ap (λ f. (rep_of level_zero f).deg) (Q.refers ((rep_of High r).ref j 0) (Q.listed r j h ij jn)) ∙ zero-degree;
      arrives = λ j k ij jn l. ap (λ t. (rep_of High ((rep_of High r).ref j 0)).ref 0 (t * 1)) (lands-zero j k jn l)
          ∙ Q.refers ((rep_of High r).ref j 0) (Q.listed r j h ij jn) ∙ sym (zero-ref j 0);
      conjugate = λ j k ij jn l. subst (λ c. intertwines_at P m (rep_of High r) (rep_of High ((rep_of High r).ref j 0)) 0 j c ≡ true)
          (sym (first-column k l)) (Q.conjugate r j h ij jn);
    }

  -- ---- The level

  pub first_fits : Fits P n m 0 level_zero High
  unfolding fitting one_block shifted
  first_fits = record {
    fit = fitting;
    degree_pos = λ r h. omega (arith, Q.degree r h);
    unshared = λ r r' h h' ne k k' l l' e. (refl, refl, Q.apart r r' h h' ne);
    squares = sum_below (length High) _ (λ r. 1) (λ r h. ap (λ d. d * d) (Q.degree r h) ∙ omega arith) ∙ sum-const (length High) 1 ∙ ones;
  }
    where
      ones : length High * 1 ≡ order P 1
      ones = unfold order in (omega (arith, Q.count))
