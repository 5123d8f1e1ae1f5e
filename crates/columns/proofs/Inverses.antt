-- Monomial matrices and their inverses, one column at a time.
--
--   Monomial m d M                     M is a matrix of degree d: square, exponents below m, different rows
--   valid-monomial, monomial-valid     the test of the definitions tells just that
--   monomial-injects                   columns go to different rows
--   monomial-path                      matrices that move the columns alike are one
--   identity-monomial, product-monomial, inverse-monomial
--   inverse_left, inverse-right        an entry moved there and back
use mathlib.Core.Path.{◌≡◌, refl, sym, ◌∙◌, ap, subst}
use mathlib.Core.Bool.{Bool, true, ◌&&◌}
use Prim.Native.Nat.{ℕ, ◌+◌, ◌-◌, ◌%◌, ◌<◌}
use native.Mathlib.Nat.{mod-lt, mod-eq_of_lt, add-mod-mod, mod-add-mod, add-mod_left}
use native.Mathlib.Omega.{arith}
use lib.Dec.{eqb, ltb}
use lib.ListN.{length}
use lib.Seq.{ext_get_or}
use borrow.Author.Tests.{eqb-true, eq-eqb, ltb-true, lt-ltb}
use Rattle.definitions.specs.declared.Entry.{Entry}
use Rattle.definitions.specs.Lists.{all_below, any_below, least}
use Rattle.definitions.specs.Monomial.{Matrix, entry, col, identity, less, act, product, inverse, valid}
use Rattle.numbers.proofs.Bools.{and_left, and_right, and_intro}
use Rattle.numbers.proofs.Lists.{all_below-elim, all_below-intro}
use Rattle.numbers.proofs.Searches.{any_below-elim, any_below-intro, least-is}
use Rattle.numbers.proofs.Pigeonhole.{Injects, injects-onto, onto-injects}
use Rattle.numbers.proofs.Blocks.{length-table}
use Rattle.monomial.proofs.Frames.{col-table, entry-path}
use Rattle.columns.specs.Columns.{Square}
use Rattle.columns.proofs.Columns.{In, identity-square, col-product, product-square}

pub record Monomial (m d : ℕ) (M : Matrix) : Type 0 where
  pub square : Square d M
  pub small : (c : ℕ) → c < d → (col M c).exp < m
  pub distinct : (j k : ℕ) → j < d → k < d → (col M j).row ≡ (col M k).row → j ≡ k

-- ---- The test of the definitions

module _ (m d : ℕ) (M : Matrix) where
  abbrev sized : Bool
  sized = eqb (length M) d

  abbrev ranges : Bool
  ranges = all_below d (λ k. ltb (col M k).row d && ltb (col M k).exp m)

  abbrev onto : Bool
  onto = all_below d (λ r. any_below d (λ k. eqb (col M k).row r))

  pub valid-monomial : valid m d M ≡ true → Monomial m d M
  unfolding valid
  valid-monomial v =
      let h = and_left (sized && ranges) onto v in
      let r = all_below-elim d _ (and_right sized ranges h) in
      record {
        square = record {
          size = eqb-true (length M) d (and_left sized ranges h);
          inside = λ c l. ltb-true (col M c).row d (and_left _ (ltb (col M c).exp m) (r c l));
        };
        small = λ c l. ltb-true (col M c).exp m (and_right (ltb (col M c).row d) _ (r c l));
        distinct = onto-injects d (λ k. (col M k).row) (hit (all_below-elim d _ (and_right (sized && ranges) onto v)));
      }
    where
      hit : ((b : ℕ) → b < d → any_below d (λ k. eqb (col M k).row b) ≡ true) → (b : ℕ) → b < d → (k : ℕ) × (k < d) × ((col M k).row ≡ b)
      hit o b l = let (k, a, e) = any_below-elim d (λ k. eqb (col M k).row b) (o b l) in (k, a, eqb-true _ b e)

  pub monomial-injects : Monomial m d M → Injects d d (λ k. (col M k).row)
  monomial-injects A = record { below = A.square.inside; injective = A.distinct }

  -- some column has each row
  reached : Monomial m d M → (r : ℕ) → r < d → (k : ℕ) × (k < d) × ((col M k).row ≡ r)
  reached A = injects-onto d (λ k. (col M k).row) (monomial-injects A)

  pub monomial-valid : Monomial m d M → valid m d M ≡ true
  unfolding valid
  monomial-valid A =
      and_intro _ _
      (and_intro _ _ (eq-eqb _ _ A.square.size)
      (all_below-intro d _ (λ k l. and_intro _ _ (lt-ltb _ _ (A.square.inside k l)) (lt-ltb _ _ (A.small k l)))))
      (all_below-intro d _ (λ r l. let (k, b, e) = reached A r l in any_below-intro d _ k b (eq-eqb _ _ e)))

-- ---- Equality, identity and products

module _ (m : ℕ) (pos : 0 < m) (d : ℕ) where
  column-moved : {M : Matrix} → Monomial m d M → (c : ℕ) → c < d → act m M (entry c 0) ≡ col M c
  unfolding act
  column-moved {M} A c l = let z : (col M c).exp + 0 ≡ (col M c).exp = omega arith in entry-path refl (ap (λ x. x % m) z ∙ mod-eq_of_lt (A.small c l))

  pub monomial-path : {M N : Matrix} → Monomial m d M → Monomial m d N → ((c : ℕ) → c < d → act m M (entry c 0) ≡ act m N (entry c 0)) → M ≡ N
  unfolding col
  monomial-path {M} {N} A B h = ext_get_or (entry 0 0) M N (A.square.size ∙ sym B.square.size) (λ c l.
      let b : c < d = subst (λ s. c < s) A.square.size l in
      sym (column-moved A c b) ∙ h c b ∙ column-moved B c b)

  pub identity-monomial : Monomial m d (identity d)
  unfolding identity
  identity-monomial = record {
    square = identity-square m pos d;
    small = λ c l. subst (λ (x : Entry). x.exp < m) (sym (column c l)) pos;
    distinct = λ j k a b e. ap (λ (x : Entry). x.row) (sym (column j a)) ∙ e ∙ ap (λ (x : Entry). x.row) (column k b);
  }
    where
      column : (c : ℕ) → c < d → col (identity d) c ≡ entry c 0
      column c l = col-table (λ k. entry k 0) d c l

  pub product-monomial : {M N : Matrix} → Monomial m d M → Monomial m d N → Monomial m d (product m M N)
  product-monomial {M} {N} A B = record {
    square = product-square m pos d A.square B.square;
    small = λ c l. subst (λ (x : Entry). x.exp < m) (sym (column c l)) (mod-lt _ pos);
    distinct = λ j k a b e. B.distinct j k a b (A.distinct _ _ (B.square.inside j a) (B.square.inside k b)
        (ap (λ (x : Entry). x.row) (sym (column j a)) ∙ e ∙ ap (λ (x : Entry). x.row) (column k b)));
  }
    where
      column : (c : ℕ) → c < d → col (product m M N) c ≡ entry (col M (col N c).row).row (((col M (col N c).row).exp + (col N c).exp) % m)
      column c l = unfold act in col-product m pos d M N c (subst (λ s. c < s) (sym B.square.size) l)

-- ---- Inverses

-- an exponent added and taken off again
module _ (m e y : ℕ) (small : e < m) (l : y < m) where
  back-and-on : (e + (less m 0 e + y) % m) % m ≡ y
  unfolding less
  back-and-on =
      let z : e + (0 + (m - e) + y) ≡ m + y = omega arith in
      ap (λ x. (e + ((0 + (m - x)) % m + y) % m) % m) (mod-eq_of_lt small)
      ∙ ap (λ x. (e + x) % m) (mod-add-mod (0 + (m - e)) m y) ∙ add-mod-mod e (0 + (m - e) + y) m
      ∙ ap (λ x. x % m) z ∙ add-mod_left m y ∙ mod-eq_of_lt l

  on-and-back : (less m 0 e + (e + y) % m) % m ≡ y
  on-and-back =
      let n : ℕ = less m 0 e in
      let z : n + (e + y) ≡ e + (n + y) = omega arith in
      add-mod-mod n (e + y) m ∙ ap (λ x. x % m) z ∙ sym (add-mod-mod e (n + y) m) ∙ back-and-on

module _ (m : ℕ) (pos : 0 < m) (d : ℕ) {M : Matrix} (A : Monomial m d M) where
  -- the inverse at the row of a column
  inverse-at : (k : ℕ) → k < d → col (inverse m M) (col M k).row ≡ entry k (less m 0 (col M k).exp)
  unfolding inverse
  inverse-at k l =
      let n : length M ≡ d = A.square.size in
      let row : (col M k).row < length M = subst (λ s. (col M k).row < s) (sym n) (A.square.inside k l) in
      let found = least-is (length M) (λ j. eqb (col M j).row (col M k).row) k (subst (λ s. k < s) (sym n) l) (eq-eqb (col M k).row _ refl)
      (λ j b e. A.distinct j k (subst (λ s. j < s) n b) l (eqb-true _ _ e)) in
      col-table (λ (r : ℕ). let k = least (length M) (λ k. eqb (col M k).row r) in entry k (less m 0 (col M k).exp)) (length M) (col M k).row row
      ∙ ap (λ k. entry k (less m 0 (col M k).exp)) found

  -- the inverse at a row, and the column that has it
  inverse-of : (r : ℕ) → r < d → (k : ℕ) × (k < d) × ((col M k).row ≡ r) × (col (inverse m M) r ≡ entry k (less m 0 (col M k).exp))
  inverse-of r l = let (k, b, e) = reached m d M A r l in (k, b, e, ap (col (inverse m M)) (sym e) ∙ inverse-at k b)

  pub inverse-monomial : Monomial m d (inverse m M)
  inverse-monomial = record {
    square = record {
      size = unfold inverse in length-table _ (length M) ∙ A.square.size;
      inside = λ r l. let (k, b, e, q) = inverse-of r l in subst (λ (x : Entry). x.row < d) (sym q) b;
    };
    small = λ r l. let (k, b, e, q) = inverse-of r l in subst (λ (x : Entry). x.exp < m) (sym q) (unfold less in mod-lt _ pos);
    distinct = λ r s a b h.
        let (j, c, e, q) = inverse-of r a in
        let (k, c', e', q') = inverse-of s b in
        sym e ∙ ap (λ (x : ℕ). (col M x).row) (ap (λ (x : Entry). x.row) (sym q) ∙ h ∙ ap (λ (x : Entry). x.row) q') ∙ e';
  }

  pub inverse_left : (y : Entry) → In d m y → act m (inverse m M) (act m M y) ≡ y
  unfolding act
  inverse_left y l =
      let k : ℕ = y.row in
      ap (λ (x : Entry). entry x.row ((x.exp + ((col M k).exp + y.exp) % m) % m)) (inverse-at k l.row)
      ∙ entry-path refl (on-and-back m (col M k).exp y.exp (A.small k l.row) l.exp)

  pub inverse-right : (y : Entry) → In d m y → act m M (act m (inverse m M) y) ≡ y
  unfolding act
  inverse-right y l =
      let (k, b, e, q) = inverse-of y.row l.row in
      ap (λ (x : Entry). entry (col M x.row).row (((col M x.row).exp + (x.exp + y.exp) % m) % m)) q
      ∙ entry-path e (back-and-on m (col M k).exp y.exp (A.small k b) l.exp)
