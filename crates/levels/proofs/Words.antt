-- The level that stands last in the words, read as the formulas read it.
--
--   first-of, deg-of, target-of, matrix-of      what is read is what was written
--   word_of                   a word of a line
--   size_of, column_below     matrices have as many columns as their degree, and their columns are in range
--   reads                     all of it
--   source_by, source_told     the level and the words of the presentation, as the formulas ask for them
use mathlib.Core.Path.{◌≡◌, refl, sym, ◌∙◌, ap, ap₂, subst}
use mathlib.Core.Logic.{by_cases}
use mathlib.Core.List.{List, []}
use Prim.Native.Nat.{ℕ, zero, suc, ◌+◌, ◌*◌, ◌≤◌, ◌<◌}
use native.Mathlib.Omega.{arith}
use native.Mathlib.Decide.{dec_lt}
use lib.ListN.{length, get_or}
use lib.Seq.{ext_get_or}
use Rattle.definitions.specs.Presentation.{NF, to_nf, pair_number, Presentation, order}
use Rattle.definitions.specs.Monomial.{Matrix, entry, col, Level, rep_of}
use Rattle.definitions.specs.Table.{DEG, REF, ROW, EXP, line_of, word_at}
use Rattle.definitions.specs.Steps.{levels}
use Rattle.numbers.proofs.Blocks.{get_or-table, length-table}
use Rattle.group.proofs.Order.{order-positive}
use Rattle.monomial.specs.Maps.{Map}
use Rattle.monomial.specs.Frames.{Layout, Shows}
use Rattle.monomial.proofs.Residues.{residues}
use Rattle.clifford.specs.Stands.{frame}
use Rattle.clifford.specs.Accepted.{Accepted}
use Rattle.clifford.proofs.Standing.{Standing, standing, setting}
use Rattle.agreement.proofs.Table.{ReadsLevel}
use Rattle.level.specs.Stored.{Below, entry_in, matrix_in}
use Rattle.survey.specs.declared.Frame.{Frame}
use Rattle.survey.specs.Below.{first_of, deg_of, matrix_of, target_of, source_in}
use Rattle.levels.specs.Built.{up_to, degree_in, frame_at}
use Rattle.levels.proofs.Places.{start_of, start-zero, start-suc, word_in}
use Rattle.levels.proofs.Room.{degree_pos}
use Rattle.formulas.specs.Formulas.{Source}
use Rattle.rows.specs.Rows.{Reads}

module _ (A : Accepted) (k : ℕ) (l : k < A.C.P.n) where
  abbrev pub P : Presentation
  P = A.C.P

  abbrev pub n : ℕ
  n = A.C.P.n

  abbrev pub m : ℕ
  m = order P n

  abbrev pub L : Level
  L = levels P m (suc k)

  abbrev pub d : ℕ → ℕ
  d = degree_in A k

  abbrev pub f : Frame
  f = frame_at A k

  abbrev pub W : List ℕ
  W = up_to A (suc k)

  -- ---- Where, and the degree

  degree-at : (r : ℕ) → r < length L → word_at W (start_of A k r) DEG ≡ d r
  unfolding line_of
  degree-at r h =
      let e : start_of A k r ≡ start_of A k r + (0 * d r + 0) = omega arith in
      ap (λ x. word_at W x DEG) e ∙ word_in A k r 0 0 DEG l h A.positive (degree_pos A k l r h) (omega arith)

  pub first-of : (r : ℕ) → r ≤ length L → first_of f W r ≡ start_of A k r
  unfolding first_of
  first-of zero h = sym (start-zero A k)
  first-of (suc r) h =
      ap (λ x. x + n * word_at W x DEG) (first-of r (omega arith)) ∙ ap (λ x. start_of A k r + n * x) (degree-at r (omega arith)) ∙ sym (start-suc A k r)

  pub deg-of : (r : ℕ) → r < length L → deg_of f W r ≡ d r
  deg-of r h = ap (λ x. word_at W x DEG) (first-of r (omega arith)) ∙ degree-at r h

  pub line-of : (g r c : ℕ) → r < length L → matrix_of f W g r + c ≡ start_of A k r + (g * d r + c)
  line-of g r c h = ap₂ (λ x y. x + g * y + c) (first-of r (omega arith)) (deg-of r h) ∙ omega arith

  -- ---- Words

  pub word_of : (g r c w : ℕ) → r < length L → g < n → c < d r → w < 8
      → word_at W (matrix_of f W g r + c) w ≡ get_or (line_of (suc k) r (rep_of L r) g c) w 0
  word_of g r c w h a b e = ap (λ x. word_at W x w) (line-of g r c h) ∙ word_in A k r g c w l h a b e

  pub target-of : (j r : ℕ) → r < length L → j < n → target_of f W j r ≡ (rep_of L r).ref j 0
  unfolding line_of
  target-of j r h a =
      let e : matrix_of f W j r ≡ matrix_of f W j r + 0 = omega arith in
      ap (λ x. word_at W x REF) e ∙ word_of j r 0 REF h a (degree_pos A k l r h) (omega arith)

  pub entry_of : (g r c : ℕ) → r < length L → g < n → c < d r → entry_in W (matrix_of f W g r + c) ≡ col ((rep_of L r).matrix g) c
  unfolding line_of
  entry_of g r c h a b = ap₂ entry (word_of g r c ROW h a b (omega arith)) (word_of g r c EXP h a b (omega arith))

  -- ---- Matrices

  abbrev stands_here : Standing (setting A) (suc k) L
  stands_here = standing (setting A) (suc k) l

  abbrev Φ : Layout stands_here.Ω
  Φ = frame L stands_here.F.rep stands_here.stands.column stands_here.stands.column_below

  shown-below : (r s c : ℕ) (M : Matrix) (B : Map (residues m (order-positive A.C n)) stands_here.Ω) → r < length L → d s ≡ d r → c < d r → Shows m Φ r s M B → Below m (d r) (col M c)
  shown-below r s c M B h e b sh =
      let a : stands_here.Ω = stands_here.stands.complete.find r c h b in
      let q : stands_here.F.rep a ≡ r = stands_here.stands.complete.find_rep r c h b in
      let z : col M c ≡ entry (stands_here.stands.column (B a).0) (B a).1.0 = ap (col M) (sym (stands_here.stands.complete.find_column r c h b)) ∙ sh.shown a q in
      subst (Below m (d r)) (sym z) (record {
        row = subst (λ x. stands_here.stands.column (B a).0 < x) (ap d (sh.maps_to a q) ∙ e) (stands_here.stands.column_below (B a).0);
        exp = (B a).1.1;
      })

  pub size_of : (r g : ℕ) → r < length L → g < n → length ((rep_of L r).matrix g) ≡ d r
  size_of r g h a = by_cases (dec_lt g (suc k))
      (λ b. (stands_here.stands.represents g b r h).size)
      (λ b. (stands_here.stands.intertwines g (omega arith) a r h).size)

  pub column_below : (r g c : ℕ) → r < length L → g < n → c < d r → Below m (d r) (col ((rep_of L r).matrix g) c)
  column_below r g c h a e = by_cases (dec_lt g (suc k))
      (λ b. shown-below r r c ((rep_of L r).matrix g) _ h refl e (stands_here.stands.represents g b r h))
      (λ b.
      let S = stands_here.stands in
      shown-below r (stands_here.F.target g r) c ((rep_of L r).matrix g) _ h (S.degree_target g (omega arith) a r h) e (S.intertwines g (omega arith) a r h))

  pub matrix-of : (r g : ℕ) → r < length L → g < n → (rep_of L r).matrix g ≡ matrix_in W (matrix_of f W g r) (deg_of f W r)
  unfolding col
  matrix-of r g h a =
      ext_get_or (entry 0 0) ((rep_of L r).matrix g) (matrix_in W (matrix_of f W g r) (deg_of f W r))
      (size_of r g h a ∙ sym (deg-of r h) ∙ sym (length-table (λ (c : ℕ). entry_in W (matrix_of f W g r + c)) (deg_of f W r)))
      (λ c b.
      let e : c < d r = subst (λ x. c < x) (size_of r g h a) b in
      sym (get_or-table (λ (c : ℕ). entry_in W (matrix_of f W g r + c)) (deg_of f W r) c (entry 0 0) (subst (λ x. c < x) (sym (deg-of r h)) e) ∙ entry_of g r c h a e))

  pub reads : ReadsLevel A (suc k) (deg_of f W) (λ r g. matrix_in W (matrix_of f W g r) (deg_of f W r)) (target_of f W)
  reads = record { degrees = λ r h. sym (deg-of r h); matrices = λ r g h a. matrix-of r g h a; targets = λ j r a b h. sym (target-of j r h b) }

  module _ (h : suc k < n) (rows : List (List ℕ)) {primes : List ℕ} (told : Reads P n primes rows) where
    -- with u for the power word
    abbrev pub source_by : NF (suc k) → Source
    source_by u = record {
      m = m;
      i = suc k;
      p = P.p (suc k);
      u = u;
      w = λ j. to_nf (suc (suc k)) (get_or rows (pair_number j (suc k)) []);
      count = length L;
      degree = deg_of f W;
      matrix = λ r g. matrix_in W (matrix_of f W g r) (deg_of f W r);
      target = target_of f W;
    }

    pub source_told : source_by (P.u (suc k)) ≡ source_in f W rows
    source_told = ap source_by (sym (told.u_is (suc k) h))
