-- What is compared of a representation is what fitting asks of it.
--
--   BlockCount, cut_of                                  how many blocks it has
--   compared                                     the fields of `Fitting` that are comparisons
use mathlib.Core.Path.{◌≡◌, refl, sym, ◌∙◌, ap, ap₂, subst}
use mathlib.Core.Logic.{◌⊎◌, inl, inr, by_cases}
use mathlib.Core.Bool.{true}
use mathlib.Core.List.{List}
use Prim.Native.Nat.{ℕ, suc, ◌+◌, ◌*◌, ◌/◌, ◌%◌, ◌≤◌, ◌<◌}
use native.Mathlib.Nat.{mod-eq_of_lt, mod-lt, div-add-mod', mul-le-mul_right, mul-lt-mul_of_pos_right, div-lt_iff_lt-mul}
use native.Mathlib.Omega.{arith}
use native.Mathlib.Decide.{dec_lt}
use Rattle.definitions.specs.declared.Entry.{Entry}
use Rattle.definitions.specs.Presentation.{Presentation}
use Rattle.definitions.specs.Monomial.{entry, col, less, Rep, Level, rep_of}
use Rattle.definitions.specs.Table.{REF, word_at, level_at}
use Rattle.monomial.proofs.Frames.{entry-path}
use Rattle.columns.specs.Columns.{power_at, intertwines_at}
use Rattle.clifford.specs.Stands.{Restricts}
use Rattle.fitting.specs.Fits.{Fitting}
use Rattle.level.specs.declared.Listed.{Listed}
use Rattle.level.specs.Stored.{entry_in, line_in, target_in}
use Rattle.seek.specs.declared.Scope.{Scope}
use Rattle.seek.specs.Seek.{Found}
use Rattle.compare.specs.declared.Stage.{Stage}
use Rattle.compare.specs.Staged.{Staged}
use Rattle.compare.specs.Blocks.{block, TakesBlock, row_to, Upper, ref_at, BlockFits, Wide, RepFits}
use Rattle.check_first.proofs.Found.{found-column, found-ref, found-first-ref, found_target, found-head}

-- ---- How many blocks

pub record BlockCount (T : List ℕ) (g : Stage) (D : Listed) (w : ℕ) (F : Listed) : Type 0 where
  pub count : ℕ
  pub is : D.deg ≡ count * w
  pub one_or_p : (count ≡ 1) ⊎ (count ≡ g.p)
  pub moved : ¬ (count ≡ 1) → ¬ (target_in T F g.top ≡ word_at T D.line REF)

pub cut_of : {s : Scope} {T : List ℕ} {g : Stage} {D : Listed} {w : ℕ} (W : Wide s T g D w) → BlockCount T g D w W.first
cut_of {s} {T} {g} {D} {w} W = go W.split
  where
    go : (D.deg ≡ w) ⊎ ((D.deg ≡ g.p * w) × ¬ (target_in T W.first g.top ≡ word_at T D.line REF)) → BlockCount T g D w W.first
    go (inl e) = record { count = 1; is = omega (arith, e); one_or_p = inl refl; moved = λ n. absurd (n refl) }
    go (inr (e, n)) = record { count = g.p; is = e; one_or_p = inr refl; moved = λ a. n }

-- ---- One representation

module _ {s : Scope} {T firsts : List ℕ} {g : Stage} (S : Staged s T firsts g) {r : ℕ} {D : Listed} (G : Found s.gens T (suc g.top) r D)
    (R : RepFits s T g D) where
  abbrev n : ℕ
  n = s.gens

  abbrev i : ℕ
  i = g.top

  abbrev w : ℕ
  w = R.w

  abbrev Low : Level
  Low = level_at s.gens T g.top

  abbrev High : Level
  High = level_at s.gens T (suc g.top)

  abbrev X : Rep
  X = rep_of High r

  abbrev C : BlockCount T g D w R.wide.first
  C = cut_of R.wide

  w-pos : 0 < w
  w-pos = subst (λ z. 0 < z) R.wide.width R.wide.found.positive

  begins : (k : ℕ) → k < C.count → k * w < D.deg
  begins k l = subst (λ d. k * w < d) (sym C.is) (mul-lt-mul_of_pos_right l w-pos)

  abbrev B : (k : ℕ) → k < C.count → BlockFits s T g D (k * w) w
  B k l = R.blocks k (begins k l)

  abbrev part : ℕ → ℕ
  part k = ref_at s T g D (k * w)

  column_below : (k c : ℕ) → k < C.count → c < w → k * w + c < D.deg
  column_below k c l h = let z : suc k * w ≤ C.count * w = mul-le-mul_right w l in omega (arith, z, C.is)

  -- column c of block k, in the lines of generator h
  column-of : (h k c : ℕ) → k < C.count → c < w → col (X.matrix h) (k * w + c) ≡ entry_in T (line_in D h + k * w + c)
  column-of h k c l b = let e : line_in D h + (k * w + c) ≡ line_in D h + k * w + c = omega arith in
      found-column G h (k * w + c) (column_below k c l b) ∙ ap (entry_in T) e

  ref-of : (h k c : ℕ) → X.ref h (k * w + c) ≡ word_at T (line_in D h + k * w + c) REF
  ref-of h k c = let e : line_in D h + (k * w + c) ≡ line_in D h + k * w + c = omega arith in found-ref G h (k * w + c) ∙ ap (λ l. word_at T l REF) e

  module _ (k : ℕ) (l : k < C.count) where
    abbrev F : Listed
    F = (B k l).part

    part-column : (h c : ℕ) → c < w → col ((rep_of Low (part k)).matrix h) c ≡ entry_in T (line_in F h + c)
    part-column h c b = found-column (B k l).found h c (subst (λ d. c < d) (sym (B k l).width) b)

    part-head : (h : ℕ) → col ((rep_of Low (part k)).matrix h) 0 ≡ entry_in T (line_in F h)
    part-head h = found-head (B k l).found h

    -- ---- Generators below the top

    lower-ref : (h c : ℕ) → h < i → c < w → X.ref h (k * w + c) ≡ part k
    lower-ref h c a b = ref-of h k c ∙ (((B k l).lower.each h a).each c (subst (λ d. c < d) (sym (B k l).width) b)).ref

    lower-acts : (h c : ℕ) → h < i → c < w
        → col (X.matrix h) (k * w + c) ≡ entry (k * w + (col ((rep_of Low (part k)).matrix h) c).row) (col ((rep_of Low (part k)).matrix h) c).exp
    lower-acts h c a b =
        let c' : c < F.deg = subst (λ d. c < d) (sym (B k l).width) b in
        let x : Entry = entry_in T (line_in F h + c) in
        let e : x.exp + 0 ≡ x.exp = omega arith in
        let m = (((S.stored (part k) (B k l).found).holds h (omega (arith, S.level.1))).valid c c').exp in
        column-of h k c l b ∙ (((B k l).lower.each h a).each c c').is ∙ entry-path refl (ap (λ z. z % s.m) e ∙ mod-eq_of_lt m)
        ∙ sym (ap (λ (x : Entry). entry (k * w + x.row) x.exp) (part-column h c b))

    -- ---- The generator on top and those above

    head_of : (h : ℕ) → col (X.matrix h) (k * w) ≡ entry_in T (line_in D h + k * w)
    head_of h = found-column G h (k * w) (begins k l)

    abbrev to : ℕ → ℕ
    to h = (col (X.matrix h) (k * w)).row / w

    abbrev scalar : ℕ → ℕ
    scalar h = less s.m (col (X.matrix h) (k * w)).exp (col ((rep_of Low (part k)).matrix h) 0).exp

    module _ {h x : ℕ} {E : Listed} (Q : TakesBlock s T D E (block (k * w) (part k) F) h x) where
      row_is : to h * w ≡ row_to T D (block (k * w) (part k) F) h
      row_is = ap (λ (y : Entry). y.row / w * w) (head_of h) ∙ ap (λ d. (entry_in T (line_in D h + k * w)).row / d * d) (sym (B k l).width)

      scalar_is : scalar h ≡ less s.m (entry_in T (line_in D h + k * w)).exp (entry_in T (line_in F h)).exp
      scalar_is = ap₂ (λ (x y : Entry). less s.m x.exp y.exp) (head_of h) (part-head h)

      carried-lands : to h < C.count
      carried-lands =
          let a : (col (X.matrix h) (k * w)).row < C.count * w =
          subst (λ d. (col (X.matrix h) (k * w)).row < d) C.is (subst (λ (y : Entry). y.row < D.deg) (sym (head_of h)) Q.lands) in
          (div-lt_iff_lt-mul w-pos).1 a

      carried-shifts : (c : ℕ) → c < w → let x = col ((rep_of Low (part k)).matrix h) c in
          col (X.matrix h) (k * w + c) ≡ entry (to h * w + x.row) ((x.exp + scalar h) % s.m)
      carried-shifts c b =
          let c' : c < F.deg = subst (λ d. c < d) (sym (B k l).width) b in
          column-of h k c l b ∙ (Q.shifted.each c c').is
          ∙ sym (ap (λ (x : Entry). entry (to h * w + x.row) ((x.exp + scalar h) % s.m)) (part-column h c b)
          ∙ ap₂ (λ o e. entry (o + (entry_in T (line_in F h + c)).row) (((entry_in T (line_in F h + c)).exp + e) % s.m)) row_is scalar_is)

      carried-leads : word_at T (E.line + to h * w) REF ≡ (rep_of Low (part k)).ref h 0
      carried-leads = ap (λ o. word_at T (E.line + o) REF) row_is ∙ Q.leads ∙ sym (found_target (B k l).found h)

    carried-refs : {h x : ℕ} {E : Listed} → TakesBlock s T D E (block (k * w) (part k) F) h x → (c : ℕ) → c < w → X.ref h (k * w + c) ≡ x
    carried-refs {h} Q c b = ref-of h k c ∙ (Q.shifted.each c (subst (λ d. c < d) (sym (B k l).width) b)).ref

    abbrev U : (j : ℕ) → i < j → j < n → Upper s T g D (block (k * w) (part k) F) j
    U j a b = (B k l).upper.each j a b

    lands-at : (h : ℕ) → i ≤ h → h < n → to h < C.count
    lands-at h a b = by_cases (dec_lt i h)
        (λ q. carried-lands (U h q b).carried)
        (λ q. let e : i ≡ h = omega arith in subst (λ h. to h < C.count) e (carried-lands (B k l).top))

    abbrev Shifts : (c h : ℕ) → Type 0
    Shifts c h = let x = col ((rep_of Low (part k)).matrix h) c in col (X.matrix h) (k * w + c) ≡ entry (to h * w + x.row) ((x.exp + scalar h) % s.m)

    shifts-at : (h c : ℕ) → i ≤ h → h < n → c < w → Shifts c h
    shifts-at h c a b d = by_cases (dec_lt i h)
        (λ q. carried-shifts (U h q b).carried c d)
        (λ q. let e : i ≡ h = omega arith in subst (Shifts c) e (carried-shifts (B k l).top c d))

  -- ---- Where the generators above lead

  zero-below : 0 < C.count
  zero-below = by_cases (dec_lt 0 C.count)
      (λ q. q)
      (λ q. let z : C.count ≡ 0 = omega arith in absurd (omega (arith, C.is, ap (λ q. q * w) z, G.positive)))

  module _ (j : ℕ) (a : i < j) (b : j < n) where
    abbrev U₀ : Upper s T g D (block (0 * w) (part 0) (B 0 zero-below).part) j
    U₀ = U 0 zero-below j a b

    target_is : X.ref j 0 ≡ target_in T D j
    target_is = found_target G j

    target_found : Found n T (suc i) (X.ref j 0) U₀.target
    target_found = subst (λ x. Found n T (suc i) x U₀.target) (sym target_is) U₀.found

    leads-at : (c : ℕ) → c < D.deg → X.ref j c ≡ X.ref j 0
    leads-at c l =
        let k = c / w in
        let e : k * w + c % w ≡ c = div-add-mod' c w in
        let h : k < C.count = (div-lt_iff_lt-mul w-pos).1 (subst (λ d. c < d) C.is l) in
        sym (ap (X.ref j) e) ∙ carried-refs k h (U k h j a b).carried (c % w) (mod-lt c w-pos) ∙ sym target_is

    degree-at : (rep_of High (X.ref j 0)).deg ≡ X.deg
    degree-at = sym target_found.deg ∙ U₀.degree ∙ G.deg

    width-at : (rep_of Low ((rep_of High (X.ref j 0)).ref 0 0)).deg ≡ w
    width-at =
        let e : U₀.target.line + 0 ≡ U₀.target.line = omega arith in
        ap (λ x. (rep_of Low x).deg) (found-first-ref target_found 0 ∙ ap (λ l. word_at T l REF) e)
        ∙ sym U₀.refers.deg ∙ U₀.width ∙ (B 0 zero-below).width

    -- every block leads to one representation
    arrives_at : (k : ℕ) (l : k < C.count) → (rep_of High (X.ref j 0)).ref 0 (to k l j * w) ≡ (rep_of Low (part k)).ref j 0
    arrives_at k l =
        let Q = U k l j a b in
        let f : Found n T (suc i) (X.ref j 0) Q.target = subst (λ x. Found n T (suc i) x Q.target) (sym target_is) Q.found in
        found-first-ref f (to k l j * w) ∙ carried-leads k l Q.carried

  -- ---- What fitting asks

  refers-at : (h : ℕ) → h < suc i → (k c : ℕ) → k < C.count → c < w → X.ref h (k * w + c) ≡ part k
  refers-at h a k c l b = by_cases (dec_lt h i)
      (λ q. lower-ref k l h c q b)
      (λ q. let e : i ≡ h = omega arith in subst (λ h. X.ref h (k * w + c) ≡ part k) e (carried-refs k l (B k l).top c b))

  first-moved : ¬ (C.count ≡ 1) → ¬ ((rep_of Low (part 0)).ref i 0 ≡ part 0)
  first-moved ne e =
      let z : D.line + 0 * w ≡ D.line = omega arith in
      let q = ap (λ l. word_at T l REF) z in
      C.moved ne (sym (found_target R.wide.found i) ∙ sym (ap (λ x. (rep_of Low x).ref i 0) q) ∙ e ∙ q)

  abbrev cut : Restricts i Low X
  cut = record {
    count = C.count;
    width = w;
    part = part;
    width_pos = w-pos;
    part_below = λ k l. (B k l).found.listed;
    part_degree = λ k l. sym (B k l).found.deg ∙ (B k l).width;
    degree = sym G.deg ∙ C.is;
    refers = λ h a k c l b. refers-at h a k c l b;
    acts = λ h a k c l b. lower-acts k l h c a b;
  }

  pub compared : (P : Presentation) → g.p ≡ P.p g.top → power_at P s.m (rep_of (level_at s.gens T (suc g.top)) r) g.top 0 ≡ true
      → ((j k : ℕ) → g.top < j → j < s.gens → k * R.w < D.deg
      → let X = rep_of (level_at s.gens T (suc g.top)) r in
      intertwines_at P s.m X (rep_of (level_at s.gens T (suc g.top)) (X.ref j 0)) g.top j (k * R.w) ≡ true)
      → Fitting P s.gens s.m g.top (level_at s.gens T g.top) (level_at s.gens T (suc g.top)) r
  compared P prime power conjugate = record {
    cut = cut;
    one_or_p = count-is C.one_or_p;
    lands = λ h k a b l. lands-at k l h a b;
    shifts = λ h k c a b l d. shifts-at k l h c a b d;
    follows = λ k l. carried-leads k l (B k l).top;
    moved = first-moved;
    power = power;
    listed = λ j a b. (target_found j a b).listed;
    leads = λ j c a b l. leads-at j a b c (subst (λ d. c < d) (sym G.deg) l);
    same_degree = degree-at;
    same_width = width-at;
    arrives = λ j k a b l. arrives_at j a b k l;
    conjugate = λ j k a b l. conjugate j k a b (begins k l);
  }
    where
      count-is : (C.count ≡ 1) ⊎ (C.count ≡ g.p) → (C.count ≡ 1) ⊎ (C.count ≡ P.p i)
      count-is (inl e) = inl e
      count-is (inr e) = inr (e ∙ prime)
