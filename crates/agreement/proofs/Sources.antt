-- The closed formulas ask of the level below only what its lines say: sources that agree there give the same lines.
--
--   level-length, level-at  how many representations the level of a source has, and each of them
--   not-above               two choices by whether a generator is above the one on top
--   Twins                   two sources that agree on the listed representations, and on the words and matrices of the
--                           generators below n
--   left, right             the two
--   orbit-same .. scalar-same      every function of the formulas
--   twins-words             their levels have the same lines
use mathlib.Core.Path.{◌≡◌, refl, sym, ◌∙◌, ap, ap₂, subst, fun_ext}
use mathlib.Core.Logic.{by_cases}
use mathlib.Core.Bool.{Bool, true, false, cond}
use mathlib.Core.List.{[], ◌∷◌, map}
use Prim.Native.Nat.{ℕ, zero, suc, ◌+◌, ◌*◌, ◌/◌, ◌%◌, ◌≤◌, ◌<◌}
use native.Mathlib.Omega.{arith}
use native.Mathlib.Decide.{dec_lt}
use lib.Dec.{eqb, ltb, leb}
use lib.ListN.{length, get_or}
use borrow.Author.Tests.{eq-eqb, le-leb}
use Rattle.definitions.specs.declared.Entry.{Entry}
use Rattle.definitions.specs.Lists.{upto, blocks, sum, any_below, least_from, least, iter}
use Rattle.definitions.specs.Presentation.{NF}
use Rattle.definitions.specs.Monomial.{Matrix, entry, col, less, act, scale, Rep, Level, rep_of, no_rep}
use Rattle.definitions.specs.Steps.{lift}
use Rattle.definitions.specs.Table.{line_of, rep_words, level_words}
use Rattle.formulas.specs.Formulas as Fm
use Rattle.formulas.specs.Formulas.{Source, Moved}
use Rattle.numbers.proofs.Bools.{compared, cond-true, cond-eq, cond-lt}
use Rattle.numbers.proofs.Lists.{iter-zero, iter-suc, length-blocks}
use Rattle.numbers.proofs.Sums.{sum_below, owner}
use Rattle.numbers.proofs.Searches.{any_below-intro, any_below-below, least-least}
use Rattle.numbers.proofs.Blocks.{get_or-table, length-table, get_or-blocks, blocks-below}

-- ---- Searches ask only below their bound

least_from-below : (n k : ℕ) (q q' : ℕ → Bool) → ((j : ℕ) → k ≤ j → j < k + n → q j ≡ q' j) → least_from n k q ≡ least_from n k q'
unfolding least_from
least_from-below zero k q q' h = refl
least_from-below (suc n) k q q' h = ap₂ (λ b x. cond b k x) (h k (omega arith) (omega arith)) (least_from-below n (suc k) q q' (λ j a b. h j (omega arith) (omega arith)))

least-below : (n : ℕ) (q q' : ℕ → Bool) → ((j : ℕ) → j < n → q j ≡ q' j) → least n q ≡ least n q'
unfolding least
least-below n q q' h = least_from-below n 0 q q' (λ j a b. h j (omega arith))

-- ---- The level of a source

-- what stands above a representation that is fixed (b), or that leads (c)
abbrev given : Source → ℕ → Bool → Bool → Level
given S r b c = cond b (map (Fm.extension_at S r) (upto S.p)) (cond c (Fm.induction_at S r ∷ []) [])

module _ (S : Source) where
  given-length : (r : ℕ) → length (Fm.given_at S r) ≡ Fm.made S r
  unfolding Fm.given_at Fm.made
  given-length r = go (Fm.fixed S r) (eqb (Fm.leader S r) r)
    where
      go : (b c : Bool) → length (given S r b c) ≡ cond b S.p (cond c 1 0)
      go true c = length-table (Fm.extension_at S r) S.p
      go false true = refl
      go false false = refl

  pub level-length : length (Fm.level_by S) ≡ sum S.count (Fm.made S)
  unfolding Fm.level_by
  level-length = length-blocks S.count (Fm.given_at S) ∙ sum_below S.count _ (Fm.made S) (λ r l. given-length r)

  pub level-at : (s κ : ℕ) → s < S.count → κ < Fm.made S s → rep_of (Fm.level_by S) (sum s (Fm.made S) + κ) ≡ get_or (Fm.given_at S s) κ no_rep
  unfolding Fm.level_by rep_of
  level-at s κ h l =
      ap (λ z. get_or (blocks S.count (Fm.given_at S)) (z + κ) no_rep) (sym (sum_below s (λ k. length (Fm.given_at S k)) (Fm.made S) (λ k a. given-length k)))
      ∙ get_or-blocks no_rep S.count (Fm.given_at S) s κ h (subst (λ z. κ < z) (sym (given-length s)) l)

-- ---- By the kind of a generator: below the one on top, that one, or above

by_kind : (g i b : ℕ) {x x' y y' : ℕ} → x ≡ x' → (i < g → y ≡ y') → cond (ltb g i) b (cond (eqb g i) x y) ≡ cond (ltb g i) b (cond (eqb g i) x' y')
by_kind g i b e h = compared g i (λ a. cond-lt g i _ _ a ∙ sym (cond-lt g i _ _ a))
    (λ q. ap (cond (ltb g i) b) (cond-eq g i _ _ q ∙ e ∙ sym (cond-eq g i _ _ q)))
    (λ a. ap₂ (λ x y. cond (ltb g i) b (cond (eqb g i) x y)) e (h a))

pub not-above : (g i : ℕ) {x x' y y' : ℕ} → x ≡ x' → (i < g → y ≡ y') → cond (leb g i) x y ≡ cond (leb g i) x' y'
not-above g i e h = by_cases (dec_lt i g) (λ a. ap₂ (cond (leb g i)) e (h a))
    (λ a. let t = le-leb g i (omega arith) in cond-true (leb g i) _ _ t ∙ e ∙ sym (cond-true (leb g i) _ _ t))

pub record Twins : Type 0 where
  pub m : ℕ
  pub i : ℕ
  pub p : ℕ
  pub n : ℕ
  pub u : NF i
  pub w : (j : ℕ) → NF (suc i)
  pub w' : (j : ℕ) → NF (suc i)
  pub count : ℕ
  pub degree : ℕ → ℕ
  pub degree' : ℕ → ℕ
  pub matrix : ℕ → ℕ → Matrix
  pub matrix' : ℕ → ℕ → Matrix
  pub target : ℕ → ℕ → ℕ
  pub target' : ℕ → ℕ → ℕ
  pub in_range : i < n
  pub p_pos : 0 < p
  pub word_same : (j : ℕ) → i < j → j < n → w j ≡ w' j
  pub degree_same : (r : ℕ) → r < count → degree r ≡ degree' r
  pub matrix_same : (r g : ℕ) → r < count → g < n → matrix r g ≡ matrix' r g
  pub target_same : (j r : ℕ) → i ≤ j → j < n → r < count → target j r ≡ target' j r
  pub target_below : (j r : ℕ) → i ≤ j → j < n → r < count → target j r < count

module _ (T : Twins) where
  open T use {m, i, p, n, u, w, w', count, degree, degree', matrix, matrix', target, target', in_range}

  abbrev pub left : Source
  left = record { m = T.m; i = T.i; p = T.p; u = T.u; w = T.w; count = T.count; degree = T.degree; matrix = T.matrix; target = T.target }

  abbrev pub right : Source
  right = record { m = T.m; i = T.i; p = T.p; u = T.u; w = T.w'; count = T.count; degree = T.degree'; matrix = T.matrix'; target = T.target' }

  -- ---- Orbits

  orbit-same : (k r : ℕ) → r < count → (Fm.orbit left r k ≡ Fm.orbit right r k) × (Fm.orbit left r k < count)
  orbit-same zero r h = (iter-zero (target i) r ∙ sym (iter-zero (target' i) r), subst (λ s. s < count) (sym (iter-zero (target i) r)) h)
  orbit-same (suc k) r h =
      let (a, b) = orbit-same k (target i r) (T.target_below i r (omega arith) in_range h) in
      (iter-suc (target i) k r ∙ a ∙ ap (iter (target' i) k) (T.target_same i r (omega arith) in_range h) ∙ sym (iter-suc (target' i) k r), subst (λ s. s < count) (sym (iter-suc (target i) k r)) b)

  orbit-in : (r k : ℕ) → r < count → Fm.orbit left r k < count
  orbit-in r k h = (orbit-same k r h).1

  pub leader-same : (r : ℕ) → Fm.leader left r ≡ Fm.leader right r
  leader-same r = least-below count _ _ (λ q l. any_below-below p _ _ (λ k a. ap (λ s. eqb s r) (orbit-same k q l).0))

  leader-in : (r : ℕ) → r < count → Fm.leader left r < count
  leader-in r h =
      let own = any_below-intro p (λ k. eqb (iter (target i) k r) r) 0 T.p_pos (eq-eqb _ _ (iter-zero (target i) r)) in
      let a : Fm.leader left r ≤ r = least-least count (λ q. any_below p (λ k. eqb (iter (target i) k q) r)) r own in omega arith

  position-same : (r : ℕ) → r < count → Fm.position left r ≡ Fm.position right r
  position-same r h = least-below p _ _ (λ k l. ap (λ s. eqb s r) ((orbit-same k (Fm.leader left r) (leader-in r h)).0 ∙ ap (iter (target' i) k) (leader-same r)))

  turn-same : (r : ℕ) → r < count → target i r ≡ target' i r
  turn-same r h = T.target_same i r (omega arith) in_range h

  pub made-same : (r : ℕ) → r < T.count → Fm.made left r ≡ Fm.made right r
  unfolding Fm.made
  made-same r h = ap₂ (λ t l. cond (eqb t r) p (cond (eqb l r) 1 0)) (turn-same r h) (leader-same r)

  start-same : (r : ℕ) → r ≤ count → Fm.start left r ≡ Fm.start right r
  unfolding Fm.start
  start-same r h = sum_below r _ _ (λ k l. made-same k (omega arith))

  -- ---- Walks

  walk_same : (r k : ℕ) → r < count → k ≤ i → (x : NF k) (y : Entry) → Fm.walk m (matrix r) k x y ≡ Fm.walk m (matrix' r) k x y
  unfolding Fm.walk
  walk_same r zero h l x y = refl
  walk_same r (suc k) h l x y = ap₂ (λ M z. iter (act m M) x.0 z) (T.matrix_same r k h (omega arith)) (walk_same r k h (omega arith) x.1 y)

  around-same : (r k : ℕ) → r < count → Fm.around left r k ≡ Fm.around right r k
  unfolding Fm.around
  around-same r zero h = refl
  around-same r (suc k) h = ap₂ (act m) (T.matrix_same (Fm.orbit left r k) i (orbit-in r k h) in_range ∙ ap (λ t. matrix' t i) (orbit-same k r h).0) (around-same r k h)

  shift_same : (r : ℕ) → r < count → Fm.shift left r ≡ Fm.shift right r
  unfolding Fm.shift
  shift_same r h = ap₂ (λ (x y : Entry). less m x.exp y.exp) (walk_same r i h (omega arith) u (entry 0 0)) (around-same r p h)

  top-same : (r : ℕ) → r < count → (x : Entry) → Fm.top_entry left r x ≡ Fm.top_entry right r x
  unfolding Fm.top_entry
  top-same r h x = ap₂ (λ c M. Fm.plus m (c / p) (act m M x)) (shift_same r h) (T.matrix_same r i h in_range)

  iter-same : {A : Type 0} (f g : A → A) → ((x : A) → f x ≡ g x) → (k : ℕ) (x : A) → iter f k x ≡ iter g k x
  iter-same f g h k x = ap (λ t. iter t k x) (fun_ext h)

  landing_same : (j r : ℕ) → i < j → j < n → r < count → Fm.landing left j r ≡ Fm.landing right j r
  unfolding Fm.landing
  landing_same j r a b h =
      let k : ℕ = suc (w j).0 in
      let x : iter (Fm.top_entry left r) k (Fm.walk m (matrix r) i (w j).1 (entry 0 0)) ≡ iter (Fm.top_entry right r) (suc (w' j).0) (Fm.walk m (matrix' r) i (w' j).1 (entry 0 0))
      = iter-same (Fm.top_entry left r) (Fm.top_entry right r) (top-same r h) k _ ∙ ap (iter (Fm.top_entry right r) k) (walk_same r i h (omega arith) (w j).1 (entry 0 0))
      ∙ ap (λ (v : NF (suc i)). iter (Fm.top_entry right r) (suc v.0) (Fm.walk m (matrix' r) i v.1 (entry 0 0))) (T.word_same j a b) in
      let y : Fm.top_entry left (target j r) (act m (matrix r j) (entry 0 0)) ≡ Fm.top_entry right (target' j r) (act m (matrix' r j) (entry 0 0))
      = top-same (target j r) (T.target_below j r (omega arith) b h) _ ∙ ap₂ (λ t M. Fm.top_entry right t (act m M (entry 0 0))) (T.target_same j r (omega arith) b h) (T.matrix_same r j h b) in
      ap₂ (λ (s t : Entry). less m s.exp t.exp / (m / p)) (ap₂ (act m) (T.matrix_same r j h b) x) y

  -- ---- Along an orbit

  shift_of-same : (r b : ℕ) → r < count → Fm.shift_of left r b ≡ Fm.shift_of right r b
  shift_of-same r b h = ap (λ x. cond (ltb (suc b) p) 0 x) (shift_same r h)

  orbit-matrix : (r b g : ℕ) → r < count → g < n → matrix (Fm.orbit left r b) g ≡ matrix' (Fm.orbit right r b) g
  orbit-matrix r b g h l = T.matrix_same (Fm.orbit left r b) g (orbit-in r b h) l ∙ ap (λ t. matrix' t g) (orbit-same b r h).0

  cycle-same : (r : ℕ) → r < count → (x : Moved) → Fm.cycle_entry left r x ≡ Fm.cycle_entry right r x
  unfolding Fm.cycle_entry
  cycle-same r h x = λ o. record { block = Fm.next_of left x.block; at = ap₂ (λ c M. Fm.plus m c (act m M x.at)) (shift_of-same r x.block h) (orbit-matrix r x.block i h in_range) o }

  module _ (j r : ℕ) (a : T.i < j) (b : j < T.n) (h : r < T.count) where
    conj-same : (k : ℕ) → Fm.conjugate_entry left j r k ≡ Fm.conjugate_entry right j r k
    unfolding Fm.conjugate_entry
    conj-same k =
        let walked = walk_same (Fm.orbit left r k) i (orbit-in r k h) (omega arith) (w j).1 (entry 0 0) ∙ ap (λ t. Fm.walk m (matrix' t) i (w j).1 (entry 0 0)) (orbit-same k r h).0 in
        iter-same (Fm.cycle_entry left r) (Fm.cycle_entry right r) (cycle-same r h) (suc (w j).0) _
        ∙ ap (iter (Fm.cycle_entry right r) (suc (w j).0)) (λ o. record { block = k; at = walked o })
        ∙ ap (λ (v : NF (suc i)). iter (Fm.cycle_entry right r) (suc v.0) (record { block = k; at = Fm.walk m (matrix' (Fm.orbit right r k)) i v.1 (entry 0 0) })) (T.word_same j a b)

    left-same : (k : ℕ) → Fm.left_at left j r k ≡ Fm.left_at right j r k
    unfolding Fm.left_at
    left-same k = ap (λ (x : Moved). (act m (matrix (Fm.orbit left r x.block) j) x.at).exp) (conj-same k)
        ∙ ap (λ M. (act m M (Fm.conjugate_entry right j r k).at).exp) (orbit-matrix r (Fm.conjugate_entry right j r k).block j h b)

    -- the representation to which block k is mapped
    to_same : (k : ℕ) → target j (Fm.orbit left r k) ≡ target' j (Fm.orbit right r k)
    to_same k = T.target_same j (Fm.orbit left r k) (omega arith) b (orbit-in r k h) ∙ ap (target' j) (orbit-same k r h).0

    to_in : (k : ℕ) → target j (Fm.orbit left r k) < count
    to_in k = T.target_below j (Fm.orbit left r k) (omega arith) b (orbit-in r k h)

    right-same : (k : ℕ) → Fm.right_at left j r k ≡ Fm.right_at right j r k
    unfolding Fm.right_at
    right-same k =
        let q : ℕ = target j (Fm.orbit left r k) in
        let leaders = leader-same q ∙ ap (Fm.leader right) (to_same k) in
        let positions = position-same q (to_in k) ∙ ap (Fm.position right) (to_same k) in
        ap₂ (λ c x. (Fm.plus m c x).exp)
        (shift_of-same (Fm.leader left q) (Fm.position left q) (leader-in q (to_in k)) ∙ ap₂ (Fm.shift_of right) leaders positions)
        (ap₂ (λ M N. act m M (act m N (entry 0 0))) (T.matrix_same q i (to_in k) in_range ∙ ap (λ t. matrix' t i) (to_same k)) (orbit-matrix r k j h b))

    pub block_same : (t : ℕ) → Fm.block_at left j r t ≡ Fm.block_at right j r t
    unfolding Fm.block_at
    block_same zero = refl
    block_same (suc t) = ap (λ (x : Moved). x.block) (conj-same (Fm.block_at left j r t)) ∙ ap (λ k. (Fm.conjugate_entry right j r k).block) (block_same t)

    scalar_at-same : (t : ℕ) → Fm.scalar_at left j r t ≡ Fm.scalar_at right j r t
    unfolding Fm.scalar_at
    scalar_at-same zero = refl
    scalar_at-same (suc t) =
        ap₂ (λ x y. less m ((Fm.scalar_at left j r t + x) % m) y) (right-same (Fm.block_at left j r t)) (left-same (Fm.block_at left j r t))
        ∙ ap₂ (λ s k. less m ((s + Fm.right_at right j r k) % m) (Fm.left_at right j r k)) (scalar_at-same t) (block_same t)

    scalar-same : (k : ℕ) → Fm.scalar left j r k ≡ Fm.scalar right j r k
    unfolding Fm.scalar
    scalar-same k = scalar_at-same _ ∙ ap (Fm.scalar_at right j r) (least-below p _ _ (λ t l. ap (λ s. eqb s k) (block_same t)))

  -- ---- Representations

  module _ (r : ℕ) (h : r < count) where
    extension-matrix : (k g : ℕ) → g < n → (Fm.extension_at left r k).matrix g ≡ (Fm.extension_at right r k).matrix g
    unfolding Fm.extension_at
    extension-matrix k g l = ap₂ (λ s M. scale m (cond (eqb g i) (s / p + k * (m / p)) 0) M) (shift_same r h) (T.matrix_same r g h l)

    extension-ref : (k g c : ℕ) → g < n → (Fm.extension_at left r k).ref g c ≡ (Fm.extension_at right r k).ref g c
    unfolding Fm.extension_at
    extension-ref k g c l = not-above g i refl (λ a.
        let in-t : target g r < count = T.target_below g r (omega arith) l h in
        let starts = start-same (target g r) (omega arith) ∙ ap (Fm.start right) (T.target_same g r (omega arith) l h) in
        ap₂ (λ s d. s + (d + k * suc (w g).0) % p) starts (landing_same g r a l h)
        ∙ ap (λ (v : NF (suc i)). Fm.start right (target' g r) + (Fm.landing right g r + k * suc v.0) % p) (T.word_same g a l))

    to_block : (g b : ℕ) → g < n → Fm.block_to left r g b ≡ Fm.block_to right r g b
    unfolding Fm.block_to
    to_block g b l = by_kind g i b refl (λ a. position-same _ (to_in g r a l h b) ∙ ap (Fm.position right) (to_same g r a l h b))

    by-block : (g b : ℕ) → g < n → Fm.block_by left r g b ≡ Fm.block_by right r g b
    unfolding Fm.block_by
    by-block g b l = by_kind g i 0 (shift_of-same r b h) (λ a. scalar-same g r a l h b)

    induction-matrix : (g : ℕ) → g < n → (Fm.induction_at left r).matrix g ≡ (Fm.induction_at right r).matrix g
    unfolding Fm.induction_at
    induction-matrix g l = blocks-below p _ _ (λ b a.
        ap₂ (λ x d. lift (x * d) (scale m (Fm.block_by left r g b) (matrix (Fm.orbit left r b) g))) (to_block g b l) (T.degree_same r h)
        ∙ ap₂ (λ y M. lift (Fm.block_to right r g b * degree' r) (scale m y M)) (by-block g b l) (orbit-matrix r b g h l))

    induction-ref : (g c : ℕ) → g < n → (Fm.induction_at left r).ref g c ≡ (Fm.induction_at right r).ref g c
    unfolding Fm.induction_at
    induction-ref g c l = not-above g i ((orbit-same (c / degree r) r h).0 ∙ ap (λ d. Fm.orbit right r (c / d)) (T.degree_same r h)) (λ a.
        let in-t : target g r < count = T.target_below g r (omega arith) l h in
        let in-l : Fm.leader left (target g r) < count = leader-in (target g r) in-t in
        start-same _ (omega arith) ∙ ap (Fm.start right) (leader-same (target g r) ∙ ap (Fm.leader right) (T.target_same g r (omega arith) l h)))

  -- ---- The level

  -- what two representations say alike
  record Alike (D D' : Rep) : Type 0 where
    deg_same : D.deg ≡ D'.deg
    mat_same : (g : ℕ) → g < n → D.matrix g ≡ D'.matrix g
    ref_same : (g c : ℕ) → g < n → D.ref g c ≡ D'.ref g c

  extension-alike : (r k : ℕ) → r < count → Alike (Fm.extension_at left r k) (Fm.extension_at right r k)
  unfolding Fm.extension_at
  extension-alike r k h = record { deg_same = T.degree_same r h; mat_same = extension-matrix r h k; ref_same = extension-ref r h k }

  induction-alike : (r : ℕ) → r < count → Alike (Fm.induction_at left r) (Fm.induction_at right r)
  unfolding Fm.induction_at
  induction-alike r h = record { deg_same = ap (λ d. p * d) (T.degree_same r h); mat_same = induction-matrix r h; ref_same = induction-ref r h }

  given-alike : (s κ : ℕ) → s < count → κ < Fm.made left s → Alike (get_or (Fm.given_at left s) κ no_rep) (get_or (Fm.given_at right s) κ no_rep)
  unfolding Fm.given_at Fm.made
  given-alike s κ h l =
      subst (λ z. Alike (get_or (Fm.given_at left s) κ no_rep) (get_or z κ no_rep)) (ap₂ (λ t q. given right s (eqb t s) (eqb q s)) (turn-same s h) (leader-same s))
      (go (eqb (target i s) s) (eqb (Fm.leader left s) s) l)
    where
      go : (b c : Bool) → κ < cond b p (cond c 1 0) → Alike (get_or (given left s b c) κ no_rep) (get_or (given right s b c) κ no_rep)
      go true c a =
          subst (λ D. Alike D (get_or (map (Fm.extension_at right s) (upto p)) κ no_rep)) (sym (get_or-table (Fm.extension_at left s) p κ no_rep a))
          (subst (λ D. Alike (Fm.extension_at left s κ) D) (sym (get_or-table (Fm.extension_at right s) p κ no_rep a)) (extension-alike s κ h))
      go false true a = let z : 0 ≡ κ = omega arith in subst (λ k. Alike (get_or (Fm.induction_at left s ∷ []) k no_rep) (get_or (Fm.induction_at right s ∷ []) k no_rep)) z (induction-alike s h)
      go false false a = absurd (omega arith)

  rep-alike : (r : ℕ) → r < length (Fm.level_by left) → Alike (rep_of (Fm.level_by left) r) (rep_of (Fm.level_by right) r)
  rep-alike r l =
      let o = owner (Fm.made left) count r (subst (λ z. r < z) (level-length left) l) in
      let κ' : o.κ < Fm.made right o.s = subst (λ z. o.κ < z) (made-same o.s o.s_below) o.κ-below in
      let start : sum o.s (Fm.made right) ≡ sum o.s (Fm.made left) = sym (sum_below o.s _ _ (λ k a. made-same k (omega (arith, o.s_below)))) in
      let here = ap (rep_of (Fm.level_by left)) (sym o.is) ∙ level-at left o.s o.κ o.s_below o.κ-below in
      let there = ap (rep_of (Fm.level_by right)) (sym (ap (λ z. z + o.κ) start ∙ o.is)) ∙ level-at right o.s o.κ o.s_below κ' in
      subst (λ D. Alike D (rep_of (Fm.level_by right) r)) (sym here)
      (subst (λ D. Alike (get_or (Fm.given_at left o.s) o.κ no_rep) D) (sym there) (given-alike o.s o.κ o.s_below o.κ-below))

  pub twins-length : length (Fm.level_by left) ≡ length (Fm.level_by right)
  twins-length = level-length left ∙ sum_below count _ _ made-same ∙ sym (level-length right)

  pub twins-words : (k : ℕ) → level_words T.n k (Fm.level_by left) ≡ level_words T.n k (Fm.level_by right)
  unfolding level_words rep_words line_of
  twins-words k =
      blocks-below (length (Fm.level_by left)) _ (λ r. rep_words n k r (rep_of (Fm.level_by right) r)) (λ r h. rep-words r (rep_of (Fm.level_by left) r) (rep_of (Fm.level_by right) r) (rep-alike r h))
      ∙ ap (λ z. blocks z (λ r. rep_words n k r (rep_of (Fm.level_by right) r))) twins-length
    where
      rep-words : (r : ℕ) (D D' : Rep) → Alike D D' → rep_words n k r D ≡ rep_words n k r D'
      rep-words r D D' a = blocks-below n _ (λ g. blocks D'.deg (λ c. line_of k r D' g c)) (λ g l.
          blocks-below D.deg _ (λ c. line_of k r D' g c) (λ c b. λ o. k ∷ r ∷ a.deg_same o ∷ suc g ∷ a.ref_same g c l o ∷ c ∷ (col (a.mat_same g l o) c).row ∷ (col (a.mat_same g l o) c).exp ∷ [])
          ∙ ap (λ d. blocks d (λ c. line_of k r D' g c)) a.deg_same)
