-- What the checker judges of one level that stands: valid matrices and listed targets (21), relations (22),
-- intertwiners (24), separation (25) and squares (26).
--
--   valid-holds, listed-holds, relations-hold, intertwiners-hold, separates-hold, squares-hold
use mathlib.Core.Path.{◌≡◌, refl, sym, ◌∙◌, ap, subst}
use mathlib.Core.Logic.{by_cases}
use mathlib.Core.Bool.{Bool, true, ◌||◌}
use mathlib.Core.List.{List}
use Prim.Native.Nat.{ℕ, suc, ◌*◌, ◌-◌, ◌≤◌, ◌<◌}
use native.Mathlib.Omega.{arith}
use native.Mathlib.Decide.{dec_lt}
use lib.Dec.{eqb, ltb}
use lib.ListN.{length}
use borrow.Author.Tests.{eq-eqb, lt-ltb, le-leb}
use Rattle.definitions.specs.Lists.{iter}
use Rattle.definitions.specs.Presentation.{NF, order, power, value}
use Rattle.definitions.specs.Monomial.{product, valid, Rep, Level, rep_of, image, conjugate}
use Rattle.definitions.specs.Table.{level_at}
use Rattle.definitions.specs.Judgement
use Rattle.numbers.proofs.Bools.{and_intro, or_left, or_right}
use Rattle.numbers.proofs.Lists.{all_below-intro, iter-suc}
use Rattle.numbers.proofs.Sums.{term-le}
use Rattle.group.specs.Context.{Context, Nf}
use Rattle.group.proofs.Values.{power-hom, value-hom}
use Rattle.group.proofs.Level.{level, conj_nf, gen_nf}
use Rattle.group.proofs.Group.{Test, TestedContext, group}
use Rattle.group.proofs.Order.{order-positive, inverse, inverse-right, inverse_left}
use Rattle.group.proofs.Conjugation.{conj_period}
use Rattle.monomial.specs.Maps.{Map, maps, Inverse}
use Rattle.monomial.specs.Families.{Family}
use Rattle.monomial.specs.Frames.{Layout, Shows}
use Rattle.monomial.proofs.Maps.{at_mul, at_one, at-column}
use Rattle.monomial.proofs.Residues.{residues}
use Rattle.monomial.proofs.Frames.{shows-mul, shows-power, shows-value, shows-map, same-shown, shows-valid}
use Rattle.monomial.proofs.Schur.{intertwiner-inverse, power-commutes, commuting-fixes, rep-power}
use Rattle.clifford.specs.Stands.{frame, Stands}
use Rattle.clifford.proofs.Agreement.{target-listed}
use Rattle.clifford.proofs.Defect.{image-inverse}
use Rattle.clifford.proofs.Separates.{separates-from}

-- ---- A level that stands

module _ (C : Context) (tests : (k : ℕ) → k < C.P.n → Test C k) (m : ℕ) (pos : 0 < m) (table : List ℕ) (i : ℕ) (l : i ≤ C.P.n) {Ω : Type 0}
    (F : Family (residues m pos) Ω (level C i) (conj_nf C i) i C.P.n) (St : Stands C C.P.n m pos i (level_at C.P.n table i) F) where
  open C use {P}
  open P use {n}
  open St use {column, column_below, complete}

  abbrev L : Level
  L = level_at n table i

  abbrev T : TestedContext
  T = record { context = C; n = C.P.n; tests = tests }

  abbrev Φ : Layout Ω
  Φ = frame L F.rep column column_below

  infixl 70 ◌*'◌
  open maps (residues m pos) Ω use {mul as ◌*'◌}

  abbrev D : ℕ → Map (residues m pos) Ω
  D k = F.d (gen_nf C i k)

  abbrev Rp : ℕ → Rep
  Rp r = rep_of L r

  -- ---- Words

  word-shows : (r k : ℕ) → r < length L → k ≤ i → (x : NF k) → Shows m Φ r r (image m (Rp r) k x) (F.d (value (level C i) (gen_nf C i) k x))
  unfolding image
  word-shows r k h a x = shows-map m pos Φ (shows-value m pos Φ refl (Rp r).matrix D k (λ g b. St.represents g (omega arith) r h) x)
      (sym (value-hom F.hom (gen_nf C i) k x))

  form-shows : (r : ℕ) → r < length L → (x : Nf C i) → Shows m Φ r r (image m (Rp r) i x.0) (F.d x)
  form-shows r h x = shows-map m pos Φ (word-shows r i h (omega arith) x.0) (ap F.d ((group T i l).gen_value x))

  conj-shows : (r k j : ℕ) → r < length L → k < i
      → Shows m Φ r r (conjugate m P (Rp r) k j) (F.d ((level C i).mul (gen_nf C i k) (value (level C i) (gen_nf C i) (suc k) (P.w k j))))
  unfolding conjugate
  conj-shows r k j h a = shows-map m pos Φ (shows-mul m pos Φ (St.represents k a r h) (word-shows r (suc k) h a (P.w k j))) (sym (F.hom.on_mul _ _))

  -- ---- 22

  power-holds : (r j : ℕ) → r < length L → j < i → Judgement.power_holds P m table (Rp r) j ≡ true
  unfolding Judgement.power_holds
  power-holds r j h a =
      same-shown m pos Φ complete h
      (shows-map m pos Φ (shows-power m pos Φ refl (St.represents j a r h) (P.p j))
      (sym (power-hom F.hom (gen_nf C i j) (P.p j)) ∙ ap F.d ((group T i l).satisfies.powers j a)))
      (word-shows r j h (omega arith) (P.u j))

  commutator-holds : (r k j : ℕ) → r < length L → k < j → j < i → Judgement.commutator_holds P m table (Rp r) k j ≡ true
  unfolding Judgement.commutator_holds
  commutator-holds r k j h a b =
      same-shown m pos Φ complete h
      (shows-map m pos Φ (shows-mul m pos Φ (St.represents k (omega arith) r h) (St.represents j b r h))
      (sym (F.hom.on_mul _ _) ∙ ap F.d ((group T i l).satisfies.commutators k j a b) ∙ F.hom.on_mul _ _))
      (shows-mul m pos Φ (St.represents j b r h) (conj-shows r k j h (omega arith)))

  pub relations-hold : (r : ℕ) → r < length (level_at C.P.n table i) → Judgement.relations_hold C.P m table i (rep_of (level_at C.P.n table i) r) ≡ true
  unfolding Judgement.relations_hold
  relations-hold r h = all_below-intro i _ (λ j a. and_intro _ _ (power-holds r j h a) (all_below-intro j _ (λ k b. commutator-holds r k j h b a)))

  -- ---- 24

  abbrev target-in : (j : ℕ) → i ≤ j → j < n → (r : ℕ) → r < length L → F.target j r < length L
  target-in = target-listed C n m pos i L F St

  intertwines-holds : (r j : ℕ) → r < length L → i ≤ j → j < n → Judgement.intertwines P m table i (Rp r) j ≡ true
  unfolding Judgement.intertwines
  intertwines-holds r j h a b =
      let ref : (Rp r).ref j 0 ≡ F.target j r = St.refers j a b r h 0 (St.degree_pos r h) in
      and_intro _ _ (eq-eqb _ _ (ap (λ z. (Rp z).deg) ref ∙ St.degree_target j a b r h)) (all_below-intro i _ (λ k c.
      same-shown m pos Φ complete h
      (shows-map m pos Φ (shows-mul m pos Φ (St.intertwines j a b r h) (conj-shows r k j h c))
      (ap (λ z. F.X j *' F.d z) (sym ((group T i l).conj_gen j a k c)) ∙ F.past j a b (gen_nf C i k)))
      (subst (λ z. Shows m Φ r (F.target j r) (product m ((Rp z).matrix k) ((Rp r).matrix j)) (D k *' F.X j)) (sym ref)
      (shows-mul m pos Φ (St.represents k c (F.target j r) (target-in j a b r h)) (St.intertwines j a b r h)))))

  below_or : (j : ℕ) (q : Bool) → (i ≤ j → q ≡ true) → ltb j i || q ≡ true
  below_or j q h = by_cases (dec_lt j i) (λ a. or_left (ltb j i) q (lt-ltb j i a)) (λ a. or_right (ltb j i) q (h (omega arith)))

  pub intertwiners-hold : (r : ℕ) → r < length (level_at C.P.n table i)
      → Judgement.intertwiners_hold C.P m table i (rep_of (level_at C.P.n table i) r) ≡ true
  unfolding Judgement.intertwiners_hold
  intertwiners-hold r h = all_below-intro n _ (λ j b. below_or j _ (λ a. intertwines-holds r j h a b))

  -- ---- 25

  pub separates-hold : (r : ℕ) → r < length (level_at C.P.n table i) → Judgement.separates C.P m table i r ≡ true
  separates-hold r h = separates-from C m pos table i column_below complete F.d form-shows r h (St.degree_pos r h)
      (λ k a. F.reached _ _ (complete.find_rep r 0 h (St.degree_pos r h) ∙ sym (complete.find_rep r k h a))) F.separated

  -- ---- 26

  pub squares-hold : eqb (Judgement.squares C.P m table i) (order C.P i) ≡ true
  unfolding Judgement.squares
  squares-hold = eq-eqb _ _ St.squares

  -- ---- 21, matrices and targets

  module _ (j : ℕ) (a : i ≤ j) (b : j < n) where
    abbrev N : ℕ
    N = order P (suc j)

    X-inverse : Inverse (maps (residues m pos) Ω) (F.X j)
    X-inverse = intertwiner-inverse F (F.X j) (conj_nf C i j) (F.past j a b) N (order-positive C (suc j)) (conj_period T i j a b)

    home : (x : Ω) → iter (F.target j) N (F.rep x) ≡ F.rep x
    home x =
        sym (rep-power F (F.target j) (F.X j) (F.maps_to j a b) N x)
        ∙ ap F.rep (commuting-fixes F (power (maps (residues m pos) Ω) (F.X j) N)
        (power-commutes F (F.X j) (conj_nf C i j) (F.past j a b) N (conj_period T i j a b)) x)

    -- different representations are mapped to different ones
    target-injective : (x y : Ω) → F.target j (F.rep x) ≡ F.target j (F.rep y) → F.rep x ≡ F.rep y
    target-injective x y q =
        let e : N ≡ suc (N - 1) = omega (arith, order-positive C (suc j)) in
        let back : (x : Ω) → F.rep x ≡ iter (F.target j) (N - 1) (F.target j (F.rep x))
        = λ x. sym (home x) ∙ ap (λ k. iter (F.target j) k (F.rep x)) e ∙ iter-suc (F.target j) (N - 1) (F.rep x) in
        back x ∙ ap (iter (F.target j) (N - 1)) q ∙ sym (back y)

    X-back : (r : ℕ) → r < length L → (x : Ω) → F.rep x ≡ F.target j r → F.rep (X-inverse.to x).0 ≡ r
    X-back r h x q =
        let y : Ω = (X-inverse.to x).0 in
        let z : Ω = complete.find r 0 h (St.degree_pos r h) in
        let rz : F.rep z ≡ r = complete.find_rep r 0 h (St.degree_pos r h) in
        let there : (F.X j y).0 ≡ x =
        ap (λ z. z.0) (sym (at_mul (residues m pos) (F.X j) X-inverse.to x) ∙ at-column (residues m pos) X-inverse.right x
        ∙ at_one (residues m pos) x) in
        target-injective y z (sym (F.maps_to j a b y) ∙ ap F.rep there ∙ q ∙ ap (F.target j) (sym rz)) ∙ rz

  matrix-valid : (r g : ℕ) → r < length L → g < n → valid m (Rp r).deg ((Rp r).matrix g) ≡ true
  matrix-valid r g h b = by_cases (dec_lt g i)
      (λ a. shows-valid m pos Φ complete h (St.represents g a r h)
      (image-inverse F.hom (gen_nf C i g) (inverse C i (gen_nf C i g)) (inverse-right T i l _) (inverse_left T i l _)) h refl (λ x q. F.inside _ x ∙ q))
      (λ a. shows-valid m pos Φ complete h (St.intertwines g (omega arith) b r h) (X-inverse g (omega arith) b)
      (target-in g (omega arith) b r h) (St.degree_target g (omega arith) b r h) (X-back g (omega arith) b r h))

  pub valid-holds : (r : ℕ) → r < length (level_at C.P.n table i) → Judgement.matrices_valid C.P m table i (rep_of (level_at C.P.n table i) r) ≡ true
  unfolding Judgement.matrices_valid
  valid-holds r h =
      and_intro _ _ (and_intro _ _ (lt-ltb _ _ (St.degree_pos r h))
      (le-leb _ _ (subst (λ z. (Rp r).deg * (Rp r).deg ≤ z) St.squares (term-le (λ r. (Rp r).deg * (Rp r).deg) (length L) r h))))
      (all_below-intro n _ (λ g b. matrix-valid r g h b))

  pub listed-holds : (r : ℕ) → r < length (level_at C.P.n table i) → Judgement.targets_listed C.P m table i (rep_of (level_at C.P.n table i) r) ≡ true
  unfolding Judgement.targets_listed
  listed-holds r h = all_below-intro n _ (λ j b. below_or j _ (λ a.
      let ref : (c : ℕ) → c < (Rp r).deg → (Rp r).ref j c ≡ F.target j r = λ c e. St.refers j a b r h c e in
      let zero-ref = ref 0 (St.degree_pos r h) in
      and_intro _ _ (lt-ltb _ _ (subst (λ z. z < length L) (sym zero-ref) (target-in j a b r h)))
      (all_below-intro (Rp r).deg _ (λ c e. eq-eqb _ _ (ref c e ∙ sym zero-ref)))))
