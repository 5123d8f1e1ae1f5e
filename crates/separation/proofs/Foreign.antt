-- Any table's level that is well formed and satisfies the relations is a representation by maps, and a family where its
-- basis indices are reached and separated.
--
--   forms-any                 some normal form passes a test: there is a valid one that does
--   D, D-shows                the maps of the generators
--   satisfies, d, d-hom       they satisfy the relations, so normal forms act
--   form-shows                the image of a normal form shows its map
--   foreign-family            a family, where separation holds
use mathlib.Core.Path.{◌≡◌, refl, sym, ◌∙◌, ap, fun_ext}
use mathlib.Core.Logic.{dite, dif_pos}
use mathlib.Core.Bool.{Bool, true, false, ◌&&◌, false≢true}
use mathlib.Core.List.{List, [], ◌∷◌, ◌++◌, map}
use Prim.Native.Nat.{ℕ, zero, suc, ◌%◌, ◌≤◌, ◌<◌}
use native.Mathlib.Omega.{arith}
use native.Mathlib.Bridge.{le_prop}
use native.Mathlib.Decide.{dec_lt}
use lib.Dec.{eqb}
use lib.ListN.{length}
use borrow.Author.Tests.{eqb-true, eqb-false, not-true}
use Rattle.definitions.specs.declared.Entry.{Entry}
use Rattle.definitions.specs.Lists.{blocks, any}
use Rattle.definitions.specs.Presentation.{NF, Presentation, Valid, value}
use Rattle.definitions.specs.Monomial.{col, Level, rep_of, image, conjugate}
use Rattle.definitions.specs.Table.{level_at}
use Rattle.definitions.specs.Judgement
use Rattle.numbers.proofs.Bools.{and_left, and_right, OneOf, first, second, or_cases, or_left, or_right}
use Rattle.numbers.proofs.Lists.{all_below-elim}
use Rattle.group.specs.Context.{Context, Nf}
use Rattle.group.specs.Models.{Hom, Satisfies, Model}
use Rattle.group.proofs.Values.{value-trivial}
use Rattle.group.proofs.Sound.{sound}
use Rattle.group.proofs.Level.{level, conj_nf}
use Rattle.group.proofs.Group.{Test, TestedContext}
use Rattle.group.proofs.Order.{inverse, inverse_left}
use Rattle.monomial.specs.Maps.{Map, maps}
use Rattle.monomial.specs.Families.{Separated, Family}
use Rattle.monomial.specs.Frames.{Shows}
use Rattle.monomial.proofs.Maps.{at-column, at_mul, at_one, maps-laws}
use Rattle.monomial.proofs.Residues.{residues}
use Rattle.monomial.proofs.Frames.{shows-mul, shows-power, shows-value, shown-same}
use Rattle.clifford.proofs.Basis.{Basis, basis-path, basis-discrete, basis-frame, basis-complete}
use Rattle.separation.specs.Fair.{Fair}

-- ---- Some normal form

any_append : {A : Type 0} (q : A → Bool) (xs ys : List A) → any q (xs ++ ys) ≡ true → OneOf (any q xs) (any q ys)
unfolding any
any_append q [] ys h = second h
any_append q (x ∷ xs) ys h = elim (or_cases (q x) (any q (xs ++ ys)) h) [
  | first a ↦ first (or_left (q x) _ a)
  | second a ↦ elim (any_append q xs ys a) [ first b ↦ first (or_right (q x) _ b) | second b ↦ second b ]
]

any-blocks : {A : Type 0} (q : A → Bool) (n : ℕ) (f : ℕ → List A) → any q (blocks n f) ≡ true → (k : ℕ) × (k < n) × (any q (f k) ≡ true)
unfolding blocks any
any-blocks q zero f h = absurd (false≢true h)
any-blocks q (suc n) f h = elim (any_append q (blocks n f) (f n) h) [
  | first a ↦ let (k, l, e) = any-blocks q n f a in (k, omega arith, e)
  | second a ↦ (n, omega arith, a)
]

any-mapped : {A B : Type 0} (f : A → B) (q : B → Bool) (xs : List A) → any q (map f xs) ≡ true → any (λ x. q (f x)) xs ≡ true
unfolding any
any-mapped f q [] h = h
any-mapped f q (x ∷ xs) h = elim (or_cases (q (f x)) (any q (map f xs)) h) [
  | first a ↦ or_left (q (f x)) _ a
  | second a ↦ or_right (q (f x)) _ (any-mapped f q xs a)
]

pub forms-any : (P : Presentation) (i : ℕ) (q : NF i → Bool) → any q (Judgement.all_forms P i) ≡ true → (x : NF i) × Valid P i x × (q x ≡ true)
unfolding Judgement.all_forms any
forms-any P zero q h = (tt, tt, elim (or_cases (q tt) false h) [ first a ↦ a | second a ↦ absurd (false≢true a) ])
forms-any P (suc i) q h =
    let (e, l, a) = any-blocks q (P.p i) (λ e. map (λ (x : NF i). (e, x)) (Judgement.all_forms P i)) h in
    let (x, v, t) = forms-any P i (λ x. q (e, x)) (any-mapped (λ (x : NF i). (e, x)) q (Judgement.all_forms P i) a) in
    ((e, x), (l, v), t)

-- ---- The maps of a level

module _ (P : Presentation) (m : ℕ) (pos : 0 < m) (i : ℕ) (L : Level) (A : Fair P m i L) where
  -- the map of generator k, and the identity beyond the level
  pub D : ℕ → Map (residues m pos) (Basis L)
  D k = dite (dec_lt k i) (λ l x.
      let y = col ((rep_of L x.0.0).matrix k) x.0.1 in (
        ((x.0.0, y.row), (x.1.0, A.row_below x.0.0 k x.0.1 x.1.0 l x.1.1)),
        (y.exp, A.exp_below x.0.0 k x.0.1 x.1.0 l x.1.1),
      )) (λ l. (maps (residues m pos) (Basis L)).one)

  pub D-shows : (r k : ℕ) → r < length L → k < i → Shows m (basis-frame L) r r ((rep_of L r).matrix k) (D k)
  unfolding D
  D-shows r k h l = rw (dif_pos (dec_lt k i) le_prop l)
      (record { size = A.size r k h l; maps_to = λ x e. e; shown = λ x e. ap (λ s. col ((rep_of L s).matrix k) x.0.1) (sym e) })

  abbrev pub word : (k : ℕ) → NF k → Map (residues m pos) (Basis L)
  word k x = value (maps (residues m pos) (Basis L)) D k x

  pub word-shows : (r k : ℕ) → r < length L → k ≤ i → (x : NF k) → Shows m (basis-frame L) r r (image m (rep_of L r) k x) (word k x)
  unfolding image
  word-shows r k h l x = shows-value m pos (basis-frame L) refl (rep_of L r).matrix D k (λ g a. D-shows r g h (omega arith)) x

  pub satisfies : Satisfies P (maps (residues m pos) (Basis L)) D i
  unfolding conjugate
  satisfies = record {
    powers = λ j l. fun_ext
        (λ a. shown-same m pos (basis-frame L) (basis-complete L) (shows-power m pos (basis-frame L) refl (D-shows a.0.0 j a.1.0 l) (P.p j))
        (word-shows a.0.0 j a.1.0 (omega arith) (P.u j)) (A.powers a.0.0 j a.1.0 l) a refl);
    commutators = λ k j a b. fun_ext (λ x.
        let r : ℕ = x.0.0 in
        let h : r < length L = x.1.0 in
        shown-same m pos (basis-frame L) (basis-complete L) (shows-mul m pos (basis-frame L) (D-shows r k h (omega arith)) (D-shows r j h b))
        (shows-mul m pos (basis-frame L) (D-shows r j h b)
        (shows-mul m pos (basis-frame L) (D-shows r k h (omega arith)) (word-shows r (suc k) h (omega arith) (P.w k j)))) (A.commutators r k j h a b) x refl);
  }

-- ---- Normal forms act

module _ (C : Context) (m : ℕ) (pos : 0 < m) (i : ℕ) (L : Level) (A : Fair C.P m i L) where
  abbrev pub Ω : Type 0
  Ω = Basis L

  unfoldable pub d : Nf C i → Map (residues m pos) (Basis L)
  d x = word C.P m pos i L A i x.0

  model : Model C.P i (Map (residues m pos) Ω)
  model = record { product = maps (residues m pos) Ω; laws = maps-laws (residues m pos); h = D C.P m pos i L A; satisfies = satisfies C.P m pos i L A }

  pub d-hom : Hom (level C i) (maps (residues m pos) (Basis L)) d
  unfolding d level model
  d-hom = record {
    on_one = value-trivial (maps-laws (residues m pos)) (D C.P m pos i L A) i;
    on_mul = λ x y. (sound model i (omega arith)).mul_value x.0 y.0;
  }

  pub form-shows : (r : ℕ) → r < length L → (x : Nf C i) → Shows m (basis-frame L) r r (image m (rep_of L r) i x.0) (d x)
  unfolding d
  form-shows r h x = word-shows C.P m pos i L A r i h (omega arith) x.0

-- ---- A family, where separation holds

module _ (C : Context) (tests : (k : ℕ) → k < C.P.n → Test C k) (m : ℕ) (pos : 0 < m) (table : List ℕ) (i : ℕ) (l : i ≤ C.P.n)
    (A : Fair C.P m i (level_at C.P.n table i))
    (separates : (r : ℕ) → r < length (level_at C.P.n table i) → Judgement.separates C.P m table i r ≡ true) where
  abbrev L : Level
  L = level_at C.P.n table i

  abbrev T : TestedContext
  T = record { context = C; n = C.P.n; tests = tests }

  abbrev X : Type 0
  X = Basis L

  abbrev act : Nf C i → Map (residues m pos) X
  act = d C m pos i L A

  abbrev hom : Hom (level C i) (maps (residues m pos) X) act
  hom = d-hom C m pos i L A

  start : (x : X) → X
  start x = ((x.0.0, 0), (x.1.0, A.degree_pos x.0.0 x.1.0))

  -- every basis index is reached from the first of its representation
  from_start : (x : X) → (w : Nf C i) × ((act w (start x)).0 ≡ x)
  unfolding start Judgement.separates Judgement.reaches
  from_start x =
      let r : ℕ = x.0.0 in
      let h : r < length L = x.1.0 in
      let t = and_left (Judgement.reaches C.P m table i (rep_of L r) x.0.1) _ (all_below-elim (rep_of L r).deg _ (separates r h) x.0.1 x.1.1) in
      let (w, v, e) = forms-any C.P i (λ w. eqb (col (image m (rep_of L r) i w) 0).row x.0.1) t in
      let sh = form-shows C m pos i L A r h (w, v) in
      ((w, v), basis-path L _ x (sh.maps_to (start x) refl) (ap (λ (y : Entry). y.row) (sym (sh.shown (start x) refl)) ∙ eqb-true _ _ e))

  pub reached : (x y : Basis (level_at C.P.n table i)) → x.0.0 ≡ y.0.0 → (w : Nf C i) × ((d C m pos i (level_at C.P.n table i) A w x).0 ≡ y)
  unfolding start
  reached x y q =
      let (w, e₀) = from_start x in
      let a : Nf C i = inverse C i w in
      let e : (act a x).0 ≡ start x = ap (λ z. (act a z).0) (sym e₀) ∙ ap (λ z. z.0) (sym (at_mul (residues m pos) (act a) (act w) (start x))
      ∙ at-column (residues m pos) (sym (hom.on_mul _ _) ∙ ap act (inverse_left T i l w) ∙ hom.on_one) (start x) ∙ at_one (residues m pos) (start x)) in
      let (b, e') = from_start y in (
        (level C i).mul b a,
        ap (λ z. z.0) (at-column (residues m pos) (hom.on_mul b a) x ∙ at_mul (residues m pos) (act b) (act a) x)
            ∙ ap (λ z. (act b z).0) (e ∙ basis-path L (start x) (start y) q refl) ∙ e',
      )

  pub separated : (x y : Basis (level_at C.P.n table i)) → ¬ (x ≡ y)
      → Separated (residues m pos) (Basis (level_at C.P.n table i)) (d C m pos i (level_at C.P.n table i) A) x y
  unfolding Judgement.separates Judgement.tells
  separated x y ne =
      let r : ℕ = x.0.0 in
      let h : r < length L = x.1.0 in
      let all = and_right (Judgement.reaches C.P m table i (rep_of L r) x.0.1) _ (all_below-elim (rep_of L r).deg _ (separates r h) x.0.1 x.1.1) in
      elim (or_cases (eqb r y.0.0 && eqb x.0.1 y.0.1) _
      (all_below-elim (rep_of L y.0.0).deg _ (all_below-elim (length L) _ all y.0.0 y.1.0) y.0.1 y.1.1)) [
        | first e ↦ absurd (ne (basis-path L x y (eqb-true _ _ (and_left (eqb r y.0.0) _ e)) (eqb-true _ _ (and_right (eqb r y.0.0) _ e))))
        | second e ↦
            let (w, v, t) = forms-any C.P i _ e in
            let stays : X → Bool = λ x. eqb (col (image m (rep_of L x.0.0) i w) x.0.1).row x.0.1 in
            let both = and_left (stays x && stays y) _ t in
            let other = not-true _ (and_right (stays x && stays y) _ t) in
            record {
              by = (w, v);
              x = (act (w, v) x).1;
              y = (act (w, v) y).1;
              fixes = fixes x (w, v) (and_left (stays x) _ both);
              fixes' = fixes y (w, v) (and_right (stays x) _ both);
              differ = λ e. eqb-false _ _ other (ap (λ z. z % m) (value-is x (w, v) ∙ ap (λ z. z.0) e ∙ sym (value-is y (w, v))));
            }
      ]
    where
      fixes : (x : X) (w : Nf C i) → eqb (col (image m (rep_of L x.0.0) i w.0) x.0.1).row x.0.1 ≡ true → act w x ≡ (x, (act w x).1)
      fixes x w e =
          let sh = form-shows C m pos i L A x.0.0 x.1.0 w in
          λ o. (basis-path L (act w x).0 x (sh.maps_to x refl) (ap (λ (y : Entry). y.row) (sym (sh.shown x refl)) ∙ eqb-true _ _ e) o, (act w x).1)

      value-is : (x : X) (w : Nf C i) → (col (image m (rep_of L x.0.0) i w.0) x.0.1).exp ≡ (act w x).1.0
      value-is x w = ap (λ (y : Entry). y.exp) ((form-shows C m pos i L A x.0.0 x.1.0 w).shown x refl)

  abbrev pub foreign-family : Family (residues m pos) (Basis (level_at C.P.n table i)) (level C i) (conj_nf C i) i i
  foreign-family = record {
    decide = basis-discrete L;
    d = d C m pos i L A;
    hom = d-hom C m pos i L A;
    X = λ j. (maps (residues m pos) X).one;
    past = λ j a b x. absurd (omega arith);
    rep = λ x. x.0.0;
    target = λ j r. r;
    inside = λ w x. (form-shows C m pos i L A x.0.0 x.1.0 w).maps_to x refl;
    maps_to = λ j a b x. absurd (omega arith);
    reached = reached;
    separated = separated;
  }
