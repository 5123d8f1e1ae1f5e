-- Relations where the degree is 1: exponents alone tell them.
--
--   cancel-mod           a summand modulo m is cancelled
--   single-act           a generator of degree 1 adds its exponent
--   single-commutator    a commutator relation holds exactly if its word has the exponent 0
--   single-intertwiner   an intertwiner carries a generator over exactly if the exponents of its conjugate and of its image agree
use mathlib.Core.Path.{◌≡◌, refl, sym, ◌∙◌, ap, ap₂}
use mathlib.Core.List.{List}
use Prim.Native.Nat.{ℕ, suc, ◌+◌, ◌-◌, ◌%◌, ◌<◌}
use native.Mathlib.Decide.{dec_lt}
use native.Mathlib.Nat.{mod-eq_of_lt, mod-lt, mod-add-mod, add-mod-mod}
use native.Mathlib.Omega.{arith}
use lib.Dec.{eqb}
use borrow.Author.Tests.{eqb-true, eq-eqb}
use Rattle.definitions.specs.declared.Entry.{Entry}
use Rattle.definitions.specs.Presentation.{Presentation, to_nf}
use Rattle.definitions.specs.Monomial.{entry, act}
use Rattle.definitions.specs.Table.{rep_at}
use Rattle.numbers.proofs.Bools.{same_test}
use Rattle.formulas.specs.Formulas.{walk}
use Rattle.separation.proofs.Pairs.{eqb-sym}
use Rattle.columns.specs.Columns.{same_at, commutator_at, intertwines_at}
use Rattle.level.specs.declared.Listed.{Listed}
use Rattle.level.specs.Stored.{entry_in, Below, line_in, generator_in}
use Rattle.modular.proofs.Reduction.{mod-once}
use Rattle.level.proofs.Columns.{act-fixed}
use Rattle.seek.specs.declared.Scope.{Scope}
use Rattle.relations.specs.Kept.{MatricesStored}
use Rattle.relations.specs.Said.{WordOf}
use Rattle.relations.specs.Tests.{Conjugated, commutator_at_in, carries_at_in}
use Rattle.relations.proofs.Kept.{entries-exp, conjugate-moved}

-- ---- Sums modulo m

pub cancel-mod : (m a b e : ℕ) → a < m → b < m → e < m → (a + e) % m ≡ (b + e) % m → a ≡ b
cancel-mod m a b e x y z q = go (dec_lt (a + e) m) (dec_lt (b + e) m)
  where
    go : Dec (a + e < m) → Dec (b + e < m) → a ≡ b
    go (yes s) (yes t) = omega (arith, q, mod-eq_of_lt s, mod-eq_of_lt t)
    go (yes s) (no t) = let o : b + e - m ≡ (b + e) % m = mod-once (b + e) m (omega arith) (omega arith) in absurd (omega (arith, q, mod-eq_of_lt s, o))
    go (no s) (yes t) = let o : a + e - m ≡ (a + e) % m = mod-once (a + e) m (omega arith) (omega arith) in absurd (omega (arith, q, mod-eq_of_lt t, o))
    go (no s) (no t) =
        let o : a + e - m ≡ (a + e) % m = mod-once (a + e) m (omega arith) (omega arith) in
        let o' : b + e - m ≡ (b + e) % m = mod-once (b + e) m (omega arith) (omega arith) in
        omega (arith, q, o, o')

eqb-cancel : (m a b e : ℕ) → a < m → b < m → e < m → eqb a b ≡ eqb ((a + e) % m) ((b + e) % m)
eqb-cancel m a b e x y z = same_test _ _ (λ h. eq-eqb _ _ (ap (λ a. (a + e) % m) (eqb-true a b h)))
    (λ h. eq-eqb a b (cancel-mod m a b e x y z (eqb-true _ _ h)))

-- the order of two summands does not matter
turn : (m t a b : ℕ) → ((t + a) % m + b) % m ≡ (t + (a + b) % m) % m
turn m t a b =
    let e : t + a + b ≡ t + (a + b) = omega arith in
    mod-add-mod (t + a) m b ∙ ap (λ x. x % m) e ∙ sym (add-mod-mod t (a + b) m)

turned : (m t a b : ℕ) → ((t + a) % m + b) % m ≡ ((t + b) % m + a) % m
turned m t a b = let e : a + b ≡ b + a = omega arith in turn m t a b ∙ ap (λ x. (t + x % m) % m) e ∙ sym (turn m t b a)

-- ---- One generator

module _ {s : Scope} {T : List ℕ} {D : Listed} (K : MatricesStored s T D) (one : D.deg ≡ 1) where
  abbrev exponent : ℕ → ℕ
  exponent g = (entry_in T (line_in D g + 0)).exp

  exponent_below : (g : ℕ) → g < s.gens → exponent g < s.m
  exponent_below g l = ((K.stored.holds g l).valid 0 K.stored.positive).exp

  single-act : (g t : ℕ) → g < s.gens → act s.m (generator_in T D g) (entry 0 t) ≡ entry 0 ((t + exponent g) % s.m)
  single-act g t l =
      let b = ((K.stored.holds g l).valid 0 K.stored.positive).row in
      act-fixed s.m T (line_in D g) D.deg 0 K.stored.positive (omega (arith, b)) t

  single-entry : (x : Entry) → x.row < D.deg → x ≡ entry 0 x.exp
  single-entry x l = let e : x.row ≡ 0 = omega arith in ap (λ r. entry r x.exp) e

  -- two generators, one behind the other
  single-twice : (g h t : ℕ) → g < s.gens → h < s.gens
      → act s.m (generator_in T D h) (act s.m (generator_in T D g) (entry 0 t)) ≡ entry 0 (((t + exponent g) % s.m + exponent h) % s.m)
  single-twice g h t l k = ap (act s.m (generator_in T D h)) (single-act g t l) ∙ single-act h ((t + exponent g) % s.m) k

-- ---- Relations

same-zero : (x y : ℕ) → same_at (entry 0 x) (entry 0 y) ≡ eqb x y
same-zero x y = sym (entries-exp (entry 0 x) (entry 0 y) refl)

module _ {s : Scope} {T : List ℕ} {D : Listed} (K : MatricesStored s T D) (one : D.deg ≡ 1) (P : Presentation) (k j c : ℕ) (kn : k < s.gens) (jn : j < s.gens)
    (inside : c < D.deg) (w : List ℕ) (is : WordOf k j w P)
  where
    abbrev m : ℕ
    m = s.m

    abbrev exp : ℕ → ℕ
    exp g = exponent K one g

    first : entry c 0 ≡ entry 0 0
    first = let e : c ≡ 0 = omega arith in ap (λ c. entry c 0) e

    pub single-commutator : (n : ℕ) (t : Entry) → n ≡ suc k → t ≡ walk s.m (generator_in T D) n (to_nf n w) (entry c 0) → Below s.m D.deg t
        → eqb t.exp 0 ≡ commutator_at_in s T D k j c P
    unfolding commutator_at rep_at
    single-commutator n t e a b =
        let v : ℕ = (exp k + exp j) % m in
        let swap : exp j + exp k ≡ exp k + exp j = omega arith in
        let left = ap (λ x. act m (generator_in T D k) (act m (generator_in T D j) x)) first ∙ single-twice K one j k 0 jn kn in
        let right = ap (act m (generator_in T D j)) (sym (conjugate-moved m T D P k j n c w t _ e a refl is))
        ∙ ap (λ x. act m (generator_in T D j) (act m (generator_in T D k) x)) (single-entry K one t b.row) ∙ single-twice K one k j t.exp kn jn in
        eqb-sym t.exp 0 ∙ eqb-cancel m 0 t.exp v K.modulus b.exp (mod-lt (exp k + exp j) K.modulus)
        ∙ ap₂ eqb (ap (λ x. (0 + x % m) % m) (sym swap) ∙ sym (turn m 0 (exp j) (exp k))) (sym (turn m t.exp (exp k) (exp j)))
        ∙ sym (same-zero _ _) ∙ sym (ap₂ same_at left right)

    pub single-intertwiner : {F : Listed} → MatricesStored s T F → F.deg ≡ D.deg → (y z : Entry) → Conjugated s.m T D k w c z
        → y ≡ act s.m (generator_in T F k) (entry c 0) → eqb z.exp y.exp ≡ carries_at_in s T D F k j c P
    unfolding intertwines_at rep_at
    single-intertwiner {F} L same y z C a =
        let f : ℕ = exponent L (same ∙ one) k in
        let image : y.exp ≡ (0 + f) % m = ap (λ (x : Entry). x.exp) (a ∙ ap (act m (generator_in T F k)) first ∙ single-act L (same ∙ one) k 0 kn) in
        let left = ap (act m (generator_in T D j)) (sym (C.is P j is) ∙ single-entry K one z C.below.row) ∙ single-act K one j z.exp jn in
        let right = ap (λ x. act m (generator_in T F k) (act m (generator_in T D j) x)) first ∙ ap (act m (generator_in T F k)) (single-act K one j 0 jn)
        ∙ single-act L (same ∙ one) k ((0 + exp j) % m) kn in
        ap (eqb z.exp) image
        ∙ eqb-cancel m z.exp ((0 + f) % m) (exp j) C.below.exp (mod-lt (0 + f) K.modulus) (exponent_below K one j jn)
        ∙ ap (eqb ((z.exp + exp j) % m)) (sym (turned m 0 (exp j) f))
        ∙ sym (same-zero _ _) ∙ sym (ap₂ same_at left right)
