-- The steps of product and conjugation: what each call and each turn of a loop adds to what is known.
--
--   remaining-period                           the turns that are left
--   Turning, turning-start, turning-more       conjugates, turn after turn
--   turned-done, turned-fixed                  when no turn is left; where conjugation fixes the form
--   turned_same, product-same, product-left    rows that agree; a trivial left factor
--   product-up, product-none                   the exponents above those of the right factor stay; where it has none
--   product-low, product_high                  no carry; a carry
--   product-low-at, product-high-at            the same on the level of the highest exponent of the right factor
--   powering-start, powering-more, power-once  powers, one after another; the first
--   power-single                               powers of a form of one generator
--   conjugate-up, conjugate-none               exponents that stay; where all stay
--   commutator-small, image-low, image-high    the conjugate of a generator: its word is in range; no carry; a carry
--   scaled-zero, scaled-more                   a power times a form: exponent 0; the general case
--   conjugate-moves                            the general step
use mathlib.Core.Path.{◌≡◌, refl, sym, ◌∙◌, ap, ap₂, subst}
use mathlib.Core.Logic.{by_cases}
use mathlib.Core.Bool.{true}
use mathlib.Core.List.{List, []}
use Prim.Native.Nat.{ℕ, zero, suc, ◌+◌, ◌*◌, ◌%◌, ◌-◌, ◌≤◌, ◌<◌}
use native.Mathlib.Nat.{mod-le, mul-zero, zero-mod, mod-lt, mod-eq_of_lt, mod-eq-sub-mod, add-mod-mod}
use native.Mathlib.Numerals.{add-one}
use native.Mathlib.Omega.{arith}
use native.Mathlib.Decide.{dec_lt, ℕ_discrete}
use lib.Dec.{eqb}
use lib.ListN.{length, get_or, set, replicate}
use borrow.Author.Tests.{eqb-true}
use Rattle.definitions.specs.Lists.{iter}
use Rattle.definitions.specs.Presentation.{max_generators, to_nf, trivial, Valid, power, pair_number}
use Rattle.definitions.specs.Consistency.{mul, conj, forms, same_form}
use Rattle.numbers.proofs.Bools.{or_cases, OneOf, first, second}
use Rattle.numbers.proofs.Lists.{iter-zero, iter-suc, iter-add, iter-fix, iter-period}
use Rattle.group.specs.Context.{Context}
use Rattle.group.proofs.Values.{power_zero, power-suc}
use Rattle.group.proofs.Clauses.{mul_step-below, mul_step-over, mul-suc, conj-suc, same_form-eq}
use Rattle.group.proofs.Units.{mul-trivial-left, mul-trivial-right, mul-top-below, mul-top-over, conj-empty, conj-zero}
use Rattle.group.proofs.Level.{trivial-valid}
use Rattle.group.proofs.Rows.{to_nf-suc, to_nf-ext, to_nf-set-top, to_nf-trivial}
use Rattle.rows.specs.Rows.{Small, Ranged, Reads, Single, Top, Stacked}
use Rattle.rows.proofs.Forms.{zeros, single-row, small-below, reads-below, small-valid, small-set, small_top, small-zeros, word_small}
use Rattle.rows.proofs.Parts.{climb}
use Rattle.commuting.specs.Commuting.{empty_at, keeps, KeepsFrom}
use Rattle.collector.specs.Products.{Product, Image, Conjugate, Remaining, Power, Scaled, Turned}

-- ---- Turns of a map

pub remaining-period : (k : ℕ) (x c : List ℕ) (n left : ℕ) → 0 < n → same_form k (to_nf k x) (to_nf k c) ≡ true → Remaining k x c n left (left % n)
remaining-period k x c n left l s = record {
  less = mod-le left n;
  leads = λ f h. iter-period f n (to_nf k c) (ap (iter f n) (sym (same_form-eq k (to_nf k x) (to_nf k c) s)) ∙ h) left;
}

-- ---- Product

-- c is x after n conjugations, and left more lead to b of them
pub record Turning (k b : ℕ) (ps : List ℕ) (rows : List (List ℕ)) (x c : List ℕ) (n left : ℕ) : Type 0 where
  pub small : Small k ps c
  pub total : n + left ≤ b
  pub is : (C : Context) → Reads C.P (suc k) ps rows
      → (iter (conj C.P k k) n (to_nf k x) ≡ to_nf k c) × (iter (conj C.P k k) left (to_nf k c) ≡ iter (conj C.P k k) b (to_nf k x))

module _ {k b : ℕ} {ps : List ℕ} {rows : List (List ℕ)} {x : List ℕ} where
  pub turning-start : Small k ps x → Turning k b ps rows x x 0 b
  turning-start s = record { small = s; total = omega arith; is = λ C R. (iter-zero (conj C.P k k) (to_nf k x), refl) }

  pub turning-more : {c d : List ℕ} {n left r : ℕ} → 0 < left → Turning k b ps rows x c n left → Conjugate k k ps rows c d → Remaining k x d (n + 1) (left - 1) r
      → Turning k b ps rows x d (n + 1) r
  turning-more {c} {d} {n} {left} {r} l t q m = record {
    small = q.small;
    total = omega (arith, t.total, m.less);
    is = λ C R. (done C R, m.leads (conj C.P k k) (done C R) ∙ more C R);
  }
    where
      done : (C : Context) → Reads C.P (suc k) ps rows → iter (conj C.P k k) (n + 1) (to_nf k x) ≡ to_nf k d
      done C R = sym (iter-add (conj C.P k k) n 1 (to_nf k x)) ∙ iter-suc (conj C.P k k) 0 _ ∙ iter-zero (conj C.P k k) _
          ∙ ap (conj C.P k k) (t.is C R).0 ∙ sym (q.is C R)

      more : (C : Context) → Reads C.P (suc k) ps rows → iter (conj C.P k k) (left - 1) (to_nf k d) ≡ iter (conj C.P k k) b (to_nf k x)
      more C R = let e : suc (left - 1) ≡ left = omega arith in
          ap (iter (conj C.P k k) (left - 1)) (q.is C R) ∙ sym (iter-suc (conj C.P k k) (left - 1) (to_nf k c))
          ∙ ap (λ m. iter (conj C.P k k) m (to_nf k c)) e ∙ (t.is C R).1

  pub turned-done : {c : List ℕ} {n left : ℕ} → left ≡ 0 → Turning k b ps rows x c n left → Turned k b ps rows x c
  turned-done {c} e t = record {
    small = t.small;
    is = λ C R. sym (iter-zero (conj C.P k k) (to_nf k c)) ∙ ap (λ m. iter (conj C.P k k) m (to_nf k c)) (sym e) ∙ (t.is C R).1;
  }

  -- a form that conjugation fixes
  pub turned-fixed : Conjugate k k ps rows x x → Turned k b ps rows x x
  turned-fixed q = record { small = q.small; is = λ C R. sym (iter-fix (conj C.P k k) (to_nf k x) (sym (q.is C R)) b) }

-- ---- Rows that agree

small_same : {k : ℕ} {ps x r : List ℕ} → ((m : ℕ) → m < k → get_or r m 0 ≡ get_or x m 0) → Small k ps x → Small k ps r
small_same {ps = ps} e s = record { below = λ m l. subst (λ v. v < get_or ps m 0) (sym (e m l)) (s.below m l) }

pub turned_same : {k b : ℕ} {ps : List ℕ} {rows : List (List ℕ)} {x c r : List ℕ} → ((m : ℕ) → m < k → get_or r m 0 ≡ get_or c m 0) → Turned k b ps rows x c → Turned k b ps rows x r
turned_same {k} {c = c} {r = r} e t = record { small = small_same e t.small; is = λ C R. to_nf-ext k r c e ∙ t.is C R }

pub product-same : {k : ℕ} {ps : List ℕ} {rows : List (List ℕ)} {x y z r : List ℕ} → ((m : ℕ) → m < k → get_or r m 0 ≡ get_or z m 0) → Product k ps rows x y z → Product k ps rows x y r
product-same {k} {z = z} {r = r} e t = record { small = small_same e t.small; is = λ C R. to_nf-ext k r z e ∙ t.is C R }

-- no exponent in x
pub product-left : {i : ℕ} {ps : List ℕ} {rows : List (List ℕ)} {x y : List ℕ} → Top i x 0 → Small i ps y → Product i ps rows x y y
product-left {i} {ps} {rows} {x} {y} t s = record {
  small = s;
  is = λ C R. sym (ap (λ m. mul C.P i m (to_nf i y)) (to_nf-trivial i x (λ k l. t.rest k (omega arith) l))
      ∙ mul-trivial-left C i (to_nf i y) (small-valid R (omega arith) s));
}

-- the form of a row of two
stacked-is : {k : ℕ} {low high : List ℕ} {s : ℕ} {r : List ℕ} → Stacked k low high s r → to_nf (suc k) r ≡ (s, to_nf k low)
stacked-is {k} {low} {r = r} t = to_nf-suc k r ∙ ap₂ (λ a b. (a, b)) t.at (to_nf-ext k r low t.below)

stacked-small : {k : ℕ} {ps low high : List ℕ} {s : ℕ} {r : List ℕ} → Stacked k low high s r → Small k ps low → s < get_or ps k 0 → Small (suc k) ps r
stacked-small t q l = small_top (small_same t.below q) (omega (arith, t.at))

module _ {k b : ℕ} {ps : List ℕ} {rows : List (List ℕ)} {x y c z : List ℕ} (e : b ≡ get_or y k 0) (t : Turned k b ps rows x c) (q : Product k ps rows c y z) where
  rest-is : (C : Context) → Reads C.P (suc k) ps rows → to_nf k z ≡ mul C.P k (iter (conj C.P k k) (get_or y k 0) (to_nf k x)) (to_nf k y)
  rest-is C R = q.is C (reads-below (omega arith) R)
      ∙ ap (λ s. mul C.P k s (to_nf k y)) (t.is C R ∙ ap (λ m. iter (conj C.P k k) m (to_nf k x)) e)

  pub product-low : {r : List ℕ} → Stacked k z x (get_or x k 0 + b) r → get_or x k 0 + b < get_or ps k 0 → Product (suc k) ps rows x y r
  product-low {r} st h = record { small = stacked-small st q.small h; is = equal }
    where
      equal : (C : Context) → Reads C.P (suc k) ps rows → to_nf (suc k) r ≡ mul C.P (suc k) (to_nf (suc k) x) (to_nf (suc k) y)
      equal C R =
          let w : get_or x k 0 + get_or y k 0 < C.P.p k = omega (arith, R.p_is k (omega arith)) in
          stacked-is st ∙ ap₂ (λ s t. (s, t)) (ap (λ s. get_or x k 0 + s) e) (rest-is C R)
          ∙ sym (mul_step-below (C.P.p k) (mul C.P k) (conj C.P k k) (C.P.u k) (get_or x k 0, to_nf k x) (get_or y k 0, to_nf k y) w)
          ∙ sym (mul-suc C.P k _ _) ∙ ap₂ (mul C.P (suc k)) (sym (to_nf-suc k x)) (sym (to_nf-suc k y))

  pub product_high : {u v r : List ℕ} → u ≡ get_or rows (pair_number k k) [] → Product k ps rows u z v → Stacked k v x (get_or x k 0 + b - get_or ps k 0) r
      → get_or ps k 0 ≤ get_or x k 0 + b → get_or x k 0 + b - get_or ps k 0 < get_or ps k 0 → Product (suc k) ps rows x y r
  product_high {u} {v} {r} ue qv st h s = record { small = stacked-small st qv.small s; is = equal }
    where
      equal : (C : Context) → Reads C.P (suc k) ps rows → to_nf (suc k) r ≡ mul C.P (suc k) (to_nf (suc k) x) (to_nf (suc k) y)
      equal C R =
          let w : C.P.p k ≤ get_or x k 0 + get_or y k 0 = omega (arith, R.p_is k (omega arith)) in
          let a : get_or x k 0 + b - get_or ps k 0 ≡ get_or x k 0 + get_or y k 0 - C.P.p k = omega (arith, R.p_is k (omega arith)) in
          stacked-is st ∙ ap₂ (λ s t. (s, t)) a (qv.is C (reads-below (omega arith) R)
          ∙ ap₂ (mul C.P k) (ap (to_nf k) ue ∙ R.u_is k (omega arith)) (rest-is C R))
          ∙ sym (mul_step-over (C.P.p k) (mul C.P k) (conj C.P k k) (C.P.u k) (get_or x k 0, to_nf k x) (get_or y k 0, to_nf k y) w)
          ∙ sym (mul-suc C.P k _ _) ∙ ap₂ (mul C.P (suc k)) (sym (to_nf-suc k x)) (sym (to_nf-suc k y))

-- above the exponents of y, those of x stay
module _ {ps : List ℕ} {rows : List (List ℕ)} {x y r : List ℕ} where
  product-step : {i : ℕ} → get_or y i 0 ≡ 0 → get_or r i 0 ≡ get_or x i 0 → get_or x i 0 < get_or ps i 0 → Product i ps rows x y r → Product (suc i) ps rows x y r
  product-step {i} ye re l q = record {
    small = small_top q.small (omega (arith, re));
    is = λ C R.
        let w : get_or x i 0 + 0 < C.P.p i = omega (arith, R.p_is i (omega arith)) in
        let z : get_or x i 0 + 0 ≡ get_or x i 0 = omega arith in
        to_nf-suc i r ∙ ap₂ (λ s t. (s, t)) (re ∙ sym z) (q.is C (reads-below (omega arith) R)
        ∙ ap (λ s. mul C.P i s (to_nf i y)) (sym (iter-zero (conj C.P i i) (to_nf i x))))
        ∙ sym (mul_step-below (C.P.p i) (mul C.P i) (conj C.P i i) (C.P.u i) (get_or x i 0, to_nf i x) (0, to_nf i y) w)
        ∙ sym (mul-suc C.P i _ _) ∙ ap₂ (mul C.P (suc i)) (sym (to_nf-suc i x)) (sym (to_nf-suc i y ∙ ap (λ s. (s, to_nf i y)) ye));
  }

  pub product-up : {m i : ℕ} → Top i y m → ((k : ℕ) → m ≤ k → k < i → get_or r k 0 ≡ get_or x k 0) → Small i ps x → Product m ps rows x y r
      → Product i ps rows x y r
  product-up {m} {i} t re sx = climb (λ k. Product k ps rows x y r) m i t.less (λ k a b. product-step (t.rest k a b) (re k a b) (sx.below k b))

-- no exponent in y
pub product-none : {i : ℕ} {ps : List ℕ} {rows : List (List ℕ)} {x y : List ℕ} → Top i y 0 → Small i ps x → Product i ps rows x y x
product-none t sx = product-up t (λ k a b. refl) sx (record { small = record { below = λ k l. absurd (omega arith) }; is = λ C R. refl })

-- the highest exponent of y is below m
module _ {i m : ℕ} {ps : List ℕ} {rows : List (List ℕ)} {x y c z : List ℕ} (pos : 0 < m) (over : Top i y m) (sx : Small i ps x)
    (t : Turned (m - 1) (get_or y (m - 1) 0) ps rows x c) (q : Product (m - 1) ps rows c y z) where
  raised : {low r : List ℕ} {s : ℕ} → Stacked (m - 1) low x s r → Product (suc (m - 1)) ps rows x y r → Product i ps rows x y r
  raised {r = r} st a =
      let level : suc (m - 1) ≡ m = omega arith in
      product-up over (λ k b l. st.above k (omega arith)) sx (subst (λ n. Product n ps rows x y r) level a)

  pub product-low-at : {r : List ℕ} → Stacked (m - 1) z x (get_or x (m - 1) 0 + get_or y (m - 1) 0) r
      → get_or x (m - 1) 0 + get_or y (m - 1) 0 < get_or ps (m - 1) 0 → Product i ps rows x y r
  product-low-at st h = raised st (product-low refl t q st h)

  pub product-high-at : {u v r : List ℕ} → u ≡ get_or rows (pair_number (m - 1) (m - 1)) [] → Product (m - 1) ps rows u z v
      → Stacked (m - 1) v x (get_or x (m - 1) 0 + get_or y (m - 1) 0 - get_or ps (m - 1) 0) r
      → get_or ps (m - 1) 0 ≤ get_or x (m - 1) 0 + get_or y (m - 1) 0 → Small i ps y → Product i ps rows x y r
  product-high-at ue qv st h sy =
      let low : m - 1 < i = omega (arith, over.less) in
      raised st (product_high refl t q ue qv st h (omega (arith, sx.below (m - 1) low, sy.below (m - 1) low)))

-- ---- Powers

module _ {k : ℕ} {ps : List ℕ} {rows : List (List ℕ)} {h : List ℕ} where
  pub powering-start : Ranged k ps rows → Power k ps rows h (replicate max_generators 0) 0
  powering-start r = record {
    small = small-zeros r;
    is = λ C R. to_nf-trivial k (replicate max_generators 0) (λ m l. zeros m) ∙ sym (power_zero (forms C.P k) (to_nf k h));
  }

  pub powering-more : {r s : List ℕ} {n : ℕ} → Power k ps rows h r n → Product k ps rows h r s → Power k ps rows h s (n + 1)
  powering-more {n = n} t q = record {
    small = q.small;
    is = λ C R. q.is C R ∙ ap (mul C.P k (to_nf k h)) (t.is C R)
        ∙ sym (power-suc (forms C.P k) (to_nf k h) n) ∙ ap (power (forms C.P k) (to_nf k h)) (sym (add-one n));
  }

  pub power-once : Small k ps h → Power k ps rows h h 1
  power-once s = record {
    small = s;
    is = λ C R. sym (power-suc (forms C.P k) (to_nf k h) 0 ∙ ap (mul C.P k (to_nf k h)) (power_zero (forms C.P k) (to_nf k h))
        ∙ mul-trivial-right C k (to_nf k h) (small-valid R (omega arith) s));
  }

-- exponents of one generator add below the prime, where its power word is empty
module _ (k : ℕ) (ps : List ℕ) (rows : List (List ℕ)) (x y s : List ℕ) (none : Top k (get_or rows (pair_number k k) []) 0) (nx : Top k x 0) (ny : Top k y 0) (ns : Top k s 0)
    (sx : get_or x k 0 < get_or ps k 0) (sy : get_or y k 0 < get_or ps k 0) (pos : (m : ℕ) → m < k → 0 < get_or ps m 0) where
  trivial-of : (r : List ℕ) → Top k r 0 → to_nf (suc k) r ≡ (get_or r k 0, trivial k)
  trivial-of r t = to_nf-suc k r ∙ ap (λ m. (get_or r k 0, m)) (to_nf-trivial k r (λ m l. t.rest m (omega arith) l))

  single-is : (a : ℕ) → a < get_or ps k 0 → get_or s k 0 ≡ a
      → ((C : Context) → Reads C.P (suc k) ps rows → (a, trivial k) ≡ mul C.P (suc k) (get_or x k 0, trivial k) (get_or y k 0, trivial k)) → Product (suc k) ps rows x y s
  single-is a l q h = record {
    small = small_top (record { below = λ m b. omega (arith, ns.rest m (omega arith) b, pos m b) }) (omega (arith, q));
    is = λ C R. trivial-of s ns ∙ ap (λ v. (v, trivial k)) q ∙ h C R ∙ ap₂ (mul C.P (suc k)) (sym (trivial-of x nx)) (sym (trivial-of y ny));
  }

  product-single : get_or s k 0 ≡ (get_or x k 0 + get_or y k 0) % get_or ps k 0 → Product (suc k) ps rows x y s
  product-single e = by_cases (dec_lt (get_or x k 0 + get_or y k 0) (get_or ps k 0))
      (λ l. single-is _ l (e ∙ mod-eq_of_lt l) (λ C R. sym (mul-top-below C k (get_or x k 0) (get_or y k 0) (trivial k) (trivial-valid C k) (omega (arith, R.p_is k (omega arith))))))
      (λ l.
      let h : get_or ps k 0 ≤ get_or x k 0 + get_or y k 0 = omega arith in
      let b : get_or x k 0 + get_or y k 0 - get_or ps k 0 < get_or ps k 0 = omega arith in
      single-is _ b (e ∙ mod-eq-sub-mod h ∙ mod-eq_of_lt b)
      (λ C R. sym (mul-top-over C k (get_or x k 0) (get_or y k 0) (trivial k) (trivial-valid C k) (omega (arith, R.p_is k (omega arith)))
      ∙ ap₂ (λ p u. (get_or x k 0 + get_or y k 0 - p, mul C.P k u (trivial k))) (sym (R.p_is k (omega arith)))
      (sym (R.u_is k (omega arith)) ∙ to_nf-trivial k _ (λ m a. none.rest m (omega arith) a))
      ∙ ap (λ u. (get_or x k 0 + get_or y k 0 - get_or ps k 0, u)) (mul-trivial-right C k (trivial k) (trivial-valid C k)))))

-- powers of a form of one generator, m - 1, whose power word is empty
module _ {i m : ℕ} {ps : List ℕ} {rows : List (List ℕ)} {x : List ℕ} (ready : Ranged i ps rows) (sx : Small i ps x) (over : Top i x m)
    (alone : (0 < m) × Top (m - 1) x 0 × Top (m - 1) (get_or rows (pair_number (m - 1) (m - 1)) []) 0) where
  abbrev part : ℕ → ℕ
  part e = (get_or x (m - 1) 0 * e) % get_or ps (m - 1) 0

  lower : (a : ℕ) (r : List ℕ) → Single (m - 1) a r → Top (m - 1) r 0
  lower a r q = record { less = omega arith; rest = λ k l h. q.rest k (λ e. omega arith) }

  pub power-single : (e : ℕ) {r : List ℕ} → Single (m - 1) (part e) r → Power i ps rows x r e
  power-single zero {r} q = record {
    small = record { below = λ k l. subst (λ v. v < get_or ps k 0) (sym (none k (ℕ_discrete k (m - 1)))) (omega (arith, ready.two k l)) };
    is = λ C R. to_nf-trivial i r (λ k l. none k (ℕ_discrete k (m - 1))) ∙ sym (power_zero (forms C.P i) (to_nf i x));
  }
    where
      none : (k : ℕ) → Dec (k ≡ m - 1) → get_or r k 0 ≡ 0
      none k (yes d) = ap (λ n. get_or r n 0) d ∙ q.at ∙ ap (λ v. v % get_or ps (m - 1) 0) (mul-zero (get_or x (m - 1) 0)) ∙ zero-mod (get_or ps (m - 1) 0)
      none k (no d) = q.rest k d
  power-single (suc n) {r} q = subst (Power i ps rows x r) (add-one n) (powering-more (power-single n single') raised)
    where
      few : m - 1 < i
      few = omega (arith, over.less, alone.0)

      level : suc (m - 1) ≡ m
      level = omega (arith, alone.0)

      r' : List ℕ
      r' = set (replicate max_generators 0) (m - 1) (part n)

      single' : Single (m - 1) (part n) r'
      single' = single-row (m - 1) (part n) (omega (arith, few, ready.few))

      top' : Top i r' m
      top' = record { less = over.less; rest = λ k a b. single'.rest k (λ e. omega (arith, alone.0)) }

      above : (k : ℕ) → m ≤ k → k < i → get_or r k 0 ≡ get_or x k 0
      above k a b = q.rest k (λ e. omega (arith, alone.0)) ∙ sym (over.rest k a b)

      pos : 0 < get_or ps (m - 1) 0
      pos = omega (arith, ready.two (m - 1) few)

      next : part (suc n) ≡ (get_or x (m - 1) 0 + part n) % get_or ps (m - 1) 0
      next =
          let e : get_or x (m - 1) 0 * suc n ≡ get_or x (m - 1) 0 + get_or x (m - 1) 0 * n = omega arith in
          ap (λ v. v % get_or ps (m - 1) 0) e ∙ sym (add-mod-mod (get_or x (m - 1) 0) (get_or x (m - 1) 0 * n) (get_or ps (m - 1) 0))

      step : Product (suc (m - 1)) ps rows x r' r
      step = product-single (m - 1) ps rows x r' r alone.2 alone.1 (lower _ r' single') (lower _ r q) (sx.below (m - 1) few)
          (subst (λ v. v < get_or ps (m - 1) 0) (sym single'.at) (mod-lt (get_or x (m - 1) 0 * n) pos)) (λ k l. omega (arith, ready.two k (omega (arith, few))))
          (q.at ∙ next ∙ ap (λ v. (get_or x (m - 1) 0 + v) % get_or ps (m - 1) 0) (sym single'.at))

      raised : Product i ps rows x r' r
      raised = product-up top' above sx (subst (λ n. Product n ps rows x r' r) level step)

-- ---- Conjugation

-- conjugation keeps an exponent
module _ {j : ℕ} {ps : List ℕ} {rows : List (List ℕ)} {x r : List ℕ} where
  conjugate-step : {l : ℕ} → l < j → keeps rows j l (get_or x l 0) ≡ true → get_or r l 0 ≡ get_or x l 0 → Small (suc l) ps x → Conjugate l j ps rows x r
      → Conjugate (suc l) j ps rows x r
  conjugate-step {l} lj h re sx q = record {
    small = small_top q.small (omega (arith, re, sx.below l (omega arith)));
    is = λ C R. equal C R (or_cases _ _ h);
  }
    where
      word : List ℕ
      word = get_or rows (pair_number j l) []

      equal : (C : Context) → Reads C.P (suc j) ps rows → OneOf (eqb (get_or x l 0) 0) (empty_at (suc l) word)
          → to_nf (suc l) r ≡ conj C.P (suc l) j (to_nf (suc l) x)
      equal C R d = to_nf-suc l r ∙ ap₂ (λ s t. (s, t)) re (q.is C R) ∙ sym (go d) ∙ ap (conj C.P (suc l) j) (sym (to_nf-suc l x))
        where
          valid : Valid C.P (suc l) (get_or x l 0, to_nf l x)
          valid = subst (Valid C.P (suc l)) (to_nf-suc l x) (small-valid R (omega arith) sx)

          go : OneOf (eqb (get_or x l 0) 0) (empty_at (suc l) word) → conj C.P (suc l) j (get_or x l 0, to_nf l x) ≡ (get_or x l 0, conj C.P l j (to_nf l x))
          go (first a) =
              subst (λ t. conj C.P (suc l) j (t, to_nf l x) ≡ (t, conj C.P l j (to_nf l x))) (sym (eqb-true (get_or x l 0) 0 a)) (conj-zero C l j (to_nf l x) valid.1)
          go (second a) = conj-empty C l j (get_or x l 0, to_nf l x) valid (sym (R.w_is l j lj (omega arith)) ∙ same_form-eq (suc l) _ _ a)

  pub conjugate-up : {m k : ℕ} → k ≤ j → KeepsFrom rows k j x m → ((q : ℕ) → m ≤ q → get_or r q 0 ≡ get_or x q 0) → Small k ps x → Conjugate m j ps rows x r
      → Conjugate k j ps rows x r
  conjugate-up {m} {k} kj t re sx = climb (λ k. Conjugate k j ps rows x r) m k t.less
      (λ q a b. conjugate-step (omega arith) (t.rest q a b) (re q a) (small-below (omega arith) sx))

-- nothing moves
pub conjugate-none : {k j : ℕ} {ps : List ℕ} {rows : List (List ℕ)} {x : List ℕ} → k ≤ j → KeepsFrom rows k j x 0 → Small k ps x → Conjugate k j ps rows x x
conjugate-none kj t sx =
    conjugate-up kj t (λ q a. refl) sx (record { small = record { below = λ k l. absurd (omega arith) }; is = λ C R. refl })

-- the conjugate of a generator, without a carry and with one
module _ {j l : ℕ} {ps : List ℕ} {rows : List (List ℕ)} {w : List ℕ} (ready : Ranged (suc j) ps rows) (lj : l < j) (we : w ≡ get_or rows (pair_number j l) []) where
  pub commutator-small : Small (suc l) ps w
  commutator-small = word_small j l ready (omega arith) (omega arith) (omega arith) we

  word-is : (C : Context) → Reads C.P (suc j) ps rows → C.P.w l j ≡ (get_or w l 0, to_nf l w)
  word-is C R = sym (ap (to_nf (suc l)) we ∙ R.w_is l j lj (omega arith)) ∙ to_nf-suc l w

  word-valid : (C : Context) → Reads C.P (suc j) ps rows → Valid C.P l (to_nf l w)
  word-valid C R = small-valid {i = l} R (omega arith) (small-below (omega arith) commutator-small)

  pub image-low : l < length w → get_or w l 0 + 1 < get_or ps l 0 → Image j l ps rows (set w l (get_or w l 0 + 1))
  image-low long h = record {
    small = small-set l ps w _ long (small-below (omega arith) commutator-small) h;
    is = λ C R.
        let a : 1 + get_or w l 0 < C.P.p l = omega (arith, R.p_is l (omega arith)) in
        let z : get_or w l 0 + 1 ≡ 1 + get_or w l 0 = omega arith in
        to_nf-set-top l w _ long ∙ ap (λ s. (s, to_nf l w)) z
        ∙ sym (mul-top-below C l 1 (get_or w l 0) (to_nf l w) (word-valid C R) a) ∙ ap (mul C.P (suc l) (1, trivial l)) (sym (word-is C R));
  }

  pub image-high : {u v : List ℕ} → u ≡ get_or rows (pair_number l l) [] → Product l ps rows u w v → l < length v → get_or ps l 0 ≤ get_or w l 0 + 1 → Image j l ps rows (set v l 0)
  image-high {u} {v} ue q long h = record {
    small = small-set l ps v 0 long q.small (omega (arith, ready.two l (omega arith)));
    is = λ C R.
        let p : C.P.p l ≤ 1 + get_or w l 0 = omega (arith, R.p_is l (omega arith)) in
        let z : 0 ≡ 1 + get_or w l 0 - C.P.p l = omega (arith, R.p_is l (omega arith), commutator-small.below l (omega arith)) in
        to_nf-set-top l v 0 long ∙ ap₂ (λ s t. (s, t)) z
        (q.is C (reads-below (omega arith) R) ∙ ap (λ t. mul C.P l t (to_nf l w)) (ap (to_nf l) ue ∙ R.u_is l (omega arith)))
        ∙ sym (mul-top-over C l 1 (get_or w l 0) (to_nf l w) (word-valid C R) p) ∙ ap (mul C.P (suc l) (1, trivial l)) (sym (word-is C R));
  }

-- z is the conjugate of the lower part
module _ {l j : ℕ} {ps : List ℕ} {rows : List (List ℕ)} {x z : List ℕ} (lj : l < j) (long : l < length z) (q : Conjugate l j ps rows x z) where
  pub conjugate-moves : {h r s t : List ℕ} → Image j l ps rows h → Power (suc l) ps rows h r (get_or x l 0) → Product (suc l) ps rows r (set z l 0) s
      → Stacked l s x (get_or s l 0) t → Conjugate (suc l) j ps rows x t
  conjugate-moves {h} {r} {s} {t} qh qr qs st = record {
    small = stacked-small st (small-below (omega arith) qs.small) (qs.small.below l (omega arith));
    is = equal;
  }
    where
      equal : (C : Context) → Reads C.P (suc j) ps rows → to_nf (suc l) t ≡ conj C.P (suc l) j (to_nf (suc l) x)
      equal C R =
          let R' = reads-below {m = suc l} (omega arith) R in
          stacked-is st ∙ sym (to_nf-suc l s) ∙ qs.is C R' ∙ ap₂ (mul C.P (suc l))
          (qr.is C R' ∙ ap (λ m. power (forms C.P (suc l)) m (get_or x l 0)) (qh.is C R))
          (to_nf-set-top l z 0 long ∙ ap (λ m. (0, m)) (q.is C R))
          ∙ sym (conj-suc C.P l j (get_or x l 0, to_nf l x)) ∙ ap (conj C.P (suc l) j) (sym (to_nf-suc l x))

-- ---- A power times a form

module _ {i : ℕ} {ps : List ℕ} {rows : List (List ℕ)} where
  pub scaled-zero : {x v : List ℕ} {e : ℕ} → e ≡ 0 → Small i ps v → Scaled i ps rows x e v v
  scaled-zero {x} {v} q s = record {
    small = s;
    is = λ C R. sym (ap (λ m. mul C.P i (power (forms C.P i) (to_nf i x) m) (to_nf i v)) q
        ∙ ap (λ m. mul C.P i m (to_nf i v)) (power_zero (forms C.P i) (to_nf i x))
        ∙ mul-trivial-left C i (to_nf i v) (small-valid R (omega arith) s));
  }

  pub scaled-more : {x q v r : List ℕ} {e : ℕ} → Power i ps rows x q e → Product i ps rows q v r → Scaled i ps rows x e v r
  scaled-more {v = v} a b = record { small = b.small; is = λ C R. b.is C R ∙ ap (λ m. mul C.P i m (to_nf i v)) (a.is C R) }
