-- Laws of exponents and of their sums.
--
--   idr, lcomm, rcomm, negl, cancel, neg_of       what follows from the laws of an abelian group
--   regroup                                a sum of four terms in another order
--   total-zero, total-suc, total_ext, total-add, total-single, total-none      sums of many terms
--   times-nil, times-one, times-add, times-mul, times-swap                     multiples
use mathlib.Core.Path.{◌≡◌, refl, sym, ◌∙◌, ap, ap₂}
use mathlib.Core.Logic.{by_cases}
use Prim.Native.Nat.{ℕ, zero, suc, ◌+◌, ◌*◌, ◌<◌}
use native.Mathlib.Nat.{zero-add, suc-add, zero-mul}
use native.Mathlib.Omega.{arith}
use native.Mathlib.Decide.{dec_lt}
use Rattle.monomial.specs.Exponents.{Exponents, total, times}

module _ {E : Type 0} (𝓔 : Exponents E) where
  open 𝓔 use {add, nil, neg}

  pub idr : (x : E) → add x nil ≡ x
  idr x = 𝓔.comm _ _ ∙ 𝓔.idl x

  pub negl : (x : E) → add (neg x) x ≡ nil
  negl x = 𝓔.comm _ _ ∙ 𝓔.negr x

  pub lcomm : (x y z : E) → add x (add y z) ≡ add y (add x z)
  lcomm x y z = sym (𝓔.assoc x y z) ∙ ap (λ s. add s z) (𝓔.comm x y) ∙ 𝓔.assoc y x z

  pub rcomm : (x y z : E) → add (add x y) z ≡ add (add x z) y
  rcomm x y z = 𝓔.assoc x y z ∙ ap (add x) (𝓔.comm y z) ∙ sym (𝓔.assoc x z y)

  pub undo : (x y : E) → add (neg x) (add x y) ≡ y
  undo x y = sym (𝓔.assoc _ _ _) ∙ ap (λ s. add s y) (negl x) ∙ 𝓔.idl y

  pub cancel : (x y z : E) → add x y ≡ add x z → y ≡ z
  cancel x y z q = sym (undo x y) ∙ ap (add (neg x)) q ∙ undo x z

  pub neg_of : (s x : E) → add s x ≡ nil → x ≡ neg s
  neg_of s x q = cancel s x (neg s) (q ∙ sym (𝓔.negr s))

  pub regroup : (x s y q : E) → add (add x s) (add y q) ≡ add (add s y) (add x q)
  regroup x s y q = simp (𝓔.assoc, 𝓔.comm, lcomm)

  -- ---- Sums

  pub total-zero : (g : ℕ → E) → total 𝓔 g zero ≡ nil
  unfolding total
  total-zero g = refl

  pub total-suc : (g : ℕ → E) (n : ℕ) → total 𝓔 g (suc n) ≡ add (g n) (total 𝓔 g n)
  unfolding total
  total-suc g n = refl

  pub total_ext : (g h : ℕ → E) (n : ℕ) → ((k : ℕ) → k < n → g k ≡ h k) → total 𝓔 g n ≡ total 𝓔 h n
  unfolding total
  total_ext g h zero q = refl
  total_ext g h (suc n) q = ap₂ add (q n (omega arith)) (total_ext g h n (λ k l. q k (omega arith)))

  pub total-add : (g h : ℕ → E) (n : ℕ) → total 𝓔 (λ k. add (g k) (h k)) n ≡ add (total 𝓔 g n) (total 𝓔 h n)
  unfolding total
  total-add g h zero = sym (𝓔.idl _)
  total-add g h (suc n) = ap (add (add (g n) (h n))) (total-add g h n) ∙ simp (𝓔.assoc, 𝓔.comm)

  pub total-none : (g : ℕ → E) (n : ℕ) → ((k : ℕ) → k < n → g k ≡ nil) → total 𝓔 g n ≡ nil
  total-none g zero h = total-zero g
  total-none g (suc n) h = total-suc g n ∙ ap₂ add (h n (omega arith)) (total-none g n (λ k a. h k (omega arith))) ∙ 𝓔.idl _

  pub total-single : (g : ℕ → E) (n k : ℕ) (s : E) → k < n → g k ≡ s → ((j : ℕ) → j < n → ¬ (j ≡ k) → g j ≡ nil) → total 𝓔 g n ≡ s
  total-single g zero k s l q z = absurd (omega arith)
  total-single g (suc n) k s l q z = total-suc g n ∙ by_cases (dec_lt k n)
      (λ h. ap₂ add (z n (omega arith) (λ e. omega arith)) (total-single g n k s h q (λ j a b. z j (omega arith) b)) ∙ 𝓔.idl s)
      (λ h. let e : n ≡ k = omega arith in ap₂ add (ap g e ∙ q) (total-none g n (λ j a. z j (omega arith) (λ b. omega arith))) ∙ idr s)

  -- ---- Multiples

  pub times-nil : (n : ℕ) → times 𝓔 n nil ≡ nil
  times-nil n = total-none (λ k. nil) n (λ k l. refl)

  pub times-one : (x : E) → times 𝓔 1 x ≡ x
  times-one x = total-suc (λ k. x) 0 ∙ ap (add x) (total-zero (λ k. x)) ∙ idr x

  pub times-add : (k l : ℕ) (x : E) → times 𝓔 (k + l) x ≡ add (times 𝓔 k x) (times 𝓔 l x)
  times-add zero l x = simp (zero-add, total-zero, 𝓔.idl)
  times-add (suc k) l x = simp (suc-add, total-suc, times-add k l x, 𝓔.assoc)

  pub times-mul : (k l : ℕ) (x : E) → times 𝓔 (k * l) x ≡ times 𝓔 k (times 𝓔 l x)
  times-mul zero l x = simp (zero-mul, total-zero)
  times-mul (suc k) l x = let q : suc k * l ≡ l + k * l = omega arith in rw q (simp (times-add, times-mul k l x, total-suc))

  pub times-swap : (k l : ℕ) (x : E) → times 𝓔 k (times 𝓔 l x) ≡ times 𝓔 l (times 𝓔 k x)
  times-swap k l x = let q : k * l ≡ l * k = omega arith in sym (times-mul k l x) ∙ ap (λ s. times 𝓔 s x) q ∙ times-mul l k x
