-- Entries of mapped, counted and concatenated lists.
--
--   get_d_map, get_or-upto          an entry of a mapped list; entry k of 0, 1, .. is k
--   get_or-table                   an entry of a list given by a function
--   get_or-blocks                  an entry of f 0 ++ f 1 ++ ..: entry κ of stretch s
--   blocks-suc, blocks-below, blocks-split     one stretch more; equal stretches; two parts
--   blocks-stretches             a list made in stretches
--   blocks-none, blocks-single   at most one stretch holds something
--   length-even, get_or-even       the same where all stretches have one length
use mathlib.Core.Path.{◌≡◌, refl, sym, ◌∙◌, ap, ap₂, subst}
use mathlib.Core.Logic.{by_cases}
use mathlib.Core.List.{List, [], ◌∷◌, ◌++◌, map, append-nil, append_assoc}
use Prim.Native.Nat.{ℕ, zero, suc, ◌+◌, ◌*◌, ◌<◌}
use native.Mathlib.Nat.{add-zero, add-suc}
use native.Mathlib.Omega.{arith}
use native.Mathlib.Decide.{dec_lt}
use lib.ListN.{length, get_or, length-map, get_or-append}
use lib.Seq.{get_or-append-add}
use Rattle.definitions.specs.Lists.{upto, blocks, sum}
use Rattle.numbers.proofs.Lists.{length-upto, length-blocks}
use Rattle.numbers.proofs.Sums.{sum-zero, sum-suc, sum_below, sum-const, stretch-below}

pub get_d_map : {A B : Type 0} (f : A → B) (xs : List A) (k : ℕ) (d : A) (e : B) → k < length xs → get_or (map f xs) k e ≡ f (get_or xs k d)
get_d_map f [] k d e l = absurd (omega arith)
get_d_map f (x ∷ xs) zero d e l = refl
get_d_map f (x ∷ xs) (suc k) d e l = get_d_map f xs k d e (omega arith)

pub get_or-upto : (n k : ℕ) → k < n → get_or (upto n) k 0 ≡ k
unfolding upto
get_or-upto zero k l = absurd (omega arith)
get_or-upto (suc n) k l = by_cases (dec_lt k n)
    (λ h. get_or-append (upto n) (n ∷ []) 0 k (omega (arith, length-upto n)) ∙ get_or-upto n k h)
    (λ h. let e : k ≡ length (upto n) + 0 = omega (arith, length-upto n) in
    ap (λ s. get_or (upto n ++ (n ∷ [])) s 0) e ∙ get_or-append-add (upto n) (n ∷ []) 0 0 ∙ omega arith)

pub get_or-table : {B : Type 0} (f : ℕ → B) (n k : ℕ) (e : B) → k < n → get_or (map f (upto n)) k e ≡ f k
get_or-table f n k e l = get_d_map f (upto n) k 0 e (subst (λ s. k < s) (sym (length-upto n)) l) ∙ ap f (get_or-upto n k l)

pub length-table : {B : Type 0} (f : ℕ → B) (n : ℕ) → length (map f (upto n)) ≡ n
length-table f n = length-map (upto n) f ∙ length-upto n

pub get_or-blocks : {A : Type 0} (d : A) (N : ℕ) (f : ℕ → List A) (s κ : ℕ) → s < N → κ < length (f s) → get_or (blocks N f) (sum s (λ k. length (f k)) + κ) d ≡ get_or (f s) κ d
unfolding blocks
get_or-blocks d zero f s κ a b = absurd (omega arith)
get_or-blocks d (suc N) f s κ a b =
    let w : ℕ → ℕ = λ k. length (f k) in
    by_cases (dec_lt s N)
    (λ h. get_or-append (blocks N f) (f N) d (sum s w + κ) (omega (arith, length-blocks N f, stretch-below w s κ N b h)) ∙ get_or-blocks d N f s κ h b)
    (λ h. let e : s ≡ N = omega arith in
    ap (λ z. get_or (blocks N f ++ f N) (z + κ) d) (ap (λ s. sum s w) e ∙ sym (length-blocks N f))
    ∙ get_or-append-add (blocks N f) (f N) κ d ∙ ap (λ z. get_or (f z) κ d) (sym e))

pub blocks-suc : {A : Type 0} (n : ℕ) (f : ℕ → List A) → blocks (suc n) f ≡ blocks n f ++ f n
unfolding blocks
blocks-suc n f = refl

pub blocks-below : {A : Type 0} (n : ℕ) (f g : ℕ → List A) → ((k : ℕ) → k < n → f k ≡ g k) → blocks n f ≡ blocks n g
unfolding blocks
blocks-below zero f g h = refl
blocks-below (suc n) f g h = ap₂ (◌++◌) (blocks-below n f g (λ k l. h k (omega arith))) (h n (omega arith))

pub blocks-zero : {A : Type 0} (f : ℕ → List A) → blocks zero f ≡ []
unfolding blocks
blocks-zero f = refl

pub blocks-split : {A : Type 0} (a b : ℕ) (f : ℕ → List A) → blocks (a + b) f ≡ blocks a f ++ blocks b (λ k. f (a + k))
blocks-split a zero f = ap (λ n. blocks n f) (add-zero a) ∙ sym (ap (λ s. blocks a f ++ s) (blocks-zero _) ∙ append-nil (blocks a f))
blocks-split a (suc b) f = ap (λ n. blocks n f) (add-suc a b) ∙ blocks-suc (a + b) f ∙ ap (λ s. s ++ f (a + b)) (blocks-split a b f)
    ∙ append_assoc (blocks a f) (blocks b (λ k. f (a + k))) (f (a + b)) ∙ ap (λ s. blocks a f ++ s) (sym (blocks-suc b (λ k. f (a + k))))

-- a list made in stretches
pub blocks-stretches : {A : Type 0} (w : ℕ → ℕ) (N : ℕ) (f : ℕ → List A) → blocks (sum N w) f ≡ blocks N (λ s. blocks (w s) (λ κ. f (sum s w + κ)))
blocks-stretches w zero f = ap (λ n. blocks n f) (sum-zero w) ∙ blocks-zero f ∙ sym (blocks-zero _)
blocks-stretches w (suc N) f =
    ap (λ n. blocks n f) (sum-suc N w) ∙ blocks-split (sum N w) (w N) f ∙ ap (λ s. s ++ blocks (w N) (λ κ. f (sum N w + κ))) (blocks-stretches w N f) ∙ sym (blocks-suc N _)

-- only one stretch holds something
pub blocks-none : {A : Type 0} (n : ℕ) (f : ℕ → List A) → ((k : ℕ) → k < n → f k ≡ []) → blocks n f ≡ []
blocks-none zero f h = blocks-zero f
blocks-none (suc n) f h = blocks-suc n f ∙ ap₂ (◌++◌) (blocks-none n f (λ k l. h k (omega arith))) (h n (omega arith))

pub blocks-single : {A : Type 0} (n : ℕ) (f : ℕ → List A) (k : ℕ) → k < n → ((j : ℕ) → j < n → ¬ (j ≡ k) → f j ≡ []) → blocks n f ≡ f k
blocks-single zero f k l h = absurd (omega arith)
blocks-single (suc n) f k l h = blocks-suc n f ∙ by_cases (dec_lt k n)
    (λ a. ap₂ (◌++◌) (blocks-single n f k a (λ j b c. h j (omega arith) c)) (h n (omega arith) (λ e. omega arith)) ∙ append-nil (f k))
    (λ a. let e : n ≡ k = omega arith in ap (λ s. s ++ f n) (blocks-none n f (λ j b. h j (omega arith) (λ c. omega arith))) ∙ ap f e)

-- ---- Stretches of one length

module _ {A : Type 0} (f : ℕ → List A) (w : ℕ) where
  even-start : (s : ℕ) → ((k : ℕ) → k < s → length (f k) ≡ w) → sum s (λ k. length (f k)) ≡ s * w
  even-start s h = sum_below s (λ k. length (f k)) (λ k. w) h ∙ sum-const s w

  pub length-even : (N : ℕ) → ((k : ℕ) → k < N → length (f k) ≡ w) → length (blocks N f) ≡ N * w
  length-even N h = length-blocks N f ∙ even-start N h

  pub get_or-even : (d : A) (N s κ : ℕ) → ((k : ℕ) → k < N → length (f k) ≡ w) → s < N → κ < w → get_or (blocks N f) (s * w + κ) d ≡ get_or (f s) κ d
  get_or-even d N s κ h a b =
      ap (λ z. get_or (blocks N f) (z + κ) d) (sym (even-start s (λ k l. h k (omega arith)))) ∙ get_or-blocks d N f s κ a (subst (λ z. κ < z) (sym (h s a)) b)
