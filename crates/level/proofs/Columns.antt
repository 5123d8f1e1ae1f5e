-- Laws of what stands in lines.
--
--   times-fit                  a product of a number up to 2³² and one below the modulus fits in 64 bits
--   col-matrix_in               a column of a matrix that stands in lines
--   act-in                     a matrix on an entry, from its line
--   col-scale                  a column of a matrix times a power of the root
--   iter-next, iter-once       one more turn behind the others; one turn
--   turns-none .. turns-all    turns counted as a loop counts them, the first made before it
--   iter-fixed                 turns that keep the basis index add up their exponents
--   act-fixed, plus-fixed      a matrix that fixes a basis index, and the same times a power of the root
--   walk-zero, walk-next       the clauses of `walk`
--   walk_ends                  a word that ends early is walked as far as it goes
--   stored-fewer               fewer generators stand where more do
--   stored-line, stored_at     the lines of a generator stand in the words, and hold its matrix
--   matrix-inside              the lines of a generator stand among those of all
--   all_lines                  how many lines all have
use mathlib.Core.Path.{◌≡◌, refl, ap, ap₂, sym, ◌∙◌, subst}
use Prim.Native.Nat.{ℕ, zero, suc, ◌+◌, ◌-◌, ◌*◌, ◌%◌, ◌<◌, ◌≤◌}
use native.Mathlib.Nat.{mod-eq_of_lt, mod-lt, mod-add-mod, add-mod-mod, mul-le-mul_right, le_refl}
use native.Mathlib.Omega.{arith}
use native.Mathlib.Numerals.{add-one}
use mathlib.Core.List.{List}
use lib.ListN.{length, get_or}
use Rattle.definitions.specs.declared.Entry.{Entry}
use Rattle.definitions.specs.Lists.{iter}
use Rattle.definitions.specs.Presentation.{to_nf}
use Rattle.definitions.specs.Monomial.{Matrix, entry, col, act, scale}
use Rattle.numbers.proofs.Lists.{iter-suc, iter-add, iter-zero}
use Rattle.numbers.proofs.Blocks.{get_d_map, get_or-table}
use Rattle.formulas.specs.Formulas.{walk, plus}
use Rattle.rows.specs.Rows.{Top}
use Rattle.level.specs.declared.Listed.{Listed}
use Rattle.level.specs.Stored.{entry_in, matrix_in, line_in, Holds, Stored}

-- ---- Products that fit

-- ---- Matrices in lines

pub times-fit : (a k b m : ℕ) → a < m → b < m → m ≤ 2147483648 → k ≤ 4294967296 → a + k * b < 18446744073709551616
times-fit a k b m h l s f = let x : k * b ≤ 4294967296 * b = mul-le-mul_right b (omega arith) in omega arith

pub col-matrix_in : (W : List ℕ) (at d k : ℕ) → k < d → col (matrix_in W at d) k ≡ entry_in W (at + k)
unfolding col
col-matrix_in W at d k l = get_or-table (λ c. entry_in W (at + c)) d k (entry 0 0) l

pub act-in : (m : ℕ) (W : List ℕ) (at d : ℕ) (x : Entry) → x.row < d
    → act m (matrix_in W at d) x ≡ entry (entry_in W (at + x.row)).row (((entry_in W (at + x.row)).exp + x.exp) % m)
unfolding act
act-in m W at d x l = ap (λ (e : Entry). entry e.row ((e.exp + x.exp) % m)) (col-matrix_in W at d x.row l)

pub col-scale : (m e : ℕ) (M : Matrix) (k : ℕ) → k < length M → col (scale m e M) k ≡ entry (col M k).row (((col M k).exp + e) % m)
unfolding col scale
col-scale m e M k l = get_d_map (λ (x : Entry). entry x.row ((x.exp + e) % m)) M k (entry 0 0) (entry 0 0) l

-- ---- Iterates and words

pub iter-next : {A : Type 0} (f : A → A) (k : ℕ) (x : A) → iter f (k + 1) x ≡ f (iter f k x)
iter-next f k x = sym (iter-add f k 1 x) ∙ iter-suc f 0 (iter f k x) ∙ iter-zero f (f (iter f k x))

pub iter-once : {A : Type 0} (f : A → A) (x : A) → iter f 1 x ≡ f x
iter-once f x = iter-suc f 0 x ∙ iter-zero f (f x)

module _ (f : Entry → Entry) where
  pub turns-none : {x : Entry} {k : ℕ} → k ≡ 0 → x ≡ iter f k x
  turns-none {x} e = sym (ap (λ n. iter f n x) e ∙ iter-zero f x)

  pub turns-one : {x y : Entry} {k : ℕ} → k ≡ 1 → y ≡ f x → y ≡ iter f k x
  turns-one {x} e h = h ∙ sym (ap (λ n. iter f n x) e ∙ iter-once f x)

  -- i turns, of which the first made y, and one more
  pub turns_more : (y : Entry) {i : ℕ} {r s : Entry} → 1 ≤ i → r ≡ iter f (i - 1) y → s ≡ f r → s ≡ iter f (i + 1 - 1) y
  turns_more y {i} l e h = let n : i - 1 + 1 ≡ i + 1 - 1 = omega arith in h ∙ ap f e ∙ sym (iter-next f (i - 1) y) ∙ ap (λ n. iter f n y) n

  pub turns-all : {x y : Entry} {i k : ℕ} {r : Entry} → 1 ≤ i → i ≡ k → y ≡ f x → r ≡ iter f (i - 1) y → r ≡ iter f k x
  turns-all {x} {y} {i} {k} l e h g =
      let n : suc (i - 1) ≡ k = omega arith in
      g ∙ ap (iter f (i - 1)) h ∙ sym (iter-suc f (i - 1) x) ∙ ap (λ n. iter f n x) n

pub iter-fixed : (m r e : ℕ) (f : Entry → Entry) → ((t : ℕ) → f (entry r t) ≡ entry r ((t + e) % m)) → (k t : ℕ) → t < m
    → iter f k (entry r t) ≡ entry r ((t + k * e) % m)
iter-fixed m r e f h zero t l =
    let z : t + 0 * e ≡ t = omega arith in
    iter-zero f (entry r t) ∙ sym (ap (λ x. entry r (x % m)) z ∙ ap (entry r) (mod-eq_of_lt l))
iter-fixed m r e f h (suc k) t l =
    let z : t + e + k * e ≡ t + suc k * e = omega arith in
    iter-suc f k (entry r t) ∙ ap (iter f k) (h t) ∙ iter-fixed m r e f h k ((t + e) % m) (mod-lt (t + e) (omega arith))
    ∙ ap (entry r) (mod-add-mod (t + e) m (k * e)) ∙ ap (λ x. entry r (x % m)) z

module _ (m : ℕ) (W : List ℕ) (at d r : ℕ) (l : r < d) (fixed : (entry_in W (at + r)).row ≡ r) where
  pub act-fixed : (t : ℕ) → act m (matrix_in W at d) (entry r t) ≡ entry r ((t + (entry_in W (at + r)).exp) % m)
  act-fixed t =
      let z : (entry_in W (at + r)).exp + t ≡ t + (entry_in W (at + r)).exp = omega arith in
      act-in m W at d (entry r t) l ∙ ap₂ (λ x y. entry x (y % m)) fixed z

  pub plus-fixed : (c t : ℕ) → plus m c (act m (matrix_in W at d) (entry r t)) ≡ entry r ((t + ((entry_in W (at + r)).exp + c) % m) % m)
  unfolding plus
  plus-fixed c t =
      let e = (entry_in W (at + r)).exp in
      let z : t + e + c ≡ t + (e + c) = omega arith in
      ap (λ (x : Entry). entry x.row ((x.exp + c) % m)) (act-fixed t)
      ∙ ap (entry r) (mod-add-mod (t + e) m c ∙ ap (λ x. x % m) z ∙ sym (add-mod-mod t (e + c) m))

pub walk-zero : (m : ℕ) (M : ℕ → Matrix) (w : List ℕ) (x : Entry) → walk m M 0 (to_nf 0 w) x ≡ x
unfolding walk
walk-zero m M w x = refl

pub walk-next : (m : ℕ) (M : ℕ → Matrix) (w : List ℕ) (k : ℕ) (x : Entry)
    → walk m M (k + 1) (to_nf (k + 1) w) x ≡ iter (act m (M k)) (get_or w k 0) (walk m M k (to_nf k w) x)
unfolding walk to_nf
walk-next m M w k x = ap (λ n. walk m M n (to_nf n w) x) (add-one k)

module _ (m : ℕ) (M : ℕ → Matrix) (w : List ℕ) (x : Entry) where
  abbrev walked_to : ℕ → Entry
  walked_to i = walk m M i (to_nf i w) x

  walk-still : (i : ℕ) → get_or w i 0 ≡ 0 → walked_to i ≡ walked_to (suc i)
  walk-still i z = sym (ap walked_to (sym (add-one i)) ∙ walk-next m M w i x ∙ ap (λ k. iter (act m (M i)) k (walked_to i)) z ∙ iter-zero (act m (M i)) (walked_to i))

  walk-far : (n d : ℕ) → ((k : ℕ) → n ≤ k → k < n + d → get_or w k 0 ≡ 0) → walked_to n ≡ walked_to (n + d)
  walk-far n zero z = let e : n ≡ n + 0 = omega arith in ap walked_to e
  walk-far n (suc d) z =
      let e : suc (n + d) ≡ n + suc d = omega arith in
      walk-far n d (λ k a b. z k a (omega arith)) ∙ walk-still (n + d) (z (n + d) (omega arith) (omega arith)) ∙ ap walked_to e

  pub walk_ends : (i n : ℕ) → Top i w n → walk m M n (to_nf n w) x ≡ walk m M i (to_nf i w) x
  walk_ends i n T = let e : n + (i - n) ≡ i = omega (arith, T.less) in walk-far n (i - n) (λ k a b. T.rest k a (omega arith)) ∙ ap walked_to e

-- ---- Representations

pub stored-fewer : {m n : ℕ} {W : List ℕ} {D : Listed} (k : ℕ) → k ≤ n → Stored m n W D → Stored m k W D
stored-fewer k l S = record { positive = S.positive; degree = S.degree; holds = λ g h. S.holds g (omega arith) }

module _ {m g : ℕ} {W : List ℕ} {D : Listed} (S : Stored m (suc g) W D) where
  pub stored-line : 8 * (line_in D g + D.deg) ≤ length W
  stored-line = (S.holds g (le_refl _)).fits

  pub stored_at : {l : ℕ} → l ≡ line_in D g → Holds m W l D.deg
  stored_at e = subst (λ l. Holds m W l D.deg) (sym e) (S.holds g (le_refl _))

pub matrix-inside : (D : Listed) (n g words : ℕ) → g < n → 8 * line_in D n ≤ words → 8 * (line_in D g + D.deg) ≤ words
matrix-inside D n g words h k = let e : suc g * D.deg ≤ n * D.deg = mul-le-mul_right {m = suc g} {n = n} D.deg h in omega (arith, e)

pub all_lines : (D : Listed) (n x : ℕ) → x ≡ line_in D n → x - D.line ≡ n * D.deg
all_lines D n x e = omega (arith, e)
