-- Words and powers of a representation of degree 1, by exponents.
--
--   line-room, exponent_below      the line of a generator
--   sum-walks          a word by the sum of its exponents
--   single-power       the power relation by exponents
--   SummedLines, summed-none, summed-more, summed-all      the loop that sums them
--   product_small      what is added
use mathlib.Core.Path.{◌≡◌, refl, sym, ◌∙◌, ap, ap₂, subst}
use mathlib.Core.Bool.{true}
use mathlib.Core.List.{List}
use Prim.Native.Nat.{ℕ, zero, suc, ◌+◌, ◌*◌, ◌%◌, ◌≤◌, ◌<◌}
use native.Mathlib.Nat.{mod-lt, mod-add-mod, zero-mod, zero-add, mul-le-mul}
use native.Mathlib.Numerals.{add-one}
use native.Mathlib.Omega.{arith}
use lib.ListN.{length, get_or}
use borrow.Author.Tests.{eq-eqb}
use Rattle.definitions.specs.Lists.{iter}
use Rattle.definitions.specs.Presentation.{Presentation, to_nf}
use Rattle.definitions.specs.Monomial.{entry, act}
use Rattle.definitions.specs.Table.{EXP, word_at}
use Rattle.numbers.proofs.Sums.{sum-zero, sum-suc}
use Rattle.formulas.specs.Formulas.{walk}
use Rattle.columns.specs.Columns.{power_at}
use Rattle.level.specs.declared.Listed.{Listed}
use Rattle.level.specs.Stored.{line_in, generator_in, Stored}
use Rattle.level.proofs.Columns.{iter-fixed, act-fixed, walk-zero, walk-next}
use Rattle.seek.specs.declared.Scope.{Scope}
use Rattle.seek.specs.Among.{rep_in}
use Rattle.compare.specs.Shifted.{LineSame}
use Rattle.compare.proofs.Shifted.{same_none, same_more}
use Rattle.relations.specs.Said.{PowerOf}
use Rattle.relations.proofs.Kept.{entries-exp, power-moved}
use Rattle.check_single.specs.Value.{word_sum, LinesValue}

module _ {m n : ℕ} {T : List ℕ} {D : Listed} (S : Stored m n T D) (one : D.deg ≡ 1) where
  line : (k : ℕ) → line_in D k + 0 ≡ D.line + k
  line k = omega (arith, ap (λ d. k * d) one)

  pub line-room : (k : ℕ) → k < n → 8 * (D.line + k) + 8 ≤ length T
  line-room k l = omega (arith, (S.holds k l).fits, line k, one)

  pub exponent_below : (k : ℕ) → k < n → word_at T (D.line + k) EXP < m
  exponent_below k l = subst (λ a. word_at T a EXP < m) (line k) ((S.holds k l).valid 0 S.positive).exp

  acts : (k : ℕ) → k < n → (t : ℕ) → act m (generator_in T D k) (entry 0 t) ≡ entry 0 ((t + word_at T (D.line + k) EXP) % m)
  acts k l t =
      let r = ((S.holds k l).valid 0 S.positive).row in
      act-fixed m T (line_in D k) D.deg 0 S.positive (omega (arith, r, one)) t ∙ ap (λ a. entry 0 ((t + word_at T a EXP) % m)) (line k)

  turns : (k : ℕ) → k < n → (p t : ℕ) → t < m → iter (act m (generator_in T D k)) p (entry 0 t) ≡ entry 0 ((t + p * word_at T (D.line + k) EXP) % m)
  turns k l p t h = iter-fixed m 0 (word_at T (D.line + k) EXP) (act m (generator_in T D k)) (acts k l) p t h

  module _ (w : List ℕ) (pos : 0 < m) where
    value_none : entry 0 (0 % m) ≡ walk m (generator_in T D) 0 (to_nf 0 w) (entry 0 0)
    value_none = ap (entry 0) (zero-mod m) ∙ sym (walk-zero m (generator_in T D) w (entry 0 0))

    value-more : (k y : ℕ) → k < n → entry 0 (y % m) ≡ walk m (generator_in T D) k (to_nf k w) (entry 0 0)
        → entry 0 ((y + get_or w k 0 * word_at T (D.line + k) EXP) % m) ≡ walk m (generator_in T D) (k + 1) (to_nf (k + 1) w) (entry 0 0)
    value-more k y l h =
        sym (walk-next m (generator_in T D) w k (entry 0 0) ∙ ap (iter (act m (generator_in T D k)) (get_or w k 0)) (sym h)
        ∙ turns k l (get_or w k 0) (y % m) (mod-lt y pos) ∙ ap (entry 0) (mod-add-mod y m (get_or w k 0 * word_at T (D.line + k) EXP)))

    pub sum-walks : (k : ℕ) → k ≤ n → entry 0 (word_sum T D.line w k % m) ≡ walk m (generator_in T D) k (to_nf k w) (entry 0 0)
    sum-walks zero l = ap (λ y. entry 0 (y % m)) (sum-zero _) ∙ value_none
    sum-walks (suc k) l =
        ap (λ y. entry 0 (y % m)) (sum-suc k _) ∙ value-more k (word_sum T D.line w k) l (sum-walks k (omega arith))
        ∙ ap (λ k. walk m (generator_in T D) k (to_nf k w) (entry 0 0)) (add-one k)

module _ (s : Scope) {T : List ℕ} {D : Listed} (S : Stored s.m s.gens T D) (one : D.deg ≡ 1) (pos : 0 < s.m) where
  pub single-power : (P : Presentation) (j p y : ℕ) (u : List ℕ) → j < s.gens → y ≡ word_sum T D.line u j
      → (p * word_at T (D.line + j) EXP) % s.m ≡ y % s.m → PowerOf j p u P → power_at P s.m (rep_in T D) j 0 ≡ true
  single-power P j p y u l ys q is =
      let m : ℕ = s.m in
      let z : ℕ = y % m in
      let moved : iter (act m (generator_in T D j)) p (entry 0 0) ≡ entry 0 z = turns S one j l p 0 pos ∙ ap (entry 0) (ap (λ x. x % m) (zero-add _) ∙ q) in
      let word : entry 0 z ≡ walk m (generator_in T D) j (to_nf j u) (entry 0 0) = ap (λ y. entry 0 (y % m)) ys ∙ sum-walks S one u pos j (omega arith) in
      sym (power-moved m T D P j p j 0 u (entry 0 z) (entry 0 z) refl (sym moved) word is) ∙ sym (entries-exp (entry 0 z) (entry 0 z) refl) ∙ eq-eqb z z refl

-- ---- The loop

-- the first k lines are the same, and y is their sum so far
pub record SummedLines (T : List ℕ) (at src k x : ℕ) (u : List ℕ) (y : ℕ) : Type 0 where
  pub is : LinesValue T at src k x u y
  pub small : y ≤ k * 281474976710656

module _ {T : List ℕ} {at src x : ℕ} {u : List ℕ} where
  pub summed-none : SummedLines T at src 0 x u 0
  summed-none = record { is = record { same = same_none; value = sym (sum-zero _) }; small = omega arith }

  pub summed-more : {k y q : ℕ} → SummedLines T at src k x u y → LineSame T (at + k) (src + k) x → q ≡ get_or u k 0 * word_at T (at + k) EXP
      → q ≤ 281474976710656 → SummedLines T at src (k + 1) x u (y + q)
  summed-more {k} {y} {q} H L e l = record {
    is = record {
      same = same_more H.is.same L;
      value = ap₂ (λ a b. a + b) H.is.value e ∙ sym (sum-suc k _) ∙ ap (word_sum T at u) (sym (add-one k));
    };
    small = omega (arith, H.small, l);
  }

  pub summed-all : {k n y : ℕ} → SummedLines T at src k x u y → k ≡ n → LinesValue T at src n x u y
  summed-all {k} {n} {y} H e = subst (λ k. LinesValue T at src k x u y) e H.is

-- a product of an exponent that is not too large and any other
pub product_small : {a b : ℕ} → a ≤ 65535 → b < 4294967296 → a * b ≤ 281474976710656
product_small {a} {b} l h =
    let q : a * b ≤ 65536 * 4294967296 = mul-le-mul {n₁ = a} {m₁ = b} {n₂ = 65536} {m₂ = 4294967296} (omega arith) (omega arith) in
    omega (arith, q)
