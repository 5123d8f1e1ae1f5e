-- Blocks under the generator on top: it takes a block onto a block, and basis indices of two blocks with one reference
-- are separated exactly if it fixes both blocks with different exponents.
--
--   Z                          the matrix of the generator on top
--   same_block                 a basis index of a block is reached by the group below
--   step_block, power-block    the generator takes blocks to blocks
--   power-home                 its p-th power takes every block to itself
--   short-fixed                a power below the p-th that fixes a block: the generator fixes it
--   fixed_back, fixed-power, powers-differ      powers and blocks that stay or move
--   moved-together             at a block that moves nothing separates what has one base
--   base_step, ratio-step      the generator fixes the equality of bases, and the difference of exponents
--   fixed-separates            different exponents separate
--   fixed-together             equal exponents do not
--   reaches, reached-power     a basis index is reached exactly if a power of the generator reaches its block
use mathlib.Core.Path.{◌≡◌, refl, sym, ◌∙◌, ap, ap₂, subst}
use mathlib.Core.Logic.{by_cases}
use Prim.Native.Nat.{ℕ, zero, suc, ◌+◌, ◌*◌ as ◌·◌, ◌-◌, ◌≤◌, ◌<◌, ◌∣◌}
use native.Mathlib.Nat.{mod-eq_of_lt, mod-eq-zero_of_dvd}
use native.Mathlib.Omega.{arith}
use native.Mathlib.Decide.{ℕ_discrete}
use Rattle.definitions.specs.Lists.{iter}
use Rattle.definitions.specs.Presentation.{Mul, power}
use Rattle.group.proofs.Values.{power_zero, power-suc, power-one, power-add, power-hom}
use Rattle.numbers.proofs.Iterates.{iter-out}
use Rattle.monomial.specs.Exponents.{Exponents}
use Rattle.monomial.specs.Maps.{Map, maps, Inverse}
use Rattle.monomial.specs.Families.{Separated, Family}
use Rattle.monomial.proofs.Exponents.{cancel, rcomm}
use Rattle.monomial.proofs.Maps.{pair, at-column, at_mul, at_one, maps-laws, inverse-root, inverse-injective}
use Rattle.clifford.specs.Extension.{Extension}
use Rattle.clifford.proofs.Defect.{image-inverse}
use Rattle.separation.specs.Blocked.{Blocked}

module _ {G G⁺ : Type 0} {𝓖 : Mul G} {𝓖⁺ : Mul G⁺} {conj : ℕ → G → G} {conj⁺ : ℕ → G⁺ → G⁺} {i n k : ℕ} (S : Extension 𝓖 𝓖⁺ conj conj⁺ i n)
    {E : Type 0} {𝓔 : Exponents E} {Ω : Type 0} (F : Family 𝓔 Ω 𝓖 conj i k) (B : Blocked S 𝓔 F) where
  open S use {p, low, top, exponent, rest, u}
  open 𝓔 use {add, nil}
  open B use {Ω⁺, d⁺, base, block, known, over_base, over_block, over_exponent}

  infixl 70 ◌*◌
  open maps 𝓔 Ω⁺ use {mul as ◌*◌}
  open maps-laws 𝓔 {Ω = Ω⁺} use {assoc, idl, idr}

  abbrev f : G → G
  f = conj i

  abbrev pub Z : Map 𝓔 Ω⁺
  Z = d⁺ top

  abbrev pub Zᵏ : ℕ → Map 𝓔 Ω⁺
  Zᵏ = power (maps 𝓔 Ω⁺) Z

  abbrev l : G → Map 𝓔 Ω⁺
  l h = d⁺ (low h)

  -- ---- The group below

  Z-past : (h : G) → Z * l (f h) ≡ l h * Z
  Z-past h = sym (B.hom.on_mul _ _) ∙ ap d⁺ (sym (S.low_top h)) ∙ B.hom.on_mul _ _

  Zᵏ-zero : (x : Ω⁺) → Zᵏ zero x ≡ (x, nil)
  Zᵏ-zero x = at-column 𝓔 (power_zero (maps 𝓔 Ω⁺) Z) x ∙ at_one 𝓔 x

  Zᵏ-suc : (e : ℕ) (x : Ω⁺) → Zᵏ (suc e) x ≡ ((Z (Zᵏ e x).0).0, add (Z (Zᵏ e x).0).1 (Zᵏ e x).1)
  Zᵏ-suc e x = at-column 𝓔 (power-suc (maps 𝓔 Ω⁺) Z e) x ∙ at_mul 𝓔 Z (Zᵏ e) x

  element : (w : G⁺) → d⁺ w ≡ Zᵏ (exponent w) * l (rest w)
  element w = ap d⁺ (S.decompose w) ∙ B.hom.on_mul _ _ ∙ ap (λ z. z * l (rest w)) (power-hom B.hom top (exponent w))

  -- a basis index of the block of x, from x
  pub same_block : (x y : Ω⁺) → block x ≡ block y → (h : G) × ((d⁺ (low h) x).0 ≡ y)
  same_block x y q =
      let (h, e) = F.reached (base x) (base y) (B.one_rep x y q) in
      (h, known _ y (over_base h x ∙ e) (over_block h x ∙ q))

  -- f is onto: it has finite order
  before : (h : G) → (g : G) × (f g ≡ h)
  before h =
      let N : ℕ = S.period i in
      let e : suc (N - 1) ≡ N = omega (arith, S.period_pos i) in
      (iter f (N - 1) h, sym (iter-out f (N - 1) h) ∙ ap (λ k. iter f k h) e ∙ S.conj_period i (omega arith) S.in_range h)

  -- ---- Blocks

  pub step_block : (x y : Ω⁺) → block x ≡ block y → block (Z x).0 ≡ block (Z y).0
  step_block x y q =
      let (h, e) = same_block x y q in
      let (g, fg) = before h in
      sym (over_block g (Z x).0)
      ∙ ap (λ z. block z.0) (sym (at_mul 𝓔 (l g) Z x) ∙ at-column 𝓔 (sym (Z-past g) ∙ ap (λ s. Z * l s) fg) x ∙ at_mul 𝓔 Z (l h) x)
      ∙ ap (λ s. block (Z s).0) e

  pub power-block : (e : ℕ) (x y : Ω⁺) → block x ≡ block y → block (Zᵏ e x).0 ≡ block (Zᵏ e y).0
  power-block zero x y q = rw (Zᵏ-zero x, Zᵏ-zero y) q
  power-block (suc e) x y q = rw (Zᵏ-suc e x, Zᵏ-suc e y) (step_block _ _ (power-block e x y q))

  pub power-home : (x : Ω⁺) → block (Zᵏ p x).0 ≡ block x
  power-home x = ap (λ z. block z.0) (at-column 𝓔 (sym (power-hom B.hom top p) ∙ ap d⁺ S.top_power) x) ∙ over_block u x

  power-more : (a b : ℕ) (x : Ω⁺) → (Zᵏ (a + b) x).0 ≡ (Zᵏ a (Zᵏ b x).0).0
  power-more a b x = ap (λ z. z.0) (at-column 𝓔 (power-add (maps-laws 𝓔) Z a b) x ∙ at_mul 𝓔 (Zᵏ a) (Zᵏ b) x)

  -- a power that fixes a block fixes it again and again
  again : (e s : ℕ) (x : Ω⁺) → block (Zᵏ e x).0 ≡ block x → block (Zᵏ (e · s) x).0 ≡ block x
  again e zero x q = let z : e · 0 ≡ 0 = omega arith in ap (λ k. block (Zᵏ k x).0) z ∙ ap (λ z. block z.0) (Zᵏ-zero x)
  again e (suc s) x q =
      let z : e · suc s ≡ e + e · s = omega arith in
      ap (λ k. block (Zᵏ k x).0) z ∙ ap block (power-more e (e · s) x) ∙ power-block e _ x (again e s x q) ∙ q

  -- a block that stays, stays under every power
  pub fixed-power : (x : Ω⁺) → block (Z x).0 ≡ block x → (e : ℕ) → block (Zᵏ e x).0 ≡ block x
  fixed-power x q zero = ap (λ z. block z.0) (Zᵏ-zero x)
  fixed-power x q (suc e) = ap (λ z. block z.0) (Zᵏ-suc e x) ∙ step_block _ x (fixed-power x q e) ∙ q

  pub short-fixed : (e : ℕ) → 0 < e → e < p → (x : Ω⁺) → block (Zᵏ e x).0 ≡ block x → block (Z x).0 ≡ block x
  short-fixed e a b x q =
      let nd : ¬ (p ∣ e) = λ d. let z : e ≡ 0 = sym (mod-eq_of_lt b) ∙ mod-eq-zero_of_dvd p d in omega arith in
      let (e', s, r) = B.units e nd in
      let z : e · e' ≡ 1 + p · s = omega (arith, r) in
      ap (λ (M : Map 𝓔 Ω⁺). block (M x).0) (sym (power-one (maps-laws 𝓔) Z))
      ∙ sym (power-block 1 _ x (again p s x (power-home x))) ∙ ap block (sym (power-more 1 (p · s) x)) ∙ ap (λ k. block (Zᵏ k x).0) (sym z) ∙ again e e' x q

  -- where a power maps to a block that stays, the block stayed
  pub fixed_back : (e : ℕ) → e ≤ p → (x : Ω⁺) → block (Z (Zᵏ e x).0).0 ≡ block (Zᵏ e x).0 → block (Z x).0 ≡ block x
  fixed_back e a x q =
      let y : Ω⁺ = (Zᵏ e x).0 in
      let z : p - e + e ≡ p = omega arith in
      let same : block x ≡ block y = sym (power-home x) ∙ ap (λ k. block (Zᵏ k x).0) (sym z) ∙ ap block (power-more (p - e) e x)
      ∙ fixed-power y q (p - e) in
      step_block x y same ∙ q ∙ sym same

  -- the powers below the p-th take a block that moves to different blocks
  pub powers-differ : (x : Ω⁺) → ¬ (block (Z x).0 ≡ block x) → (e e' : ℕ) → e < e' → e' < p → block (Zᵏ e x).0 ≡ block (Zᵏ e' x).0 → ⊥
  powers-differ x mv e e' a b q =
      let z : e' - e + e ≡ e' = omega arith in
      mv (fixed_back e (omega arith) x
      (short-fixed (e' - e) (omega arith) (omega arith) (Zᵏ e x).0 (ap block (sym (power-more (e' - e) e x)) ∙ ap (λ k. block (Zᵏ k x).0) z ∙ sym q)))

  -- a basis index is mapped to the block to which the power of the generator maps it
  pub reached-power : (w : G⁺) (x : Ω⁺) → block (Zᵏ (exponent w) x).0 ≡ block (d⁺ w x).0
  reached-power w x = sym (power-block (exponent w) _ x (over_block (rest w) x))
      ∙ ap (λ z. block z.0) (sym (at_mul 𝓔 (Zᵏ (exponent w)) (l (rest w)) x) ∙ at-column 𝓔 (sym (element w)) x)

  -- ---- A block that moves

  -- what fixes a basis index of a block that moves lies in the group below
  moved-low : (w : G⁺) (x : Ω⁺) → ¬ (block (Z x).0 ≡ block x) → (d⁺ w x).0 ≡ x → d⁺ w ≡ d⁺ (low (rest w))
  moved-low w x mv q =
      let none : exponent w ≡ 0 = by_cases (ℕ_discrete (exponent w) 0) (λ e. e)
      (λ e. absurd (mv (short-fixed (exponent w) (omega arith) (B.exponent_below w) x (reached-power w x ∙ ap block q)))) in
      element w ∙ ap (λ e. Zᵏ e * l (rest w)) none ∙ ap (λ z. z * l (rest w)) (power_zero (maps 𝓔 Ω⁺) Z) ∙ idl _

  pub moved-together : (x y : Ω⁺) → base x ≡ base y → ¬ (block (Z x).0 ≡ block x) → ¬ Separated 𝓔 Ω⁺ d⁺ x y
  moved-together x y q mv s =
      let below : d⁺ s.by ≡ l (rest s.by) = moved-low s.by x mv (ap (λ z. z.0) s.fixes) in
      let low-exponent = over_exponent (rest s.by) x ∙ ap (λ a. (F.d (rest s.by) a).1) q ∙ sym (over_exponent (rest s.by) y) in
      s.differ (sym (ap (λ z. z.1) s.fixes) ∙ ap (λ (M : Map 𝓔 Ω⁺). (M x).1) below ∙ low-exponent ∙ ap (λ (M : Map 𝓔 Ω⁺). (M y).1) (sym below)
      ∙ ap (λ z. z.1) s.fixes')

  -- what fixes a base fixes what lies over it
  fixes-over : (x : Ω⁺) (h : G) (t : E) → F.d h (base x) ≡ (base x, t) → l h x ≡ (x, t)
  fixes-over x h t q = pair 𝓔 (known _ x (over_base h x ∙ ap (λ z. z.0) q) (over_block h x)) (over_exponent h x ∙ ap (λ z. z.1) q)

  -- what has different bases is separated by the group below
  pub base-separates : (x y : Ω⁺) → ¬ (base x ≡ base y) → Separated 𝓔 Ω⁺ d⁺ x y
  base-separates x y ne =
      let s = F.separated (base x) (base y) ne in
      record {
        by = low s.by;
        x = s.x;
        y = s.y;
        fixes = fixes-over x s.by s.x s.fixes;
        fixes' = fixes-over y s.by s.y s.fixes';
        differ = s.differ;
      }

  -- ---- Two basis indices with one base

  Z-inverse : Inverse (maps 𝓔 Ω⁺) Z
  Z-inverse = inverse-root (maps-laws 𝓔) Z p (omega (arith, S.two))
      (subst (Inverse (maps 𝓔 Ω⁺)) (sym (sym (power-hom B.hom top p) ∙ ap d⁺ S.top_power)) (image-inverse B.hom (low u) (low (S.inv u))
      (sym (S.low_hom.on_mul _ _) ∙ ap low (S.inv_right u) ∙ S.low_hom.on_one)
      (sym (S.low_hom.on_mul _ _) ∙ ap low (S.inv_left u) ∙ S.low_hom.on_one)))

  -- the images of two with one base have one base
  pub base_step : (x y : Ω⁺) → base x ≡ base y → base (Z x).0 ≡ base (Z y).0
  base_step x y q = by_cases (F.decide (base (Z x).0) (base (Z y).0)) (λ e. e) (λ e.
      let s = F.separated _ _ e in
      absurd (s.differ (ap (λ z. z.1) (sym (pull x s.by s.x s.fixes) ∙ ap (F.d (f s.by)) q ∙ pull y s.by s.y s.fixes'))))
    where
      -- what fixes the image of x, conjugated, fixes x
      pull : (x : Ω⁺) (h : G) (t : E) → F.d h (base (Z x).0) ≡ (base (Z x).0, t) → F.d (f h) (base x) ≡ (base x, t)
      pull x h t e =
          let x₁ : Ω⁺ = (Z x).0 in
          let line : ◌≡◌ {A = Ω⁺ × E} ((Z (l (f h) x).0).0, add (Z (l (f h) x).0).1 (l (f h) x).1) (x₁, add t (Z x).1)
          = sym (at_mul 𝓔 Z (l (f h)) x) ∙ at-column 𝓔 (Z-past h) x ∙ at_mul 𝓔 (l h) Z x ∙ ap (λ z. (z.0, add z.1 (Z x).1)) (fixes-over x₁ h t e) in
          let stays : (l (f h) x).0 ≡ x = inverse-injective 𝓔 Z Z-inverse _ x (ap (λ z. z.0) line) in
          let exps : (l (f h) x).1 ≡ t = cancel 𝓔 (Z x).1 _ _ (ap (λ z. add (Z z).1 (l (f h) x).1) (sym stays) ∙ ap (λ z. z.1) line ∙ 𝓔.comm _ _) in
          pair 𝓔 (sym (over_base (f h) x) ∙ ap base stays) (sym (over_exponent (f h) x) ∙ exps)

  -- the difference of the exponents is the same all over two blocks
  pub ratio-step : (x y x' y' : Ω⁺) → base x ≡ base y → base x' ≡ base y' → block x ≡ block x' → block y ≡ block y'
      → add (Z x').1 (Z y).1 ≡ add (Z y').1 (Z x).1
  ratio-step x y x' y' q q' bx by =
      let (h, e) = same_block x x' bx in
      let (g, fg) = before h in
      let ey : (l h y).0 ≡ y' = known _ y' (over_base h y ∙ ap (λ a. (F.d h a).0) (sym q) ∙ sym (over_base h x) ∙ ap base e ∙ q') (over_block h y ∙ by) in
      let t : E = (F.d h (base x)).1 in
      let v : E = (F.d g (base (Z x).0)).1 in
      let line_x : add (Z x').1 t ≡ add v (Z x).1 = at-image x x' h g fg e in
      let line-y : add (Z y').1 t ≡ add v (Z y).1
      = ap (λ a. add (Z y').1 (F.d h a).1) q ∙ at-image y y' h g fg ey ∙ ap (λ a. add (F.d g a).1 (Z y).1) (sym (base_step x y q)) in
      cancel 𝓔 t _ _ (move t (Z x').1 (Z y).1 ∙ ap (λ z. add z (Z y).1) line_x ∙ rcomm 𝓔 v (Z x).1 (Z y).1
      ∙ ap (λ z. add z (Z x).1) (sym line-y) ∙ sym (move t (Z y').1 (Z x).1))
    where
      move : (t a b : E) → add t (add a b) ≡ add (add a t) b
      move t a b = simp (𝓔.assoc, 𝓔.comm)

      at-image : (x x' : Ω⁺) (h g : G) → f g ≡ h → (l h x).0 ≡ x' → add (Z x').1 (F.d h (base x)).1 ≡ add (F.d g (base (Z x).0)).1 (Z x).1
      at-image x x' h g fg e =
          ap₂ (λ z t. add (Z z).1 t) (sym e) (sym (over_exponent h x))
          ∙ ap (λ z. z.1) (sym (at_mul 𝓔 Z (l h) x) ∙ at-column 𝓔 (ap (λ s. Z * l s) (sym fg) ∙ Z-past g) x ∙ at_mul 𝓔 (l g) Z x)
          ∙ ap (λ t. add t (Z x).1) (over_exponent g (Z x).0)

  -- ---- Two blocks that stay

  pub fixed-separates : (x y : Ω⁺) → base x ≡ base y → block (Z x).0 ≡ block x → block (Z y).0 ≡ block y → ¬ ((Z x).1 ≡ (Z y).1) → Separated 𝓔 Ω⁺ d⁺ x y
  fixed-separates x y q bx by ne =
      let (h, e) = F.reached (base (Z x).0) (base x) (B.one_rep _ x bx) in
      let t : E = (F.d h (base (Z x).0)).1 in
      record {
        by = 𝓖⁺.mul (low h) top;
        x = add t (Z x).1;
        y = add t (Z y).1;
        fixes = at x h (base x) (base (Z x).0) refl refl bx e;
        fixes' = at y h (base x) (base (Z x).0) (sym q) (sym (base_step x y q)) by e;
        differ = λ z. ne (cancel 𝓔 t _ _ z);
      }
    where
      at : (x : Ω⁺) (h : G) (a b : Ω) → base x ≡ a → base (Z x).0 ≡ b → block (Z x).0 ≡ block x → (F.d h b).0 ≡ a
          → d⁺ (𝓖⁺.mul (low h) top) x ≡ (x, add (F.d h b).1 (Z x).1)
      at x h a b qa qb bx e =
          at-column 𝓔 (B.hom.on_mul (low h) top) x ∙ at_mul 𝓔 (l h) Z x
          ∙ pair 𝓔 (known _ x (over_base h (Z x).0 ∙ ap (λ z. (F.d h z).0) qb ∙ e ∙ sym qa) (over_block h (Z x).0 ∙ bx))
          (ap (λ t. add t (Z x).1) (over_exponent h (Z x).0 ∙ ap (λ z. (F.d h z).1) qb))

  -- x' and y' lie in the blocks of x and y, and have one base
  record Pair (x y x' y' : Ω⁺) : Type 0 where
    one_base : base x' ≡ base y'
    in_x : block x' ≡ block x
    in_y : block y' ≡ block y

  module _ (x y : Ω⁺) (q : base x ≡ base y) (bx : block (Z x).0 ≡ block x) (by : block (Z y).0 ≡ block y) (same : (Z x).1 ≡ (Z y).1) where
    -- the generator acts alike on such pairs
    pair_step : (x' y' : Ω⁺) → Pair x y x' y' → Pair x y (Z x').0 (Z y').0 × ((Z x').1 ≡ (Z y').1)
    pair_step x' y' P = (
      record { one_base = base_step x' y' P.one_base; in_x = step_block x' x P.in_x ∙ bx; in_y = step_block y' y P.in_y ∙ by },
      cancel 𝓔 (Z x).1 _ _ (𝓔.comm _ _ ∙ ap (add (Z x').1) same ∙ ratio-step x y x' y' q P.one_base (sym P.in_x) (sym P.in_y) ∙ 𝓔.comm _ _),
    )

    pair-power : (e : ℕ) (x' y' : Ω⁺) → Pair x y x' y' → Pair x y (Zᵏ e x').0 (Zᵏ e y').0 × ((Zᵏ e x').1 ≡ (Zᵏ e y').1)
    pair-power zero x' y' P = rw (Zᵏ-zero x', Zᵏ-zero y') (P, refl)
    pair-power (suc e) x' y' P =
        let (P₁, s₁) = pair-power e x' y' P in
        let (P₂, s₂) = pair_step _ _ P₁ in
        rw (Zᵏ-suc e x', Zᵏ-suc e y') (P₂, ap₂ add s₂ s₁)

    pub fixed-together : ¬ Separated 𝓔 Ω⁺ d⁺ x y
    fixed-together s =
        let w : G⁺ = s.by in
        let P : Pair x y (l (rest w) x).0 (l (rest w) y).0 = record {
          one_base = over_base (rest w) x ∙ ap (λ a. (F.d (rest w) a).0) q ∙ sym (over_base (rest w) y);
          in_x = over_block (rest w) x;
          in_y = over_block (rest w) y;
        } in
        let line : (x : Ω⁺) → (d⁺ w x).1 ≡ add (Zᵏ (exponent w) (l (rest w) x).0).1 (l (rest w) x).1
        = λ x. ap (λ z. z.1) (at-column 𝓔 (element w) x ∙ at_mul 𝓔 (Zᵏ (exponent w)) (l (rest w)) x) in
        s.differ (sym (ap (λ z. z.1) s.fixes) ∙ line x
        ∙ ap₂ add (pair-power (exponent w) _ _ P).1 (over_exponent (rest w) x ∙ ap (λ a. (F.d (rest w) a).1) q ∙ sym (over_exponent (rest w) y))
        ∙ sym (line y) ∙ ap (λ z. z.1) s.fixes')

  -- ---- Reached

  pub reaches : (e : ℕ) (x y : Ω⁺) → block (Zᵏ e x).0 ≡ block y → (w : G⁺) × ((d⁺ w x).0 ≡ y)
  reaches e x y q =
      let (h, r) = same_block (Zᵏ e x).0 y q in (
        𝓖⁺.mul (low h) (power 𝓖⁺ top e),
        ap (λ z. z.0) (at-column 𝓔 (B.hom.on_mul _ _ ∙ ap (λ z. l h * z) (power-hom B.hom top e)) x ∙ at_mul 𝓔 (l h) (Zᵏ e) x) ∙ r,
      )
