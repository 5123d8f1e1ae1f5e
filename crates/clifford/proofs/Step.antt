-- One step up the chief series: basis indices above those of the level below, distinguished by the number of the extension,
-- are a family of the next level as soon as its matrices and intertwiners are those of the level below, times scalars
-- that close.
--
--   Roots             an exponent ε with p different multiples
--   numbered κ        the scalars of the extension of number κ; numbered-zero: those of number 0
--   raised-numbered   what an element does there, beside what it does in extension 0
--   StepUp              what the next level is, over the level below
--   next              a Step is a family of the next level
use mathlib.Core.Path.{◌≡◌, refl, sym, ◌∙◌, ap, ap₂, subst, fun_ext}
use mathlib.Core.Logic.{by_cases}
use Prim.Native.Nat.{ℕ, suc, ◌≤◌, ◌<◌}
use native.Mathlib.Omega.{arith}
use native.Mathlib.Decide.{ℕ_discrete}
use Rattle.definitions.specs.Lists.{iter}
use Rattle.definitions.specs.Presentation.{Mul, power}
use Rattle.group.specs.Models.{Hom}
use Rattle.group.proofs.Values.{power-ind, power-hom}
use Rattle.monomial.specs.Exponents.{Exponents, total, times}
use Rattle.monomial.specs.Maps.{Map, compose, maps, diagonal}
use Rattle.monomial.specs.Families.{Separated, Family}
use Rattle.monomial.specs.Over.{At, Over}
use Rattle.monomial.proofs.Exponents.{idr, lcomm, rcomm, cancel, total-zero, total-add, times-nil, times-swap}
use Rattle.monomial.proofs.Maps.{pair, at-column, at_mul, mul_at, maps-laws, power-diagonal}
use Rattle.monomial.proofs.Over.{over-one, over-mul, over-same}
use Rattle.monomial.proofs.Schur.{rep-power}
use Rattle.clifford.specs.Extension.{Extension}
use Rattle.clifford.proofs.Defect.{defect, X-maps}
use Rattle.clifford.proofs.Top.{Normed, Y, Y-at, Y-maps, raised, raised-hom, raised-low, raised-top, raised-maps, φ, φ-is, φ-maps, q, q-eq}

module _ {G G⁺ : Type 0} {𝓖 : Mul G} {𝓖⁺ : Mul G⁺} {conj : ℕ → G → G} {conj⁺ : ℕ → G⁺ → G⁺} {i n : ℕ} (S : Extension 𝓖 𝓖⁺ conj conj⁺ i n)
    {E : Type 0} {𝓔 : Exponents E} {Ω : Type 0} (F : Family 𝓔 Ω 𝓖 conj i n) (𝓢 : Normed S F) where
  infixl 70 ◌*◌
  open maps 𝓔 Ω use {mul as ◌*◌}
  open maps-laws 𝓔 {Ω = Ω} use {assoc}
  open 𝓔 use {add, nil}
  open F use {d, X, rep, target}
  open S use {p, low, top, exponent, shift, tail}
  open 𝓢 use {σ}

  abbrev pow : Map 𝓔 Ω → ℕ → Map 𝓔 Ω
  pow = power (maps 𝓔 Ω)

  abbrev τ : ℕ → ℕ
  τ = target i

  pub record Roots : Type 0 where
    pub ε : E
    pub ε-p : times 𝓔 p ε ≡ nil
    pub ε-injective : (κ μ : ℕ) → κ < p → μ < p → times 𝓔 κ ε ≡ times 𝓔 μ ε → κ ≡ μ

  module _ (R : Roots) where
    abbrev ε^ : ℕ → E
    ε^ κ = times 𝓔 κ R.ε

    -- ---- The extension of number κ

    unfoldable pub numbered : ℕ → Normed S F
    numbered κ = record {
      σ = λ r. add (σ r) (ε^ κ);
      norm = λ a.
          ap (λ s. add s (defect S F a)) (total-add 𝓔 (λ k. σ (iter τ k (rep a))) (λ k. ε^ κ) p
          ∙ ap (add (total 𝓔 (λ k. σ (iter τ k (rep a))) p)) (times-swap 𝓔 p κ R.ε ∙ ap (times 𝓔 κ) R.ε-p ∙ times-nil 𝓔 κ) ∙ idr 𝓔 _) ∙ 𝓢.norm a;
    }

    pub Y-numbered-at : (κ : ℕ) (a : Ω) → Y S F (numbered κ) a ≡ ((X i a).0, add (X i a).1 (add (σ (rep a)) (ε^ κ)))
    unfolding numbered
    Y-numbered-at κ a = Y-at S F (numbered κ) a

    -- number 0 adds nothing
    pub numbered-zero : raised S F (numbered 0) ≡ raised S F 𝓢
    unfolding raised
    numbered-zero = fun_ext
        (λ x. ap (λ y. pow y (exponent x) * d (S.rest x))
        (fun_ext (λ a. Y-numbered-at 0 a ∙ pair 𝓔 refl (ap (add (X i a).1) (ap (add (σ (rep a))) (total-zero 𝓔 (λ k. R.ε)) ∙ idr 𝓔 _))
        ∙ sym (Y-at S F 𝓢 a))))

    Y-numbered : (κ : ℕ) → Y S F (numbered κ) ≡ Y S F 𝓢 * diagonal 𝓔 Ω (λ a. ε^ κ)
    unfolding numbered Y maps compose diagonal
    Y-numbered κ = fun_ext (λ a. pair 𝓔 refl (sym (𝓔.assoc _ _ _)))

    power-numbered : (κ k : ℕ) (a : Ω) → pow (Y S F (numbered κ)) k a ≡ ((pow (Y S F 𝓢) k a).0, add (times 𝓔 k (ε^ κ)) (pow (Y S F 𝓢) k a).1)
    power-numbered κ k a = ap (λ f. pow f k a) (Y-numbered κ) ∙ power-diagonal 𝓔 (Y S F 𝓢) (λ a. ε^ κ) k a

    -- a power of the new matrix, behind an element of the group
    behind-numbered : (κ k : ℕ) (x : G) (a : Ω)
        → (pow (Y S F (numbered κ)) k * d x) a ≡ (((pow (Y S F 𝓢) k * d x) a).0, add (times 𝓔 k (ε^ κ)) ((pow (Y S F 𝓢) k * d x) a).1)
    behind-numbered κ k x a =
        let v : Ω × E = d x a in
        at_mul 𝓔 _ (d x) a ∙ ap (λ s. (s.0, add s.1 v.1)) (power-numbered κ k v.0) ∙ pair 𝓔 refl (𝓔.assoc _ _ _)
        ∙ ap (λ s. (s.0, add (times 𝓔 k (ε^ κ)) s.1)) (sym (at_mul 𝓔 (pow (Y S F 𝓢) k) (d x) a))

    pub raised-numbered : (κ : ℕ) (x : G⁺) (a : Ω)
        → raised S F (numbered κ) x a ≡ ((raised S F 𝓢 x a).0, add (times 𝓔 (S.exponent x) (times 𝓔 κ R.ε)) (raised S F 𝓢 x a).1)
    unfolding raised
    raised-numbered κ x a = behind-numbered κ (exponent x) (S.rest x) a

    φ-numbered : (j : ℕ) (ij : i < j) (jn : j < n) (κ : ℕ) (a : Ω)
        → φ S F (numbered κ) j ij jn a ≡ ((φ S F 𝓢 j ij jn a).0, add (times 𝓔 (shift j) (ε^ κ)) (φ S F 𝓢 j ij jn a).1)
    φ-numbered j ij jn κ a =
        at-column 𝓔 (φ-is S F (numbered κ) j ij jn) a ∙ behind-numbered κ (shift j) (tail j) a
        ∙ ap (λ s. (s.0, add (times 𝓔 (shift j) (ε^ κ)) s.1)) (at-column 𝓔 (sym (φ-is S F 𝓢 j ij jn)) a)

    -- ---- The next level

    module _ {Ω' : Type 0} (base : Ω' → Ω) (number : Ω' → ℕ) (d' : G⁺ → Map 𝓔 Ω') (X' : ℕ → Map 𝓔 Ω') (rep' : Ω' → ℕ) (target' : ℕ → ℕ → ℕ) where
      abbrev at : Ω' × E → Ω → ℕ → E → Type 0
      at = At 𝓔 base number

      -- c j r κ is the scalar of the intertwiner of generator j above representation r with number κ, and ν j r κ the
      -- number of the extension to which it maps the extension of number κ; j is above i
      pub record StepUp : Type 0 where
        pub c : (j : ℕ) → i < j → j < n → ℕ → ℕ → E
        pub ν : (j : ℕ) → i < j → j < n → ℕ → ℕ → ℕ
        pub decide : Discrete Ω'
        pub injective : (x y : Ω') → base x ≡ base y → number x ≡ number y → x ≡ y
        pub small : (x : Ω') → number x < p
        pub plain : (x : Ω') → ¬ (τ (rep (base x)) ≡ rep (base x)) → number x ≡ 0
        pub over : (x : G⁺) → Over 𝓔 base number (λ κ. raised S F (numbered κ) x) (d' x)
        pub up : (j : ℕ) (ij : i < j) (jn : j < n) (x : Ω')
            → At 𝓔 base number (X' j x) (X j (base x)).0 (ν j ij jn (rep (base x)) (number x))
            (add (X j (base x)).1 (c j ij jn (rep (base x)) (number x)))
        pub number_stays : (j : ℕ) (ij : i < j) (jn : j < n) (x : Ω') → ν j ij jn (iter τ (shift j) (rep (base x))) (number x)
            ≡ ν j ij jn (rep (base x)) (number x)
        pub closes : (j : ℕ) (ij : i < j) (jn : j < n) (x : Ω')
            → add (q S F 𝓢 j ij jn (base x)) (add (times 𝓔 (shift j) (times 𝓔 (number x) R.ε)) (c j ij jn (iter τ (shift j) (rep (base x))) (number x)))
            ≡ add (c j ij jn (rep (base x)) (number x)) (times 𝓔 (ν j ij jn (rep (base x)) (number x)) R.ε)
        pub maps_to : (j : ℕ) → suc i ≤ j → j < n → (x : Ω') → rep' (X' j x).0 ≡ target' j (rep' x)
        -- two basis indices are of one representation exactly if their numbers are equal and their bases in one orbit
        pub one_orbit : (x y : Ω') → rep' x ≡ rep' y → (number x ≡ number y) × ((k : ℕ) × (iter τ k (rep (base x)) ≡ rep (base y)))
        pub one_rep : (x y : Ω') → number x ≡ number y → (k : ℕ) → iter τ k (rep (base x)) ≡ rep (base y) → rep' x ≡ rep' y

      module _ (N : StepUp) where
        open N use {c, ν}

        infixl 70 ◌*'◌
        open maps 𝓔 Ω' use {mul as ◌*'◌}

        pub hom' : Hom 𝓖⁺ (maps 𝓔 Ω') d'
        hom' = record {
          on_one = over-same 𝓔 base number N.injective _ _ _ _ (N.over _) (over-one 𝓔 base number) (λ κ. (raised-hom S F (numbered κ)).on_one);
          on_mul = λ x y. over-same 𝓔 base number N.injective _ _ _ _ (N.over _)
              (over-mul 𝓔 base number (λ κ. raised S F (numbered κ) x) (λ κ. raised S F (numbered κ) y) (d' x) (d' y) (N.over x) (N.over y))
              (λ κ. (raised-hom S F (numbered κ)).on_mul x y);
        }

        over-low : (h : G) → Over 𝓔 base number (λ κ. d h) (d' (low h))
        over-low h x = subst (λ (B : Map 𝓔 Ω). at (d' (low h) x) (B (base x)).0 (number x) (B (base x)).1)
            (raised-low S F (numbered (number x)) h) (N.over (low h) x)

        over-top : (x : Ω') → at (d' top x) (X i (base x)).0 (number x) (add (X i (base x)).1 (add (σ (rep (base x))) (ε^ (number x))))
        over-top x =
            subst (λ (z : Ω × E). at (d' top x) z.0 (number x) z.1)
            (at-column 𝓔 (raised-top S F (numbered (number x))) (base x) ∙ Y-numbered-at (number x) (base x)) (N.over top x)

        -- ---- Intertwiners

        module _ (j : ℕ) (ij : i < j) (jn : j < n) where
          abbrev Past : G⁺ → Type 0
          Past x = X' j *' d' (conj⁺ j x) ≡ d' x *' X' j

          past-low : (h : G) → Past (low h)
          past-low h = ap (λ s. X' j *' d' s) (S.conj_low j ij jn h) ∙ fun_ext (λ x.
              let a : Ω = base x in
              let B' : Map 𝓔 Ω' = d' (low (conj j h)) in
              let two = sym (at_mul 𝓔 (X j) (d (conj j h)) a) ∙ at-column 𝓔 (F.past j (omega arith) jn h) a ∙ at_mul 𝓔 (d h) (X j) a in
              let b = over-low (conj j h) x in
              let y = N.up j ij jn (B' x).0 in
              let z = N.up j ij jn x in
              let v = over-low h (X' j x).0 in
              let rb : rep (base (B' x).0) ≡ rep a = ap rep b.is_base ∙ F.inside (conj j h) a in
              at_mul 𝓔 (X' j) B' x
              ∙ pair 𝓔 (N.injective (X' j (B' x).0).0 (d' (low h) (X' j x).0).0
              (y.is_base ∙ ap (λ s. (X j s).0) b.is_base ∙ ap (λ s. s.0) two ∙ sym (v.is_base ∙ ap (λ s. (d h s).0) z.is_base))
              (y.is_number ∙ ap₂ (ν j ij jn) rb b.is_number ∙ sym (v.is_number ∙ z.is_number)))
              (ap₂ add (y.is_exponent ∙ ap₂ add (ap (λ s. (X j s).1) b.is_base) (ap₂ (c j ij jn) rb b.is_number)) b.is_exponent
              ∙ rcomm 𝓔 _ _ _ ∙ ap (λ s. add s (c j ij jn (rep a) (number x))) (ap (λ s. s.1) two) ∙ 𝓔.assoc _ _ _
              ∙ sym (ap₂ add (v.is_exponent ∙ ap (λ s. (d h s).1) z.is_base) z.is_exponent))
              ∙ sym (at_mul 𝓔 (d' (low h)) (X' j) x))

          past_top : Past top
          unfolding φ
          past_top = fun_ext (λ x.
              let a : Ω = base x in
              let B' : Map 𝓔 Ω' = d' (conj⁺ j top) in
              let two = sym (at_mul 𝓔 (X j) (φ S F 𝓢 j ij jn) a) ∙ q-eq S F 𝓢 j ij jn a ∙ ap (λ s. (s.0, add (q S F 𝓢 j ij jn a) s.1))
              (at_mul 𝓔 (Y S F 𝓢) (X j) a ∙ ap (λ s. (s.0, add s.1 (X j a).1)) (Y-at S F 𝓢 (X j a).0)) in
              let b = subst (λ (z : Ω × E). at (B' x) z.0 (number x) z.1) (φ-numbered j ij jn (number x) a) (N.over (conj⁺ j top) x) in
              let y = N.up j ij jn (B' x).0 in
              let z = N.up j ij jn x in
              let v = over-top (X' j x).0 in
              let rb : rep (base (B' x).0) ≡ iter τ (shift j) (rep a) = ap rep b.is_base ∙ φ-maps S F 𝓢 j ij jn a in
              let first : (x y z v : E) → add (add x y) (add z v) ≡ add (add x v) (add z y) = λ x y z v. simp (𝓔.assoc, 𝓔.comm, lcomm 𝓔) in
              let second : (k y r : E) → add (add k y) r ≡ add y (add k r) = λ k y r. simp (𝓔.assoc, 𝓔.comm, lcomm 𝓔) in
              let third : (y s b h v : E) → add (add (add y s) b) (add h v) ≡ add (add y (add s v)) (add b h) = λ y s b h v.
              simp (𝓔.assoc, 𝓔.comm, lcomm 𝓔) in
              at_mul 𝓔 (X' j) B' x
              ∙ pair 𝓔 (N.injective (X' j (B' x).0).0 (d' top (X' j x).0).0
              (y.is_base ∙ ap (λ s. (X j s).0) b.is_base ∙ ap (λ s. s.0) two ∙ sym (v.is_base ∙ ap (λ s. (X i s).0) z.is_base))
              (y.is_number ∙ ap₂ (ν j ij jn) rb b.is_number ∙ N.number_stays j ij jn x ∙ sym (v.is_number ∙ z.is_number)))
              (ap₂ add (y.is_exponent ∙ ap₂ add (ap (λ s. (X j s).1) b.is_base) (ap₂ (c j ij jn) rb b.is_number)) b.is_exponent ∙ first _ _ _ _
              ∙ ap (λ s. add s (add (times 𝓔 (shift j) (ε^ (number x))) (c j ij jn (iter τ (shift j) (rep a)) (number x)))) (ap (λ s. s.1) two)
              ∙ second _ _ _ ∙ ap (add (add (add (X i (X j a).0).1 (σ (rep (X j a).0))) (X j a).1)) (N.closes j ij jn x)
              ∙ third _ _ _ _ _
              ∙ sym (ap₂ add (v.is_exponent
              ∙ ap₂ add (ap (λ s. (X i s).1) z.is_base) (ap₂ add (ap (λ s. σ (rep s)) z.is_base) (ap ε^ z.is_number))) z.is_exponent))
              ∙ sym (at_mul 𝓔 (d' top) (X' j) x))

          open maps-laws 𝓔 {Ω = Ω'} use {assoc as assoc', idl as idl', idr as idr'}

          past_one : Past 𝓖⁺.one
          past_one = ap (λ s. X' j *' s) (ap d' (S.conj⁺-hom j ij jn).on_one ∙ hom'.on_one) ∙ idr' _ ∙ sym (idl' _)
              ∙ ap (λ s. s *' X' j) (sym hom'.on_one)

          past-mul : (x y : G⁺) → Past x → Past y → Past (𝓖⁺.mul x y)
          past-mul x y a b =
              ap (λ s. X' j *' s) (ap d' ((S.conj⁺-hom j ij jn).on_mul x y) ∙ hom'.on_mul _ _) ∙ sym (assoc' _ _ _) ∙ ap (λ s. s *' d' (conj⁺ j y)) a
              ∙ assoc' _ _ _ ∙ ap (λ s. d' x *' s) b ∙ sym (assoc' _ _ _) ∙ ap (λ s. s *' X' j) (sym (hom'.on_mul x y))

          pub past' : (x : G⁺) → X' j *' d' (conj⁺ j x) ≡ d' x *' X' j
          past' x = subst Past (sym (S.decompose x)) (past-mul _ _ (power-ind 𝓖⁺ Past past_one past-mul top past_top (exponent x)) (past-low (S.rest x)))

        -- ---- Reached and separated

        to : (w : G⁺) (x y : Ω') (s : E) → raised S F (numbered (number x)) w (base x) ≡ (base y, s) → number x ≡ number y → d' w x ≡ (y, s)
        to w x y s h k = let o = N.over w x in
            λ j. (N.injective (d' w x).0 y (o.is_base ∙ ap (λ s. s.0) h) (o.is_number ∙ k) j, (o.is_exponent ∙ ap (λ s. s.1) h) j)

        pub inside' : (w : G⁺) (x : Ω') → rep' (d' w x).0 ≡ rep' x
        inside' w x =
            let o = N.over w x in
            sym (N.one_rep x (d' w x).0 (sym o.is_number) (exponent w) (sym (ap rep o.is_base ∙ raised-maps S F (numbered (number x)) w (base x))))

        pub reached' : (x y : Ω') → rep' x ≡ rep' y → (w : G⁺) × ((d' w x).0 ≡ y)
        reached' x y h =
            let (k, (m, r)) = N.one_orbit x y h in
            let 𝓨 = numbered (number x) in
            let Z : Map 𝓔 Ω = pow (Y S F 𝓨) m in
            let (w, e) = F.reached (Z (base x)).0 (base y) (rep-power F τ (Y S F 𝓨) (Y-maps S F 𝓨) m (base x) ∙ r) in
            let v : G⁺ = 𝓖⁺.mul (low w) (power 𝓖⁺ top m) in
            let line : raised S F 𝓨 v ≡ d w * Z = (raised-hom S F 𝓨).on_mul _ _
            ∙ ap₂ (◌*◌) (raised-low S F 𝓨 w) (power-hom (raised-hom S F 𝓨) top m ∙ ap (λ s. pow s m) (raised-top S F 𝓨)) in
            (v, ap (λ s. s.0) (to v x y _ (at-column 𝓔 line (base x) ∙ at_mul 𝓔 (d w) Z (base x) ∙ pair 𝓔 e refl) k))

        separated-low : (x y : Ω') → Separated 𝓔 Ω d (base x) (base y) → Separated 𝓔 Ω' d' x y
        separated-low x y h = record {
          by = low h.by;
          x = h.x;
          y = h.y;
          fixes = to (low h.by) x x h.x (at-column 𝓔 (raised-low S F (numbered (number x)) h.by) (base x) ∙ h.fixes) refl;
          fixes' = to (low h.by) y y h.y (at-column 𝓔 (raised-low S F (numbered (number y)) h.by) (base y) ∙ h.fixes') refl;
          differ = h.differ;
        }

        -- two extensions of one representation, at one basis index
        separated-number : (x y : Ω') → base x ≡ base y → ¬ (number x ≡ number y) → τ (rep (base x)) ≡ rep (base x) → Separated 𝓔 Ω' d' x y
        separated-number x y eb en fx =
            let (w, e) = F.reached (X i (base x)).0 (base x) (X-maps S F (base x) ∙ fx) in
            let v : G⁺ = 𝓖⁺.mul (low w) top in
            let s : E = add (d w (X i (base x)).0).1 (add (X i (base x)).1 (σ (rep (base x)))) in
            let line : (κ : ℕ) → raised S F (numbered κ) v (base x) ≡ (base x, add s (ε^ κ)) = λ κ.
            at-column 𝓔 ((raised-hom S F (numbered κ)).on_mul _ _ ∙ ap₂ (◌*◌) (raised-low S F (numbered κ) w) (raised-top S F (numbered κ))) (base x)
            ∙ mul_at 𝓔 (d w) (Y S F (numbered κ)) (base x) _ _ (Y-numbered-at κ (base x))
            ∙ pair 𝓔 e (ap (add _) (sym (𝓔.assoc _ _ _)) ∙ sym (𝓔.assoc _ _ _)) in
            record {
              by = v;
              x = add s (ε^ (number x));
              y = add s (ε^ (number y));
              fixes = to v x x _ (line (number x)) refl;
              fixes' = to v y y _ (ap (λ b. raised S F (numbered (number y)) v b) (sym eb) ∙ line (number y) ∙ pair 𝓔 eb refl) refl;
              differ = λ h. en (R.ε-injective (number x) (number y) (N.small x) (N.small y) (cancel 𝓔 s _ _ h));
            }

        pub separated' : (x y : Ω') → ¬ (x ≡ y) → Separated 𝓔 Ω' d' x y
        separated' x y h = by_cases (F.decide (base x) (base y))
            (λ eb. by_cases (ℕ_discrete (τ (rep (base x))) (rep (base x))) (λ f. separated-number x y eb (λ en. h (N.injective x y eb en)) f)
            (λ f. absurd (h (N.injective x y eb (N.plain x f ∙ sym (N.plain y (λ g. f (ap (λ b. τ (rep b)) eb ∙ g ∙ ap rep (sym eb)))))))))
            (λ eb. separated-low x y (F.separated (base x) (base y) eb))

        abbrev pub next : Family 𝓔 Ω' 𝓖⁺ conj⁺ (suc i) n
        next = record {
          decide = N.decide;
          d = d';
          hom = hom';
          X = X';
          past = past';
          rep = rep';
          target = target';
          inside = inside';
          maps_to = N.maps_to;
          reached = reached';
          separated = separated';
        }
