-- The representations of a level tell its elements apart: an element that acts as the identity on all of them is the unit.
--
--   Faithful F           so for the family F
--   next-faithful        the family of the next level is faithful if that of the level below is
use mathlib.Core.Path.{◌≡◌, sym, ◌∙◌, ap, fun_ext}
use mathlib.Core.Logic.{by_cases}
use Prim.Native.Nat.{ℕ, suc, ◌<◌}
use native.Mathlib.Omega.{arith}
use native.Mathlib.Decide.{ℕ_discrete}
use Rattle.definitions.specs.Presentation.{Mul, power}
use Rattle.numbers.proofs.Lists.{iter-zero}
use Rattle.numbers.proofs.Orbits.{leader, moved-distinct}
use Rattle.group.specs.Context.{Nf}
use Rattle.group.proofs.Values.{power_zero}
use Rattle.group.proofs.Level.{level}
use Rattle.group.proofs.Group.{group}
use Rattle.monomial.specs.Exponents.{Exponents, times}
use Rattle.monomial.specs.Maps.{maps}
use Rattle.monomial.specs.Families.{Family}
use Rattle.monomial.proofs.Exponents.{neg_of, total-zero, times-nil, times-one}
use Rattle.monomial.proofs.Maps.{at-column, at_one}
use Rattle.clifford.specs.Stands.{Rung}
use Rattle.clifford.proofs.Numbering.{rep, τ, S, O, rep_below, made, made-of-fixed, made_some}
use Rattle.clifford.proofs.Indices.{Index, base, mk}
use Rattle.clifford.proofs.Top.{Normed, raised, raised-low, raised-maps}
use Rattle.clifford.proofs.Step.{numbered, raised-numbered}
use Rattle.clifford.proofs.Extensions.{E, 𝓢, ρ, first}
use Rattle.clifford.proofs.Next.{next-d, family}

pub record Faithful {G R Ω : Type 0} {𝓔 : Exponents R} {𝓖 : Mul G} {conj : ℕ → G → G} {i n : ℕ} (F : Family 𝓔 Ω 𝓖 conj i n) : Type 0 where
  pub unit : (x : G) → F.d x ≡ (maps 𝓔 Ω).one → x ≡ 𝓖.one

-- ---- From a level to the next

module _ (R : Rung) where
  open R use {T, i, Ω, F}
  open T use {context as C}
  open C use {two}
  open S R use {exponent as e, rest}

  abbrev 𝓨 : ℕ → Normed (S R) F
  𝓨 κ = numbered (S R) F (𝓢 R) (ρ R) κ

  module _ (w : Nf C (suc i)) (acts : next-d R w ≡ (maps (E R) (Index R)).one) where
    -- on the extension of number κ
    still : (a : Ω) (κ : ℕ) → κ < made R (leader (O R) (rep R a)) → raised (S R) F (𝓨 κ) w a ≡ (a, (E R).nil)
    unfolding next-d
    still a κ h = ap (λ (z : Index R × _). (base R z.0, z.1)) (at-column (E R) acts (mk R a κ h) ∙ at_one (E R) (mk R a κ h))

    still-first : (a : Ω) → raised (S R) F (𝓨 0) w a ≡ (a, (E R).nil)
    still-first a = still a 0 (made_some R (rep R a) (rep_below R a))

    -- an orbit that moves would be turned; where the generator on top fixes a representation, two extensions would differ
    exponent-zero : e w ≡ 0
    exponent-zero =
        let a : Ω = first R 0 in
        let r : ℕ = rep R a in
        let undone : (κ : ℕ) → raised (S R) F (𝓨 κ) w a ≡ (a, (E R).nil)
        → times (E R) (e w) (times (E R) κ (ρ R).ε) ≡ (E R).neg (raised (S R) F (𝓢 R) w a).1
        = λ κ h. neg_of (E R) _ _ ((E R).comm _ _ ∙ ap (λ z. z.1) (sym (raised-numbered (S R) F (𝓢 R) (ρ R) κ w a) ∙ h)) in
        by_cases (ℕ_discrete (τ R r) r) (λ f.
        let one_below : 1 < made R (leader (O R) r) = omega (arith, made-of-fixed R r (rep_below R a) f, two i) in
        (ρ R).ε-injective (e w) 0 w.1.0 (omega (arith, two i))
        (ap (times (E R) (e w)) (sym (times-one (E R) (ρ R).ε)) ∙ undone 1 (still a 1 one_below) ∙ sym (undone 0 (still-first a))
        ∙ ap (times (E R) (e w)) (total-zero (E R) _) ∙ times-nil (E R) (e w) ∙ sym (total-zero (E R) _)))
        (λ f. moved-distinct (O R) r (rep_below R a) f (e w) 0 w.1.0 (omega (arith, two i))
        (sym (raised-maps (S R) F (𝓨 0) w a) ∙ ap (λ z. rep R z.0) (still-first a) ∙ sym (iter-zero (τ R) r)))

    is-low : w ≡ (S R).low (rest w)
    is-low =
        (S R).decompose w
        ∙ ap (λ t. (level C (suc i)).mul t ((S R).low (rest w)))
        (ap (power (level C (suc i)) (S R).top) exponent-zero ∙ power_zero (level C (suc i)) (S R).top)
        ∙ (group T (suc i) R.in_range).laws.idl ((S R).low (rest w))

    rest-acts : F.d (rest w) ≡ (maps (E R) Ω).one
    rest-acts = fun_ext
        (λ a. at-column (E R) (sym (raised-low (S R) F (𝓨 0) (rest w)) ∙ ap (raised (S R) F (𝓨 0)) (sym is-low)) a
        ∙ still-first a ∙ sym (at_one (E R) a))

  pub next-faithful : Faithful R.F → Faithful (family R)
  next-faithful low = record { unit = λ w acts. is-low w acts ∙ ap (S R).low (low.unit (rest w) (rest-acts w acts)) ∙ (S R).low_hom.on_one }
