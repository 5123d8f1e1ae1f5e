-- Laws of the j, i and p at the front of a line.
--
--   head-text                 the three values one behind the other
--   head-known                the p that was read is the one that stands there
--   head-none, head-other, head_none_2, head-other-2     why none stands there
--   head-some                 what the third read says
use mathlib.Core.Path.{◌≡◌, sym, ap, ◌∙◌}
use mathlib.Core.List.{[], ◌∷◌, ◌++◌, append_assoc, append_cancel_left}
use Prim.Native.Nat.{ℕ, suc, ◌<◌}
use native.Mathlib.Omega.{arith}
use lib.ListN.{drop}
use Rattle.definitions.specs.Text.{Bytes, largest, decimal}
use Rattle.text.specs.Reading.{Ends, ValueAt, NoValue, ReadAt, trail}
use Rattle.std.specs.Prelude.{Option, None}
use Rattle.text.proofs.Reading.{read_known, value-unique}
use Rattle.text.proofs.Trail.{trail-nil, trail-cons}
use Rattle.reader.specs.Lines.{head_text, HeadLine, NoHead, HeadAt}

pub head-text : (j i p : ℕ) (r : Bytes) → head_text j i p ++ r ≡ decimal (suc j) ++ (32 ∷ decimal (suc i) ++ (32 ∷ decimal p ++ r))
unfolding head_text
head-text j i p r =
    append_assoc (decimal (suc j)) (trail (suc i ∷ p ∷ [])) r
    ∙ ap (λ (xs : Bytes). decimal (suc j) ++ xs)
    (trail-cons (suc i) (p ∷ []) r
    ∙ ap (λ (xs : Bytes). 32 ∷ decimal (suc i) ++ xs) (trail-cons p [] r ∙ ap (λ (xs : Bytes). 32 ∷ decimal p ++ (xs ++ r)) trail-nil))

pub head-known : {t : Bytes} {at j i p next : ℕ} → HeadLine t at j i p next → (q : ℕ) (r : Bytes) → Ends r → drop at t ≡ head_text j i q ++ r
    → (p ≡ q) × (drop next t ≡ r)
head-known {t} {at} {j} {i} {p} {next} h q r e m =
    value-unique p q (drop next t) r h.ends e
    (append_cancel_left (32 ∷ []) (decimal p ++ drop next t) (decimal q ++ r)
    (append_cancel_left (32 ∷ decimal (suc i)) (32 ∷ decimal p ++ drop next t) (32 ∷ decimal q ++ r)
    (append_cancel_left (decimal (suc j)) _ _ (sym (head-text j i p (drop next t)) ∙ sym h.text ∙ m ∙ head-text j i q r))))

module _ (j i : ℕ) {t : Bytes} {at : ℕ} where
  head-fails : NoHead t at j i → HeadAt t at j i None
  head-fails h = record { stands = λ p n q. let z : ◌≡◌ {A = ℕ} 0 1 = cc in absurd (omega arith); fails = λ q. h }

  pub head-none : NoValue [] t at → j < largest → HeadAt t at j i None
  head-none h l =
      head-fails (record { none = λ p r s e q. h.none (suc j) (32 ∷ decimal (suc i) ++ (32 ∷ decimal p ++ r)) l (λ d. omega (arith, d.0)) (q ∙ head-text j i p r) })

  module _ {a next : ℕ} (h : ValueAt [] t at a next) where
    first : (p : ℕ) (r : Bytes) → drop at t ≡ head_text j i p ++ r → (a ≡ suc j) × (drop next t ≡ 32 ∷ decimal (suc i) ++ (32 ∷ decimal p ++ r))
    first p r q = read_known h (suc j) (32 ∷ decimal (suc i) ++ (32 ∷ decimal p ++ r)) (λ d. omega (arith, d.0)) (q ∙ head-text j i p r)

    pub head-other : (a ≡ suc j → ⊥) → HeadAt t at j i None
    head-other n = head-fails (record { none = λ p r s e q. n (first p r q).0 })

    pub head_none_2 : NoValue (32 ∷ []) t next → i < largest → HeadAt t at j i None
    head_none_2 k l = head-fails (record { none = λ p r s e q. k.none (suc i) (32 ∷ decimal p ++ r) l (λ d. omega (arith, d.0)) (first p r q).1 })

    module _ {b behind : ℕ} (k : ValueAt (32 ∷ []) t next b behind) where
      second : (p : ℕ) (r : Bytes) → drop at t ≡ head_text j i p ++ r → (b ≡ suc i) × (drop behind t ≡ 32 ∷ decimal p ++ r)
      second p r q = read_known k (suc i) (32 ∷ decimal p ++ r) (λ d. omega (arith, d.0)) (first p r q).1

      pub head-other-2 : (b ≡ suc i → ⊥) → HeadAt t at j i None
      head-other-2 n = head-fails (record { none = λ p r s e q. n (second p r q).0 })

      pub head-some : a ≡ suc j → b ≡ suc i → {x : Option (ℕ × ℕ)} → ReadAt (32 ∷ []) t behind x → HeadAt t at j i x
      head-some x y m =
          record {
            stands = λ p last q. let w = m.stands p last q in record {
              text =
                  h.text
                  ∙ ap (λ (v : ℕ). decimal v ++ drop next t) x
                  ∙ ap (λ (xs : Bytes). decimal (suc j) ++ xs)
                  (k.text ∙ ap (λ (v : ℕ). 32 ∷ decimal v ++ drop behind t) y ∙ ap (λ (xs : Bytes). 32 ∷ decimal (suc i) ++ xs) w.text)
                  ∙ sym (head-text j i p (drop last t));
              small = w.small;
              ends = w.ends;
              further = omega (arith, h.further, k.further, w.further);
              within = w.within;
            };
            fails = λ q. record { none = λ p r s e v. (m.fails q).none p r s e (second p r v).1 };
          }
