-- The blocks of a representation of any table, numbered: where a block begins, and the block of a column.
--
--   all_both                 two tests of every element
--   cut b, width b           where block b begins, and its width
--   cut_sum                  the blocks lie one behind the other
--   Cut, cut_at              the block of a column, and what every cut passes
--   cuts-end                 the last block ends with the columns; how many blocks there are
--   cut_below, cuts-each, cuts-also, cuts-all      blocks by their number
use mathlib.Core.Path.{◌≡◌, refl, sym, ◌∙◌, ap, subst}
use mathlib.Core.Logic.{by_cases}
use mathlib.Core.Bool.{Bool, true, ◌&&◌}
use mathlib.Core.List.{List, [], ◌∷◌}
use Prim.Native.Nat.{ℕ, zero, suc, ◌+◌, ◌-◌, ◌≤◌, ◌<◌}
use native.Mathlib.Omega.{arith}
use native.Mathlib.Decide.{dec_lt, ℕ_discrete}
use lib.ListN.{length}
use Rattle.definitions.specs.Lists.{sum, all}
use Rattle.definitions.specs.Monomial.{Rep, Level, rep_of}
use Rattle.definitions.specs.Judgement
use Rattle.numbers.proofs.Bools.{and_left, and_right, and_intro, cond-lt, cond-ge}
use Rattle.numbers.proofs.Sums.{sum-zero, sum-suc, stretch-one, first-le}

pub all_both : (q q' : ℕ → Bool) (xs : List ℕ) → all q xs ≡ true → all q' xs ≡ true → all (λ x. q x && q' x) xs ≡ true
unfolding all
all_both q q' [] h k = refl
all_both q q' (x ∷ xs) h k = and_intro _ _ (and_intro _ _ (and_left (q x) (all q xs) h) (and_left (q' x) (all q' xs) k))
    (all_both q q' xs (and_right (q x) (all q xs) h) (and_right (q' x) (all q' xs) k))

module _ (low : Level) (D : Rep) where
  unfoldable pub cut : ℕ → ℕ
  cut zero = 0
  cut (suc b) = cut b + (rep_of low (D.ref 0 (cut b))).deg

  abbrev pub width : ℕ → ℕ
  width b = (rep_of low (D.ref 0 (cut b))).deg

  pub cut-zero : cut 0 ≡ 0
  unfolding cut
  cut-zero = refl

  pub cut-suc : (b : ℕ) → cut (suc b) ≡ cut b + width b
  unfolding cut
  cut-suc b = refl

  pub cut_sum : (b : ℕ) → cut b ≡ sum b width
  cut_sum zero = cut-zero ∙ sym (sum-zero width)
  cut_sum (suc b) = cut-suc b ∙ ap (λ z. z + width b) (cut_sum b) ∙ sym (sum-suc b width)

  -- one column lies in one block
  pub cut-one : (b κ b' κ' : ℕ) → κ < width b → κ' < width b' → cut b + κ ≡ cut b' + κ' → (b ≡ b') × (κ ≡ κ')
  cut-one b κ b' κ' l l' q = stretch-one width b κ b' κ' l l' (ap (λ z. z + κ) (sym (cut_sum b)) ∙ q ∙ ap (λ z. z + κ') (cut_sum b'))

  pub cut-le : (b b' : ℕ) → b < b' → cut b + width b ≤ cut b'
  cut-le b b' l = subst (λ z. z + width b ≤ cut b') (sym (cut_sum b)) (subst (λ z. sum b width + width b ≤ z) (sym (cut_sum b')) (first-le width b b' l))

  cut-mono : (b b' : ℕ) → b ≤ b' → cut b ≤ cut b'
  cut-mono b b' a = by_cases (ℕ_discrete b b') (λ e. omega (arith, ap cut e)) (λ e. omega (arith, cut-le b b' (omega arith)))

  -- ---- Walking the cuts

  from : (f b : ℕ) → cut b < D.deg → Judgement.cuts_from low D (suc f) (cut b) ≡ cut b ∷ Judgement.cuts_from low D f (cut (suc b))
  unfolding Judgement.cuts_from cut
  from f b l = cond-lt (cut b) D.deg _ _ l

  from_end : (f b : ℕ) → D.deg ≤ cut b → Judgement.cuts_from low D f (cut b) ≡ []
  unfolding Judgement.cuts_from
  from_end zero b l = refl
  from_end (suc f) b l = cond-ge (cut b) D.deg _ _ l

  all_cons : (q : ℕ → Bool) (x : ℕ) (xs : List ℕ) → all q (x ∷ xs) ≡ true → (q x ≡ true) × (all q xs ≡ true)
  unfolding all
  all_cons q x xs h = (and_left (q x) (all q xs) h, and_right (q x) (all q xs) h)

  pub record Cut (q : ℕ → Bool) (c : ℕ) : Type 0 where
    pub b : ℕ
    pub κ : ℕ
    pub is : cut b + κ ≡ c
    pub inside : κ < width b
    pub passes : q (cut b) ≡ true

  module _ (q : ℕ → Bool) (positive : (o : ℕ) → q o ≡ true → 0 < (rep_of low (D.ref 0 o)).deg) where
    walk : (f b : ℕ) → all q (Judgement.cuts_from low D f (cut b)) ≡ true → (c : ℕ) → cut b ≤ c → c < D.deg → D.deg ≤ cut b + f → Cut q c
    walk zero b h c a l e = absurd (omega arith)
    walk (suc f) b h c a l e =
        let (here, rest) = all_cons q (cut b) (Judgement.cuts_from low D f (cut (suc b))) (ap (all q) (sym (from f b (omega arith))) ∙ h) in
        by_cases (dec_lt c (cut (suc b))) (λ s. record { b = b; κ = c - cut b; is = omega arith; inside = omega (arith, cut-suc b); passes = here })
        (λ s. walk f (suc b) rest c (omega arith) l (omega (arith, cut-suc b, positive (cut b) here)))

    pub cut_at : all q (Judgement.cuts low D) ≡ true → (c : ℕ) → c < D.deg → Cut q c
    unfolding Judgement.cuts
    cut_at h c l = walk D.deg 0 (ap (λ o. all q (Judgement.cuts_from low D D.deg o)) cut-zero ∙ h) c (omega (arith, cut-zero)) l (omega (arith, cut-zero))

    -- every cut ends within the columns
    module _ (fits : (o : ℕ) → q o ≡ true → o + (rep_of low (D.ref 0 o)).deg ≤ D.deg) where
      ends : (f b : ℕ) → all q (Judgement.cuts_from low D f (cut b)) ≡ true → cut b ≤ D.deg → D.deg ≤ cut b + f
          → cut (b + length (Judgement.cuts_from low D f (cut b))) ≡ D.deg
      ends zero b h a e =
          let z : b + 0 ≡ b = omega arith in
          ap (λ xs. cut (b + length xs)) (from_end zero b (omega arith)) ∙ ap cut z ∙ omega arith
      ends (suc f) b h a e = by_cases (dec_lt (cut b) D.deg) (λ s.
          let (here, rest) = all_cons q (cut b) (Judgement.cuts_from low D f (cut (suc b))) (ap (all q) (sym (from f b s)) ∙ h) in
          let z : b + suc (length (Judgement.cuts_from low D f (cut (suc b)))) ≡ suc b + length (Judgement.cuts_from low D f (cut (suc b))) = omega arith in
          ap (λ xs. cut (b + length xs)) (from f b s) ∙ ap cut z
          ∙ ends f (suc b) rest (omega (arith, cut-suc b, fits (cut b) here)) (omega (arith, cut-suc b, positive (cut b) here)))
          (λ s. let z : b + 0 ≡ b = omega arith in ap (λ xs. cut (b + length xs)) (from_end (suc f) b (omega arith)) ∙ ap cut z ∙ omega arith)

      pub cuts-end : all q (Judgement.cuts low D) ≡ true → cut (length (Judgement.cuts low D)) ≡ D.deg
      unfolding Judgement.cuts
      cuts-end h =
          let z : (k : ℕ) → k ≡ 0 + k = λ k. omega arith in
          ap cut (z _) ∙ ap (λ o. cut (0 + length (Judgement.cuts_from low D D.deg o))) (sym cut-zero)
          ∙ ends D.deg 0 (ap (λ o. all q (Judgement.cuts_from low D D.deg o)) cut-zero ∙ h) (omega (arith, cut-zero)) (omega (arith, cut-zero))

  -- ---- Blocks by their number

  counted : (f b k : ℕ) → k < length (Judgement.cuts_from low D f (cut b)) → cut (b + k) < D.deg
  counted zero b k l = let m : k < 0 = unfold Judgement.cuts_from in l in absurd (omega arith)
  counted (suc f) b k l = by_cases (dec_lt (cut b) D.deg) (λ s.
      let m : k < suc (length (Judgement.cuts_from low D f (cut (suc b)))) = subst (λ xs. k < length xs) (from f b s) l in
      by_cases (ℕ_discrete k 0) (λ e. let z : b ≡ b + k = omega arith in subst (λ k. cut k < D.deg) z s)
      (λ e. let z : suc b + (k - 1) ≡ b + k = omega arith in subst (λ k. cut k < D.deg) z (counted f (suc b) (k - 1) (omega arith))))
      (λ s. let m : k < 0 = subst (λ xs. k < length xs) (from_end (suc f) b (omega arith)) l in absurd (omega arith))

  -- a block begins within the columns
  pub cut_below : (b : ℕ) → b < length (Judgement.cuts low D) → cut b < D.deg
  unfolding Judgement.cuts
  cut_below b l =
      let z : 0 + b ≡ b = omega arith in
      subst (λ k. cut k < D.deg) z (counted D.deg 0 b (subst (λ o. b < length (Judgement.cuts_from low D D.deg o)) (sym cut-zero) l))

  each : (q : ℕ → Bool) → ((o : ℕ) → q o ≡ true → 0 < (rep_of low (D.ref 0 o)).deg) → (f b : ℕ) → all q (Judgement.cuts_from low D f (cut b)) ≡ true
      → D.deg ≤ cut b + f → (b' : ℕ) → b ≤ b' → cut b' < D.deg → q (cut b') ≡ true
  each q pos zero b h e b' a l = absurd (omega (arith, cut-mono b b' a))
  each q pos (suc f) b h e b' a l =
      let (x, y) = all_cons q (cut b) (Judgement.cuts_from low D f (cut (suc b))) (ap (all q) (sym (from f b (omega (arith, cut-mono b b' a)))) ∙ h) in
      by_cases (dec_lt b b') (λ s. each q pos f (suc b) y (omega (arith, cut-suc b, pos (cut b) x)) b' s l)
      (λ s. let z : b ≡ b' = omega arith in subst (λ k. q (cut k) ≡ true) z x)

  -- what every cut passes, block b passes
  pub cuts-each : (q : ℕ → Bool) → ((o : ℕ) → q o ≡ true → 0 < (rep_of low (D.ref 0 o)).deg) → all q (Judgement.cuts low D) ≡ true → (b : ℕ)
      → cut b < D.deg → q (cut b) ≡ true
  unfolding Judgement.cuts
  cuts-each q pos h b l = each q pos D.deg 0 (ap (λ o. all q (Judgement.cuts_from low D D.deg o)) cut-zero ∙ h) (omega (arith, cut-zero)) b (omega arith) l

  pub cuts-also : (p q : ℕ → Bool) → ((o : ℕ) → p o ≡ true → 0 < (rep_of low (D.ref 0 o)).deg) → all p (Judgement.cuts low D) ≡ true
      → all q (Judgement.cuts low D) ≡ true → (b : ℕ) → cut b < D.deg → q (cut b) ≡ true
  cuts-also p q pos h k b l = and_right (p (cut b)) (q (cut b))
      (cuts-each (λ o. p o && q o) (λ o t. pos o (and_left (p o) (q o) t)) (all_both p q (Judgement.cuts low D) h k) b l)

  every : (q : ℕ → Bool) → ((b : ℕ) → cut b < D.deg → q (cut b) ≡ true) → (f b : ℕ) → all q (Judgement.cuts_from low D f (cut b)) ≡ true
  unfolding Judgement.cuts_from all
  every q h zero b = refl
  every q h (suc f) b = by_cases (dec_lt (cut b) D.deg)
      (λ s. ap (all q) (from f b s) ∙ and_intro (q (cut b)) (all q (Judgement.cuts_from low D f (cut (suc b)))) (h b s) (every q h f (suc b)))
      (λ s. ap (all q) (from_end (suc f) b (omega arith)))

  -- what every block passes, every cut passes
  pub cuts-all : (q : ℕ → Bool) → ((b : ℕ) → cut b < D.deg → q (cut b) ≡ true) → all q (Judgement.cuts low D) ≡ true
  unfolding Judgement.cuts
  cuts-all q h = ap (λ o. all q (Judgement.cuts_from low D D.deg o)) (sym cut-zero) ∙ every q h D.deg 0
