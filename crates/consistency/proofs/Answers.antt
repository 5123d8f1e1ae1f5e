-- The steps of the known test, as answers for every presentation that primes and rows read.
--
--   SettledBelow, settled-none, settled-more, settled-all, settled-fails    a test of every number below n, one after another
--   answer-none, answer-more, answer-fails     the test of every generator, one after another
--   power-kept, commutator-kept, power-fixed, inner-at     the single tests
--   commutator-low, commutator-high, inner-central    the same where a generator commutes with every one up to i
--   powers-all, commutators-all, inner-all     the tests of all generators or pairs as the definitions name them
--   both-stops, both-goes, tests-all     the test of a generator: its parts, one after another, and all
--   settled-of                     an answer, where what is read is known by equations
use mathlib.Core.Path.{◌≡◌, refl, sym, ◌∙◌, ap, ap₂, subst}
use mathlib.Core.Bool.{Bool, true, false, ◌&&◌}
use mathlib.Core.List.{List, []}
use Prim.Native.Nat.{ℕ, suc, ◌+◌, ◌≤◌, ◌<◌}
use native.Mathlib.Numerals.{add-one}
use native.Mathlib.Omega.{arith}
use lib.ListN.{get_or}
use Rattle.definitions.specs.Lists.{all_below, iter}
use Rattle.definitions.specs.Presentation.{to_nf, trivial, Presentation, power, value, pair_number}
use Rattle.definitions.specs.Consistency.{mul, conj, forms, image, same_form, keeps_powers, keeps_commutators, fixes_power, power_is_inner, level_test}
use Rattle.numbers.proofs.Bools.{and_intro}
use Rattle.numbers.proofs.Lists.{all_below-elim, all_below-fails}
use Rattle.group.specs.Context.{Context}
use Rattle.group.proofs.Clauses.{same_form-eq, eq-same_form}
use Rattle.group.proofs.Central.{group_below, central-low, central-high, central-inner}
use Rattle.rows.specs.Rows.{Reads, Generator}
use Rattle.rows.proofs.Forms.{generator-is, reads-below}
use Rattle.commuting.specs.Commuting.{Commutes}
use Rattle.commuting.proofs.Skips.{keeps-empty}
use Rattle.collector.specs.Products.{Product, Conjugate, Power, Turned}
use Rattle.consistency.specs.Images.{Images, Value}
use Rattle.consistency.specs.Answers.{TestAnswer, Settles, power_kept, commutator_kept, inner_at}

-- the first k answers of q are yes
pub record SettledBelow (i : ℕ) (ps : List ℕ) (rows : List (List ℕ)) (q : Presentation → ℕ → Bool) (k : ℕ) : Type 0 where
  pub settled : Settles i ps rows (λ P. all_below k (q P)) true

module _ {i : ℕ} {ps : List ℕ} {rows : List (List ℕ)} {q : Presentation → ℕ → Bool} where
  pub settled-none : SettledBelow i ps rows q 0
  unfolding all_below
  settled-none = record { settled = record { is = λ C R B. refl } }

  module _ {k : ℕ} (a : SettledBelow i ps rows q k) where
    pub settled-more : {b : Bool} → Settles i ps rows (λ P. q P k) b → b ≡ true → SettledBelow i ps rows q (k + 1)
    unfolding all_below
    settled-more t e = record {
      settled = record {
        is = λ C R B. sym (ap (λ n. all_below n (q C.P)) (add-one k)
            ∙ and_intro (all_below k (q C.P)) (q C.P k) (sym (a.settled.is C R B)) (sym (t.is C R B) ∙ e));
      };
    }

    pub settled-all : {n : ℕ} → k ≡ n → Settles i ps rows (λ P. all_below n (q P)) true
    settled-all e = subst (λ n. Settles i ps rows (λ P. all_below n (q P)) true) e a.settled

    pub settled-fails : {n : ℕ} {b : Bool} → k < n → Settles i ps rows (λ P. q P k) b → b ≡ false → Settles i ps rows (λ P. all_below n (q P)) false
    settled-fails {n} l t e = record { is = λ C R B. sym (all_below-fails n (q C.P) k l (sym (t.is C R B) ∙ e)) }

-- the levels below i pass, so that what needs this is known of level i
module _ {n : ℕ} {ps : List ℕ} {rows : List (List ℕ)} where
  pub answer-none : TestAnswer n ps rows (λ P. all_below 0 (level_test P)) true
  unfolding all_below
  answer-none = record { is = λ C R. refl }

  module _ {i : ℕ} {b : Bool} (l : i < n) (a : TestAnswer n ps rows (λ P. all_below i (level_test P)) true) (t : Settles i ps rows (λ P. level_test P i) b) where
    level-is : (C : Context) → Reads C.P n ps rows → b ≡ level_test C.P i
    level-is C R = t.is C (reads-below (omega arith) R) (all_below-elim i (level_test C.P) (sym (a.is C R)))

    pub answer-more : b ≡ true → TestAnswer n ps rows (λ P. all_below (i + 1) (level_test P)) true
    unfolding all_below
    answer-more e = record {
      is = λ C R. sym (ap (λ m. all_below m (level_test C.P)) (add-one i)
          ∙ and_intro (all_below i (level_test C.P)) (level_test C.P i) (sym (a.is C R)) (sym (level-is C R) ∙ e));
    }

    pub answer-fails : b ≡ false → TestAnswer n ps rows (λ P. all_below n (level_test P)) false
    answer-fails e = record { is = λ C R. sym (all_below-fails n (level_test C.P) i l (sym (level-is C R) ∙ e)) }

module _ {i : ℕ} {ps : List ℕ} {rows : List (List ℕ)} where
  lower : (C : Context) → Reads C.P (suc i) ps rows → Reads C.P i ps rows
  lower C R = reads-below (omega arith) R

  module _ {h : List (List ℕ)} (t : Images i ps rows h i) where
    pub power-kept : {k : ℕ} {l u v : List ℕ} {b : Bool} → k < i → Power i ps rows (get_or h k []) l (get_or ps k 0) → u ≡ get_or rows (pair_number k k) [] → Value i ps rows k u v
        → b ≡ same_form i (to_nf i l) (to_nf i v) → Settles i ps rows (λ P. power_kept P i k) b
    unfolding power_kept
    power-kept {k} a ql ue qv e = record {
      is = λ C R B. e ∙ ap₂ (same_form i)
          (ql.is C (lower C R) ∙ ap₂ (power (forms C.P i)) (t.is C R k a) (R.p_is k (omega arith)))
          (qv.is C R ∙ ap (value (forms C.P i) (image C.P i) k) (ap (to_nf k) ue ∙ R.u_is k (omega arith)));
    }

    pub commutator-kept : {j k : ℕ} {l w v s r : List ℕ} {b : Bool} → k < j → j < i → Product i ps rows (get_or h k []) (get_or h j []) l
        → w ≡ get_or rows (pair_number j k) [] → Value i ps rows (k + 1) w v → Product i ps rows (get_or h k []) v s → Product i ps rows (get_or h j []) s r
        → b ≡ same_form i (to_nf i l) (to_nf i r) → Settles i ps rows (λ P. commutator_kept P i j k) b
    unfolding commutator_kept
    commutator-kept {j} {k} {l} {w} {v} {s} {r} {b} a c ql we qv qs qr e = record {
      is = λ C R B. e ∙ ap₂ (same_form i)
          (ql.is C (lower C R) ∙ ap₂ (mul C.P i) (t.is C R k (omega arith)) (t.is C R j c))
          (qr.is C (lower C R) ∙ ap₂ (mul C.P i) (t.is C R j c) (qs.is C (lower C R) ∙ ap₂ (mul C.P i) (t.is C R k (omega arith)) (worth C R)));
    }
      where
        worth : (C : Context) → Reads C.P (suc i) ps rows → to_nf i v ≡ value (forms C.P i) (image C.P i) (suc k) (C.P.w k j)
        worth C R = (subst (λ m. Value i ps rows m w v) (add-one k) qv).is C R
            ∙ ap (value (forms C.P i) (image C.P i) (suc k)) (ap (to_nf (suc k)) we ∙ R.w_is k j a (omega arith))

  pub power-fixed : {u c : List ℕ} {b : Bool} → u ≡ get_or rows (pair_number i i) [] → Conjugate i i ps rows u c → b ≡ same_form i (to_nf i c) (to_nf i u)
      → Settles i ps rows (λ P. fixes_power P i) b
  unfolding fixes_power
  power-fixed ue q e = record {
    is = λ C R B. let d = ap (to_nf i) ue ∙ R.u_is i (omega arith) in e ∙ ap₂ (same_form i) (q.is C R ∙ ap (conj C.P i i) d) d;
  }

  pub inner-at : {k : ℕ} {u g t l r : List ℕ} {b : Bool} → u ≡ get_or rows (pair_number i i) [] → Generator k g → Turned i (get_or ps i 0) ps rows g t
      → Product i ps rows u t l → Product i ps rows g u r → b ≡ same_form i (to_nf i l) (to_nf i r) → Settles i ps rows (λ P. inner_at P i k) b
  unfolding inner_at
  inner-at {k} {u} {g} ue gg qt ql qr e = record {
    is = λ C R B. e ∙ ap₂ (same_form i)
        (ql.is C (lower C R) ∙ ap₂ (mul C.P i) (word C R) (qt.is C R ∙ ap₂ (iter (conj C.P i i)) (R.p_is i (omega arith)) (generator-is i k g gg)))
        (qr.is C (lower C R) ∙ ap₂ (mul C.P i) (generator-is i k g gg) (word C R));
  }
    where
      word : (C : Context) → Reads C.P (suc i) ps rows → to_nf i u ≡ C.P.u i
      word C R = ap (to_nf i) ue ∙ R.u_is i (omega arith)

  -- ---- Generators that commute with every one up to i

  module _ {c : ℕ} (l : c < i) (central : Commutes rows c i) where
    above-empty : (C : Context) → Reads C.P (suc i) ps rows → (j : ℕ) → c < j → j ≤ i → C.P.w c j ≡ trivial (suc c)
    above-empty C R j a b = sym (R.w_is c j a (omega arith)) ∙ same_form-eq (suc c) _ _ (keeps-empty rows j c (central.above j a b))

    below-empty : (C : Context) → Reads C.P (suc i) ps rows → (k : ℕ) → k < c → C.P.w k c ≡ trivial (suc k)
    below-empty C R k a = sym (R.w_is k c a (omega arith)) ∙ same_form-eq (suc k) _ _ (keeps-empty rows c k (central.below k a))

    pub commutator-low : {j : ℕ} → c < j → j < i → Settles i ps rows (λ P. commutator_kept P i j c) true
    unfolding commutator_kept
    commutator-low {j} a b = record { is = λ C R B. sym (eq-same_form i _ _ (central-low C i c l (group_below C i B) (below-empty C R) (above-empty C R) j a b)) }

    pub commutator-high : {k : ℕ} → k < c → Settles i ps rows (λ P. commutator_kept P i c k) true
    unfolding commutator_kept
    commutator-high {k} a = record { is = λ C R B. sym (eq-same_form i _ _ (central-high C i c l (group_below C i B) (below-empty C R) (above-empty C R) k a)) }

    pub inner-central : Settles i ps rows (λ P. inner_at P i c) true
    unfolding inner_at
    inner-central = record { is = λ C R B. sym (eq-same_form i _ _ (central-inner C i c l (group_below C i B) (below-empty C R) (above-empty C R))) }

  -- ---- All four parts

  pub powers-all : {r : Bool} → Settles i ps rows (λ P. all_below i (power_kept P i)) r → Settles i ps rows (λ P. keeps_powers P i) r
  unfolding keeps_powers power_kept
  powers-all a = record { is = a.is }

  pub commutators-all : {r : Bool} → Settles i ps rows (λ P. all_below i (λ j. all_below j (commutator_kept P i j))) r → Settles i ps rows (λ P. keeps_commutators P i) r
  unfolding keeps_commutators commutator_kept
  commutators-all a = record { is = a.is }

  pub inner-all : {r : Bool} → Settles i ps rows (λ P. all_below i (inner_at P i)) r → Settles i ps rows (λ P. power_is_inner P i) r
  unfolding power_is_inner inner_at
  inner-all a = record { is = a.is }

  -- one test, and then another
  module _ {q : Presentation → Bool} {a : Bool} (q' : Presentation → Bool) (t : Settles i ps rows q a) where
    pub both-stops : {v : Bool} → v ≡ a → a ≡ false → Settles i ps rows (λ P. q P && q' P) v
    both-stops w e = record { is = λ C R B. w ∙ e ∙ ap (λ s. s && q' C.P) (sym e ∙ t.is C R B) }

    pub both-goes : {v b : Bool} → v ≡ b → a ≡ true → Settles i ps rows q' b → Settles i ps rows (λ P. q P && q' P) v
    both-goes w e u = record { is = λ C R B. w ∙ u.is C R B ∙ ap (λ s. s && q' C.P) (sym e ∙ t.is C R B) }

  pub tests-all : {b : Bool} → Settles i ps rows (λ P. keeps_powers P i && keeps_commutators P i && fixes_power P i && power_is_inner P i) b
      → Settles i ps rows (λ P. level_test P i) b
  unfolding level_test
  tests-all a = record { is = a.is }

-- the same, where what is read is known by equations
pub settled-of : {i : ℕ} {ps qs : List ℕ} {rows words : List (List ℕ)} {q : Presentation → Bool} {b : Bool} → ps ≡ qs → rows ≡ words
    → Settles i ps rows q b → Settles i qs words q b
settled-of {i} {ps} {qs} {rows} {words} {q} {b} f g s = subst (λ x. Settles i x words q b) f (subst (λ x. Settles i ps x q b) g s)
