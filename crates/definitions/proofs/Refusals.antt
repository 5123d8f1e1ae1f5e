-- Laws of lists of refusals: which number is the first that applies.
--
--   numbered cs           no refusal of the list has the number 0
--   None cs               none of the list applies
--   first-unique          the first that applies has one number
--   first-none, none_first     the answer is 0 exactly if none applies
--   none-front, none-back      none of a list and what stands behind it: none of either
--   first-refused         a refusal is one of every call whose refusals begin so
--   first-behind          where none of them applies, such a call answers by what stands behind
--   first_rest            and its answer is theirs
--   first-same            conditions that apply alike have the same first
--   refusal-numbers       the numbers of each list, in the order in which they are tried
--   first-tests           conditions that are decided by tests: the first is that of the tests
--   unsaid                a test that no relations said by a text meet
--   Unrefused             none of 11 to 15 applies to a text
--   accept-unrefused, build-unrefused     as where accept or build answers 0
--   check-judged          the check of any table for such a text answers the judgement's number
--   leaves-refused, leaves-finished     what a refused call leaves, and a finished one
use mathlib.Core.Path.{◌≡◌, refl, sym, ◌∙◌, ap, subst}
use mathlib.Core.Logic.{◌↔◌, inl, inr}
use mathlib.Core.Bool.{Bool, true, false, ◌&&◌, cond, false≢true, not-eq-not, and-eq-true_iff}
use mathlib.Core.List.{List, [], ◌∷◌, ◌++◌, map}
use Prim.Native.Nat.{ℕ}
use native.Mathlib.Omega.{arith}
use lib.Dec.{ltb}
use borrow.Author.Tests.{ltb-true}
use Rattle.definitions.specs.Text.{Bytes}
use Rattle.definitions.specs.Presentation.{Presentation, Relations, Says, presentation}
use Rattle.definitions.specs.Answers.{First, first_of, says, presentation_refusals, short, build_refusals, judgements, table_refusals, check_refusals}
use Rattle.definitions.specs.Answers.{judgement, read_refusals, write_refusals, Leaves, Accept}
use Rattle.definitions.proofs.Rendering.{says-unique}

pub first-unique : (cs : List (ℕ × Type 0)) (a b : ℕ) → First cs a → First cs b → a ≡ b
first-unique [] a b p q = p ∙ sym q
first-unique (c ∷ cs) a b (inl p) (inl q) = p.1 ∙ sym q.1
first-unique (c ∷ cs) a b (inl p) (inr q) = absurd (q.0 p.0)
first-unique (c ∷ cs) a b (inr p) (inl q) = absurd (p.0 q.0)
first-unique (c ∷ cs) a b (inr p) (inr q) = first-unique cs a b p.1 q.1

-- ---- The numbers

abbrev numbers : List (ℕ × Type 0) → List ℕ
numbers cs = map (λ (c : ℕ × Type 0). c.0) cs

pub refusal-numbers : (t : Bytes) (have : ℕ) (modulus : Presentation → ℕ) (T : List ℕ)
    → (numbers (presentation_refusals t) ≡ 11 ∷ 12 ∷ 13 ∷ 14 ∷ 15 ∷ [])
    × (numbers (build_refusals t have) ≡ 11 ∷ 12 ∷ 13 ∷ 14 ∷ 15 ∷ 16 ∷ [])
    × (numbers (check_refusals t modulus T) ≡ 11 ∷ 12 ∷ 13 ∷ 14 ∷ 15 ∷ 21 ∷ 22 ∷ 23 ∷ 24 ∷ 25 ∷ 26 ∷ [])
    × (numbers (read_refusals t have) ≡ 16 ∷ 20 ∷ [])
    × (numbers (write_refusals T have) ≡ 21 ∷ 16 ∷ [])
    × (map (λ (q : ℕ × (Presentation → ℕ → List ℕ → Bool)). q.0) judgements ≡ 21 ∷ 22 ∷ 23 ∷ 24 ∷ 25 ∷ 26 ∷ [])
refusal-numbers t have modulus T = (refl, refl, refl, refl, refl, refl)

-- ---- None applies

abbrev pub numbered : List (ℕ × Type 0) → Bool
numbered [] = true
numbered (c ∷ cs) = ltb 0 c.0 && numbered cs

abbrev pub None : List (ℕ × Type 0) → Type 0
None [] = Unit {0}
None (c ∷ cs) = (¬ c.1) × None cs

pub first-none : (cs : List (ℕ × Type 0)) → numbered cs ≡ true → First cs 0 → None cs
first-none [] q f = tt
first-none (c ∷ cs) q (inl h) = absurd (omega (arith, ltb-true 0 c.0 ((and-eq-true_iff (ltb 0 c.0) (numbered cs)).0 q).0, h.1))
first-none (c ∷ cs) q (inr h) = (h.0, first-none cs ((and-eq-true_iff (ltb 0 c.0) (numbered cs)).0 q).1 h.1)

pub none_first : (cs : List (ℕ × Type 0)) → None cs → First cs 0
none_first [] h = refl
none_first (c ∷ cs) h = inr (h.0, none_first cs h.1)

-- ---- Refusals behind refusals

pub none-front : (cs more : List (ℕ × Type 0)) → None (cs ++ more) → None cs
none-front [] more h = tt
none-front (c ∷ cs) more h = (h.0, none-front cs more h.1)

pub none-back : (cs more : List (ℕ × Type 0)) → None (cs ++ more) → None more
none-back [] more h = h
none-back (c ∷ cs) more h = none-back cs more h.1

module _ (more : List (ℕ × Type 0)) (a : ℕ) where
  pub first-refused : (cs : List (ℕ × Type 0)) → First cs a → ¬ (a ≡ 0) → First (cs ++ more) a
  first-refused [] f n = absurd (n f)
  first-refused (c ∷ cs) (inl h) n = inl h
  first-refused (c ∷ cs) (inr (h, f)) n = inr (h, first-refused cs f n)

  pub first-behind : (cs : List (ℕ × Type 0)) → None cs → First more a → First (cs ++ more) a
  first-behind [] h g = g
  first-behind (c ∷ cs) h g = inr (h.0, first-behind cs h.1 g)

  pub first_rest : (cs : List (ℕ × Type 0)) → None cs → First (cs ++ more) a → First more a
  first_rest [] h f = f
  first_rest (c ∷ cs) h (inl f) = absurd (h.0 f.0)
  first_rest (c ∷ cs) h (inr f) = first_rest cs h.1 f.1

module _ {X : Type 0} (C D : X → Type 0) (to : (x : X) → C x → D x) (from : (x : X) → D x → C x) (a : ℕ) where
  pub first-same : (qs : List (ℕ × X)) → First (map (λ (q : ℕ × X). (q.0, C q.1)) qs) a → First (map (λ (q : ℕ × X). (q.0, D q.1)) qs) a
  first-same [] f = f
  first-same (q ∷ qs) (inl f) = inl (to q.1 f.0, f.1)
  first-same (q ∷ qs) (inr f) = inr (λ d. f.0 (from q.1 d), first-same qs f.1)

-- ---- Conditions that compute

first-test : {C : Type 0} (b : Bool) (k a : ℕ) (cs : List (ℕ × Type 0)) → (C → b ≡ true) → (b ≡ true → C) → First cs a → First ((k, C) ∷ cs) (cond b k a)
first-test true k a cs to from f = inl (from refl, refl)
first-test false k a cs to from f = inr (λ c. false≢true (to c), f)

module _ {X : Type 0} (C : X → Type 0) (b : X → Bool) (to : (x : X) → C x → b x ≡ true) (from : (x : X) → b x ≡ true → C x) where
  pub first-tests : (qs : List (ℕ × X)) → First (map (λ (q : ℕ × X). (q.0, C q.1)) qs) (first_of (map (λ (q : ℕ × X). (q.0, b q.1)) qs))
  unfolding first_of
  first-tests [] = refl
  first-tests (q ∷ qs) = first-test (b q.1) q.0 _ (map (λ (q : ℕ × X). (q.0, C q.1)) qs) (to q.1) (from q.1) (first-tests qs)

-- ---- Texts that none of 11 to 15 refuses

-- a test that applies to no relations said by t fails for those that it says
pub unsaid : {t : Bytes} (f : Relations → Bool) {R : Relations} → Says t R → ¬ says t (λ (Q : Relations). f Q ≡ true) → f R ≡ false
unsaid f {R} s h = not-eq-not.0 (λ e. h (R, s, e))

abbrev pub Unrefused : Bytes → Type 0
Unrefused t = None (presentation_refusals t)

pub accept-unrefused : (t : Bytes) → Accept t 0 → Unrefused t
accept-unrefused t f = first-none (presentation_refusals t) refl f

pub build-unrefused : (t : Bytes) (have : ℕ) → First (build_refusals t have) 0 → Unrefused t
build-unrefused t have f = none-front (presentation_refusals t) (short t have) (first-none (build_refusals t have) refl f)

module _ (t : Bytes) (U : Unrefused t) (R : Relations) (s : Says t R) (modulus : Presentation → ℕ) (T : List ℕ) where
  abbrev Test : Type 0
  Test = Presentation → ℕ → List ℕ → Bool

  -- the test of what a text says
  abbrev judges : Test → Relations → Bool
  judges q Q = q (presentation Q) (modulus (presentation Q)) T

  judged : First (check_refusals t modulus T) (judgement (presentation R) (modulus (presentation R)) T)
  unfolding judgement
  judged = first-behind (table_refusals t modulus T) _ (presentation_refusals t) U
      (first-tests (λ (q : Test). says t (λ Q. judges q Q ≡ true)) (λ (q : Test). judges q R)
      (λ q (Q, z, e). ap (judges q) (says-unique t R Q s z) ∙ e) (λ q e. (R, s, e)) judgements)

  pub check-judged : (a : ℕ) → First (check_refusals t modulus T) a ↔ (a ≡ judgement (presentation R) (modulus (presentation R)) T)
  check-judged a = (λ f. first-unique (check_refusals t modulus T) a _ f judged, λ e. subst (First (check_refusals t modulus T)) (sym e) judged)

-- ---- What a call leaves

module _ {H B : Type 0} {Finished : H → B → Type 0} {nothing : H} {before : B} where
  pub leaves-refused : {answer : ℕ} → ¬ (answer ≡ 0) → Leaves Finished nothing before answer nothing before
  leaves-refused h = record { finished = λ z. absurd (h z); refused = λ n. (refl, refl) }

  pub leaves-finished : {handed : H} {after : B} → Finished handed after → Leaves Finished nothing before 0 handed after
  leaves-finished f = record { finished = λ z. f; refused = λ n. absurd (n refl) }
