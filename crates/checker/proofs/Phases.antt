-- From the answers of the phases to the number of the judgement.
--
--   found-22, found-22-top, found-23, found-24, found-25, found-26, found_none     the answers behind 21
--   known-form, found-fitting                                                     what the quick test says of the levels
--   found-21, sorted_of, found-formed                                             21, and what is known where it does not apply
use mathlib.Core.Path.{◌≡◌, sym, ◌∙◌, ap, subst}
use mathlib.Core.Bool.{Bool, true, false, not}
use mathlib.Core.List.{List}
use Prim.Native.Nat.{ℕ, suc, ◌/◌, ◌≤◌, ◌<◌}
use native.Mathlib.Omega.{arith}
use lib.Dec.{eqb}
use lib.ListN.{length}
use borrow.Author.Tests.{not-false}
use Rattle.definitions.specs.Lists.{all_below}
use Rattle.definitions.specs.Presentation.{max_modulus, Presentation, order}
use Rattle.definitions.specs.Monomial.{Rep}
use Rattle.definitions.specs.Judgement.{everywhere, every_level, relation_fails, relations_hold, restricts, intertwiners_hold, malformed, squares}
use Rattle.definitions.specs.Answers.{judgement}
use Rattle.numbers.proofs.Lists.{all_below-intro}
use Rattle.conditions.specs.Size.{LevelOrders}
use Rattle.clifford.specs.Accepted.{Accepted}
use Rattle.clifford.specs.Passing.{OfEach, LevelPasses}
use Rattle.clifford.proofs.Passing.{all_pass}
use Rattle.heads.specs.Walk.{heads_ok}
use Rattle.heads.proofs.Going.{heads-whole, heads-complete}
use Rattle.rows.specs.Rows.{Ranged, Reads}
use Rattle.separation.specs.Relations.{top_relations}
use Rattle.separation.specs.Decision.{pairwise}
use Rattle.separation.proofs.Verdict.{judged-21, judged-22, judged-22-top, judged-23, judged-24, judged-25, judged-26, judged-0, separated-pairs}
use Rattle.separation.proofs.Relations.{on-top}
use Rattle.seek.specs.declared.Scope.{Scope}
use Rattle.seek.specs.Formed.{Ordered}
use Rattle.seek.specs.Among.{on_level, PassesFirst}
use Rattle.check_heads.specs.Places.{orders_in, Scoped}
use Rattle.check_heads.proofs.Places.{counted}
use Rattle.check_form.specs.Form.{FormBehind, TellsForm}
use Rattle.check_form.proofs.Form as form
use Rattle.check_relations.specs.Asked.{RepTest, PosedBehind, Everywhere}
use Rattle.check_blocks.specs.Blocks.{Restricted}
use Rattle.check_blocks.specs.Squares.{AddsUp}
use Rattle.check_pairs.specs.Pairs.{AllSeparated}
use Rattle.check_fit.specs.Fit.{FittingLevels}
use Rattle.checker.specs.Judged.{Task, Judged, Sorted, JudgedFormed}

-- ---- Levels that pass

module _ {P : Presentation} {m : ℕ} {T : List ℕ} {k : ℕ} (passed : (i : ℕ) → i < k → LevelPasses P m T i) {n : ℕ} (gens : n ≡ P.n) where
  -- a condition that each of them meets
  passes-first : (q : ℕ → Rep → Bool) → ((i : ℕ) → LevelPasses P m T i → OfEach P T i (q (suc i))) → PassesFirst n T q k
  unfolding on_level
  passes-first q h i l = subst (λ n. on_level n T q (suc i) ≡ true) (sym gens) (all_below-intro _ _ (h i (passed i l)))

-- ---- Behind 21

module _ {s : Scope} {rows : List (List ℕ)} {primes orders T : List ℕ} {k : ℕ} where
  module _ (A : Accepted) (S : Sorted A s rows primes orders T k) where
    abbrev P : Presentation
    P = A.C.P

    formed-of : malformed A.C.P s.m T ≡ false
    formed-of = S.posed.formed.formed

    positive : 0 < s.m
    positive = S.posed.formed.modulus.0

    first : (q : ℕ → Rep → Bool) → ((i : ℕ) → LevelPasses A.C.P s.m T i → OfEach A.C.P T i (q (suc i))) → PassesFirst s.gens T q k
    first = passes-first S.passed S.posed.formed.gens_are

    posed-behind : (q : RepTest) → ((i : ℕ) → LevelPasses A.C.P s.m T i → OfEach A.C.P T i (q A.C.P s.m T (suc i)))
        → PosedBehind q s rows primes T k A.C.P
    posed-behind q h = record { posed = S.posed; known = first (q P s.m T) h }

  module _ (restricted : Bool) (acts : Restricted s T k restricted) where
    acts-is : (A : Accepted) → Sorted A s rows primes orders T k → everywhere A.C.P s.m T (restricts A.C.P s.m T) ≡ restricted
    acts-is A S =
        sym (acts.is A.C.P (record { formed = S.posed.formed; known = first A S (restricts A.C.P s.m T) (λ i L. L.restrictions) }))

    module _ (all : Bool) (relations : Everywhere relations_hold s rows primes T k all) where
      all-is : (A : Accepted) → Sorted A s rows primes orders T k → everywhere A.C.P s.m T (relations_hold A.C.P s.m T) ≡ all
      all-is A S = sym (relations.is A.C.P (posed-behind A S relations_hold (λ i L. L.relations)))

      pub found-22 : all ≡ false → JudgedFormed s rows primes orders T k 22
      found-22 e = record { is = λ A S. sym (judged-22 A s.m (positive A S) T (formed-of A S) (all-is A S ∙ e)) }

      pub found-23 : restricted ≡ false → all ≡ true → JudgedFormed s rows primes orders T k 23
      unfolding relation_fails
      found-23 r e = record {
        is = λ A S. sym (judged-23 A s.m (positive A S) T (formed-of A S) (ap not (all-is A S ∙ e)) (acts-is A S ∙ r));
      }

    module _ (r : restricted ≡ true) (top : Bool) (tops : Everywhere top_relations s rows primes T k top) where
      top_is : (A : Accepted) → Sorted A s rows primes orders T k → everywhere A.C.P s.m T (top_relations A.C.P s.m T) ≡ top
      top_is A S =
          sym (tops.is A.C.P (posed-behind A S top_relations (λ i L r h. on-top A.C.P s.m T i _ (L.relations r h))))

      pub found-22-top : top ≡ false → JudgedFormed s rows primes orders T k 22
      found-22-top e = record {
        is = λ A S. sym (judged-22-top A s.m (positive A S) T (formed-of A S) (acts-is A S ∙ r) (top_is A S ∙ e));
      }

      module _ (t : top ≡ true) (twine : Bool) (twines : Everywhere intertwiners_hold s rows primes T k twine) where
        twine-is : (A : Accepted) → Sorted A s rows primes orders T k → everywhere A.C.P s.m T (intertwiners_hold A.C.P s.m T) ≡ twine
        twine-is A S = sym (twines.is A.C.P (posed-behind A S intertwiners_hold (λ i L. L.intertwiners)))

        pub found-24 : twine ≡ false → JudgedFormed s rows primes orders T k 24
        found-24 e = record {
          is = λ A S. sym (judged-24 A s.m (positive A S) T (formed-of A S) (acts-is A S ∙ r) (top_is A S ∙ t) (twine-is A S ∙ e));
        }

        module _ (w : twine ≡ true) (apart : Bool) (pairs : AllSeparated s primes T k apart) where
          apart-is : (A : Accepted) → Sorted A s rows primes orders T k → all_below A.C.P.n (pairwise A.C.P T) ≡ apart
          apart-is A S = sym (pairs.is A.C.P (record {
            primed = record { formed = S.posed.formed; prime = S.posed.reads.p_is };
            known =
                separated-pairs A s.m (positive A S) T (formed-of A S) (acts-is A S ∙ r) (top_is A S ∙ t) k S.within
                (λ i l. (S.passed i l).separated);
          }))

          pub found-25 : apart ≡ false → JudgedFormed s rows primes orders T k 25
          found-25 e = record {
            is = λ A S.
                sym (judged-25 A s.m (positive A S) T (formed-of A S) (acts-is A S ∙ r) (top_is A S ∙ t) (twine-is A S ∙ w) (apart-is A S ∙ e));
          }

          module _ (a : apart ≡ true) (square : Bool) (sums : AddsUp s orders T k square) where
            square-is : (A : Accepted) → Sorted A s rows primes orders T k
                → every_level A.C.P s.m T (λ i. eqb (squares A.C.P s.m T i) (order A.C.P i)) ≡ square
            square-is A S = sym (sums.is A.C.P (record { ordered = S.ordered; known = λ i l. (S.passed i l).adds_up }))

            pub found-26 : square ≡ false → JudgedFormed s rows primes orders T k 26
            found-26 e = record {
              is = λ A S.
                  sym (judged-26 A s.m (positive A S) T (formed-of A S) (acts-is A S ∙ r) (top_is A S ∙ t) (twine-is A S ∙ w) (apart-is A S ∙ a)
                  (square-is A S ∙ e));
            }

            pub found_none : square ≡ true → JudgedFormed s rows primes orders T k 0
            found_none e = record {
              is = λ A S.
                  sym (judged-0 A s.m (positive A S) T (formed-of A S) (acts-is A S ∙ r) (top_is A S ∙ t) (twine-is A S ∙ w) (apart-is A S ∙ a)
                  (square-is A S ∙ e));
            }

-- ---- 21

module _ (T : List ℕ) {n m : ℕ} {rows : List (List ℕ)} {primes : List ℕ} (s : Scope) (lines : s.lines ≡ length T / 8) (gens : s.gens ≡ n)
    (modulus : s.m ≡ m) where
  pub counted_of : (A : Accepted) → Task A n m rows primes → Scoped s T
  counted_of A K = counted s T lines (omega (arith, gens, K.gens_are, A.positive)) (omega (arith, gens, K.ready.few))

  module _ {orders : List ℕ} (levels : LevelOrders primes n orders) {k : ℕ} (fit : FittingLevels s rows primes orders T k) where
    module _ (A : Accepted) (K : Task A n m rows primes) where
      gens_are : s.gens ≡ A.C.P.n
      gens_are = gens ∙ K.gens_are

      form-ordered : Ordered A.C.P s orders
      form-ordered =
          form.ordered A.C.P s gens_are (λ j l. K.reads.p_is j (omega (arith, gens)))
          (subst (λ k. LevelOrders primes k orders) (sym gens) levels)

      fitting : (i : ℕ) → i < k → LevelPasses A.C.P s.m T i
      fitting = fit.pass A (subst (λ k. Reads A.C.P k primes rows) (sym gens) K.reads) form-ordered

      -- what is known of 21 then
      pub known-form : FormBehind s orders T k
      known-form = record {
        heads = fit.heads;
        levels = record { within = fit.within; known = λ i l. form.level-known s A.C.P gens_are T i (fitting i l).formed };
      }

    -- all levels are counted
    pub found-fitting : k ≡ n → Judged n m rows primes T 0
    found-fitting e = record {
      is = λ A K.
          let P : Presentation = A.C.P in
          let all : k ≡ P.n = e ∙ K.gens_are in
          let h : heads_ok P.n T (orders_in orders) ≡ true
          = subst (λ n. heads_ok n T (orders_in orders) ≡ true) (gens_are A K) (fit.heads (omega (arith, all, A.positive))) in
          sym (ap (λ m. judgement P m T) (sym modulus)
          ∙ all_pass P s.m T (λ i l. fitting A K i (omega (arith, all))) (heads-whole P.n T _ h) (heads-complete P.n T _ A.positive h));
    }

    pub found-21 : TellsForm s orders T false → Judged n m rows primes T 21
    found-21 F = record {
      is = λ A K.
          let e : malformed A.C.P s.m T ≡ true = not-false _ (sym (F.is A.C.P (form-ordered A K))) in
          sym (judged-21 A m K.modulus.0 T (subst (λ m. malformed A.C.P m T ≡ true) modulus e));
    }

    module _ (F : TellsForm s orders T true) where
      pub sorted_of : (A : Accepted) → Task A n m rows primes → Sorted A s rows primes orders T k
      sorted_of A K = record {
        posed = record {
          formed =
              form.formed s orders T (counted_of A K) A.C.P (form-ordered A K)
              (subst (λ m. (0 < m) × (m ≤ max_modulus)) (sym modulus) K.modulus) F;
          ready = subst (λ k. Ranged k primes rows) (sym gens) K.ready;
          reads = subst (λ k. Reads A.C.P k primes rows) (sym gens) K.reads;
        };
        ordered = form-ordered A K;
        within = subst (λ n. k ≤ n) (gens_are A K) fit.within;
        passed = fitting A K;
      }

      pub found-formed : {a : ℕ} → JudgedFormed s rows primes orders T k a → Judged n m rows primes T a
      found-formed J = record { is = λ A K. J.is A (sorted_of A K) ∙ ap (λ m. judgement A.C.P m T) modulus }
