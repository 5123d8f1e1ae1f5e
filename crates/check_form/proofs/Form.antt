-- A representation, a level, all levels, and with the heads of the lines the whole of 21.
--
--   body-matrices, body-blocks, body-refs, body-targets      a representation, test after test
--   ReadUpTo                    the first representations of a level pass
--   reading-fits, reading-next, reading-fails, reading-all      representation after representation
--   over-next                   level after level
--   form-heads, form-whole, form-levels      the heads, then the levels
--   ordered                    the orders of a presentation's levels
--   formed                     where the answer is yes, the table is formed
--   level-known                a level that passes 21
use mathlib.Core.Path.{◌≡◌, refl, sym, ◌∙◌, ap, ap₂, subst}
use mathlib.Core.Bool.{Bool, true, false, ◌&&◌, ◌||◌, not}
use mathlib.Core.List.{List}
use Prim.Native.Nat.{ℕ, suc, ◌+◌, ◌%◌, ◌≤◌, ◌<◌}
use native.Mathlib.Numerals.{add-one}
use native.Mathlib.Omega.{arith}
use lib.Dec.{eqb, ltb}
use lib.ListN.{length, get_or}
use borrow.Author.Tests.{not-true, not-false}
use Rattle.definitions.specs.Lists.{all_below}
use Rattle.definitions.specs.Presentation.{line_words, max_modulus, Presentation}
use Rattle.definitions.specs.Monomial.{valid, rep_of}
use Rattle.definitions.specs.Table.{rep_at, level_at, complete}
use Rattle.definitions.specs.Judgement.{everywhere, matrices_valid, blocks_whole, targets_listed, malformed}
use Rattle.numbers.proofs.Bools.{and_left, and_right}
use Rattle.numbers.proofs.Lists.{all_below-intro}
use Rattle.numbers.proofs.Tested.{Tested, tested-more, tested-all, tested-fails}
use Rattle.conditions.specs.Size.{LevelOrders}
use Rattle.conditions.proofs.Conditions.{orders_are}
use Rattle.clifford.specs.Passing.{OfEach}
use Rattle.heads.specs.Walk.{heads_ok}
use Rattle.heads.specs.Form.{body_ok}
use Rattle.heads.proofs.Form.{formed-body, form-decides}
use Rattle.heads.proofs.Going.{heads-complete}
use Rattle.level.specs.declared.Listed.{Listed}
use Rattle.level.specs.Stored.{generator_in}
use Rattle.seek.specs.declared.Scope.{Scope}
use Rattle.seek.specs.Seek.{Whole, Found}
use Rattle.seek.proofs.Seek.{found-above}
use Rattle.seek.specs.Formed.{Formed, Ordered}
use Rattle.seek.proofs.Halves.{lines-there}
use Rattle.check_heads.specs.Places.{orders_in, Scoped}
use Rattle.check_lines.specs.Lines.{refs_as, target_ok}
use Rattle.check_form.specs.Form.{listed_rep, blocks_ok, body, level_ok, LevelOver, Spans, TellsForm}

-- ---- A representation

module _ (n m : ℕ) (T : List ℕ) (i : ℕ) (D : Listed) where
  abbrev matrices : Bool
  matrices = all_below n (λ g. valid m D.deg (generator_in T D g))

  abbrev blocks : Bool
  blocks = blocks_ok (level_at n T i) (listed_rep T D)

  abbrev refs : Bool
  refs = all_below (suc i) (refs_as T D)

  abbrev targets : Bool
  targets = all_below n (λ j. ltb j (suc i) || target_ok T D (length (level_at n T (suc i))) j)

  body_is : (matrices && (blocks && refs) && targets) ≡ body n m T i (listed_rep T D)
  unfolding body
  body_is = refl

  pub body-matrices : all_below n (λ g. valid m D.deg (generator_in T D g)) ≡ false → false ≡ body n m T i (listed_rep T D)
  body-matrices a = sym (ap (λ t. t && (blocks && refs) && targets) a) ∙ body_is

  module _ (a : all_below n (λ g. valid m D.deg (generator_in T D g)) ≡ true) where
    pub body-blocks : blocks_ok (level_at n T i) (listed_rep T D) ≡ false → false ≡ body n m T i (listed_rep T D)
    body-blocks b = sym (ap₂ (λ t u. t && (u && refs) && targets) a b) ∙ body_is

    module _ (b : blocks_ok (level_at n T i) (listed_rep T D) ≡ true) where
      some-refs : (t : Bool) → all_below (i + 1) (refs_as T D) ≡ t → (t && targets) ≡ body n m T i (listed_rep T D)
      some-refs t e =
          sym (ap₂ (λ u v. (u && (v && refs)) && targets) a b
          ∙ ap (λ u. u && targets) (ap (λ k. all_below k (refs_as T D)) (sym (add-one i)) ∙ e)) ∙ body_is

      pub body-refs : all_below (i + 1) (refs_as T D) ≡ false → false ≡ body n m T i (listed_rep T D)
      body-refs e = some-refs false e

      pub body-targets : (many : ℕ) → many ≡ length (level_at n T (suc i)) → all_below (i + 1) (refs_as T D) ≡ true
          → all_below n (λ j. ltb j (i + 1) || target_ok T D many j) ≡ body n m T i (listed_rep T D)
      body-targets many q e = ap₂ (λ k c. all_below n (λ j. ltb j k || target_ok T D c j)) (add-one i) q ∙ some-refs true e

-- ---- A level

rep_is : (T : List ℕ) (D : Listed) → rep_at T D.line D.deg ≡ listed_rep T D
unfolding rep_at
rep_is T D = refl

module _ (s : Scope) (T : List ℕ) (i : ℕ) where
  abbrev count : ℕ
  count = length (level_at s.gens T (suc i))

  abbrev test : ℕ → Bool
  test r = body s.gens s.m T i (rep_of (level_at s.gens T (suc i)) r)

  -- the first r representations pass
  abbrev pub ReadUpTo : ℕ → Type 0
  ReadUpTo r = Tested (λ r. body s.gens s.m T i (rep_of (level_at s.gens T (suc i)) r)) r

  module _ {r : ℕ} {D : Listed} (F : Found s.gens T (i + 1) r D) where
    here : Found s.gens T (suc i) r D
    here = found-above F

    pub reading-fits : Spans s T D
    reading-fits = record { room = lines-there T _ here.inside; positive = here.positive }

    test-is : test r ≡ body s.gens s.m T i (listed_rep T D)
    test-is = ap (body s.gens s.m T i) (here.rep ∙ rep_is T D)

    pub reading-fails : ReadUpTo r → body s.gens s.m T i (listed_rep T D) ≡ false → false ≡ level_ok s.gens s.m T i
    reading-fails R h = tested-fails R here.listed (test-is ∙ h)

    pub reading-next : ReadUpTo r → body s.gens s.m T i (listed_rep T D) ≡ true → ReadUpTo (r + 1)
    reading-next R h = tested-more R (test-is ∙ h)

  pub reading-all : ReadUpTo (length (level_at s.gens T (i + 1))) → true ≡ level_ok s.gens s.m T i
  reading-all R = tested-all R (omega (arith, ap (λ k. length (level_at s.gens T k)) (add-one i)))

-- ---- Level after level

module _ (s : Scope) (T : List ℕ) (W : Whole s T) where
  pub over-next : (i many : ℕ) → i < s.gens → many ≡ length (level_at s.gens T (i + 1)) → LevelOver s T (suc i) many
  over-next i many l e = record { whole = W; level = l; counts = e ∙ ap (λ k. length (level_at s.gens T k)) (add-one i) }

-- ---- The whole of 21

pub ordered : (P : Presentation) (s : Scope) {primes orders : List ℕ} → s.gens ≡ P.n → ((j : ℕ) → j < s.gens → get_or primes j 0 ≡ P.p j)
    → LevelOrders primes s.gens orders → Ordered P s orders
ordered P s e is L = record { gens_are = e; orders_are = λ k l. orders_are P L is k (omega (arith, e)) }

module _ (s : Scope) (orders T : List ℕ) (C : Scoped s T) where
  abbrev ord : ℕ → ℕ
  ord = orders_in orders

  everywhere-is : (P : Presentation) (m : ℕ) → everywhere P m T (body_ok P m T) ≡ all_below P.n (level_ok P.n m T)
  unfolding everywhere body_ok blocks_whole targets_listed body
  everywhere-is P m = refl

  decides : (P : Presentation) → Ordered P s orders
      → (heads_ok s.gens T ord && all_below s.gens (level_ok s.gens s.m T)) ≡ not (malformed P s.m T)
  decides P O =
      ap (λ n. heads_ok n T ord && all_below n (level_ok n s.m T)) O.gens_are
      ∙ sym (form-decides P s.m T (subst (λ n. 0 < n) O.gens_are C.some) ord (λ k l. O.orders_are (suc k) l)
      ∙ ap (λ t. heads_ok P.n T ord && t) (everywhere-is P s.m))

  pub form-heads : heads_ok s.gens T (orders_in orders) ≡ false → TellsForm s orders T false
  form-heads h = record { is = λ P O. sym (ap (λ t. t && all_below s.gens (level_ok s.gens s.m T)) h) ∙ decides P O }

  module _ (h : heads_ok s.gens T (orders_in orders) ≡ true) where
    pub form-whole : Whole s T
    form-whole = record { lines_are = C.lines_are; some = C.some; few = C.few; all = heads-complete s.gens T ord C.some h }

    pub form-levels : (r : Bool) → r ≡ all_below s.gens (level_ok s.gens s.m T) → TellsForm s orders T r
    form-levels r e = record {
      is = λ P O.
          e ∙ sym (ap (λ t. t && all_below s.gens (level_ok s.gens s.m T)) h) ∙ decides P O;
    }

  pub formed : (P : Presentation) → Ordered P s orders → (0 < s.m) × (s.m ≤ max_modulus) → TellsForm s orders T true → Formed P s T
  unfolding malformed
  formed P O m F =
      let no : malformed P s.m T ≡ false = not-true (malformed P s.m T) (sym (F.is P O)) in
      let h = and_left (eqb (length T % line_words) 0 && complete P.n T) _ (not-false _ no) in
      let c = and_right (eqb (length T % line_words) 0) (complete P.n T) h in
      record {
        whole = record { lines_are = C.lines_are; some = C.some; few = C.few; all = subst (λ n. complete n T ≡ true) (sym O.gens_are) c };
        gens_are = O.gens_are;
        modulus = m;
        formed = no;
      }

-- a level of formed representations passes the tests beside the degrees
pub level-known : (s : Scope) (P : Presentation) → s.gens ≡ P.n → (T : List ℕ) (i : ℕ)
    → OfEach P T i (λ D. matrices_valid P s.m T (suc i) D && blocks_whole P s.m T (suc i) D && targets_listed P s.m T (suc i) D)
    → level_ok s.gens s.m T i ≡ true
unfolding body_ok blocks_whole targets_listed body
level-known s P e T i h =
    subst (λ n. level_ok n s.m T i ≡ true) (sym e)
    (all_below-intro (length (level_at P.n T (suc i))) (λ r. body P.n s.m T i (rep_of (level_at P.n T (suc i)) r))
    (λ r l. formed-body P s.m T (suc i) (rep_of (level_at P.n T (suc i)) r) (h r l)))
