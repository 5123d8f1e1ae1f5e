-- One input has at most one result: for each of the seven calls answer, count and the caller's whole buffer, and for each program the answer and
-- every byte that it prints. (That there is a result is what the proved functions show.)
--
--   call-unique                a call's answer and what it leaves
--   words-of-rows              the words of whole lines are those of their rows
--   table-says-unique          a table text is that of one table
--   accept-unique, measure-unique, commutative-unique, build-unique, check-unique, read-unique, write-unique      the calls
--   reptable-unique            what reptable answers to the bytes of its file, and what it prints
--   repcheck-unique            what repcheck answers to the bytes of its files, which is all that it prints
use mathlib.Core.Path.{◌≡◌, refl, sym, ◌∙◌, ap}
use mathlib.Core.Logic.{by_cases}
use mathlib.Core.Bool.{true, cond, and-eq-true_iff}
use mathlib.Core.List.{List, [], ◌∷◌, ◌++◌, map, append-nil, append_assoc, map-append}
use Prim.Native.Nat.{ℕ, zero, suc, ◌*◌, ◌/◌, ◌%◌}
use native.Mathlib.Nat.{div-add-mod', mul-suc}
use native.Mathlib.Decide.{ℕ_discrete}
use native.Mathlib.Omega.{arith}
use lib.ListN.{length, take, drop}
use lib.Seq.{take-add, take_all}
use lib.Dec.{eqb}
use borrow.Author.Tests.{eqb-true}
use Rattle.definitions.specs.Lists.{upto, blocks}
use Rattle.definitions.specs.Text.{Bytes, small}
use Rattle.definitions.specs.Presentation.{line_words, Relations, order, build_words, presentation}
use Rattle.definitions.specs.Table.{line_count, table_names, rows_of, table_text, writable}
use Rattle.definitions.specs.Steps.{table_of, top_degrees_one}
use Rattle.definitions.specs.Answers.{First, says, presentation_refusals, build_refusals, check_refusals, read_refusals, write_refusals, TableSays, over}
use Rattle.definitions.specs.Answers.{Leaves, Accept, Measure, Commutative, Build, Check, ReadTable, WriteTable}
use Rattle.definitions.specs.Programs.{answer_text, reptable_refusals, Reptable, repcheck_refusals, Repcheck}
use Rattle.definitions.proofs.Refusals.{first-unique}
use Rattle.definitions.proofs.Rendering.{Fields, above-plain, render-injective, says-unique}

-- ---- Answers and buffers

-- what a finished call leaves
abbrev Determined : {H B : Type 0} → (H → B → Type 0) → Type 0
Determined {H} {B} F = (h h' : H) (w w' : B) → F h w → F h' w' → (h ≡ h') × (w ≡ w')

module _ {H B : Type 0} {F : H → B → Type 0} (det : Determined F) {nothing : H} {before : B} {a a' : ℕ} {h h' : H} {w w' : B} where
  -- answer, what is handed over, and buffers
  call-unique : (cs : List (ℕ × Type 0)) → First cs a → First cs a' → Leaves F nothing before a h w → Leaves F nothing before a' h' w'
      → (a ≡ a') × (h ≡ h') × (w ≡ w')
  call-unique cs f f' p q =
      let e = first-unique cs a a' f f' in
      elim (ℕ_discrete a 0) [
        | yes z ↦ let r = det h h' w w' (p.finished z) (q.finished (sym e ∙ z)) in (e, r.0, r.1)
        | no z ↦ let x = p.refused z in let y = q.refused (λ z'. z (e ∙ z')) in (e, x.0 ∙ sym y.0, x.1 ∙ sym y.1)
      ]

-- ---- Table text

-- rows behind each other
unfoldable pub join : List (List ℕ) → List ℕ
join [] = []
join (r ∷ rs) = r ++ join rs

join-snoc : (rs : List (List ℕ)) (r : List ℕ) → join (rs ++ (r ∷ [])) ≡ join rs ++ r
unfolding join
join-snoc [] r = append-nil r
join-snoc (x ∷ rs) r = ap (λ t. x ++ t) (join-snoc rs r) ∙ sym (append_assoc x (join rs) r)

join-blocks : (f : ℕ → List ℕ) (k : ℕ) → join (map f (upto k)) ≡ blocks k f
unfolding join upto blocks
join-blocks f zero = refl
join-blocks f (suc k) = ap join (map-append f (upto k) (k ∷ [])) ∙ join-snoc (map f (upto k)) (f k) ∙ ap (λ t. t ++ f k) (join-blocks f k)

blocks-take : (w : ℕ) (T : List ℕ) (k : ℕ) → blocks k (λ l. take w (drop (w * l) T)) ≡ take (w * k) T
unfolding blocks
blocks-take w T zero = let e : 0 ≡ w * 0 = omega arith in ap (λ n. take n T) e
blocks-take w T (suc k) =
    ap (λ t. t ++ take w (drop (w * k) T)) (blocks-take w T k) ∙ sym (take-add (w * k) w T) ∙ ap (λ n. take n T) (sym (mul-suc w k))

pub words-of-rows : (T : List ℕ) → length T % line_words ≡ 0 → join (rows_of T) ≡ T
unfolding rows_of line_count line_words
words-of-rows T h =
    let e : line_words * (length T / line_words) ≡ length T = omega (arith, div-add-mod' (length T) 8) in
    join-blocks _ (length T / line_words) ∙ blocks-take line_words T (length T / line_words) ∙ ap (λ n. take n T) e ∙ take_all (length T) T (omega arith)

-- every byte of the names line is a letter
table_names-fields : Fields table_names
unfolding table_names
table_names-fields = search (above-plain, arith)

whole : (T : List ℕ) → writable T ≡ true → length T % line_words ≡ 0
unfolding writable
whole T h = eqb-true (length T % line_words) 0 ((and-eq-true_iff (eqb (length T % line_words) 0) (small T)).0 h).0

pub table-says-unique : (t : Bytes) (T T' : List ℕ) → TableSays t T → TableSays t T' → T ≡ T'
unfolding table_text
table-says-unique t T T' p q =
    let rows = render-injective table_names (rows_of T) (rows_of T') table_names-fields (sym p.written ∙ q.written) in
    sym (words-of-rows T (whole T p.formed)) ∙ ap join rows ∙ words-of-rows T' (whole T' q.formed)

-- ---- The calls

pub accept-unique : (t : Bytes) (a a' : ℕ) → Accept t a → Accept t a' → a ≡ a'
accept-unique t a a' = first-unique (presentation_refusals t) a a'

pub check-unique : (t : Bytes) (T : List ℕ) (a a' : ℕ) → Check t T a → Check t T a' → a ≡ a'
check-unique t T a a' = first-unique (check_refusals t (λ P. order P P.n) T) a a'

-- what is handed over is a number that the relations of the text give, and there is no buffer
said : (t : Bytes) (f : Relations → ℕ) → Determined (λ k (w : Unit {0}). says t (λ R. k ≡ f R))
said t f k k' w w' x y = (x.2 ∙ ap f (says-unique t x.0 y.0 x.1 y.1) ∙ sym y.2, refl)

pub measure-unique : (t : Bytes) (a a' k k' : ℕ) → Measure t a k → Measure t a' k' → (a ≡ a') × (k ≡ k')
measure-unique t a a' k k' p q =
    let u = call-unique (said t (λ R. build_words (presentation R))) (presentation_refusals t) p.answered q.answered p.leaves q.leaves in
    (u.0, u.1)

pub commutative-unique : (t : Bytes) (a a' v v' : ℕ) → Commutative t a v → Commutative t a' v' → (a ≡ a') × (v ≡ v')
commutative-unique t a a' v v' p q =
    let one : Relations → ℕ = λ R. cond (top_degrees_one (presentation R)) 1 0 in
    let u = call-unique (said t one) (presentation_refusals t) p.answered q.answered p.leaves q.leaves in (u.0, u.1)

pub build-unique : (t : Bytes) (before : List ℕ) (a a' k k' : ℕ) (w w' : List ℕ) → Build t before a k w → Build t before a' k' w'
    → (a ≡ a') × (k ≡ k') × (w ≡ w')
build-unique t before a a' k k' w w' p q = call-unique (λ k k' w w' x y.
    let e = ap (λ R. table_of (presentation R)) (says-unique t x.0 y.0 x.1 y.1) in
    (x.2.0 ∙ ap line_count e ∙ sym y.2.0, x.2.1 ∙ ap (over before) e ∙ sym y.2.1))
    (build_refusals t (length before)) p.answered q.answered p.leaves q.leaves

pub read-unique : (t : Bytes) (before : List ℕ) (a a' k k' : ℕ) (w w' : List ℕ) → ReadTable t before a k w → ReadTable t before a' k' w'
    → (a ≡ a') × (k ≡ k') × (w ≡ w')
read-unique t before a a' k k' w w' p q = call-unique (λ k k' w w' x y.
    let e = table-says-unique t x.0 y.0 x.1 y.1 in
    (x.2 ∙ ap line_count e ∙ sym y.2, x.3 ∙ ap (over before) e ∙ sym y.3))
    (read_refusals t (length before)) p.answered q.answered p.leaves q.leaves

pub write-unique : (T : List ℕ) (before : Bytes) (a a' k k' : ℕ) (w w' : Bytes) → WriteTable T before a k w → WriteTable T before a' k' w'
    → (a ≡ a') × (k ≡ k') × (w ≡ w')
write-unique T before a a' k k' w w' p q =
    call-unique (λ k k' w w' x y. (x.0 ∙ sym y.0, x.1 ∙ sym y.1)) (write_refusals T (length before))
    p.answered q.answered p.leaves q.leaves

-- ---- Programs

pub reptable-unique : (t : Bytes) (a a' : ℕ) (o o' : Bytes) → Reptable t a o → Reptable t a' o' → (a ≡ a') × (o ≡ o')
reptable-unique t a a' o o' p q =
    let e = first-unique (reptable_refusals t) a a' p.answered q.answered in (
      e,
      by_cases (ℕ_discrete a 0)
          (λ z.
          let (R, s, x) = p.printed z in
          let (R', s', y) = q.printed (sym e ∙ z) in
          x ∙ ap (λ R. table_text (table_of (presentation R))) (says-unique t R R' s s') ∙ sym y)
          (λ z. p.refused z ∙ ap answer_text e ∙ sym (q.refused (λ z'. z (e ∙ z')))),
    )

pub repcheck-unique : (g t : Bytes) (a a' : ℕ) → Repcheck g t a → Repcheck g t a' → a ≡ a'
repcheck-unique g t a a' = first-unique (repcheck_refusals g t) a a'
