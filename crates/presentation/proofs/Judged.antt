-- The answers to a whole text: what it says, and which refusals apply to that.
--
--   unnamed, unlined            no names line or no lines: the text is not in the form
--   relations_of, says-them      the relations that the lines say
--   unheld                      nothing is held beside a refusal
--   refused-form, not-prime, too_many, concluded     the answers 11, 12, 13, and what `Concluded` says
--   primes-positive             a prime is not 0
use mathlib.Core.Path.{◌≡◌, refl, sym, ap, ap₂, subst, subst₂, ◌∙◌}
use mathlib.Core.Logic.{inl, inr}
use mathlib.Core.Bool.{Bool, true, false, ◌&&◌, ◌||◌, not, cond, false≢true}
use mathlib.Core.List.{List, [], ◌++◌}
use Prim.Native.Nat.{ℕ, zero, suc, ◌<◌, ◌≤◌}
use native.Mathlib.Omega.{arith}
use lib.ListN.{length, get_or, drop}
use lib.Dec.{ltb, leb, eqb}
use borrow.Author.Tests.{lt-ltb, le-ltb, leb-true, leb-false}
use Rattle.definitions.specs.Lists.{all}
use Rattle.definitions.specs.Text.{Bytes, line, render}
use Rattle.definitions.specs.Presentation.{max_generators, max_order, pair_count}
use Rattle.definitions.specs.Presentation.{Relations, Says, InForm, text_of, presentation_names, pairs, pair_number, row_of, presentation, order, is_prime}
use Rattle.definitions.specs.Presentation.{some_not_prime, too_large, misused, row_well}
use Rattle.definitions.specs.Answers.{says}
use Rattle.definitions.proofs.Rendering.{row_formed, well_formed-formed, formed-well_formed, line-unique, presentation_names-fields, presentation_names-injective}
use Rattle.definitions.proofs.Rendering.{says-unique}
use Rattle.numbers.proofs.Lists.{all_below-intro, all_below-fails, all_below-below}
use Rattle.group.proofs.Pairs.{length_pairs, pair_number-below}
use Rattle.group.proofs.Rows.{to_nf-ext}
use Rattle.group.proofs.Context.{exponent-unused}
use Rattle.rows.specs.Rows.{Reads}
use Rattle.rows.proofs.Pairs.{pair-below}
use Rattle.std.specs.Prelude.{Result, Err}
use Rattle.results.specs.declared.Refusal.{Refusal}
use Rattle.results.specs.declared.Refusal.TheVariants.{PresentationForm, NotPrime, TooLarge}
use Rattle.results.specs.Numbers.{answer}
use Rattle.presentation.specs.declared.ReadPresentation.{ReadPresentation}
use Rattle.reader.specs.Lines.{NamesLine, NoNames}
use Rattle.reader.specs.Rows.{no_row, row_text, AllLines, NoLines}
use Rattle.conditions.specs.Conditions.{product, entry_well, row_wells, pair_well, all_well, Primes}
use Rattle.presentation.specs.Outcome.{Held, ReadText, Concluded}
use Rattle.conditions.proofs.Primes.{not-prime-small}
use Rattle.conditions.proofs.Conditions.{product-order}

-- what has the number of a refusal holds nothing
unheld : {k a : ℕ} → a ≡ suc k → a ≡ 0 → ⊥
unheld e z = omega (arith, e, z)

-- ---- Texts that are not in the form

text-parts : (R : Relations) → text_of R ≡ line (presentation_names R.n) ++ row_text R.n R.rows
unfolding text_of render row_text
text-parts R = refl

pub unnamed : {t : Bytes} → NoNames t → ¬ InForm t
unnamed h (R, s) =
    let f = well_formed-formed R s.formed in
    h.none R.n (row_text R.n R.rows) f.some f.few (s.written ∙ text-parts R)

pub unlined : {t : Bytes} {n next : ℕ} → NamesLine t n next → NoLines t next n → ¬ InForm t
unlined {t} {n} {next} nm h (R, s) =
    let f = well_formed-formed R s.formed in
    let u = line-unique (presentation_names n) (presentation_names R.n) (drop next t) (row_text R.n R.rows)
    (presentation_names-fields n) (presentation_names-fields R.n) (sym nm.text ∙ s.written ∙ text-parts R) in
    let q : R.n ≡ n = sym (presentation_names-injective n R.n u.0) in
    h.none R.rows (f.one_each ∙ ap (λ (m : ℕ). length (pairs m)) q) (subst (λ (m : ℕ). all (row_formed m) R.rows ≡ true) q f.formed_each)
    (u.1 ∙ ap (λ (m : ℕ). row_text m R.rows) q)

-- ---- Texts that are in the form

-- a test that the relations of a text fail fails for whatever the text says
unsaid : {t : Bytes} {R : Relations} (f : Relations → Bool) → Says t R → f R ≡ false → ¬ says t (λ (Q : Relations). f Q ≡ true)
unsaid {t} {R} f s q (Q, h, w) = false≢true (sym q ∙ ap f (says-unique t R Q s h) ∙ w)

module _ {t : Bytes} {n next : ℕ} (nm : NamesLine t n next) {rows : List (List ℕ)} {ps : List ℕ} {flag : Bool} (al : AllLines t next n rows ps flag) where
  abbrev pub relations_of : Relations
  relations_of = record { n = n; rows = al.lines }

  pub says-them : Says t relations_of
  says-them =
      record {
        formed = formed-well_formed relations_of (record { some = nm.some; few = nm.few; one_each = al.count; formed_each = al.formed });
        written = nm.text ∙ ap (λ (xs : Bytes). line (presentation_names n) ++ xs) al.text ∙ sym (text-parts relations_of);
      }

  in-form : ¬ ¬ InForm t
  in-form h = h (relations_of, says-them)

  -- ---- The primes

  all-prime : flag ≡ true → some_not_prime relations_of ≡ false
  unfolding some_not_prime presentation row_of
  all-prime q = ap not (all_below-intro n (λ j. is_prime (get_or al.lines (pair_number j j) no_row).p) (al.prime q))

  pub not-prime : {p : ReadPresentation} → flag ≡ false → ReadText t (Err NotPrime) p
  unfolding some_not_prime presentation row_of
  not-prime q =
      let c = al.composite q in
      let w : some_not_prime relations_of ≡ true = ap not (all_below-fails n (λ j. is_prime (get_or al.lines (pair_number j j) no_row).p) c.0 c.1 c.2) in
      record { answered = inr (in-form, inl ((relations_of, says-them, w), refl)); held = λ z. absurd (unheld refl z) }

  pub primes-positive : flag ≡ true → n ≤ max_generators → (j : ℕ) → j < n → 0 < get_or ps (pair_number j j) 0
  primes-positive q few j l =
      let r : get_or ps (pair_number j j) 0 ≡ (get_or al.lines (pair_number j j) no_row).p =
      al.stored.p_kept (pair_number j j) (omega (arith, al.count, length_pairs n, pair_number-below n j j (omega arith) l))
      (pair-below j j (omega arith) (omega arith)) in
      pick (get_or al.lines (pair_number j j) no_row).p (al.prime q j l) r
    where
      pick : (p : ℕ) → is_prime p ≡ true → get_or ps (pair_number j j) 0 ≡ p → 0 < get_or ps (pair_number j j) 0
      pick zero h r = absurd (false≢true (sym (not-prime-small 0 (omega arith)) ∙ h))
      pick (suc p) h r = omega arith

  -- ---- More generators than the ceiling

  pub too_many : {p : ReadPresentation} → flag ≡ true → max_generators < n → ReadText t (Err TooLarge) p
  unfolding too_large
  too_many q l =
      let w : too_large relations_of ≡ true = ap (λ (b : Bool). b || ltb max_order (order (presentation relations_of) n)) (lt-ltb max_generators n l) in
      record {
        answered = inr (in-form, inr (unsaid some_not_prime says-them (all-prime q), inl ((relations_of, says-them, w), refl)));
        held = λ z. absurd (unheld refl z);
      }

  -- ---- At most as many

  module _ (few : n ≤ max_generators) {primes : List ℕ} (are : Primes ps n primes) where
    row_within : (j i : ℕ) → j < n → i ≤ j → pair_number j i < length al.lines
    row_within j i l m = omega (arith, al.count, length_pairs n, pair_number-below n j i m l)

    row_kept : (j i : ℕ) → j < n → i ≤ j → pair_number j i < pair_count
    row_kept j i l m = pair-below j i m (omega arith)

    p_is : (j i : ℕ) → j < n → i ≤ j → get_or ps (pair_number j i) 0 ≡ (row_of relations_of j i).p
    unfolding row_of
    p_is j i l m = al.stored.p_kept (pair_number j i) (row_within j i l m) (row_kept j i l m)

    prime_is : (j : ℕ) → j < n → get_or primes j 0 ≡ (row_of relations_of j j).p
    prime_is j l = are.each j l ∙ p_is j j l (omega arith)

    word-is : (j i : ℕ) → j < n → i ≤ j → (k : ℕ) → k < max_generators → get_or (get_or rows (pair_number j i) []) k 0 ≡ get_or (row_of relations_of j i).word k 0
    unfolding row_of
    word-is j i l m k b = al.stored.word_kept (pair_number j i) (row_within j i l m) (row_kept j i l m) k b

    order_is : order (presentation relations_of) n ≡ product primes n
    unfolding presentation
    order_is = sym (product-order (presentation relations_of) primes n prime_is n (omega arith))

    too_large_lem : too_large relations_of ≡ ltb max_order (product primes n)
    unfolding too_large
    too_large_lem =
        ap (λ (b : Bool). b || ltb max_order (order (presentation relations_of) n)) (le-ltb max_generators n few)
        ∙ ap (ltb max_order) order_is

    pair_is : (j i : ℕ) → j < n → i ≤ j → pair_well rows ps primes n j i ≡ row_well relations_of j i
    unfolding pair_well row_wells row_well presentation
    pair_is j i l m =
        ap₂ (λ (a b : Bool). a && b) (ap (λ (p : ℕ). eqb i j || eqb p 0) (p_is j i l m))
        (all_below-below n _ _ (λ k b. ap₂ (λ (e p : ℕ). entry_well e p j i k) (word-is j i l m k (omega arith)) (prime_is k b)))

    misused-is : misused relations_of ≡ not (all_well rows ps primes n)
    unfolding misused
    misused-is = ap not (sym (all_below-below n _ _ (λ j l. all_below-below (suc j) _ _ (λ i b. pair_is j i l (omega arith)))))

    rows-read : misused relations_of ≡ false → Reads (presentation relations_of) n primes rows
    unfolding presentation
    rows-read h =
        record {
          p_is = prime_is;
          u_is = λ j l. to_nf-ext j _ _ (λ k a. word-is j j l (omega arith) k (omega arith));
          w_is = λ k j a l. to_nf-ext (suc k) _ _ (λ c b. word-is j k l (omega arith) c (omega arith));
          rest = λ j i k a b c e. word-is j i b a k (omega arith) ∙ exponent-unused relations_of h j i k a b c e;
        }

    held_by : misused relations_of ≡ false → {p : ReadPresentation} → p.n ≡ n → p.primes ≡ primes → p.rows ≡ rows → Held relations_of p
    held_by h count is kept =
        record { count = count; few = few; reads = subst₂ (λ (xs : List ℕ) (ys : List (List ℕ)). Reads (presentation relations_of) n xs ys) (sym is) (sym kept) (rows-read h) }

  pub concluded : flag ≡ true → n ≤ max_generators → {r : Result Unit Refusal} {p : ReadPresentation} → Concluded n rows ps r p → ReadText t r p
  concluded q few {r} {p} h = pick (leb (product p.primes n) max_order) (all_well rows ps p.primes n) refl refl h.number
    where
      not12 : ¬ says t (λ (R : Relations). some_not_prime R ≡ true)
      not12 = unsaid some_not_prime says-them (all-prime q)

      large : (b : Bool) → leb (product p.primes n) max_order ≡ b → too_large relations_of ≡ not b
      large true w = too_large_lem few h.are ∙ le-ltb max_order (product p.primes n) (leb-true (product p.primes n) max_order w)
      large false w = too_large_lem few h.are ∙ lt-ltb max_order (product p.primes n) (leb-false (product p.primes n) max_order w)

      not13 : leb (product p.primes n) max_order ≡ true → ¬ says t (λ (R : Relations). too_large R ≡ true)
      not13 w = unsaid too_large says-them (large true w)

      pick : (a b : Bool) → leb (product p.primes n) max_order ≡ a → all_well rows ps p.primes n ≡ b
          → answer r ≡ cond a (cond b 0 14) 13 → ReadText t r p
      pick false b x y e =
          record { answered = inr (in-form, inr (not12, inl ((relations_of, says-them, large false x), e))); held = λ z. absurd (unheld e z) }
      pick true false x y e =
          record {
            answered = inr (in-form, inr (not12, inr (not13 x, inl ((relations_of, says-them, misused-is few h.are ∙ ap not y), e))));
            held = λ z. absurd (unheld e z);
          }
      pick true true x y e =
          let well : misused relations_of ≡ false = misused-is few h.are ∙ ap not y in
          record {
            answered = inr (in-form, inr (not12, inr (not13 x, inr (unsaid misused says-them well, e))));
            held = λ z. (relations_of, says-them, held_by few h.are well h.kept.0 refl h.kept.1);
          }

-- ---- Answers

pub refused-form : {t : Bytes} {p : ReadPresentation} → ¬ InForm t → ReadText t (Err PresentationForm) p
refused-form h = record { answered = inl (h, refl); held = λ z. absurd (unheld refl z) }
