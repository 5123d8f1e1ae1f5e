-- Laws of reading table text.
--
--   word_none, word-other, word_some     word k at a position
--   Forming, forming-none, forming-more, forming-fails, forming-end     whether words stand to the end
--   Filling, filling-none, filling-length, filling-below, filling-known, filling-more, filling-end     storing them
--   CountedLines, counted_none, counted-more, counted-all     bytes 10 up to a position
use mathlib.Core.Path.{◌≡◌, refl, sym, ap, ap₂, subst, ◌∙◌}
use mathlib.Core.Logic.{by_cases}
use mathlib.Core.Bool.{Bool, true, false, cond, false≢true}
use mathlib.Core.List.{List, [], ◌∷◌, ◌++◌, append_assoc, append-nil, tail-eq_of_cons-eq}
use Prim.Native.Nat.{ℕ, suc, ◌+◌, ◌%◌, ◌<◌, ◌≤◌}
use native.Mathlib.Numerals.{add-one}
use native.Mathlib.Decide.{dec_lt}
use native.Mathlib.Omega.{arith}
use lib.ListN.{length, get_or, take, drop, set, length-append, length-take, length-drop, drop_of_length-le}
use lib.Seq.{drop-cons, set_at, take-suc, take_all, append_snoc, length-take-le, get_or_at}
use lib.Dec.{eqb}
use borrow.Author.Tests.{eqb-true, eqb-false}
use Rattle.definitions.specs.Text.{Bytes, largest, decimal, small}
use Rattle.definitions.specs.Presentation.{line_words}
use Rattle.definitions.specs.Answers.{newlines, over}
use Rattle.definitions.proofs.Rendering.{decimal_nonempty}
use Rattle.text.specs.Reading.{Ends, ValueAt, NoValue}
use Rattle.std.specs.Prelude.{Some, None}
use Rattle.text.proofs.Reading.{drop-front, drop-byte, read_known, value-unique}
use Rattle.text.proofs.Trail.{small-nil, small_at}
use Rattle.text.proofs.Trail as trail
use Rattle.table_text.specs.Pieces.{separator_of, pieces}
use Rattle.table_reading.specs.Forms.{TableWordLine, NoTableWord, TableWordAt, FormLine, FormAt, Room, Filled}
use Rattle.table_text.proofs.Pieces.{separator-within, pieces-nil, pieces-cons, pieces-one, pieces-ahead, newlines-cons, newlines-nil}

-- ---- A word

ends-separator : (k : ℕ) (r : Bytes) → Ends (separator_of k ∷ r)
ends-separator k r d = omega (arith, (separator-within k).1, d.0)

module _ {t : Bytes} {at : ℕ} (k : ℕ) where
  refused : NoTableWord t at k → TableWordAt t at k None
  refused h = record { stands = λ v n q. let z : ◌≡◌ {A = ℕ} 0 1 = cc in absurd (omega arith); fails = λ q. h }

  pub word_none : NoValue [] t at → TableWordAt t at k None
  word_none h = refused (record { none = λ v r l q. h.none v (separator_of k ∷ r) l (ends-separator k r) q })

  module _ {v next : ℕ} (h : ValueAt [] t at v next) where
    pub word-other : (get_or t next 0 ≡ separator_of k → ⊥) → TableWordAt t at k None
    word-other n = refused (record {
      none = λ w r l q. n (sym (drop-front t next) ∙ ap (λ (zs : Bytes). get_or zs 0 0) (read_known h w (separator_of k ∷ r) (ends-separator k r) q).1);
    })

    pub word_some : get_or t next 0 ≡ separator_of k → next < length t → TableWordAt t at k (Some (v, next + 1))
    word_some q b = record {
      stands = λ w n z.
          let e : ◌≡◌ {A = ℕ × ℕ} (v, next + 1) (w, n) = cc in
          subst (λ (p : ℕ × ℕ). TableWordLine t at k p.0 p.1) e (record {
            text = h.text ∙ ap (λ (zs : Bytes). decimal v ++ zs) (drop-byte t next (separator_of k) q (separator-within k).0);
            small_one = h.small;
            further = omega (arith, h.further);
            within = omega arith;
          });
      fails = λ e. let z : ◌≡◌ {A = ℕ} 0 1 = cc in absurd (omega arith);
    }

-- ---- Whether words stand to the end

pub record Forming (t : Bytes) (start at k : ℕ) : Type 0 where
  pub words : List ℕ
  pub count : length words ≡ k
  pub small_all : small words ≡ true
  pub text : drop start t ≡ pieces 0 words ++ drop at t
  pub turns : k ≤ at
  pub within : at ≤ length t

nothing_left : (t : Bytes) (at : ℕ) → at < length t → drop at t ≡ [] → ⊥
nothing_left t at l q = omega (arith, length-drop at t, ap length q)

module _ {t : Bytes} {start : ℕ} where
  pub forming-none : start ≤ length t → Forming t start start 0
  forming-none l =
      record { words = []; count = refl; small_all = small-nil; text = ap (λ (zs : Bytes). zs ++ drop start t) (sym (pieces-nil 0)); turns = omega arith; within = l }

  module _ {at k : ℕ} (h : Forming t start at k) where
    pub forming-more : {v next : ℕ} → TableWordLine t at k v next → Forming t start next (k + 1)
    forming-more {v} {next} w =
        record {
          words = h.words ++ (v ∷ []);
          count = length-append h.words (v ∷ []) ∙ ap (λ (m : ℕ). m + 1) h.count;
          small_all = trail.small_one h.words v h.small_all w.small_one;
          text =
              h.text
              ∙ ap (λ (zs : Bytes). pieces 0 h.words ++ zs) (w.text ∙ ap (λ (m : ℕ). decimal v ++ separator_of m ∷ drop next t) (sym h.count))
              ∙ ap (λ (zs : Bytes). pieces 0 h.words ++ zs) (sym (append_assoc (decimal v) (separator_of (length h.words) ∷ []) (drop next t)))
              ∙ sym (append_assoc (pieces 0 h.words) (decimal v ++ (separator_of (length h.words) ∷ [])) (drop next t))
              ∙ ap (λ (zs : Bytes). zs ++ drop next t) (sym (pieces-one h.words v));
          turns = omega (arith, h.turns, w.further);
          within = w.within;
        }

    -- what a table in the form would go on with
    ahead : (T : List ℕ) → FormLine t start T → (U : List ℕ) × (T ≡ h.words ++ U) × (drop at t ≡ pieces k U)
    ahead T f =
        let a = pieces-ahead 0 h.words T (drop at t) (sym h.text ∙ f.text) in
        let e : 0 + length h.words ≡ k = omega (arith, h.count) in
        (a.others, a.all_words, a.text ∙ ap (λ (m : ℕ). pieces m a.others) e)

    pub forming-fails : at < length t → NoTableWord t at k → FormAt t start false
    forming-fails l w = record { stands = λ q. absurd (false≢true q); fails = λ q T f. next T f (ahead T f) }
      where
        next : (T : List ℕ) → FormLine t start T → (U : List ℕ) × (T ≡ h.words ++ U) × (drop at t ≡ pieces k U) → ⊥
        next T f ([], q, r) = nothing_left t at l (r ∙ pieces-nil k)
        next T f (u ∷ us, q, r) =
            let b : k < length T = omega (arith, h.count, simp length-append at (ap length q)) in
            let c : get_or T k 0 ≡ u = ap (λ (zs : List ℕ). get_or zs k 0) q ∙ get_or_at h.words u us 0 k h.count in
            w.none u (pieces (suc k) us) (subst (λ (x : ℕ). x ≤ largest) c (small_at T k b f.small_all)) (r ∙ pieces-cons k u us)

    pub forming-end : length t ≤ at → FormAt t start (eqb (k % 8) 0)
    unfolding line_words
    forming-end l =
        record {
          stands = λ q. (
            h.words,
            record {
              text = h.text ∙ ap (λ (zs : Bytes). pieces 0 h.words ++ zs) (drop_of_length-le t {i = at} l) ∙ append-nil (pieces 0 h.words);
              whole = ap (λ (m : ℕ). m % 8) h.count ∙ eqb-true (k % 8) 0 q;
              small_all = h.small_all;
            },
          );
          fails = λ q T f. next q T f (ahead T f);
        }
      where
        next : eqb (k % 8) 0 ≡ false → (T : List ℕ) → FormLine t start T → (U : List ℕ) × (T ≡ h.words ++ U) × (drop at t ≡ pieces k U) → ⊥
        next q T f ([], w, r) =
            eqb-false (k % 8) 0 q (ap (λ (m : ℕ). m % 8) (sym h.count ∙ ap length (sym (append-nil h.words) ∙ sym w)) ∙ f.whole)
        next q T f (u ∷ us, w, r) =
            omega (arith, decimal_nonempty u, simp length-append at (ap length (sym (drop_of_length-le t {i = at} l) ∙ r ∙ pieces-cons k u us)))

-- ---- Storing the words

pub record Filling (t : Bytes) (start : ℕ) (before : List ℕ) (at k : ℕ) (words : List ℕ) : Type 0 where
  pub table : List ℕ
  pub lines : FormLine t start table
  pub room : length table ≤ length before
  pub text : drop at t ≡ pieces k (drop k table)
  pub stored : words ≡ take k table ++ drop k before
  pub few : k ≤ length table
  pub within : at ≤ length t

module _ {t : Bytes} {start : ℕ} {before : List ℕ} where
  pub filling-none : Room t start (length before) → Filling t start before start 0 before
  filling-none r =
      record { table = r.table; lines = r.lines; room = r.room; text = r.lines.text; stored = refl; few = omega arith; within = r.within }

  module _ {at k : ℕ} {words : List ℕ} (h : Filling t start before at k words) where
    pub filling-length : length words ≡ length before
    filling-length = ap length h.stored ∙ simp (length-append, length-take, length-drop) (omega (arith, h.few, h.room))

    pub filling-below : at < length t → k < length h.table
    filling-below l = by_cases (dec_lt k (length h.table))
        (λ b. b)
        (λ b. absurd (nothing_left t at l (h.text ∙ ap (pieces k) (drop_of_length-le h.table {i = k} (omega arith)) ∙ pieces-nil k)))

    here : at < length t → drop at t ≡ decimal (get_or h.table k 0) ++ separator_of k ∷ pieces (suc k) (drop (suc k) h.table)
    here l =
        h.text ∙ ap (pieces k) (drop-cons h.table k 0 (filling-below l)) ∙ pieces-cons k (get_or h.table k 0) (drop (suc k) h.table)

    -- a word stands there
    pub filling-known : at < length t → NoTableWord t at k → ⊥
    filling-known l w =
        w.none (get_or h.table k 0) (pieces (suc k) (drop (suc k) h.table)) (small_at h.table k (filling-below l) h.lines.small_all) (here l)

    pub filling-more : {v next : ℕ} → at < length t → TableWordLine t at k v next → Filling t start before next (k + 1) (set words k v)
    filling-more {v} {next} l w =
        let T = h.table in
        let u = value-unique v (get_or T k 0) (separator_of k ∷ drop next t) (separator_of k ∷ pieces (suc k) (drop (suc k) T))
        (ends-separator k (drop next t)) (ends-separator k (pieces (suc k) (drop (suc k) T))) (sym w.text ∙ here l) in
        let e : suc k ≡ k + 1 = omega arith in
        record {
          table = T;
          lines = h.lines;
          room = h.room;
          text = tail-eq_of_cons-eq u.1 ∙ ap (λ (m : ℕ). pieces m (drop m T)) e;
          stored =
              ap (λ (zs : List ℕ). set zs k v) (h.stored ∙ ap (λ (zs : List ℕ). take k T ++ zs) (drop-cons before k 0 (omega (arith, filling-below l, h.room))))
              ∙ set_at (take k T) (get_or before k 0) (drop (suc k) before) v k (length-take-le k T h.few)
              ∙ ap (λ (x : ℕ). take k T ++ x ∷ drop (suc k) before) u.0
              ∙ sym (append_snoc (take k T) (get_or T k 0) (drop (suc k) before))
              ∙ ap (λ (zs : List ℕ). zs ++ drop (suc k) before) (sym (take-suc T k 0 (filling-below l)))
              ∙ ap (λ (m : ℕ). take m T ++ drop m before) e;
          few = omega (arith, filling-below l);
          within = w.within;
        }

    pub filling-end : length t ≤ at → Filled t start before words k
    unfolding over
    filling-end l =
        let q : k ≡ length h.table = omega (arith, h.few, whole) in
        record {
          table = h.table;
          lines = h.lines;
          stored = h.stored ∙ ap₂ (λ (xs ys : List ℕ). xs ++ ys) (take_all k h.table (omega arith)) (ap (λ (m : ℕ). drop m before) q);
          count = q;
        }
      where
        rest : (U : List ℕ) → [] ≡ pieces k U → length U ≤ 0
        rest [] w = omega arith
        rest (u ∷ us) w = absurd (omega (arith, decimal_nonempty u, simp length-append at (ap length (w ∙ pieces-cons k u us))))

        whole : length h.table ≤ k
        whole = omega (arith, length-drop k h.table, rest (drop k h.table) (sym (drop_of_length-le t {i = at} l) ∙ h.text))

-- ---- Bytes 10

-- n of the first i bytes are 10
pub record CountedLines (t : Bytes) (i n : ℕ) : Type 0 where
  pub total : n + newlines (drop i t) ≡ newlines t
  pub few : n ≤ i
  pub within : i ≤ length t

module _ {t : Bytes} where
  pub counted_none : CountedLines t 0 0
  counted_none = record { total = omega arith; few = omega arith; within = omega arith }

  pub counted-more : {i n x : ℕ} → CountedLines t i n → i < length t → x ≡ cond (eqb (get_or t i 0) 10) 1 0 → CountedLines t (i + 1) (n + x)
  counted-more {i} {n} {x} h l q =
      let e : newlines (drop i t) ≡ x + newlines (drop (i + 1) t) =
      ap newlines (drop-cons t i 0 l) ∙ newlines-cons (get_or t i 0) (drop (suc i) t) ∙ ap₂ (λ (a b : ℕ). a + newlines (drop b t)) (sym q) (sym (add-one i)) in
      record { total = omega (arith, h.total); few = omega (arith, h.few, at_most (eqb (get_or t i 0) 10) q); within = omega arith }
    where
      at_most : (b : Bool) → x ≡ cond b 1 0 → x ≤ 1
      at_most true w = omega arith
      at_most false w = omega arith

  pub counted-all : {i n : ℕ} → CountedLines t i n → length t ≤ i → n ≡ newlines t
  counted-all {i} {n} h l = omega (arith, h.total, ap newlines (drop_of_length-le t {i = i} l), newlines-nil)
