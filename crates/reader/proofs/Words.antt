-- Laws of the exponents of a line.
--
--   get_or-snoc, get_or-snoc-other     the last element of a list, and the others
--   ReadTo                     k exponents have been read
--   going-none, going_more, going-past      none; one more, kept or not
--   going-fails, going-stops, going_end     why a word is refused; a whole word
--   going-as                  what is kept, said otherwise
use mathlib.Core.Path.{◌≡◌, refl, sym, ap, subst, ◌∙◌}
use mathlib.Core.Logic.{◌≢◌}
use mathlib.Core.Bool.{true}
use Rattle.std.specs.Prelude.{Some, None}
use mathlib.Core.List.{List, [], ◌∷◌, ◌++◌}
use Prim.Native.Nat.{ℕ, zero, suc, ◌+◌, ◌<◌, ◌≤◌}
use native.Mathlib.Decide.{ℕ_discrete}
use native.Mathlib.Omega.{arith}
use lib.ListN.{length, get_or, drop, set, replicate, length-append, length-set, get_or-replicate, drop_of_length-le}
use lib.Seq.{drop-cons, get_or_at, get_or-set_same, get_or-set_other}
use Rattle.definitions.specs.Text.{Bytes, small}
use Rattle.definitions.specs.Presentation.{max_generators}
use Rattle.text.specs.Reading.{Ends, ValueAt, NoValue, trail}
use Rattle.text.proofs.Reading.{drop-front, drop-byte}
use Rattle.text.proofs.Trail.{trail-nil, trail-cons, trail-one, trail-ahead, ends-byte, ends-trail, small-nil, small_one, small_at}
use Rattle.reader.specs.Lines.{WordLine, NoWord, WordAt}

-- ---- The last element of a list

pub get_or-snoc : {A : Type 0} (xs : List A) (x d : A) (k : ℕ) → length xs ≡ k → get_or (xs ++ (x ∷ [])) k d ≡ x
get_or-snoc xs x d k q = get_or_at xs x [] d k q

pub get_or-snoc-other : {A : Type 0} (xs : List A) (x d : A) (k : ℕ) → k ≢ length xs → get_or (xs ++ (x ∷ [])) k d ≡ get_or xs k d
get_or-snoc-other [] x d zero n = absurd (n refl)
get_or-snoc-other [] x d (suc k) n = refl
get_or-snoc-other (y ∷ ys) x d zero n = refl
get_or-snoc-other (y ∷ ys) x d (suc k) n = get_or-snoc-other ys x d k (λ q. n (ap suc q))

-- ---- Reading the exponents

pub record ReadTo (t : Bytes) (at n k next : ℕ) (kept : List ℕ) : Type 0 where
  pub word : List ℕ
  pub count : length word ≡ k
  pub small_all : small word ≡ true
  pub text : drop at t ≡ trail word ++ drop next t
  pub ends : Ends (drop next t)
  pub keeps : (m : ℕ) → m < max_generators → get_or kept m 0 ≡ get_or word m 0
  pub long : length kept ≡ max_generators
  pub few : k ≤ n
  pub from : at ≤ next
  pub within : next ≤ length t

module _ {t : Bytes} {at n : ℕ} where
  pub going-none : at ≤ length t → Ends (drop at t) → ReadTo t at n 0 at (replicate max_generators 0)
  going-none l e =
      record {
        word = [];
        count = refl;
        small_all = small-nil;
        text = ap (λ (xs : Bytes). xs ++ drop at t) (sym trail-nil);
        ends = e;
        keeps = λ m h. get_or-replicate max_generators m 0 0 h;
        long = refl;
        few = omega arith;
        from = omega arith;
        within = l;
      }

  module _ {k next : ℕ} {kept : List ℕ} (h : ReadTo t at n k next kept) where
    -- one more exponent, where what is kept agrees
    more : {e behind : ℕ} (new : List ℕ) → k < n → ValueAt (32 ∷ []) t next e behind → length new ≡ max_generators
        → ((m : ℕ) → m < max_generators → get_or new m 0 ≡ get_or (h.word ++ (e ∷ [])) m 0) → ReadTo t at n (k + 1) behind new
    more {e} {behind} new l v long keeps =
        record {
          word = h.word ++ (e ∷ []);
          count = length-append h.word (e ∷ []) ∙ ap (λ (j : ℕ). j + 1) h.count;
          small_all = small_one h.word e h.small_all v.small;
          text = h.text ∙ ap (λ (xs : Bytes). trail h.word ++ xs) v.text ∙ sym (trail-one h.word e (drop behind t));
          ends = v.ends;
          keeps = keeps;
          long = long;
          few = omega arith;
          from = omega (arith, h.from, v.further);
          within = v.within;
        }

    pub going_more : {e behind : ℕ} → k < n → k < max_generators → ValueAt (32 ∷ []) t next e behind → ReadTo t at n (k + 1) behind (set kept k e)
    going_more {e} {behind} l s v = more (set kept k e) l v (length-set kept k e ∙ h.long) (λ m b. pick m b (ℕ_discrete m k))
      where
        pick : (m : ℕ) → m < max_generators → Dec (m ≡ k) → get_or (set kept k e) m 0 ≡ get_or (h.word ++ (e ∷ [])) m 0
        pick m b (yes q) =
            ap (λ (j : ℕ). get_or (set kept k e) j 0) q
            ∙ get_or-set_same kept k e 0 (omega (arith, h.long))
            ∙ sym (get_or-snoc h.word e 0 m (h.count ∙ sym q))
        pick m b (no q) =
            get_or-set_other kept k m e 0 q ∙ h.keeps m b ∙ sym (get_or-snoc-other h.word e 0 m (λ w. q (w ∙ h.count)))

    pub going-past : {e behind : ℕ} → k < n → max_generators ≤ k → ValueAt (32 ∷ []) t next e behind → ReadTo t at n (k + 1) behind kept
    going-past {e} {behind} l s v =
        more kept l v h.long (λ m b. h.keeps m b ∙ sym (get_or-snoc-other h.word e 0 m (λ w. omega (arith, h.count))))

    -- what a whole word would have to go on with
    ahead : (word : List ℕ) (r : Bytes) → length word ≡ n → drop at t ≡ trail word ++ 10 ∷ r → drop next t ≡ trail (drop k word) ++ 10 ∷ r
    ahead word r c q =
        (trail-ahead h.word word (drop next t) (10 ∷ r) h.ends (ends-byte 10 r (omega arith)) (omega (arith, h.count, h.few)) (sym h.text ∙ q)).1
        ∙ ap (λ (j : ℕ). trail (drop j word) ++ 10 ∷ r) h.count

    refuse : NoWord t at n → WordAt t at n None
    refuse w = record { stands = λ kept next q. let z : ◌≡◌ {A = ℕ} 0 1 = cc in absurd (omega arith); fails = λ q. w }

    pub going-fails : k < n → NoValue (32 ∷ []) t next → WordAt t at n None
    going-fails l v =
        refuse (record {
          none = λ word r c s q.
              let b : k < length word = omega arith in
              v.none (get_or word k 0) (trail (drop (suc k) word) ++ 10 ∷ r) (small_at word k b s) (ends-trail (drop (suc k) word) (10 ∷ r) (ends-byte 10 r (omega arith)))
              (ahead word r c q ∙ ap (λ (ws : List ℕ). trail ws ++ 10 ∷ r) (drop-cons word k 0 b) ∙ trail-cons (get_or word k 0) (drop (suc k) word) (10 ∷ r));
        })

    -- the word is whole, and byte 10 is what would end it
    whole : n ≤ k → (word : List ℕ) (r : Bytes) → length word ≡ n → drop at t ≡ trail word ++ 10 ∷ r → drop next t ≡ 10 ∷ r
    whole l word r c q =
        ahead word r c q ∙ ap (λ (ws : List ℕ). trail ws ++ 10 ∷ r) (drop_of_length-le word {i = k} (omega arith)) ∙ ap (λ (xs : Bytes). xs ++ 10 ∷ r) trail-nil

    pub going-stops : n ≤ k → (get_or t next 0 ≡ 10 → ⊥) → WordAt t at n None
    going-stops l n = refuse (record { none = λ word r c s q. n (sym (drop-front t next) ∙ ap (λ (xs : Bytes). get_or xs 0 0) (whole l word r c q)) })

    pub going_end : n ≤ k → get_or t next 0 ≡ 10 → next < length t → WordAt t at n (Some (kept, next + 1))
    going_end l q b =
        record {
          stands = λ held last w.
              let e : ◌≡◌ {A = List ℕ × ℕ} (kept, next + 1) (held, last) = cc in
              subst (λ (p : List ℕ × ℕ). WordLine t at n p.0 p.1) e (record {
                word = h.word;
                count = omega (arith, h.count, h.few);
                small_all = h.small_all;
                text = h.text ∙ ap (λ (xs : Bytes). trail h.word ++ xs) (drop-byte t next 10 q (omega arith));
                keeps = h.keeps;
                further = omega (arith, h.from);
                within = omega arith;
              });
          fails = λ w. let z : ◌≡◌ {A = ℕ} 0 1 = cc in absurd (omega arith);
        }

-- the same with what is kept said otherwise
pub going-as : {t : Bytes} {at n k next : ℕ} {new kept : List ℕ} → new ≡ kept → ReadTo t at n k next kept → ReadTo t at n k next new
going-as {t} {at} {n} {k} {next} q h = subst (ReadTo t at n k next) (sym q) h
