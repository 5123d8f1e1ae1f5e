-- Laws of reading at a position: how a run of digits grows, and why none is read where none stands.
--
--   drop-front, byte-within, drop-byte    the bytes from a position, by the byte that stands there
--   value-one, value-more     a run of one digit, and of one digit more
--   digits-shorter, value-unique     digits before the end of others; what stands behind a value, and the value
--   value_none, value-past    no value: no digit stands there; the run goes on behind a 0 or behind nine digits
--   read-stands, read-fails, read_known   what the two answers say; the value read is the one that stands there
--   Run, byte-digit, byte-none, digit-within, run_none, run-one, run_more, run_past, run_end   a run of digits, turn by turn
--   behind-none, behind-some  a value behind a byte
--   starts-is                 given bytes, as the library compares them
use mathlib.Core.Path.{◌≡◌, refl, sym, ap, ap₂, subst, subst₂, ◌∙◌}
use mathlib.Core.Logic.{by_cases}
use mathlib.Core.List.{[], ◌∷◌, ◌++◌, append_assoc, append_cancel_left, head-eq_of_cons-eq, tail-eq_of_cons-eq}
use Prim.Native.Nat.{ℕ, suc, ◌+◌, ◌*◌, ◌-◌, ◌<◌, ◌≤◌, zero-le, suc-le-suc}
use native.Mathlib.Nat.{le_antisymm, suc_inj}
use native.Mathlib.Decide.{dec_lt}
use native.Mathlib.Numerals.{add-one}
use native.Mathlib.Omega.{arith}
use lib.ListN.{length, get_or, take, drop, length-append, length-drop, get_or-eq_default}
use lib.Seq.{drop-cons, take_all, get_or-drop}
use Rattle.definitions.specs.Text.{Bytes, largest, decimal}
use Rattle.definitions.proofs.Rendering.{Each, each_append, decimal-one, decimal-snoc, decimal_injective, decimal-digits, decimal-lead, decimal-zero}
use Rattle.definitions.proofs.Rendering.{decimal_nonempty, decimal-length, decimal-nine}
use Rattle.text.specs.Reading.{Digit, DigitAt, Ends, ValueAt, NoValue, ReadAt, StartsAt}
use Rattle.std.specs.Prelude.{Option, Some, None, ◌↔◌, Bool, true, eqb}
use Rattle.std.specs.Char.{IsAsciiDigit, IsNotAsciiDigit}
use Rattle.std.specs.List.{starts_with}
use Rattle.std.proofs.lemmas.Bool.Decides.{Decides-eqb}
use Rattle.std.proofs.lemmas.Slice.Eq.{starts_is}

-- ---- The bytes from a position on

pub drop-front : (t : Bytes) (i : ℕ) → get_or (drop i t) 0 0 ≡ get_or t i 0
drop-front t i = get_or-drop i t 0 0 ∙ ap (λ (k : ℕ). get_or t k 0) (omega arith)

-- a byte that is not 0 stands within the text
pub byte-within : (t : Bytes) (i : ℕ) → 0 < get_or t i 0 → i < length t
byte-within t i h = by_cases (dec_lt i (length t)) (λ l. l) (λ l. absurd (omega (arith, get_or-eq_default t 0 {n = i} (omega arith))))

pub drop-byte : (t : Bytes) (i b : ℕ) → get_or t i 0 ≡ b → 0 < b → drop i t ≡ b ∷ drop (i + 1) t
drop-byte t i b q p =
    let l : i < length t = byte-within t i (omega arith) in
    rw (add-one i) (drop-cons t i 0 l ∙ ap (λ (x : ℕ). x ∷ drop (suc i) t) q)

-- ---- A run of digits

module _ (t : Bytes) (at : ℕ) where
  pub value-one : (d : ℕ) → d < 10 → get_or t at 0 ≡ 48 + d → drop at t ≡ decimal d ++ drop (at + 1) t
  value-one d l q = drop-byte t at (48 + d) q (omega arith) ∙ ap (λ (xs : Bytes). xs ++ drop (at + 1) t) (sym (decimal-one d l))

  pub value-more : (v i d : ℕ) → 0 < v → d < 10 → get_or t i 0 ≡ 48 + d → drop at t ≡ decimal v ++ drop i t
      → drop at t ≡ decimal (v * 10 + d) ++ drop (i + 1) t
  value-more v i d p l q h =
      h
      ∙ ap (λ (xs : Bytes). decimal v ++ xs) (drop-byte t i (48 + d) q (omega arith))
      ∙ sym (append_assoc (decimal v) ((48 + d) ∷ []) (drop (i + 1) t))
      ∙ ap (λ (xs : Bytes). xs ++ drop (i + 1) t) (sym (decimal-snoc v d p l))

-- digits stand before the end of others
pub digits-shorter : (xs ys r s : Bytes) → Each Digit xs → Ends s → xs ++ r ≡ ys ++ s → length xs ≤ length ys
digits-shorter [] ys r s h e q = zero-le
digits-shorter (x ∷ xs) [] r s h e q = absurd (e (subst Digit (ap (λ (zs : Bytes). get_or zs 0 0) q) h.0))
digits-shorter (x ∷ xs) (y ∷ ys) r s h e q = suc-le-suc (digits-shorter xs ys r s h.1 e (tail-eq_of_cons-eq q))

same_length : (xs ys r s : Bytes) → length xs ≡ length ys → xs ++ r ≡ ys ++ s → (xs ≡ ys) × (r ≡ s)
same_length [] [] r s l q = (refl, q)
same_length [] (y ∷ ys) r s l q = absurd (omega (arith, l))
same_length (x ∷ xs) [] r s l q = absurd (omega (arith, l))
same_length (x ∷ xs) (y ∷ ys) r s l q =
    let t = same_length xs ys r s (suc_inj l) (tail-eq_of_cons-eq q) in
    (ap₂ (λ (b : ℕ) (bs : Bytes). b ∷ bs) (head-eq_of_cons-eq q) t.0, t.1)

pub value-unique : (v w : ℕ) (r s : Bytes) → Ends r → Ends s → decimal v ++ r ≡ decimal w ++ s → (v ≡ w) × (r ≡ s)
value-unique v w r s e f q =
    let l : length (decimal v) ≡ length (decimal w) =
    le_antisymm (digits-shorter (decimal v) (decimal w) r s (decimal-digits v) f q) (digits-shorter (decimal w) (decimal v) s r (decimal-digits w) e (sym q)) in
    let t = same_length (decimal v) (decimal w) r s l q in
    (decimal_injective v w t.0, t.1)

-- ---- No value

get_or-ahead : (xs r : Bytes) → 0 < length xs → get_or (xs ++ r) 0 0 ≡ get_or xs 0 0
get_or-ahead [] r p = absurd (omega arith)
get_or-ahead (x ∷ xs) r p = refl

module _ (t : Bytes) (at : ℕ) where
  pub value_none : (Digit (get_or t at 0) → ⊥) → NoValue [] t at
  value_none h = record { none = λ v r l e q. h (subst Digit (sym (ap (λ (zs : Bytes). get_or zs 0 0) q) ∙ drop-front t at) (lead (decimal v) r (decimal_nonempty v) (decimal-digits v))) }
    where
      lead : (xs r : Bytes) → 0 < length xs → Each Digit xs → Digit (get_or (xs ++ r) 0 0)
      lead [] r p k = absurd (omega arith)
      lead (x ∷ xs) r p k = k.0

  -- the digits go on behind a value to which none may be added
  pub value-past : (v i : ℕ) → drop at t ≡ decimal v ++ drop i t → Digit (get_or t i 0) → (0 < v → 100000000 ≤ v) → NoValue [] t at
  value-past v i h d k =
      record {
        none =
            λ w r l e q. past v i (get_or t i 0) (drop (i + 1) t) d k w r l e
            (ap (λ (xs : Bytes). decimal v ++ xs) (sym (drop-byte t i (get_or t i 0) refl (omega arith))) ∙ sym h ∙ q);
      }
    where
      past : (v i b : ℕ) (s : Bytes) → Digit b → (0 < v → 100000000 ≤ v) → (w : ℕ) (r : Bytes) → w ≤ largest → Ends r → decimal v ++ b ∷ s ≡ decimal w ++ r → ⊥
      past v i b s d k w r l e q = pick (dec_lt 0 v) (dec_lt 0 w)
        where
          longer : length (decimal v) + 1 ≤ length (decimal w)
          longer =
              subst (λ (n : ℕ). n ≤ length (decimal w)) (length-append (decimal v) (b ∷ []))
              (digits-shorter (decimal v ++ (b ∷ [])) (decimal w) s r (each_append Digit (decimal v) (b ∷ []) (decimal-digits v) (d, tt)) e (append_assoc (decimal v) (b ∷ []) s ∙ q))

          nine : length (decimal w) ≤ 9
          nine = (decimal-nine w).1 l

          pick : Dec (0 < v) → Dec (0 < w) → ⊥
          pick (yes p) _ = omega (arith, longer, nine, k p, (decimal-length 7 v).0 (omega (arith, longer, nine)))
          pick (no p) (no z) =
              let m : length (decimal w) ≡ 1 = ap (λ (n : ℕ). length (decimal n)) (omega arith) ∙ ap length decimal-zero in
              omega (arith, longer, decimal_nonempty v)
          pick (no p) (yes z) =
              let a : get_or (decimal v) 0 0 ≡ 48 = ap (λ (n : ℕ). get_or (decimal n) 0 0) (omega arith) ∙ ap (λ (xs : Bytes). get_or xs 0 0) decimal-zero in
              omega (arith, decimal-lead w z, a, get_or-ahead (decimal v) (b ∷ s) (decimal_nonempty v), get_or-ahead (decimal w) r (decimal_nonempty w), ap (λ (xs : Bytes). get_or xs 0 0) q)

-- ---- What was read

module _ {lead t : Bytes} {at : ℕ} where
  pub read-stands : {v next : ℕ} → ValueAt lead t at v next → ReadAt lead t at (Some (v, next))
  read-stands {v} {next} h =
      record {
        stands = λ w n q. let e : ◌≡◌ {A = ℕ × ℕ} (v, next) (w, n) = cc in subst₂ (λ (x y : ℕ). ValueAt lead t at x y) (ap (λ (p : ℕ × ℕ). p.0) e) (ap (λ (p : ℕ × ℕ). p.1) e) h;
        fails = λ q. let z : ◌≡◌ {A = ℕ} 0 1 = cc in absurd (omega arith);
      }

  pub read-fails : NoValue lead t at → ReadAt lead t at None
  read-fails h = record { stands = λ w n q. let z : ◌≡◌ {A = ℕ} 0 1 = cc in absurd (omega arith); fails = λ q. h }

  -- the value that was read is the one that stands there
  pub read_known : {a next : ℕ} → ValueAt lead t at a next → (v : ℕ) (r : Bytes) → Ends r → drop at t ≡ lead ++ decimal v ++ r
      → (a ≡ v) × (drop next t ≡ r)
  read_known {a} {next} h v r e q =
      value-unique a v (drop next t) r h.ends e
      (append_cancel_left lead (decimal a ++ drop next t) (decimal v ++ r)
      (sym (append_assoc lead (decimal a) (drop next t)) ∙ sym h.text ∙ q ∙ append_assoc lead (decimal v) r))

-- ---- Reading a run of digits

-- v has been read up to i
pub record Run (t : Bytes) (at v i : ℕ) : Type 0 where
  pub text : drop at t ≡ decimal v ++ drop i t
  pub few : v ≤ 999999999
  pub further : at < i
  pub within : i ≤ length t

-- a byte b as the library tests it: it is a digit, also where it is read again as a, or it is none
module _ {t : Bytes} {i b : ℕ} (q : b ≡ get_or t i 0) where
  pub byte-digit : {a : ℕ} → a ≡ get_or t i 0 → IsAsciiDigit b → DigitAt t i (Some (a - 48))
  byte-digit {a} w h = record {
    stands = λ d z. let e : a - 48 ≡ d = cc in (omega (arith, e, w, q, h), omega (arith, e, w, q, h));
    fails = λ z. let e : ◌≡◌ {A = ℕ} 0 1 = cc in absurd (omega arith);
  }

  pub byte-none : IsNotAsciiDigit b → DigitAt t i None
  byte-none h = record { stands = λ d z. let e : ◌≡◌ {A = ℕ} 0 1 = cc in absurd (omega arith); fails = λ z k. omega (arith, q, h, k) }

pub digit-within : {t : Bytes} {i d : ℕ} {r : Option ℕ} → DigitAt t i r → r ≡ Some d → i < length t
digit-within {t} {i} {d} h q = byte-within t i (omega (arith, (h.stands d q).1))

module _ {t : Bytes} {at : ℕ} {r : Option ℕ} where
  pub run_none : DigitAt t at r → r ≡ None → ReadAt [] t at None
  run_none h q = read-fails (value_none t at (h.fails q))

  pub run-one : {v : ℕ} → DigitAt t at r → r ≡ Some v → Run t at v (at + 1)
  run-one {v} h q =
      let s = h.stands v q in
      record { text = value-one t at v s.0 s.1; few = omega (arith, s.0); further = omega arith; within = omega (arith, digit-within h q) }

  module _ {v i : ℕ} (h : Run t at v i) (digit : DigitAt t i r) where
    module _ {d : ℕ} (q : r ≡ Some d) where
      pub run_more : 0 < v → v < 100000000 → Run t at (v * 10 + d) (i + 1)
      run_more p m =
          let s = digit.stands d q in
          record {
            text = value-more t at v i d p s.0 s.1 h.text;
            few = omega (arith, s.0);
            further = omega (arith, h.further);
            within = omega (arith, digit-within digit q);
          }

      pub run_past : (0 < v → 100000000 ≤ v) → ReadAt [] t at None
      run_past k = let s = digit.stands d q in read-fails (value-past t at v i h.text (omega (arith, s.0, s.1)) k)

    pub run_end : r ≡ None → ReadAt [] t at (Some (v, i))
    unfolding largest
    run_end q = read-stands (record {
      text = h.text;
      small = h.few;
      ends = λ k. digit.fails q (subst Digit (drop-front t i) k);
      further = h.further;
      within = h.within;
    })

-- ---- A value behind a byte

module _ (lead t : Bytes) (at b : ℕ) where
  pub behind-none : (get_or t at 0 ≡ b → ⊥) → ReadAt (b ∷ lead) t at None
  behind-none h = read-fails (record { none = λ v r l e q. h (sym (drop-front t at) ∙ ap (λ (xs : Bytes). get_or xs 0 0) q) })

  module _ (p : 0 < b) (q : get_or t at 0 ≡ b) where
    behind : drop at t ≡ b ∷ drop (at + 1) t
    behind = drop-byte t at b q p

    pub behind-some : {r : Option (ℕ × ℕ)} → ReadAt lead t (at + 1) r → ReadAt (b ∷ lead) t at r
    behind-some h =
        record {
          stands = λ v next m. let k = h.stands v next m in record {
            text = behind ∙ ap (λ (xs : Bytes). b ∷ xs) k.text;
            small = k.small;
            ends = k.ends;
            further = omega (arith, k.further);
            within = k.within;
          };
          fails = λ m. record { none = λ v r l e w. (h.fails m).none v r l e (tail-eq_of_cons-eq (sym behind ∙ w)) };
        }

-- ---- Given bytes

-- what the library's comparison says
pub starts-is : (t : Bytes) (at : ℕ) (s : Bytes) (r : Bool) → r ≡ starts_with eqb (take (length t - at) (drop at t)) s → (r ≡ true) ↔ StartsAt t at s
starts-is t at s r q =
    let rest : take (length t - at) (drop at t) ≡ drop at t = take_all (length t - at) (drop at t) (omega (arith, length-drop at t)) in
    let is = starts_is Decides-eqb (drop at t) s r (q ∙ ap (λ (l : Bytes). starts_with eqb l s) rest) in
    ((λ e. (drop (length s) (drop at t), is.0 e)), (λ h. is.1 h.0 h.1))
