-- Laws of a line's values behind its first one.
--
--   field_trail-append, field_trail-one, line-trail     the same for fields; a line by its first field
--   trail-nil, trail-cons, trail-one    the clauses; one more value
--   value_line-trail              a line of values: the first, the others, byte 10
--   ends-byte, ends-trail        what stands behind a value in a line does not go on with a digit
--   trail-ahead                  values that stand before others are the first of them
--   all_one                      a test of every element, one more
--   small-nil, small_one, small_at     values of at most nine digits
use mathlib.Core.Path.{◌≡◌, refl, sym, ap, ap₂, ◌∙◌}
use mathlib.Core.Bool.{Bool, true}
use mathlib.Core.List.{List, [], ◌∷◌, ◌++◌, map, append_assoc, append-nil, tail-eq_of_cons-eq}
use Prim.Native.Nat.{ℕ, ◌<◌, ◌≤◌}
use native.Mathlib.Nat.{le_of_suc-le-suc}
use native.Mathlib.Omega.{arith}
use lib.ListN.{length, get_or, take, drop}
use lib.Dec.{leb}
use borrow.Author.Tests.{le-leb, leb-true}
use Rattle.definitions.specs.Lists.{all}
use Rattle.definitions.specs.Text.{Bytes, largest, decimal, line, value_line, small}
use Rattle.definitions.proofs.Rendering.{line-cons}
use Rattle.numbers.proofs.Bools.{and_left, and_right, and_intro}
use Rattle.numbers.proofs.Lists.{all_get_d}
use Rattle.text.specs.Reading.{Ends, field_trail, trail}
use Rattle.text.proofs.Reading.{value-unique}

-- ---- The fields of a line

pub field_trail-append : (xs ys : List Bytes) → field_trail (xs ++ ys) ≡ field_trail xs ++ field_trail ys
unfolding field_trail
field_trail-append [] ys = refl
field_trail-append (x ∷ xs) ys =
    ap (λ (zs : Bytes). 32 ∷ x ++ zs) (field_trail-append xs ys) ∙ sym (append_assoc (32 ∷ x) (field_trail xs) (field_trail ys))

-- one more field
pub field_trail-one : (xs : List Bytes) (y : Bytes) → field_trail (xs ++ (y ∷ [])) ≡ field_trail xs ++ 32 ∷ y
unfolding field_trail
field_trail-one xs y = field_trail-append xs (y ∷ []) ∙ ap (λ (zs : Bytes). field_trail xs ++ 32 ∷ zs) (append-nil y)

-- a line: its first field, the others, byte 10
pub line-trail : (x : Bytes) (xs : List Bytes) (r : Bytes) → line (x ∷ xs) ++ r ≡ x ++ (field_trail xs ++ 10 ∷ r)
unfolding field_trail
line-trail x [] r = line-cons x [] r
line-trail x (y ∷ ys) r =
    line-cons x (y ∷ ys) r ∙ ap (λ (zs : Bytes). x ++ 32 ∷ zs) (line-trail y ys r ∙ sym (append_assoc y (field_trail ys) (10 ∷ r)))

-- ---- The values of a line

pub trail-nil : trail [] ≡ []
unfolding trail field_trail
trail-nil = refl

pub trail-cons : (v : ℕ) (vs : List ℕ) (r : Bytes) → trail (v ∷ vs) ++ r ≡ 32 ∷ decimal v ++ (trail vs ++ r)
unfolding trail field_trail
trail-cons v vs r = ap (λ (xs : Bytes). 32 ∷ xs) (append_assoc (decimal v) (trail vs) r)

-- one more value behind vs
pub trail-one : (vs : List ℕ) (v : ℕ) (r : Bytes) → trail (vs ++ (v ∷ [])) ++ r ≡ trail vs ++ (32 ∷ decimal v ++ r)
unfolding trail
trail-one vs v r =
    ap (λ (xs : List Bytes). field_trail xs ++ r) (map-one vs)
    ∙ ap (λ (xs : Bytes). xs ++ r) (field_trail-one (map decimal vs) (decimal v))
    ∙ append_assoc (trail vs) (32 ∷ decimal v) r
  where
    map-one : (ws : List ℕ) → map decimal (ws ++ (v ∷ [])) ≡ map decimal ws ++ (decimal v ∷ [])
    map-one [] = refl
    map-one (w ∷ ws) = ap (λ (zs : List Bytes). decimal w ∷ zs) (map-one ws)

pub value_line-trail : (v : ℕ) (vs : List ℕ) (r : Bytes) → value_line (v ∷ vs) ++ r ≡ decimal v ++ (trail vs ++ 10 ∷ r)
unfolding value_line trail
value_line-trail v vs r = line-trail (decimal v) (map decimal vs) r

-- ---- Where values end

pub ends-byte : (b : ℕ) (r : Bytes) → b < 48 → Ends (b ∷ r)
ends-byte b r l d = omega arith

pub ends-trail : (vs : List ℕ) (r : Bytes) → Ends r → Ends (trail vs ++ r)
unfolding trail field_trail
ends-trail [] r e = e
ends-trail (v ∷ vs) r e = λ d. omega (arith, d.0)

pub trail-ahead : (vs ws : List ℕ) (r s : Bytes) → Ends r → Ends s → length vs ≤ length ws → trail vs ++ r ≡ trail ws ++ s
    → (vs ≡ take (length vs) ws) × (r ≡ trail (drop (length vs) ws) ++ s)
trail-ahead [] ws r s e f l q = (refl, ap (λ (xs : Bytes). xs ++ r) (sym trail-nil) ∙ q)
trail-ahead (v ∷ vs) [] r s e f l q = absurd (omega arith)
trail-ahead (v ∷ vs) (w ∷ ws) r s e f l q =
    let t = value-unique v w (trail vs ++ r) (trail ws ++ s) (ends-trail vs r e) (ends-trail ws s f)
    (tail-eq_of_cons-eq (sym (trail-cons v vs r) ∙ q ∙ trail-cons w ws s)) in
    let u = trail-ahead vs ws r s e f (le_of_suc-le-suc l) t.1 in
    (ap₂ (λ (z : ℕ) (zs : List ℕ). z ∷ zs) t.0 u.0, u.1)

-- ---- Values of at most nine digits

pub small-nil : small [] ≡ true
unfolding small all
small-nil = refl

all_append : {A : Type 0} (q : A → Bool) (xs ys : List A) → all q xs ≡ true → all q ys ≡ true → all q (xs ++ ys) ≡ true
unfolding all
all_append q [] ys h k = k
all_append q (x ∷ xs) ys h k = and_intro _ _ (and_left (q x) (all q xs) h) (all_append q xs ys (and_right (q x) (all q xs) h) k)

-- one more element
pub all_one : {A : Type 0} (q : A → Bool) (xs : List A) (x : A) → all q xs ≡ true → q x ≡ true → all q (xs ++ (x ∷ [])) ≡ true
unfolding all
all_one q xs x h k = all_append q xs (x ∷ []) h (and_intro (q x) true k refl)

pub small_one : (vs : List ℕ) (v : ℕ) → small vs ≡ true → v ≤ largest → small (vs ++ (v ∷ [])) ≡ true
unfolding small
small_one vs v h l = all_one (λ x. leb x largest) vs v h (le-leb v largest l)

pub small_at : (vs : List ℕ) (k : ℕ) → k < length vs → small vs ≡ true → get_or vs k 0 ≤ largest
unfolding small
small_at vs k l h = leb-true (get_or vs k 0) largest (all_get_d (λ x. leb x largest) vs 0 h k l)
