-- Laws of the text form: a text has one reading. Decimal values, fields, lines and whole renderings are read back in one
-- way only, so that "the rows that a text says" means one thing.
--
--   tenths                        induction over the digits of a value
--   decimal-one, decimal-more     the two clauses of `decimal`
--   decimal-snoc                  one digit behind a value above 0
--   number, number-decimal        the value of a run of digits; that of `decimal v` is v
--   decimal_injective             equal digits, equal values
--   Each, each_append, each_map   a fact of every byte
--   Digit, decimal-digits         the bytes 48 to 57; those of a value are such
--   decimal-lead, decimal-zero    no leading zero; 0 itself is one digit
--   decimal_nonempty              at least one digit
--   decimal-length, decimal-nine  at most k digits exactly if below 10 ^ k; nine exactly if at most `largest`
--   Plain, Field, Fields          no separator; a field; a list of fields
--   above-plain                   bytes above 32 are no separators
--   decimal-field, decimal-fields a value is a field; a row of values is a list of fields
--   field-unique, line-unique     where a field and a line end
--   line-nil, line-cons           a line's first field, what ends it, and the rest
--   value_line-unique, lines-unique     the same for a line and for lines of values
--   render-unique, render-injective    the names and the rows of a rendering
--   length-upto, presentation_names-fields, -length, -injective    the names line of presentation text
--   row_formed, FormedRows, well_formed-formed, formed-well_formed       the conditions of `well_formed`
--   says-unique                   a text says the relations of one presentation
use mathlib.Core.Path.{◌≡◌, refl, sym, ap, ap₂, subst, ◌∙◌}
use mathlib.Core.Logic.{◌↔◌, ◌≢◌}
use mathlib.Core.Bool.{Bool, true, ◌&&◌, cond, and-eq-true_iff}
use mathlib.Core.List.{List, [], ◌∷◌, ◌++◌, map, flat_map, zip_with, append_assoc, head-eq_of_cons-eq, tail-eq_of_cons-eq}
use Prim.Native.Nat.{ℕ, zero, suc, ◌+◌, ◌*◌, ◌-◌, ◌/◌, ◌%◌, ◌^◌, ◌<◌, ◌≤◌}
use native.Mathlib.Nat.{mod-lt, div-add-mod', div-lt_iff_lt-mul, pow-suc, one-le-pow, not-suc-le-zero, suc_inj, suc-ne-zero}
use native.Mathlib.Decide.{dec_lt}
use native.Mathlib.Numerals.{add-one}
use native.Mathlib.Omega.{arith}
use lib.ListN.{length, get_or, length-append, length-map}
use lib.Arith.{digits_div, digits_mod}
use lib.Dec.{eqb, leb}
use borrow.Author.Tests.{lt-ltb, le-ltb, le-leb, eq-eqb, eqb-true, leb-true}
use Rattle.definitions.specs.Lists.{upto, all}
use Rattle.definitions.specs.Text.{Bytes, largest, digits, decimal, spaced, line, value_line, render, small}
use Rattle.definitions.specs.Presentation.{Row, Relations, pairs, presentation_names, row_values, text_of, well_formed, Says}

-- ---- Decimal values

digits-one : (f v : ℕ) → v < 10 → digits (suc f) v ≡ (48 + v) ∷ []
unfolding digits
digits-one f v l = ap (λ (b : Bool). cond b ((48 + v) ∷ []) (digits f (v / 10) ++ ((48 + v % 10) ∷ []))) (lt-ltb v 10 l)

digits_more : (f v : ℕ) → 10 ≤ v → digits (suc f) v ≡ digits f (v / 10) ++ ((48 + v % 10) ∷ [])
unfolding digits
digits_more f v l = ap (λ (b : Bool). cond b ((48 + v) ∷ []) (digits f (v / 10) ++ ((48 + v % 10) ∷ []))) (le-ltb v 10 l)

-- the number of digits allowed is of no account if it is above v
pub tenth-less : (v : ℕ) → 10 ≤ v → v / 10 < v
tenth-less v l = omega (arith, div-add-mod' v 10)

-- a fact of the values below 10 that passes from v / 10 to v holds of all values
module _ (P : ℕ → Type 0) (one : (v : ℕ) → v < 10 → P v) (more : (v : ℕ) → 10 ≤ v → P (v / 10) → P v) where
  tenths-below : (f v : ℕ) → v < f → P v
  tenths-below zero v l = absurd (not-suc-le-zero l)
  tenths-below (suc f) v l = elim (dec_lt v 10) [
    | yes m ↦ one v m
    | no m ↦ let t : 10 ≤ v = omega arith in more v t (tenths-below f (v / 10) (omega (arith, tenth-less v t)))
  ]

  pub tenths : (v : ℕ) → P v
  tenths v = tenths-below (suc v) v (omega arith)

digits-enough : (f g v : ℕ) → v < f → v < g → digits f v ≡ digits g v
digits-enough zero g v l m = absurd (not-suc-le-zero l)
digits-enough (suc f) zero v l m = absurd (not-suc-le-zero m)
digits-enough (suc f) (suc g) v l m = elim (dec_lt v 10) [
  | yes s ↦ digits-one f v s ∙ sym (digits-one g v s)
  | no s ↦
      let t : 10 ≤ v = omega arith in
      let less : v / 10 < v = tenth-less v t in
      digits_more f v t ∙ ap (λ (xs : Bytes). xs ++ ((48 + v % 10) ∷ [])) (digits-enough f g (v / 10) (omega arith) (omega arith)) ∙ sym (digits_more g v t)
]

pub decimal-one : (v : ℕ) → v < 10 → decimal v ≡ (48 + v) ∷ []
unfolding decimal
decimal-one v l = digits-one v v l

pub decimal-more : (v : ℕ) → 10 ≤ v → decimal v ≡ decimal (v / 10) ++ ((48 + v % 10) ∷ [])
unfolding decimal
decimal-more v l =
    digits_more v v l ∙ ap (λ (xs : Bytes). xs ++ ((48 + v % 10) ∷ [])) (digits-enough v (suc (v / 10)) (v / 10) (tenth-less v l) (omega arith))

-- one digit more behind a value above 0
pub decimal-snoc : (v d : ℕ) → 0 < v → d < 10 → decimal (v * 10 + d) ≡ decimal v ++ ((48 + d) ∷ [])
decimal-snoc v d p l = decimal-more (v * 10 + d) (omega arith)
    ∙ ap₂ (λ (q r : ℕ). decimal q ++ ((48 + r) ∷ [])) (digits_div v l) (digits_mod v l)

-- the value of a run of digits behind the value a
unfoldable pub number : ℕ → Bytes → ℕ
number a [] = a
number a (b ∷ bs) = number (a * 10 + (b - 48)) bs

number_append : (a : ℕ) (xs ys : Bytes) → number a (xs ++ ys) ≡ number (number a xs) ys
unfolding number
number_append a [] ys = refl
number_append a (x ∷ xs) ys = number_append (a * 10 + (x - 48)) xs ys

pub number-decimal : (v : ℕ) → number 0 (decimal v) ≡ v
unfolding number
number-decimal = tenths (λ v. number 0 (decimal v) ≡ v) (λ v l. ap (number 0) (decimal-one v l) ∙ omega arith)
    (λ v l q. ap (number 0) (decimal-more v l) ∙ number_append 0 (decimal (v / 10)) ((48 + v % 10) ∷ [])
    ∙ ap (λ (a : ℕ). number a ((48 + v % 10) ∷ [])) q ∙ omega (arith, div-add-mod' v 10))

pub decimal_injective : (v w : ℕ) → decimal v ≡ decimal w → v ≡ w
decimal_injective v w q = sym (number-decimal v) ∙ ap (number 0) q ∙ number-decimal w

-- ---- Digits

-- Q holds of every byte
abbrev pub Each : (ℕ → Type 0) → Bytes → Type 0
Each Q [] = Unit {0}
Each Q (b ∷ bs) = Q b × Each Q bs

pub each_append : (Q : ℕ → Type 0) (xs ys : Bytes) → Each Q xs → Each Q ys → Each Q (xs ++ ys)
each_append Q [] ys h k = k
each_append Q (x ∷ xs) ys h k = (h.0, each_append Q xs ys h.1 k)

pub each_map : (Q S : ℕ → Type 0) → ((b : ℕ) → Q b → S b) → (xs : Bytes) → Each Q xs → Each S xs
each_map Q S f [] h = tt
each_map Q S f (x ∷ xs) h = (f x h.0, each_map Q S f xs h.1)

abbrev pub Digit : ℕ → Type 0
Digit b = (48 ≤ b) × (b < 58)

pub decimal-digits : (v : ℕ) → Each Digit (decimal v)
decimal-digits = tenths (λ v. Each Digit (decimal v)) (λ v l. subst (Each Digit) (sym (decimal-one v l)) (omega arith))
    (λ v l h. subst (Each Digit) (sym (decimal-more v l))
    (each_append Digit (decimal (v / 10)) ((48 + v % 10) ∷ []) h (omega (arith, mod-lt v {m = 10} (omega arith)))))

get_d_front : (xs ys : Bytes) → 48 < get_or xs 0 0 → 48 < get_or (xs ++ ys) 0 0
get_d_front [] ys h = absurd (omega arith)
get_d_front (x ∷ xs) ys h = h

-- no leading zero
pub decimal-lead : (v : ℕ) → 0 < v → 48 < get_or (decimal v) 0 0
decimal-lead = tenths (λ v. 0 < v → 48 < get_or (decimal v) 0 0)
    (λ v l p. subst (λ (xs : Bytes). 48 < get_or xs 0 0) (sym (decimal-one v l)) (omega arith))
    (λ v l h p. subst (λ (xs : Bytes). 48 < get_or xs 0 0) (sym (decimal-more v l))
    (get_d_front (decimal (v / 10)) ((48 + v % 10) ∷ []) (h (omega (arith, div-add-mod' v 10, mod-lt v {m = 10} (omega arith))))))

pub decimal-zero : decimal 0 ≡ 48 ∷ []
decimal-zero = decimal-one 0 (omega arith)

pub decimal-length-more : (v : ℕ) → 10 ≤ v → length (decimal v) ≡ suc (length (decimal (v / 10)))
decimal-length-more v l = ap length (decimal-more v l) ∙ length-append (decimal (v / 10)) ((48 + v % 10) ∷ []) ∙ add-one (length (decimal (v / 10)))

pub decimal_nonempty : (v : ℕ) → 0 < length (decimal v)
decimal_nonempty = tenths (λ v. 0 < length (decimal v)) (λ v l. omega (arith, ap length (decimal-one v l))) (λ v l h. omega (arith, decimal-length-more v l))

-- at most suc k digits, exactly if below 10 ^ suc k
pub decimal-length : (k v : ℕ) → (length (decimal v) ≤ suc k) ↔ (v < 10 ^ suc k)
decimal-length zero v = elim (dec_lt v 10) [
  | yes l ↦ (λ h. l, λ h. omega (arith, ap length (decimal-one v l)))
  | no l ↦ (λ h. absurd (omega (arith, decimal-length-more v (omega arith), decimal_nonempty (v / 10))), λ h. absurd (l h))
]
decimal-length (suc k) v = elim (dec_lt v 10) [
  | yes l ↦ (λ _. omega (arith, pow-suc 10 (suc k), one-le-pow (suc k) 10 (omega arith)), λ _. omega (arith, ap length (decimal-one v l)))
  | no l ↦
      let q = decimal-length-more v (omega arith) in
      let (to, from) = decimal-length k (v / 10) in
      let tenth = div-lt_iff_lt-mul {k = 10} {x = v} {y = 10 ^ suc k} (omega arith) in
      (λ m. omega (arith, pow-suc 10 (suc k), tenth.0 (to (omega arith))), λ m. omega (arith, from (tenth.1 (omega (arith, pow-suc 10 (suc k))))))
]

pub decimal-nine : (v : ℕ) → (length (decimal v) ≤ 9) ↔ (v ≤ largest)
unfolding largest
decimal-nine v = (λ h. omega (arith, (decimal-length 8 v).0 h), λ h. (decimal-length 8 v).1 (omega arith))

-- ---- Fields and lines

-- no separator
abbrev pub Plain : ℕ → Type 0
Plain b = (b ≢ 32) × (b ≢ 10)

-- at least one byte, and none a separator
abbrev pub Field : Bytes → Type 0
Field [] = ⊥
Field (b ∷ bs) = Plain b × Each Plain bs

abbrev pub Fields : List Bytes → Type 0
Fields [] = Unit {0}
Fields (x ∷ xs) = Field x × Fields xs

pub above-plain : (b : ℕ) → 32 < b → Plain b
above-plain b l = (λ q. omega arith, λ q. omega arith)

pub field-each : (x : Bytes) → Field x → Each Plain x
field-each [] h = tt
field-each (b ∷ bs) h = h

pub decimal-field : (v : ℕ) → Field (decimal v)
decimal-field v = build (decimal v) (decimal_nonempty v) (each_map Digit Plain (λ b h. above-plain b (omega arith)) (decimal v) (decimal-digits v))
  where
    build : (x : Bytes) → 0 < length x → Each Plain x → Field x
    build [] p h = absurd (omega arith)
    build (b ∷ bs) p h = h

pub decimal-fields : (row : List ℕ) → Fields (map decimal row)
decimal-fields [] = tt
decimal-fields (v ∷ vs) = (decimal-field v, decimal-fields vs)

-- a field ends at the first separator
pub field-unique : (x y : Bytes) (c d : ℕ) (r s : Bytes) → Each Plain x → Each Plain y → ¬ Plain c → ¬ Plain d
    → x ++ c ∷ r ≡ y ++ d ∷ s → (x ≡ y) × (c ≡ d) × (r ≡ s)
field-unique [] [] c d r s h k m n q = (refl, head-eq_of_cons-eq q, tail-eq_of_cons-eq q)
field-unique [] (y ∷ ys) c d r s h k m n q = absurd (m (subst Plain (sym (head-eq_of_cons-eq q)) k.0))
field-unique (x ∷ xs) [] c d r s h k m n q = absurd (n (subst Plain (head-eq_of_cons-eq q) h.0))
field-unique (x ∷ xs) (y ∷ ys) c d r s h k m n q =
    let t = field-unique xs ys c d r s h.1 k.1 m n (tail-eq_of_cons-eq q) in
    (ap₂ (λ (b : ℕ) (bs : Bytes). b ∷ bs) (head-eq_of_cons-eq q) t.0, t.1, t.2)

-- what ends the first field of a line, and what stands behind that
abbrev pub stop : List Bytes → ℕ
stop [] = 10
stop (y ∷ ys) = 32

abbrev pub rest : List Bytes → Bytes
rest [] = []
rest (y ∷ ys) = line (y ∷ ys)

stop-stops : (xs : List Bytes) → ¬ Plain (stop xs)
stop-stops [] h = h.1 refl
stop-stops (y ∷ ys) h = h.0 refl

pub line-nil : (r : Bytes) → line [] ++ r ≡ 10 ∷ r
unfolding line spaced
line-nil r = refl

pub line-cons : (x : Bytes) (xs : List Bytes) (r : Bytes) → line (x ∷ xs) ++ r ≡ x ++ stop xs ∷ (rest xs ++ r)
unfolding line spaced
line-cons x [] r = append_assoc x (10 ∷ []) r
line-cons x (y ∷ ys) r = simp append_assoc

-- a line of fields is no line of none
line-none : (y : Bytes) (ys : List Bytes) (r s : Bytes) → Field y → line [] ++ r ≡ line (y ∷ ys) ++ s → ⊥
line-none [] ys r s h q = h
line-none (b ∷ bs) ys r s h q = h.0.1 (sym (head-eq_of_cons-eq (sym (line-nil r) ∙ q ∙ line-cons (b ∷ bs) ys s)))

-- where a line ends, and its fields
pub line-unique : (xs ys : List Bytes) (r s : Bytes) → Fields xs → Fields ys → line xs ++ r ≡ line ys ++ s → (xs ≡ ys) × (r ≡ s)
line-unique [] [] r s h k q = (refl, tail-eq_of_cons-eq (sym (line-nil r) ∙ q ∙ line-nil s))
line-unique [] (y ∷ ys) r s h k q = absurd (line-none y ys r s k.0 q)
line-unique (x ∷ xs) [] r s h k q = absurd (line-none x xs s r h.0 (sym q))
line-unique (x ∷ xs) (y ∷ ys) r s h k q = next xs ys (line-unique xs ys r s h.1 k.1)
    (field-unique x y (stop xs) (stop ys) (rest xs ++ r) (rest ys ++ s) (field-each x h.0) (field-each y k.0) (stop-stops xs) (stop-stops ys)
    (sym (line-cons x xs r) ∙ q ∙ line-cons y ys s))
  where
    next : (xs ys : List Bytes) → (line xs ++ r ≡ line ys ++ s → (xs ≡ ys) × (r ≡ s))
        → (x ≡ y) × (stop xs ≡ stop ys) × (rest xs ++ r ≡ rest ys ++ s) → (x ∷ xs ≡ y ∷ ys) × (r ≡ s)
    next [] [] rec t = (ap (λ (z : Bytes). z ∷ []) t.0, t.2)
    next [] (b ∷ bs) rec t = absurd (omega (arith, t.1))
    next (a ∷ as') [] rec t = absurd (omega (arith, t.1))
    next (a ∷ as') (b ∷ bs) rec t = (ap₂ (λ (z : Bytes) (zs : List Bytes). z ∷ zs) t.0 (rec t.2).0, (rec t.2).1)

-- ---- Renderings

numbers-decimal : (vs : List ℕ) → map (number 0) (map decimal vs) ≡ vs
numbers-decimal [] = refl
numbers-decimal (v ∷ vs) = ap₂ (λ (z : ℕ) (zs : List ℕ). z ∷ zs) (number-decimal v) (numbers-decimal vs)

-- where a line of values ends, and its values
pub value_line-unique : (vs ws : List ℕ) (r s : Bytes) → value_line vs ++ r ≡ value_line ws ++ s → (vs ≡ ws) × (r ≡ s)
unfolding value_line
value_line-unique vs ws r s q =
    let t = line-unique (map decimal vs) (map decimal ws) r s (decimal-fields vs) (decimal-fields ws) q in
    (sym (numbers-decimal vs) ∙ ap (map (number 0)) t.0 ∙ numbers-decimal ws, t.1)

pub flat_map-cons : {A : Type 0} (f : A → Bytes) (x : A) (xs : List A) → flat_map f (x ∷ xs) ≡ f x ++ flat_map f xs
unfolding flat_map
flat_map-cons f x xs = refl

pub flat_map-nil : {A : Type 0} (f : A → Bytes) → flat_map f [] ≡ []
unfolding flat_map
flat_map-nil f = refl

pub value_line-nonempty : (vs : List ℕ) → 0 < length (value_line vs)
unfolding value_line line
value_line-nonempty vs = simp length-append (omega arith)

lines_none : (vs : List ℕ) (rows : List (List ℕ)) → flat_map value_line [] ≡ flat_map value_line (vs ∷ rows) → ⊥
lines_none vs rows q =
    omega (arith, value_line-nonempty vs, simp length-append at (ap length (sym (flat_map-nil value_line) ∙ q ∙ flat_map-cons value_line vs rows)))

pub lines-unique : (rows rows' : List (List ℕ)) → flat_map value_line rows ≡ flat_map value_line rows' → rows ≡ rows'
lines-unique [] [] q = refl
lines-unique [] (w ∷ ws) q = absurd (lines_none w ws q)
lines-unique (v ∷ vs) [] q = absurd (lines_none v vs (sym q))
lines-unique (v ∷ vs) (w ∷ ws) q =
    let t = value_line-unique v w (flat_map value_line vs) (flat_map value_line ws) (sym (flat_map-cons value_line v vs) ∙ q ∙ flat_map-cons value_line w ws) in
    ap₂ (λ (z : List ℕ) (zs : List (List ℕ)). z ∷ zs) t.0 (lines-unique vs ws t.1)

pub render-unique : (names names' : List Bytes) (rows rows' : List (List ℕ)) → Fields names → Fields names'
    → render names rows ≡ render names' rows' → (names ≡ names') × (rows ≡ rows')
unfolding render
render-unique names names' rows rows' h k q =
    let t = line-unique names names' (flat_map value_line rows) (flat_map value_line rows') h k q in (t.0, lines-unique rows rows' t.1)

pub render-injective : (names : List Bytes) (rows rows' : List (List ℕ)) → Fields names → render names rows ≡ render names rows' → rows ≡ rows'
render-injective names rows rows' h q = (render-unique names names rows rows' h h q).1

-- ---- Presentation text

pub length-upto : (n : ℕ) → length (upto n) ≡ n
unfolding upto
length-upto zero = refl
length-upto (suc n) = length-append (upto n) (n ∷ []) ∙ ap (λ (k : ℕ). k + 1) (length-upto n) ∙ add-one n

-- e1, e2, .. are fields
exponent-fields : (xs : List ℕ) → Fields (map (λ k. 101 ∷ decimal (suc k)) xs)
exponent-fields [] = tt
exponent-fields (k ∷ ks) = ((above-plain 101 (omega arith), field-each (decimal (suc k)) (decimal-field (suc k))), exponent-fields ks)

pub presentation_names-fields : (n : ℕ) → Fields (presentation_names n)
unfolding presentation_names
presentation_names-fields n =
    let letter : (b : ℕ) → 32 < b → Field (b ∷ []) = λ b l. (above-plain b l, tt) in
    (letter 106 (omega arith), (letter 105 (omega arith), (letter 112 (omega arith), exponent-fields (upto n))))

pub presentation_names-length : (n : ℕ) → length (presentation_names n) ≡ n + 3
unfolding presentation_names
presentation_names-length n = omega (arith, length-map (upto n) (λ (k : ℕ). 101 ∷ decimal (suc k)), length-upto n)

pub presentation_names-injective : (m n : ℕ) → presentation_names m ≡ presentation_names n → m ≡ n
presentation_names-injective m n q = omega (arith, ap length q, presentation_names-length m, presentation_names-length n)

-- the rows are what their lines say, where each pair has one
row_values-injective : (ps : List (ℕ × ℕ)) (rows rows' : List Row) → length rows ≡ length ps → length rows' ≡ length ps
    → zip_with row_values ps rows ≡ zip_with row_values ps rows' → rows ≡ rows'
unfolding zip_with
row_values-injective [] [] [] l m q = refl
row_values-injective [] (r ∷ rs) rows' l m q = absurd (suc-ne-zero (length rs) l)
row_values-injective [] [] (r ∷ rs) l m q = absurd (suc-ne-zero (length rs) m)
row_values-injective (p ∷ ps) [] rows' l m q = absurd (suc-ne-zero (length ps) (sym l))
row_values-injective (p ∷ ps) (r ∷ rs) [] l m q = absurd (suc-ne-zero (length ps) (sym m))
row_values-injective (p ∷ ps) (r ∷ rs) (r' ∷ rs') l m q =
    let h = tail-eq_of_cons-eq (tail-eq_of_cons-eq (head-eq_of_cons-eq q)) in
    let first : r ≡ r' = λ i. record { p = head-eq_of_cons-eq h i; word = tail-eq_of_cons-eq h i } in
    ap₂ (λ (z : Row) (zs : List Row). z ∷ zs) first (row_values-injective ps rs rs' (suc_inj l) (suc_inj m) (tail-eq_of_cons-eq q))

-- the four conditions of `well_formed`
abbrev pub row_formed : ℕ → Row → Bool
row_formed n r = eqb (length r.word) n && leb r.p largest && small r.word

pub record FormedRows (R : Relations) : Type 0 where
  pub some : 1 ≤ R.n
  pub few : R.n ≤ largest
  pub one_each : length R.rows ≡ length (pairs R.n)
  pub formed_each : all (row_formed R.n) R.rows ≡ true

pub well_formed-formed : (R : Relations) → well_formed R ≡ true → FormedRows R
unfolding well_formed
well_formed-formed R h =
    let a : Bool = leb 1 R.n in
    let b : Bool = leb R.n largest in
    let c : Bool = eqb (length R.rows) (length (pairs R.n)) in
    let d : Bool = all (row_formed R.n) R.rows in
    let (abc, each) = (and-eq-true_iff (a && b && c) d).0 h in
    let (ab, one) = (and-eq-true_iff (a && b) c).0 abc in
    let (some, few) = (and-eq-true_iff a b).0 ab in
    record {
      some = leb-true 1 R.n some;
      few = leb-true R.n largest few;
      one_each = eqb-true (length R.rows) (length (pairs R.n)) one;
      formed_each = each;
    }

pub formed-well_formed : (R : Relations) → FormedRows R → well_formed R ≡ true
unfolding well_formed
formed-well_formed R h =
    let t : (leb 1 R.n && leb R.n largest && eqb (length R.rows) (length (pairs R.n))) ≡ true =
    rw (le-leb 1 R.n h.some, le-leb R.n largest h.few, eq-eqb (length R.rows) (length (pairs R.n)) h.one_each) in
    rw (t, h.formed_each)

pub says-unique : (t : Bytes) (R R' : Relations) → Says t R → Says t R' → R ≡ R'
unfolding text_of
says-unique t R R' h k =
    let q = render-unique (presentation_names R.n) (presentation_names R'.n) (zip_with row_values (pairs R.n) R.rows) (zip_with row_values (pairs R'.n) R'.rows)
    (presentation_names-fields R.n) (presentation_names-fields R'.n) (sym h.written ∙ k.written) in
    let m : R.n ≡ R'.n = presentation_names-injective R.n R'.n q.0 in
    let rows : R.rows ≡ R'.rows =
    row_values-injective (pairs R.n) R.rows R'.rows (well_formed-formed R h.formed).one_each
    ((well_formed-formed R' k.formed).one_each ∙ ap (λ (j : ℕ). length (pairs j)) (sym m))
    (q.1 ∙ ap (λ (j : ℕ). zip_with row_values (pairs j) R'.rows) (sym m)) in
    λ i. record { n = m i; rows = rows i }
