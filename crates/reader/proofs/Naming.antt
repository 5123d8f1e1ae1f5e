-- Laws of the names line.
--
--   start                     the bytes of `j i p`
--   name_trail, name_trail-zero, name_trail-suc     the names e1, e2, .., each behind a space
--   names-line                the names line: its start, the other names, byte 10
--   names-ahead               the names behind the first n
--   NamesGoing                n names have been read
--   names-none, names_more    none; one more
--   names-unstarted, names-refuse, names-fails, names-other, names-stops    why the line is refused
--   names-end                 the whole line
use mathlib.Core.Path.{◌≡◌, refl, sym, ap, subst, ◌∙◌}
use mathlib.Core.Logic.{by_cases}
use mathlib.Core.List.{[], ◌∷◌, ◌++◌, map, map-append, append_assoc, append-nil, append_cancel_left, head-eq_of_cons-eq}
use Prim.Native.Nat.{ℕ, zero, suc, ◌+◌, ◌<◌, ◌≤◌}
use native.Mathlib.Numerals.{add-one}
use native.Mathlib.Decide.{dec_lt, ℕ_discrete}
use native.Mathlib.Omega.{arith}
use lib.ListN.{length, get_or, drop}
use Rattle.definitions.specs.Lists.{upto}
use Rattle.definitions.specs.Text.{Bytes, largest, decimal, line}
use Rattle.definitions.specs.Presentation.{presentation_names}
use Rattle.text.specs.Reading.{Ends, ValueAt, NoValue, StartsAt, field_trail}
use Rattle.std.specs.Prelude.{Some, None}
use Rattle.text.proofs.Reading.{drop-front, drop-byte, read_known}
use Rattle.text.proofs.Trail.{field_trail-one, line-trail}
use Rattle.reader.specs.Lines.{NamesLine, NoNames, NamesAt}

-- ---- The names

abbrev pub start : Bytes
start = 106 ∷ 32 ∷ 105 ∷ 32 ∷ 112 ∷ []

abbrev name : ℕ → Bytes
name k = 101 ∷ decimal (suc k)

unfoldable pub name_trail : ℕ → Bytes
name_trail n = field_trail (map name (upto n))

pub name_trail-zero : name_trail 0 ≡ []
unfolding name_trail upto field_trail
name_trail-zero = refl

pub name_trail-suc : (n : ℕ) → name_trail (suc n) ≡ name_trail n ++ 32 ∷ name n
unfolding name_trail upto
name_trail-suc n = ap field_trail (map-append name (upto n) (n ∷ [])) ∙ field_trail-one (map name (upto n)) (name n)

pub names-line : (n : ℕ) (r : Bytes) → line (presentation_names n) ++ r ≡ start ++ (name_trail n ++ 10 ∷ r)
unfolding presentation_names name_trail field_trail
names-line n r = line-trail (106 ∷ []) ((105 ∷ []) ∷ (112 ∷ []) ∷ map name (upto n)) r

-- the names of n + 1, .. m: whatever stands there, no digit stands first
record Ahead (n m : ℕ) : Type 0 where
  others : Bytes
  text : name_trail m ≡ name_trail (suc n) ++ others
  ends : (s : Bytes) → Ends s → Ends (others ++ s)

names-ahead : (n m : ℕ) → n < m → Ahead n m
names-ahead n zero l = absurd (omega arith)
names-ahead n (suc m) l = by_cases (ℕ_discrete n m)
    (λ q. record { others = []; text = ap (λ (k : ℕ). name_trail (suc k)) (sym q) ∙ sym (append-nil (name_trail (suc n))); ends = λ s e. e })
    (λ q. let a = names-ahead n m (omega arith) in record {
      others = a.others ++ 32 ∷ name m;
      text = name_trail-suc m ∙ ap (λ (xs : Bytes). xs ++ 32 ∷ name m) a.text ∙ append_assoc (name_trail (suc n)) a.others (32 ∷ name m);
      ends = λ s e. subst Ends (sym (append_assoc a.others (32 ∷ name m) s)) (a.ends (32 ∷ name m ++ s) (λ d. omega (arith, d.0)));
    })

-- name n and the others, where they stand behind the first n
split : (n m : ℕ) (a : Ahead n m) (s : Bytes) → name_trail m ++ s ≡ name_trail n ++ (32 ∷ name n ++ (a.others ++ s))
split n m a s =
    ap (λ (xs : Bytes). xs ++ s) (a.text ∙ ap (λ (xs : Bytes). xs ++ a.others) (name_trail-suc n))
    ∙ append_assoc (name_trail n ++ 32 ∷ name n) a.others s
    ∙ append_assoc (name_trail n) (32 ∷ name n) (a.others ++ s)

-- ---- Reading the names

pub record NamesGoing (t : Bytes) (n at : ℕ) : Type 0 where
  pub text : t ≡ start ++ (name_trail n ++ drop at t)
  pub few : n ≤ largest
  pub within : at ≤ length t

front : (t : Bytes) (at b : ℕ) (r : Bytes) → drop at t ≡ b ∷ r → get_or t at 0 ≡ b
front t at b r q = sym (drop-front t at) ∙ ap (λ (xs : Bytes). get_or xs 0 0) q

refused : {t : Bytes} → NoNames t → NamesAt t None
refused h = record { stands = λ n k q. let z : ◌≡◌ {A = ℕ} 0 1 = cc in absurd (omega arith); fails = λ q. h }

module _ {t : Bytes} where
  pub names-unstarted : (StartsAt t 0 start → ⊥) → NamesAt t None
  names-unstarted h = refused (record { none = λ n r a b q. h (name_trail n ++ 10 ∷ r, q ∙ names-line n r) })

  pub names-none : StartsAt t 0 start → NamesGoing t 0 5
  names-none h =
      let r = h.0 in
      let q : t ≡ start ++ r = h.1 in
      record {
        text =
            q
            ∙ ap (λ (xs : Bytes). start ++ xs) (sym (ap (drop 5) q))
            ∙ ap (λ (xs : Bytes). start ++ (xs ++ drop 5 t)) (sym name_trail-zero);
        few = omega arith;
        within = omega (arith, ap length q);
      }

  module _ {n at : ℕ} (h : NamesGoing t n at) where
    pub names_more : {v next : ℕ} → ValueAt (32 ∷ 101 ∷ []) t at v next → v ≡ n + 1 → NamesGoing t v next
    names_more {v} {next} k q =
        let e : v ≡ suc n = q ∙ add-one n in
        record {
          text =
              h.text
              ∙ ap (λ (xs : Bytes). start ++ (name_trail n ++ xs)) (k.text ∙ ap (λ (w : ℕ). 32 ∷ 101 ∷ decimal w ++ drop next t) e)
              ∙ ap (λ (xs : Bytes). start ++ xs)
              (sym (append_assoc (name_trail n) (32 ∷ name n) (drop next t)) ∙ ap (λ (xs : Bytes). xs ++ drop next t) (sym (name_trail-suc n)))
              ∙ ap (λ (w : ℕ). start ++ (name_trail w ++ drop next t)) (sym e);
          few = k.small;
          within = k.within;
        }

    -- what would have to stand behind the first n names
    behind : (m : ℕ) (r : Bytes) → t ≡ line (presentation_names m) ++ r → name_trail n ++ drop at t ≡ name_trail m ++ 10 ∷ r
    behind m r q = append_cancel_left start (name_trail n ++ drop at t) (name_trail m ++ 10 ∷ r) (sym h.text ∙ q ∙ names-line m r)

    pub names-refuse : ((r : Bytes) → 1 ≤ n → drop at t ≡ 10 ∷ r → ⊥)
        → ((r : Bytes) → Ends r → n < largest → drop at t ≡ 32 ∷ 101 ∷ decimal (suc n) ++ r → ⊥) → NamesAt t None
    names-refuse last next = refused (record { none = λ m r a b q. pick m r a b (behind m r q) (dec_lt n m) (ℕ_discrete n m) })
      where
        pick : (m : ℕ) (r : Bytes) → 1 ≤ m → m ≤ largest → name_trail n ++ drop at t ≡ name_trail m ++ 10 ∷ r → Dec (n < m) → Dec (n ≡ m) → ⊥
        pick m r a b q (yes l) d =
            let w = names-ahead n m l in
            next (w.others ++ 10 ∷ r) (w.ends (10 ∷ r) (λ d. omega (arith, d.0))) (omega arith)
            (append_cancel_left (name_trail n) (drop at t) (32 ∷ name n ++ (w.others ++ 10 ∷ r)) (q ∙ split n m w (10 ∷ r)))
        pick m r a b q (no l) (yes e) =
            last r (omega arith) (append_cancel_left (name_trail n) (drop at t) (10 ∷ r) (q ∙ ap (λ (k : ℕ). name_trail k ++ 10 ∷ r) (sym e)))
        pick m r a b q (no l) (no e) =
            let w = names-ahead m n (omega arith) in
            let z : 32 ∷ name m ++ (w.others ++ drop at t) ≡ 10 ∷ r =
            append_cancel_left (name_trail m) (32 ∷ name m ++ (w.others ++ drop at t)) (10 ∷ r) (sym (split m n w (drop at t)) ∙ q) in
            omega (arith, head-eq_of_cons-eq z)

    -- no further name can be read where a space stands
    pub names-fails : get_or t at 0 ≡ 32 → NoValue (32 ∷ 101 ∷ []) t at → NamesAt t None
    names-fails b k =
        names-refuse (λ r a q. omega (arith, front t at 10 r q)) (λ r e l q. k.none (suc n) r l e q)

    pub names-other : {v next : ℕ} → ValueAt (32 ∷ 101 ∷ []) t at v next → (v ≡ n + 1 → ⊥) → NamesAt t None
    names-other {v} {next} k o =
        names-refuse (λ r a q. omega (arith, head-eq_of_cons-eq (sym k.text ∙ q)))
        (λ r e l q. o ((read_known k (suc n) r e q).0 ∙ sym (add-one n)))

    -- neither a space nor the end of the line, or no name at all
    pub names-stops : (get_or t at 0 ≡ 32 → ⊥) → (1 ≤ n → get_or t at 0 ≡ 10 → ⊥) → NamesAt t None
    names-stops s e = names-refuse (λ r a q. e a (front t at 10 r q)) (λ r a l q. s (front t at 32 (101 ∷ decimal (suc n) ++ r) q))

    pub names-end : 1 ≤ n → get_or t at 0 ≡ 10 → at < length t → NamesAt t (Some (n, at + 1))
    names-end l q b =
        record {
          stands = λ m next w.
              let e : ◌≡◌ {A = ℕ × ℕ} (n, at + 1) (m, next) = cc in
              subst (λ (p : ℕ × ℕ). NamesLine t p.0 p.1) e (record {
                text =
                    h.text
                    ∙ ap (λ (xs : Bytes). start ++ (name_trail n ++ xs)) (drop-byte t at 10 q (omega arith))
                    ∙ sym (names-line n (drop (at + 1) t));
                some = l;
                few = h.few;
                within = omega arith;
              });
          fails = λ w. let z : ◌≡◌ {A = ℕ} 0 1 = cc in absurd (omega arith);
        }
