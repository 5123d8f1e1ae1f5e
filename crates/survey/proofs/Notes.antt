-- Laws of notes.
--
--   blank                      the note of zeros, for a row that is not there
--   there                      a row of which a number is noted
--   noted_at, noted            a number that is noted of a representation, and what it is
--   noted-led, noted_other     the leader that is noted is the representation itself, or another
--   kept, beside-long          what is kept where something else is stored; as many notes
--   orbit_of, orbits_kept      orbits stay noted where what they are made of does
--   led, placed, marked        leader and position are stored
--   marked-leaders .. marked-firsts      what is noted then
--   Filled, filled_none, filled_more, filled_put      numbers that are noted up to a representation
--   cleared_more               one more note that is its own leader
use mathlib.Core.Path.{◌≡◌, refl, ap, sym, ◌∙◌, subst}
use mathlib.Core.Logic.{by_cases}
use mathlib.Core.List.{List, map}
use Prim.Native.Nat.{ℕ, ◌+◌, ◌<◌, ◌≤◌}
use native.Mathlib.Omega.{arith}
use native.Mathlib.Decide.{ℕ_discrete}
use lib.ListN.{length, get_or, set, length-map}
use lib.Seq.{get_or-set_same, get_or-set_other}
use Rattle.std.proofs.Math.Seq.{map-set_same}
use Rattle.std.proofs.lemmas.List.{get_or-map, map-set}
use Rattle.std.proofs.lemmas.Simd.{map-map}
use Rattle.survey.specs.declared.Frame.{Frame}
use Rattle.survey.specs.declared.Note.{Note}
use Rattle.survey.specs.Notes.{firsts, leaders, positions, without_leader, Beside, Cleared}
use Rattle.survey.specs.Below.{leader_in, position_in, Array, Lines, Orbited}

abbrev pub blank : Note
blank = record { first = 0; leader = 0; position = 0; number = 0; shift = 0 }

-- ---- Numbers, read off the notes

pub there : (h : Note → ℕ) (notes : List Note) {n r : ℕ} → n ≤ length (map h notes) → r < n → r < length notes
there h notes l b = omega (arith, length-map notes h)

pub noted_at : (h : Note → ℕ) (notes : List Note) (r : ℕ) → r < length notes → get_or (map h notes) r 0 ≡ h (get_or notes r blank)
noted_at h notes r l = get_or-map h notes r blank 0 l

pub noted : {f : Frame} {W : List ℕ} {g : ℕ → ℕ} (h : Note → ℕ) (notes : List Note) → Array f W (map h notes) g
    → (r : ℕ) → r < f.reps → h (get_or notes r blank) ≡ g r
noted h notes A r l = sym (noted_at h notes r (there h notes A.long l)) ∙ A.at r l

module _ {f : Frame} {W : List ℕ} {notes : List Note} (O : Orbited f W notes) {r : ℕ} (h : r < f.reps) where
  pub noted-led : (get_or notes r blank).leader ≡ r → leader_in f W r ≡ r
  noted-led l = sym (noted (λ n. n.leader) notes O.leaders_are r h) ∙ l

  pub noted_other : ¬ ((get_or notes r blank).leader ≡ r) → ¬ (leader_in f W r ≡ r)
  noted_other n l = n (noted (λ n. n.leader) notes O.leaders_are r h ∙ l)

-- ---- What is kept where something else is stored

pub kept : {X : Type 0} (h : Note → X) (without : Note → Note) (a b : List Note) → Beside without a b
    → map (λ n. h (without n)) b ≡ map (λ n. h (without n)) a
kept h without a b B = sym (map-map h without b) ∙ ap (map h) B ∙ map-map h without a

pub beside-long : (without : Note → Note) (a b : List Note) → Beside without a b → length b ≡ length a
beside-long without a b B = sym (length-map b without) ∙ ap length B ∙ length-map a without

-- a note as far as orbits are made of it
abbrev pub orbit_of : Note → Note
orbit_of n = record { first = n.first; leader = n.leader; position = n.position; number = 0; shift = 0 }

pub orbits_kept : {f : Frame} {W : List ℕ} (a b : List Note) → Beside orbit_of a b → Orbited f W a → Orbited f W b
orbits_kept {f} {W} a b B O = record {
  lines = subst (Lines f W) (sym (kept (λ n. n.first) orbit_of a b B)) O.lines;
  leaders_are = subst (λ x. Array f W x (leader_in f W)) (sym (kept (λ n. n.leader) orbit_of a b B)) O.leaders_are;
  places_are = subst (λ x. Array f W x (position_in f W)) (sym (kept (λ n. n.position) orbit_of a b B)) O.places_are;
}

-- ---- Leader and position are stored

abbrev pub led : List Note → (q x : ℕ) → List Note
led notes q x =
    let n = get_or notes q blank in
    set notes q (record { first = n.first; leader = x; position = n.position; number = n.number; shift = n.shift })

abbrev pub placed : List Note → (q k : ℕ) → List Note
placed notes q k =
    let n = get_or notes q blank in
    set notes q (record { first = n.first; leader = n.leader; position = k; number = n.number; shift = n.shift })

-- a note without leader and position
abbrev pub without_orbit : Note → Note
without_orbit n = record { first = n.first; leader = 0; position = 0; number = n.number; shift = n.shift }

module _ (notes : List Note) (q x k : ℕ) where
  abbrev pub marked : List Note
  marked = placed (led notes q x) q k

  pub marked-leaders : leaders marked ≡ set (leaders notes) q x
  marked-leaders = map-set_same (λ (n : Note). n.leader) (led notes q x) q _ blank refl ∙ map-set (λ (n : Note). n.leader) notes q _

  pub marked-positions : positions marked ≡ set (positions notes) q k
  marked-positions = map-set (λ (n : Note). n.position) (led notes q x) q _
      ∙ ap (λ a. set a q k) (map-set_same (λ (n : Note). n.position) notes q _ blank refl)

  pub marked-beside : Beside without_orbit notes marked
  marked-beside = map-set_same without_orbit (led notes q x) q _ blank refl ∙ map-set_same without_orbit notes q _ blank refl

  pub marked-long : length marked ≡ length notes
  marked-long = beside-long without_orbit notes marked marked-beside

  pub marked-firsts : firsts marked ≡ firsts notes
  marked-firsts = kept (λ n. n.first) without_orbit notes marked marked-beside

-- ---- Numbers that are noted up to a representation

abbrev pub Filled : List ℕ → (ℕ → ℕ) → ℕ → Type 0
Filled a g r = (k : ℕ) → k < r → get_or a k 0 ≡ g k

pub filled_none : (a : List ℕ) (g : ℕ → ℕ) → Filled a g 0
filled_none a g k l = absurd (omega arith)

pub filled_more : (a : List ℕ) (g : ℕ → ℕ) (r x : ℕ) → r < length a → x ≡ g r → Filled a g r → Filled (set a r x) g (r + 1)
filled_more a g r x l e h k m = by_cases (ℕ_discrete k r)
    (λ q. ap (λ z. get_or (set a r x) z 0) q ∙ get_or-set_same a r x 0 l ∙ e ∙ ap g (sym q))
    (λ q. get_or-set_other a r k x 0 q ∙ h k (omega arith))

pub filled_put : (h : Note → ℕ) (notes : List Note) (g : ℕ → ℕ) (r : ℕ) (n : Note) → r < length notes → h n ≡ g r → Filled (map h notes) g r
    → Filled (map h (set notes r n)) g (r + 1)
filled_put h notes g r n l e F =
    subst (λ a. Filled a g (r + 1)) (sym (map-set h notes r n)) (filled_more (map h notes) g r (h n) (omega (arith, length-map notes h)) e F)

pub cleared_more : {k : ℕ} {a : List Note} (notes : List Note) → k < length notes → Cleared k a notes → Cleared (k + 1) a (led notes k k)
cleared_more {k} notes l C = record {
  beside = map-set_same without_leader notes k _ blank refl ∙ C.beside;
  alone = filled_put (λ n. n.leader) notes (λ j. j) k _ l refl C.alone;
}
