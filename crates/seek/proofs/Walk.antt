-- A walk over the representations of a level.
--
--   walk-found, walk-more     the representation that is next, and the walk behind it
--   Walked                    a walk, with what is known of the representations before the next
--   walked-none, walked-found, walked-more, walked-end, walked-all     its steps
use mathlib.Core.Path.{◌≡◌, refl, sym, ◌∙◌, ap, subst}
use mathlib.Core.List.{List}
use Prim.Native.Nat.{ℕ, ◌+◌, ◌*◌, ◌<◌}
use native.Mathlib.Numerals.{add-one}
use native.Mathlib.Omega.{arith}
use lib.ListN.{length}
use Rattle.definitions.specs.Table.{level_at, first_line}
use Rattle.level.specs.declared.Listed.{Listed}
use Rattle.level.specs.Stored.{listed_in}
use Rattle.seek.specs.declared.Scope.{Scope}
use Rattle.seek.specs.Seek.{Found}
use Rattle.seek.specs.Walk.{Walks}
use Rattle.seek.specs.declared.Reps.{Reps}
use Rattle.seek.specs.Going.{Going, Gives}
use Rattle.std.specs.Prelude.{Option, Some, None}
use Rattle.seek.proofs.Seek.{found_first, found-next}

module _ {s : Scope} {T : List ℕ} {i many r line : ℕ} (W : Walks s T i many r line) (more : ¬ (r ≡ many)) where
  listed : r < length (level_at s.gens T i)
  listed = omega (arith, W.within, W.counts)

  begins : line ≡ first_line s.gens T i r
  begins = W.here (omega (arith, W.within))

  pub walk-found : {D : Listed} → D ≡ listed_in T line → Found s.gens T i r D
  walk-found e = subst (Found s.gens T i r) (ap (listed_in T) (sym begins) ∙ sym e) (found_first s T W.whole i r W.level.0 W.level.1 listed)

  pub walk-more : {D : Listed} {x : ℕ} → D ≡ listed_in T line → x ≡ D.line + s.gens * D.deg → Walks s T i many (r + 1) x
  walk-more {D} {x} e n = record {
    whole = W.whole;
    level = W.level;
    counts = W.counts;
    within = omega (arith, W.within);
    here = λ l.
        let F = found-next s T W.whole i r x D (walk-found e) (omega (arith, W.counts)) n in
        F.line ∙ ap (first_line s.gens T i) (sym (add-one r));
  }

-- ---- The walk as a loop takes it

-- what is known of the representations before the next
pub record Walked (s : Scope) (T : List ℕ) (i : ℕ) (Q : ℕ → Type 0) (a : Reps) : Type 0 where
  pub going : Going s T i a.rep a
  pub known : Q a.rep

module _ {s : Scope} {T : List ℕ} {i : ℕ} {Q : ℕ → Type 0} where
  pub walked-none : {a b : Reps} → Going s T i 0 a → b ≡ a → Q 0 → Walked s T i Q b
  walked-none {a} {b} G e q = subst (Walked s T i Q) (sym e) (record {
    going = record { scope = G.scope; words = G.words; level = G.level; rep = refl };
    known = subst Q (sym G.rep) q;
  })

  module _ {a : Reps} (W : Walked s T i Q a) where
    pub walked-found : (b : Reps) {x : Option Listed} {D : Listed} → x ≡ Some D → Gives a x b → Found s.gens T i a.rep D
    walked-found b {x} {D} e g =
        let G = W.going in
        let (F, H) = subst (λ x. Gives a x b) e g in
        rw (sym G.scope, sym G.words, sym G.level) F

    pub walked-more : {Q' : ℕ → Type 0} {b : Reps} {x : Option Listed} {D : Listed} → x ≡ Some D → Gives a x b → Q' (a.rep + 1) → Walked s T i Q' b
    walked-more {Q'} {b} {x} {D} e g q =
        let G = W.going in
        let (F, H) = subst (λ x. Gives a x b) e g in
        record {
          going = record { scope = H.scope ∙ G.scope; words = H.words ∙ G.words; level = H.level ∙ G.level; rep = refl };
          known = subst Q' (sym H.rep) q;
        }

    pub walked-end : (b : Reps) {x : Option Listed} → x ≡ None → Gives a x b → a.rep ≡ length (level_at s.gens T i)
    walked-end b {x} e g =
        let G = W.going in
        let n : a.rep ≡ length (level_at a.scope.gens a.words.now a.level) = subst (λ x. Gives a x b) e g in
        rw (sym G.scope, sym G.words, sym G.level) n

    pub walked-all : (b : Reps) {x : Option Listed} → x ≡ None → Gives a x b → Q (length (level_at s.gens T i))
    walked-all b e g = subst Q (walked-end b e g) W.known
