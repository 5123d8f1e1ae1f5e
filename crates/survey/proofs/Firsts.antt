-- Laws of first lines while they are noted.
--
--   firsts-none, firsts-all    none is noted; all are
--   NotingRun                  a run that began with representation r has come to q
--   run_none, run_room, run_more      its beginning, a note that is there, and one representation more
--   run-there, run_small       there are words at its line, and the line is small
use mathlib.Core.Path.{◌≡◌, refl, ap, sym, ◌∙◌}
use mathlib.Core.List.{List}
use Prim.Native.Nat.{ℕ, ◌+◌, ◌*◌, ◌≤◌, ◌<◌}
use native.Mathlib.Omega.{arith}
use lib.ListN.{length, set, length-map, length-set}
use Rattle.definitions.specs.Table.{DEG, word_at}
use Rattle.level.specs.declared.Listed.{Listed}
use Rattle.survey.specs.declared.Frame.{Frame}
use Rattle.survey.specs.declared.Note.{Note}
use Rattle.survey.specs.Notes.{firsts}
use Rattle.survey.specs.Below.{first_of, deg_of, Located, Lines, FirstsTo}
use Rattle.survey.proofs.Notes.{filled_none, filled_put}
use Rattle.survey.proofs.Level.{first_next, first-room, first_below, located-degree}

pub firsts-none : (f : Frame) (W : List ℕ) (notes : List Note) → f.reps ≤ length notes → FirstsTo f W notes 0
firsts-none f W notes l = record { long = omega (arith, length-map notes (λ (n : Note). n.first)); at = filled_none (firsts notes) (first_of f W) }

pub firsts-all : {f : Frame} {W : List ℕ} {notes : List Note} {r : ℕ} → FirstsTo f W notes r → f.reps ≤ r → Lines f W (firsts notes)
firsts-all F l = record { long = F.long; at = λ k h. F.at k (omega arith) }

module _ (f : Frame) (W : List ℕ) (notes₀ : List Note) (r : ℕ) where
  pub record NotingRun (notes : List Note) (line q : ℕ) : Type 0 where
    pub forth : r ≤ q
    pub within : q ≤ f.reps
    pub len : length notes ≡ length notes₀
    pub noted : FirstsTo f W notes q
    pub reached : line ≡ first_of f W q

module _ {f : Frame} {W : List ℕ} {notes₀ : List Note} {r : ℕ} {D : Listed} (L : Located f W r D) where
  pub run_none : FirstsTo f W notes₀ r → NotingRun f W notes₀ r notes₀ D.line r
  run_none F =
      record { forth = omega arith; within = omega (arith, L.listed); len = refl; noted = F; reached = ap (λ (E : Listed). E.line) L.is }

  module _ {notes : List Note} {line q : ℕ} (R : NotingRun f W notes₀ r notes line q) where
    pub run_room : q < f.reps → q < length notes
    run_room h = omega (arith, R.noted.long, length-map notes (λ (n : Note). n.first))

    pub run_more : (n : Note) {step : ℕ} → q < f.reps → word_at W line DEG ≡ D.deg → step ≡ f.gens * D.deg → n.first ≡ line
        → NotingRun f W notes₀ r (set notes q n) (line + step) (q + 1)
    run_more n {step} h e s is = record {
      forth = omega (arith, R.forth);
      within = omega arith;
      len = length-set notes q n ∙ R.len;
      noted = record {
        long = omega (arith, R.noted.long, length-map notes (λ (n : Note). n.first), length-map (set notes q n) (λ (n : Note). n.first), length-set notes q n);
        at = filled_put (λ n. n.first) notes (first_of f W) q n (run_room h) (is ∙ R.reached) R.noted.at;
      };
      reached = ap (λ x. line + x) (s ∙ ap (λ x. f.gens * x) (sym e)) ∙ ap (λ x. x + f.gens * word_at W x DEG) R.reached ∙ sym (first_next f W q);
    }

    pub run-there : q < f.reps → 8 * line + 8 ≤ length W
    run-there h = omega (arith, R.reached, first-room f W L.stands q h)

    pub run_small : q < f.reps → line + f.gens * D.deg ≤ 33554432
    run_small h =
        let e : f.gens * D.deg ≡ f.gens * deg_of f W r = ap (λ x. f.gens * x) (located-degree L) in
        omega (arith, R.reached, first_below f W L.stands q h, first_below f W L.stands r L.listed, e, L.stands.short.1)
