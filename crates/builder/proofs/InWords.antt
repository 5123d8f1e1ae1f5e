-- What stands above a representation of a level that stands in words, by the tests that code makes: who leads its orbit, and
-- where the generator on top leads it.
--
--   above-nothing              above one that another leads there is nothing
--   all-wrote                  after the last representation the level is written
--   extensions-asked, extensions-above      above one that is fixed stand its extensions, and what these ask
--   induction-asked, induction-above        above one that leads an orbit that moves stands what that induces
use mathlib.Core.Path.{◌≡◌, sym, ◌∙◌, subst}
use mathlib.Core.List.{List}
use Prim.Native.Nat.{ℕ, ◌*◌, ◌≤◌, ◌<◌}
use native.Mathlib.Omega.{arith}
use lib.ListN.{length}
use borrow.Author.Tests.{eq-eqb, ne_eqb}
use Rattle.text.specs.Writing.{Wrote}
use Rattle.text.proofs.Writing.{wrote_as, wrote_none}
use Rattle.lines.specs.Lines.{Space, Appended}
use Rattle.lines.proofs.Appending.{Going}
use Rattle.survey.specs.declared.Frame.{Frame}
use Rattle.survey.specs.declared.Note.{Note}
use Rattle.survey.specs.Below.{deg_of, target_of, leader_in, source_in, Fixed, Leads, LevelStands, Surveyed}
use Rattle.survey.proofs.Level.{moved-many}
use Rattle.survey.proofs.Marking.{lead-fixed}
use Rattle.orbits.specs.declared.Block.{Block}
use Rattle.extend.specs.Extending.{extensions_words}
use Rattle.induce.specs.Inducing.{induction_words}
use Rattle.builder.specs.Above.{above_in, next_words}
use Rattle.builder.specs.Level.{BlocksLent}
use Rattle.builder.proofs.Above.{above-fixed, above-led, above-none, fixed-length, led-length, level-wrote}

module _ (f : Frame) (W : List ℕ) (rows : List (List ℕ)) where
  pub above-nothing : LevelStands f W → (r : ℕ) → r < f.reps → ¬ (leader_in f W r ≡ r) → {at : ℕ} {w : List ℕ}
      → Space f.end at (length (above_in f W rows r)) w → Appended w at (above_in f W rows r) w at
  above-nothing S r h n {at} {w} R =
      let none = above-none f.gens (source_in f W rows) r (ne_eqb _ r (λ e. n (lead-fixed f W S r h e))) (ne_eqb _ r n) in
      wrote_as (wrote_none w (8 * at) (omega (arith, R.room))) (sym none)

  pub all-wrote : {low : ℕ} {w₀ : List ℕ} {at₀ r : ℕ} {w : List ℕ} {at : ℕ} → Going low (above_in f W rows) w₀ at₀ r w at → r ≡ f.reps
      → Wrote w₀ (8 * at₀) (next_words f W rows) w (8 * at)
  all-wrote {low} {w₀} {at₀} {r} {w} {at} G e =
      level-wrote f.gens (source_in f W rows) (subst (λ k. Going low (above_in f W rows) w₀ at₀ k w at) e G)

  -- the generator on top leads r to x
  module _ (r : ℕ) {x : ℕ} (t : x ≡ target_of f W f.top r) {notes : List Note} (Y : Surveyed f W rows notes) (h : r < f.reps) where
    pub extensions-asked : x ≡ r → {at : ℕ} {w : List ℕ} → Space f.end at (length (above_in f W rows r)) w
        → (Surveyed f W rows notes × (r < f.reps) × Fixed f W r) × Space f.end at (f.p * (8 * (f.gens * deg_of f W r))) w
    extensions-asked e R =
        let long = fixed-length f.gens (source_in f W rows) r (eq-eqb _ r (sym t ∙ e)) in
        ((Y, h, sym t ∙ e), record { from = R.from; room = omega (arith, long, R.room) })

    pub extensions-above : x ≡ r → extensions_words f W rows r ≡ above_in f W rows r
    unfolding extensions_words
    extensions-above e = sym (above-fixed f.gens (source_in f W rows) r (eq-eqb _ r (sym t ∙ e)))

    module _ (v : ¬ (x ≡ r)) (led : leader_in f W r ≡ r) where
      moves : ¬ Fixed f W r
      moves e = v (t ∙ e)

      pub induction-asked : (blocks : List Block) → BlocksLent f blocks → {at : ℕ} {w : List ℕ} → Space f.end at (length (above_in f W rows r)) w
          → (Surveyed f W rows notes × Leads f W r × (f.p ≤ length blocks)) × Space f.end at (8 * (f.gens * (f.p * deg_of f W r))) w
      induction-asked blocks B R =
          let long = led-length f.gens (source_in f W rows) r (ne_eqb _ r moves) (eq-eqb _ r led) in
          let lent = B (moved-many f W Y.sound.stands r h moves) in
          ((Y, record { listed = h; moves = moves; led = led }, lent), record { from = R.from; room = omega (arith, long, R.room) })

      pub induction-above : induction_words f W rows r ≡ above_in f W rows r
      induction-above = sym (above-led f.gens (source_in f W rows) r (ne_eqb _ r moves) (eq-eqb _ r led))
