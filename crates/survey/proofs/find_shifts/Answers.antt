-- `find_shifts`: the constants of the representations before r are noted.
use mathlib.Core.Path.{refl, ◌∙◌}
use native.Mathlib.Omega.{arith}
use lib.ListN.{length-map}
use borrow.Author.Rules.{rules}
use Rattle.std.proofs.Math.Seq.{map-set_same}
use Rattle.survey.specs.declared.Note.{Note}
use Rattle.survey.specs.Notes.{without_shift}
use Rattle.survey.proofs.Notes.{blank, kept, orbit_of, orbits_kept, filled_put}
use Rattle.survey.proofs.find_shifts.Goals as goal

pub leading-requires : goal.leading-requires
leading-requires c = let O = orbits_kept _ _ (kept orbit_of without_shift _ _ c.loop-r.invariant.0) c.requires.1 in
    (c.requires.0, O, search rules, c.requires.2)

pub loop-r-preserved : goal.loop-r-preserved
loop-r-preserved c = let l = c.loop-r in (
  map-set_same without_shift l.notes l.r _ blank refl ∙ l.invariant.0,
  filled_put (λ n. n.shift) l.notes _ l.r _
      (omega (arith, c.requires.1.lines.long, length-map c.args.notes.now (λ (n : Note). n.first))) c.leading.ensures.0 l.invariant.1,
)
