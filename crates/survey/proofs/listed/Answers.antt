-- `listed` reads the first line and the degree.
use native.Mathlib.Omega.{arith}
use Rattle.survey.proofs.Level.{first-room}
use Rattle.survey.proofs.Notes.{noted}
use Rattle.survey.proofs.listed.Goals as goal

pub representation-requires : goal.representation-requires
representation-requires c =
    omega (arith, noted (λ n. n.first) c.args.notes.now c.requires.1 _ c.requires.2, first-room _ _ c.requires.0 _ c.requires.2)
