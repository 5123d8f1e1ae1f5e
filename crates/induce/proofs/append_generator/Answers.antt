-- `append_generator` finds scalars and reference, and appends.
use Prim.Native.Nat.{◌≤◌}
use native.Mathlib.Omega.{arith}
use Rattle.text.proofs.Writing.{wrote_as}
use Rattle.survey.specs.Below.{low_of}
use Rattle.induce.proofs.Generators.{stills-are, cells_are, scalars-small}
use Rattle.induce.proofs.append_generator.Goals as goal

pub returns-then-g-f : goal.returns-then-g-f
returns-then-g-f c = let a = c.args in
    let are = stills-are _ (low_of a.f a.words.now) _ _ _ _ c.requires.inducing.0 _ in
    record { appended = wrote_as c.append_below.ensures (are c.if-g-f.true c.requires.deg_value.0); inducing_2 = c.requires.inducing.0 }

pub append_cells-requires : goal.append_cells-requires
append_cells-requires c = let a = c.args in
    let E = c.find_scalars.ensures in
    let small = scalars-small a.f (low_of a.f a.words.now) a.rows.now a.notes.now _ a.i E.inducing a.g in (
      record {
        writing = record { listing = record { rows = a.rows.now; known = E.inducing }; degree = c.requires.deg_value.0; inside = c.requires.inducing.1 };
        high = omega (arith, c.if-g-f.false);
        scalars_below = λ above. small (E.block_scalars above);
      },
      c.requires.deg_value.1,
    )

pub returns : goal.returns
returns c = let a = c.args in
    let E = c.find_scalars.ensures in
    let high : a.f.top ≤ a.g = omega (arith, c.if-g-f.false) in
    let are = cells_are _ (low_of a.f a.words.now) _ _ _ _ E.inducing _ _ in
    record {
      appended = wrote_as c.append_cells.ensures (are high c.requires.inducing.1 c.requires.deg_value.0 E.block_scalars
          c.induced_target-x.ensures);
      inducing_2 = E.inducing;
    }
