-- `onward` meets its contract: the next representation begins behind the lines of this one.
use mathlib.Core.Path.{◌∙◌, ap, ap₂}
use native.Mathlib.Omega.{arith}
use native.Mathlib.Numerals.{add-one}
use Rattle.level.specs.declared.Listed.{Listed}
use Rattle.level.specs.Stored.{line_in}
use Rattle.seek.proofs.Halves.{line-there, lines-there}
use Rattle.check_heads.proofs.onward.Goals as goal

pub representation-d-requires : goal.representation-d-requires
representation-d-requires c = line-there c.args.words.now c.args.p.line c.requires.here

pub matrix_line-requires : goal.matrix_line-requires
matrix_line-requires c = let room = lines-there c.args.words.now _ c.requires.room in
    let e = ap (λ (d : Listed). line_in d c.args.s.gens) c.representation-d.ensures in
    omega (arith, room, e, c.well_formed)

pub overflow_add-result : goal.overflow_add-result
overflow_add-result c = omega (arith, c.requires.reps, line-there c.args.words.now c.args.p.line c.requires.here, c.well_formed)

pub returns : goal.returns
returns c = let representation = c.representation-d in
    let e = ap (λ (d : Listed). line_in d c.args.s.gens) representation.ensures in
    ap₂ (λ l r. record { line = l; level = c.args.p.level; rep = r }) (c.matrix_line.ensures ∙ e) (add-one c.args.p.rep)
