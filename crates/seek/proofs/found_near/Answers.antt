-- `found_near` meets its contract: the search ends at the first line.
use mathlib.Core.Path.{sym, subst}
use Rattle.seek.specs.Seek.{Found}
use Rattle.seek.proofs.Seek.{splits, found_at, found-there}
use Rattle.seek.proofs.found_near.Goals as goal

pub find_near-requires : goal.find_near-requires
find_near-requires c = let p = c.requires in
    (p.0, splits c.args.s c.args.words.now p.0 c.args.i c.args.r p.1 p.2 p.3)

pub representation-requires : goal.representation-requires
representation-requires c = let p = c.requires in
    let f = c.find_near in
    found-there c.args.s c.args.words.now p.0
    (found_at c.args.s c.args.words.now p.0 c.args.i c.args.r f.result p.1 p.2 p.3 f.ensures)

pub returns : goal.returns
returns c = let p = c.requires in
    let f = c.find_near in
    let here = found_at c.args.s c.args.words.now p.0 c.args.i c.args.r f.result p.1 p.2 p.3 f.ensures in
    subst (Found c.args.s.gens c.args.words.now c.args.i c.args.r) (sym c.representation.ensures) here
