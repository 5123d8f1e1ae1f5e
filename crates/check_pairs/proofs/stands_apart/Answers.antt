-- `stands_apart` tests one representation, and those before it.
use Rattle.check_pairs.proofs.Levels.{found-placed, placed-later, stands-fails, stands-rest}
use Rattle.check_pairs.proofs.stands_apart.Goals as goal

pub own-requires : goal.own-requires
own-requires c = let (F, l, h) = c.requires in (c.args.r, found-placed F.1 l c.found-e.ensures)

pub returns-then-not-own : goal.returns-then-not-own
returns-then-not-own c = let t = c.own in
    let G = c.found-e.ensures in
    stands-fails c.requires.1 G t.ensures (c.if-not-own.true)

pub first_width-w-requires : goal.first_width-w-requires
first_width-w-requires c = let (F, l, h) = c.requires in
    (c.args.r, found-placed F.1 l c.found-e.ensures)

pub earlier_apart-requires : goal.earlier_apart-requires
earlier_apart-requires c = let (F, l, h) = c.requires in
    placed-later (found-placed F.1 l c.found-e.ensures) c.first_width-w.ensures.0

pub returns : goal.returns
returns c = let t = c.own in
    stands-rest c.requires.1 c.found-e.ensures t.ensures (c.if-not-own.false) c.earlier_apart.ensures
