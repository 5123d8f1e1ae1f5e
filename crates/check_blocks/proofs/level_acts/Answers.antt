-- `level_acts` goes through the representations of the level.
use mathlib.Core.Path.{refl, ap}
use Prim.Native.Nat.{suc}
use native.Mathlib.Numerals.{add-one}
use native.Mathlib.Omega.{arith}
use lib.ListN.{length}
use Rattle.definitions.specs.Table.{level_at}
use Rattle.numbers.proofs.Passed.{passed-more}
use Rattle.seek.proofs.Seek.{found-above}
use Rattle.seek.proofs.Walk.{walked-found, walked-more, walked-all}
use Rattle.seek.proofs.Among.{told-found, level-fails, level_holds}
use Rattle.check_blocks.proofs.Levels.{Holding, asks}
use Rattle.check_blocks.proofs.level_acts.Goals as goal

pub blocks_act-requires : goal.blocks_act-requires
blocks_act-requires c = let (P, formed) = c.requires.0 in
    let F = found-above (walked-found c.loop-d.invariant _ refl c.in-Some.ensures.steps) in
    (record { presented = P; formed = formed; r = c.loop-d.d-iterator.rep; found = F }, c.requires.1)

pub returns-then-not-blocks_act : goal.returns-then-not-blocks_act
returns-then-not-blocks_act c = let a = c.args in
    let T = a.words.now in
    let F = found-above (walked-found c.loop-d.invariant _ refl c.in-Some.ensures.steps) in
    record { is = level-fails a.s T (Holding a.s T) (asks a.s T) (suc a.i) c.loop-d.invariant.known F c.blocks_act.ensures.is c.if-not-blocks_act.true }

pub loop-d-preserved : goal.loop-d-preserved
loop-d-preserved c = let a = c.args in
    let T = a.words.now in
    let F = found-above (walked-found c.loop-d.invariant _ refl c.in-Some.ensures.steps) in
    let told = told-found a.s T (Holding a.s T) (asks a.s T) (suc a.i) F c.blocks_act.ensures.is in
    walked-more c.loop-d.invariant refl c.in-Some.ensures.steps (passed-more c.loop-d.invariant.known told c.if-not-blocks_act.false)

pub returns : goal.returns
returns c = let a = c.args in
    let T = a.words.now in
    let all = walked-all c.loop-d.invariant c.next.new.self refl c.in-None.ensures.steps in
    let e = ap (λ i. length (level_at a.s.gens T i)) (add-one a.i) in
    record { is = level_holds a.s T (Holding a.s T) (asks a.s T) (suc a.i) all (omega (arith, e)) }
