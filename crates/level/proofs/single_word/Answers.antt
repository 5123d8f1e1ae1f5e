-- `single_word`: after k generators y is the exponent that their part of the word makes of e.
use borrow.Author.Rules.{rules}
use mathlib.Core.Path.{◌≡◌, sym, ap₂, ◌∙◌, subst}
use Prim.Native.Nat.{ℕ, ◌+◌, ◌*◌}
use native.Mathlib.Omega.{arith}
use lib.ListN.{get_or}
use Rattle.definitions.specs.declared.Entry.{Entry}
use Rattle.definitions.specs.Lists.{iter}
use Rattle.definitions.specs.Monomial.{Matrix, entry, act}
use Rattle.level.specs.Stored.{matrix_in, Holds}
use Rattle.level.proofs.Columns.{walk-zero, walk-next}
use Rattle.level.proofs.single_word.Goals as goal

pub loop-k-init : goal.loop-k-init
loop-k-init c = (search rules, sym (walk-zero _ _ c.args.w.now _), c.requires.2)

pub single_times-y-requires : goal.single_times-y-requires
single_times-y-requires c = let l = c.loop-k in
    let i : c.args.at + l.k * 1 ≡ c.args.at + l.k = omega arith in
    (subst (λ g. Holds c.args.m c.args.words.now g 1) i (c.requires.1 _ (search rules)), l.invariant.2)

pub loop-k-preserved : goal.loop-k-preserved
loop-k-preserved c = let l = c.loop-k in
    let W = c.args.words.now in
    let F : ℕ → Matrix = λ j. matrix_in W (c.args.at + j * 1) 1 in
    let i : c.args.at + l.k ≡ c.args.at + l.k * 1 = omega arith in
    let T = c.single_times-y.ensures in
    let step = ap₂ (λ g (x : Entry). iter (act c.args.m (matrix_in W g 1)) (get_or c.args.w.now l.k 0) x) i l.invariant.1 in
    (search rules, T.0 ∙ step ∙ sym (walk-next _ F _ _ (entry 0 c.args.e)), T.1)
