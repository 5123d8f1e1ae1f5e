-- `walk_word`: after k generators row and exponent are what their part of the word makes of x.
use borrow.Author.Rules.{rules}
use mathlib.Core.Path.{◌≡◌, sym, ap, ap₂, ◌∙◌, subst}
use Prim.Native.Nat.{ℕ, ◌+◌, ◌*◌}
use native.Mathlib.Omega.{arith}
use native.Mathlib.Numerals.{add-one}
use lib.ListN.{get_or, take}
use Rattle.std.proofs.lemmas.List.{get_or-take}
use Rattle.definitions.specs.declared.Entry.{Entry}
use Rattle.definitions.specs.Lists.{iter}
use Rattle.definitions.specs.Monomial.{Matrix, entry, act}
use Rattle.level.specs.Stored.{matrix_in, Below}
use Rattle.level.proofs.Columns.{turns-none, walk-zero, walk-next}
use Rattle.level.proofs.walk_word.Goals as goal
use Rattle.level.proofs.walk_word.Goals.{then-e-ne0, else-e-ne0}

-- k turns of y
abbrev Turn : (m d : ℕ) → (Entry → Entry) → ℕ → Entry → Entry → Type 0
Turn m d f k y r = (r ≡ iter f k y) × Below m d r

pub loop-e-init : goal.loop-e-init
loop-e-init c = (omega arith, sym (walk-zero _ _ c.args.w.now _), c.requires.below)

pub loop-e-preserved : goal.loop-e-preserved
loop-e-preserved c = let l = c.loop-e in
    let W = c.args.words.now in
    let F : ℕ → Matrix = λ j. matrix_in W (c.args.at + j * c.args.d) c.args.d in
    let f : ℕ → Entry → Entry = λ g. act c.args.m (matrix_in W g c.args.d) in
    let e = get_or (take c.args.n c.args.w.now) l.e-index 0 in
    let y : Entry = entry l.row l.exp in
    let on : Turn c.args.m c.args.d (f l.g) e y (entry c.if-e-ne0.row c.if-e-ne0.exp) =
    elim c.if-e-ne0.branch [
      | then-e-ne0 w ↦ subst (Turn c.args.m c.args.d (f l.g) e y) (sym (ap₂ entry w.row-is w.exp-is)) w.apply_times-y.ensures
      | else-e-ne0 w ↦ subst (Turn c.args.m c.args.d (f l.g) e y) (sym (ap₂ entry w.row-is w.exp-is)) (turns-none (f l.g) w.if-e-ne0.false, l.invariant.2)
    ] in
    let read : e ≡ get_or c.args.w.now l.e-index 0 = get_or-take c.args.n c.args.w.now l.e-index 0 (search rules) in (
      omega (arith, l.invariant.0, ap (λ (n : ℕ). n * c.args.d) (add-one l.e-index)),
      on.0 ∙ (λ i. iter (f (l.invariant.0 i)) (read i) (l.invariant.1 i)) ∙ sym (walk-next _ F _ _ _),
      on.1,
    )
