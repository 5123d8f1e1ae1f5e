-- The cases of a generator: the one on top, and above it.
--
--   to-next, to_last, to-above              the block to which it takes a block
--   by_next, by_last, by-above              the constant there
use mathlib.Core.Path.{◌≡◌, sym, ◌∙◌}
use mathlib.Core.List.{List, []}
use Prim.Native.Nat.{ℕ, suc, ◌≤◌, ◌<◌}
use native.Mathlib.Omega.{arith}
use lib.ListN.{get_or}
use Rattle.numbers.proofs.Bools.{cond-lt, cond-ge, cond-eq, cond-ne}
use Rattle.formulas.specs.Formulas.{block_to}
use Rattle.survey.specs.declared.Frame.{Frame}
use Rattle.survey.specs.declared.Note.{Note}
use Rattle.survey.specs.Notes.{shifts}
use Rattle.survey.specs.Below.{target_of, source_in, position_in}
use Rattle.orbits.specs.declared.Block.{Block}
use Rattle.orbits.specs.Blocks.{scalars, member_of}
use Rattle.induce.specs.Inducing.{factor_in}

module _ (f : Frame) (W : List ℕ) (r g b : ℕ) where
  pub to-next : g ≡ f.top → suc b < f.p → suc b ≡ block_to (source_in f W []) r g b
  unfolding block_to
  to-next e h = sym (cond-ge g f.top _ _ (omega (arith, e)) ∙ cond-eq g f.top _ _ e ∙ cond-lt (suc b) f.p _ _ h)

  pub to_last : g ≡ f.top → f.p ≤ suc b → 0 ≡ block_to (source_in f W []) r g b
  unfolding block_to
  to_last e h = sym (cond-ge g f.top _ _ (omega (arith, e)) ∙ cond-eq g f.top _ _ e ∙ cond-ge (suc b) f.p _ _ h)

  pub to-above : f.top < g → position_in f W (target_of f W g (member_of f W r b)) ≡ block_to (source_in f W []) r g b
  unfolding block_to
  to-above h = sym (cond-ge g f.top _ _ (omega arith) ∙ cond-ne g f.top _ _ (λ e. omega (arith, e)))

module _ (f : Frame) (notes : List Note) (blocks : List Block) (r g b : ℕ) where
  pub by_next : g ≡ f.top → suc b < f.p → 0 ≡ factor_in f notes blocks r g b
  unfolding factor_in
  by_next e h = sym (cond-eq g f.top _ _ e ∙ cond-lt (suc b) f.p _ _ h)

  pub by_last : g ≡ f.top → f.p ≤ suc b → get_or (shifts notes) r 0 ≡ factor_in f notes blocks r g b
  unfolding factor_in
  by_last e h = sym (cond-eq g f.top _ _ e ∙ cond-ge (suc b) f.p _ _ h)

  pub by-above : f.top < g → get_or (scalars blocks) b 0 ≡ factor_in f notes blocks r g b
  unfolding factor_in
  by-above h = sym (cond-ne g f.top _ _ (λ e. omega (arith, e)))
