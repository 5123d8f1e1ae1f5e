-- What is asked of the blocks of every representation, level by level.
--
--   Holding s T, asks s T       the presentations for which the table is well formed, and the test of a representation
--   HoldingBehind s T k         and for which the first k levels restrict
--   up-behind                   these levels, or level 1, of which nothing is asked: no generator is below its top
use mathlib.Core.Path.{◌≡◌, refl, sym, subst}
use mathlib.Core.Logic.{◌⊎◌, inl, inr}
use mathlib.Core.Bool.{Bool, true}
use mathlib.Core.List.{List, [], ◌∷◌}
use Prim.Native.Nat.{ℕ}
use lib.ListN.{length}
use Rattle.definitions.specs.Lists.{all_below, all}
use Rattle.definitions.specs.Presentation.{Presentation}
use Rattle.definitions.specs.Monomial.{Rep, rep_of}
use Rattle.definitions.specs.Table.{level_at}
use Rattle.definitions.specs.Judgement.{cuts, block_restricts, restricts}
use Rattle.numbers.proofs.Bools.{and_intro}
use Rattle.numbers.proofs.Lists.{all_below-intro}
use Rattle.numbers.proofs.Passed.{passed_none, passed-more}
use Rattle.seek.specs.declared.Scope.{Scope}
use Rattle.seek.specs.Formed.{Formed}
use Rattle.seek.specs.Among.{on_level}
use Rattle.seek.proofs.Among.{UpTo, up-to-known}
use Rattle.check_blocks.specs.Blocks.{FormedBehind}

all_true : (q : ℕ → Bool) → ((o : ℕ) → q o ≡ true) → (xs : List ℕ) → all q xs ≡ true
unfolding all
all_true q h [] = refl
all_true q h (x ∷ xs) = and_intro (q x) (all q xs) (h x) (all_true q h xs)

module _ (s : Scope) (T : List ℕ) where
  abbrev pub Holding : Presentation → Type 0
  Holding P = Formed P s T

  abbrev pub HoldingBehind : ℕ → Presentation → Type 0
  HoldingBehind k P = FormedBehind s T k P

  abbrev pub asks : Presentation → ℕ → Rep → Bool
  asks P = restricts P s.m T

  first-restricts : (P : Presentation) → on_level s.gens T (restricts P s.m T) 1 ≡ true
  unfolding on_level restricts block_restricts all_below
  first-restricts P =
      let R : ℕ → Rep = rep_of (level_at s.gens T 1) in
      all_below-intro (length (level_at s.gens T 1)) (λ r. restricts P s.m T 1 (R r))
      (λ r l. all_true (block_restricts P s.m T 0 (R r)) (λ o. refl) (cuts (level_at P.n T 0) (R r)))

  pub up-behind : (k : ℕ) {r : ℕ} → (r ≡ k) ⊎ (r ≡ 1) → UpTo s T (λ P. FormedBehind s T k P) (λ P. restricts P s.m T) r
  up-behind k (inl e) = subst (UpTo s T (HoldingBehind k) asks) (sym e) (up-to-known s T (HoldingBehind k) asks (λ P p. p.known))
  up-behind k (inr e) = subst (UpTo s T (HoldingBehind k) asks) (sym e) (passed-more passed_none (λ P p. sym (first-restricts P)) refl)
