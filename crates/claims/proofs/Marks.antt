-- Marks as they are set.
--
--   dec-free, taken-busy, shared-busy  whether a mark is free
--   kept_same, kept_more               marks that are not free stay
--   Taking, taking-none, taking-more, taking-all     what is claimed whole, column by column
use mathlib.Core.Path.{◌≡◌, refl, sym, ◌∙◌, ap, subst}
use mathlib.Core.Logic.{by_cases}
use mathlib.Core.List.{List}
use Prim.Native.Nat.{ℕ, ◌+◌, ◌≤◌, ◌<◌}
use native.Mathlib.Decide.{ℕ_discrete}
use native.Mathlib.Omega.{arith}
use lib.ListN.{length, get_or}
use borrow.Author.Count.{below_more}
use Rattle.definitions.specs.Monomial.{Rep}
use Rattle.claims.specs.declared.Mark.{Mark}
use Rattle.claims.specs.declared.Mark.TheVariants.{Free, Shared, Taken}
use Rattle.claims.specs.Claims.{StaysMarked, Took, TookAll}

-- ---- Whether a mark is free

pub taken-busy : ¬ (Taken ≡ Free)
taken-busy e = cc

pub shared-busy : ¬ (Shared ≡ Free)
shared-busy e = cc

dec-free : (x : Mark) → Dec (x ≡ Free)
dec-free Free = yes refl
dec-free Shared = no shared-busy
dec-free Taken = no taken-busy

-- ---- Marks that stay

kept_same : (M : List Mark) → StaysMarked M M
kept_same M f h = refl

kept_more : (M N O : List Mark) → StaysMarked M N → StaysMarked N O → StaysMarked M O
kept_more M N O k k' f n = let e = k f n in k' f (λ z. n (sym e ∙ z)) ∙ e

-- ---- All references

pub record Taking (D : Rep) (M N : List Mark) (last c : ℕ) : Type 0 where
  pub size : length N ≡ length M
  pub free : (k : ℕ) → k < c → get_or M (D.ref 0 k) Free ≡ Free
  pub marked : (k : ℕ) → k < c → get_or N (D.ref 0 k) Free ≡ Taken
  pub kept : StaysMarked M N
  pub last_free : last < length N → get_or M last Free ≡ Free
  pub last_marked : last < length N → get_or N last Free ≡ Taken

pub taking-none : (D : Rep) (M : List Mark) (last : ℕ) → last ≡ length M → Taking D M M last 0
taking-none D M last e = record {
  size = refl;
  free = λ k l. absurd (omega arith);
  marked = λ k l. absurd (omega arith);
  kept = kept_same M;
  last_free = λ l. absurd (omega arith);
  last_marked = λ l. absurd (omega arith);
}

pub taking-all : {D : Rep} {M N : List Mark} {last c : ℕ} → Taking D M N last c → D.deg ≤ c → TookAll D M N
taking-all H l = record { free = λ k a. H.free k (omega arith); marked = λ k a. H.marked k (omega arith); kept = H.kept }

module _ {D : Rep} {M N O : List Mark} {last f c : ℕ} (H : Taking D M N last c) (is : f ≡ D.ref 0 c) (t : Took f last N O) where
  was_free : get_or M f Free ≡ Free
  was_free = go (ℕ_discrete f last) (dec-free (get_or M f Free))
    where
      go : Dec (f ≡ last) → Dec (get_or M f Free ≡ Free) → get_or M f Free ≡ Free
      go d (yes z) = z
      go (yes e) (no z) = subst (λ k. get_or M k Free ≡ Free) (sym e) (H.last_free (omega (arith, e, t.inside)))
      go (no e) (no z) = absurd (z (sym (H.kept f z) ∙ t.free e))

  is-marked : get_or O f Free ≡ Taken
  is-marked = by_cases (ℕ_discrete f last)
      (λ e. ap (λ (L : List Mark). get_or L f Free) (t.again e) ∙ subst (λ k. get_or N k Free ≡ Taken) (sym e) (H.last_marked (omega (arith, e, t.inside))))
      (λ e. t.marked e)

  stays : (k : ℕ) → k < c → get_or O (D.ref 0 k) Free ≡ Taken
  stays k l = let e = H.marked k l in t.kept (D.ref 0 k) (λ z. taken-busy (sym e ∙ z)) ∙ e

  pub taking-more : Taking D M O f (c + 1)
  taking-more = record {
    size = t.size ∙ H.size;
    free = below_more (λ k. get_or M (D.ref 0 k) Free ≡ Free) c H.free (subst (λ k. get_or M k Free ≡ Free) is was_free);
    marked = below_more (λ k. get_or O (D.ref 0 k) Free ≡ Taken) c stays (subst (λ k. get_or O k Free ≡ Taken) is is-marked);
    kept = kept_more M N O H.kept t.kept;
    last_free = λ _. was_free;
    last_marked = λ _. is-marked;
  }
