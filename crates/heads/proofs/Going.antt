-- The walk over the heads as a loop takes it, and what the whole of it says.
--
--   Walking l i r                    what is left to walk from here says what the whole walk says
--   going-none, going_more, going-fails, going-ends     the steps of the loop
--   heads-whole, heads-headed, heads-complete, heads-degrees     a table that passes has whole lines and its heads in order, is
--                                  complete, and has degrees that are positive and bounded
--   heads-all                      a complete table with bounded degrees passes
use mathlib.Core.Path.{◌≡◌, refl, sym, ◌∙◌, subst}
use mathlib.Core.Bool.{Bool, true, false, ◌&&◌}
use mathlib.Core.List.{List}
use Prim.Native.Nat.{ℕ, zero, suc, ◌+◌, ◌*◌, ◌%◌, ◌≤◌, ◌<◌}
use native.Mathlib.Nat.{mul-pos, div-add-mod'}
use native.Mathlib.Omega.{arith}
use lib.Dec.{eqb, ltb}
use lib.ListN.{length}
use borrow.Author.Tests.{eqb-true}
use Rattle.definitions.specs.Presentation.{line_words}
use Rattle.definitions.specs.Monomial.{rep_of}
use Rattle.definitions.specs.Table.{DEG, word_at, line_count, level_at, complete}
use Rattle.numbers.proofs.Bools.{and_left, and_right, and_intro}
use Rattle.heads.specs.Heads.{Headed, first_from, base_of}
use Rattle.heads.specs.Walk.{next_level, next_rep, step_ok, walk_from, heads_ok}
use Rattle.heads.proofs.Headed.{headed-complete, headed-whole, headed-degree, headed-count}
use Rattle.heads.proofs.Complete.{complete-headed}
use Rattle.heads.proofs.Walk.{Passing, Bounded, walk_end, walk_step, walk-fails, step_kept, walk-bounded, bounded-walks}

module _ (n : ℕ) (T : List ℕ) (ord : ℕ → ℕ) where
  pub record Walking (l i r : ℕ) : Type 0 where
    pub fuel : ℕ
    pub enough : line_count T ≤ l + fuel
    pub same : walk_from n T ord fuel l i r ≡ walk_from n T ord (line_count T) 0 1 0

  pub going-none : Walking 0 1 0
  going-none = record { fuel = line_count T; enough = omega arith; same = refl }

  pub going_more : (l i r : ℕ) → 0 < n → Walking l i r → l < line_count T → step_ok n T ord l i r ≡ true
      → Walking (l + n * word_at T l DEG) (next_level T l i r) (suc (next_rep T l i r))
  going_more l i r positive G h e = go G.fuel G.enough G.same
    where
      go : (f : ℕ) → line_count T ≤ l + f → walk_from n T ord f l i r ≡ walk_from n T ord (line_count T) 0 1 0
          → Walking (l + n * word_at T l DEG) (next_level T l i r) (suc (next_rep T l i r))
      go zero enough s = absurd (omega arith)
      go (suc f) enough s =
          let d : 0 < n * word_at T l DEG = mul-pos positive (step_kept n T ord l i r e).heads.positive in
          record { fuel = f; enough = omega arith; same = sym (walk_step n T ord f l i r h e) ∙ s }

  pub going-fails : (l i r : ℕ) → Walking l i r → l < line_count T → step_ok n T ord l i r ≡ false → walk_from n T ord (line_count T) 0 1 0 ≡ false
  going-fails l i r G h e = go G.fuel G.enough G.same
    where
      go : (f : ℕ) → line_count T ≤ l + f → walk_from n T ord f l i r ≡ walk_from n T ord (line_count T) 0 1 0 → walk_from n T ord (line_count T) 0 1 0 ≡ false
      go zero enough s = absurd (omega arith)
      go (suc f) enough s = sym s ∙ walk-fails n T ord f l i r h e

  pub going-ends : (l i r : ℕ) → Walking l i r → line_count T ≤ l → walk_from n T ord (line_count T) 0 1 0 ≡ (eqb i n && ltb 0 r)
  going-ends l i r G h = sym G.same ∙ walk_end n T ord G.fuel l i r h

  -- ---- What the whole walk says

  abbrev whole : Bool
  whole = eqb (length T % line_words) 0

  abbrev walked : Bool
  walked = walk_from n T ord (line_count T) 0 1 0

  pub heads-whole : heads_ok n T ord ≡ true → eqb (length T % line_words) 0 ≡ true
  unfolding heads_ok
  heads-whole h = and_left whole walked h

  whole-lines : heads_ok n T ord ≡ true → length T ≡ line_words * line_count T
  unfolding line_count line_words
  whole-lines h =
      let e = eqb-true (length T % line_words) 0 (heads-whole h) in
      omega (arith, e, div-add-mod' (length T) 8)

  module _ (positive : 0 < n) where
    bounded : heads_ok n T ord ≡ true → Bounded n T ord
    unfolding heads_ok
    bounded h = walk-bounded n T ord positive (and_right whole walked h)

    abbrev headed : Bounded n T ord → length T ≡ line_words * line_count T → Headed n T
    headed B e = record { count = B.count; some = B.some; heads = λ k r a b. (B.kept k r a b).heads; ends = B.ends; whole = e }

    pub heads-headed : heads_ok n T ord ≡ true → Headed n T
    heads-headed h = headed (bounded h) (whole-lines h)

    pub heads-complete : heads_ok n T ord ≡ true → complete n T ≡ true
    heads-complete h = headed-complete n positive T (heads-headed h)

    pub heads-degrees : heads_ok n T ord ≡ true → (k r : ℕ) → k < n → r < length (level_at n T (suc k))
        → (0 < (rep_of (level_at n T (suc k)) r).deg) × ((rep_of (level_at n T (suc k)) r).deg * (rep_of (level_at n T (suc k)) r).deg ≤ ord (suc k))
    heads-degrees h k r kl rl =
        let B = bounded h in
        let H = headed B (whole-lines h) in
        let listed : r < B.count k = subst (λ z. r < z) (headed-count n positive T H k kl) rl in
        let e = headed-degree n positive T H k r kl listed in
        let K = B.kept k r kl listed in
        (subst (λ z. 0 < z) (sym e) K.heads.positive, subst (λ z. z * z ≤ ord (suc k)) (sym e) K.square)

    pub heads-all : complete n T ≡ true
        → ((k r : ℕ) → k < n → r < length (level_at n T (suc k)) → (rep_of (level_at n T (suc k)) r).deg * (rep_of (level_at n T (suc k)) r).deg ≤ ord (suc k))
        → heads_ok n T ord ≡ true
    unfolding heads_ok
    heads-all c squares =
        let H = complete-headed n positive T c in
        and_intro whole walked (headed-whole n positive T H) (bounded-walks n T ord positive (within H))
      where
        within : Headed n T → Bounded n T ord
        within H = record { count = H.count; some = H.some; kept = kept; ends = H.ends }
          where
            kept : (k r : ℕ) (a : k < n) (b : r < H.count k) → Passing n T ord (first_from n T (base_of n T H.count k) r) (suc k) r
            kept k r a b =
                let e = headed-degree n positive T H k r a b in
                let listed = subst (λ z. r < z) (sym (headed-count n positive T H k a)) b in
                record { heads = H.heads k r a b; square = subst (λ z. z * z ≤ ord (suc k)) e (squares k r a listed) }
