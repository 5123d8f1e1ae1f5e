-- A representation that is found, read off its lines.
--
--   found-column, found-ref          a column of a generator, and what it refers to
--   found-first-ref, found_target    the references of generator 0, and where an intertwiner leads
--   found-head                       column 0 of a generator
use mathlib.Core.Path.{◌≡◌, ◌∙◌, ap}
use mathlib.Core.List.{List}
use Prim.Native.Nat.{ℕ, ◌+◌, ◌<◌}
use native.Mathlib.Omega.{arith}
use Rattle.definitions.specs.Monomial.{col, Rep, rep_of}
use Rattle.definitions.specs.Table.{REF, word_at, rep_at, level_at}
use Rattle.monomial.proofs.Frames.{col-table}
use Rattle.level.specs.declared.Listed.{Listed}
use Rattle.level.specs.Stored.{entry_in, line_in, target_in}
use Rattle.seek.specs.Seek.{Found}

module _ {n : ℕ} {T : List ℕ} {i r : ℕ} {D : Listed} (G : Found n T i r D) where
  pub found-column : (g c : ℕ) → c < D.deg → col ((rep_of (level_at n T i) r).matrix g) c ≡ entry_in T (line_in D g + c)
  unfolding rep_at
  found-column g c l = ap (λ (X : Rep). col (X.matrix g) c) G.rep ∙ col-table (λ c. entry_in T (line_in D g + c)) D.deg c l

  pub found-ref : (g c : ℕ) → (rep_of (level_at n T i) r).ref g c ≡ word_at T (line_in D g + c) REF
  unfolding rep_at
  found-ref g c = ap (λ (X : Rep). X.ref g c) G.rep

  pub found-first-ref : (c : ℕ) → (rep_of (level_at n T i) r).ref 0 c ≡ word_at T (D.line + c) REF
  found-first-ref c = let e : line_in D 0 + c ≡ D.line + c = omega arith in found-ref 0 c ∙ ap (λ l. word_at T l REF) e

  pub found_target : (g : ℕ) → (rep_of (level_at n T i) r).ref g 0 ≡ target_in T D g
  found_target g = let e : line_in D g + 0 ≡ line_in D g = omega arith in found-ref g 0 ∙ ap (λ l. word_at T l REF) e

  pub found-head : (g : ℕ) → col ((rep_of (level_at n T i) r).matrix g) 0 ≡ entry_in T (line_in D g)
  found-head g = let e : line_in D g + 0 ≡ line_in D g = omega arith in found-column g 0 G.positive ∙ ap (entry_in T) e
