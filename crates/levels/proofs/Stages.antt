-- The words of a build, level by level.
--
--   built-as           the same by another number
--   first-asks         what level 1 asks
--   stage-one          level 1 is written
--   stage-placed, stage-asks   what the next level asks
--   stage-next         it is written
use mathlib.Core.Path.{◌≡◌, refl, sym, ap, ap₂, ◌∙◌, subst}
use mathlib.Core.List.{List, ◌++◌}
use Prim.Native.Nat.{ℕ, suc, ◌+◌, ◌*◌, ◌-◌, ◌≤◌, ◌<◌}
use native.Mathlib.Omega.{arith}
use native.Mathlib.Numerals.{add-one}
use native.Mathlib.Nat.{zero-add}
use lib.ListN.{length, get_or, take}
use lib.Seq.{take-append_seam}
use Rattle.definitions.specs.Presentation.{max_generators, max_order, max_modulus}
use Rattle.definitions.specs.Table.{level_words}
use Rattle.clifford.specs.Accepted.{Accepted}
use Rattle.formulas.specs.Formulas.{level_by}
use Rattle.text.specs.Writing.{put, Wrote}
use Rattle.text.proofs.Writing.{wrote_as, wrote-more, wrote-length}
use Rattle.first.specs.Roots.{first_words, WordsBelow}
use Rattle.survey.specs.declared.Frame.{Frame}
use Rattle.survey.specs.Below.{low_of, source_in}
use Rattle.builder.specs.declared.Written.{Written}
use Rattle.builder.specs.Level.{LevelAsked, LevelMade}
use Rattle.levels.specs.Built.{up_to, Placed, level_of}
use Rattle.levels.proofs.Standing.{stands}
use Rattle.levels.proofs.Next.{rows-below}
use Rattle.levels.proofs.Cycles.{visited, fixing}
use Rattle.levels.proofs.First.{exponents-below}
use Rattle.levels.proofs.Room.{prime-le}
use Rattle.levels.proofs.Climb.{next-up_to, next-room, next-reps, one-up_to, one-reps, one-room, one_placed}
use Rattle.levels.specs.Given.{Given}
use Rattle.levels.specs.Climbing.{BuiltTo}

pub built-as : {A : Accepted} {i k base reps end : ℕ} {w₀ w : List ℕ} → i ≡ k → BuiltTo A i base reps end w₀ w → BuiltTo A k base reps end w₀ w
built-as {A} {base = base} {reps = reps} {end = end} {w₀ = w₀} {w = w} e S = subst (λ i. BuiltTo A i base reps end w₀ w) e S

take-wrote : (b s c : List ℕ) (next : ℕ) → Wrote b 0 s c next → take next c ≡ s
unfolding put
take-wrote b s c next q = ap₂ take (q.end ∙ zero-add _) q.content ∙ take-append_seam s _

module _ {A : Accepted} {rows : List (List ℕ)} {primes : List ℕ} {n m have : ℕ} (G : Given rows primes n m have A) where
  -- ---- Level 1

  pub first-asks : (p : ℕ) → p ≡ get_or primes 0 0 → (n ≤ max_generators) × (p ≤ max_order) × (m ≤ max_modulus) × WordsBelow n p rows × (8 * (p * n) ≤ have)
  first-asks p e =
      let q : p ≡ A.C.P.p 0 = e ∙ G.reads.p_is 0 A.positive in
      let N = G.n_is in (
        omega (arith, N, G.small.few),
        omega (arith, q, prime-le A 0 A.positive, G.small.low),
        omega (arith, G.m_is, G.small.low),
        subst (λ x. WordsBelow x p rows) (sym N) (subst (λ x. WordsBelow A.C.P.n x rows) (sym q) (exponents-below A rows G.reads)),
        omega (arith, ap₂ (λ x y. 8 * (x * y)) q N, one-room A rows G.reads, G.room),
      )

  pub stage-one : {p : ℕ} → p ≡ get_or primes 0 0 → {w₀ w : List ℕ} {end : ℕ} → Wrote w₀ 0 (first_words n p m rows) w (8 * end) → BuiltTo A 1 0 p end w₀ w
  stage-one {p} e {w₀} {w} {end} W =
      let q : p ≡ A.C.P.p 0 = e ∙ G.reads.p_is 0 A.positive in
      record {
        wrote = wrote_as W ((λ o. first_words (G.n_is o) (q o) (G.m_is o) rows) ∙ one-up_to A rows G.reads);
        base_is = λ l. (one_placed A rows G.reads l).base_is;
        reps_is = q ∙ sym (one-reps A);
      }

  -- ---- The next

  module _ {i base reps end p : ℕ} {w₀ w : List ℕ} (above : 0 < i) (below : i < n) (known : p ≡ get_or primes i 0) (S : BuiltTo A i base reps end w₀ w) where
    abbrev pub frame : Frame
    frame = record { m = m; top = i; gens = n; p = p; base = base; reps = reps; end = end }

    inside : i < A.C.P.n
    inside = omega (arith, below, G.n_is)

    stage-placed : Placed A i frame (low_of frame w)
    stage-placed = record {
      above = above;
      below = inside;
      modulus_is = G.m_is;
      top_is = refl;
      gens_is = G.n_is;
      prime_is = known ∙ G.reads.p_is i inside;
      base_is = S.base_is inside;
      reps_is = S.reps_is;
      end_is = S.wrote.end ∙ zero-add _;
      words_are = take-wrote w₀ (up_to A i) w (8 * end) S.wrote;
    }

    pub stage-asks : have ≤ length w₀ → LevelAsked frame w rows
    stage-asks h = record {
      sound = record {
        stands = stands A G.small i frame (low_of frame w) stage-placed;
        words = rows-below A i frame (low_of frame w) rows stage-placed G.reads;
        cycles = visited A i frame (low_of frame w) rows stage-placed G.reads;
        fixes = fixing A i frame (low_of frame w) stage-placed;
      };
      room = omega (arith, next-room A i frame (low_of frame w) rows stage-placed G.reads, G.room, h, wrote-length S.wrote);
    }

    pub stage-next : (t : Written) (w' : List ℕ) → LevelMade frame w rows t w' → BuiltTo A (i + 1) end t.reps t.end w₀ w'
    stage-next t w' M =
        let Q = stage-placed in
        let next : i + 1 - 1 ≡ i = omega arith in
        let named = ap₂ (◌++◌) (sym Q.words_are) (ap (λ x. level_words x (suc i) (level_by (source_in frame (low_of frame w) rows))) G.n_is) in
        record {
          wrote = wrote_as (wrote-more S.wrote M.wrote) (named ∙ next-up_to A i frame (low_of frame w) rows Q G.reads ∙ ap (up_to A) (sym (add-one i)));
          base_is = λ l. Q.end_is ∙ ap (λ x. length (up_to A x)) (sym next);
          reps_is = M.reps_is ∙ next-reps A i frame (low_of frame w) Q
              ∙ ap (λ x. length (level_of A x)) (sym (add-one i));
        }
