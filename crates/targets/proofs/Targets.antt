-- Laws of constants and targets.
--
--   around-rows, shift-closing       the constant of an orbit asks for the power word alone
--   shift-below                it is below the modulus
--   step-positive              m / p is not 0
--   root-asked, root-known     what is asked for the constant of extension 0, and what it is
--   target-known               where an intertwiner leads a representation
--   word-known, word_below     the word of a generator with the one on top; the exponent of that is below its prime
--   landing-known              the number that an intertwiner's exponents tell
--   targeted-none, targeted-more     the targets, one after the other
use mathlib.Core.Path.{◌≡◌, refl, ap, ap₂, sym, ◌∙◌, subst}
use mathlib.Core.Logic.{by_cases}
use mathlib.Core.List.{List, []}
use Prim.Native.Nat.{ℕ, zero, suc, ◌+◌, ◌*◌, ◌/◌, ◌<◌}
use native.Mathlib.Omega.{arith}
use native.Mathlib.Nat.{mod-lt}
use native.Mathlib.Decide.{ℕ_discrete}
use lib.ListN.{length, get_or, set, length-map}
use lib.Seq.{get_or-set_same, get_or-set_other}
use Rattle.std.proofs.lemmas.List.{map-set}
use Rattle.definitions.specs.declared.Entry.{Entry}
use Rattle.definitions.specs.Lists.{iter}
use Rattle.definitions.specs.Presentation.{to_nf, pair_number}
use Rattle.definitions.specs.Monomial.{entry, less, act}
use Rattle.formulas.specs.Formulas.{around, shift, start, top_entry, landing, walk}
use Rattle.level.specs.declared.Listed.{Listed}
use Rattle.level.specs.Stored.{generator_in, target_in, through_in}
use Rattle.survey.specs.declared.Frame.{Frame}
use Rattle.survey.specs.declared.Note.{Note}
use Rattle.survey.specs.Notes.{shifts}
use Rattle.survey.specs.Below.{deg_of, listed_of, source_in, target_of, closing_in, LevelStands, Located, Fixed, Surveyed}
use Rattle.survey.proofs.Level.{located-target}
use Rattle.survey.proofs.Marking.{lead-fixed}
use Rattle.survey.proofs.Notes.{there}
use Rattle.targets.specs.declared.Target.{Target}
use Rattle.targets.specs.Reached.{conjugated_in, starts, landings, Lands, Targeted}

module _ (f : Frame) (W : List ℕ) (rows : List (List ℕ)) where
  around-rows : (r k : ℕ) → around (source_in f W rows) r k ≡ around (source_in f W []) r k
  unfolding around
  around-rows r zero = refl
  around-rows r (suc k) = ap (λ x. act f.m ((source_in f W []).matrix (iter (target_of f W f.top) k r) f.top) x) (around-rows r k)

  pub shift-closing : (r : ℕ) → shift (source_in f W rows) r ≡ closing_in f W (get_or rows (pair_number f.top f.top) []) r
  unfolding shift closing_in
  shift-closing r =
      let u = to_nf f.top (get_or rows (pair_number f.top f.top) []) in
      ap (λ (x : Entry). less f.m (walk f.m ((source_in f W []).matrix r) f.top u (entry 0 0)).exp x.exp) (around-rows r f.p)

  pub shift-below : 0 < f.m → (r : ℕ) → shift (source_in f W rows) r < f.m
  unfolding shift less
  shift-below h r = mod-lt _ h

  -- the exponents of the two sides, and the number that they tell
  landing_is : (j r a b : ℕ)
      → a ≡ (act f.m ((source_in f W []).matrix r j)
      (conjugated_in f.m f.top W (listed_of f W r) (get_or rows (pair_number j f.top) []) (shift (source_in f W rows) r / f.p))).exp
      → b ≡ through_in f.m W (listed_of f W r) j (listed_of f W (target_of f W j r)) f.top (shift (source_in f W rows) (target_of f W j r) / f.p)
      → less f.m a b / (f.m / f.p) ≡ landing (source_in f W rows) j r
  unfolding landing conjugated_in top_entry to_nf
  landing_is j r a b e e' = ap₂ (λ x y. less f.m x y / (f.m / f.p)) e e'

pub step-positive : (f : Frame) (W : List ℕ) → LevelStands f W → 0 < f.m / f.p
step-positive f W S = go (f.m / f.p) S.whole
  where
    go : (q : ℕ) → f.m ≡ f.p * q → 0 < q
    go zero e = absurd (omega (arith, S.modulus.0, e))
    go (suc q) e = omega arith

-- ---- Constants and numbers of a level that is surveyed

module _ {f : Frame} {W : List ℕ} {rows : List (List ℕ)} {notes : List Note} (S : Surveyed f W rows notes) (r : ℕ) (l : r < f.reps) where
  pub root-asked : (r < length notes) × (0 < f.p) × (get_or (shifts notes) r 0 < f.m)
  root-asked = (there (λ n. n.shift) notes S.shifts_are.long l, omega (arith, S.sound.stands.prime.0), S.shifts_are.below r l)

  pub root-known : Fixed f W r → get_or (shifts notes) r 0 / f.p ≡ shift (source_in f W rows) r / f.p
  root-known e = ap (λ x. x / f.p) (S.shifts_are.at r l (lead-fixed f W S.sound.stands r l e))

module _ {f : Frame} {W : List ℕ} {rows : List (List ℕ)} {notes : List Note} {r : ℕ} {D : Listed} {j : ℕ} (A : Lands f W rows notes r D j) where
  pub target-known : {q : ℕ} → q ≡ target_in W D j → (q ≡ target_of f W j r) × (q < f.reps) × (D.deg ≡ deg_of f W q)
  target-known {q} e = located-target A.located j q (omega (arith, A.above)) A.inside e

  target_fixed : {q : ℕ} → q ≡ target_in W D j → Fixed f W q
  target_fixed e =
      subst (Fixed f W) (sym (target-known e).0) (A.surveyed.sound.fixes.stays r A.located.listed A.fixed j A.above A.inside)

  pub word-known : {w : List ℕ} {a t : ℕ} → w ≡ get_or rows (pair_number a t) [] → a ≡ j → t ≡ f.top → w ≡ get_or rows (pair_number j f.top) []
  word-known ew ea et = ew ∙ ap₂ (λ i k. get_or rows (pair_number i k) []) ea et

  pub word_below : {w : List ℕ} → w ≡ get_or rows (pair_number j f.top) [] → get_or w f.top 0 < f.p
  word_below e = subst (λ v. get_or v f.top 0 < f.p) (sym e) (A.surveyed.sound.words.below j A.above A.inside)

  pub landing-known : {E : Listed} {w : List ℕ} {c b q : ℕ} {x y : Entry} {z : ℕ}
      → w ≡ get_or rows (pair_number j f.top) [] → c ≡ get_or (shifts notes) r 0 / f.p
      → x ≡ conjugated_in f.m f.top W D w c → y ≡ act f.m (generator_in W D j) x
      → q ≡ target_in W D j → Located f W q E → b ≡ get_or (shifts notes) q 0 / f.p → z ≡ through_in f.m W D j E f.top b
      → less f.m y.exp z / (f.m / f.p) ≡ landing (source_in f W rows) j r
  landing-known {E} {w} {c} {b} {q} {x} {y} {z} ew ec ex ey eq M eb ez =
      let m = f.m in
      let top = f.top in
      let t = target-known eq in
      let e = A.located.is in
      let e' : E ≡ listed_of f W (target_of f W j r) = M.is ∙ ap (listed_of f W) t.0 in
      let c-is : c ≡ shift (source_in f W rows) r / f.p = ec ∙ root-known A.surveyed r A.located.listed A.fixed in
      let b-is : b ≡ shift (source_in f W rows) (target_of f W j r) / f.p =
      eb ∙ root-known A.surveyed q t.1 (target_fixed eq) ∙ ap (λ n. shift (source_in f W rows) n / f.p) t.0 in
      let left = ey ∙ ap₂ (λ D u. act m (generator_in W D j) u) e (ex ∙ (λ o. conjugated_in m top W (e o) (ew o) (c-is o))) in
      landing_is f W rows j r y.exp z (ap (λ (u : Entry). u.exp) left) (ez ∙ (λ o. through_in m W (e o) j (e' o) top (b-is o)))

-- ---- The array of targets

module _ (f : Frame) (W : List ℕ) (rows : List (List ℕ)) (r : ℕ) where
  pub targeted-none : (a : List Target) → Targeted f W rows r a (f.top + 1)
  targeted-none a = record { starts_are = λ k h l. absurd (omega arith); landings_are = λ k h l. absurd (omega arith) }

  -- a list filled above the generator on top, and one more number
  abbrev Between : List ℕ → (ℕ → ℕ) → ℕ → Type 0
  Between a g j = (k : ℕ) → f.top < k → k < j → get_or a k 0 ≡ g k

  between_more : (a : List ℕ) (g : ℕ → ℕ) (j x : ℕ) → j < length a → x ≡ g j → Between a g j → Between (set a j x) g (j + 1)
  between_more a g j x l e h k u v = by_cases (ℕ_discrete k j)
      (λ q. ap (λ z. get_or (set a j x) z 0) q ∙ get_or-set_same a j x 0 l ∙ e ∙ ap g (sym q))
      (λ q. get_or-set_other a j k x 0 q ∙ h k u (omega arith))

  pub targeted-more : {j : ℕ} (t : Target) (a : List Target) → j < length a → t.start ≡ start (source_in f W rows) (target_of f W j r)
      → t.landing ≡ landing (source_in f W rows) j r → Targeted f W rows r a j → Targeted f W rows r (set a j t) (j + 1)
  targeted-more {j} t a l e e' T = record {
    starts_are = subst (λ s. Between s (λ k. start (source_in f W rows) (target_of f W k r)) (j + 1)) (sym (map-set (λ t. t.start) a j t))
        (between_more (starts a) _ j t.start (omega (arith, length-map a (λ (t : Target). t.start))) e T.starts_are);
    landings_are = subst (λ s. Between s (λ k. landing (source_in f W rows) k r) (j + 1)) (sym (map-set (λ t. t.landing) a j t))
        (between_more (landings a) _ j t.landing (omega (arith, length-map a (λ (t : Target). t.landing))) e' T.landings_are);
  }
