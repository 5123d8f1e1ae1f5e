-- Laws of extensions.
--
--   product-fits               a bound
--   origin-extends             what the notes have is what extensions are copied from
--   extends-copies             and what one generator asks for
--   targets-small              bounds of what is held of targets
--   factor-top, factor-other   the constants of the generators
--   piece-copied, piece-lines, copy-length     the lines of a generator as a piece, and their length
--   same_lines, same-below     those of a generator other than the one on top, as they stand, and where
--   copy-asked, low-last       what a generator up to the one on top asks, behind those below it; when the last is written
--   matrix_words                the words of a generator, by the formulas
--   copy-low, copy-above       what is copied has these words, up to the generator on top and above
--   extension-words, matrix-length, extension-length     the words of an extension, and lengths
--   Onward                     a loop that goes on from where another has ended
--   low-space, low-done        the generators up to the one on top: there is room for them, and when they are written
use mathlib.Core.Path.{◌≡◌, refl, ap, ap₂, sym, ◌∙◌, subst}
use mathlib.Core.List.{List, [], ◌∷◌}
use Prim.Native.Nat.{ℕ, suc, ◌+◌, ◌*◌, ◌/◌, ◌%◌, ◌<◌, ◌≤◌}
use native.Mathlib.Omega.{arith}
use native.Mathlib.Numerals.{add-one}
use native.Mathlib.Nat.{zero-add, mod-lt, le_refl, min-le_left, div-le_self, div-lt_iff_lt-mul, mul_comm, mul-le-mul_left, mul-le-mul_right}
use lib.ListN.{length, get_or, length-take}
use lib.Dec.{eqb, leb}
use borrow.Author.Tests.{le-leb, lt-leb}
use mathlib.Core.Bool.{cond}
use Rattle.numbers.proofs.Bools.{cond-true, cond-false, cond-eq, cond-ne}
use Rattle.definitions.specs.declared.Entry.{Entry}
use Rattle.definitions.specs.Lists.{blocks}
use Rattle.definitions.specs.Presentation.{max_order, max_modulus, to_nf}
use Rattle.definitions.specs.Monomial.{Matrix, entry, col, less, scale}
use Rattle.definitions.specs.Table.{line_of, rep_words}
use Rattle.numbers.proofs.Blocks.{length-table, blocks-below, length-even}
use Rattle.text.proofs.Writing.{wrote_as}
use Rattle.formulas.specs.Formulas.{Source, made, start, shift, landing, extension_at}
use Rattle.level.specs.declared.Listed.{Listed}
use Rattle.level.specs.Stored.{entry_in, matrix_in, line_in}
use Rattle.level.proofs.Columns.{col-matrix_in, col-scale, stored-line, stored_at}
use Rattle.lines.specs.declared.Head.{Head}
use Rattle.lines.specs.Lines.{head_line, copy_lines, block_lines, Copied, Space, Appended}
use Rattle.lines.proofs.Written.{copy-block}
use Rattle.lines.proofs.Appending.{Going, going_more, going-even, space-none}
use Rattle.survey.specs.declared.Frame.{Frame}
use Rattle.survey.specs.declared.Note.{Note}
use Rattle.survey.specs.Below.{low_of, deg_of, matrix_of, source_in, LevelStands, Fixed, Surveyed}
use Rattle.survey.proofs.Counting.{number_fits}
use Rattle.survey.proofs.Level.{located-stored, located-degree}
use Rattle.targets.specs.declared.Target.{Target}
use Rattle.targets.specs.Reached.{starts, landings, Aimed}
use Rattle.targets.proofs.Targets.{shift-below, root-known}
use Rattle.extend.specs.Extending.{origin_of, factor_of, power_of, reference_of, Extends, Copies, copy_head, copy_piece, copy_words, low_words, extension_words}
use Rattle.extend.specs.declared.Origin.{Origin}

-- ---- Bounds

pub product-fits : (k a p : ℕ) → k < p → a ≤ p → p ≤ max_order → k * a ≤ 268435456
product-fits k a p h l q = let x : k * a ≤ k * max_order = mul-le-mul_left k (omega arith) in omega (arith, x)

constant-below : (s p m k : ℕ) → m ≡ p * (m / p) → s < m → k < p → s / p + k * (m / p) < m
constant-below s p m k e h l =
    let pos : 0 < p = omega arith in
    let a : s / p < m / p = (div-lt_iff_lt-mul pos).1 (subst (λ x. s < x) (e ∙ mul_comm p (m / p)) h) in
    let b : suc k * (m / p) ≤ p * (m / p) = mul-le-mul_right (m / p) l in
    omega (arith, a, b, e)

quotient-small : (x m q : ℕ) → 0 < m → m ≤ max_modulus → x % m / q ≤ max_modulus
quotient-small x m q h l = omega (arith, div-le_self (x % m) q, mod-lt x h)

factor-small : (p d x : ℕ) → 1 < p → p * d ≤ x → d ≤ x
factor-small p d x h l = let a : 1 * d ≤ p * d = mul-le-mul_right d (omega arith) in omega (arith, a)

module _ (f : Frame) (W : List ℕ) (rows : List (List ℕ)) (S : LevelStands f W) where
  landing-small : (j r : ℕ) → landing (source_in f W rows) j r ≤ max_modulus
  unfolding landing less
  landing-small j r = quotient-small _ f.m (f.m / f.p) S.modulus.0 S.modulus.1

  start_fits : (r : ℕ) → r ≤ f.reps → start (source_in f W rows) r ≤ 268435456
  unfolding start made
  start_fits r l = number_fits f W S r l

-- ---- What is copied

pub origin-extends : {f : Frame} {W : List ℕ} {rows : List (List ℕ)} {notes : List Note} {targets : List Target} {r : ℕ} {o : Origin}
    → Surveyed f W rows notes → r < f.reps → Fixed f W r
    → Aimed f W rows r targets → o ≡ origin_of f W notes r → Extends f W rows targets o
origin-extends {f} {W} {rows} {notes} {targets} {r} S l e R q = subst (Extends f W rows targets) (sym q) (record {
  aimed = R;
  source_is = refl;
  number_is = S.numbers_are.at r l;
  root_is = root-known S r l e;
  step_is = refl;
})

pub extends-copies : {f : Frame} {W : List ℕ} {rows : List (List ℕ)} {targets : List Target} {o : Origin} → Extends f W rows targets o → Copies f W o
extends-copies {f} {W} {rows} {targets} {o} E =
    let S = E.aimed.sound.stands in
    let l = E.aimed.listed in
    record {
      located = record { stands = S; listed = l; is = E.source_is };
      number_small = subst (λ x. x ≤ 268435456) (sym E.number_is) (start_fits f W rows S o.rep (omega (arith, l)));
      factor_below = λ k h. subst (λ x. x < f.m) (sym (ap₂ (λ a b. a + k * b) E.root_is E.step_is))
          (constant-below (shift (source_in f W rows) o.rep) f.p f.m k S.whole (shift-below f W rows S.modulus.0 o.rep) h);
    }

-- ---- References

module _ {f : Frame} {W : List ℕ} {rows : List (List ℕ)} {r : ℕ} {targets : List Target} (R : Aimed f W rows r targets) (g : ℕ) (l : g < f.gens) where
  pub targets-small : f.top < g → (get_or (starts targets) g 0 ≤ 268435456) × (get_or (landings targets) g 0 ≤ max_modulus)
  targets-small h = let S = R.sound.stands in (
    subst (λ x. x ≤ 268435456) (sym (R.targeted.starts_are g h l)) (start_fits f W rows S _ (omega (arith, (S.target r R.listed g (omega arith) l).0))),
    subst (λ x. x ≤ max_modulus) (sym (R.targeted.landings_are g h l)) (landing-small f W rows S g r),
  )

-- ---- Lines

-- the one on top alone has a constant
pub factor-top : (f : Frame) (o : Origin) (k : ℕ) → o.root + k * o.step ≡ factor_of f o f.top k
factor-top f o k = sym (cond-eq f.top f.top _ 0 refl)

pub factor-other : (f : Frame) (o : Origin) (g k : ℕ) → ¬ (g ≡ f.top) → 0 ≡ factor_of f o g k
factor-other f o g k n = sym (cond-ne g f.top _ 0 n)

pub piece-copied : {f : Frame} {W : List ℕ} {o : Origin} → Copies f W o → (g : ℕ) → g < f.gens
    → {src c : ℕ} → src ≡ line_in o.source g → c < f.m → Copied f.m W (copy_piece o src c)
piece-copied {f} {W} {o} C g l e h =
    let D = C.located in
    let S = D.stands in
    let small : o.source.deg ≤ 65536 =
    subst (λ x. x ≤ 65536) (sym (located-degree D)) (factor-small f.p _ 65536 S.prime.0 (S.wide o.rep D.listed).1) in
    record {
      holds = stored_at (located-stored D (suc g) l) e;
      by_below = h;
      columns = omega (arith, small);
      rows = omega (arith, small);
    }

pub piece-lines : (f : Frame) (W : List ℕ) (o : Origin) (k g x : ℕ) {h : Head} {src c : ℕ} → h ≡ copy_head f o k g x → src ≡ line_in o.source g
    → c ≡ factor_of f o g k → block_lines f.m h (copy_piece o src c) W ≡ copy_words f W o k g x
unfolding copy_words
piece-lines f W o k g x eh es ec = λ i. block_lines f.m (eh i) (copy_piece o (es i) (ec i)) W

-- the lines of a generator other than the one on top, as they stand
pub same_lines : {f : Frame} {W : List ℕ} {o : Origin} → Copies f W o → (k g x : ℕ) → g < f.gens → ¬ (g ≡ f.top)
    → {h : Head} {src : ℕ} → h ≡ copy_head f o k g x → src ≡ line_in o.source g → copy_lines h src W ≡ copy_words f W o k g x
same_lines {f} {W} {o} C k g x l n eh es =
    ap₂ (λ h s. copy_lines h s W) eh es
    ∙ copy-block f.m (copy_head f o k g x) (line_in o.source g) W ((located-stored C.located (suc g) l).holds g (le_refl _))
    ∙ piece-lines f W o k g x refl refl (factor-other f o g k n)

-- and they stand below
pub same-below : {f : Frame} (w : List ℕ) {o : Origin} → Copies f (low_of f w) o → (g : ℕ) → g < f.gens
    → line_in o.source g + o.source.deg ≤ f.end
same-below {f} w C g l =
    omega (arith, stored-line (located-stored C.located (suc g) l), length-take (8 * f.end) w, min-le_left (8 * f.end) (length w))

pub copy-length : (f : Frame) (W : List ℕ) (o : Origin) (k g x : ℕ) → length (copy_words f W o k g x) ≡ 8 * o.source.deg
unfolding copy_words block_lines head_line
copy-length f W o k g x = length-even _ 8 o.source.deg (λ c l. refl) ∙ omega arith

pub going-at : {low : ℕ} {f : ℕ → List ℕ} {w₀ : List ℕ} {at₀ g n : ℕ} {w : List ℕ} {at : ℕ} → g ≡ n → Going low f w₀ at₀ g w at → Going low f w₀ at₀ n w at
going-at {low} {f} {w₀} {at₀} {g} {n} {w} {at} e G = subst (λ n. Going low f w₀ at₀ n w at) e G

-- what generator g asks for, behind the generators below it
pub copy-asked : (f : Frame) (w₀ : List ℕ) (o : Origin) (k : ℕ) {g at₀ at : ℕ} {w : List ℕ} → Copies f (low_of f w₀) o
    → Going f.end (λ j. copy_words f (low_of f w₀) o k j o.rep) w₀ at₀ g w at → g ≤ f.top
    → Space f.end at₀ (8 * ((f.top + 1) * o.source.deg)) w₀ → Copies f (low_of f w) o × Space f.end at (8 * o.source.deg) w
copy-asked f w₀ o k C G h s = (
  subst (λ W. Copies f W o) (sym G.below) C,
  going-even (f.top + 1) (8 * o.source.deg) (λ j. copy-length f _ o k j o.rep) G (omega arith) (omega (arith, s.room)),
)

-- the generator on top is written behind those below it
pub low-last : (f : Frame) (w₀ : List ℕ) (o : Origin) (k : ℕ) {at₀ at at' : ℕ} {w w' : List ℕ}
    → Going f.end (λ j. copy_words f (low_of f w₀) o k j o.rep) w₀ at₀ f.top w at
    → Appended w at (copy_words f (low_of f w) o k f.top o.rep) w' at'
    → Going f.end (λ j. copy_words f (low_of f w₀) o k j o.rep) w₀ at₀ (f.top + 1) w' at'
low-last f w₀ o k {at₀} {at} {at'} {w} {w'} G A = going_more G (subst (λ W. Appended w at (copy_words f W o k f.top o.rep) w' at') G.below A)

-- the words of generator g in extension k of r
unfoldable pub matrix_words : (f : Frame) (W : List ℕ) (rows : List (List ℕ)) (r k g : ℕ) → List ℕ
matrix_words f W rows r k g =
    blocks (deg_of f W r) (λ c. line_of (suc f.top) (start (source_in f W rows) r + k) (extension_at (source_in f W rows) r k) g c)

module _ {f : Frame} {W : List ℕ} {rows : List (List ℕ)} {targets : List Target} {o : Origin} (E : Extends f W rows targets o) (k g : ℕ) where
  copy-as : {x : ℕ} → ((y : ℕ) → x ≡ (extension_at (source_in f W rows) o.rep k).ref g y)
      → copy_words f W o k g x ≡ matrix_words f W rows o.rep k g
  unfolding copy_words block_lines matrix_words head_line line_of extension_at
  copy-as {x} x-is =
      (λ i. block_lines f.m (record { level = add-one f.top i; rep = E.number_is i + k; deg = d-is i; generator = add-one g i; refn = x })
      (record { src = s-is i; deg = d-is i; col = 0; row = 0; by = c-is i }) W)
      ∙ blocks-below (deg_of f W r) _ _
      (λ y h. λ i. suc f.top ∷ (start S r + k) ∷ deg_of f W r ∷ suc g ∷ x-is y i ∷ zero-add y i ∷ row y h i ∷ exponent y h i ∷ [])
    where
      r : ℕ
      r = o.rep

      S : Source
      S = source_in f W rows

      C : ℕ
      C = cond (eqb g f.top) (shift S r / f.p + k * (f.m / f.p)) 0

      M : Matrix
      M = matrix_in W (matrix_of f W g r) (deg_of f W r)

      d-is : o.source.deg ≡ deg_of f W r
      d-is = ap (λ (D : Listed). D.deg) E.source_is

      s-is : line_in o.source g ≡ matrix_of f W g r
      s-is = ap (λ (D : Listed). line_in D g) E.source_is

      c-is : factor_of f o g k ≡ C
      c-is = ap₂ (λ a b. cond (eqb g f.top) (a + k * b) 0) E.root_is E.step_is

      at : (y : ℕ) → y < deg_of f W r → let e = entry_in W (matrix_of f W g r + y) in col (scale f.m C M) y ≡ entry e.row ((e.exp + C) % f.m)
      at y h = col-scale f.m C M y (subst (λ n. y < n) (sym (length-table _ (deg_of f W r))) h)
          ∙ ap (λ (z : Entry). entry z.row ((z.exp + C) % f.m)) (col-matrix_in W (matrix_of f W g r) (deg_of f W r) y h)

      row : (y : ℕ) → y < deg_of f W r → 0 + (entry_in W (matrix_of f W g r + y)).row ≡ (col (scale f.m C M) y).row
      row y h = zero-add _ ∙ sym (ap (λ (z : Entry). z.row) (at y h))

      exponent : (y : ℕ) → y < deg_of f W r → ((entry_in W (matrix_of f W g r + y)).exp + C) % f.m ≡ (col (scale f.m C M) y).exp
      exponent y h = sym (ap (λ (z : Entry). z.exp) (at y h))

  copy-low : g ≤ f.top → copy_words f W o k g o.rep ≡ matrix_words f W rows o.rep k g
  unfolding extension_at
  copy-low h = copy-as (λ y. sym (cond-true (leb g f.top) o.rep _ (le-leb g f.top h)))

  pub copy-above : {x : ℕ} → f.top < g → g < f.gens → x ≡ reference_of f rows targets g k
      → copy_words f W o k g x ≡ matrix_words f W rows o.rep k g
  unfolding extension_at to_nf
  copy-above h l e =
      let T = E.aimed.targeted in
      let read = ap₂ (λ s t. s + (t + k * power_of f rows g) % f.p) (T.starts_are g h l) (T.landings_are g h l) in
      copy-as (λ y. e ∙ read ∙ sym (cond-false (leb g f.top) o.rep _ (lt-leb g f.top h)))

-- ---- Extensions

pub extension-words : (f : Frame) (rows : List (List ℕ)) (r k : ℕ) {n : ℕ} {W W' : List ℕ} → n ≡ f.gens → W ≡ W'
    → blocks n (matrix_words f W rows r k) ≡ extension_words f W' rows r k
unfolding rep_words matrix_words extension_at
extension-words f rows r k e q = ap₂ (λ n W. blocks n (matrix_words f W rows r k)) e q

module _ {f : Frame} {W : List ℕ} {rows : List (List ℕ)} {targets : List Target} {o : Origin} (E : Extends f W rows targets o) (k : ℕ) where
  pub matrix-length : (g : ℕ) → length (matrix_words f W rows o.rep k g) ≡ 8 * o.source.deg
  unfolding matrix_words line_of
  matrix-length g =
      let S = source_in f W rows in
      let r = o.rep in
      length-even (λ c. line_of (suc f.top) (start S r + k) (extension_at S r k) g c) 8 (deg_of f W r) (λ c l. refl)
      ∙ omega (arith, located-degree (extends-copies E).located)

  pub extension-length : length (extension_words f W rows o.rep k) ≡ 8 * (f.gens * o.source.deg)
  extension-length = ap length (sym (extension-words f rows o.rep k refl refl))
      ∙ length-even (matrix_words f W rows o.rep k) (8 * o.source.deg) f.gens (λ g l. matrix-length g)
      ∙ regroup f.gens o.source.deg
    where
      regroup : (n d : ℕ) → n * (8 * d) ≡ 8 * (n * d)
      regroup n d = omega arith

  low-words : low_words f W o k ≡ blocks (f.top + 1) (matrix_words f W rows o.rep k)
  low-words = blocks-below (suc f.top) _ _ (λ g l. copy-low E k g (omega arith))
      ∙ sym (ap (λ n. blocks n (matrix_words f W rows o.rep k)) (add-one f.top))

-- ---- From the generators up to the one on top to those above

-- a loop that appends f k, f (k + 1), .. where w₁ holds the lists before them
abbrev pub Onward : (low : ℕ) (f : ℕ → List ℕ) (k : ℕ) (w₁ : List ℕ) (at₁ n : ℕ) (w : List ℕ) (at : ℕ) → Type 0
Onward low f k w₁ at₁ n w at = (w₀ : List ℕ) (at₀ : ℕ) → Going low f w₀ at₀ k w₁ at₁ → Going low f w₀ at₀ n w at

module _ {f : Frame} {w : List ℕ} {rows : List (List ℕ)} {targets : List Target} {o : Origin} (E : Extends f (low_of f w) rows targets o) where
  pub low-space : {at : ℕ} → Space f.end at (8 * (f.gens * o.source.deg)) w → Space f.end at (8 * ((f.top + 1) * o.source.deg)) w
  low-space s =
      let d = o.source.deg in
      let a : (f.top + 1) * d ≤ f.gens * d = mul-le-mul_right d (omega (arith, E.aimed.sound.stands.gens)) in
      record { from = s.from; room = omega (arith, s.room, a) }

  pub low-done : (k : ℕ) {at n at' : ℕ} {w' : List ℕ} → Space f.end at n w → Appended w at (low_words f (low_of f w) o k) w' at'
      → Extends f (low_of f w') rows targets o × Going f.end (matrix_words f (low_of f w') rows o.rep k) w at (f.top + 1) w' at'
  low-done k {at} {n} {at'} {w'} s p =
      let G = going_more (space-none {f = λ j. low_words f (low_of f w) o k} s) p in
      let H : Going f.end (matrix_words f (low_of f w) rows o.rep k) w at (f.top + 1) w' at' =
      record { wrote = wrote_as p (low-words E k); len = G.len; below = G.below; from = G.from } in
      subst (λ W. Extends f W rows targets o × Going f.end (matrix_words f W rows o.rep k) w at (f.top + 1) w' at') (sym G.below) (E, H)
