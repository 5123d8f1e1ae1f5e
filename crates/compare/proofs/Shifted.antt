-- Lines that are other lines, shifted.
--
--   never                a test that says false says nothing
--   line-shifted         a line by its three words
--   line_same, same-shifted     a line by its reference and two words at once, and as a shifted line
--   same_none, same_more, same-fewer      lines that are the same, one by one
--   Shifting             the first k lines are shifted
--   shifting-none, shifting-more, shifting-all      the steps of the loop
use mathlib.Core.Path.{◌≡◌, sym, ◌∙◌, ap, ap₂}
use mathlib.Core.Bool.{true, false, false≢true}
use mathlib.Core.List.{List}
use Prim.Native.Nat.{ℕ, ◌+◌, ◌%◌, ◌≤◌, ◌<◌}
use native.Mathlib.Nat.{mod-eq_of_lt}
use native.Mathlib.Omega.{arith}
use borrow.Author.Count.{below_more}
use Rattle.definitions.specs.declared.Entry.{Entry}
use Rattle.definitions.specs.Monomial.{entry}
use Rattle.definitions.specs.Table.{REF, ROW, word_at}
use Rattle.level.specs.Stored.{entry_in}
use Rattle.check_lines.specs.Lines.{TwoWords}
use Rattle.compare.specs.declared.Shift.{Shift}
use Rattle.compare.specs.Shifted.{shift, LineShifted, Shifted, LineSame, LinesSame}

pub never : {Q : Type 0} → false ≡ true → Q
never e = absurd (false≢true e)

pub line-shifted : (m : ℕ) (T : List ℕ) (at src : ℕ) (t : Shift) (x y : Entry) (e : ℕ) → word_at T at REF ≡ t.refn → x ≡ entry_in T src → y ≡ entry_in T at
    → y.row ≡ t.row + x.row → e ≡ (x.exp + t.exp) % m → y.exp ≡ e → LineShifted m T at src t
line-shifted m T at src t x y e ref from to row sum exp = record {
  ref = ref;
  is = sym to ∙ ap₂ entry row (exp ∙ sum) ∙ ap (λ (x : Entry). entry (t.row + x.row) ((x.exp + t.exp) % m)) from;
}

pub line_same : (T : List ℕ) (at src x y z : ℕ) → word_at T at REF ≡ x → TwoWords T at ROW y → TwoWords T src ROW z → y ≡ z → LineSame T at src x
line_same T at src x y z ref to from e =
    let row : word_at T at ROW ≡ word_at T src ROW = omega (arith, to.is, to.low, from.is, from.low, e) in
    let exp : word_at T at (ROW + 1) ≡ word_at T src (ROW + 1) = omega (arith, to.is, to.low, from.is, from.low, e) in
    record { ref = ref; is = ap₂ entry row exp }

pub same-shifted : (m : ℕ) (T : List ℕ) (at src x r : ℕ) → LineSame T at src x → (entry_in T src).exp < m → r ≡ 0 → LineShifted m T at src (shift x r 0)
same-shifted m T at src x r h l z =
    let row : (entry_in T src).row ≡ r + (entry_in T src).row = omega arith in
    let exp : (entry_in T src).exp + 0 ≡ (entry_in T src).exp = omega arith in
    record { ref = h.ref; is = h.is ∙ ap₂ entry row (sym (mod-eq_of_lt l) ∙ ap (λ e. e % m) (sym exp)) }

module _ {T : List ℕ} {at src x : ℕ} where
  pub same_none : LinesSame T at src 0 x
  same_none = record { each = λ c l. absurd (omega arith) }

  pub same_more : {k : ℕ} → LinesSame T at src k x → LineSame T (at + k) (src + k) x → LinesSame T at src (k + 1) x
  same_more {k} h w = record { each = below_more (λ c. LineSame T (at + c) (src + c) x) k h.each w }

  pub same-fewer : {k n : ℕ} → LinesSame T at src k x → n ≤ k → LinesSame T at src n x
  same-fewer h l = record { each = λ c b. h.each c (omega arith) }

pub record Shifting (m : ℕ) (T : List ℕ) (at src : ℕ) (t : Shift) (k : ℕ) : Type 0 where
  pub each : (c : ℕ) → c < k → LineShifted m T (at + c) (src + c) t

module _ {m : ℕ} {T : List ℕ} {at src : ℕ} {t : Shift} where
  pub shifting-none : Shifting m T at src t 0
  shifting-none = record { each = λ c l. absurd (omega arith) }

  pub shifting-more : {k : ℕ} → Shifting m T at src t k → LineShifted m T (at + k) (src + k) t → Shifting m T at src t (k + 1)
  shifting-more {k} h w = record { each = below_more (λ c. LineShifted m T (at + c) (src + c) t) k h.each w }

  pub shifting-all : {k d : ℕ} → Shifting m T at src t k → d ≤ k → Shifted m T at src d t
  shifting-all h l = record { each = λ c b. h.each c (omega arith) }
