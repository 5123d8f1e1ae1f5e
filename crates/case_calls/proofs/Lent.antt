-- Laws of calls on lent parts of buffers.
--
--   lent-first      a call on the part that is lent, of a buffer whose rest is kept
--   part-words      a fact of the part that is lent, by the number asked for
use mathlib.Core.Path.{◌≡◌, refl, sym, subst, ◌∙◌}
use mathlib.Core.List.{List, ◌++◌}
use Prim.Native.Nat.{ℕ}
use native.Mathlib.Omega.{arith}
use lib.ListN.{length, take, drop, length-append, length-drop}
use lib.Seq.{take_at, drop_at}
use Rattle.case_input.specs.Part.{Part}
use Rattle.case_input.proofs.Part.{part-take, part-drop}
use Rattle.case_calls.specs.Lent.{Call, Lent}

pub lent-first : (call : Call) {a n answer count : ℕ} {before w : List ℕ} → Part a (length before) n → length w ≡ n
    → call (take n before) answer count w → Lent call a before answer count (w ++ drop n before)
lent-first call {a} {n} {answer} {count} {before} {w} P e h =
    let after : List ℕ = w ++ drop n before in
    let q : length after ≡ length before = simp (length-append, length-drop) (omega (arith, P.within)) in
    let f : w ≡ take a after = sym (take_at w (drop n before) n e) ∙ part-take P after q in
    record {
      called =
          subst (λ (x : List ℕ). call x answer count (take a after)) (part-take P before refl)
          (subst (λ (y : List ℕ). call (take n before) answer count y) f h);
      kept = sym (part-drop P after q) ∙ drop_at w (drop n before) n e ∙ part-drop P before refl;
    }

pub part-words : (Q : List ℕ → Type 0) {a n : ℕ} {ws v : List ℕ} → Part a (length ws) n → ws ≡ v → Q (take n ws) → Q (take a v)
part-words Q {a} {n} {ws} {v} P e h = subst (λ (x : List ℕ). Q (take a x)) e (subst Q (part-take P ws refl) h)
