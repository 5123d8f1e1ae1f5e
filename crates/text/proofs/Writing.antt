-- Laws of writing one thing behind the other.
--
--   put-nil, put-put, length-put, take_put     nothing written; two things; the length; what stands before
--   wrote_none, wrote_one, wrote-more          nothing, one element, and a second thing behind the first
--   wrote-length, wrote_as                     a buffer keeps its length; the same thing said otherwise
--   wrote-next                                 one element of a list more
--   wrote-last, wrote-digit                    a value of one digit; one digit behind the others
--   wrote-slice                                a slice copied by the library
use mathlib.Core.Path.{◌≡◌, refl, sym, ap, subst, ◌∙◌}
use mathlib.Core.List.{List, [], ◌∷◌, ◌++◌, append_assoc, append-nil}
use Prim.Native.Nat.{ℕ, suc, ◌+◌, ◌-◌, ◌/◌, ◌%◌, ◌<◌, ◌≤◌}
use borrow.Rule.Slice.PartMut.{put_mid}
use Rattle.std.proofs.lemmas.Slice.{put_mid-paste}
use native.Mathlib.Nat.{add-zero, mod-eq_of_lt}
use native.Mathlib.Numerals.{add-one}
use native.Mathlib.Omega.{arith}
use lib.ListN.{length, get_or, take, drop, set, length-append, length-take, length-drop, take-append-drop}
use lib.Seq.{set_split, take_all, take_at, drop_at, drop-drop, take-append-le, take-take, take-suc, append_snoc}
use Rattle.definitions.specs.Text.{decimal}
use Rattle.definitions.proofs.Rendering.{decimal-one, decimal-more}
use Rattle.text.specs.Writing.{put, Wrote}

module _ (b : List ℕ) (i : ℕ) where
  pub put-nil : put b i [] ≡ b
  unfolding put
  put-nil = ap (λ (k : ℕ). take i b ++ [] ++ drop k b) (add-zero i) ∙ ap (λ (r : List ℕ). r ++ drop i b) (append-nil (take i b)) ∙ take-append-drop i b

  module _ (s : List ℕ) (room : i + length s ≤ length b) where
    pub length-put : length (put b i s) ≡ length b
    unfolding put
    length-put = simp (length-append, length-take, length-drop) (omega arith)

    front : length (take i b ++ s) ≡ i + length s
    front = simp (length-append, length-take) (omega arith)

    pub take_put : (j : ℕ) → j ≤ i → take j (put b i s) ≡ take j b
    unfolding put
    take_put j l =
        let m : j ≤ length (take i b) = simp length-take (omega arith) in
        let n : j ≤ length (take i b ++ s) = simp length-append (omega arith) in
        take-append-le j (take i b ++ s) (drop (i + length s) b) n ∙ take-append-le j (take i b) s m ∙ take-take j i b l

    pub put-put : (t : List ℕ) → put (put b i s) (i + length s) t ≡ put b i (s ++ t)
    unfolding put
    put-put t =
        let p : List ℕ = take i b ++ s in
        let n : ℕ = i + length s in
        let behind : drop (n + length t) (p ++ drop n b) ≡ drop (n + length t) b =
        sym (drop-drop (length t) n (p ++ drop n b)) ∙ ap (drop (length t)) (drop_at p (drop n b) n front) ∙ drop-drop (length t) n b in
        let end : n + length t ≡ i + length (s ++ t) = omega (arith, length-append s t) in
        ap (λ (r : List ℕ). r ++ t ++ drop (n + length t) (p ++ drop n b)) (take_at p (drop n b) n front)
        ∙ ap (λ (r : List ℕ). p ++ t ++ r) (behind ∙ ap (λ (k : ℕ). drop k b) end)
        ∙ ap (λ (r : List ℕ). r ++ drop (i + length (s ++ t)) b) (append_assoc (take i b) s t)

-- ---- A run of writers

pub wrote_none : (b : List ℕ) (at : ℕ) → at ≤ length b → Wrote b at [] b at
wrote_none b at l = record { content = sym (put-nil b at); end = omega arith; room = omega arith }

-- one store
pub wrote_one : (b : List ℕ) (at x : ℕ) → at < length b → Wrote b at (x ∷ []) (set b at x) (at + 1)
unfolding put
wrote_one b at x l =
    record {
      content = set_split b at x l ∙ sym (append_snoc (take at b) x (drop (suc at) b)) ∙ ap (λ (k : ℕ). take at b ++ (x ∷ []) ++ drop k b) (sym (add-one at));
      end = refl;
      room = omega arith;
    }

module _ {b : List ℕ} {at : ℕ} {s c : List ℕ} {next : ℕ} (h : Wrote b at s c next) where
  pub wrote-length : length c ≡ length b
  wrote-length = ap length h.content ∙ length-put b at s h.room

  pub wrote-more : {t d : List ℕ} {last : ℕ} → Wrote c next t d last → Wrote b at (s ++ t) d last
  wrote-more {t} {d} {last} k =
      record {
        content =
            k.content
            ∙ ap (λ (i : ℕ). put c i t) h.end
            ∙ ap (λ (w : List ℕ). put w (at + length s) t) h.content
            ∙ put-put b at s h.room t;
        end = simp length-append (omega (arith, h.end, k.end));
        room = simp length-append (omega (arith, h.end, k.room, wrote-length));
      }

  -- the same list, said otherwise
  pub wrote_as : {t : List ℕ} → s ≡ t → Wrote b at t c next
  wrote_as {t} q = subst (λ (x : List ℕ). Wrote b at x c next) q h

-- one element of s more
pub wrote-next : {b : List ℕ} {at : ℕ} (s : List ℕ) (k : ℕ) {c : List ℕ} {next : ℕ} {d : List ℕ} {last : ℕ} → k < length s
    → Wrote b at (take k s) c next → Wrote c next (get_or s k 0 ∷ []) d last → Wrote b at (take (k + 1) s) d last
wrote-next s k l h m = wrote_as (wrote-more h m) (sym (take-suc s k 0 l) ∙ ap (λ (j : ℕ). take j s) (sym (add-one k)))

-- ---- Digits

module _ {b : List ℕ} {at : ℕ} {c : List ℕ} {next : ℕ} (v d : ℕ) (q : d ≡ 48 + v % 10) where
  pub wrote-last : v < 10 → Wrote b at (d ∷ []) c next → Wrote b at (decimal v) c next
  wrote-last l h = wrote_as h (ap (λ (x : ℕ). x ∷ []) (q ∙ ap (λ (x : ℕ). 48 + x) (mod-eq_of_lt l)) ∙ sym (decimal-one v l))

  pub wrote-digit : {e : List ℕ} {last : ℕ} → 10 ≤ v → Wrote b at (decimal (v / 10)) c next → Wrote c next (d ∷ []) e last → Wrote b at (decimal v) e last
  wrote-digit l h k = wrote_as (wrote-more h k) (ap (λ (x : ℕ). decimal (v / 10) ++ (x ∷ [])) q ∙ sym (decimal-more v l))

-- ---- A slice copied

pub wrote-slice : (b s : List ℕ) (at : ℕ) {t : List ℕ} → at + length s ≤ length b → t ≡ s → Wrote b at s (put_mid at (at + length s - at) b t) (at + length s)
unfolding put
wrote-slice b s at {t} l q =
    record {
      content =
          put_mid-paste at (at + length s - at) b t s (length s) q (omega arith) refl
          ∙ ap (λ (xs : List ℕ). take at b ++ xs ++ drop (at + length s) b) (take_all (length s) s (omega arith));
      end = refl;
      room = l;
    }
