-- The steps of images and of values over them.
--
--   images-none, images-more      the table of images, one more
--   value_none, value-more        the value over the images, one exponent more
use mathlib.Core.Path.{◌≡◌, sym, ◌∙◌, ap, ap₂, subst}
use mathlib.Core.List.{List, []}
use Prim.Native.Nat.{ℕ, suc, ◌+◌, ◌<◌}
use native.Mathlib.Numerals.{add-one}
use native.Mathlib.Omega.{arith}
use lib.ListN.{length, get_or, set, replicate}
use lib.Seq.{get_or-set_same, get_or-set_other}
use Rattle.definitions.specs.Presentation.{max_generators, to_nf, power, value}
use Rattle.definitions.specs.Consistency.{mul, conj, forms, image}
use Rattle.numbers.proofs.Lists.{below_suc}
use Rattle.group.proofs.Values.{value-zero, value-suc}
use Rattle.group.proofs.Rows.{to_nf-suc, to_nf-trivial}
use Rattle.rows.specs.Rows.{Small, Ranged, Generator}
use Rattle.rows.proofs.Forms.{zeros, generator-is, ready-below, reads-below, small-zeros}
use Rattle.collector.specs.Products.{Conjugate, Scaled}
use Rattle.consistency.specs.Images.{Images, Value}

module _ {i : ℕ} {ps : List ℕ} {rows : List (List ℕ)} where
  pub images-none : {h : List (List ℕ)} → Images i ps rows h 0
  images-none = record { small = λ k l. absurd (omega arith); is = λ C R k l. absurd (omega arith) }

  pub images-more : {h : List (List ℕ)} {k : ℕ} {g c : List ℕ} → k < length h → Images i ps rows h k → Generator k g → Conjugate i i ps rows g c
      → Images i ps rows (set h k c) (k + 1)
  images-more {h} {k} {g} {c} l t gg q = subst (Images i ps rows (set h k c)) (sym (add-one k)) (record {
    small = below_suc k (λ m. Small i ps (get_or (set h k c) m [])) (λ m b. subst (Small i ps) (sym (get_or-set_other h k m c [] (omega arith))) (t.small m b))
        (subst (Small i ps) (sym (get_or-set_same h k c [] l)) q.small);
    is = λ C R. below_suc k (λ m. to_nf i (get_or (set h k c) m []) ≡ image C.P i m)
        (λ m b. ap (to_nf i) (get_or-set_other h k m c [] (omega arith)) ∙ t.is C R m b)
        (ap (to_nf i) (get_or-set_same h k c [] l) ∙ q.is C R ∙ ap (conj C.P i i) (generator-is i k g gg));
  })

  pub value_none : {n : ℕ} {x : List ℕ} → i < n → Ranged n ps rows → Value i ps rows 0 x (replicate max_generators 0)
  value_none {n} {x} l r = record {
    small = small-zeros (ready-below {m = i} (omega arith) r);
    is = λ C R. to_nf-trivial i (replicate max_generators 0) (λ m l. zeros m) ∙ sym (value-zero (forms C.P i) (image C.P i) (to_nf 0 x));
  }

  pub value-more : {h : List (List ℕ)} {x v s : List ℕ} {m : ℕ} → m < i → Images i ps rows h i → Value i ps rows m x v
      → Scaled i ps rows (get_or h m []) (get_or x m 0) v s → Value i ps rows (m + 1) x s
  value-more {h} {x} {v} {s} {m} l t a b = subst (λ k. Value i ps rows k x s) (sym (add-one m)) (record {
    small = b.small;
    is = λ C R. b.is C (reads-below (omega arith) R)
        ∙ ap₂ (λ g w. mul C.P i (power (forms C.P i) g (get_or x m 0)) w) (t.is C R m l) (a.is C R)
        ∙ sym (value-suc (forms C.P i) (image C.P i) m (get_or x m 0, to_nf m x)) ∙ ap (value (forms C.P i) (image C.P i) (suc m)) (sym (to_nf-suc m x));
  })
