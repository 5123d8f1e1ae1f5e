-- The lines of a table whose heads are in order, told by level, representation, generator and column.
--
--   Between, between        of values from below x to above x two follow each other with x between them
--   first-zero, first-suc, base-zero, base-suc     where representations and levels begin
--   Position, position      every line is that of a column
use mathlib.Core.Path.{◌≡◌, refl, sym, subst}
use mathlib.Core.Logic.{by_cases}
use mathlib.Core.List.{List}
use Prim.Native.Nat.{ℕ, zero, suc, ◌+◌, ◌*◌, ◌-◌, ◌/◌, ◌%◌, ◌≤◌, ◌<◌}
use native.Mathlib.Nat.{mod-lt, mod-add-div', div-lt_iff_lt-mul}
use native.Mathlib.Omega.{arith}
use native.Mathlib.Decide.{dec_lt}
use Rattle.definitions.specs.Table.{DEG, word_at, line_count}
use Rattle.heads.specs.Heads.{first_from, base_of, Headed}

pub record Between (f : ℕ → ℕ) (N x : ℕ) : Type 0 where
  pub s : ℕ
  pub below : s < N
  pub from : f s ≤ x
  pub to : x < f (suc s)

pub between : (f : ℕ → ℕ) (N x : ℕ) → f 0 ≤ x → x < f N → Between f N x
between f zero x a b = absurd (omega arith)
between f (suc N) x a b = by_cases (dec_lt x (f N))
    (λ h. let o = between f N x a h in record { s = o.s; below = omega (arith, o.below); from = o.from; to = o.to })
    (λ h. record { s = N; below = omega arith; from = omega arith; to = b })

pub first-suc : (n : ℕ) (T : List ℕ) (b r : ℕ) → first_from n T b (suc r) ≡ first_from n T b r + n * word_at T (first_from n T b r) DEG
unfolding first_from
first-suc n T b r = refl

pub first-zero : (n : ℕ) (T : List ℕ) (b : ℕ) → first_from n T b 0 ≡ b
unfolding first_from
first-zero n T b = refl

pub base-suc : (n : ℕ) (T : List ℕ) (count : ℕ → ℕ) (k : ℕ) → base_of n T count (suc k) ≡ first_from n T (base_of n T count k) (count k)
unfolding base_of
base-suc n T count k = refl

pub base-zero : (n : ℕ) (T : List ℕ) (count : ℕ → ℕ) → base_of n T count 0 ≡ 0
unfolding base_of
base-zero n T count = refl

module _ (n : ℕ) (T : List ℕ) (H : Headed n T) where
  abbrev at : ℕ → ℕ → ℕ
  at k r = first_from n T (base_of n T H.count k) r

  abbrev deg : ℕ → ℕ → ℕ
  deg k r = word_at T (at k r) DEG

  pub record Position (l : ℕ) : Type 0 where
    pub k : ℕ
    pub r : ℕ
    pub g : ℕ
    pub c : ℕ
    pub k_below : k < n
    pub r_below : r < H.count k
    pub g_below : g < n
    pub c_below : c < word_at T (first_from n T (base_of n T H.count k) r) DEG
    pub is : first_from n T (base_of n T H.count k) r + g * word_at T (first_from n T (base_of n T H.count k) r) DEG + c ≡ l

  -- in the representation that begins at line a and ends behind l
  pub position : (l : ℕ) → l < line_count T → Position l
  position l h =
      let K = between (base_of n T H.count) n l (omega (arith, base-zero n T H.count)) (subst (λ x. l < x) (sym H.ends) h) in
      level K.s K.below K.from (subst (λ x. l < x) (base-suc n T H.count K.s) K.to)
    where
      column : (k r : ℕ) → k < n → r < H.count k → at k r ≤ l → l < at k r + n * deg k r → Position l
      column k r kl rl a b =
          let d = (H.heads k r kl rl).positive in
          let x : ℕ = l - at k r in
          let e = mod-add-div' x (deg k r) in
          record {
            k = k;
            r = r;
            g = x / deg k r;
            c = x % deg k r;
            k_below = kl;
            r_below = rl;
            g_below = (div-lt_iff_lt-mul d).1 (omega arith);
            c_below = mod-lt x d;
            is = omega (arith, e);
          }

      level : (k : ℕ) → k < n → base_of n T H.count k ≤ l → l < at k (H.count k) → Position l
      level k kl a b =
          let R = between (at k) (H.count k) l (omega (arith, first-zero n T (base_of n T H.count k))) b in
          column k R.s kl R.below R.from (subst (λ x. l < x) (first-suc n T (base_of n T H.count k) R.s) R.to)
