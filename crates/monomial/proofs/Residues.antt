-- Exponents modulo m: the numbers below m. Their p-th parts, where p divides m.
--
--   Residue-path                 residues are equal where their numbers are
--   residues m pos               the numbers below m are exponents
--   add-value, nil-value, times-value      their numbers
--   residue, residue-value       a number modulo m
--   less-value, less-mod         the difference modulo m of the definitions
--   part, part-times             s / p, where p divides s
--   neg-divides, root-divides    where p divides an exponent
--   unit, unit-p, unit-injective, unit-mod      m / p: its multiples count modulo p
--   log, log-below, log-times    an exponent that p kills is a multiple of m / p
use mathlib.Core.Path.{◌≡◌, refl, sym, ◌∙◌, ap, subst}
use mathlib.Core.HLevel.{Σ_prop_path}
use Prim.Native.Nat.{ℕ, zero, suc, ◌+◌, ◌*◌, ◌-◌, ◌%◌, ◌/◌, ◌<◌, ◌∣◌}
use native.Mathlib.Nat.{zero-mul, zero-mod, zero-add, suc-mul, add_comm, add_assoc, add-mod-mod, mod-add-mod, mod-lt, mod-eq_of_lt, mod_self, mod-add-div'}
use native.Mathlib.Nat.{add-mul-mod_self_right, mul-lt-mul_of_pos_right, mul-div_cancel, mul-div_cancel', div-mul_cancel, div-le_self, div-lt_iff_lt-mul}
use native.Mathlib.Nat.{dvd-mul_right, dvd_trans, dvd-sub, dvd-mod_iff, dvd-add_iff_left, dvd_of_mod-eq-zero, mod-eq-zero_of_dvd, mod-mod_of_dvd}
use native.Mathlib.Nat.{dvd_of_mul-dvd-mul_left}
use native.Mathlib.Bridge.{le_prop}
use native.Mathlib.Omega.{arith}
use Rattle.definitions.specs.Monomial.{less}
use Rattle.monomial.specs.Exponents.{Exponents, times, Residue, Parts}
use Rattle.monomial.proofs.Exponents.{total-zero, total-suc}

pub Residue-path : (m : ℕ) (x y : Residue m) → x.0 ≡ y.0 → x ≡ y
Residue-path m x y q = Σ_prop_path (λ k. le_prop) q

module _ (m : ℕ) (pos : 0 < m) where
  unfoldable pub residues : Exponents (Residue m)
  residues = record {
    add = λ x y. ((x.0 + y.0) % m, mod-lt _ pos);
    nil = (0, pos);
    neg = λ x. ((m - x.0) % m, mod-lt _ pos);
    assoc = λ x y z. Residue-path m _ _ (simp (mod-add-mod, add-mod-mod, add_assoc));
    comm = λ x y. Residue-path m _ _ (ap (λ t. t % m) (add_comm _ _));
    idl = λ x. Residue-path m _ _ (ap (λ t. t % m) (zero-add _) ∙ mod-eq_of_lt x.1);
    negr = λ x. Residue-path m _ _ (let q : x.0 + (m - x.0) ≡ m = omega (arith, x.1) in add-mod-mod _ _ _ ∙ ap (λ t. t % m) q ∙ mod_self m);
  }

  pub add-value : (x y : Residue m) → (residues.add x y).0 ≡ (x.0 + y.0) % m
  unfolding residues
  add-value x y = refl

  pub nil-value : residues.nil.0 ≡ 0
  unfolding residues
  nil-value = refl

  pub times-value : (k : ℕ) (x : Residue m) → (times residues k x).0 ≡ (k * x.0) % m
  unfolding residues
  times-value zero x = ap (λ s. s.0) (total-zero residues (λ k. x)) ∙ sym (zero-mod m) ∙ ap (λ s. s % m) (sym (zero-mul x.0))
  times-value (suc k) x =
      ap (λ s. s.0) (total-suc residues (λ k. x) k) ∙ ap (λ s. (x.0 + s) % m) (times-value k x) ∙ add-mod-mod _ _ _ ∙ ap (λ s. s % m) (add_comm _ _ ∙ sym (suc-mul k x.0))

  unfoldable pub residue : ℕ → Residue m
  residue x = (x % m, mod-lt x pos)

  pub residue-value : (x : ℕ) → (residue x).0 ≡ x % m
  unfolding residue
  residue-value x = refl

  -- ---- Differences

  pub less-value : (x y : Residue m) → less m x.0 y.0 ≡ (residues.add x (residues.neg y)).0
  unfolding less residues
  less-value x y = ap (λ s. (x.0 + (m - s)) % m) (mod-eq_of_lt y.1) ∙ sym (add-mod-mod _ _ _)

  pub less-mod : (x y : ℕ) → less m x y ≡ less m (x % m) y
  unfolding less
  less-mod x y = sym (mod-add-mod _ _ _)

  -- ---- Parts

  module _ (Q : Parts m) where
    open Q use {p, share, two, split}

    p∣m : p ∣ m
    p∣m = subst (λ s. p ∣ s) (sym split) (dvd-mul_right p share)

    -- c + x = p z and N x = 0, where N divides the share: then p divides c
    pub root-divides : (N spare : ℕ) → 0 < N → share ≡ N * spare → (c x z : Residue m) → residues.add c x ≡ times residues p z → times residues N x ≡ residues.nil → p ∣ c.0
    unfolding residues
    root-divides N spare hN e c x z q₁ q₂ =
        let nx : m ∣ N * x.0 = dvd_of_mod-eq-zero m (sym (times-value N x) ∙ ap (λ s. s.0) q₂) in
        let w : m ≡ N * (p * spare) = split ∙ ap (λ s. p * s) e ∙ omega arith in
        let px : p ∣ x.0 = dvd_trans p (dvd-mul_right p spare) (dvd_of_mul-dvd-mul_left (p * spare) hN (subst (λ s. s ∣ N * x.0) w nx)) in
        let killed = ap (λ s. s % p) (times-value p z) ∙ mod-mod_of_dvd p (p * z.0) p∣m ∙ mod-eq-zero_of_dvd p (dvd-mul_right p z.0) in
        (dvd-add_iff_left p px).1 (dvd_of_mod-eq-zero p (sym (mod-mod_of_dvd p (c.0 + x.0) p∣m) ∙ ap (λ s. s.0 % p) q₁ ∙ killed))

    unfoldable pub part : Residue m → Residue m
    part s = (s.0 / p, omega (arith, div-le_self s.0 p, s.1))

    pub part-value : (s : Residue m) → (part s).0 ≡ s.0 / p
    unfolding part
    part-value s = refl

    pub part-times : (s : Residue m) → p ∣ s.0 → times residues p (part s) ≡ s
    unfolding part
    part-times s h = Residue-path m _ _ (times-value p (part s) ∙ ap (λ k. k % m) (mul-div_cancel' p h) ∙ mod-eq_of_lt s.1)

    pub neg-divides : (c : Residue m) → p ∣ c.0 → p ∣ (residues.neg c).0
    unfolding residues
    neg-divides c h = (dvd-mod_iff p p∣m).1 (dvd-sub p p∣m h)

    pub share-pos : 0 < Q.share
    share-pos = let some : ¬ (share ≡ 0) = λ e. omega (arith, pos, split ∙ ap (λ k. p * k) e) in omega arith

    -- ---- The multiples of m / p

    unfoldable pub unit : Residue m
    unit = (share, omega (arith, split, mul-lt-mul_of_pos_right two share-pos))

    pub unit-value : unit.0 ≡ share
    unfolding unit
    unit-value = refl

    pub unit-p : times residues p unit ≡ residues.nil
    unfolding unit residues
    unit-p = Residue-path m _ _ (times-value p unit ∙ ap (λ k. k % m) (sym split) ∙ mod_self m)

    multiple : (κ : ℕ) → κ < p → (times residues κ unit).0 ≡ κ * share
    unfolding unit
    multiple κ h = times-value κ unit ∙ mod-eq_of_lt (subst (λ s. κ * share < s) (sym split) (mul-lt-mul_of_pos_right h share-pos))

    pub unit-injective : (κ μ : ℕ) → κ < p → μ < p → times residues κ unit ≡ times residues μ unit → κ ≡ μ
    unit-injective κ μ h k q = sym (mul-div_cancel κ share-pos) ∙ ap (λ s. s / share) (sym (multiple κ h) ∙ ap (λ s. s.0) q ∙ multiple μ k) ∙ mul-div_cancel μ share-pos

    pub unit-mod : (k : ℕ) → times residues (k % p) unit ≡ times residues k unit
    unfolding unit
    unit-mod k =
        let w : k % p * share + k / p * m ≡ k * share = omega (arith, ap (λ s. k / p * s) split, ap (λ s. s * share) (mod-add-div' k p)) in
        Residue-path m _ _ (times-value (k % p) unit ∙ sym (add-mul-mod_self_right (k % p * share) (k / p) m) ∙ ap (λ s. s % m) w ∙ sym (times-value k unit))

    unfoldable pub log : Residue m → ℕ
    log q = q.0 / share

    pub log-value : (q : Residue m) → log q ≡ q.0 / Q.share
    unfolding log
    log-value q = refl

    pub log-below : (q : Residue m) → log q < p
    unfolding log
    log-below q = (div-lt_iff_lt-mul share-pos).1 (subst (λ s. q.0 < s) split q.1)

    pub log-times : (q : Residue m) → times residues p q ≡ residues.nil → times residues (log q) unit ≡ q
    unfolding log unit residues
    log-times q h =
        let whole = subst (λ s. s ∣ p * q.0) split (dvd_of_mod-eq-zero m (sym (times-value p q) ∙ ap (λ s. s.0) h)) in
        let d : share ∣ q.0 = dvd_of_mul-dvd-mul_left share (omega (arith, two)) whole in
        Residue-path m _ _ (times-value (q.0 / share) unit ∙ ap (λ k. k % m) (div-mul_cancel share d) ∙ mod-eq_of_lt q.1)
