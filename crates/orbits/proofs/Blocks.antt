-- Laws of an orbit whose blocks are listed.
--
--   orbit-degree               the members of an orbit have one degree
--   blank                      a block that is not there
--   block-there                each block of an orbit is listed
--   listing-stands, block-member, block-degree      a block of a listed orbit: what is listed of it, its degree
--   scaled, scalar-stored      a scalar is stored, and the orbit stays
use mathlib.Core.Path.{◌≡◌, refl, ap, sym, ◌∙◌, subst}
use mathlib.Core.List.{List}
use Prim.Native.Nat.{ℕ, zero, suc, ◌<◌}
use native.Mathlib.Omega.{arith}
use native.Mathlib.Nat.{le_refl}
use native.Mathlib.Numerals.{add-one}
use lib.ListN.{length, get_or, set, length-map}
use Rattle.std.proofs.Math.Seq.{map-set_same}
use Rattle.std.proofs.lemmas.List.{get_or-map}
use Rattle.definitions.specs.Lists.{iter}
use Rattle.numbers.proofs.Lists.{iter-zero}
use Rattle.level.specs.declared.Listed.{Listed}
use Rattle.level.proofs.Columns.{iter-next}
use Rattle.survey.specs.declared.Frame.{Frame}
use Rattle.survey.specs.declared.Note.{Note}
use Rattle.survey.specs.Below.{deg_of, target_of, LevelStands, Located}
use Rattle.survey.proofs.Level.{located-degree}
use Rattle.survey.proofs.Marking.{orbit-inside}
use Rattle.orbits.specs.declared.Block.{Block}
use Rattle.orbits.specs.Blocks.{members, member_of, OrbitArray, Inducing, Listing}

pub orbit-degree : (f : Frame) (W : List ℕ) → LevelStands f W → (r k : ℕ) → r < f.reps → deg_of f W (member_of f W r k) ≡ deg_of f W r
orbit-degree f W S r zero l = ap (deg_of f W) (iter-zero _ r)
orbit-degree f W S r (suc k) l =
    let τ = target_of f W f.top in
    let e : iter τ (suc k) r ≡ τ (iter τ k r) = ap (λ n. iter τ n r) (sym (add-one k)) ∙ iter-next τ k r in
    ap (deg_of f W) e ∙ (S.target (iter τ k r) (orbit-inside f W S r k l) f.top (le_refl _) S.gens.0).1 ∙ orbit-degree f W S r k l

-- ---- Blocks that are listed

abbrev pub blank : Block
blank = record { member = 0; scalar = 0 }

pub block-there : {f : Frame} {W : List ℕ} {r : ℕ} (blocks : List Block) → OrbitArray f W (members blocks) r → (b : ℕ) → b < f.p → b < length blocks
block-there blocks O b h = omega (arith, O.long, length-map blocks (λ (x : Block). x.member))

-- ---- A block of a listed orbit

module _ {f : Frame} {W : List ℕ} {notes : List Note} {blocks : List Block} {r : ℕ} (L : Listing f W notes blocks r) where
  pub listing-stands : LevelStands f W
  listing-stands = L.known.surveyed.sound.stands

  pub block-member : (b : ℕ) → b < f.p → ((get_or blocks b blank).member ≡ member_of f W r b) × ((get_or blocks b blank).member < f.reps)
  block-member b h =
      let n : b < length blocks = block-there blocks L.known.orbit_is b h in
      let o : (get_or blocks b blank).member ≡ member_of f W r b = sym (get_or-map (λ (x : Block). x.member) blocks b blank 0 n) ∙ L.known.orbit_is.at b h in
      (o, subst (λ x. x < f.reps) (sym o) (orbit-inside f W listing-stands r b L.known.leads.listed))

  pub block-degree : (b : ℕ) {D : Listed} → Located f W (member_of f W r b) D → D.deg ≡ deg_of f W r
  block-degree b D = located-degree D ∙ orbit-degree f W listing-stands r b L.known.leads.listed

-- ---- Its scalars

abbrev pub scaled : List Block → (b x : ℕ) → List Block
scaled blocks b x = set blocks b (record { member = (get_or blocks b blank).member; scalar = x })

pub scalar-stored : {f : Frame} {W : List ℕ} {rows : List (List ℕ)} {notes : List Note} {r : ℕ} (blocks : List Block) (b x : ℕ)
    → Inducing f W rows notes blocks r → Inducing f W rows notes (scaled blocks b x) r
scalar-stored {f} {W} {r = r} blocks b x I = record {
  surveyed = I.surveyed;
  leads = I.leads;
  orbit_is = subst (λ m. OrbitArray f W m r) (sym (map-set_same (λ (y : Block). y.member) blocks b _ blank refl)) I.orbit_is;
}
