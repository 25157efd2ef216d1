-- The rings of the new program by their names and places.
use Rattle.std.proofs.Common.{◌≡◌, ℕ, Bool, true, false, cond, List, [], ◌∷◌, map, Option, Some, None, refl, ap, ◌∙◌}
use Rattle.std.specs.Prelude.{if◌then◌else◌}
use Rattle.std.specs.List.{find, position_or_len}
use Rattle.std.specs.Option.{option_map}
use Rattle.c99_tree.specs.declared.unit.CRing.{CRing}
use Rattle.c99_tree.specs.declared.unit.Unit.{Unit as CUnit}
use Rattle.c99_tree.specs.Words.{is_same}
use Rattle.c99_tree.specs.Lookup.{ring_of, place_of_ring}
use Rattle.migration.specs.Migration.{is_old, renewed_ring, IsRenewed}

name_kept : (b : Bool) (r : CRing) → (if b then record r { indexed = false } else r).name ≡ r.name
name_kept true r = refl
name_kept false r = refl

type_kept : (b : Bool) (r : CRing) → (if b then record r { indexed = false } else r).ty ≡ r.ty
type_kept true r = refl
type_kept false r = refl

pub same_name : (r : CRing) → (renewed_ring r).name ≡ r.name
same_name r = name_kept (is_old r) r

pub same_type : (r : CRing) → (renewed_ring r).ty ≡ r.ty
same_type r = type_kept (is_old r) r

pub place_kept : (x : List ℕ) (rs : List CRing) → position_or_len (λ (r : CRing). is_same x r.name) (map renewed_ring rs) ≡ position_or_len
    (λ (r : CRing). is_same x r.name) rs
place_kept x [] = refl
place_kept x (r ∷ rs) = let name = same_name r in let rest = place_kept x rs in cc (name, rest)

found_first : (b : Bool) (r : CRing) (o : Option CRing) (p : Option CRing) → p ≡ option_map renewed_ring o → cond b (Some (renewed_ring r)) p ≡ option_map
    renewed_ring (cond b (Some r) o)
found_first true r o p e = refl
found_first false r o p e = e

pub found_kept : (x : List ℕ) (rs : List CRing) → find (λ (r : CRing). is_same x r.name) (map renewed_ring rs) ≡ option_map renewed_ring
    (find (λ (r : CRing). is_same x r.name) rs)
found_kept x [] = refl
found_kept x (r ∷ rs) = rw (same_name r) (found_first (is_same x r.name) r (find (λ (z : CRing). is_same x z.name) rs) (find (λ (z : CRing). is_same x z.name)
    (map renewed_ring rs)) (found_kept x rs))

pub type_or_none : (o : Option CRing) → option_map (λ (r : CRing). r.ty) (option_map renewed_ring o) ≡ option_map (λ (r : CRing). r.ty) o
type_or_none None = refl
type_or_none (Some r) = ap Some (same_type r)

module _ (u v : CUnit) (name : List ℕ) (is : IsRenewed u name v) where
  pub same_place : (x : List ℕ) → place_of_ring v x ≡ place_of_ring u x
  same_place x = ap (position_or_len (λ (r : CRing). is_same x r.name)) is.rings ∙ place_kept x u.rings

  pub same_ring : (x : List ℕ) → ring_of v x ≡ option_map renewed_ring (ring_of u x)
  same_ring x = ap (find (λ (r : CRing). is_same x r.name)) is.rings ∙ found_kept x u.rings

  pub same_ring_type : (x : List ℕ) → option_map (λ (r : CRing). r.ty) (ring_of v x) ≡ option_map (λ (r : CRing). r.ty) (ring_of u x)
  same_ring_type x = ap (option_map (λ (r : CRing). r.ty)) (same_ring x) ∙ type_or_none (ring_of u x)
