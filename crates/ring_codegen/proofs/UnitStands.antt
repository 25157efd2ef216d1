-- The type of an expression stands in the type list.
use Rattle.std.proofs.Common.{◌≡◌, ℕ, List, [], ◌∷◌, map, take, Some, refl, sym, ap, ◌∙◌, subst}
use Rattle.std.specs.Prelude.{slice_get, All}
use Rattle.stream_types.specs.declared.scalar.Ty.{Ty}
use Rattle.stream_types.specs.declared.scalar.Ty.TheVariants as ty
use Rattle.stream_types.specs.declared.types.Field.{Field}
use Rattle.stream_types.specs.declared.types.TypeEntry.{TypeEntry}
use Rattle.stream_types.specs.declared.types.TypeEntry.TheVariants as entry
use Rattle.stream_types.specs.TypeList.{IsArrayEntry, IsStructEntry, Stands, IsTypeList}
use Rattle.stream_types.proofs.TypeLists.{Stands-take}
use Rattle.stream_types.proofs.Widths.{Stands-element}
use Rattle.stream_core.specs.declared.spec.ExternItem.{ExternItem}
use Rattle.stream_core.specs.Term.{Term, lit, extern, stream, def, named, missing, dropped, un, bin, shift, cast, and, or, implies, choose, index, field, array, struct, abs, sign, majority, agreed, lib, TreeSpec, TreeStream}
use Rattle.stream_core.specs.Signature.{Signature, StreamSignature, signature_of, stream_signature}
use Rattle.stream_core.specs.WellTyped.{HasType, HasMember}
use Rattle.stream_core.specs.WrittenOut.{IsWrittenOut}
use Rattle.stream_core.specs.Plain.{IsPlain}
use Rattle.c99_tree.proofs.LookedUp.{all_at}
use Rattle.ring_codegen.specs.Standing.{IsRingLong}
use Rattle.ring_codegen.proofs.NamedOnce.{from_map}
use Rattle.ring_codegen.proofs.UnitTypes.{element_whole}

module _ (spec : TreeSpec) (good : IsTypeList spec.types) (standing : All (λ (x : ExternItem). Stands spec.types x.ty) spec.externs) (long : All (IsRingLong spec.types) spec.streams) where
  abbrev sig : Signature
  sig = signature_of spec

  as_type : (t s : Ty) → t ≡ s → Stands spec.types s → Stands spec.types t
  as_type t s same h = subst (Stands spec.types) (sym same) h

  extern_stands : (x : ℕ) (t : Ty) → slice_get sig.externs x ≡ Some t → Stands spec.types t
  extern_stands x t h =
      let a = from_map (λ (y : ExternItem). y.ty) spec.externs x t h in
      subst (Stands spec.types) a.is (all_at (λ (y : ExternItem). Stands spec.types y.ty) spec.externs x a.origin standing a.there)

  stream_stands : (x : ℕ) (t : Ty) (z : StreamSignature) → slice_get sig.streams x ≡ Some z → z.ty ≡ t → Stands spec.types t
  stream_stands x t z h is =
      let a = from_map (stream_signature spec.types) spec.streams x z h in
      subst (Stands spec.types) (ap (λ (w : StreamSignature). w.ty) a.is ∙ is) (all_at (IsRingLong spec.types) spec.streams x a.origin long a.there).stands

  element_stands : (i n : ℕ) (elem : Ty) → slice_get spec.types i ≡ Some (entry.Array elem n) → Stands spec.types elem
  element_stands i n elem h = Stands-element spec.types elem (element_whole spec.types i elem (good.each i (entry.Array elem n) h).0)

  member_stands : (of_ t : Ty) (m : ℕ) → HasMember spec.types of_ m t → Stands spec.types t
  member_stands (ty.Scalar s) t m h = absurd h.struct_is
  member_stands (ty.Array i) t m h = absurd h.struct_is
  member_stands (ty.Struct i) t m h =
      let front = (good.each i (entry.Struct h.struct_is.0 h.fields) h.struct_is.1).0 in
      subst (Stands spec.types) h.type_is
      (Stands-take spec.types i h.member.ty (all_at (λ (f : Field). Stands (take i spec.types) f.ty) h.fields m h.member front h.is))

  pub type_stands : (a : Term) (t : Ty) → HasType sig a t → IsPlain a → IsWrittenOut [] a → Stands spec.types t
  type_stands (lit s w) t h p o = as_type t (ty.Scalar s) h.1 tt
  type_stands (extern x) t h p o = extern_stands x t h
  type_stands (stream x) t h p o = stream_stands x t h.stream h.is h.type_is
  type_stands (def d) t h p o = absurd o
  type_stands (named d a) t h p o = type_stands a t h.1 p o
  type_stands missing t h p o = absurd h
  type_stands (dropped x n) t h p o = stream_stands x t h.stream h.is h.type_is
  type_stands (un op s a) t h p o = as_type t _ h.2 tt
  type_stands (bin op s a b) t h p o = as_type t _ h.3 tt
  type_stands (shift d s a cs n) t h p o = as_type t _ h.3 tt
  type_stands (cast f s a) t h p o = as_type t _ h.2 tt
  type_stands (and a b) t h p o = as_type t _ h.2 tt
  type_stands (or a b) t h p o = as_type t _ h.2 tt
  type_stands (implies a b) t h p o = as_type t _ h.2 tt
  type_stands (choose q a b) t h p o = type_stands a t h.1 p.1 o.1
  type_stands (index (ty.Scalar s) a i) t h p o = absurd h.1
  type_stands (index (ty.Struct s) a i) t h p o = absurd h.1
  type_stands (index (ty.Array s) a i) t h p o = element_stands s h.0 t h.1
  type_stands (field of_ m a) t h p o = member_stands of_ t m h.0
  type_stands (array (ty.Scalar s) es) t h p o = absurd h.2
  type_stands (array (ty.Struct s) es) t h p o = absurd h.2
  type_stands (array (ty.Array s) es) t h p o = as_type t (ty.Array s) h.4 (subst IsArrayEntry (sym h.2) tt)
  type_stands (struct (ty.Scalar s) es) t h p o = absurd h.1
  type_stands (struct (ty.Array s) es) t h p o = absurd h.1
  type_stands (struct (ty.Struct s) es) t h p o = as_type t (ty.Struct s) h.3 (subst IsStructEntry (sym h.1.1) tt)
  type_stands (abs s a) t h p o = absurd p
  type_stands (sign s a) t h p o = absurd p
  type_stands (majority s es) t h p o = absurd p
  type_stands (agreed s es) t h p o = absurd p
  type_stands (lib n form es) t h p o = absurd p
