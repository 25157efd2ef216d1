-- The type of an expression is a scalar, or stands in the type list.
use Rattle.std.proofs.Common.{◌≡◌, ℕ, suc, ◌<◌, List, length, map, Some, refl, sym, ap, ◌∙◌, subst, arith}
use Rattle.std.specs.Prelude.{slice_get, All}
use Rattle.std.proofs.lemmas.Option.{slice_get_within, get_or_from_slice_get}
use Rattle.stream_types.specs.declared.scalar.Ty.{Ty}
use Rattle.stream_types.specs.declared.scalar.Ty.TheVariants as ty
use Rattle.stream_types.specs.declared.types.Field.{Field}
use Rattle.stream_types.specs.declared.types.TypeEntry.{TypeEntry}
use Rattle.stream_types.specs.declared.types.TypeEntry.TheVariants as entry
use Rattle.stream_types.specs.TypeList.{IsArrayEntry, IsStructEntry, Stands, IsTypeList}
use Rattle.stream_types.proofs.TypeLists.{Stands-take, struct_stands}
use Rattle.stream_types.proofs.Widths.{Stands-element}
use Rattle.stream_core.specs.declared.node.LibForm.{LibForm}
use Rattle.stream_core.specs.declared.node.LibForm.TheVariants as form
use Rattle.stream_core.specs.declared.spec.ExternItem.{ExternItem}
use Rattle.stream_core.specs.Value.{SpecValue}
use Rattle.stream_core.specs.Term.{Term, lit, extern, stream, def, named, missing, dropped, un, bin, shift, cast, and, or, implies, choose, index, field, array, struct, abs, sign, majority, agreed, lib, TreeStream, TreeDef, trees}
use Rattle.stream_core.specs.Signature.{Signature, StreamSignature, stream_signature, signature_of}
use Rattle.stream_core.specs.WellTyped.{HasType, IsArrayOf, IsStructOf, HasMember, IsGoodStream, IsGoodDef, WellTyped, form_gives}
use Rattle.stream_core.proofs.Signatures.{from_mapped}

each_at : {X : Type 0} (P : X → Type 0) (xs : List X) → All P xs → (k : ℕ) (x : X) → slice_get xs k ≡ Some x → P x
each_at P xs all k x e = subst P (get_or_from_slice_get xs k x x e) (all k x (slice_get_within xs k x e))

array_stands : (types : List TypeEntry) (of elem : Ty) (n : ℕ) → IsArrayOf types of elem n → Stands types of
array_stands types (ty.Scalar c) elem n h = absurd h
array_stands types (ty.Array i) elem n h = subst IsArrayEntry (sym h) tt
array_stands types (ty.Struct i) elem n h = absurd h

element_stands : (types : List TypeEntry) → IsTypeList types → (of elem : Ty) (n : ℕ) → IsArrayOf types of elem n → Stands types elem
element_stands types good (ty.Scalar c) elem n h = absurd h
element_stands types good (ty.Array i) elem n h = Stands-take types i elem (Stands-element _ elem (good.each i (entry.Array elem n) h).0)
element_stands types good (ty.Struct i) elem n h = absurd h

whole_stands : (types : List TypeEntry) (of : Ty) (fields : List Field) → IsStructOf types of fields → Stands types of
whole_stands types (ty.Scalar c) fields h = absurd h
whole_stands types (ty.Array i) fields h = absurd h
whole_stands types (ty.Struct i) fields h = subst IsStructEntry (sym h.1) tt

fields_stand : (types : List TypeEntry) → IsTypeList types → (of : Ty) (fields : List Field) → IsStructOf types of fields → All (λ (f : Field). Stands types f.ty) fields
fields_stand types good (ty.Scalar c) fields h = absurd h
fields_stand types good (ty.Array i) fields h = absurd h
fields_stand types good (ty.Struct i) fields h = struct_stands types i h.0 fields good h.1

form_stands : (types : List TypeEntry) (f : LibForm) → Stands types (form_gives f)
form_stands types (form.WindowMax n c) = tt
form_stands types (form.WindowMin n c) = tt
form_stands types (form.WindowSum n c) = tt
form_stands types form.Once = tt
form_stands types form.Historically = tt
form_stands types form.Yesterday = tt
form_stands types form.WeaklyYesterday = tt
form_stands types form.Since = tt
form_stands types (form.OnceIn low high) = tt
form_stands types (form.HistoricallyIn low high) = tt
form_stands types (form.SinceIn low high) = tt
form_stands types (form.Clock period phase) = tt

module _ (s : SpecValue) (w : WellTyped s) where
  abbrev sig : Signature
  sig = signature_of (trees s)

  abbrev S : Ty → Type 0
  S t = Stands s.types t

  scalar_is : (t u : Ty) → t ≡ u → S u → S t
  scalar_is t u e h = subst S (sym e) h

  extern_stands : (x : ℕ) (t : Ty) → slice_get sig.externs x ≡ Some t → S t
  extern_stands x t e =
      let z = from_mapped (λ (y : ExternItem). y.ty) s.externs x t e in
      subst S z.2 (each_at (λ (y : ExternItem). S y.ty) s.externs w.externs x z.0 z.1)

  stream_stands : (x : ℕ) (y : StreamSignature) → slice_get sig.streams x ≡ Some y → S y.ty
  stream_stands x y e =
      let z = from_mapped (stream_signature s.types) (trees s).streams x y e in
      subst S (ap (λ (v : StreamSignature). v.ty) z.2) (each_at (IsGoodStream sig) (trees s).streams w.streams x z.0 z.1).stands

  def_stands : (d : ℕ) (t : Ty) → slice_get sig.defs d ≡ Some t → S t
  def_stands d t e =
      let z = from_mapped (λ (y : TreeDef). y.ty) (trees s).defs d t e in
      subst S z.2 (each_at (IsGoodDef sig) (trees s).defs w.defs d z.0 z.1).stands

  pub typed_stands : (e : Term) (t : Ty) → HasType sig e t → S t
  typed_stands (lit c x) t h = scalar_is t _ h.1 tt
  typed_stands (extern x) t h = extern_stands x t h
  typed_stands (stream x) t h = subst S h.type_is (stream_stands x h.stream h.is)
  typed_stands (def d) t h = def_stands d t h
  typed_stands (named d a) t h = def_stands d t h.0
  typed_stands missing t h = absurd h
  typed_stands (dropped x k) t h = subst S h.type_is (stream_stands x h.stream h.is)
  typed_stands (un o c a) t h = scalar_is t _ h.2 tt
  typed_stands (bin o c a b) t h = scalar_is t _ h.3 tt
  typed_stands (shift d c a cs n) t h = scalar_is t _ h.3 tt
  typed_stands (cast f u a) t h = scalar_is t _ h.2 tt
  typed_stands (and a b) t h = scalar_is t _ h.2 tt
  typed_stands (or a b) t h = scalar_is t _ h.2 tt
  typed_stands (implies a b) t h = scalar_is t _ h.2 tt
  typed_stands (choose c a b) t h = typed_stands a t h.1
  typed_stands (index of a i) t h = element_stands s.types w.types of t h.0 h.1
  typed_stands (field of k a) t h = let m = h.0 in subst S m.type_is (each_at (λ (f : Field). S f.ty) m.fields (fields_stand s.types w.types of m.fields m.struct_is) k m.member m.is)
  typed_stands (array of es) t h = scalar_is t of h.4 (array_stands s.types of h.0 h.1 h.2)
  typed_stands (struct of es) t h = scalar_is t of h.3 (whole_stands s.types of h.0 h.1)
  typed_stands (abs c a) t h = scalar_is t _ h.2 tt
  typed_stands (sign c a) t h = scalar_is t _ h.2 tt
  typed_stands (majority c es) t h = scalar_is t _ h.2 tt
  typed_stands (agreed c es) t h = scalar_is t _ h.2 tt
  typed_stands (lib k f es) t h = scalar_is t _ h.2 (form_stands s.types f)
