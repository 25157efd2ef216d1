-- What the nodes and the items of a sound and plain specification keep.
use Rattle.std.proofs.Common.{◌≡◌, ℕ, ◌+◌, ◌<◌, ◌≤◌, ◌^◌, List, [], ◌∷◌, length, map, get_or, Option, Some, None, ◌⊎◌, ⊎_elim, refl, sym, ap, ◌∙◌, subst, arith}
use Rattle.std.specs.Prelude.{slice_get, decimal, All, IsTrue}
use Rattle.std.specs.Option.{option_map_or}
use Rattle.std.proofs.lemmas.Option.{slice_get_within, slice_get-get_or}
use Rattle.stream_types.specs.declared.scalar.Ty.{Ty}
use Rattle.stream_types.specs.declared.scalar.Ty.TheVariants as ty
use Rattle.stream_types.specs.declared.types.Field.{Field}
use Rattle.stream_types.specs.declared.types.TypeEntry.{TypeEntry}
use Rattle.stream_types.specs.declared.types.TypeEntry.TheVariants as entry
use Rattle.stream_types.specs.Types.{fields_of}
use Rattle.stream_types.specs.TypeList.{IsArrayEntry, IsStructEntry, Stands}
use Rattle.stream_core.specs.declared.node.Node.{Node}
use Rattle.stream_core.specs.declared.node.Node.TheVariants as node
use Rattle.stream_core.specs.declared.spec.ExternItem.{ExternItem}
use Rattle.stream_core.specs.declared.spec.StreamItem.{StreamItem}
use Rattle.stream_core.specs.declared.spec.LibItem.{LibItem}
use Rattle.stream_core.specs.Value.{SpecValue}
use Rattle.stream_core.specs.Acyclic.{WellFounded}
use Rattle.stream_core.specs.Term.{TreeStream, build, def, tree, trees}
use Rattle.stream_core.specs.Signature.{Signature, StreamSignature, signature_of, stream_signature}
use Rattle.stream_core.specs.WellTyped.{HasMember, HasType, IsArrayOf, IsGoodStream, IsName, IsNumber, IsStreamName, IsStructOf, WellTyped}
use Rattle.stream_core.proofs.Roots.{founded, all_mapped}
use Rattle.stream_core.proofs.Signatures.{from_mapped}
use Rattle.stream_lib.specs.PlainSpecs.{IsSoundPlain}
use Rattle.c99_tree.specs.Words.{is_ring_name}
use Rattle.ring_codegen.specs.Translation.{entry_of, member_name}
use Rattle.ring_codegen.specs.Items.{HasMemberAt, IsNoDef, IsRingItem, NamesWhatIsThere}
use Rattle.ring_codegen.proofs.UnitNames.{name_named, number_named}

pub well_founded : (s : SpecValue) → IsSoundPlain s → WellFounded s
well_founded s sound = founded s sound.typed sound.no_cycle

-- ---- nodes

array_stands : (types : List TypeEntry) (of elem : Ty) (n : ℕ) → IsArrayOf types of elem n → Stands types of
array_stands types (ty.Scalar c) elem n h = absurd h
array_stands types (ty.Array i) elem n h = subst IsArrayEntry (sym h) tt
array_stands types (ty.Struct i) elem n h = absurd h

struct_stands : (types : List TypeEntry) (of : Ty) (fields : List Field) → IsStructOf types of fields → Stands types of
struct_stands types (ty.Scalar c) fields h = absurd h
struct_stands types (ty.Array i) fields h = absurd h
struct_stands types (ty.Struct i) fields h = subst IsStructEntry (sym h.1) tt

fields_are : (types : List TypeEntry) (of : Ty) (fields : List Field) → IsStructOf types of fields → fields_of (entry_of types of) ≡ fields
fields_are types (ty.Scalar c) fields h = absurd h
fields_are types (ty.Array i) fields h = absurd h
fields_are types (ty.Struct i) fields h = ap fields_of h.1

member_there : (types : List TypeEntry) (of t : Ty) (k : ℕ) → HasMember types of k t → HasMemberAt types of k
member_there types of t k h = subst (λ (fs : List Field). k < length fs) (sym (fields_are types of h.fields h.struct_is)) (slice_get_within h.fields k h.member h.is)

-- ---- members

pub no_member : (types : List TypeEntry) (of : Ty) (k : ℕ) → ((i : ℕ) → of ≡ ty.Struct i → ⊥) → HasMemberAt types of k → ⊥
no_member types (ty.Scalar c) k other h = let q : k < 0 = h in omega (arith, q)
no_member types (ty.Array i) k other h = let q : k < 0 = h in omega (arith, q)
no_member types (ty.Struct i) k other h = other i refl

pub member_within : (types : List TypeEntry) (of : Ty) (i : ℕ) (name : List ℕ) (fields : List Field) (k : ℕ) → of ≡ ty.Struct i → slice_get types i ≡ Some (entry.Struct name fields) → HasMemberAt types of k → k < length fields
member_within types of i name fields k is there h =
    subst (λ (n : ℕ). k < n) (ap (λ (t : Ty). length (fields_of (entry_of types t))) is ∙ ap (λ o. length (fields_of o)) there) h

pub member_named : (types : List TypeEntry) (of : Ty) (i : ℕ) (name : List ℕ) (fields : List Field) (k : ℕ) (x : Field) → of ≡ ty.Struct i → slice_get types i ≡ Some (entry.Struct name fields) → slice_get fields k ≡ Some x
    → x.name ≡ member_name (entry_of types of) k
member_named types of i name fields k x is there at =
    sym (ap (λ (t : Ty). member_name (entry_of types t) k) is ∙ ap (λ o. member_name o k) there ∙ ap (λ o. option_map_or (λ (f : Field). f.name) o []) at)

-- ---- nodes of a specification

module _ (s : SpecValue) where
  abbrev sig : Signature
  sig = signature_of (trees s)

  abbrev stream_tree : StreamItem → TreeStream
  stream_tree x = record { name = x.name; ty = x.ty; init = x.init; expr = tree s.nodes s.libs x.expr; at = x.at }

  extern_there : (x : ℕ) (t : Ty) → slice_get sig.externs x ≡ Some t → x < length s.externs
  extern_there x t h = let a = from_mapped (λ (y : ExternItem). y.ty) s.externs x t h in slice_get_within s.externs x a.0 a.1

  stream_there : (x : ℕ) (y : StreamSignature) → slice_get sig.streams x ≡ Some y → x < length s.streams
  stream_there x y h =
      let a = from_mapped (stream_signature s.types) (trees s).streams x y h in
      let b = from_mapped stream_tree s.streams x a.0 a.1 in
      slice_get_within s.streams x b.0 b.1

  names_there : (n : Node) → IsNoDef n → (t : Ty) → HasType sig (build s.libs def (tree s.nodes s.libs) n) t → NamesWhatIsThere s n
  names_there (node.Lit c w) bare t h = tt
  names_there (node.Extern x) bare t h = extern_there x t h
  names_there (node.Stream x) bare t h = stream_there x h.stream h.is
  names_there (node.Drop x k) bare t h = stream_there x h.stream h.is
  names_there (node.Def d) bare t h = absurd bare
  names_there (node.Un o c a) bare t h = tt
  names_there (node.Bin o c a b) bare t h = tt
  names_there (node.Shift d c a cs b) bare t h = tt
  names_there (node.Cast f g a) bare t h = tt
  names_there (node.And a b) bare t h = tt
  names_there (node.Or a b) bare t h = tt
  names_there (node.Implies a b) bare t h = tt
  names_there (node.If c a b) bare t h = tt
  names_there (node.Index of a i) bare t h = array_stands s.types of t h.0 h.1
  names_there (node.Field of k a) bare t h = member_there s.types of t k h.0
  names_there (node.Array of es) bare t h = array_stands s.types of h.0 h.1 h.2
  names_there (node.Record of es) bare t h = struct_stands s.types of h.0 h.1
  names_there (node.Abs c a) bare t h = tt
  names_there (node.Sign c a) bare t h = tt
  names_there (node.Majority c es) bare t h = tt
  names_there (node.Agreed c es) bare t h = tt
  names_there (node.Lib k) bare t h = tt

  pub node_names : IsSoundPlain s → (i : ℕ) (n : Node) → i < length s.nodes → tree s.nodes s.libs i ≡ build s.libs def (tree s.nodes s.libs) n → IsNoDef n → NamesWhatIsThere s n
  node_names sound i n there is bare =
      let h = sound.typed.nodes i there in
      names_there n bare h.0 (subst (λ x. HasType sig x h.0) is h.1)

  -- ---- items

  pub ring_items : IsSoundPlain s → All (IsRingItem s.types) s.streams
  ring_items sound k d h =
      let good = all_mapped stream_tree (IsGoodStream sig) s.streams sound.typed.streams k d h in
      record { stands = good.stands; some = good.initial.some; most = good.initial.most }

  ring_name : (libs : List LibItem) (name : List ℕ) → libs ≡ [] → IsStreamName libs name → IsTrue (is_ring_name name)
  ring_name [] name e h = ⊎_elim (λ (a : IsName name). name_named name a) (λ (a : IsNumber name). subst (λ (x : List ℕ). IsTrue (is_ring_name x)) (sym a.3) (number_named a.0 a.1 a.2)) h
  ring_name (x ∷ xs) name e h = absurd (cc)

  pub ring_names : IsSoundPlain s → All (λ (x : StreamItem). IsTrue (is_ring_name x.name)) s.streams
  ring_names sound k d h = ring_name s.libs (get_or s.streams k d).name sound.no_forms (sound.typed.names.streams k d h)
