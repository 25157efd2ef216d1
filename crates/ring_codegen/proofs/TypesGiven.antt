-- The translation of a typed expression has the type's C type.
use Rattle.std.proofs.Common.{◌≡◌, ℕ, zero, suc, Bool, true, false, List, [], ◌∷◌, length, map, replicate, Option, Some, None, refl, sym, ap, ◌∙◌, subst, arith}
use Rattle.std.specs.Prelude.{slice_get, nat_eq, if◌then◌else◌}
use Rattle.std.specs.Option.{option_map, option_map_or, option_and_then}
use Rattle.std.specs.List.{list_all}
use Rattle.std.specs.Cmp.Lexicographic.{nat_list_eq_equiv}
use Rattle.std.proofs.lemmas.Bool.{and_from}
use Rattle.std.proofs.lemmas.Bool.Decides.{nat_tests}
use Rattle.stream_types.specs.declared.scalar.Scalar.TheVariants as scalar
use Rattle.stream_types.specs.declared.scalar.Ty.{Ty}
use Rattle.stream_types.specs.declared.scalar.Ty.TheVariants as ty
use Rattle.stream_types.specs.declared.types.Field.{Field}
use Rattle.stream_types.specs.declared.types.TypeEntry.{TypeEntry}
use Rattle.stream_types.specs.declared.types.TypeEntry.TheVariants as entry
use Rattle.stream_types.specs.Scalars.{op2_gives}
use Rattle.stream_core.specs.declared.spec.ExternItem.{ExternItem}
use Rattle.stream_core.specs.Term.{Term, Terms, lit, extern, stream, def, named, missing, dropped, un, bin, shift, cast, and, or, implies, choose, index, field, array, struct, abs, sign, majority, agreed, lib, end, more, TreeSpec, TreeStream, initial_count}
use Rattle.stream_core.specs.Signature.{Signature, StreamSignature, signature_of, stream_signature}
use Rattle.stream_core.specs.WellTyped.{HasType, HaveTypes, HasMember, field_types, bool, word32}
use Rattle.stream_core.specs.WrittenOut.{IsWrittenOut, AreWritten}
use Rattle.stream_core.specs.Plain.{IsPlain, ArePlain}
use Rattle.c99_tree.specs.declared.expr.CLit.TheVariants as k
use Rattle.c99_tree.specs.declared.expr.CBin.TheVariants as o
use Rattle.c99_tree.specs.declared.expr.CExpr.{CExpr}
use Rattle.c99_tree.specs.declared.expr.CExpr.TheVariants as e
use Rattle.c99_tree.specs.declared.types.CScalar.{CScalar}
use Rattle.c99_tree.specs.declared.types.CTy.{CTy}
use Rattle.c99_tree.specs.declared.types.CTy.TheVariants as cty
use Rattle.c99_tree.specs.declared.types.CVar.{CVar}
use Rattle.c99_tree.specs.declared.unit.CRing.{CRing}
use Rattle.c99_tree.specs.declared.unit.Unit.{Unit as CUnit}
use Rattle.c99_tree.specs.Tree.{Expr, Exprs, tree, exprs}
use Rattle.c99_tree.specs.Tree as c_tree
use Rattle.c99_tree.specs.TreeLaws.{tree-Copy, tree-Head, tree-Cell, tree-RingAt, tree-Lit, tree-Bin, tree-Cond, tree-Field, tree-Pick, tree-Arr, tree-Rec}
use Rattle.c99_tree.specs.Words.{elem_type}
use Rattle.c99_tree.specs.Lookup as look
use Rattle.c99_tree.specs.Lookup.{fields_of, var_of}
use Rattle.c99_tree.specs.Typing.{type_of, types_of, is_same_type, is_scalar_type, fits, fits_in, fit_members, fit_elements, where_scalar, where_type, where_true, arms_type, arms_type_of, fields_in}
use Rattle.ring_codegen.specs.CTypes.{c_scalar, c_type, array_type, struct_name, c_field, element_word}
use Rattle.ring_codegen.specs.Translation.{translated, all_translated, extern_value, is_indexed, place_behind, stream_value, picked, array_value, struct_value, member_name, ring_of}
use Rattle.ring_codegen.specs.Translation as to
use Rattle.ring_codegen.specs.Carried.{HasCarrier}
use Rattle.ring_codegen.proofs.WordNumbers.{own_carrier}
use Rattle.ring_codegen.proofs.NamedOnce.{LooksUp, from_map}
use Rattle.ring_codegen.proofs.OperatorPremises.{OperatorTypes}

-- ---- C types

-- the expression has a type that carries the scalar, or the C type of the array or the struct
abbrev pub HasTypeFor : List TypeEntry → CUnit → CExpr → Ty → Type 0
HasTypeFor types u e (ty.Scalar t) = HasCarrier u e t
HasTypeFor types u e (ty.Array i) = type_of u (tree e) ≡ Some (c_type types (ty.Array i))
HasTypeFor types u e (ty.Struct i) = type_of u (tree e) ≡ Some (c_type types (ty.Struct i))

abbrev pub HaveTypesFor : List TypeEntry → CUnit → List CExpr → List Ty → Type 0
HaveTypesFor types u [] [] = Unit {0}
HaveTypesFor types u [] (t ∷ ts) = ⊥
HaveTypesFor types u (e ∷ es) [] = ⊥
HaveTypesFor types u (e ∷ es) (t ∷ ts) = HasTypeFor types u e t × HaveTypesFor types u es ts

pub exact_type : (types : List TypeEntry) (u : CUnit) (e : CExpr) (t : Ty) → type_of u (tree e) ≡ Some (c_type types t) → HasTypeFor types u e t
exact_type types u e (ty.Scalar t) h = record { ty = c_scalar t; is = h; carrier = own_carrier t }
exact_type types u e (ty.Array i) h = h
exact_type types u e (ty.Struct i) h = h

pub whole_array : (types : List TypeEntry) (o : Option TypeEntry) → is_scalar_type (array_type types o) ≡ false
whole_array types None = refl
whole_array types (Some (entry.Array elem n)) = refl
whole_array types (Some (entry.Struct name fields)) = refl

pub same_whole : (t : CTy) → is_scalar_type t ≡ false → is_same_type t t ≡ true
same_whole (cty.Scalar s) h = absurd (cc h)
same_whole (cty.Struct x) h = nat_list_eq_equiv.refl x
same_whole (cty.Array x n) h = and_from _ _ (nat_list_eq_equiv.refl x) (let e : nat_eq n n ≡ true = grind (arith, nat_tests) in e)

pub fits_whole : (t : CTy) → is_scalar_type t ≡ false → fits t t ≡ true
fits_whole (cty.Scalar s) h = refl
fits_whole (cty.Struct x) h = same_whole (cty.Struct x) h
fits_whole (cty.Array x n) h = same_whole (cty.Array x n) h

pub arms_whole : (t : CTy) → is_scalar_type t ≡ false → arms_type t t ≡ Some t
arms_whole (cty.Scalar s) h = absurd (cc h)
arms_whole (cty.Struct x) h = ap (λ (b : Bool). if b then Some (cty.Struct x) else None) (same_whole (cty.Struct x) h)
arms_whole (cty.Array x n) h = ap (λ (b : Bool). if b then Some (cty.Array x n) else None) (same_whole (cty.Array x n) h)

-- what has the type fits its C type
pub fits_type : (types : List TypeEntry) (u : CUnit) (e : CExpr) (t : Ty) → HasTypeFor types u e t → fits_in (type_of u (tree e)) (c_type types t) ≡ true
fits_type types u e (ty.Scalar t) h = ap (λ (a : Option CTy). fits_in a (cty.Scalar (c_scalar t))) h.is
fits_type types u e (ty.Array i) h = ap (λ (a : Option CTy). fits_in a (c_type types (ty.Array i))) h ∙ fits_whole (c_type types (ty.Array i)) (whole_array types (slice_get types i))
fits_type types u e (ty.Struct i) h = ap (λ (a : Option CTy). fits_in a (c_type types (ty.Struct i))) h ∙ fits_whole (c_type types (ty.Struct i)) refl

-- ---- types of C expressions

ring_type : (u : CUnit) (r : List ℕ) (n len : ℕ) (ring : CRing) → look.ring_of u r ≡ Some ring
    → type_of u (c_tree.ring_at r (c_tree.bin o.Rem (c_tree.bin o.Add (c_tree.head r) (c_tree.lit k.U n)) (c_tree.lit k.U len))) ≡ Some ring.ty
ring_type u r n len ring h = ap (λ (x : Option CRing). option_map (λ (y : CRing). y.ty) x) h

pub tree_place : (r : List ℕ) (n len : ℕ) → tree (e.Bin o.Rem (e.Bin o.Add (e.Head r) (e.Lit k.U n)) (e.Lit k.U len)) ≡ c_tree.bin o.Rem (c_tree.bin o.Add (c_tree.head r) (c_tree.lit k.U n)) (c_tree.lit k.U len)
tree_place r n len =
    tree-Bin o.Rem (e.Bin o.Add (e.Head r) (e.Lit k.U n)) (e.Lit k.U len)
    ∙ (λ j. c_tree.bin o.Rem ((tree-Bin o.Add (e.Head r) (e.Lit k.U n) ∙ (λ i. c_tree.bin o.Add (tree-Head r i) (tree-Lit k.U n i))) j) (tree-Lit k.U len j))

pub tree_ring : (r : List ℕ) (n len : ℕ) → tree (e.RingAt r (e.Bin o.Rem (e.Bin o.Add (e.Head r) (e.Lit k.U n)) (e.Lit k.U len)))
    ≡ c_tree.ring_at r (c_tree.bin o.Rem (c_tree.bin o.Add (c_tree.head r) (c_tree.lit k.U n)) (c_tree.lit k.U len))
tree_ring r n len = tree-RingAt r (e.Bin o.Rem (e.Bin o.Add (e.Head r) (e.Lit k.U n)) (e.Lit k.U len)) ∙ ap (c_tree.ring_at r) (tree_place r n len)

pick_type : (u : CUnit) (x : List ℕ) (n : ℕ) (a i : Expr) (s : CScalar) → type_of u a ≡ Some (cty.Array x n) → type_of u i ≡ Some (cty.Scalar s) → type_of u (c_tree.pick x n a i) ≡ Some (elem_type x)
pick_type u x n a i s f g =
    ap (λ (t : Option CTy). where_type t (cty.Array x n) (where_scalar (type_of u i) (Some (elem_type x)))) f
    ∙ ap (λ (b : Bool). if b then where_scalar (type_of u i) (Some (elem_type x)) else None) (same_whole (cty.Array x n) refl)
    ∙ ap (λ (t : Option CTy). where_scalar t (Some (elem_type x))) g

field_type : (u : CUnit) (a : Expr) (x name : List ℕ) (fields : List CVar) (v : CVar) → type_of u a ≡ Some (cty.Struct name) → fields_of u.types name ≡ Some fields → var_of fields x ≡ Some v
    → type_of u (c_tree.field a x) ≡ Some v.ty
field_type u a x name fields v f g h =
    ap (λ (t : Option CTy). option_map (λ (z : CVar). z.ty) (var_of (fields_in u.types t) x)) f
    ∙ ap (λ (fs : Option (List CVar)). option_map (λ (z : CVar). z.ty) (var_of (option_map_or (λ (y : List CVar). y) fs []) x)) g
    ∙ ap (λ (z : Option CVar). option_map (λ (y : CVar). y.ty) z) h

arr_type : (u : CUnit) (x : List ℕ) (n : ℕ) (all : Exprs) → fit_elements (types_of u all) n (elem_type x) ≡ true → type_of u (c_tree.arr x n all) ≡ Some (cty.Array x n)
arr_type u x n all h = ap (λ (b : Bool). where_true b (Some (cty.Array x n))) h

rec_type : (u : CUnit) (x : List ℕ) (all : Exprs) (fields : List CVar) → fields_of u.types x ≡ Some fields → fit_members (types_of u all) fields ≡ true → type_of u (c_tree.rec x all) ≡ Some (cty.Struct x)
rec_type u x all fields g h =
    ap (λ (fs : Option (List CVar)). option_and_then (λ (y : List CVar). where_true (fit_members (types_of u all) y) (Some (cty.Struct x))) fs) g
    ∙ ap (λ (b : Bool). where_true b (Some (cty.Struct x))) h

choice_type : (u : CUnit) (p a b : Expr) (s : CScalar) (t : CTy) → is_scalar_type t ≡ false → type_of u p ≡ Some (cty.Scalar s) → type_of u a ≡ Some t → type_of u b ≡ Some t → type_of u (c_tree.choose p a b) ≡ Some t
choice_type u p a b s t w f g h =
    ap (λ (x : Option CTy). where_scalar x (arms_type_of (type_of u a) (type_of u b))) f
    ∙ (λ j. arms_type_of (g j) (h j))
    ∙ arms_whole t w

-- ---- lists

count_types : (types : List TypeEntry) (u : CUnit) (n : ℕ) (t : Ty) (es : List CExpr) → HaveTypesFor types u es (replicate n t) → length (types_of u (exprs (map tree es))) ≡ n
count_types types u zero t [] h = refl
count_types types u zero t (a ∷ es) h = absurd h
count_types types u (suc n) t [] h = absurd h
count_types types u (suc n) t (a ∷ es) h = ap suc (count_types types u n t es h.1)

each_fits : (types : List TypeEntry) (u : CUnit) (n : ℕ) (t : Ty) (es : List CExpr) → HaveTypesFor types u es (replicate n t) → list_all (λ (a : Option CTy). fits_in a (c_type types t)) (types_of u (exprs (map tree es))) ≡ true
each_fits types u zero t [] h = refl
each_fits types u zero t (a ∷ es) h = absurd h
each_fits types u (suc n) t [] h = absurd h
each_fits types u (suc n) t (a ∷ es) h = and_from _ _ (fits_type types u a t h.0) (each_fits types u n t es h.1)

same_count : (n m : ℕ) → n ≡ m → nat_eq n m ≡ true
same_count n m h = grind (arith, nat_tests, h)

elements_fit : (types : List TypeEntry) (u : CUnit) (n : ℕ) (t : Ty) (es : List CExpr) → HaveTypesFor types u es (replicate n t) → fit_elements (types_of u (exprs (map tree es))) n (c_type types t) ≡ true
elements_fit types u n t es h = and_from _ _ (same_count _ n (count_types types u n t es h)) (each_fits types u n t es h)

members_fit : (types : List TypeEntry) (u : CUnit) (fields : List Field) (es : List CExpr) → HaveTypesFor types u es (field_types fields) → fit_members (types_of u (exprs (map tree es))) (map (c_field types) fields) ≡ true
members_fit types u [] [] h = refl
members_fit types u [] (a ∷ es) h = absurd h
members_fit types u (f ∷ fields) [] h = absurd h
members_fit types u (f ∷ fields) (a ∷ es) h = and_from _ _ (fits_type types u a f.ty h.0) (members_fit types u fields es h.1)

-- ---- expressions

module _ (spec : TreeSpec) (u : CUnit) (ops : OperatorTypes) (looks : LooksUp spec u) where
  abbrev sig : Signature
  sig = signature_of spec

  abbrev For : CExpr → Ty → Type 0
  For e t = HasTypeFor spec.types u e t

  as_type : (e : CExpr) (t s : Ty) → t ≡ s → For e s → For e t
  as_type e t s same h = subst (λ x. For e x) (sym same) h

  extern_typed : (x : ℕ) (t : Ty) → slice_get sig.externs x ≡ Some t → For (translated spec (extern x)) t
  extern_typed x t h =
      let at = from_map (λ (y : ExternItem). y.ty) spec.externs x t h in
      let typed : type_of u (tree (e.Copy at.origin.name)) ≡ Some (c_type spec.types t) =
      ap (type_of u) (tree-Copy at.origin.name) ∙ ap (λ (v : Option CVar). option_map (λ (z : CVar). z.ty) v) (looks.var x at.origin at.there) ∙ ap (λ (s : Ty). Some (c_type spec.types s)) at.is in
      subst (λ (v : Option ExternItem). For (extern_value v) t) (sym at.there) (exact_type spec.types u (e.Copy at.origin.name) t typed)

  -- a stream's value at any distance
  pub stream_typed : (n : ℕ) (x : ℕ) (y : TreeStream) → slice_get spec.streams x ≡ Some y → type_of u (tree (stream_value spec.types n (Some y))) ≡ Some (c_type spec.types y.ty)
  stream_typed n x y h = by (is_indexed spec.types y)
    where
      by : (b : Bool) → type_of u (tree (if b then e.RingAt y.name (place_behind spec.types y n) else e.Cell y.name)) ≡ Some (c_type spec.types y.ty)
      by true = ap (type_of u) (tree_ring y.name n (initial_count spec.types y)) ∙ ring_type u y.name n (initial_count spec.types y) (ring_of spec.types y) (looks.ring x y h)
      by false = ap (type_of u) (tree-Cell y.name) ∙ ap (λ (v : Option CRing). option_map (λ (z : CRing). z.ty) v) (looks.ring x y h)

  read_typed : (n x : ℕ) (t : Ty) (z : StreamSignature) → slice_get sig.streams x ≡ Some z → z.ty ≡ t → For (stream_value spec.types n (slice_get spec.streams x)) t
  read_typed n x t z h is =
      let at = from_map (stream_signature spec.types) spec.streams x z h in
      let same : at.origin.ty ≡ t = ap (λ (w : StreamSignature). w.ty) at.is ∙ is in
      subst (λ (v : Option TreeStream). For (stream_value spec.types n v) t) (sym at.there)
      (exact_type spec.types u (stream_value spec.types n (Some at.origin)) t (stream_typed n x at.origin at.there ∙ ap (λ (s : Ty). Some (c_type spec.types s)) same))

  choice_typed : (t : Ty) (p a b : CExpr) → HasCarrier u p scalar.Bool → For a t → For b t → For (e.Cond p a b) t
  choice_typed (ty.Scalar s) p a b hp ha hb = ops.choice u s p a b hp ha hb
  choice_typed (ty.Array i) p a b hp ha hb =
      ap (type_of u) (tree-Cond p a b) ∙ choice_type u (tree p) (tree a) (tree b) hp.ty (c_type spec.types (ty.Array i)) (whole_array spec.types (slice_get spec.types i)) hp.is ha hb
  choice_typed (ty.Struct i) p a b hp ha hb =
      ap (type_of u) (tree-Cond p a b) ∙ choice_type u (tree p) (tree a) (tree b) hp.ty (c_type spec.types (ty.Struct i)) refl hp.is ha hb

  pub index_typed : (i n : ℕ) (elem : Ty) (a j : CExpr) → slice_get spec.types i ≡ Some (entry.Array elem n) → type_of u (tree a) ≡ Some (c_type spec.types (ty.Array i)) → HasCarrier u j scalar.Word32
      → type_of u (tree (picked (c_type spec.types (ty.Array i)) a j)) ≡ Some (c_type spec.types elem)
  index_typed i n elem a j is ha hj =
      let same : c_type spec.types (ty.Array i) ≡ cty.Array (element_word spec.types elem) n = ap (array_type spec.types) is in
      ap (λ (t : CTy). type_of u (tree (picked t a j))) same
      ∙ ap (type_of u) (tree-Pick (element_word spec.types elem) n a j)
      ∙ pick_type u (element_word spec.types elem) n (tree a) (tree j) hj.ty (ha ∙ ap (λ (t : CTy). Some t) same) hj.is
      ∙ ap (λ (t : CTy). Some t) (looks.element i n elem is)

  pub member_typed : (i m : ℕ) (name : List ℕ) (fields : List Field) (f : Field) (a : CExpr) → slice_get spec.types i ≡ Some (entry.Struct name fields) → slice_get fields m ≡ Some f
      → type_of u (tree a) ≡ Some (c_type spec.types (ty.Struct i)) → type_of u (tree (e.Field a f.name)) ≡ Some (c_type spec.types f.ty)
  member_typed i m name fields f a is at ha =
      ap (type_of u) (tree-Field a f.name)
      ∙ field_type u (tree a) f.name name (map (c_field spec.types) fields) (c_field spec.types f) (ha ∙ ap (λ (x : Option TypeEntry). Some (cty.Struct (struct_name x))) is)
      (looks.struct i name fields is) (looks.member i m name fields f is at)

  -- the name of a member that is there
  pub member_named : (i m : ℕ) (name : List ℕ) (fields : List Field) (f : Field) → slice_get spec.types i ≡ Some (entry.Struct name fields) → slice_get fields m ≡ Some f
      → member_name (to.entry_of spec.types (ty.Struct i)) m ≡ f.name
  member_named i m name fields f is at = ap (λ (x : Option TypeEntry). member_name x m) is ∙ ap (λ (x : Option Field). option_map_or (λ (z : Field). z.name) x []) at

  pub array_typed : (i n : ℕ) (elem : Ty) (es : List CExpr) → slice_get spec.types i ≡ Some (entry.Array elem n) → HaveTypesFor spec.types u es (replicate n elem)
      → type_of u (tree (array_value (c_type spec.types (ty.Array i)) es)) ≡ Some (c_type spec.types (ty.Array i))
  array_typed i n elem es is h =
      let same : c_type spec.types (ty.Array i) ≡ cty.Array (element_word spec.types elem) n = ap (array_type spec.types) is in
      let fit = subst (λ (t : CTy). fit_elements (types_of u (exprs (map tree es))) n t ≡ true) (sym (looks.element i n elem is)) (elements_fit spec.types u n elem es h) in
      ap (λ (t : CTy). type_of u (tree (array_value t es))) same
      ∙ ap (type_of u) (tree-Arr (element_word spec.types elem) n es)
      ∙ arr_type u (element_word spec.types elem) n (exprs (map tree es)) fit
      ∙ ap (λ (t : CTy). Some t) (sym same)

  pub struct_typed : (i : ℕ) (name : List ℕ) (fields : List Field) (es : List CExpr) → slice_get spec.types i ≡ Some (entry.Struct name fields) → HaveTypesFor spec.types u es (field_types fields)
      → type_of u (tree (struct_value (c_type spec.types (ty.Struct i)) es)) ≡ Some (c_type spec.types (ty.Struct i))
  struct_typed i name fields es is h =
      let same : c_type spec.types (ty.Struct i) ≡ cty.Struct name = ap (λ (x : Option TypeEntry). cty.Struct (struct_name x)) is in
      ap (λ (t : CTy). type_of u (tree (struct_value t es))) same
      ∙ ap (type_of u) (tree-Rec name es)
      ∙ rec_type u name (exprs (map tree es)) (map (c_field spec.types) fields) (looks.struct i name fields is) (members_fit spec.types u fields es h)
      ∙ ap (λ (t : CTy). Some t) (sym same)

  field_typed : (of t : Ty) (m : ℕ) (a : CExpr) → HasMember spec.types of m t → For a of → For (e.Field a (member_name (to.entry_of spec.types of) m)) t
  field_typed (ty.Scalar s) t m a h g = absurd h.struct_is
  field_typed (ty.Array i) t m a h g = absurd h.struct_is
  field_typed (ty.Struct i) t m a h g =
      let name = h.struct_is.0 in
      let typed = member_typed i m name h.fields h.member a h.struct_is.1 h.is g in
      let exact : type_of u (tree (e.Field a h.member.name)) ≡ Some (c_type spec.types t) = typed ∙ ap (λ (s : Ty). Some (c_type spec.types s)) h.type_is in
      subst (λ (x : List ℕ). For (e.Field a x) t) (sym (member_named i m name h.fields h.member h.struct_is.1 h.is)) (exact_type spec.types u (e.Field a h.member.name) t exact)

  mutual
    pub has_type : (a : Term) (t : Ty) → HasType sig a t → IsPlain a → IsWrittenOut [] a → For (translated spec a) t
    has_type (lit s w) t h p o = as_type _ t (ty.Scalar s) h.1 (ops.literal u s w)
    has_type (extern x) t h p o = extern_typed x t h
    has_type (stream x) t h p o = read_typed 0 x t h.stream h.is h.type_is
    has_type (def d) t h p o = absurd o
    has_type (named d a) t h p o = has_type a t h.1 p o
    has_type missing t h p o = absurd h
    has_type (dropped x n) t h p o = read_typed n x t h.stream h.is h.type_is
    has_type (un op s a) t h p o = as_type _ t (ty.Scalar s) h.2 (ops.unary u op s _ h.0 (has_type a (ty.Scalar s) h.1 p o))
    has_type (bin op s a b) t h p o = as_type _ t (ty.Scalar (op2_gives op s)) h.3 (ops.binary u op s _ _ (has_type a (ty.Scalar s) h.1 p.0 o.0) (has_type b (ty.Scalar s) h.2 p.1 o.1))
    has_type (shift d s a cs n) t h p o = as_type _ t (ty.Scalar s) h.3 (ops.shift u d s cs _ _ (has_type a (ty.Scalar s) h.1 p.0 o.0) (has_type n (ty.Scalar cs) h.2 p.1 o.1))
    has_type (cast f s a) t h p o = as_type _ t (ty.Scalar s) h.2 (ops.cast u f s _ (has_type a (ty.Scalar f) h.1 p o))
    has_type (and a b) t h p o = as_type _ t bool h.2 (ops.both u _ _ (has_type a bool h.0 p.0 o.0) (has_type b bool h.1 p.1 o.1))
    has_type (or a b) t h p o = as_type _ t bool h.2 (ops.either u _ _ (has_type a bool h.0 p.0 o.0) (has_type b bool h.1 p.1 o.1))
    has_type (implies a b) t h p o = as_type _ t bool h.2 (ops.implied u _ _ (has_type a bool h.0 p.0 o.0) (has_type b bool h.1 p.1 o.1))
    has_type (choose q a b) t h p o = choice_typed t _ _ _ (has_type q bool h.0 p.0 o.0) (has_type a t h.1 p.1 o.1) (has_type b t h.2 p.2 o.2)
    has_type (index (ty.Scalar s) a i) t h p o = absurd h.1
    has_type (index (ty.Struct s) a i) t h p o = absurd h.1
    has_type (index (ty.Array s) a i) t h p o = exact_type spec.types u _ t (index_typed s h.0 t (translated spec a) (translated spec i) h.1 (has_type a (ty.Array s) h.2 p.0 o.0) (has_type i word32 h.3 p.1 o.1))
    has_type (field of m a) t h p o = field_typed of t m (translated spec a) h.0 (has_type a of h.1 p o)
    has_type (array (ty.Scalar s) es) t h p o = absurd h.2
    has_type (array (ty.Struct s) es) t h p o = absurd h.2
    has_type (array (ty.Array s) es) t h p o = as_type _ t (ty.Array s) h.4 (array_typed s h.1 h.0 (all_translated spec es) h.2 (have_types es (replicate h.1 h.0) h.3 p o))
    has_type (struct (ty.Scalar s) es) t h p o = absurd h.1
    has_type (struct (ty.Array s) es) t h p o = absurd h.1
    has_type (struct (ty.Struct s) es) t h p o = as_type _ t (ty.Struct s) h.3 (struct_typed s h.1.0 h.0 (all_translated spec es) h.1.1 (have_types es (field_types h.0) h.2 p o))
    has_type (abs s a) t h p o = absurd p
    has_type (sign s a) t h p o = absurd p
    has_type (majority s es) t h p o = absurd p
    has_type (agreed s es) t h p o = absurd p
    has_type (lib n form es) t h p o = absurd p

    pub have_types : (es : Terms) (ts : List Ty) → HaveTypes sig es ts → ArePlain es → AreWritten (λ d. ⊥) [] es → HaveTypesFor spec.types u (all_translated spec es) ts
    have_types end [] h p o = tt
    have_types end (t ∷ ts) h p o = absurd h
    have_types (more a es) [] h p o = absurd h
    have_types (more a es) (t ∷ ts) h p o = (has_type a t h.0 p.0 o.0, have_types es ts h.1 p.1 o.1)
