-- The type of each expression of a well formed program has a shape.
use Rattle.std.proofs.Common.{◌≡◌, ℕ, suc, ◌+◌, Bool, true, false, ◌&&◌, ◌++◌, List, [], ◌∷◌, length, Option, Some, None, refl, ap, ◌∙◌, subst, arith}
use Rattle.std.specs.Prelude.{IsTrue, is_some, IsSome}
use Rattle.std.specs.List.{list_all}
use Rattle.std.specs.Option.{option_map, option_map_or, option_and_then}
use Rattle.c99_tree.specs.declared.types.CScalar.{CScalar}
use Rattle.c99_tree.specs.declared.types.CScalar.TheVariants as scalars
use Rattle.c99_tree.specs.CTypes.{usual}
use Rattle.c99_tree.specs.declared.types.CTy.{CTy}
use Rattle.c99_tree.specs.declared.types.CTy.TheVariants as ty
use Rattle.c99_tree.specs.declared.types.CVar.{CVar}
use Rattle.c99_tree.specs.declared.types.CDef.{CDef}
use Rattle.c99_tree.specs.declared.types.CProto.{CProto}
use Rattle.c99_tree.specs.declared.unit.CRing.{CRing}
use Rattle.c99_tree.specs.declared.unit.Unit.{Unit as CUnit}
use Rattle.c99_tree.specs.Tree.{Expr, lit, yes, no, copy, head, cell, ring_at, un, bin, choose, cast, field, pick, arr, rec}
use Rattle.c99_tree.specs.Words.{is_same, elem_type}
use Rattle.c99_tree.specs.Lookup.{fields_of, var_of, ring_of, is_defined}
use Rattle.c99_tree.specs.Values.{Shapes, shapes_of_fields, shape_within, shape_of}
use Rattle.c99_tree.specs.Typing.{type_of, types_of, scalar_type, arms_type, arms_type_of, fields_in, where_scalar, where_true, fit_members, fit_elements, literal_type, unary_type, binary_type, is_same_type}
use Rattle.c99_tree.specs.WellFormed.{parts_of, parts_of_all, is_there, types_are_built_in_order, types_come_first}
use Rattle.c99_tree.proofs.LookedUp.{found, found_passes}
use Rattle.c99_tree.proofs.Shapes.{shaped-element}
use Rattle.c99_tree.proofs.Shaped.{shape_of-defined, externs_shaped, rings_shaped}
use Rattle.c99_tree.proofs.TypedShapes.{fields_split}
use Rattle.sm_io.proofs.Truths.{left_passes, both_pass}
use Rattle.c_exec.proofs.CodeGoes.{Good, left_good, right_good, inner_good, where_there, same_there, one_of, arms_there, struct_there}
use Rattle.c_exec.proofs.Deeper.{next_keeps, members_shaped}

-- ---- what a type is

same_shaped : (ds : List CDef) (a r : CTy) → Some a ≡ Some r → IsSome (shape_of ds a) → IsSome (shape_of ds r)
same_shaped ds a r e h = let same : a ≡ r = cc e in subst (λ (z : CTy). IsSome (shape_of ds z)) same h

mapped_is : {A : Type 0} (o : Option A) (f : A → CTy) (r : CTy) → option_map f o ≡ Some r → (a : A) × (o ≡ Some a) × (f a ≡ r)
mapped_is None f r h = absurd (cc h)
mapped_is (Some a) f r h = (a, refl, cc h)

true_is : (c : Bool) (q : Option CTy) (r : CTy) → where_true c q ≡ Some r → q ≡ Some r
true_is true q r h = h
true_is false q r h = absurd (cc h)

record_is : (p : List CVar → Bool) (o : Option (List CVar)) (q r : CTy)
    → option_and_then (λ (fields : List CVar). where_true (p fields) (Some q)) o ≡ Some r → Some q ≡ Some r
record_is p None q r h = absurd (cc h)
record_is p (Some fields) q r h = true_is (p fields) (Some q) r h

in_order : (a b c d : Bool) → (a && b && c && d) ≡ true → a ≡ true
in_order true b c d h = refl
in_order false b c d h = absurd (cc h)

-- ---- scalars

scalars_shaped : (ds : List CDef) → types_are_built_in_order ds ≡ true → (c : CScalar) → IsSome (shape_of ds (ty.Scalar c))
scalars_shaped ds t c = shape_of-defined ds t (ty.Scalar c) refl

one_shaped : (ds : List CDef) → types_are_built_in_order ds ≡ true → (o : Option CTy) (f : CScalar → CScalar) (r : CTy)
    → option_map (λ (c : CScalar). ty.Scalar (f c)) (scalar_type o) ≡ Some r → IsSome (shape_of ds r)
one_shaped ds t o f r h =
    let c = mapped_is (scalar_type o) (λ (d : CScalar). ty.Scalar (f d)) r h in
    subst (λ (z : CTy). IsSome (shape_of ds z)) c.2 (scalars_shaped ds t (f c.0))

two_shaped : (ds : List CDef) → types_are_built_in_order ds ≡ true → (o : Option CScalar) (q : Option CTy) (f : CScalar → CScalar → CScalar) (r : CTy)
    → option_and_then (λ (c : CScalar). option_map (λ (d : CScalar). ty.Scalar (f c d)) (scalar_type q)) o ≡ Some r → IsSome (shape_of ds r)
two_shaped ds t None q f r h = absurd (cc h)
two_shaped ds t (Some c) q f r h = one_shaped ds t q (f c) r h

arms_shaped : (ds : List CDef) → types_are_built_in_order ds ≡ true → (a b r : CTy) → IsSome (shape_of ds a) → arms_type a b ≡ Some r → IsSome (shape_of ds r)
arms_shaped ds t (ty.Scalar c) (ty.Scalar d) r g h = same_shaped ds (ty.Scalar (usual c d)) r h (scalars_shaped ds t (usual c d))
arms_shaped ds t (ty.Scalar c) (ty.Struct y) r g h = absurd (cc h)
arms_shaped ds t (ty.Scalar c) (ty.Array y n) r g h = absurd (cc h)
arms_shaped ds t (ty.Struct x) b r g h = subst (λ (z : CTy). IsSome (shape_of ds z)) (one_of (is_same_type (ty.Struct x) b) (ty.Struct x) r h) g
arms_shaped ds t (ty.Array x n) b r g h = subst (λ (z : CTy). IsSome (shape_of ds z)) (one_of (is_same_type (ty.Array x n) b) (ty.Array x n) r h) g

-- ---- members

each_shaped : (ds : List CDef) (fields : List CVar) (ss : Shapes) → shapes_of_fields (shape_within (length ds) ds) fields ≡ Some ss
    → list_all (λ (f : CVar). is_some (shape_of ds f.ty)) fields ≡ true
each_shaped ds [] ss e = refl
each_shaped ds (f ∷ fields) ss e =
    let p = fields_split (shape_within (length ds) ds f.ty) (shapes_of_fields (shape_within (length ds) ds) fields) ss e in
    let next : length ds + 1 ≡ suc (length ds) = omega arith in
    let whole : shape_of ds f.ty ≡ Some p.one = ap (λ (n : ℕ). shape_within n ds f.ty) next ∙ next_keeps (length ds) ds f.ty p.one p.one_is in
    both_pass (is_some (shape_of ds f.ty)) (list_all (λ (g : CVar). is_some (shape_of ds g.ty)) fields) (ap is_some whole) (each_shaped ds fields p.others p.others_are)

fields_shaped : (ds : List CDef) (y x : List ℕ) (o : Option (List CVar)) (f : CVar) → fields_of ds y ≡ o → IsSome (shape_of ds (ty.Struct y))
    → var_of (option_map_or (λ (fields : List CVar). fields) o []) x ≡ Some f → IsSome (shape_of ds f.ty)
fields_shaped ds y x None f e h g = absurd (cc g)
fields_shaped ds y x (Some fields) f e h g =
    let s = found (shape_of ds (ty.Struct y)) h in
    let ss = members_shaped ds y fields s.0 e s.1 in
    found_passes (λ (z : CVar). is_same x z.name) (λ (z : CVar). is_some (shape_of ds z.ty)) fields f (each_shaped ds fields ss.0 ss.1) g

member_shaped : (ds : List CDef) (o : Option CTy) (y x : List ℕ) (f : CVar) → o ≡ Some (ty.Struct y) → IsSome (shape_of ds (ty.Struct y))
    → var_of (fields_in ds o) x ≡ Some f → IsSome (shape_of ds f.ty)
member_shaped ds None y x f e h g = absurd (cc e)
member_shaped ds (Some (ty.Scalar c)) y x f e h g = absurd (cc e)
member_shaped ds (Some (ty.Array z n)) y x f e h g = absurd (cc e)
member_shaped ds (Some (ty.Struct z)) y x f e h g =
    let same : y ≡ z = cc e in
    fields_shaped ds z x (fields_of ds z) f refl (subst (λ (b : List ℕ). IsSome (shape_of ds (ty.Struct b))) same h) g

-- ---- expressions

pub ordered : (u : CUnit) → IsTrue (types_come_first u) → types_are_built_in_order u.types ≡ true
ordered u t =
    in_order (types_are_built_in_order u.types) (list_all (λ (x : CVar). is_defined u.types x.ty) u.externs) (list_all (λ (p : CProto). list_all (is_defined u.types) p.params) u.handlers)
    (list_all (λ (r : CRing). is_defined u.types r.ty) u.rings) t

ring_shaped : (u : CUnit) → IsTrue (types_come_first u) → (x : List ℕ) (r : CTy) → option_map (λ (z : CRing). z.ty) (ring_of u x) ≡ Some r
    → IsSome (shape_of u.types r)
ring_shaped u t x r h =
    let v = mapped_is (ring_of u x) (λ (z : CRing). z.ty) r h in
    subst (λ (z : CTy). IsSome (shape_of u.types z)) v.2 (found_passes (λ (z : CRing). is_same x z.name) (λ (z : CRing). is_some (shape_of u.types z.ty)) u.rings v.0 (rings_shaped u t) v.1)

pub type_shaped : (u : CUnit) → IsTrue (types_come_first u) → (e : Expr) (r : CTy) → Good u (parts_of e) → type_of u e ≡ Some r → IsSome (shape_of u.types r)
type_shaped u t (lit c n) r g h = same_shaped u.types (ty.Scalar (literal_type c)) r h (scalars_shaped u.types (ordered u t) (literal_type c))
type_shaped u t yes r g h = same_shaped u.types (ty.Scalar scalars.I32) r h (scalars_shaped u.types (ordered u t) scalars.I32)
type_shaped u t no r g h = same_shaped u.types (ty.Scalar scalars.I32) r h (scalars_shaped u.types (ordered u t) scalars.I32)
type_shaped u t (head x) r g h = same_shaped u.types (ty.Scalar scalars.U32) r h (scalars_shaped u.types (ordered u t) scalars.U32)
type_shaped u t (copy x) r g h =
    let v = mapped_is (var_of u.externs x) (λ (z : CVar). z.ty) r h in
    subst (λ (z : CTy). IsSome (shape_of u.types z)) v.2 (found_passes (λ (z : CVar). is_same x z.name) (λ (z : CVar). is_some (shape_of u.types z.ty)) u.externs v.0 (externs_shaped u t) v.1)
type_shaped u t (cell x) r g h = ring_shaped u t x r h
type_shaped u t (ring_at x a) r g h = ring_shaped u t x r (where_there (type_of u a) (option_map (λ (z : CRing). z.ty) (ring_of u x)) r h).1
type_shaped u t (un op a) r g h = one_shaped u.types (ordered u t) (type_of u a) (unary_type op) r h
type_shaped u t (bin op a b) r g h = two_shaped u.types (ordered u t) (scalar_type (type_of u a)) (type_of u b) (binary_type op) r h
type_shaped u t (choose q a b) r g h =
    let all : Good u (parts_of q ++ (parts_of a ++ parts_of b)) = record { ranges = g.ranges; there = g.there } in
    let one = left_good u (parts_of a) (parts_of b) (right_good u (parts_of q) (parts_of a ++ parts_of b) all) in
    let arms = arms_there (type_of u a) (type_of u b) r (where_there (type_of u q) (arms_type_of (type_of u a) (type_of u b)) r h).1 in
    arms_shaped u.types (ordered u t) arms.0 arms.1 r (type_shaped u t a arms.0 one arms.2) arms.4
type_shaped u t (cast to a) r g h =
    same_shaped u.types (ty.Scalar to) r (where_there (type_of u a) (Some (ty.Scalar to)) r h).1 (scalars_shaped u.types (ordered u t) to)
type_shaped u t (field a x) r g h =
    let f = mapped_is (var_of (fields_in u.types (type_of u a)) x) (λ (z : CVar). z.ty) r h in
    let y = struct_there u.types (type_of u a) x f.0 f.1 in
    let inner = inner_good u (is_some (var_of (fields_in u.types (type_of u a)) x)) (parts_of a) g.ranges g.there in
    subst (λ (z : CTy). IsSome (shape_of u.types z)) f.2 (member_shaped u.types (type_of u a) y.0 x f.0 y.1 (type_shaped u t a (ty.Struct y.0) inner y.1) f.1)
type_shaped u t (pick x n a i) r g h =
    let defined = left_passes (is_defined u.types (ty.Array x n)) (list_all (is_there u) (parts_of a ++ parts_of i)) g.there in
    let c = same_there (type_of u a) (ty.Array x n) (where_scalar (type_of u i) (Some (elem_type x))) r h in
    same_shaped u.types (elem_type x) r (where_there (type_of u i) (Some (elem_type x)) r c.1).1
    (shaped-element (length u.types + 1) u.types x n (shape_of-defined u.types (ordered u t) (ty.Array x n) defined))
type_shaped u t (arr x n all) r g h =
    let defined = left_passes (is_defined u.types (ty.Array x n)) (list_all (is_there u) (parts_of_all all)) g.there in
    same_shaped u.types (ty.Array x n) r (true_is (fit_elements (types_of u all) n (elem_type x)) (Some (ty.Array x n)) r h) (shape_of-defined u.types (ordered u t) (ty.Array x n) defined)
type_shaped u t (rec x all) r g h =
    let defined = left_passes (is_defined u.types (ty.Struct x)) (list_all (is_there u) (parts_of_all all)) g.there in
    same_shaped u.types (ty.Struct x) r (record_is (fit_members (types_of u all)) (fields_of u.types x) (ty.Struct x) r h) (shape_of-defined u.types (ordered u t) (ty.Struct x) defined)
