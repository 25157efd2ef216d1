-- An expression has at most one type.
use Rattle.std.proofs.Common.{◌≡◌, ℕ, List, Some, sym, ap, ◌∙◌}
use Rattle.std.specs.Prelude.{slice_get, Option}
use Rattle.stream_types.specs.declared.scalar.Ty.{Ty}
use Rattle.stream_types.specs.declared.scalar.Ty.TheVariants as ty
use Rattle.stream_types.specs.declared.types.Field.{Field}
use Rattle.stream_types.specs.declared.types.TypeEntry.{TypeEntry}
use Rattle.stream_types.specs.declared.types.TypeEntry.TheVariants as entry
use Rattle.stream_core.specs.Term.{Term, lit, extern, stream, def, named, missing, dropped, un, bin, shift, cast, and, or, implies, choose, index, field, array, struct, abs, sign, majority, agreed, lib}
use Rattle.stream_core.specs.Signature.{Signature, StreamSignature}
use Rattle.stream_core.specs.WellTyped.{HasType, IsArrayOf, IsStructOf, HasMember}

-- two readings of one place
same_some : {X : Type 0} (o : Option X) (a b : X) → o ≡ Some a → o ≡ Some b → a ≡ b
same_some o a b p q = let e : Some a ≡ Some b = sym p ∙ q in cc

same_elem : (types : List TypeEntry) (of t u : Ty) (n m : ℕ) → IsArrayOf types of t n → IsArrayOf types of u m → t ≡ u
same_elem types (ty.Array i) t u n m p q = let e : Some (entry.Array t n) ≡ Some (entry.Array u m) = sym p ∙ q in cc
same_elem types (ty.Scalar c) t u n m p q = absurd p
same_elem types (ty.Struct i) t u n m p q = absurd p

same_fields : (types : List TypeEntry) (of : Ty) (fs gs : List Field) → IsStructOf types of fs → IsStructOf types of gs → fs ≡ gs
same_fields types (ty.Struct i) fs gs p q = let e : Some (entry.Struct p.0 fs) ≡ Some (entry.Struct q.0 gs) = sym p.1 ∙ q.1 in cc
same_fields types (ty.Scalar c) fs gs p q = absurd p
same_fields types (ty.Array i) fs gs p q = absurd p

same_member : (types : List TypeEntry) (of : Ty) (k : ℕ) (t u : Ty) → HasMember types of k t → HasMember types of k u → t ≡ u
same_member types of k t u p q =
    let fs = same_fields types of p.fields q.fields p.struct_is q.struct_is in
    let m = same_some (slice_get q.fields k) p.member q.member (ap (λ (f : List Field). slice_get f k) (sym fs) ∙ p.is) q.is in
    sym p.type_is ∙ ap (λ (f : Field). f.ty) m ∙ q.type_is

pub one_type : (sig : Signature) (e : Term) (t u : Ty) → HasType sig e t → HasType sig e u → t ≡ u
one_type sig (lit c w) t u p q = p.1 ∙ sym q.1
one_type sig (extern x) t u p q = same_some (slice_get sig.externs x) t u p q
one_type sig (stream x) t u p q = sym p.type_is ∙ ap (λ (i : StreamSignature). i.ty) (same_some (slice_get sig.streams x) p.stream q.stream p.is q.is) ∙ q.type_is
one_type sig (dropped x k) t u p q = sym p.type_is ∙ ap (λ (i : StreamSignature). i.ty) (same_some (slice_get sig.streams x) p.stream q.stream p.is q.is) ∙ q.type_is
one_type sig (def d) t u p q = same_some (slice_get sig.defs d) t u p q
one_type sig (named d a) t u p q = one_type sig a t u p.1 q.1
one_type sig missing t u p q = absurd p
one_type sig (un o c a) t u p q = p.2 ∙ sym q.2
one_type sig (bin o c a b) t u p q = p.3 ∙ sym q.3
one_type sig (shift d c a cs n) t u p q = p.3 ∙ sym q.3
one_type sig (cast from to a) t u p q = p.2 ∙ sym q.2
one_type sig (and a b) t u p q = p.2 ∙ sym q.2
one_type sig (or a b) t u p q = p.2 ∙ sym q.2
one_type sig (implies a b) t u p q = p.2 ∙ sym q.2
one_type sig (choose c a b) t u p q = one_type sig a t u p.1 q.1
one_type sig (index of a i) t u p q = same_elem sig.types of t u p.0 q.0 p.1 q.1
one_type sig (field of k a) t u p q = same_member sig.types of k t u p.0 q.0
one_type sig (array of es) t u p q = p.4 ∙ sym q.4
one_type sig (struct of es) t u p q = p.3 ∙ sym q.3
one_type sig (abs c a) t u p q = p.2 ∙ sym q.2
one_type sig (sign c a) t u p q = p.2 ∙ sym q.2
one_type sig (majority c es) t u p q = p.2 ∙ sym q.2
one_type sig (agreed c es) t u p q = p.2 ∙ sym q.2
one_type sig (lib k form es) t u p q = p.2 ∙ sym q.2
