-- The new program, and the types of its expressions.
use Rattle.std.proofs.Common.{◌≡◌, ℕ, Bool, true, false, List, map, Option, Some, refl, sym, ap, ◌∙◌}
use Rattle.std.specs.Prelude.{if◌then◌else◌}
use Rattle.std.specs.Option.{option_map, option_and_then}
use Rattle.c99_tree.specs.declared.types.CScalar.{CScalar}
use Rattle.c99_tree.specs.declared.types.CTy.{CTy}
use Rattle.c99_tree.specs.declared.types.CTy.TheVariants as ty
use Rattle.c99_tree.specs.declared.types.CVar.{CVar}
use Rattle.c99_tree.specs.declared.unit.CRing.{CRing}
use Rattle.c99_tree.specs.declared.unit.CStmt.{CStmt}
use Rattle.c99_tree.specs.declared.unit.Unit.{Unit as CUnit}
use Rattle.c99_tree.specs.Tree.{Expr, Exprs, lit, yes, no, copy, head, cell, ring_at, un, bin, choose, cast, field, pick, arr, rec, none, more}
use Rattle.c99_tree.specs.Words.{elem_type}
use Rattle.c99_tree.specs.Lookup.{fields_of, var_of, ring_of, place_of_ring}
use Rattle.c99_tree.specs.Typing.{type_of, types_of, scalar_type, unary_type, binary_type, where_scalar, where_true, fields_in, fit_elements, fit_members}
use Rattle.migration.specs.Migration.{names_old, is_old_place, renewed, renewed_all, renewed_ring, IsRenewed}
use Rattle.migration.proofs.Rings.{place_kept, found_kept, type_or_none}
use Rattle.migration.proofs.Places.{place_is, old_place}
use Rattle.migration.proofs.AsOfOld.{ReadsOfOld, AllReadOfOld, subscript_reads, subscript_is, left_reads, right_reads, asked_reads, then_reads, else_reads, here_reads, others_read}

-- a program of the old one's types, externs and handlers, and of its rings without the indices
abbrev pub made : CUnit → List ℕ → ℕ → ℕ → List CStmt → CUnit
made u name bytes need step =
    record {
      name = name;
      types = u.types;
      storage = bytes;
      need = need;
      externs = u.externs;
      handlers = u.handlers;
      rings = map renewed_ring u.rings;
      step =
          step;
    }

record_of : (v : CUnit) → v ≡ record {
  name = v.name;
  types = v.types;
  storage = v.storage;
  need = v.need;
  externs = v.externs;
  handlers = v.handlers;
  rings =
      v.rings;
  step = v.step;
}
record_of v = refl

pub is_made : (u v : CUnit) (name : List ℕ) → IsRenewed u name v → v ≡ made u name v.storage v.need v.step
is_made u v name is = let n = is.named in let t = is.types in let x = is.externs in let h = is.handlers in let r = is.rings in record_of v ∙ cc (n, t, x, h, r)

-- the type of such a ring's subscript
place_scalar : (u : CUnit) (r : List ℕ) (a : Expr) (t : Option CTy) → is_old_place r a ≡ true → where_scalar (type_of u a) t ≡ t
place_scalar u r a t h = let p = place_is r a h in let same : a ≡ old_place r p.0 = p.1 in rw same refl

module _ (u : CUnit) (name : List ℕ) (bytes need : ℕ) (step : List CStmt) where
  pub new_place : (x : List ℕ) → place_of_ring (made u name bytes need step) x ≡ place_of_ring u x
  new_place x = place_kept x u.rings

  pub new_ring : (x : List ℕ) → ring_of (made u name bytes need step) x ≡ option_map renewed_ring (ring_of u x)
  new_ring x = found_kept x u.rings

  pub new_ring_type : (x : List ℕ) → option_map (λ (r : CRing). r.ty) (ring_of (made u name bytes need step) x) ≡ option_map (λ (r : CRing). r.ty) (ring_of u x)
  new_ring_type x = ap (option_map (λ (r : CRing). r.ty)) (new_ring x) ∙ type_or_none (ring_of u x)

  element_type : (r : List ℕ) (a : Expr) (b : Bool) → names_old u r ≡ b → ReadsOfOld u (ring_at r a)
      → (ReadsOfOld u a → type_of (made u name bytes need step) (renewed u a) ≡ type_of u a)
      → type_of (made u name bytes need step) (if b then cell r else ring_at r (renewed u a)) ≡ type_of u (ring_at r a)
  element_type r a true e h inner = new_ring_type r ∙ sym (place_scalar u r a (option_map (λ (z : CRing). z.ty) (ring_of u r)) (subscript_is u r a e h))
  element_type r a false e h inner = let part = inner (subscript_reads u r a e h) in let own = new_ring_type r in cc (part, own)

  mutual
    pub new_type : (e : Expr) → ReadsOfOld u e → type_of (made u name bytes need step) (renewed u e) ≡ type_of u e
    new_type (lit k n) h = refl
    new_type yes h = refl
    new_type no h = refl
    new_type (copy x) h = refl
    new_type (head r) h = refl
    new_type (cell r) h = new_ring_type r
    new_type (ring_at r a) h = element_type r a (names_old u r) refl h (λ g. new_type a g)
    new_type (un op a) h = ap (λ (o : Option CTy). option_map (λ (s : CScalar). ty.Scalar (unary_type op s)) (scalar_type o)) (new_type a h)
    new_type (bin op a b) h =
        let left = new_type a (left_reads u a b h) in let right = new_type b (right_reads u a b h) in
        ap (λ (o : Option CTy). option_and_then (λ (s : CScalar). option_map (λ (t : CScalar). ty.Scalar (binary_type op s t)) (scalar_type o))
        (scalar_type (type_of (made u name bytes need step) (renewed u a)))) right
        ∙ ap (λ (o : Option CTy). option_and_then (λ (s : CScalar). option_map (λ (t : CScalar). ty.Scalar (binary_type op s t)) (scalar_type (type_of u b)))
        (scalar_type o)) left
    new_type (choose c a b) h =
        let asked = new_type c (asked_reads u c a b h) in let first = new_type a (then_reads u c a b h) in let second = new_type b (else_reads u c a b h) in
        cc (asked, first, second)
    new_type (cast t a) h = ap (λ (o : Option CTy). where_scalar o (Some (ty.Scalar t))) (new_type a h)
    new_type (field a x) h = ap (λ (o : Option CTy). option_map (λ (v : CVar). v.ty) (var_of (fields_in u.types o) x)) (new_type a h)
    new_type (pick x n a i) h =
        let of = new_type a (left_reads u a i h) in let at = new_type i (right_reads u a i h) in
        cc (of, at)
    new_type (arr x n all) h = ap (λ (ts : List (Option CTy)). where_true (fit_elements ts n (elem_type x)) (Some (ty.Array x n))) (new_types all h)
    new_type (rec x all) h =
        ap (λ (ts : List (Option CTy)). option_and_then (λ (fields : List CVar). where_true (fit_members ts fields) (Some (ty.Struct x))) (fields_of u.types
        x)) (new_types all h)

    pub new_types : (es : Exprs) → AllReadOfOld u es → types_of (made u name bytes need step) (renewed_all u es) ≡ types_of u es
    new_types none h = refl
    new_types (more e es) h = let first = new_type e (here_reads u e es h) in let rest = new_types es (others_read u e es h) in cc (first, rest)
