-- The shape of a type stays when more types may stand one in another, and each type of a well formed program has one.
use Rattle.std.proofs.Common.{◌≡◌, ℕ, zero, suc, ◌+◌, List, [], ◌∷◌, length, Option, Some, None, refl, sym, ap, ◌∙◌, arith}
use Rattle.std.specs.Option.{option_map, option_and_then}
use Rattle.c99_tree.specs.declared.types.CTy.{CTy}
use Rattle.c99_tree.specs.declared.types.CTy.TheVariants as ty
use Rattle.c99_tree.specs.declared.types.CVar.{CVar}
use Rattle.c99_tree.specs.declared.types.CDef.{CDef}
use Rattle.c99_tree.specs.Words.{elem_type}
use Rattle.c99_tree.specs.Lookup.{fields_of}
use Rattle.c99_tree.specs.Values.{Shape, Shapes, members, elements, and_shape, shapes_of_fields, shape_of_element, shape_over, shape_within, shape_of}
use Rattle.c99_tree.proofs.Shapes.{shape_within-suc, shape_within-zero}
use Rattle.c99_tree.proofs.TypedShapes.{fields_split}

-- what has a shape by the one has it by the other
abbrev Keeps : (CTy → Option Shape) → (CTy → Option Shape) → Type 0
Keeps f g = (r : CTy) (s : Shape) → f r ≡ Some s → g r ≡ Some s

first_and : (a : Shape) (b : Shapes) (o : Option Shape) (p : Option Shapes) → o ≡ Some a → p ≡ Some b
    → option_and_then (λ (x : Shape). option_map (and_shape x) p) o ≡ Some (and_shape a b)
first_and a b o p e h = rw (e, h) refl

fields_keep : (f g : CTy → Option Shape) → Keeps f g → (fields : List CVar) (ss : Shapes) → shapes_of_fields f fields ≡ Some ss
    → shapes_of_fields g fields ≡ Some ss
fields_keep f g m [] ss e = e
fields_keep f g m (x ∷ xs) ss e =
    let p = fields_split (f x.ty) (shapes_of_fields f xs) ss e in
    first_and p.one p.others (g x.ty) (shapes_of_fields g xs) (m x.ty p.one p.one_is) (fields_keep f g m xs p.others p.others_are) ∙ ap (λ (z : Shapes). Some z) p.both

members_keep : (f g : CTy → Option Shape) → Keeps f g → (fields : List CVar) (o : Option Shapes) (s : Shape) → shapes_of_fields f fields ≡ o
    → option_map members o ≡ Some s → option_map members (shapes_of_fields g fields) ≡ Some s
members_keep f g m fields None s e h = absurd (cc h)
members_keep f g m fields (Some ss) s e h = ap (option_map members) (fields_keep f g m fields ss e) ∙ h

struct_keeps : (f g : CTy → Option Shape) → Keeps f g → (o : Option (List CVar)) (s : Shape)
    → option_and_then (λ (fields : List CVar). option_map members (shapes_of_fields f fields)) o ≡ Some s
    → option_and_then (λ (fields : List CVar). option_map members (shapes_of_fields g fields)) o ≡ Some s
struct_keeps f g m None s e = absurd (cc e)
struct_keeps f g m (Some fields) s e = members_keep f g m fields (shapes_of_fields f fields) s refl e

element_keeps : (ds : List CDef) (f g : CTy → Option Shape) → Keeps f g → Keeps (shape_of_element f ds) (shape_of_element g ds)
element_keeps ds f g m (ty.Scalar c) s e = e
element_keeps ds f g m (ty.Struct x) s e = struct_keeps f g m (fields_of ds x) s e
element_keeps ds f g m (ty.Array x n) s e = absurd (cc e)

array_keeps : (ds : List CDef) (f g : CTy → Option Shape) → Keeps f g → (x : List ℕ) (n : ℕ) (o : Option Shape) (s : Shape)
    → shape_of_element f ds (elem_type x) ≡ o → option_map (elements n) o ≡ Some s
    → option_map (elements n) (shape_of_element g ds (elem_type x)) ≡ Some s
array_keeps ds f g m x n None s e h = absurd (cc h)
array_keeps ds f g m x n (Some r) s e h = ap (option_map (elements n)) (element_keeps ds f g m (elem_type x) r e) ∙ h

over_keeps : (ds : List CDef) (f g : CTy → Option Shape) → Keeps f g → Keeps (shape_over f ds) (shape_over g ds)
over_keeps ds f g m (ty.Scalar c) s e = e
over_keeps ds f g m (ty.Struct x) s e = struct_keeps f g m (fields_of ds x) s e
over_keeps ds f g m (ty.Array x n) s e = array_keeps ds f g m x n (shape_of_element f ds (elem_type x)) s refl e

pub next_keeps : (n : ℕ) (ds : List CDef) → Keeps (shape_within n ds) (shape_within (suc n) ds)
next_keeps zero ds r s e = absurd (cc (shape_within-zero ds r, e))
next_keeps (suc n) ds r s e =
    shape_within-suc (suc n) ds r ∙ over_keeps ds (shape_within n ds) (shape_within (suc n) ds) (next_keeps n ds) r s (sym (shape_within-suc n ds r) ∙ e)

-- a member of a struct that has a shape has one
pub members_shaped : (ds : List CDef) (x : List ℕ) (fields : List CVar) (s : Shape) → fields_of ds x ≡ Some fields → shape_of ds (ty.Struct x) ≡ Some s
    → (ss : Shapes) × (shapes_of_fields (shape_within (length ds) ds) fields ≡ Some ss)
members_shaped ds x fields s e h =
    let next : length ds + 1 ≡ suc (length ds) = omega arith in
    let here : shape_within (suc (length ds)) ds (ty.Struct x) ≡ Some s = ap (λ (n : ℕ). shape_within n ds (ty.Struct x)) (sym next) ∙ h in
    let over : shape_over (shape_within (length ds) ds) ds (ty.Struct x) ≡ Some s = sym (shape_within-suc (length ds) ds (ty.Struct x)) ∙ here in
    there fields s (shapes_of_fields (shape_within (length ds) ds) fields) (sym (ap (option_and_then (λ (fs : List CVar). option_map members (shapes_of_fields (shape_within (length ds) ds) fs))) e) ∙ over)
  where
    there : (fs : List CVar) (q : Shape) (o : Option Shapes) → option_map members o ≡ Some q → (ss : Shapes) × (o ≡ Some ss)
    there fs q None g = absurd (cc g)
    there fs q (Some ss) g = (ss, refl)
