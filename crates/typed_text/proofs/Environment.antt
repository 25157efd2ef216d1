-- What is known at each place of a text without a fault, whose streams keep as many values as they begin with.
use Rattle.std.proofs.Common.{◌≡◌, ℕ, suc, ◌+◌, ◌<◌, ◌≤◌, Bool, true, false, List, [], ◌∷◌, map, length, refl, sym, ap, ◌∙◌, subst, arith, inl, inr}
use Rattle.std.specs.Prelude.{if◌then◌else◌, bytes_eq, is_some, slice_get, Option, Some, None, IsTrue}
use Rattle.std.specs.List.{AllByRecursion}
use Rattle.std.specs.Cmp.Lexicographic.{nat_list_eq_equiv}
use Rattle.stream_types.specs.declared.scalar.Ty.{Ty}
use Rattle.stream_core.specs.declared.spec.ExternItem.{ExternItem}
use Rattle.stream_core.specs.Term as t
use Rattle.stream_core.specs.Term.{Term, TreeDef}
use Rattle.stream_core.specs.Signature.{Signature, StreamSignature}
use Rattle.stream_core.specs.WellTyped.{HasType}
use Rattle.spec_text.specs.declared.surface.TypeForm.{TypeForm}
use Rattle.spec_text.specs.declared.surface.Decl.{Decl}
use Rattle.spec_text.specs.declared.surface.Decl.TheVariants as d
use Rattle.spec_text.specs.declared.surface.Expr.{Expr}
use Rattle.spec_text.specs.declared.surface.Surface.{Surface}
use Rattle.spec_text.specs.KeepsTable.{KeepsTable, keeps_expr}
use Rattle.type_check.specs.NamedType.{NamedType, Declarations, Struct, struct_in}
use Rattle.type_check.specs.Judged.{Judged, Scope, type_of, judge_form, judge_expr, Named, extern_of, stream_of, def_of, named_in, declared}
use Rattle.type_check.specs.Names.{name_fault}
use Rattle.type_check.specs.Untyped.{scope_of, all_of, untyped}
use Rattle.type_check.specs.TypeOrder.{Event, events, type_order, ty_of, types_of_text}
use Rattle.typed_text.specs.ReadSpec.{Numbers, Read, numbers_of, extern_names, stream_names, def_names, is_in, number_in, name_term, read_expr}
use Rattle.typed_text.proofs.Sound.{AllMet, IsNamed, kept_values, IsPlace, IsSound}
use Rattle.typed_text.proofs.Judging.{judged_same}
use Rattle.typed_text.proofs.Expressions.{expr_sound}
use Rattle.typed_text.proofs.Order.{entered}
use Rattle.typed_text.proofs.Names.{one_if, times, observer_names, item_names, by_kinds, declared_once}
use Rattle.typed_text.proofs.Places.{EachDecl, IsDecl, each_decl}
use Rattle.typed_text.proofs.Items.{IsHere, IsAt, IsFoundAt, found_name, found_at, HasDeclared, declared_here, kind_names, kind_at, item_at, in_names, not_in_names, number_here, number_later, not_here, fewer, externs_from, defs_from, extern_number, def_number, members_typed}

-- ---- streams, with as many values as they begin with

abbrev pub named_ty : Numbers → Named → Ty
named_ty numbers n = ty_of numbers.order (type_of (declared n))

abbrev pub stream_signatures : Numbers → Declarations → List Decl → List StreamSignature
stream_signatures numbers before [] = []
stream_signatures numbers before (d.Stream at x ty init e ∷ ys) = record { ty = named_ty numbers (stream_of before ty (length init)); count = length init } ∷ stream_signatures numbers (d.Stream at x ty init e ∷ before) ys
stream_signatures numbers before (y ∷ ys) = stream_signatures numbers (y ∷ before) ys

abbrev kept_signature : Numbers → Named → StreamSignature
kept_signature numbers n = record { ty = named_ty numbers n; count = kept_values n }

stream_kept : (numbers : Numbers) (x : List ℕ) (n : Named) (ds : Declarations) (ty : TypeForm) (c : ℕ) → n ≡ stream_of ds ty c → (before : Declarations) (ys : List Decl) → times x (item_names ys) ≤ 1 → IsAt x n before ys
    → slice_get (stream_signatures numbers before ys) (number_in (stream_names ys) x) ≡ Some (kept_signature numbers n)
stream_kept numbers x n ds ty c e before [] o h = absurd h
stream_kept numbers x n ds ty c e before (d.Struct at z fields ∷ ys) o (inl h) = absurd h
stream_kept numbers x n ds ty c e before (d.Struct at z fields ∷ ys) o (inr h) = stream_kept numbers x n ds ty c e (d.Struct at z fields ∷ before) ys o h
stream_kept numbers x n ds ty c e before (d.Trigger at z guard args ∷ ys) o (inl h) = absurd h
stream_kept numbers x n ds ty c e before (d.Trigger at z guard args ∷ ys) o (inr h) = stream_kept numbers x n ds ty c e (d.Trigger at z guard args ∷ before) ys o h
stream_kept numbers x n ds ty c e before (d.Observer at z v ∷ ys) o (inl h) = absurd h
stream_kept numbers x n ds ty c e before (d.Observer at z v ∷ ys) o (inr h) = stream_kept numbers x n ds ty c e (d.Observer at z v ∷ before) ys (fewer (bytes_eq x z.name) (times x (item_names ys)) o) h
stream_kept numbers x n ds ty c e before (d.Extern at z f ∷ ys) o (inl h) = absurd (let g = sym e ∙ h.1 in cc)
stream_kept numbers x n ds ty c e before (d.Extern at z f ∷ ys) o (inr h) = stream_kept numbers x n ds ty c e (d.Extern at z f ∷ before) ys (fewer (bytes_eq x z.name) (times x (item_names ys)) o) h
stream_kept numbers x n ds ty c e before (d.Def at z f v ∷ ys) o (inl h) = absurd (let g = sym e ∙ h.1 in cc)
stream_kept numbers x n ds ty c e before (d.Def at z f v ∷ ys) o (inr h) = stream_kept numbers x n ds ty c e (d.Def at z f v ∷ before) ys (fewer (bytes_eq x z.name) (times x (item_names ys)) o) h
stream_kept numbers x n ds ty c e before (d.Stream at z f init v ∷ ys) o (inl h) =
    number_here x z.name (stream_names ys) (kept_signature numbers (stream_of before f (length init))) (stream_signatures numbers (d.Stream at z f init v ∷ before) ys) h.0
    ∙ ap (λ m. Some (kept_signature numbers m)) (sym h.1)
stream_kept numbers x n ds ty c e before (d.Stream at z f init v ∷ ys) o (inr h) =
    number_later x z.name (stream_names ys) (kept_signature numbers n) (kept_signature numbers (stream_of before f (length init))) (stream_signatures numbers (d.Stream at z f init v ∷ before) ys)
    (not_here (bytes_eq x z.name) (times x (item_names ys)) o (item_at x n (d.Stream at z f init v ∷ before) ys h))
    (stream_kept numbers x n ds ty c e (d.Stream at z f init v ∷ before) ys (fewer (bytes_eq x z.name) (times x (item_names ys)) o) h)

-- what typing reads of the text
abbrev pub kept_signatures : Surface → Signature
kept_signatures s = record {
  types = types_of_text s;
  externs = map (λ (x : ExternItem). x.ty) (externs_from (numbers_of s) (all_of s) (types_of_text s) [] 0 s.decls);
  streams = stream_signatures (numbers_of s) [] s.decls;
  defs = map (λ (x : TreeDef). x.ty) (defs_from (numbers_of s) (all_of s) (types_of_text s) [] 0 s.decls);
}

-- a text that keeps the table and has no fault
pub record IsSoundText (s : Surface) : Type 0 where
  pub keeps : KeepsTable s
  pub names : name_fault s ≡ None
  pub typed : untyped s ≡ None

-- ---- names

none_left : (a b c e : ℕ) → a + b + c + e ≤ 1 → 1 ≤ b → a ≡ 0
none_left a b c e h k = omega (arith, h, k)

named_in_text : (s : Surface) → IsSoundText s → (x : List ℕ) (n : Named) → named_in (all_of s) x ≡ Some n → IsNamed (numbers_of s) (all_of s) (kept_signatures s) x n
named_in_text s h x n e = by n refl
  where
    at : IsAt x n [] s.decls
    at = found_name s x n e

    once : times x (item_names s.decls) ≤ 1
    once = declared_once s h.names x

    kinds : times x (extern_names s.decls) + times x (stream_names s.decls) + times x (def_names s.decls) + times x (observer_names s.decls) ≤ 1
    kinds = subst (λ i. i ≤ 1) (by_kinds x s.decls) once

    typed : HasDeclared (all_of s) n
    typed = let f = found_at (IsDecl s) x n [] s.decls (each_decl s h.keeps h.names h.typed) at in declared_here s f.before f.decl x n f.known f.here

    numbers : Numbers
    numbers = numbers_of s

    many : (m : Named) → n ≡ m → 1 ≤ times x (kind_names m s.decls)
    many m f = subst (λ k. 1 ≤ times x (kind_names k s.decls)) f (kind_at x n [] s.decls at)

    by : (m : Named) → n ≡ m → IsNamed (numbers_of s) (all_of s) (kept_signatures s) x n
    by (extern_of ds ty) f =
        let there = in_names x (extern_names s.decls) (many (extern_of ds ty) f) in
        let term : name_term (numbers_of s) x ≡ t.extern (number_in (extern_names s.decls) x) = ap (λ b. if b then t.extern (number_in (extern_names s.decls) x) else if is_in (stream_names s.decls) x then t.stream (number_in (stream_names s.decls) x) else t.def (number_in (def_names s.decls) x)) there in
        record {
          there = typed.there;
          well = typed.well;
          name = subst (λ u. HasType (kept_signatures s) u (named_ty (numbers_of s) n)) (sym term) (extern_number (numbers_of s) (all_of s) (types_of_text s) x n ds ty f [] 0 s.decls once at);
          drops = λ k low. absurd (let z : k < 0 = subst (λ m. k < kept_values m) f low in omega (arith, z));
        }
    by (stream_of ds ty c) f =
        let there = in_names x (stream_names s.decls) (many (stream_of ds ty c) f) in
        let low = many (stream_of ds ty c) f in
        let apart = not_in_names x (extern_names s.decls) (none_left (times x (extern_names s.decls)) (times x (stream_names s.decls)) (times x (def_names s.decls)) (times x (observer_names s.decls)) kinds low) in
        let term : name_term (numbers_of s) x ≡ t.stream (number_in (stream_names s.decls) x) =
        ap (λ b. if b then t.extern (number_in (extern_names s.decls) x) else if is_in (stream_names s.decls) x then t.stream (number_in (stream_names s.decls) x) else t.def (number_in (def_names s.decls) x)) apart
        ∙ ap (λ b. if b then t.stream (number_in (stream_names s.decls) x) else t.def (number_in (def_names s.decls) x)) there in
        let kept = stream_kept (numbers_of s) x n ds ty c f [] s.decls once at in
        record {
          there = typed.there;
          well = typed.well;
          name = subst (λ u. HasType (kept_signatures s) u (named_ty (numbers_of s) n)) (sym term) (record { stream = kept_signature (numbers_of s) n; is = kept; type_is = refl });
          drops = λ k few. record { stream = kept_signature (numbers_of s) n; is = kept; type_is = refl; within = few };
        }
    by (def_of ds ty) f =
        let low = many (def_of ds ty) f in
        let a = times x (extern_names s.decls) in
        let b = times x (stream_names s.decls) in
        let c = times x (def_names s.decls) in
        let o = times x (observer_names s.decls) in
        let no_extern = not_in_names x (extern_names s.decls) (let z : a ≡ 0 = omega (arith, kinds, low) in z) in
        let no_stream = not_in_names x (stream_names s.decls) (let z : b ≡ 0 = omega (arith, kinds, low) in z) in
        let term : name_term (numbers_of s) x ≡ t.def (number_in (def_names s.decls) x) =
        ap (λ b. if b then t.extern (number_in (extern_names s.decls) x) else if is_in (stream_names s.decls) x then t.stream (number_in (stream_names s.decls) x) else t.def (number_in (def_names s.decls) x)) no_extern
        ∙ ap (λ b. if b then t.stream (number_in (stream_names s.decls) x) else t.def (number_in (def_names s.decls) x)) no_stream in
        record {
          there = typed.there;
          well = typed.well;
          name = subst (λ u. HasType (kept_signatures s) u (named_ty (numbers_of s) n)) (sym term) (def_number (numbers_of s) (all_of s) (types_of_text s) x n ds ty f [] 0 s.decls once at);
          drops = λ k few. absurd (let z : k < 0 = subst (λ m. k < kept_values m) f few in omega (arith, z));
        }

-- ---- places

pub place_of : (s : Surface) → IsSoundText s → (before : Declarations) (x : Decl) → IsDecl s before x → IsPlace (numbers_of s) (scope_of before (all_of s)) (events s) (kept_signatures s)
place_of s h before x k = record {
  entered = entered s;
  names = named_in_text s h;
  structs = k.same;
  members = λ y st e. members_typed s y st (each_decl s h.keeps h.names h.typed) e;
}

-- An expression without a fault at a place of the text is read as a well typed tree.
pub expr_at : (s : Surface) → IsSoundText s → (before : Declarations) (x : Decl) → IsDecl s before x → (e : Expr) → keeps_expr e ≡ true → (judge_expr (scope_of before (all_of s)) e).fault ≡ None → AllMet (events s) (judge_expr (scope_of before (all_of s)) e).types
    → IsSound (type_order s) (all_of s) (kept_signatures s) (read_expr (numbers_of s) (scope_of before (all_of s)) e)
expr_at s h before x k e keeps f m =
    let same = judged_same (numbers_of s) (scope_of before (all_of s)) e in
    expr_sound (numbers_of s) (scope_of before (all_of s)) (events s) (kept_signatures s) (place_of s h before x k) e keeps (ap (λ (j : Judged). j.fault) same ∙ f) (subst (λ (j : Judged). AllMet (events s) j.types) (sym same) m)
