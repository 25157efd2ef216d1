-- A stream without a fault: its initial values are words of its type, and its expression has that type.
use Rattle.std.proofs.Common.{◌≡◌, ℕ, suc, ◌≤◌, Bool, true, false, List, [], ◌∷◌, ◌++◌, map, length, refl, sym, ap, ◌∙◌, subst, arith}
use Rattle.std.specs.Prelude.{◌&&◌, is_some, slice_get, Option, Some, None, IsTrue}
use Rattle.std.specs.List.{list_all, list_any, flat_map, AllByRecursion}
use Rattle.std.proofs.lemmas.Bool.{and_parts}
use Rattle.stream_types.specs.declared.scalar.Ty.{Ty}
use Rattle.stream_types.specs.declared.types.TypeEntry.{TypeEntry}
use Rattle.stream_types.specs.Types.{leaves, repeated, AreWords}
use Rattle.stream_types.specs.TypeList.{Stands, IsArrayEntry, IsStructEntry, IsTypeList}
use Rattle.stream_core.specs.Term.{TreeStream, value_count}
use Rattle.stream_core.specs.Signature.{Signature, StreamSignature, stream_signature}
use Rattle.stream_core.proofs.Wide.{counted}
use Rattle.spec_text.specs.declared.surface.NameAt.{NameAt}
use Rattle.spec_text.specs.declared.surface.TypeForm.{TypeForm}
use Rattle.spec_text.specs.declared.surface.ConstForm.{ConstForm}
use Rattle.spec_text.specs.declared.surface.Expr.{Expr}
use Rattle.spec_text.specs.declared.surface.Decl.{Decl}
use Rattle.spec_text.specs.declared.surface.Decl.TheVariants as d
use Rattle.spec_text.specs.declared.surface.Surface.{Surface}
use Rattle.spec_text.specs.Shape.{most_initial}
use Rattle.spec_text.specs.KeepsTable.{all_kept, kept_from, between, keeps_name, keeps_type, keeps_const, keeps_expr}
use Rattle.type_check.specs.declared.fault.TypeFault.TheVariants.{TypeClash}
use Rattle.type_check.specs.NamedType.{NamedType, scalar, struct, array, bool, same_type, Declarations}
use Rattle.type_check.specs.Judged.{Judged, or_else, first_of, all_types, have_types, type_of, types_of, Scope, judge_form, judge_const, judge_expr}
use Rattle.type_check.specs.Untyped.{scope_of, all_of, of_type}
use Rattle.type_check.specs.TypeOrder.{Event, events, type_order, ty_of, types_of_text}
use Rattle.type_check.proofs.Meaning.{same_true}
use Rattle.typed_text.specs.ReadSpec.{Numbers, Read, numbers_of, read_expr, const_words}
use Rattle.typed_text.proofs.Sound.{WellNamed, IsEntered, AllMet, both_none, all_split, IsSound, IsNode, node_of}
use Rattle.typed_text.proofs.Verdicts.{if_has}
use Rattle.typed_text.proofs.Judging.{judged_same}
use Rattle.typed_text.proofs.FormTypes.{IsTyped}
use Rattle.typed_text.proofs.Order.{entered}
use Rattle.typed_text.proofs.Places.{IsDecl}
use Rattle.typed_text.proofs.Constants.{IsConstPlace, IsSoundConst, each_sound, alike_words, const_sound}
use Rattle.typed_text.proofs.Items.{values_of, stream_written}
use Rattle.typed_text.proofs.Environment.{IsSoundText, kept_signatures, expr_at}

-- ---- parts one after another

first_split : (xs ys : List Judged) → first_of (xs ++ ys) ≡ None → (first_of xs ≡ None) × (first_of ys ≡ None)
first_split [] ys h = (refl, h)
first_split (x ∷ xs) ys h =
    let p = both_none x.fault (first_of (xs ++ ys)) h in
    let r = first_split xs ys p.1 in
    (ap (λ o. or_else o (first_of xs)) p.0 ∙ r.0, r.1)

met_split : (es : List Event) (xs ys : List Judged) → AllMet es (all_types (xs ++ ys)) → AllMet es (all_types xs) × AllMet es (all_types ys)
met_split es [] ys h = (tt, h)
met_split es (x ∷ xs) ys h =
    let p = all_split _ x.types (all_types (xs ++ ys)) h in
    let r = met_split es xs ys p.1 in
    (join x.types (all_types xs) p.0 r.0, r.1)
  where
    join : (us vs : List NamedType) → AllMet es us → AllMet es vs → AllMet es (us ++ vs)
    join [] vs f g = g
    join (u ∷ us) vs f g = (f.0, join us vs f.1 g)

have_join : (xs ys : List Judged) → have_types xs ≡ true → have_types ys ≡ true → have_types (xs ++ ys) ≡ true
have_join [] ys h k = k
have_join (x ∷ xs) ys h k = let p = and_parts (is_some x.ty) (have_types xs) h in ap (λ b. b && have_types (xs ++ ys)) p.0 ∙ have_join xs ys p.1 k

alike_split : (u : NamedType) (xs : List Judged) (j : Judged) → list_all (same_type u) (types_of (xs ++ j ∷ [])) ≡ true → (list_all (same_type u) (types_of xs) ≡ true) × (same_type u (type_of j) ≡ true)
alike_split u [] j h = (refl, (and_parts (same_type u (type_of j)) true h).0)
alike_split u (x ∷ xs) j h =
    let p = and_parts (same_type u (type_of x)) (list_all (same_type u) (types_of (xs ++ j ∷ []))) h in
    let r = alike_split u xs j p.1 in
    (ap (λ b. b && list_all (same_type u) (types_of xs)) p.0 ∙ r.0, r.1)

all_of_them : (P : ConstForm → Type 0) → ((c : ConstForm) → P c) → (cs : List ConstForm) → AllByRecursion P cs
all_of_them P f [] = tt
all_of_them P f (c ∷ cs) = (f c, all_of_them P f cs)

as_many : (scope : Scope) (cs : List ConstForm) → length (types_of (map (judge_const scope) cs)) ≡ length cs
as_many scope [] = refl
as_many scope (c ∷ cs) = ap suc (as_many scope cs)

flat : (cs : List ConstForm) → flat_map (λ ws. ws) (map const_words cs) ≡ flat_map const_words cs
flat [] = refl
flat (c ∷ cs) = ap (λ ws. const_words c ++ ws) (flat cs)

-- ---- types that stand in the list

pub stands : (all : Declarations) (order : List NamedType) (types : List TypeEntry) (u : NamedType) → IsEntered all order types u → Stands types (ty_of order u)
stands all order types (scalar s) h = tt
stands all order types (struct x) h = subst IsStructEntry (sym h) tt
stands all order types (array u n) h = subst IsArrayEntry (sym h) tt

-- ---- a stream

abbrev pub scope_at : Surface → Declarations → Scope
scope_at s before = scope_of before (all_of s)

abbrev pub form_ty : Surface → Declarations → TypeForm → Ty
form_ty s before ty = ty_of (type_order s) (type_of (judge_form before ty))

-- its initial values and its expression
pub record IsSoundStream (s : Surface) (before : Declarations) (ty : TypeForm) (init : List ConstForm) (e : Expr) : Type 0 where
  pub in_list : Stands (types_of_text s) (form_ty s before ty)
  pub consts : AllByRecursion (IsSoundConst (type_order s) (types_of_text s) (scope_at s before)) init
  pub values : AreWords (repeated (length init) (leaves (types_of_text s) (form_ty s before ty))) (flat_map const_words init)
  pub count : value_count (types_of_text s) (form_ty s before ty) (flat_map const_words init) ≡ length init
  pub alike : list_all (same_type (type_of (judge_form before ty))) (types_of (map (judge_const (scope_at s before)) init)) ≡ true
  pub expr : IsSound (type_order s) (all_of s) (kept_signatures s) (read_expr (numbers_of s) (scope_at s before) e)
  pub expr_is : type_of (judge_form before ty) ≡ type_of (judge_expr (scope_at s before) e)

abbrev Parts : Surface → Declarations → List ConstForm → Expr → Type 0
Parts s before init e = AllByRecursion (IsSoundConst (type_order s) (types_of_text s) (scope_at s before)) init × IsSound (type_order s) (all_of s) (kept_signatures s) (read_expr (numbers_of s) (scope_at s before) e)

const_place : (s : Surface) → IsTypeList (types_of_text s) → (before : Declarations) (x : Decl) → IsDecl s before x → IsConstPlace (events s) (type_order s) (types_of_text s) (scope_at s before)
const_place s list before x h = record { list = list; entered = entered s; structs = h.same }

stream_parts : (s : Surface) → IsSoundText s → IsTypeList (types_of_text s) → (before : Declarations) (at : ℕ) (x : NameAt) (ty : TypeForm) (init : List ConstForm) (e : Expr) → IsDecl s before (d.Stream at x ty init e)
    → all_kept (map keeps_const init) ≡ true → keeps_expr e ≡ true → IsTyped (events s) (all_of s) (judge_form before ty)
    → first_of (judge_form before ty ∷ values_of s before init e) ≡ None → AllMet (events s) (all_types (judge_form before ty ∷ values_of s before init e)) → Parts s before init e × (have_types (judge_form before ty ∷ values_of s before init e) ≡ true)
stream_parts s text list before at x ty init e h kc ke w f m =
    let scope = scope_at s before in
    let js = map (judge_const scope) init in
    let j = judge_expr scope e in
    let a = both_none (judge_form before ty).fault (first_of (js ++ j ∷ [])) f in
    let b = all_split _ (judge_form before ty).types (all_types (js ++ j ∷ [])) m in
    let c = first_split js (j ∷ []) a.1 in
    let g = met_split (events s) js (j ∷ []) b.1 in
    let place = const_place s list before (d.Stream at x ty init e) h in
    let consts = each_sound (events s) (type_order s) (types_of_text s) scope place init (all_of_them _ (const_sound (events s) (type_order s) (types_of_text s) scope place) init) kc c.0 g.0 in
    let own = expr_at s text before (d.Stream at x ty init e) h e ke (both_none j.fault None c.1).0 (all_split _ j.types [] g.1).0 in
    let there : IsTrue (is_some j.ty) = ap (λ (i : Judged). is_some i.ty) (sym (judged_same (numbers_of s) scope e)) ∙ own.there in
    ((consts.0, own), ap (λ b. b && have_types (js ++ j ∷ [])) w.there ∙ have_join js (j ∷ []) consts.1 (ap (λ b. b && true) there))

-- what a stream keeps
pub record IsKeptStream (s : Surface) (init : List ConstForm) (e : Expr) : Type 0 where
  pub least : 1 ≤ length init
  pub most : length init ≤ most_initial s.version
  pub consts : all_kept (map keeps_const init) ≡ true
  pub expr : keeps_expr e ≡ true

pub stream_sound : (s : Surface) → IsSoundText s → IsTypeList (types_of_text s) → (before : Declarations) (at : ℕ) (x : NameAt) (ty : TypeForm) (init : List ConstForm) (e : Expr) → IsDecl s before (d.Stream at x ty init e)
    → IsKeptStream s init e → IsSoundStream s before ty init e
stream_sound s text list before at x ty init e h k =
    let scope = scope_at s before in
    let u = type_of (judge_form before ty) in
    let js = map (judge_const scope) init in
    let j = judge_expr scope e in
    let w = stream_written s before at x ty init e h in
    let v = of_type at u (types_of (js ++ j ∷ [])) in
    let node = node_of (events s) (Parts s before init e) (judge_form before ty ∷ values_of s before init e) v (stream_parts s text list before at x ty init e h k.consts k.expr w) h.faultless h.met in
    let same = if_has (list_all (same_type u) (types_of (js ++ j ∷ []))) bool node.ty (TypeClash at) node.v_is in
    let split = alike_split u js j same.0 in
    let place = const_place s list before (d.Stream at x ty init e) h in
    let there = stands (all_of s) (type_order s) (types_of_text s) u (entered s u w.well w.is_met) in
    let own = alike_words (events s) (type_order s) (types_of_text s) scope place u init node.parts.0 split.0 in
    let words : AreWords (repeated (length init) (leaves (types_of_text s) (form_ty s before ty))) (flat_map const_words init) =
    subst (λ ws. AreWords (repeated (length init) (leaves (types_of_text s) (form_ty s before ty))) ws) (flat init)
    (subst (λ n. AreWords (repeated n (leaves (types_of_text s) (form_ty s before ty))) (flat_map (λ ws. ws) (map const_words init))) (as_many scope init) own) in
    record {
      in_list = there;
      consts = node.parts.0;
      values = words;
      count = counted (types_of_text s) list (form_ty s before ty) (flat_map const_words init) (length init) there words;
      alike = split.0;
      expr = node.parts.1;
      expr_is = same_true u (type_of j) split.1;
    }
