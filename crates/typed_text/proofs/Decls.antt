-- Each declaration of a text without a fault is read as good items and forms.
use Rattle.std.proofs.Common.{◌≡◌, ℕ, suc, ◌+◌, ◌≤◌, Bool, true, false, nat_le, List, [], ◌∷◌, ◌++◌, map, length, refl, sym, ap, ◌∙◌, subst, arith}
use Rattle.std.specs.Prelude.{◌&&◌, is_some, max, Option, Some, None, IsTrue}
use Rattle.std.specs.List.{list_all, flat_map, AllByRecursion}
use Rattle.std.proofs.lemmas.Bool.{and_parts}
use Rattle.std.proofs.lemmas.Bool.Decides.{nat_tests}
use Rattle.stream_types.specs.declared.scalar.Ty.{Ty}
use Rattle.stream_types.specs.Types.{leaves, repeated, AreWords}
use Rattle.stream_types.specs.TypeList.{Stands, IsTypeList}
use Rattle.stream_core.specs.declared.spec.ExternItem.{ExternItem}
use Rattle.stream_core.specs.Term.{TreeStream, TreeDef, TreeRoot, TreeTrigger, TreeObserver, TreeLib, value_count}
use Rattle.stream_core.specs.Signature.{Signature, StreamSignature, stream_signature}
use Rattle.stream_core.specs.WellTyped.{HasType, AreInitial, RootHasType, IsGoodStream, IsGoodDef, IsGoodTrigger, IsGoodLib}
use Rattle.stream_core.specs.WellTyped.{bool as ty_bool, nesting as ty_nesting}
use Rattle.spec_text.specs.declared.surface.NameAt.{NameAt}
use Rattle.spec_text.specs.declared.surface.TypeForm.{TypeForm}
use Rattle.spec_text.specs.declared.surface.ConstForm.{ConstForm}
use Rattle.spec_text.specs.declared.surface.Expr.{Expr}
use Rattle.spec_text.specs.declared.surface.Decl.{Decl}
use Rattle.spec_text.specs.declared.surface.Decl.TheVariants as d
use Rattle.spec_text.specs.declared.surface.Surface.{Surface}
use Rattle.spec_text.specs.Shape.{most_initial}
use Rattle.spec_text.specs.Form.{Form, Forms, forms, form_of_type, form_of_const, form_of_expr, form_of_decl}
use Rattle.spec_text.specs.Extent.{nesting, deepest}
use Rattle.spec_text.specs.KeepsTable.{all_kept, kept_from, between, keeps_name, keeps_type, keeps_const, keeps_expr}
use Rattle.type_check.specs.declared.fault.TypeFault.TheVariants.{TypeClash}
use Rattle.type_check.specs.NamedType.{NamedType, bool, same_type, Declarations}
use Rattle.type_check.specs.Judged.{Judged, first_of, all_types, have_types, judged, if_so, type_of, types_of, is_bool, judge_form, judge_const, judge_expr}
use Rattle.type_check.specs.Untyped.{judge_exprs, scope_of, all_of, of_type, agree, sent_types, first_sent}
use Rattle.type_check.specs.TypeOrder.{Event, events, type_order, ty_of, types_of_text}
use Rattle.type_check.proofs.Meaning.{same_true}
use Rattle.typed_text.specs.ReadSpec.{Numbers, Read, Placed, numbers_of, read_expr, counts, reads, placed, const_words, forms_of, forms_from, roots, roots_from, first_root, other_roots, extern_item, trigger_item, observer_item}
use Rattle.typed_text.proofs.Sound.{AllMet, both_none, all_split, all_join, IsSound, AllSound, IsNode, node_of, forms_good}
use Rattle.typed_text.proofs.Verdicts.{if_has}
use Rattle.typed_text.proofs.Judging.{judged_same}
use Rattle.typed_text.proofs.FormTypes.{IsTyped}
use Rattle.typed_text.proofs.Order.{entered}
use Rattle.typed_text.proofs.Places.{EachDecl, IsDecl}
use Rattle.typed_text.proofs.Constants.{IsSoundConst}
use Rattle.typed_text.proofs.Items.{parts_none, extern_written, def_written, externs_from, streams_from, defs_from}
use Rattle.typed_text.proofs.Environment.{IsSoundText, kept_signatures, stream_signatures, expr_at}
use Rattle.typed_text.proofs.Streams.{scope_at, form_ty, stands, IsSoundStream, IsKeptStream, stream_sound}

-- ---- what a declaration keeps

pub stream_keeps : (s : Surface) (before : Declarations) (at : ℕ) (x : NameAt) (ty : TypeForm) (init : List ConstForm) (e : Expr) → IsDecl s before (d.Stream at x ty init e) → IsKeptStream s init e
stream_keeps s before at x ty init e h =
    let m = most_initial s.version in
    let p = and_parts (keeps_name x && keeps_type ty && kept_from 1 m (map keeps_const init)) (keeps_expr e) h.kept in
    let q = and_parts (keeps_name x && keeps_type ty) (kept_from 1 m (map keeps_const init)) p.0 in
    let r = and_parts (between 1 m (length (map keeps_const init))) (all_kept (map keeps_const init)) q.1 in
    let n : length (map keeps_const init) ≡ length init = as_many init in
    let b = and_parts (nat_le 1 (length (map keeps_const init))) (nat_le (length (map keeps_const init)) m) r.0 in
    let low : 1 ≤ length (map keeps_const init) = grind (arith, nat_tests, b.0) in
    let high : length (map keeps_const init) ≤ m = grind (arith, nat_tests, b.1) in
    record { least = subst (λ i. 1 ≤ i) n low; most = subst (λ i. i ≤ m) n high; consts = r.1; expr = p.1 }
  where
    as_many : (cs : List ConstForm) → length (map keeps_const cs) ≡ length cs
    as_many [] = refl
    as_many (c ∷ cs) = ap suc (as_many cs)

-- ---- the expressions of a declaration

abbrev AllSoundAt : Surface → List Read → Type 0
AllSoundAt s ps = AllSound (type_order s) (all_of s) (kept_signatures s) ps

exprs_sound : (s : Surface) → IsSoundText s → (before : Declarations) (x : Decl) → IsDecl s before x → (es : List Expr) → all_kept (map keeps_expr es) ≡ true → first_of (judge_exprs (scope_at s before) es) ≡ None
    → AllMet (events s) (all_types (judge_exprs (scope_at s before) es)) → AllSoundAt s (map (read_expr (numbers_of s) (scope_at s before)) es)
exprs_sound s text before x h [] k f m = tt
exprs_sound s text before x h (e ∷ es) k f m =
    let j = judge_expr (scope_at s before) e in
    let js = judge_exprs (scope_at s before) es in
    let q = and_parts (keeps_expr e) (all_kept (map keeps_expr es)) k in
    let a = both_none j.fault (first_of js) f in
    let b = all_split _ j.types (all_types js) m in
    (expr_at s text before x h e q.0 a.0 b.0, exprs_sound s text before x h es q.1 a.1 b.1)

def_expr : (s : Surface) → IsSoundText s → (before : Declarations) (at : ℕ) (x : NameAt) (ty : TypeForm) (e : Expr) → IsDecl s before (d.Def at x ty e) → AllSoundAt s (read_expr (numbers_of s) (scope_at s before) e ∷ [])
def_expr s text before at x ty e h =
    let j = judge_expr (scope_at s before) e in
    let qs : List Judged = judge_form before ty ∷ j ∷ [] in
    let p = parts_none (events s) qs (have_types qs) (of_type at (type_of (judge_form before ty)) (type_of j ∷ [])) h.faultless h.met in
    let a = both_none (judge_form before ty).fault (first_of (j ∷ [])) p.0 in
    let b = all_split _ (judge_form before ty).types (all_types (j ∷ [])) p.1 in
    let k = and_parts (keeps_name x && keeps_type ty) (keeps_expr e) h.kept in
    (expr_at s text before (d.Def at x ty e) h e k.1 (both_none j.fault None a.1).0 (all_split _ j.types [] b.1).0, tt)

trigger_exprs : (s : Surface) → IsSoundText s → (before : Declarations) (at : ℕ) (x : NameAt) (guard : Expr) (args : List Expr) → IsDecl s before (d.Trigger at x guard args) → AllSoundAt s (map (read_expr (numbers_of s) (scope_at s before)) (guard ∷ args))
trigger_exprs s text before at x guard args h =
    let g = judge_expr (scope_at s before) guard in
    let as_ = judge_exprs (scope_at s before) args in
    let v = if_so (is_bool (type_of g) && agree (sent_types (all_of s) (first_sent (d.Trigger at x guard args ∷ before) x.name)) (types_of as_)) bool (TypeClash at) in
    let p = parts_none (events s) (g ∷ as_) (have_types (g ∷ as_)) v h.faultless h.met in
    let k = and_parts (keeps_name x && keeps_expr guard) (kept_from 0 16 (map keeps_expr args)) h.kept in
    let l = and_parts (keeps_name x) (keeps_expr guard) k.0 in
    let m = and_parts (between 0 16 (length (map keeps_expr args))) (all_kept (map keeps_expr args)) k.1 in
    let whole : (keeps_expr guard && all_kept (map keeps_expr args)) ≡ true = ap (λ b. b && all_kept (map keeps_expr args)) l.1 ∙ m.1 in
    exprs_sound s text before (d.Trigger at x guard args) h (guard ∷ args) whole p.0 p.1

pub reads_sound : (s : Surface) → IsSoundText s → IsTypeList (types_of_text s) → (before : Declarations) (x : Decl) → IsDecl s before x → AllSoundAt s (reads (numbers_of s) (all_of s) before x)
reads_sound s text list before (d.Struct at x fields) h = tt
reads_sound s text list before (d.Extern at x ty) h = tt
reads_sound s text list before (d.Stream at x ty init e) h = ((stream_sound s text list before at x ty init e h (stream_keeps s before at x ty init e h)).expr, tt)
reads_sound s text list before (d.Def at x ty e) h = def_expr s text before at x ty e h
reads_sound s text list before (d.Trigger at x guard args) h = trigger_exprs s text before at x guard args h
reads_sound s text list before (d.Observer at x e) h = let k = and_parts (keeps_name x) (keeps_expr e) h.kept in (expr_at s text before (d.Observer at x e) h e k.1 h.faultless h.met, tt)

-- ---- the forms

pub libs_good : (s : Surface) → IsSoundText s → IsTypeList (types_of_text s) → (before : Declarations) (k : ℕ) (ys : List Decl) → EachDecl (IsDecl s) before ys
    → AllByRecursion (IsGoodLib (kept_signatures s)) (flat_map (forms_of (numbers_of s) (all_of s)) (placed (numbers_of s) (all_of s) before k ys))
libs_good s text list before k [] q = tt
libs_good s text list before k (y ∷ ys) q =
    let ps = reads (numbers_of s) (all_of s) before y in
    let next = k + counts ps in
    all_join (IsGoodLib (kept_signatures s)) (forms_from k ps) (flat_map (forms_of (numbers_of s) (all_of s)) (placed (numbers_of s) (all_of s) (y ∷ before) next ys))
    (forms_good (type_order s) (all_of s) (kept_signatures s) ps (reads_sound s text list before y q.0) k) (libs_good s text list (y ∷ before) next ys q.1)

-- ---- the signature

pub streams_same : (s : Surface) → IsSoundText s → IsTypeList (types_of_text s) → (before : Declarations) (k : ℕ) (ys : List Decl) → EachDecl (IsDecl s) before ys
    → stream_signatures (numbers_of s) before ys ≡ map (stream_signature (types_of_text s)) (streams_from (numbers_of s) (all_of s) (types_of_text s) before k ys)
streams_same s text list before k [] q = refl
streams_same s text list before k (d.Struct at x fields ∷ ys) q = streams_same s text list (d.Struct at x fields ∷ before) (k + counts (reads (numbers_of s) (all_of s) before (d.Struct at x fields))) ys q.1
streams_same s text list before k (d.Extern at x ty ∷ ys) q = streams_same s text list (d.Extern at x ty ∷ before) (k + counts (reads (numbers_of s) (all_of s) before (d.Extern at x ty))) ys q.1
streams_same s text list before k (d.Def at x ty e ∷ ys) q = streams_same s text list (d.Def at x ty e ∷ before) (k + counts (reads (numbers_of s) (all_of s) before (d.Def at x ty e))) ys q.1
streams_same s text list before k (d.Trigger at x guard args ∷ ys) q = streams_same s text list (d.Trigger at x guard args ∷ before) (k + counts (reads (numbers_of s) (all_of s) before (d.Trigger at x guard args))) ys q.1
streams_same s text list before k (d.Observer at x e ∷ ys) q = streams_same s text list (d.Observer at x e ∷ before) (k + counts (reads (numbers_of s) (all_of s) before (d.Observer at x e))) ys q.1
streams_same s text list before k (d.Stream at x ty init e ∷ ys) q =
    let own = stream_sound s text list before at x ty init e q.0 (stream_keeps s before at x ty init e q.0) in
    let rest = streams_same s text list (d.Stream at x ty init e ∷ before) (k + counts (reads (numbers_of s) (all_of s) before (d.Stream at x ty init e))) ys q.1 in
    ap (λ (r : List StreamSignature). record { ty = form_ty s before ty; count = length init } ∷ r) rest
    ∙ ap (λ n. record { ty = form_ty s before ty; count = n } ∷ map (stream_signature (types_of_text s)) (streams_from (numbers_of s) (all_of s) (types_of_text s) (d.Stream at x ty init e ∷ before) (k + counts (reads (numbers_of s) (all_of s) before (d.Stream at x ty init e))) ys)) (sym own.count)
