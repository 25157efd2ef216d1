-- The items of a text without a fault are good: types stand, initial values fit, guards are truth values.
use Rattle.std.proofs.Common.{◌≡◌, ℕ, suc, ◌+◌, ◌≤◌, Bool, true, false, nat_le, List, [], ◌∷◌, ◌++◌, map, length, refl, sym, ap, ◌∙◌, subst, arith}
use Rattle.std.specs.Prelude.{◌&&◌, ◌==◌, if◌then◌else◌, is_some, max, Option, Some, None, IsTrue}
use Rattle.std.specs.List.{list_all, flat_map, AllByRecursion}
use Rattle.std.proofs.lemmas.Bool.{and_parts}
use Rattle.std.proofs.lemmas.Bool.Decides.{nat_tests}
use Rattle.stream_types.specs.Types.{leaves, repeated, AreWords}
use Rattle.stream_types.specs.TypeList.{Stands, IsTypeList}
use Rattle.stream_core.specs.declared.spec.ExternItem.{ExternItem}
use Rattle.stream_core.specs.Term.{TreeStream, TreeDef, TreeRoot, TreeTrigger, TreeObserver, value_count}
use Rattle.stream_core.specs.Signature.{Signature}
use Rattle.stream_core.specs.WellTyped.{HasType, AreInitial, RootHasType, IsGoodStream, IsGoodDef, IsGoodTrigger}
use Rattle.stream_core.specs.WellTyped.{nesting as ty_nesting}
use Rattle.spec_text.specs.declared.surface.NameAt.{NameAt}
use Rattle.spec_text.specs.declared.surface.TypeForm.{TypeForm}
use Rattle.spec_text.specs.declared.surface.ConstForm.{ConstForm}
use Rattle.spec_text.specs.declared.surface.Expr.{Expr}
use Rattle.spec_text.specs.declared.surface.Decl.{Decl}
use Rattle.spec_text.specs.declared.surface.Decl.TheVariants as d
use Rattle.spec_text.specs.declared.surface.Surface.{Surface}
use Rattle.spec_text.specs.Shape.{most_initial}
use Rattle.spec_text.specs.Form.{forms, form_of_type, form_of_const, form_of_expr, form_of_decl}
use Rattle.spec_text.specs.Extent.{nesting, deepest}
use Rattle.type_check.specs.NamedType.{NamedType, same_type, Declarations}
use Rattle.type_check.specs.Judged.{Judged, type_of, types_of, judge_form, judge_const, judge_expr}
use Rattle.type_check.specs.TypeOrder.{type_order, ty_of, types_of_text}
use Rattle.type_check.specs.Untyped.{all_of}
use Rattle.type_check.proofs.Meaning.{same_true}
use Rattle.typed_text.specs.ReadSpec.{Numbers, Read, Placed, numbers_of, read_expr, counts, reads, placed, const_words, roots, roots_from, first_root, observer_item}
use Rattle.typed_text.proofs.Sound.{IsSound, AllSound}
use Rattle.typed_text.proofs.Judging.{judged_same}
use Rattle.typed_text.proofs.Order.{entered}
use Rattle.typed_text.proofs.Places.{EachDecl, IsDecl}
use Rattle.typed_text.proofs.Constants.{IsSoundConst}
use Rattle.typed_text.proofs.Items.{extern_written, externs_from, streams_from}
use Rattle.typed_text.proofs.Environment.{IsSoundText, kept_signatures}
use Rattle.typed_text.proofs.Streams.{scope_at, form_ty, stands, IsSoundStream, IsKeptStream, stream_sound}
use Rattle.typed_text.proofs.Decls.{stream_keeps, reads_sound}

-- ---- externs

pub externs_stand : (s : Surface) (before : Declarations) (k : ℕ) (ys : List Decl) → EachDecl (IsDecl s) before ys → AllByRecursion (λ (x : ExternItem). Stands (types_of_text s) x.ty) (externs_from (numbers_of s) (all_of s) (types_of_text s) before k ys)
externs_stand s before k [] q = tt
externs_stand s before k (d.Struct at x fields ∷ ys) q = externs_stand s (d.Struct at x fields ∷ before) (k + counts (reads (numbers_of s) (all_of s) before (d.Struct at x fields))) ys q.1
externs_stand s before k (d.Stream at x ty init e ∷ ys) q = externs_stand s (d.Stream at x ty init e ∷ before) (k + counts (reads (numbers_of s) (all_of s) before (d.Stream at x ty init e))) ys q.1
externs_stand s before k (d.Def at x ty e ∷ ys) q = externs_stand s (d.Def at x ty e ∷ before) (k + counts (reads (numbers_of s) (all_of s) before (d.Def at x ty e))) ys q.1
externs_stand s before k (d.Trigger at x guard args ∷ ys) q = externs_stand s (d.Trigger at x guard args ∷ before) (k + counts (reads (numbers_of s) (all_of s) before (d.Trigger at x guard args))) ys q.1
externs_stand s before k (d.Observer at x e ∷ ys) q = externs_stand s (d.Observer at x e ∷ before) (k + counts (reads (numbers_of s) (all_of s) before (d.Observer at x e))) ys q.1
externs_stand s before k (d.Extern at x ty ∷ ys) q =
    let w = extern_written s before at x ty q.0 in (
      stands (all_of s) (type_order s) (types_of_text s) (type_of (judge_form before ty)) (entered s (type_of (judge_form before ty)) w.well w.is_met),
      externs_stand s (d.Extern at x ty ∷ before) (k + counts (reads (numbers_of s) (all_of s) before (d.Extern at x ty))) ys q.1,
    )

-- ---- how deep declarations nest

-- each of these forms nests so many lists at most
abbrev pub AreShallow : ℕ → List Decl → Type 0
AreShallow n ys = AllByRecursion (λ (y : Decl). nesting (form_of_decl y) ≤ n) ys

pub shallow : (n : ℕ) (ys : List Decl) → deepest (forms (map form_of_decl ys)) ≤ n → AreShallow n ys
shallow n [] h = tt
shallow n (y ∷ ys) h = (omega (arith, h), shallow n ys (omega (arith, h)))

-- ---- streams

-- the first of its initial values nests as deep as its type
first_nests : (s : Surface) (before : Declarations) (ty : TypeForm) (init : List ConstForm) → 1 ≤ length init → AllByRecursion (IsSoundConst (type_order s) (types_of_text s) (scope_at s before)) init
    → list_all (same_type (type_of (judge_form before ty))) (types_of (map (judge_const (scope_at s before)) init)) ≡ true → ty_nesting (types_of_text s) (form_ty s before ty) ≤ deepest (forms (map form_of_const init))
first_nests s before ty [] low h a = absurd (omega (arith, low))
first_nests s before ty (c ∷ cs) low h a =
    let u = type_of (judge_form before ty) in
    let p = and_parts (same_type u (type_of (judge_const (scope_at s before) c))) (list_all (same_type u) (types_of (map (judge_const (scope_at s before)) cs))) a in
    let e : form_ty s before ty ≡ ty_of (type_order s) (type_of (judge_const (scope_at s before) c)) = ap (ty_of (type_order s)) (same_true u (type_of (judge_const (scope_at s before) c)) p.0) in
    let n : ty_nesting (types_of_text s) (form_ty s before ty) ≤ nesting (form_of_const c) = subst (λ w. ty_nesting (types_of_text s) w ≤ nesting (form_of_const c)) (sym e) h.0.nests in
    omega (arith, n)

few_initial : (version n : ℕ) → n ≤ most_initial version → n ≤ 65536
few_initial version n h = by (version == 1) h
  where
    by : (b : Bool) → n ≤ (if b then 4096 else 65536) → n ≤ 65536
    by true g = omega (arith, g)
    by false g = g

initial_good : (s : Surface) (before : Declarations) (at : ℕ) (x : NameAt) (ty : TypeForm) (init : List ConstForm) (e : Expr) → IsSoundStream s before ty init e → IsKeptStream s init e → nesting (form_of_decl (d.Stream at x ty init e)) ≤ 64
    → AreInitial (types_of_text s) (form_ty s before ty) (flat_map const_words init)
initial_good s before at x ty init e own k low =
    let c = own.count in
    let deep = first_nests s before ty init k.least own.consts own.alike in
    let few = few_initial s.version (length init) k.most in
    let bound : 1 + max 0 (max 0 (max (nesting (form_of_type ty)) (max (1 + deepest (forms (map form_of_const init))) (max (nesting (form_of_expr e)) 0)))) ≤ 64 = low in
    record {
      some = subst (λ n. 1 ≤ n) (sym c) k.least;
      most = subst (λ n. n ≤ 65536) (sym c) few;
      values = subst (λ n. AreWords (repeated n (leaves (types_of_text s) (form_ty s before ty))) (flat_map const_words init)) (sym c) own.values;
      flat = omega (arith, deep, bound);
    }

pub streams_good : (s : Surface) → IsSoundText s → IsTypeList (types_of_text s) → (before : Declarations) (k : ℕ) (ys : List Decl) → EachDecl (IsDecl s) before ys → AreShallow 64 ys
    → AllByRecursion (IsGoodStream (kept_signatures s)) (streams_from (numbers_of s) (all_of s) (types_of_text s) before k ys)
streams_good s text list before k [] q low = tt
streams_good s text list before k (d.Struct at x fields ∷ ys) q low = streams_good s text list (d.Struct at x fields ∷ before) (k + counts (reads (numbers_of s) (all_of s) before (d.Struct at x fields))) ys q.1 low.1
streams_good s text list before k (d.Extern at x ty ∷ ys) q low = streams_good s text list (d.Extern at x ty ∷ before) (k + counts (reads (numbers_of s) (all_of s) before (d.Extern at x ty))) ys q.1 low.1
streams_good s text list before k (d.Def at x ty e ∷ ys) q low = streams_good s text list (d.Def at x ty e ∷ before) (k + counts (reads (numbers_of s) (all_of s) before (d.Def at x ty e))) ys q.1 low.1
streams_good s text list before k (d.Trigger at x guard args ∷ ys) q low = streams_good s text list (d.Trigger at x guard args ∷ before) (k + counts (reads (numbers_of s) (all_of s) before (d.Trigger at x guard args))) ys q.1 low.1
streams_good s text list before k (d.Observer at x e ∷ ys) q low = streams_good s text list (d.Observer at x e ∷ before) (k + counts (reads (numbers_of s) (all_of s) before (d.Observer at x e))) ys q.1 low.1
streams_good s text list before k (d.Stream at x ty init e ∷ ys) q low =
    let kept = stream_keeps s before at x ty init e q.0 in
    let own = stream_sound s text list before at x ty init e q.0 kept in
    let same : type_of (read_expr (numbers_of s) (scope_at s before) e).judged ≡ type_of (judge_form before ty) = ap (λ (j : Judged). type_of j) (judged_same (numbers_of s) (scope_at s before) e) ∙ sym own.expr_is in (
      record {
        stands = own.in_list;
        initial = initial_good s before at x ty init e own kept low.0;
        expr = subst (λ u. HasType (kept_signatures s) ((read_expr (numbers_of s) (scope_at s before) e).term k) (ty_of (type_order s) u)) same (own.expr.typed k);
      },
      streams_good s text list (d.Stream at x ty init e ∷ before) (k + counts (reads (numbers_of s) (all_of s) before (d.Stream at x ty init e))) ys q.1 low.1,
    )

-- ---- roots

pub roots_good : (numbers : Numbers) (all : Declarations) (sig : Signature) (k : ℕ) (ps : List Read) (es : List Expr) → AllSound numbers.order all sig ps → AllByRecursion (RootHasType sig) (roots_from numbers k ps es)
roots_good numbers all sig k [] es h = tt
roots_good numbers all sig k (p ∷ ps) [] h = tt
roots_good numbers all sig k (p ∷ ps) (e ∷ es) h = (h.0.typed k, roots_good numbers all sig (k + p.count) ps es h.1)

pub observers_good : (s : Surface) → IsSoundText s → IsTypeList (types_of_text s) → (before : Declarations) (k : ℕ) (ys : List Decl) → EachDecl (IsDecl s) before ys
    → AllByRecursion (λ (x : TreeObserver). RootHasType (kept_signatures s) x.root) (flat_map (λ (p : Placed). observer_item (first_root (roots (numbers_of s) (all_of s) p)) p.decl) (placed (numbers_of s) (all_of s) before k ys))
observers_good s text list before k [] q = tt
observers_good s text list before k (d.Struct at x fields ∷ ys) q = observers_good s text list (d.Struct at x fields ∷ before) (k + counts (reads (numbers_of s) (all_of s) before (d.Struct at x fields))) ys q.1
observers_good s text list before k (d.Extern at x ty ∷ ys) q = observers_good s text list (d.Extern at x ty ∷ before) (k + counts (reads (numbers_of s) (all_of s) before (d.Extern at x ty))) ys q.1
observers_good s text list before k (d.Stream at x ty init e ∷ ys) q = observers_good s text list (d.Stream at x ty init e ∷ before) (k + counts (reads (numbers_of s) (all_of s) before (d.Stream at x ty init e))) ys q.1
observers_good s text list before k (d.Def at x ty e ∷ ys) q = observers_good s text list (d.Def at x ty e ∷ before) (k + counts (reads (numbers_of s) (all_of s) before (d.Def at x ty e))) ys q.1
observers_good s text list before k (d.Trigger at x guard args ∷ ys) q = observers_good s text list (d.Trigger at x guard args ∷ before) (k + counts (reads (numbers_of s) (all_of s) before (d.Trigger at x guard args))) ys q.1
observers_good s text list before k (d.Observer at x e ∷ ys) q =
    ((reads_sound s text list before (d.Observer at x e) q.0).0.typed k, observers_good s text list (d.Observer at x e ∷ before) (k + counts (reads (numbers_of s) (all_of s) before (d.Observer at x e))) ys q.1)
