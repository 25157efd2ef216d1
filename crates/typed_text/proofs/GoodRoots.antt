-- The defs and triggers of a text without a fault are good.
use Rattle.std.proofs.Common.{◌≡◌, ℕ, suc, ◌+◌, ◌≤◌, Bool, true, false, nat_le, List, [], ◌∷◌, map, length, refl, sym, ap, ◌∙◌, subst, arith}
use Rattle.std.specs.Prelude.{◌&&◌, is_some, Option, Some, None, IsTrue, All}
use Rattle.std.specs.List.{list_all, flat_map, AllByRecursion}
use Rattle.std.proofs.lemmas.Bool.{and_parts}
use Rattle.std.proofs.lemmas.Bool.Decides.{nat_tests}
use Rattle.sm_io.proofs.Elements.{all_by_place}
use Rattle.stream_types.specs.TypeList.{Stands, IsTypeList}
use Rattle.stream_core.specs.Term.{TreeDef, TreeRoot, TreeTrigger}
use Rattle.stream_core.specs.Signature.{Signature}
use Rattle.stream_core.specs.WellTyped.{HasType, RootHasType, IsGoodDef, IsGoodTrigger}
use Rattle.spec_text.specs.declared.surface.NameAt.{NameAt}
use Rattle.spec_text.specs.declared.surface.TypeForm.{TypeForm}
use Rattle.spec_text.specs.declared.surface.Expr.{Expr}
use Rattle.spec_text.specs.declared.surface.Decl.{Decl}
use Rattle.spec_text.specs.declared.surface.Decl.TheVariants as d
use Rattle.spec_text.specs.declared.surface.Surface.{Surface}
use Rattle.spec_text.specs.KeepsTable.{all_kept, kept_from, between, keeps_name, keeps_expr}
use Rattle.type_check.specs.declared.fault.TypeFault.TheVariants.{TypeClash}
use Rattle.type_check.specs.NamedType.{NamedType, bool, same_type, Declarations}
use Rattle.type_check.specs.Judged.{Judged, have_types, if_so, type_of, types_of, is_bool, judge_form, judge_expr}
use Rattle.type_check.specs.Untyped.{judge_exprs, all_of, of_type, agree, sent_types, first_sent}
use Rattle.type_check.specs.TypeOrder.{events, type_order, ty_of, types_of_text}
use Rattle.type_check.proofs.Meaning.{same_true}
use Rattle.typed_text.specs.ReadSpec.{Numbers, Read, Placed, numbers_of, read_expr, counts, reads, placed, roots, roots_from, trigger_item}
use Rattle.typed_text.proofs.Sound.{IsSound, AllSound, IsNode, node_of}
use Rattle.typed_text.proofs.Verdicts.{if_has}
use Rattle.typed_text.proofs.Judging.{judged_same}
use Rattle.typed_text.proofs.Order.{entered}
use Rattle.typed_text.proofs.Places.{EachDecl, IsDecl}
use Rattle.typed_text.proofs.Items.{def_written, defs_from}
use Rattle.typed_text.proofs.Environment.{IsSoundText, kept_signatures}
use Rattle.typed_text.proofs.Streams.{scope_at, form_ty, stands}
use Rattle.typed_text.proofs.Decls.{reads_sound}
use Rattle.typed_text.proofs.Goods.{roots_good}

pub has_type : (s : Surface) (before : Declarations) (e : Expr) → IsSound (type_order s) (all_of s) (kept_signatures s) (read_expr (numbers_of s) (scope_at s before) e) → IsTrue (is_some (judge_expr (scope_at s before) e).ty)
has_type s before e h = ap (λ (i : Judged). is_some i.ty) (sym (judged_same (numbers_of s) (scope_at s before) e)) ∙ h.there

have_all : (s : Surface) (before : Declarations) (es : List Expr) → AllSound (type_order s) (all_of s) (kept_signatures s) (map (read_expr (numbers_of s) (scope_at s before)) es) → have_types (judge_exprs (scope_at s before) es) ≡ true
have_all s before [] h = refl
have_all s before (e ∷ es) h = ap (λ b. b && have_types (judge_exprs (scope_at s before) es)) (has_type s before e h.0) ∙ have_all s before es h.1

-- ---- defs

def_same : (s : Surface) → IsSoundText s → IsTypeList (types_of_text s) → (before : Declarations) (at : ℕ) (x : NameAt) (ty : TypeForm) (e : Expr) → IsDecl s before (d.Def at x ty e) → type_of (judge_form before ty) ≡ type_of (judge_expr (scope_at s before) e)
def_same s text list before at x ty e h =
    let u = type_of (judge_form before ty) in
    let j = judge_expr (scope_at s before) e in
    let qs : List Judged = judge_form before ty ∷ j ∷ [] in
    let own = (reads_sound s text list before (d.Def at x ty e) h).0 in
    let w = def_written s before at x ty e h in
    let have : have_types qs ≡ true = ap (λ b. b && have_types (j ∷ [])) w.there ∙ ap (λ b. b && true) (has_type s before e own) in
    let node = node_of (events s) (Unit {0}) qs (of_type at u (type_of j ∷ [])) (λ f m. (tt, have)) h.faultless h.met in
    let p = if_has (list_all (same_type u) (type_of j ∷ [])) bool node.ty (TypeClash at) node.v_is in
    same_true u (type_of j) (and_parts (same_type u (type_of j)) true p.0).0

pub defs_good : (s : Surface) → IsSoundText s → IsTypeList (types_of_text s) → (before : Declarations) (k : ℕ) (ys : List Decl) → EachDecl (IsDecl s) before ys
    → AllByRecursion (IsGoodDef (kept_signatures s)) (defs_from (numbers_of s) (all_of s) (types_of_text s) before k ys)
defs_good s text list before k [] q = tt
defs_good s text list before k (d.Struct at x fields ∷ ys) q = defs_good s text list (d.Struct at x fields ∷ before) (k + counts (reads (numbers_of s) (all_of s) before (d.Struct at x fields))) ys q.1
defs_good s text list before k (d.Extern at x ty ∷ ys) q = defs_good s text list (d.Extern at x ty ∷ before) (k + counts (reads (numbers_of s) (all_of s) before (d.Extern at x ty))) ys q.1
defs_good s text list before k (d.Stream at x ty init e ∷ ys) q = defs_good s text list (d.Stream at x ty init e ∷ before) (k + counts (reads (numbers_of s) (all_of s) before (d.Stream at x ty init e))) ys q.1
defs_good s text list before k (d.Trigger at x guard args ∷ ys) q = defs_good s text list (d.Trigger at x guard args ∷ before) (k + counts (reads (numbers_of s) (all_of s) before (d.Trigger at x guard args))) ys q.1
defs_good s text list before k (d.Observer at x e ∷ ys) q = defs_good s text list (d.Observer at x e ∷ before) (k + counts (reads (numbers_of s) (all_of s) before (d.Observer at x e))) ys q.1
defs_good s text list before k (d.Def at x ty e ∷ ys) q =
    let own = (reads_sound s text list before (d.Def at x ty e) q.0).0 in
    let w = def_written s before at x ty e q.0 in
    let u = type_of (judge_form before ty) in
    let same : type_of (read_expr (numbers_of s) (scope_at s before) e).judged ≡ u = ap (λ (j : Judged). type_of j) (judged_same (numbers_of s) (scope_at s before) e) ∙ sym (def_same s text list before at x ty e q.0) in (
      record {
        stands = stands (all_of s) (type_order s) (types_of_text s) u (entered s u w.well w.is_met);
        expr = subst (λ v. HasType (kept_signatures s) ((read_expr (numbers_of s) (scope_at s before) e).term k) (ty_of (type_order s) v)) same (own.typed k);
      },
      defs_good s text list (d.Def at x ty e ∷ before) (k + counts (reads (numbers_of s) (all_of s) before (d.Def at x ty e))) ys q.1,
    )

-- ---- triggers

-- what the verdict on a trigger says
pub record IsSent (s : Surface) (before : Declarations) (at : ℕ) (x : NameAt) (guard : Expr) (args : List Expr) : Type 0 where
  pub truth : is_bool (type_of (judge_expr (scope_at s before) guard)) ≡ true
  pub agrees : agree (sent_types (all_of s) (first_sent (d.Trigger at x guard args ∷ before) x.name)) (types_of (judge_exprs (scope_at s before) args)) ≡ true

pub trigger_sent : (s : Surface) → IsSoundText s → IsTypeList (types_of_text s) → (before : Declarations) (at : ℕ) (x : NameAt) (guard : Expr) (args : List Expr) → IsDecl s before (d.Trigger at x guard args) → IsSent s before at x guard args
trigger_sent s text list before at x guard args h =
    let g = judge_expr (scope_at s before) guard in
    let as_ = judge_exprs (scope_at s before) args in
    let both = is_bool (type_of g) && agree (sent_types (all_of s) (first_sent (d.Trigger at x guard args ∷ before) x.name)) (types_of as_) in
    let have = have_all s before (guard ∷ args) (reads_sound s text list before (d.Trigger at x guard args) h) in
    let node = node_of (events s) (Unit {0}) (g ∷ as_) (if_so both bool (TypeClash at)) (λ f m. (tt, have)) h.faultless h.met in
    let p = if_has both bool node.ty (TypeClash at) node.v_is in
    let r = and_parts (is_bool (type_of g)) (agree (sent_types (all_of s) (first_sent (d.Trigger at x guard args ∷ before) x.name)) (types_of as_)) p.0 in
    record { truth = r.0; agrees = r.1 }

few_roots : (numbers : Numbers) (k : ℕ) (ps : List Read) (es : List Expr) → length (roots_from numbers k ps es) ≤ length es
few_roots numbers k [] es = omega arith
few_roots numbers k (p ∷ ps) [] = omega arith
few_roots numbers k (p ∷ ps) (e ∷ es) = let h = few_roots numbers (k + p.count) ps es in omega (arith, h)

few_args : (s : Surface) (before : Declarations) (at : ℕ) (x : NameAt) (guard : Expr) (args : List Expr) → IsDecl s before (d.Trigger at x guard args) → length args ≤ 16
few_args s before at x guard args h =
    let p = and_parts (keeps_name x && keeps_expr guard) (kept_from 0 16 (map keeps_expr args)) h.kept in
    let q = and_parts (between 0 16 (length (map keeps_expr args))) (all_kept (map keeps_expr args)) p.1 in
    let b = and_parts (nat_le 0 (length (map keeps_expr args))) (nat_le (length (map keeps_expr args)) 16) q.0 in
    let high : length (map keeps_expr args) ≤ 16 = grind (arith, nat_tests, b.1) in
    subst (λ i. i ≤ 16) (as_many args) high
  where
    as_many : (es : List Expr) → length (map keeps_expr es) ≡ length es
    as_many [] = refl
    as_many (e ∷ es) = ap suc (as_many es)

pub triggers_good : (s : Surface) → IsSoundText s → IsTypeList (types_of_text s) → (before : Declarations) (k : ℕ) (ys : List Decl) → EachDecl (IsDecl s) before ys
    → AllByRecursion (IsGoodTrigger (kept_signatures s)) (flat_map (λ (p : Placed). trigger_item (roots (numbers_of s) (all_of s) p) p.decl) (placed (numbers_of s) (all_of s) before k ys))
triggers_good s text list before k [] q = tt
triggers_good s text list before k (d.Struct at x fields ∷ ys) q = triggers_good s text list (d.Struct at x fields ∷ before) (k + counts (reads (numbers_of s) (all_of s) before (d.Struct at x fields))) ys q.1
triggers_good s text list before k (d.Extern at x ty ∷ ys) q = triggers_good s text list (d.Extern at x ty ∷ before) (k + counts (reads (numbers_of s) (all_of s) before (d.Extern at x ty))) ys q.1
triggers_good s text list before k (d.Stream at x ty init e ∷ ys) q = triggers_good s text list (d.Stream at x ty init e ∷ before) (k + counts (reads (numbers_of s) (all_of s) before (d.Stream at x ty init e))) ys q.1
triggers_good s text list before k (d.Def at x ty e ∷ ys) q = triggers_good s text list (d.Def at x ty e ∷ before) (k + counts (reads (numbers_of s) (all_of s) before (d.Def at x ty e))) ys q.1
triggers_good s text list before k (d.Observer at x e ∷ ys) q = triggers_good s text list (d.Observer at x e ∷ before) (k + counts (reads (numbers_of s) (all_of s) before (d.Observer at x e))) ys q.1
triggers_good s text list before k (d.Trigger at x guard args ∷ ys) q =
    let own = reads_sound s text list before (d.Trigger at x guard args) q.0 in
    let p = read_expr (numbers_of s) (scope_at s before) guard in
    let sent = trigger_sent s text list before at x guard args q.0 in
    let rest = roots_from (numbers_of s) (k + p.count) (map (read_expr (numbers_of s) (scope_at s before)) args) args in
    let few = few_roots (numbers_of s) (k + p.count) (map (read_expr (numbers_of s) (scope_at s before)) args) args in
    let many = few_args s before at x guard args q.0 in (
      record {
        guard = own.0.typed k;
        truth = ap (λ (j : Judged). ty_of (type_order s) (type_of j)) (judged_same (numbers_of s) (scope_at s before) guard) ∙ ap (ty_of (type_order s)) (same_true (type_of (judge_expr (scope_at s before) guard)) bool sent.truth);
        args = all_by_place (RootHasType (kept_signatures s)) rest (roots_good (numbers_of s) (all_of s) (kept_signatures s) (k + p.count) (map (read_expr (numbers_of s) (scope_at s before)) args) args own.1);
        few = omega (arith, few, many);
      },
      triggers_good s text list (d.Trigger at x guard args ∷ before) (k + counts (reads (numbers_of s) (all_of s) before (d.Trigger at x guard args))) ys q.1,
    )
