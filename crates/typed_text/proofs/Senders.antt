-- The triggers of one name in a text without a fault have one list of argument types.
use Rattle.std.proofs.Common.{◌≡◌, ℕ, zero, suc, ◌+◌, Bool, true, false, List, [], ◌∷◌, map, refl, sym, ap, ◌∙◌, subst, inl, inr}
use Rattle.std.specs.Prelude.{◌⊎◌, ◌&&◌, if◌then◌else◌, is_some, bytes_eq, slice_get, Option, Some, None, IsTrue}
use Rattle.std.specs.List.{flat_map, AllByRecursion}
use Rattle.std.specs.Option.{option_map_or}
use Rattle.std.specs.Cmp.Lexicographic.{nat_list_eq_equiv}
use Rattle.std.proofs.lemmas.Bool.{and_parts}
use Rattle.stream_types.specs.declared.scalar.Ty.{Ty}
use Rattle.stream_types.specs.TypeList.{IsTypeList}
use Rattle.stream_core.specs.Term.{TreeRoot, TreeTrigger}
use Rattle.spec_text.specs.declared.surface.NameAt.{NameAt}
use Rattle.spec_text.specs.declared.surface.Expr.{Expr}
use Rattle.spec_text.specs.declared.surface.Decl.{Decl}
use Rattle.spec_text.specs.declared.surface.Decl.TheVariants as d
use Rattle.spec_text.specs.declared.surface.Surface.{Surface}
use Rattle.type_check.specs.NamedType.{NamedType, bool, same_type, Declarations}
use Rattle.type_check.specs.Judged.{Judged, type_of, types_of, judge_expr}
use Rattle.type_check.specs.Untyped.{Sent, first_sent, sent_types, agree, judge_exprs, reversed, all_of}
use Rattle.type_check.specs.TypeOrder.{type_order, ty_of, types_of_text}
use Rattle.type_check.proofs.Meaning.{same_true}
use Rattle.typed_text.specs.ReadSpec.{Numbers, Read, Placed, numbers_of, read_expr, counts, reads, placed, roots, roots_from, trigger_item}
use Rattle.typed_text.proofs.Sound.{AllSound}
use Rattle.typed_text.proofs.Judging.{judged_same}
use Rattle.typed_text.proofs.Places.{EachDecl, IsDecl}
use Rattle.typed_text.proofs.Environment.{IsSoundText, kept_signatures}
use Rattle.typed_text.proofs.Streams.{scope_at}
use Rattle.typed_text.proofs.Decls.{reads_sound}
use Rattle.typed_text.proofs.GoodRoots.{has_type, trigger_sent}

-- ---- the first trigger of a name

sent_next : (ds : Declarations) (y : Decl) (n : List ℕ) (v : Sent) → first_sent ds n ≡ Some v → first_sent (y ∷ ds) n ≡ Some v
sent_next ds (d.Trigger at x guard args) n v h = ap (λ o. option_map_or (λ sent. Some sent) o (if bytes_eq x.name n then Some (record { before = ds; args = args }) else None)) h
sent_next ds (d.Struct at x fields) n v h = h
sent_next ds (d.Extern at x ty) n v h = h
sent_next ds (d.Stream at x ty init e) n v h = h
sent_next ds (d.Def at x ty e) n v h = h
sent_next ds (d.Observer at x e) n v h = h

sent_on : (ds : Declarations) (ys : List Decl) (n : List ℕ) (v : Sent) → first_sent ds n ≡ Some v → first_sent (reversed ds ys) n ≡ Some v
sent_on ds [] n v h = h
sent_on ds (y ∷ ys) n v h = sent_on (y ∷ ds) ys n v (sent_next ds y n v h)

sent_there : (ds : Declarations) (at : ℕ) (x : NameAt) (guard : Expr) (args : List Expr) (o : Option Sent) → first_sent ds x.name ≡ o → (v : Sent) × (first_sent (d.Trigger at x guard args ∷ ds) x.name ≡ Some v)
sent_there ds at x guard args (Some v) h = (v, sent_next ds (d.Trigger at x guard args) x.name v h)
sent_there ds at x guard args None h = (
  record { before = ds; args = args },
  ap (λ o. option_map_or (λ sent. Some sent) o (if bytes_eq x.name x.name then Some (record { before = ds; args = args }) else None)) h
      ∙ ap (λ b. if b then Some (record { before = ds; args = args }) else None) (nat_list_eq_equiv.refl x.name),
)

-- it is a trigger of the text
record IsSender (s : Surface) (v : Sent) : Type 0 where
  at : ℕ
  name : NameAt
  guard : Expr
  known : IsDecl s v.before (d.Trigger at name guard v.args)

one_sender : (s : Surface) (ds : Declarations) (at : ℕ) (x : NameAt) (guard : Expr) (args : List Expr) (v : Sent) (b : Bool) → IsDecl s ds (d.Trigger at x guard args) → (if b then Some (record { before = ds; args = args }) else None) ≡ Some v → IsSender s v
one_sender s ds at x guard args v true h e =
    let own : Sent = record { before = ds; args = args } in
    let f : own ≡ v = cc in subst (IsSender s) f (record { at = at; name = x; guard = guard; known = h })
one_sender s ds at x guard args v false h e = absurd (cc)

or_sender : (s : Surface) (ds : Declarations) (at : ℕ) (x : NameAt) (guard : Expr) (args : List Expr) (n : List ℕ) (v : Sent) (o : Option Sent) → first_sent ds n ≡ o → IsDecl s ds (d.Trigger at x guard args)
    → option_map_or (λ sent. Some sent) o (if bytes_eq x.name n then Some (record { before = ds; args = args }) else None) ≡ Some v → (first_sent ds n ≡ Some v) ⊎ IsSender s v
or_sender s ds at x guard args n v (Some w) h k e = inl (h ∙ e)
or_sender s ds at x guard args n v None h k e = inr (one_sender s ds at x guard args v (bytes_eq x.name n) k e)

sender_more : (s : Surface) (ds : Declarations) (y : Decl) (n : List ℕ) (v : Sent) → IsDecl s ds y → first_sent (y ∷ ds) n ≡ Some v → (first_sent ds n ≡ Some v) ⊎ IsSender s v
sender_more s ds (d.Trigger at x guard args) n v k e = or_sender s ds at x guard args n v (first_sent ds n) refl k e
sender_more s ds (d.Struct at x fields) n v k e = inl e
sender_more s ds (d.Extern at x ty) n v k e = inl e
sender_more s ds (d.Stream at x ty init u) n v k e = inl e
sender_more s ds (d.Def at x ty u) n v k e = inl e
sender_more s ds (d.Observer at x u) n v k e = inl e

sender_located : (s : Surface) (ds : Declarations) (ys : List Decl) (n : List ℕ) (v : Sent) → EachDecl (IsDecl s) ds ys → first_sent (reversed ds ys) n ≡ Some v → (first_sent ds n ≡ Some v) ⊎ IsSender s v
sender_located s ds [] n v q e = inl e
sender_located s ds (y ∷ ys) n v q e = elim (sender_located s (y ∷ ds) ys n v q.1 e) [ inl p ↦ sender_more s ds y n v q.0 p | inr r ↦ inr r ]

sender_found : (s : Surface) (n : List ℕ) (v : Sent) → EachDecl (IsDecl s) [] s.decls → first_sent (all_of s) n ≡ Some v → IsSender s v
sender_found s n v q e = elim (sender_located s [] s.decls n v q e) [ inl p ↦ absurd (cc) | inr r ↦ r ]

-- ---- its arguments have types

abbrev own : Option NamedType → NamedType
own o = option_map_or (λ u. u) o bool

agree_same : (ss : List (Option NamedType)) (ts : List NamedType) → AllByRecursion (λ o. IsTrue (is_some o)) ss → agree ss ts ≡ true → map own ss ≡ ts
agree_same [] [] h e = refl
agree_same [] (u ∷ ts) h e = absurd (cc)
agree_same (o ∷ ss) [] h e = absurd (cc)
agree_same (None ∷ ss) (u ∷ ts) h e = absurd (let no = h.0 in cc)
agree_same (Some w ∷ ss) (u ∷ ts) h e =
    let p = and_parts (same_type w u) (agree ss ts) e in
    ap (λ x. x ∷ map own ss) (same_true w u p.0) ∙ ap (λ xs. u ∷ xs) (agree_same ss ts h.1 p.1)

each_some : (s : Surface) (before : Declarations) (es : List Expr) → AllSound (type_order s) (all_of s) (kept_signatures s) (map (read_expr (numbers_of s) (scope_at s before)) es) → AllByRecursion (λ o. IsTrue (is_some o)) (map (λ (a : Judged). a.ty) (judge_exprs (scope_at s before) es))
each_some s before [] h = tt
each_some s before (e ∷ es) h = (has_type s before e h.0, each_some s before es h.1)

-- the types that are sent by triggers of a name
abbrev pub sent_tys : Surface → List ℕ → List Ty
sent_tys s n = map (ty_of (type_order s)) (map own (sent_types (all_of s) (first_sent (all_of s) n)))

arg_tys : (s : Surface) (before : Declarations) (k : ℕ) (es : List Expr) → map (λ (r : TreeRoot). r.ty) (roots_from (numbers_of s) k (map (read_expr (numbers_of s) (scope_at s before)) es) es) ≡ map (ty_of (type_order s)) (types_of (judge_exprs (scope_at s before) es))
arg_tys s before k [] = refl
arg_tys s before k (e ∷ es) =
    let p = read_expr (numbers_of s) (scope_at s before) e in
    ap (λ (j : Judged). ty_of (type_order s) (type_of j) ∷ map (λ (r : TreeRoot). r.ty) (roots_from (numbers_of s) (k + p.count) (map (read_expr (numbers_of s) (scope_at s before)) es) es)) (judged_same (numbers_of s) (scope_at s before) e)
    ∙ ap (λ us. ty_of (type_order s) (type_of (judge_expr (scope_at s before) e)) ∷ us) (arg_tys s before (k + p.count) es)

one_list : (s : Surface) → IsSoundText s → IsTypeList (types_of_text s) → EachDecl (IsDecl s) [] s.decls → (before : Declarations) (at : ℕ) (x : NameAt) (guard : Expr) (args : List Expr) (ys : List Decl) → all_of s ≡ reversed before (d.Trigger at x guard args ∷ ys) → IsDecl s before (d.Trigger at x guard args)
    → map (ty_of (type_order s)) (types_of (judge_exprs (scope_at s before) args)) ≡ sent_tys s x.name
one_list s text list all before at x guard args ys is h =
    let v = sent_there before at x guard args (first_sent before x.name) refl in
    let later : first_sent (all_of s) x.name ≡ Some v.0 = ap (λ ds. first_sent ds x.name) is ∙ sent_on (d.Trigger at x guard args ∷ before) ys x.name v.0 v.1 in
    let sender = sender_found s x.name v.0 all later in
    let args_ = (reads_sound s text list v.0.before (d.Trigger sender.at sender.name sender.guard v.0.args) sender.known).1 in
    let some = each_some s v.0.before v.0.args args_ in
    let sent = trigger_sent s text list before at x guard args h in
    let agrees = subst (λ o. agree (sent_types (all_of s) o) (types_of (judge_exprs (scope_at s before) args)) ≡ true) v.1 sent.agrees in
    let same = agree_same (sent_types (all_of s) (Some v.0)) (types_of (judge_exprs (scope_at s before) args)) some agrees in
    sym (ap (map (ty_of (type_order s))) same) ∙ ap (λ o. map (ty_of (type_order s)) (map own (sent_types (all_of s) o))) (sym later)

-- Each trigger has the argument types of its name.
pub triggers_alike : (s : Surface) → IsSoundText s → IsTypeList (types_of_text s) → EachDecl (IsDecl s) [] s.decls → (before : Declarations) (k : ℕ) (ys : List Decl) → all_of s ≡ reversed before ys → EachDecl (IsDecl s) before ys
    → AllByRecursion (λ (x : TreeTrigger). map (λ (r : TreeRoot). r.ty) x.args ≡ sent_tys s x.name) (flat_map (λ (p : Placed). trigger_item (roots (numbers_of s) (all_of s) p) p.decl) (placed (numbers_of s) (all_of s) before k ys))
triggers_alike s text list all before k [] is q = tt
triggers_alike s text list all before k (d.Struct at x fields ∷ ys) is q = triggers_alike s text list all (d.Struct at x fields ∷ before) (k + counts (reads (numbers_of s) (all_of s) before (d.Struct at x fields))) ys is q.1
triggers_alike s text list all before k (d.Extern at x ty ∷ ys) is q = triggers_alike s text list all (d.Extern at x ty ∷ before) (k + counts (reads (numbers_of s) (all_of s) before (d.Extern at x ty))) ys is q.1
triggers_alike s text list all before k (d.Stream at x ty init e ∷ ys) is q = triggers_alike s text list all (d.Stream at x ty init e ∷ before) (k + counts (reads (numbers_of s) (all_of s) before (d.Stream at x ty init e))) ys is q.1
triggers_alike s text list all before k (d.Def at x ty e ∷ ys) is q = triggers_alike s text list all (d.Def at x ty e ∷ before) (k + counts (reads (numbers_of s) (all_of s) before (d.Def at x ty e))) ys is q.1
triggers_alike s text list all before k (d.Observer at x e ∷ ys) is q = triggers_alike s text list all (d.Observer at x e ∷ before) (k + counts (reads (numbers_of s) (all_of s) before (d.Observer at x e))) ys is q.1
triggers_alike s text list all before k (d.Trigger at x guard args ∷ ys) is q =
    let p = read_expr (numbers_of s) (scope_at s before) guard in (
      arg_tys s before (k + p.count) args ∙ one_list s text list all before at x guard args ys is q.0,
      triggers_alike s text list all (d.Trigger at x guard args ∷ before) (k + counts (reads (numbers_of s) (all_of s) before (d.Trigger at x guard args))) ys is q.1,
    )
