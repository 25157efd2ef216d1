-- What the statements of a well formed unit look up is there.
use Rattle.std.proofs.Common.{◌∙◌, ◌≡◌, ℕ, Bool, true, false, ◌++◌, List, [], ◌∷◌, length, Option, Some, None, refl, subst, arith}
use Rattle.std.specs.Prelude.{IsSome, is_some, IfOk, nat_eq, slice_get, All}
use Rattle.std.specs.List.{list_all, list_any, flat_map, AllZip, AllByRecursion}
use Rattle.std.specs.Option.{option_map_or}
use Rattle.std.proofs.lemmas.Option.{slice_get_within}
use Rattle.c99_tree.specs.declared.types.CScalar.TheVariants as t
use Rattle.c99_tree.specs.declared.types.CTy.{CTy}
use Rattle.c99_tree.specs.declared.types.CTy.TheVariants as ty
use Rattle.c99_tree.specs.declared.types.CVar.{CVar}
use Rattle.c99_tree.specs.declared.types.CProto.{CProto}
use Rattle.c99_tree.specs.declared.unit.CRing.{CRing}
use Rattle.c99_tree.specs.declared.unit.Unit.{Unit as CUnit}
use Rattle.c99_tree.specs.Tree.{Expr, Exprs, Stmt, copies, calls, nexts, stores, moves, puts, statements}
use Rattle.c99_tree.specs.Words.{is_same}
use Rattle.c99_tree.specs.Lookup.{var_of, ring_of, handler_of, place_of_var, place_of_ring}
use Rattle.c99_tree.specs.Values.{Value}
use Rattle.c99_tree.specs.Typing.{types_of, type_of, fits_in, scalar_type, is_scalar_type}
use Rattle.c99_tree.specs.Evaluation.{Statics}
use Rattle.c99_tree.specs.Step.{Progress, carry_out, carry_out_all, extern_values, at_entry}
use Rattle.c99_tree.specs.WellFormed.{fit_params, parts_of_all, parts_of, list_of, parts_in, expressions_in, is_in_range, is_there, is_statement_there, each_part, each_statement, is_next_of, IsWellFormed}
use Rattle.c99_tree.specs.Typed.{IsValueOf, IsStatics, IsEntry}
use Rattle.c99_tree.specs.LookUps.{HoldsLocal, GivesFor, GiveFor, Finds, FindsFor, AllFind, StandsBehind, FindsAfter}
use Rattle.c99_tree.proofs.LookedUp.{found_along, found_there, found, there_is, same_number}
use Rattle.c99_tree.proofs.TypedValues.{then_gives, params_fit, types_long}
use Rattle.c99_tree.proofs.TypedExpressions.{Premises, halves}
use Rattle.c99_tree.proofs.TypedStatements.{Ruled, IsProgress, premises, only_parts, args_parts, carry_out-is}
use Rattle.c99_tree.proofs.TypedRuns.{RuledAll, first_ruled, rest_ruled, ring_lengths, unit_ruled, at_entry-is, externs_are}
use Rattle.c99_tree.proofs.ExpressionsFind.{Passed, left_passed, right_passed, all_both, finds, gives_number, gives_for, give_for, ring_held}
use Rattle.sm_io.proofs.Truths.{left_passes, right_passes}
use Rattle.sm_io.proofs.Elements.{get_within, all_by_place}

-- ---- the expressions of the statements

finds_list : (u : CUnit) (s : Statics) (c : Premises u s) (es : List Expr) → Passed u (flat_map parts_of es) → AllByRecursion (Finds u s) (flat_map parts_of es)
finds_list u s c [] p = tt
finds_list u s c (e ∷ es) p =
    all_both (Finds u s) (parts_of e) (flat_map parts_of es) (finds u s c e (left_passed u (parts_of e) (flat_map parts_of es) p)) (finds_list u s c es (right_passed u (parts_of e) (flat_map parts_of es) p))

abbrev each_in : (Expr → Bool) → List Stmt → Bool
each_in p ss = list_all (λ s. list_all p (parts_in s)) ss

finds_statements : (u : CUnit) (s : Statics) (c : Premises u s) (ss : List Stmt) → each_in is_in_range ss ≡ true → each_in (λ e. is_some (type_of u e)) ss ≡ true → each_in (is_there u) ss ≡ true
    → AllByRecursion (λ st. All (Finds u s) (parts_in st)) ss
finds_statements u s c [] h g i = tt
finds_statements u s c (st ∷ ss) h g i =
    let p : Passed u (parts_in st) = record {
      ranged = left_passes (list_all is_in_range (parts_in st)) (each_in is_in_range ss) h;
      typed = left_passes (list_all (λ e. is_some (type_of u e)) (parts_in st)) (each_in (λ e. is_some (type_of u e)) ss) g;
      there = left_passes (list_all (is_there u) (parts_in st)) (each_in (is_there u) ss) i;
    } in (
      all_by_place (Finds u s) (parts_in st) (finds_list u s c (expressions_in st) p),
      finds_statements u s c ss (right_passes (list_all is_in_range (parts_in st)) (each_in is_in_range ss) h) (right_passes (list_all (λ e. is_some (type_of u e)) (parts_in st)) (each_in (λ e. is_some (type_of u e)) ss) g) (right_passes (list_all (is_there u) (parts_in st)) (each_in (is_there u) ss) i),
    )

pub expressions_find : (u : CUnit) (s : Statics) → IsWellFormed u → IsStatics u s → AllFind u s
expressions_find u s w h =
    all_by_place (λ st. All (Finds u s) (parts_in st)) (statements u)
    (finds_statements u s (record { statics = h; lengths = ring_lengths u w.lengths }) (statements u) w.literals w.types (right_passes (each_statement (is_statement_there u) u) (each_part (is_there u) u) w.used_there))

-- ---- one statement

along : (R : CVar → Value → Type 0) (externs : List CVar) (vs : List Value) (x : List ℕ) → AllZip R externs vs → IsSome (var_of externs x) → IsSome (slice_get vs (place_of_var externs x))
along R externs vs x h i =
    let v = found (var_of externs x) i in
    let f = found_along R (λ (z : CVar). is_same x z.name) externs vs v.0 h v.1 in
    there_is (slice_get vs (place_of_var externs x)) f.value f.there

asked_scalar : (o : Option CTy) → option_map_or is_scalar_type o false ≡ true → IsSome (scalar_type o)
asked_scalar None h = absurd (cc h)
asked_scalar (Some (ty.Scalar c)) h = refl
asked_scalar (Some (ty.Struct x)) h = absurd (cc h)
asked_scalar (Some (ty.Array x n)) h = absurd (cc h)

index_scalar : (o : Option CTy) → fits_in o (ty.Scalar t.U32) ≡ true → IsSome (scalar_type o)
index_scalar None h = absurd (cc h)
index_scalar (Some (ty.Scalar c)) h = refl
index_scalar (Some (ty.Struct x)) h = absurd (cc h)
index_scalar (Some (ty.Array x n)) h = absurd (cc h)

handler_found : (u : CUnit) (s : Statics) (c : Premises u s) (args : Exprs) (o : Option CProto) → list_all is_in_range (parts_of_all args) ≡ true → option_map_or (λ q. nat_eq (length (list_of args)) (length q.params)) o false ≡ true
    → option_map_or (λ q. fit_params (types_of u args) q.params) o false ≡ true → (proto : CProto) × (o ≡ Some proto) × GiveFor u s proto.params args
handler_found u s c args None p h f = absurd (cc h)
handler_found u s c args (Some proto) p h f =
    let long : length (types_of u args) ≡ length proto.params = types_long u args ∙ same_number (length (list_of args)) (length proto.params) h in
    (proto, refl, give_for u s c proto.params args p (params_fit (types_of u args) proto.params long f))

next_found : (u : CUnit) (s : Statics) (c : Premises u s) (e : Expr) (o : Option CRing) → list_all is_in_range (parts_of e) ≡ true → option_map_or (λ ring. fits_in (type_of u e) ring.ty) o false ≡ true
    → (ring : CRing) × (o ≡ Some ring) × GivesFor u s ring.ty e
next_found u s c e None p f = absurd (cc f)
next_found u s c e (Some ring) p f = (ring, refl, gives_for u s c ring.ty e p f)

local_slot : (u : CUnit) (before : List Stmt) (p : Progress) (r : List ℕ) → IsProgress u before p → IsSome (ring_of u r) → IsSome (slice_get p.locals (place_of_ring u r))
local_slot u before p r g i =
    let v = found (ring_of u r) i in
    let n = slice_get_within u.rings (place_of_ring u r) v.0 (found_there (λ (z : CRing). is_same r z.name) u.rings v.0 v.1) in
    let f = get_within p.locals (place_of_ring u r) (omega (arith, n, g.long)) in
    there_is (slice_get p.locals (place_of_ring u r)) f.0 f.1

local_held : (u : CUnit) (before : List Stmt) (p : Progress) (r : List ℕ) → IsProgress u before p → IsSome (ring_of u r) → list_any (is_next_of r) before ≡ true → HoldsLocal u p r
local_held u before p r g i n = let v = found (ring_of u r) i in (v.0, v.1, g.locals r v.0 v.1 n)

pub finds_for : (u : CUnit) (xs : List Value) (before : List Stmt) (st : Stmt) (p : Progress) → AllZip (λ (y : CVar) v. IsValueOf u.types y.ty v) u.externs xs → Ruled u before st → IsProgress u before p → FindsFor u xs p st
finds_for u xs before (copies x) p row c g =
    (along (λ (y : CVar) v. IsValueOf u.types y.ty v) u.externs xs x row c.there, along (λ (y : CVar) v. IsValueOf u.types y.ty v) u.externs p.statics.copies x g.statics.copies c.there)
finds_for u xs before (calls h guard args) p row c g =
    (gives_number u p.statics (premises u before (calls h guard args) p c g) guard (halves is_in_range (parts_of guard) (flat_map parts_of (list_of args)) c.ranged).0 (asked_scalar (type_of u guard) c.scalar), handler_found u p.statics (premises u before (calls h guard args) p c g) args (handler_of u h) (args_parts guard args c.ranged) c.full c.fitting)
finds_for u xs before (nexts r e) p row c g =
    (local_slot u before p r g c.there, next_found u p.statics (premises u before (nexts r e) p c g) e (ring_of u r) (only_parts e c.ranged) c.fitting)
finds_for u xs before (stores r e) p row c g =
    (ring_held u p.statics r g.statics c.there, gives_number u p.statics (premises u before (stores r e) p c g) e (only_parts e c.ranged) (asked_scalar (type_of u e) c.scalar), local_held u before p r g c.there c.after_next)
finds_for u xs before (moves r e) p row c g =
    (ring_held u p.statics r g.statics c.there, gives_number u p.statics (premises u before (moves r e) p c g) e (only_parts e c.ranged) (index_scalar (type_of u e) c.fitting))
finds_for u xs before (puts r) p row c g = (ring_held u p.statics r g.statics c.there, local_held u before p r g c.there c.after_next)

-- ---- the statement that stands behind these

abbrev IsReady : CUnit → List Value → Stmt → Progress → Type 0
IsReady u xs st p = IsStatics u p.statics × FindsFor u xs p st

reached : (u : CUnit) (xs : List Value) (before ss : List Stmt) (st : Stmt) (rest : List Stmt) (p : Progress) → AllZip (λ (y : CVar) v. IsValueOf u.types y.ty v) u.externs xs → RuledAll u before (ss ++ st ∷ rest) → IsProgress u before p
    → IfOk (carry_out_all u xs ss p).value (IsReady u xs st)
unfolding carry_out_all
reached u xs before [] st rest p row c g = (g.statics, finds_for u xs before st p row (first_ruled u before st rest c) g)
reached u xs before (s ∷ ss) st rest p row c g =
    then_gives (carry_out u xs s p) (carry_out_all u xs ss) (IsProgress u (before ++ s ∷ [])) (IsReady u xs st) (carry_out-is u xs before s p row (first_ruled u before s (ss ++ st ∷ rest) c) g)
    (λ q h. reached u xs (before ++ s ∷ []) ss st rest q row (rest_ruled u before s (ss ++ st ∷ rest) c) h)

pub statements_find : (u : CUnit) (s : Statics) (row : List ℕ) (before : List Stmt) (st : Stmt) → IsEntry u s row → StandsBehind u before st → FindsAfter u s row before st
statements_find u s row before st h e =
    reached u (extern_values u row) [] before st e.0 (at_entry u s) (externs_are u row h.given) (subst (RuledAll u []) e.1 (unit_ruled u h.well_formed)) (at_entry-is u s h.statics)
