-- A call of `step` and a run keep the statics as the unit declares them.
use Rattle.std.proofs.Common.{◌≡◌, ℕ, zero, suc, Bool, true, false, ◌&&◌, ◌||◌, ◌++◌, List, [], ◌∷◌, Option, Some, None, Result, Ok, Err, refl, subst, arith}
use Rattle.std.specs.Prelude.{IsTrue, IfOk, nat_eq, All}
use Rattle.std.specs.List.{list_all, filter_map, AllZip, AllByRecursion}
use Rattle.std.specs.Option.{option_map, option_map_or}
use Rattle.std.proofs.lemmas.List.{length-map}
use Rattle.c99_tree.specs.declared.types.CTy.{CTy}
use Rattle.c99_tree.specs.declared.types.CVar.{CVar}
use Rattle.c99_tree.specs.declared.undefined.Undefined.{Undefined}
use Rattle.c99_tree.specs.declared.unit.CRing.{CRing}
use Rattle.c99_tree.specs.declared.unit.Unit.{Unit as CUnit}
use Rattle.c99_tree.specs.Tree.{Expr, Stmt, statements}
use Rattle.c99_tree.specs.Words.{is_same}
use Rattle.c99_tree.specs.Values.{Value, row_values, no_such_value}
use Rattle.c99_tree.specs.Evaluation.{Statics, evaluate}
use Rattle.c99_tree.specs.Step.{Progress, carry_out, carry_out_all, extern_values, at_entry, step}
use Rattle.c99_tree.specs.Run.{first_statics, Ran, Stopped, row_at, with_step, stepped, run_to}
use Rattle.c99_tree.specs.WellFormed.{parts_in, is_in_range, is_statement_there, has_all_arguments, is_scalar_where_asked, has_scalar_subscript, has_fitting_values, is_written_after_next, writes_its_way, each_after, each_part, each_statement, has_array_length, reads_its_way, next_of, are_distinct, is_there, lengths_are_in_range, IsWellFormed}
use Rattle.c99_tree.specs.Lookup.{arrays_in}
use Rattle.c99_tree.specs.Typed.{IsValueOf, IsStatics, IsRow, IsCallOf, IsTyped, GivesValueOf, IsEntry, IsStepOf, IsRunOf, AreRows}
use Rattle.c99_tree.proofs.Shaped.{externs_shaped}
use Rattle.c99_tree.proofs.TypedValues.{then_gives}
use Rattle.c99_tree.proofs.TypedExpressions.{Gives, has_length, evaluate_gives}
use Rattle.c99_tree.proofs.TypedShapes.{IfSome, RowOf, first_copies_are, first_rings_are, row_values_are}
use Rattle.c99_tree.proofs.TypedStatements.{Ruled, IsProgress, carry_out-is, push_all}
use Rattle.sm_io.proofs.Truths.{left_passes, right_passes}
use Rattle.sm_io.proofs.Elements.{all_by_place}

-- ---- the statements of a call of `step`

-- what the rules say of statements that stand behind these
pub record RuledAll (u : CUnit) (before ss : List Stmt) : Type 0 where
  pub lengths : list_all has_length u.rings ≡ true
  pub single : list_all (λ r. r.indexed || nat_eq r.len 1) u.rings ≡ true
  pub ranged : list_all (λ s. list_all is_in_range (parts_in s)) ss ≡ true
  pub there : list_all (is_statement_there u) ss ≡ true
  pub full : list_all (has_all_arguments u) ss ≡ true
  pub scalar : list_all (is_scalar_where_asked u) ss ≡ true
  pub fitting : list_all (has_fitting_values u) ss ≡ true
  pub after_next : each_after is_written_after_next before ss ≡ true
  pub way : list_all (writes_its_way u) ss ≡ true

pub first_ruled : (u : CUnit) (before : List Stmt) (s : Stmt) (ss : List Stmt) → RuledAll u before (s ∷ ss) → Ruled u before s
first_ruled u before s ss c =
    record {
      lengths = c.lengths;
      single = c.single;
      ranged = left_passes (list_all is_in_range (parts_in s)) (list_all (λ z. list_all is_in_range (parts_in z)) ss) c.ranged;
      there = left_passes (is_statement_there u s) (list_all (is_statement_there u) ss) c.there;
      full = left_passes (has_all_arguments u s) (list_all (has_all_arguments u) ss) c.full;
      scalar = left_passes (is_scalar_where_asked u s) (list_all (is_scalar_where_asked u) ss) c.scalar;
      fitting = left_passes (has_fitting_values u s) (list_all (has_fitting_values u) ss) c.fitting;
      after_next = left_passes (is_written_after_next before s) (each_after is_written_after_next (before ++ s ∷ []) ss) c.after_next;
      way = left_passes (writes_its_way u s) (list_all (writes_its_way u) ss) c.way;
    }

pub rest_ruled : (u : CUnit) (before : List Stmt) (s : Stmt) (ss : List Stmt) → RuledAll u before (s ∷ ss) → RuledAll u (before ++ s ∷ []) ss
rest_ruled u before s ss c =
    record {
      lengths = c.lengths;
      single = c.single;
      ranged = right_passes (list_all is_in_range (parts_in s)) (list_all (λ z. list_all is_in_range (parts_in z)) ss) c.ranged;
      there = right_passes (is_statement_there u s) (list_all (is_statement_there u) ss) c.there;
      full = right_passes (has_all_arguments u s) (list_all (has_all_arguments u) ss) c.full;
      scalar = right_passes (is_scalar_where_asked u s) (list_all (is_scalar_where_asked u) ss) c.scalar;
      fitting = right_passes (has_fitting_values u s) (list_all (has_fitting_values u) ss) c.fitting;
      after_next = right_passes (is_written_after_next before s) (each_after is_written_after_next (before ++ s ∷ []) ss) c.after_next;
      way = right_passes (writes_its_way u s) (list_all (writes_its_way u) ss) c.way;
    }

carry_out_all-is : (u : CUnit) (xs : List Value) (before ss : List Stmt) (p : Progress) → AllZip (λ (y : CVar) v. IsValueOf u.types y.ty v) u.externs xs → RuledAll u before ss → IsProgress u before p
    → IfOk (carry_out_all u xs ss p).value (IsStepOf u)
unfolding carry_out_all
carry_out_all-is u xs before [] p row c g = (g.statics, all_by_place (IsCallOf u) p.called g.called)
carry_out_all-is u xs before (s ∷ ss) p row c g =
    then_gives (carry_out u xs s p) (carry_out_all u xs ss) (IsProgress u (before ++ s ∷ [])) (IsStepOf u) (carry_out-is u xs before s p row (first_ruled u before s ss c) g)
    (λ q h. carry_out_all-is u xs (before ++ s ∷ []) ss q row (rest_ruled u before s ss c) h)

-- ---- what the rules say of a unit

five : (a b c d e : Bool) → (a && b && c && d && e) ≡ true → (b ≡ true) × (c ≡ true) × (e ≡ true)
five true true true true true h = (refl, refl, refl)
five true true true true false h = absurd (cc h)
five true true true false e h = absurd (cc h)
five true true false d e h = absurd (cc h)
five true false c d e h = absurd (cc h)
five false b c d e h = absurd (cc h)

pub ring_lengths : (u : CUnit) → IsTrue (lengths_are_in_range u) → list_all has_length u.rings ≡ true
ring_lengths u h = right_passes (list_all has_array_length (arrays_in u.types)) (list_all has_length u.rings) h

pub unit_ruled : (u : CUnit) → IsWellFormed u → RuledAll u [] (statements u)
unit_ruled u w =
    let rings = five (are_distinct is_same (filter_map next_of (statements u))) (each_after is_written_after_next [] (statements u)) (list_all (λ r. r.indexed || nat_eq r.len 1) u.rings) (each_part (reads_its_way u) u) (each_statement (writes_its_way u) u) w.rings in
    record {
      lengths = ring_lengths u w.lengths;
      single = rings.1;
      ranged = w.literals;
      there = left_passes (each_statement (is_statement_there u) u) (each_part (is_there u) u) w.used_there;
      full = w.arguments;
      scalar = left_passes (each_statement (is_scalar_where_asked u) u) (each_part (has_scalar_subscript u) u) w.scalars;
      fitting = w.assigned;
      after_next = rings.0;
      way = rings.2;
    }

pub at_entry-is : (u : CUnit) (s : Statics) → IsStatics u s → IsProgress u [] (at_entry u s)
at_entry-is u s h = record { statics = h; long = length-map u.rings (λ (r : CRing). no_such_value); locals = λ r ring e n. absurd (cc n); called = tt }

row_typed : (u : CUnit) (o : Option (List Value × List ℕ)) → IfSome o (RowOf u.types u.externs) → option_map (λ (a : List Value × List ℕ). a.1) o ≡ Some [] → AllZip (λ (y : CVar) v. IsValueOf u.types y.ty v) u.externs (option_map_or (λ (a : List Value × List ℕ). a.0) o [])
row_typed u None h e = absurd (cc e)
row_typed u (Some a) h e = h

pub externs_are : (u : CUnit) (row : List ℕ) → IsRow u row → AllZip (λ (y : CVar) v. IsValueOf u.types y.ty v) u.externs (extern_values u row)
externs_are u row h = row_typed u (row_values u.types u.externs row) (row_values_are u.types u.externs row) h

-- ---- the laws

pub value_is : (u : CUnit) (s : Statics) (e : Expr) (r : CTy) → IsTrue (lengths_are_in_range u) → IsStatics u s → IsTyped u e r → GivesValueOf u s e r
value_is u s e r l h g =
    subst (λ (o : Option CTy). Gives u.types o (evaluate u s e).value) g.1 (evaluate_gives u s (record { statics = h; lengths = ring_lengths u l }) e g.0)

pub first_statics_are : (u : CUnit) → IsWellFormed u → IsStatics u (first_statics u)
first_statics_are u w = record { copies = first_copies_are u.types u.externs (externs_shaped u w.types_first); rings = first_rings_are u.types u.rings w.constants }

pub step_is : (u : CUnit) (s : Statics) (row : List ℕ) → IsEntry u s row → IfOk (step u s row).value (IsStepOf u)
step_is u s row h = carry_out_all-is u (extern_values u row) [] (statements u) (at_entry u s) (externs_are u row h.given) (unit_ruled u h.well_formed) (at_entry-is u s h.statics)

abbrev HasRun : CUnit → Ran → Type 0
HasRun u ran = IsStatics u ran.statics × AllByRecursion (All (IsCallOf u)) ran.called

step_runs : (u : CUnit) (n : ℕ) (ran : Ran) (r : Result Progress Undefined) → HasRun u ran → IfOk r (IsStepOf u) → IfOk (with_step n ran.called r) (HasRun u)
step_runs u n ran (Ok p) h g = (g.0, push_all (All (IsCallOf u)) ran.called p.called h.1 g.1)
step_runs u n ran (Err e) h g = tt

runs_on : (u : CUnit) (row : List ℕ) (n : ℕ) (r : Result Ran Stopped) → IsWellFormed u → IsRow u row → IfOk r (HasRun u) → IfOk (stepped u row n r) (HasRun u)
runs_on u row n (Ok ran) w g h = step_runs u n ran (step u ran.statics row).value h (step_is u ran.statics row (record { well_formed = w; statics = h.0; given = g }))
runs_on u row n (Err stop) w g h = tt

runs : (u : CUnit) (rows : List (List ℕ)) (n : ℕ) → IsWellFormed u → AreRows u rows n → IfOk (run_to u rows n) (HasRun u)
unfolding run_to
runs u rows zero w g = (first_statics_are u w, tt)
runs u rows (suc n) w g = runs_on u (row_at rows n) n (run_to u rows n) w (g n (omega arith)) (runs u rows n w (λ k l. g k (omega (arith, l))))

all_run : (u : CUnit) (r : Result Ran Stopped) → IfOk r (HasRun u) → IfOk r (IsRunOf u)
all_run u (Ok ran) h = (h.0, all_by_place (All (IsCallOf u)) ran.called h.1)
all_run u (Err stop) h = tt

pub run_is : (u : CUnit) (rows : List (List ℕ)) (n : ℕ) → IsWellFormed u → AreRows u rows n → IfOk (run_to u rows n) (IsRunOf u)
run_is u rows n w g = all_run u (run_to u rows n) (runs u rows n w g)
