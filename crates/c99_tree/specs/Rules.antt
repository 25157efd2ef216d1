-- The rules as the checks go through them: proofs/Whole.antt proves that they are those of WellFormed.antt. No public
-- clause cites them.
use Rattle.std.specs.Prelude.{ℕ, Bool, true, false, ◌&&◌, ◌||◌, nat_eq, List, [], ◌∷◌, Option, Some, None}
use Rattle.std.specs.List.{filter_map, list_all}
use Rattle.sm_io.specs.Words.{is_name}
use Rattle.c99_tree.specs.declared.types.CDef.{CDef}
use Rattle.c99_tree.specs.declared.unit.CRing.{CRing}
use Rattle.c99_tree.specs.declared.unit.Unit.{Unit as CUnit}
use Rattle.c99_tree.specs.Tree.{statements}
use Rattle.c99_tree.specs.Words.{is_same}
use Rattle.c99_tree.specs.Spelling.{most_height}
use Rattle.c99_tree.specs.Values.{shape_of}
use Rattle.c99_tree.specs.Filling.{left_of_times}
use Rattle.c99_tree.specs.Checks.{is_sound_statement}
use Rattle.c99_tree.specs.WellFormed.{has_names_def, has_names_var, has_names_handler, has_names_ring, names_are_distinct, types_come_first, structs_have_fields, lengths_are_in_range, each_statement, copies_come_first, totals_are_right, are_distinct, each_after, is_written_after_next, next_of}

-- the names outside of the step
abbrev pub has_names : CUnit → Bool
has_names u =
    is_name u.name && list_all has_names_def u.types && list_all has_names_var u.externs
    && list_all has_names_handler u.handlers && list_all has_names_ring u.rings

-- what is declared is named well and in range, each type before its use
abbrev pub is_declared_well : CUnit → Bool
is_declared_well u = has_names u && names_are_distinct u && structs_have_fields u && lengths_are_in_range u && types_come_first u

abbrev pub is_nothing_left : Option (List ℕ) → Bool
is_nothing_left None = false
is_nothing_left (Some []) = true
is_nothing_left (Some (w ∷ ws)) = false

-- a ring has its constants, none too high
abbrev pub is_filled : List CDef → CRing → Bool
is_filled ds r = is_nothing_left (left_of_times most_height r.len (shape_of ds r.ty) r.init)

-- without an index a ring is one value
abbrev pub is_long_as_used : CRing → Bool
is_long_as_used r = r.indexed || nat_eq r.len 1

abbrev pub has_sound_rings : CUnit → Bool
has_sound_rings u = list_all is_long_as_used u.rings && list_all (is_filled u.types) u.rings

-- each statement is sound by itself, and stands after those that it needs
abbrev pub has_sound_step : CUnit → Bool
has_sound_step u =
    each_statement (is_sound_statement u) u && copies_come_first u
    && are_distinct is_same (filter_map next_of (statements u))
    && each_after is_written_after_next [] (statements u)

abbrev pub is_sound : CUnit → Bool
is_sound u = is_declared_well u && has_sound_rings u && has_sound_step u && totals_are_right u
