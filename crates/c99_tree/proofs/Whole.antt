-- The checks together are the rules together.
use Rattle.std.proofs.Common.{◌≡◌, ℕ, List, [], ◌∷◌, Bool, true, false, ◌&&◌, Option, Some, None, refl, sym, ◌∙◌}
use Rattle.std.specs.Prelude.{IsTrue, ◌↔◌, is_some, nat_le, if◌then◌else◌}
use Rattle.std.specs.List.{filter_map, list_all}
use Rattle.std.specs.Option.{option_and_then, option_map_or}
use Rattle.std.proofs.lemmas.Bool.{and_parts, and_from}
use Rattle.c99_tree.specs.declared.types.CDef.{CDef}
use Rattle.c99_tree.specs.declared.unit.CRing.{CRing}
use Rattle.c99_tree.specs.declared.unit.Unit.{Unit as CUnit}
use Rattle.c99_tree.specs.Tree.{statements}
use Rattle.c99_tree.specs.Words.{is_same}
use Rattle.c99_tree.specs.Spelling.{height, constant_height, most_height}
use Rattle.c99_tree.specs.Values.{Value, Shape, filled, repeated, whole, shape_of, first_values}
use Rattle.c99_tree.specs.Filling.{low_list, left_of_times}
use Rattle.c99_tree.specs.Checks.{is_sound_statement}
use Rattle.c99_tree.specs.Rules.{has_names, is_declared_well, is_nothing_left, is_filled, is_long_as_used, has_sound_rings, has_sound_step, is_sound}
use Rattle.c99_tree.specs.WellFormed.{IsWellFormed, names_are_names, names_are_distinct, types_come_first, structs_have_fields, rings_are_filled, copies_come_first, rings_are_used_their_way, lengths_are_in_range, totals_are_right, has_names_statement, has_names_part, each_statement, each_part, is_statement_there, is_there, is_scalar_where_asked, has_scalar_subscript, are_distinct, each_after, is_written_after_next, next_of, reads_its_way, writes_its_way, has_low_constants, expressions_in}
use Rattle.c99_tree.proofs.Soundness.{all-join, StepRules, step_rules, rules_to_sound}
use Rattle.sm_io.proofs.Truths.{left_passes, right_passes, all_weaker}

-- ---- constants

abbrev is_low_list : ℕ → List Value → Bool
is_low_list m vs = list_all (λ v. nat_le (constant_height v) m) vs

-- where words are left, or where some value is too high
nothing-none : (b : Bool) → is_nothing_left (if b then Some [] else None) ≡ (true && b)
nothing-none true = refl
nothing-none false = refl

nothing-some : (b : Bool) (w : ℕ) (ws : List ℕ) → is_nothing_left (if b then Some (w ∷ ws) else None) ≡ false
nothing-some true w ws = refl
nothing-some false w ws = refl

nothing-repeated : (m : ℕ) (o : Option (List Value × List ℕ)) →
    is_nothing_left (option_and_then (low_list m) o) ≡ (is_some (option_and_then whole o) && option_map_or (is_low_list m) (option_and_then whole o) true)
nothing-repeated m None = refl
nothing-repeated m (Some (vs, [])) = nothing-none (is_low_list m vs)
nothing-repeated m (Some (vs, w ∷ ws)) = nothing-some (is_low_list m vs) w ws

nothing-shape : (m n : ℕ) (ws : List ℕ) (s : Option Shape) →
    is_nothing_left (left_of_times m n s ws)
    ≡ (is_some (option_and_then (λ shape. option_and_then whole (repeated n (filled shape) ws)) s)
    && option_map_or (is_low_list m) (option_and_then (λ shape. option_and_then whole (repeated n (filled shape) ws)) s) true)
nothing-shape m n ws None = refl
nothing-shape m n ws (Some shape) = nothing-repeated m (repeated n (filled shape) ws)

-- a ring leaves no word where it is filled and low
filled-rule : (ds : List CDef) (r : CRing) → is_filled ds r ≡ (is_some (first_values ds r) && has_low_constants ds r)
filled-rule ds r = nothing-shape most_height r.len r.init (shape_of ds r.ty)

filled-parts : (ds : List CDef) (r : CRing) → is_filled ds r ≡ true → (is_some (first_values ds r) ≡ true) × (has_low_constants ds r ≡ true)
filled-parts ds r h = and_parts (is_some (first_values ds r)) (has_low_constants ds r) (sym (filled-rule ds r) ∙ h)

filled-both : (ds : List CDef) (r : CRing) → is_some (first_values ds r) ≡ true → has_low_constants ds r ≡ true → is_filled ds r ≡ true
filled-both ds r h g = filled-rule ds r ∙ and_from (is_some (first_values ds r)) (has_low_constants ds r) h g

-- ---- what a conjunction of four or five promises

record Four (a b c d : Bool) : Type 0 where
  first : a ≡ true
  second : b ≡ true
  third : c ≡ true
  fourth : d ≡ true

four : (a b c d : Bool) → (a && b && c && d) ≡ true → Four a b c d
four true true true true h = record { first = refl; second = refl; third = refl; fourth = refl }
four true true true false h = absurd (cc h)
four true true false d h = absurd (cc h)
four true false c d h = absurd (cc h)
four false b c d h = absurd (cc h)

all_four : (a b c d : Bool) → Four a b c d → (a && b && c && d) ≡ true
all_four true true true true h = refl
all_four true true true false h = absurd (cc h.fourth)
all_four true true false d h = absurd (cc h.third)
all_four true false c d h = absurd (cc h.second)
all_four false b c d h = absurd (cc h.first)

-- ---- from the checks to the rules

record Declared (u : CUnit) : Type 0 where
  names : has_names u ≡ true
  spaces : names_are_distinct u ≡ true
  fields : structs_have_fields u ≡ true
  lengths : lengths_are_in_range u ≡ true
  types_first : types_come_first u ≡ true

declared : (u : CUnit) → is_declared_well u ≡ true → Declared u
declared u h =
    let p = and_parts (has_names u && names_are_distinct u && structs_have_fields u && lengths_are_in_range u) (types_come_first u) h in
    let q = four (has_names u) (names_are_distinct u) (structs_have_fields u) (lengths_are_in_range u) p.0 in
    record { names = q.first; spaces = q.second; fields = q.third; lengths = q.fourth; types_first = p.1 }

record SoundRings (u : CUnit) : Type 0 where
  long : list_all is_long_as_used u.rings ≡ true
  filled_are : rings_are_filled u ≡ true
  low_are : list_all (has_low_constants u.types) u.rings ≡ true

sound_rings : (u : CUnit) → has_sound_rings u ≡ true → SoundRings u
sound_rings u h =
    let p = and_parts (list_all is_long_as_used u.rings) (list_all (is_filled u.types) u.rings) h in
    record {
      long = p.0;
      filled_are = all_weaker (is_filled u.types) (λ r. is_some (first_values u.types r)) (λ r g. (filled-parts u.types r g).0) u.rings p.1;
      low_are = all_weaker (is_filled u.types) (has_low_constants u.types) (λ r g. (filled-parts u.types r g).1) u.rings p.1;
    }

abbrev low_expressions : CUnit → Bool
low_expressions u = each_statement (λ s. list_all (λ e. nat_le (height e) most_height) (expressions_in s)) u

abbrev distinct_nexts : CUnit → Bool
distinct_nexts u = are_distinct is_same (filter_map next_of (statements u))

abbrev nexts_first : CUnit → Bool
nexts_first u = each_after is_written_after_next [] (statements u)

names_by : (u : CUnit) → has_names u ≡ true → StepRules u → names_are_names u ≡ true
names_by u h s =
    and_from (has_names u && each_statement has_names_statement u) (each_part has_names_part u)
    (and_from (has_names u) (each_statement has_names_statement u) h s.named) s.part_names

ways_by : (u : CUnit) → distinct_nexts u ≡ true → nexts_first u ≡ true → list_all is_long_as_used u.rings ≡ true → StepRules u → rings_are_used_their_way u ≡ true
ways_by u d n l s =
    and_from (distinct_nexts u && nexts_first u && list_all is_long_as_used u.rings && each_part (reads_its_way u) u) (each_statement (writes_its_way u) u)
    (all_four (distinct_nexts u) (nexts_first u) (list_all is_long_as_used u.rings) (each_part (reads_its_way u) u)
    (record { first = d; second = n; third = l; fourth = s.read })) s.written

to_rules : (u : CUnit) → Declared u → SoundRings u → StepRules u → copies_come_first u ≡ true → distinct_nexts u ≡ true → nexts_first u ≡ true → totals_are_right u ≡ true → IsWellFormed u
to_rules u d r s copied distinct first totals = record {
  names = names_by u d.names s;
  spaces = d.spaces;
  types_first = d.types_first;
  used_there = and_from (each_statement (is_statement_there u) u) (each_part (is_there u) u) s.there s.parts_there;
  fields = d.fields;
  literals = s.ranged;
  constants = r.filled_are;
  types = s.typed_are;
  arguments = s.arguments;
  scalars = and_from (each_statement (is_scalar_where_asked u) u) (each_part (has_scalar_subscript u) u) s.scalars s.subscripts;
  assigned = s.fitting;
  copied = copied;
  rings = ways_by u distinct first r.long s;
  lengths = d.lengths;
  heights = and_from (low_expressions u) (list_all (has_low_constants u.types) u.rings) s.low r.low_are;
  totals = totals;
}

pub sound-well : (u : CUnit) → is_sound u ≡ true → IsWellFormed u
sound-well u h =
    let p = four (is_declared_well u) (has_sound_rings u) (has_sound_step u) (totals_are_right u) h in
    let q = four (each_statement (is_sound_statement u) u) (copies_come_first u) (distinct_nexts u) (nexts_first u) p.third in
    to_rules u (declared u p.first) (sound_rings u p.second) (step_rules u q.first) q.second q.third q.fourth p.fourth

-- ---- and back

ways : (u : CUnit) → IsWellFormed u → Four (distinct_nexts u) (nexts_first u) (list_all is_long_as_used u.rings) (each_part (reads_its_way u) u)
ways u w =
    four (distinct_nexts u) (nexts_first u) (list_all is_long_as_used u.rings) (each_part (reads_its_way u) u)
    (left_passes (distinct_nexts u && nexts_first u && list_all is_long_as_used u.rings && each_part (reads_its_way u) u) (each_statement (writes_its_way u) u) w.rings)

step_rules_of : (u : CUnit) → IsWellFormed u → StepRules u
step_rules_of u w = record {
  named = right_passes (has_names u) (each_statement has_names_statement u) (left_passes (has_names u && each_statement has_names_statement u) (each_part has_names_part u) w.names);
  there = left_passes (each_statement (is_statement_there u) u) (each_part (is_there u) u) w.used_there;
  arguments = w.arguments;
  scalars = left_passes (each_statement (is_scalar_where_asked u) u) (each_part (has_scalar_subscript u) u) w.scalars;
  fitting = w.assigned;
  written = right_passes (distinct_nexts u && nexts_first u && list_all is_long_as_used u.rings && each_part (reads_its_way u) u) (each_statement (writes_its_way u) u) w.rings;
  low = left_passes (low_expressions u) (list_all (has_low_constants u.types) u.rings) w.heights;
  part_names = right_passes (has_names u && each_statement has_names_statement u) (each_part has_names_part u) w.names;
  parts_there = right_passes (each_statement (is_statement_there u) u) (each_part (is_there u) u) w.used_there;
  ranged = w.literals;
  typed_are = w.types;
  subscripts = right_passes (each_statement (is_scalar_where_asked u) u) (each_part (has_scalar_subscript u) u) w.scalars;
  read = (ways u w).fourth;
}

declared_of : (u : CUnit) → IsWellFormed u → is_declared_well u ≡ true
declared_of u w =
    let names = left_passes (has_names u) (each_statement has_names_statement u) (left_passes (has_names u && each_statement has_names_statement u) (each_part has_names_part u) w.names) in
    and_from (has_names u && names_are_distinct u && structs_have_fields u && lengths_are_in_range u) (types_come_first u)
    (all_four (has_names u) (names_are_distinct u) (structs_have_fields u) (lengths_are_in_range u)
    (record { first = names; second = w.spaces; third = w.fields; fourth = w.lengths })) w.types_first

rings_of : (u : CUnit) → IsWellFormed u → has_sound_rings u ≡ true
rings_of u w =
    let low_are = right_passes (low_expressions u) (list_all (has_low_constants u.types) u.rings) w.heights in
    and_from (list_all is_long_as_used u.rings) (list_all (is_filled u.types) u.rings) (ways u w).third
    (all-join (λ r. is_some (first_values u.types r)) (has_low_constants u.types) (is_filled u.types) (filled-both u.types) u.rings w.constants low_are)

step_of : (u : CUnit) → IsWellFormed u → has_sound_step u ≡ true
step_of u w =
    let way = ways u w in
    all_four (each_statement (is_sound_statement u) u) (copies_come_first u) (distinct_nexts u) (nexts_first u)
    (record { first = rules_to_sound u (step_rules_of u w); second = w.copied; third = way.first; fourth = way.second })

pub well-sound : (u : CUnit) → IsWellFormed u → is_sound u ≡ true
well-sound u w =
    all_four (is_declared_well u) (has_sound_rings u) (has_sound_step u) (totals_are_right u)
    (record { first = declared_of u w; second = rings_of u w; third = step_of u w; fourth = w.totals })

pub sound_is_well : (u : CUnit) → IsTrue (is_sound u) ↔ IsWellFormed u
sound_is_well u = (sound-well u, well-sound u)

-- where the first check passed
pub declared-types_first : (u : CUnit) (b : Bool) → b ≡ is_declared_well u → b ≡ true → IsTrue (types_come_first u)
declared-types_first u b is passed = (declared u (sym is ∙ passed)).types_first
