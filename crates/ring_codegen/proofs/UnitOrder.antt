-- The order of a translation's statements: copies, calls, the nexts, each once, and then the writes.
use Rattle.std.proofs.Common.{◌≡◌, ℕ, zero, suc, Bool, true, false, ◌&&◌, ◌||◌, cond, List, [], ◌∷◌, ◌++◌, map, find, append_assoc, append-nil, Option, Some, None, is_some, refl, sym, ap, ◌∙◌, subst}
use Rattle.std.specs.Prelude.{slice_get, nat_le, if◌then◌else◌}
use Rattle.std.specs.Option.{option_map}
use Rattle.std.specs.List.{list_all, list_any, filter_map, flat_map}
use Rattle.std.specs.Cmp.Lexicographic.{nat_list_eq_equiv}
use Rattle.std.proofs.lemmas.Bool.{and_from}
use Rattle.std.proofs.lemmas.Option.{slice_get-map}
use Rattle.sm_io.specs.Words.{is_name}
use Rattle.sm_io.proofs.Truths.{left_passes, right_passes, all_weaker, all-flat_map, or_passes}
use Rattle.stream_types.specs.declared.types.TypeEntry.{TypeEntry}
use Rattle.stream_core.specs.declared.spec.ExternItem.{ExternItem}
use Rattle.stream_core.specs.Term.{TreeSpec, TreeStream, TreeTrigger}
use Rattle.stream_core.proofs.SameNode.{list_same}
use Rattle.c99_tree.specs.declared.expr.CExpr.TheVariants as e
use Rattle.c99_tree.specs.declared.types.CVar.{CVar}
use Rattle.c99_tree.specs.declared.unit.CStmt.{CStmt}
use Rattle.c99_tree.specs.declared.unit.CStmt.TheVariants as s
use Rattle.c99_tree.specs.declared.unit.Unit.{Unit as CUnit}
use Rattle.c99_tree.specs.Tree.{Expr, lit, yes, no, copy, head, cell, ring_at, un, bin, choose, cast, field, pick, arr, rec, Stmt, copies, calls, nexts, stores, moves, puts, statement, statements}
use Rattle.c99_tree.specs.Words.{is_same}
use Rattle.c99_tree.specs.Lookup.{var_of}
use Rattle.c99_tree.specs.Spelling.{height, most_height}
use Rattle.c99_tree.specs.Typing.{type_of}
use Rattle.c99_tree.specs.WellFormed.{parts_of, expressions_in, parts_in, has_names_statement, is_statement_there, has_all_arguments, is_scalar_where_asked, has_fitting_values, writes_its_way, each_statement, each_after, are_distinct, is_copy_of, is_read_after_copy, copies_come_first, next_of, is_next_of, is_written_after_next}
use Rattle.c99_tree.specs.Checks.{is_sound_part, is_sound_expression, are_sound_expressions, is_sound_statement}
use Rattle.ring_codegen.specs.CTypes.{c_extern}
use Rattle.ring_codegen.specs.Translation.{copy_statement, trigger_statement, next_statement, write_statements, is_indexed, place_behind}
use Rattle.ring_codegen.specs.Standing.{IsNamedOnce, Declares, HasSteps, IsProgramOf}
use Rattle.ring_codegen.proofs.Listing.{all_both, front_any}
use Rattle.ring_codegen.proofs.NamedOnce.{from_map}
use Rattle.ring_codegen.proofs.StepWhole.{statements_are}
use Rattle.ring_codegen.proofs.UnitLists.{found_at, any_there, distinct_once}

-- ---- elements beside those before them

each_after_both : {X : Type 0} (p : List X → X → Bool) (before xs ys : List X) → each_after p before xs ≡ true → each_after p (before ++ xs) ys ≡ true → each_after p before (xs ++ ys) ≡ true
each_after_both {X = X} p before [] ys h g = subst (λ (front : List X). each_after p front ys ≡ true) (append-nil before) g
each_after_both {X = X} p before (x ∷ xs) ys h g =
    and_from (p before x) (each_after p (before ++ x ∷ []) (xs ++ ys)) (left_passes (p before x) (each_after p (before ++ x ∷ []) xs) h)
    (each_after_both p (before ++ x ∷ []) xs ys (right_passes (p before x) (each_after p (before ++ x ∷ []) xs) h)
    (subst (λ (front : List X). each_after p front ys ≡ true) (sym (append_assoc before (x ∷ []) xs)) g))

-- what passes beside some passes beside more
each_after_from : {X : Type 0} (p : List X → X → Bool) → ((front more : List X) (x : X) → p front x ≡ true → p (front ++ more) x ≡ true) → (before xs : List X) → list_all (p before) xs ≡ true → each_after p before xs ≡ true
each_after_from p grows before [] h = refl
each_after_from p grows before (x ∷ xs) h =
    and_from (p before x) (each_after p (before ++ x ∷ []) xs) (left_passes (p before x) (list_all (p before) xs) h)
    (each_after_from p grows (before ++ x ∷ []) xs
    (all_weaker (p before) (p (before ++ x ∷ [])) (λ y g. grows before (x ∷ []) y g) xs (right_passes (p before x) (list_all (p before) xs) h)))

-- ---- copies and reads

read_grows : (front more : List Stmt) (x : Expr) → is_read_after_copy front x ≡ true → is_read_after_copy (front ++ more) x ≡ true
read_grows front more (lit q n) h = refl
read_grows front more yes h = refl
read_grows front more no h = refl
read_grows front more (copy x) h = front_any (is_copy_of x) front more h
read_grows front more (head r) h = refl
read_grows front more (cell r) h = refl
read_grows front more (ring_at r a) h = refl
read_grows front more (un op a) h = refl
read_grows front more (bin op a b) h = refl
read_grows front more (choose c a b) h = refl
read_grows front more (cast t a) h = refl
read_grows front more (field a x) h = refl
read_grows front more (pick x n a i) h = refl
read_grows front more (arr x n all) h = refl
read_grows front more (rec x all) h = refl

abbrev reads_copied : List Stmt → Stmt → Bool
reads_copied before s = list_all (is_read_after_copy before) (parts_in s)

reads_grow : (front more : List Stmt) (s : Stmt) → reads_copied front s ≡ true → reads_copied (front ++ more) s ≡ true
reads_grow front more s h = all_weaker (is_read_after_copy front) (is_read_after_copy (front ++ more)) (read_grows front more) (parts_in s) h

find_any : {X : Type 0} (p : X → Bool) (xs : List X) → is_some (find p xs) ≡ true → list_any p xs ≡ true
find_any p [] h = absurd (cc h)
find_any p (x ∷ xs) h = by (λ g. find_any p xs g) (p x) h
  where
    by : (is_some (find p xs) ≡ true → list_any p xs ≡ true) → (b : Bool) → is_some (cond b (Some x) (find p xs)) ≡ true → (b || list_any p xs) ≡ true
    by rest true g = refl
    by rest false g = rest g

later_any : {X : Type 0} (p : X → Bool) (xs ys : List X) → list_any p ys ≡ true → list_any p (xs ++ ys) ≡ true
later_any p [] ys h = h
later_any p (x ∷ xs) ys h = or_passes (p x) (list_any p (xs ++ ys)) (later_any p xs ys h)

-- the parts of a sound statement are sound
sound_parts : (u : CUnit) (s : Stmt) → is_sound_statement u s ≡ true → list_all (is_sound_part u) (parts_in s) ≡ true
sound_parts u s h =
    let a = left_passes (has_names_statement s && is_statement_there u s && are_sound_expressions u s && has_all_arguments u s && is_scalar_where_asked u s && has_fitting_values u s) (writes_its_way u s) h in
    let b = left_passes (has_names_statement s && is_statement_there u s && are_sound_expressions u s && has_all_arguments u s && is_scalar_where_asked u s) (has_fitting_values u s) a in
    let c = left_passes (has_names_statement s && is_statement_there u s && are_sound_expressions u s && has_all_arguments u s) (is_scalar_where_asked u s) b in
    let d = left_passes (has_names_statement s && is_statement_there u s && are_sound_expressions u s) (has_all_arguments u s) c in
    let sound = right_passes (has_names_statement s && is_statement_there u s) (are_sound_expressions u s) d in
    all-flat_map (is_sound_part u) parts_of (expressions_in s)
    ∙ all_weaker (is_sound_expression u) (λ (x : Expr). list_all (is_sound_part u) (parts_of x)) (λ x g. right_passes (nat_le (height x) most_height && is_some (type_of u x)) (list_all (is_sound_part u) (parts_of x)) g) (expressions_in s) sound

module _ (spec : TreeSpec) (u : CUnit) (has : HasSteps spec) (is : IsProgramOf spec u) where
  abbrev copied : List Stmt
  copied = map statement (map copy_statement spec.externs)

  abbrev called : List Stmt
  called = map statement (map (trigger_statement spec) spec.triggers)

  abbrev computed : List Stmt
  computed = map statement (map (next_statement spec) spec.streams)

  abbrev wrote : List Stmt
  wrote = map statement (flat_map (write_statements spec.types) spec.streams)

  pub grouped : statements u ≡ copied ++ (called ++ (computed ++ wrote))
  grouped = statements_are spec u has is ∙ append_assoc (copied ++ called) computed wrote ∙ append_assoc copied called (computed ++ wrote)

  -- an extern's copy stands among the copies
  copy_there : (x : List ℕ) → is_some (var_of u.externs x) ≡ true → list_any (is_copy_of x) copied ≡ true
  copy_there x h =
      let f = found_at (λ (v : CVar). is_same x v.name) (map (c_extern spec.types) spec.externs) (subst (λ (vs : List CVar). list_any (λ (v : CVar). is_same x v.name) vs ≡ true) is.declares.externs (find_any (λ (v : CVar). is_same x v.name) u.externs h)) in
      let a = from_map (c_extern spec.types) spec.externs f.place f.it f.there in
      let there : slice_get copied f.place ≡ Some (copies a.origin.name)
      = slice_get-map statement (map copy_statement spec.externs) f.place
      ∙ ap (option_map statement) (slice_get-map copy_statement spec.externs f.place ∙ ap (option_map copy_statement) a.there) in
      any_there (is_copy_of x) copied f.place (copies a.origin.name) there (ap (λ (v : CVar). is_same x v.name) a.is ∙ f.passes)

  part_read : (x : Expr) → is_sound_part u x ≡ true → is_read_after_copy copied x ≡ true
  part_read (lit q n) h = refl
  part_read yes h = refl
  part_read no h = refl
  part_read (copy x) h = copy_there x (right_passes (is_name x) (is_some (var_of u.externs x)) (left_passes (is_name x && is_some (var_of u.externs x)) true (left_passes (is_name x && is_some (var_of u.externs x) && true) true h)))
  part_read (head r) h = refl
  part_read (cell r) h = refl
  part_read (ring_at r a) h = refl
  part_read (un op a) h = refl
  part_read (bin op a b) h = refl
  part_read (choose c a b) h = refl
  part_read (cast t a) h = refl
  part_read (field a x) h = refl
  part_read (pick x n a i) h = refl
  part_read (arr x n all) h = refl
  part_read (rec x all) h = refl

  statement_reads : (s : Stmt) → is_sound_statement u s ≡ true → reads_copied copied s ≡ true
  statement_reads s h = all_weaker (is_sound_part u) (is_read_after_copy copied) part_read (parts_in s) (sound_parts u s h)

  copies_read_nothing : (before : List Stmt) (xs : List ExternItem) → list_all (reads_copied before) (map statement (map copy_statement xs)) ≡ true
  copies_read_nothing before [] = refl
  copies_read_nothing before (x ∷ xs) = copies_read_nothing before xs

  pub copies_first : list_all (is_sound_statement u) (called ++ (computed ++ wrote)) ≡ true → copies_come_first u ≡ true
  copies_first h =
      ap (each_after reads_copied []) grouped
      ∙ each_after_both reads_copied [] copied (called ++ (computed ++ wrote))
      (each_after_from reads_copied reads_grow [] copied (copies_read_nothing [] spec.externs))
      (each_after_from reads_copied reads_grow copied (called ++ (computed ++ wrote))
      (all_weaker (is_sound_statement u) (reads_copied copied) statement_reads (called ++ (computed ++ wrote)) h))

  -- ---- nexts

  skip_copies : (xs : List ExternItem) (rest : List Stmt) → filter_map next_of (map statement (map copy_statement xs) ++ rest) ≡ filter_map next_of rest
  skip_copies [] rest = refl
  skip_copies (x ∷ xs) rest = skip_copies xs rest

  skip_calls : (xs : List TreeTrigger) (rest : List Stmt) → filter_map next_of (map statement (map (trigger_statement spec) xs) ++ rest) ≡ filter_map next_of rest
  skip_calls [] rest = refl
  skip_calls (x ∷ xs) rest = skip_calls xs rest

  take_nexts : (xs : List TreeStream) (rest : List Stmt) → filter_map next_of (map statement (map (next_statement spec) xs) ++ rest) ≡ map (λ (x : TreeStream). x.name) xs ++ filter_map next_of rest
  take_nexts [] rest = refl
  take_nexts (x ∷ xs) rest = ap (λ (r : List (List ℕ)). x.name ∷ r) (take_nexts xs rest)

  -- the writes of a ring with or without an index
  abbrev written : TreeStream → Bool → List CStmt
  written x b = if b then s.Store x.name (e.Head x.name) ∷ s.Move x.name (place_behind spec.types x 1) ∷ [] else s.Put x.name ∷ []

  skip_writes : (xs : List TreeStream) → filter_map next_of (map statement (flat_map (write_statements spec.types) xs)) ≡ []
  skip_writes [] = refl
  skip_writes (x ∷ xs) = by (skip_writes xs) (is_indexed spec.types x) refl
    where
      by : filter_map next_of (map statement (flat_map (write_statements spec.types) xs)) ≡ [] → (b : Bool) → is_indexed spec.types x ≡ b → filter_map next_of (map statement (flat_map (write_statements spec.types) (x ∷ xs))) ≡ []
      by rest true q = ap (λ (b : Bool). filter_map next_of (map statement (written x b ++ flat_map (write_statements spec.types) xs))) q ∙ rest
      by rest false q = ap (λ (b : Bool). filter_map next_of (map statement (written x b ++ flat_map (write_statements spec.types) xs))) q ∙ rest

  next-names : filter_map next_of (statements u) ≡ map (λ (x : TreeStream). x.name) spec.streams
  next-names =
      ap (filter_map next_of) grouped
      ∙ skip_copies spec.externs (called ++ (computed ++ wrote))
      ∙ skip_calls spec.triggers (computed ++ wrote)
      ∙ take_nexts spec.streams wrote
      ∙ ap (λ (r : List (List ℕ)). map (λ (x : TreeStream). x.name) spec.streams ++ r) (skip_writes spec.streams)
      ∙ append-nil (map (λ (x : TreeStream). x.name) spec.streams)

  names_once : (i j : ℕ) (n : List ℕ) → slice_get (map (λ (x : TreeStream). x.name) spec.streams) i ≡ Some n → slice_get (map (λ (x : TreeStream). x.name) spec.streams) j ≡ Some n → i ≡ j
  names_once i j n h g =
      let a = from_map (λ (x : TreeStream). x.name) spec.streams i n h in
      let b = from_map (λ (x : TreeStream). x.name) spec.streams j n g in
      has.translatable.streams i j a.origin b.origin a.there b.there (a.is ∙ sym b.is)

  pub nexts_distinct : are_distinct is_same (filter_map next_of (statements u)) ≡ true
  nexts_distinct = ap (are_distinct is_same) next-names ∙ distinct_once (map (λ (x : TreeStream). x.name) spec.streams) names_once

  -- ---- writes

  written_grows : (front more : List Stmt) (x : Stmt) → is_written_after_next front x ≡ true → is_written_after_next (front ++ more) x ≡ true
  written_grows front more (copies x) h = refl
  written_grows front more (calls x g args) h = refl
  written_grows front more (nexts r a) h = refl
  written_grows front more (stores r a) h = front_any (is_next_of r) front more h
  written_grows front more (moves r a) h = refl
  written_grows front more (puts r) h = front_any (is_next_of r) front more h

  copies_free : (before : List Stmt) (xs : List ExternItem) → list_all (is_written_after_next before) (map statement (map copy_statement xs)) ≡ true
  copies_free before [] = refl
  copies_free before (x ∷ xs) = copies_free before xs

  calls_free : (before : List Stmt) (xs : List TreeTrigger) → list_all (is_written_after_next before) (map statement (map (trigger_statement spec) xs)) ≡ true
  calls_free before [] = refl
  calls_free before (x ∷ xs) = calls_free before xs

  nexts_free : (before : List Stmt) (xs : List TreeStream) → list_all (is_written_after_next before) (map statement (map (next_statement spec) xs)) ≡ true
  nexts_free before [] = refl
  nexts_free before (x ∷ xs) = nexts_free before xs

  -- a stream's next stands among the nexts
  next_there : (k : ℕ) (x : TreeStream) → slice_get spec.streams k ≡ Some x → list_any (is_next_of x.name) computed ≡ true
  next_there k x h =
      let there : slice_get computed k ≡ Some (statement (next_statement spec x))
      = slice_get-map statement (map (next_statement spec) spec.streams) k
      ∙ ap (option_map statement) (slice_get-map (next_statement spec) spec.streams k ∙ ap (option_map (next_statement spec)) h) in
      any_there (is_next_of x.name) computed k (statement (next_statement spec x)) there (nat_list_eq_equiv.refl x.name)

  writes_after : (xs : List TreeStream) → ((k : ℕ) (x : TreeStream) → slice_get xs k ≡ Some x → list_any (is_next_of x.name) computed ≡ true)
      → list_all (is_written_after_next computed) (map statement (flat_map (write_statements spec.types) xs)) ≡ true
  writes_after [] h = refl
  writes_after (x ∷ xs) h = by (writes_after xs (λ k y g. h (suc k) y g)) (h 0 x refl) (is_indexed spec.types x) refl
    where
      by : list_all (is_written_after_next computed) (map statement (flat_map (write_statements spec.types) xs)) ≡ true → list_any (is_next_of x.name) computed ≡ true
          → (b : Bool) → is_indexed spec.types x ≡ b → list_all (is_written_after_next computed) (map statement (flat_map (write_statements spec.types) (x ∷ xs))) ≡ true
      by rest there true q = ap (λ (b : Bool). list_all (is_written_after_next computed) (map statement (written x b ++ flat_map (write_statements spec.types) xs))) q ∙ (λ j. there j && rest j)
      by rest there false q = ap (λ (b : Bool). list_all (is_written_after_next computed) (map statement (written x b ++ flat_map (write_statements spec.types) xs))) q ∙ (λ j. there j && rest j)

  -- what is after the nexts is after all that stands before them, too
  behind_nexts : (front : List Stmt) (x : Stmt) → is_written_after_next computed x ≡ true → is_written_after_next (front ++ computed) x ≡ true
  behind_nexts front (copies x) h = refl
  behind_nexts front (calls x g args) h = refl
  behind_nexts front (nexts r a) h = refl
  behind_nexts front (stores r a) h = later_any (is_next_of r) front computed h
  behind_nexts front (moves r a) h = refl
  behind_nexts front (puts r) h = later_any (is_next_of r) front computed h

  pub writes_last : each_after is_written_after_next [] (statements u) ≡ true
  writes_last =
      ap (each_after is_written_after_next []) grouped
      ∙ each_after_both is_written_after_next [] copied (called ++ (computed ++ wrote))
      (each_after_from is_written_after_next written_grows [] copied (copies_free [] spec.externs))
      (each_after_both is_written_after_next copied called (computed ++ wrote)
      (each_after_from is_written_after_next written_grows copied called (calls_free copied spec.triggers))
      (each_after_both is_written_after_next (copied ++ called) computed wrote
      (each_after_from is_written_after_next written_grows (copied ++ called) computed (nexts_free (copied ++ called) spec.streams))
      (each_after_from is_written_after_next written_grows ((copied ++ called) ++ computed) wrote
      (all_weaker (is_written_after_next computed) (is_written_after_next ((copied ++ called) ++ computed)) (behind_nexts (copied ++ called)) wrote (writes_after spec.streams next_there)))))
