-- The new program is well formed.
use Rattle.std.proofs.Common.{◌≡◌, ℕ, suc, ◌+◌, ◌≤◌, Bool, true, false, ◌&&◌, ◌||◌, List, [], ◌∷◌, ◌++◌, length, map, Option, Some, None, refl, sym, ap, ◌∙◌, subst, arith}
use Rattle.std.specs.Prelude.{not, nat_eq, nat_le, max, is_some, IsTrue, if◌then◌else◌}
use Rattle.std.specs.List.{filter_map, cons_option, list_all, list_any}
use Rattle.std.specs.Option.{option_map, option_map_or}
use Rattle.std.proofs.Math.Nat.{le-max_left, le-max_right, max-le}
use Rattle.std.proofs.lemmas.Bool.Decides.{nat_tests}
use Rattle.sm_io.specs.Words.{is_name}
use Rattle.sm_io.proofs.Truths.{both_pass, left_passes, right_passes}
use Rattle.c99_tree.specs.declared.types.CScalar.TheVariants as t
use Rattle.c99_tree.specs.declared.types.CTy.{CTy}
use Rattle.c99_tree.specs.declared.types.CTy.TheVariants as ty
use Rattle.c99_tree.specs.declared.types.CProto.{CProto}
use Rattle.c99_tree.specs.declared.unit.CRing.{CRing}
use Rattle.c99_tree.specs.declared.unit.CStmt.{CStmt}
use Rattle.c99_tree.specs.declared.unit.Unit.{Unit as CUnit}
use Rattle.c99_tree.specs.Tree.{Expr, Exprs, lit, yes, no, copy, head, cell, ring_at, un, bin, choose, cast, field, pick, arr, rec, none, more, Stmt, copies, calls, nexts, stores, moves, puts, statement, statements}
use Rattle.c99_tree.specs.Words.{is_same, is_ring_name}
use Rattle.c99_tree.specs.Lookup.{arrays_in, is_defined, var_of, ring_of, handler_of}
use Rattle.c99_tree.specs.Values.{first_values}
use Rattle.c99_tree.specs.Storage.{storage_of}
use Rattle.c99_tree.specs.Spelling.{height, highest, most_height}
use Rattle.c99_tree.specs.Typing.{type_of, fits_in, is_scalar_type, fields_in}
use Rattle.c99_tree.specs.Weight.{unit_weight_of}
use Rattle.c99_tree.specs.WellFormed.{list_of, expressions_in, parts_in, each_part, each_statement, each_after, are_distinct, has_names_def, has_names_var, has_names_handler, has_names_ring, has_names_part, has_names_statement, types_are_distinct, are_distinct_fields, types_are_built_in_order, is_there, is_statement_there, is_in_range, has_all_arguments, is_scalar_expr, is_scalar_where_asked, has_scalar_subscript, fit_params, has_fitting_values, is_copy_of, is_read_after_copy, next_of, is_next_of, is_written_after_next, has_index, has_no_index, reads_its_way, writes_its_way, has_array_length, has_low_constants, copies_come_first, guards_and_subscripts_are_scalar, heights_are_in_range, lengths_are_in_range, names_are_distinct, names_are_names, rings_are_used_their_way, types_come_first, used_things_are_there, IsWellFormed}
use Rattle.c99_tree.proofs.Optional.{some-map}
use Rattle.migration.specs.Migration.{is_old, names_old, renewed, renewed_all, renewed_statement, renewed_ring, IsRenewed, IsMigrated, misused}
use Rattle.migration.proofs.Rings.{same_name, same_type}
use Rattle.migration.proofs.AsOfOld.{ReadsOfOld, UsesOfOld, AllUseOfOld, all_use_of_old, subscript_reads, head_is_other, right_reads, here_reads, others_read, store_reads, move_reads}
use Rattle.migration.proofs.NewTypes.{made, is_made, new_ring, new_type, new_types}
use Rattle.migration.proofs.NewParts.{Renews, RenewsStatement, passes, hits, new_statements, statement_parts, new_after, new_any, new_rings}
use Rattle.migration.proofs.Totals.{four, storage_fits, weight_fits}

-- ---- heights

max_less : (a b c d : ℕ) → a ≤ c → b ≤ d → max a b ≤ max c d
max_less a b c d h g =
    let p = le-max_left c d in let q = le-max_right c d in
    let left : a ≤ max c d = omega (arith, h, p) in
    let right : b ≤ max c d = omega (arith, g, q) in
    max-le left right

one_higher : (a b : ℕ) → a ≤ b → a + 1 ≤ b + 1
one_higher a b h = omega (arith, h)

element_height : (u : CUnit) (r : List ℕ) (a : Expr) (b : Bool) → height (renewed u a) ≤ height a → height (if b then cell r else ring_at r (renewed u a)) ≤
    height a + 1
element_height u r a true h = omega arith
element_height u r a false h = one_higher (height (renewed u a)) (height a) h

mutual
  new_height : (u : CUnit) (e : Expr) → height (renewed u e) ≤ height e
  new_height u (lit k n) = omega arith
  new_height u yes = omega arith
  new_height u no = omega arith
  new_height u (copy x) = omega arith
  new_height u (head r) = omega arith
  new_height u (cell r) = omega arith
  new_height u (ring_at r a) = element_height u r a (names_old u r) (new_height u a)
  new_height u (un op a) = one_higher (height (renewed u a)) (height a) (new_height u a)
  new_height u (bin op a b) =
      one_higher (max (height (renewed u a)) (height (renewed u b))) (max (height a) (height b))
      (max_less (height (renewed u a)) (height (renewed u b)) (height a) (height b) (new_height u a) (new_height u b))
  new_height u (choose c a b) =
      one_higher (max (height (renewed u c)) (max (height (renewed u a)) (height (renewed u b)))) (max (height c) (max (height a) (height b)))
      (max_less (height (renewed u c)) (max (height (renewed u a)) (height (renewed u b))) (height c) (max (height a) (height b)) (new_height u c)
      (max_less (height (renewed u a)) (height (renewed u b)) (height a) (height b) (new_height u a) (new_height u b)))
  new_height u (cast ty a) = one_higher (height (renewed u a)) (height a) (new_height u a)
  new_height u (field a x) = one_higher (height (renewed u a)) (height a) (new_height u a)
  new_height u (pick x n a i) =
      one_higher (max (height (renewed u a)) (height (renewed u i))) (max (height a) (height i))
      (max_less (height (renewed u a)) (height (renewed u i)) (height a) (height i) (new_height u a) (new_height u i))
  new_height u (arr x n all) = one_higher (highest (renewed_all u all)) (highest all) (new_highest u all)
  new_height u (rec x all) = one_higher (highest (renewed_all u all)) (highest all) (new_highest u all)

  new_highest : (u : CUnit) (es : Exprs) → highest (renewed_all u es) ≤ highest es
  new_highest u none = omega arith
  new_highest u (more e es) = max_less (height (renewed u e)) (highest (renewed_all u es)) (height e) (highest es) (new_height u e) (new_highest u es)

low : (a b : ℕ) → a ≤ b → nat_le b most_height ≡ true → nat_le a most_height ≡ true
low a b h g = grind (arith, nat_tests, h, g)

low_still : (u : CUnit) (e : Expr) → nat_le (height e) most_height ≡ true → nat_le (height (renewed u e)) most_height ≡ true
low_still u e h = low (height (renewed u e)) (height e) (new_height u e) h

abbrev are_low : List Expr → Bool
are_low es = list_all (λ e. nat_le (height e) most_height) es

list_low : (u : CUnit) (es : Exprs) → are_low (list_of es) ≡ true → are_low (list_of (renewed_all u es)) ≡ true
list_low u none h = refl
list_low u (more e es) h =
    both_pass (nat_le (height (renewed u e)) most_height) (are_low (list_of (renewed_all u es)))
    (low_still u e (left_passes (nat_le (height e) most_height) (are_low (list_of es)) h)) (list_low u es (right_passes (nat_le (height e) most_height)
    (are_low (list_of es)) h))

store_low : (u : CUnit) (r : List ℕ) (e : Expr) (b : Bool) → are_low (e ∷ []) ≡ true → passes (λ s. are_low (expressions_in s)) (if b then Some (puts r) else
    Some (stores r (renewed u e))) ≡ true
store_low u r e true h = refl
store_low u r e false h = both_pass (nat_le (height (renewed u e)) most_height) true (low_still u e (left_passes (nat_le (height e) most_height) true h)) refl

move_low : (u : CUnit) (r : List ℕ) (e : Expr) (b : Bool) → are_low (e ∷ []) ≡ true → passes (λ s. are_low (expressions_in s)) (if b then None else Some
    (moves r (renewed u e))) ≡ true
move_low u r e true h = refl
move_low u r e false h = both_pass (nat_le (height (renewed u e)) most_height) true (low_still u e (left_passes (nat_le (height e) most_height) true h)) refl

statement_low : (u : CUnit) → RenewsStatement u (λ s. are_low (expressions_in s)) (λ s. are_low (expressions_in s))
statement_low u (copies x) c h = refl
statement_low u (calls g guard args) c h =
    both_pass (nat_le (height (renewed u guard)) most_height) (are_low (list_of (renewed_all u args))) (low_still u guard
    (left_passes (nat_le (height guard) most_height) (are_low (list_of args)) h))
    (list_low u args (right_passes (nat_le (height guard) most_height) (are_low (list_of args)) h))
statement_low u (nexts r e) c h = both_pass (nat_le (height (renewed u e)) most_height) true (low_still u e (left_passes (nat_le (height e) most_height) true
    h)) refl
statement_low u (stores r e) c h = store_low u r e (names_old u r) h
statement_low u (moves r e) c h = move_low u r e (names_old u r) h
statement_low u (puts r) c h = refl

-- ---- names

element_named : (r : List ℕ) (a : Expr) (b : Bool) → is_ring_name r ≡ true → has_names_part (if b then cell r else ring_at r a) ≡ true
element_named r a true h = h
element_named r a false h = h

module _ (u : CUnit) where
  part_named : Renews u has_names_part has_names_part
  part_named (lit k n) c t = t
  part_named yes c t = t
  part_named no c t = t
  part_named (copy x) c t = t
  part_named (head r) c t = t
  part_named (cell r) c t = t
  part_named (ring_at r a) c t = element_named r (renewed u a) (names_old u r) t
  part_named (un op a) c t = t
  part_named (bin op a b) c t = t
  part_named (choose d a b) c t = t
  part_named (cast ty a) c t = t
  part_named (field a x) c t = t
  part_named (pick x n a i) c t = t
  part_named (arr x n all) c t = t
  part_named (rec x all) c t = t

  store_named : (r : List ℕ) (e : Expr) (b : Bool) → is_ring_name r ≡ true → passes has_names_statement (if b then Some (puts r) else Some (stores r e)) ≡ true
  store_named r e true h = h
  store_named r e false h = h

  move_named : (r : List ℕ) (e : Expr) (b : Bool) → is_ring_name r ≡ true → passes has_names_statement (if b then None else Some (moves r e)) ≡ true
  move_named r e true h = refl
  move_named r e false h = h

  statement_named : RenewsStatement u has_names_statement has_names_statement
  statement_named (copies x) c t = t
  statement_named (calls g guard args) c t = t
  statement_named (nexts r e) c t = t
  statement_named (stores r e) c t = store_named r (renewed u e) (names_old u r) t
  statement_named (moves r e) c t = move_named r (renewed u e) (names_old u r) t
  statement_named (puts r) c t = t

-- ---- ranges of literals

element_ranged : (r : List ℕ) (a : Expr) (b : Bool) → is_in_range (if b then cell r else ring_at r a) ≡ true
element_ranged r a true = refl
element_ranged r a false = refl

part_ranged : (u : CUnit) → Renews u is_in_range is_in_range
part_ranged u (lit k n) c t = t
part_ranged u yes c t = refl
part_ranged u no c t = refl
part_ranged u (copy x) c t = refl
part_ranged u (head r) c t = refl
part_ranged u (cell r) c t = refl
part_ranged u (ring_at r a) c t = element_ranged r (renewed u a) (names_old u r)
part_ranged u (un op a) c t = refl
part_ranged u (bin op a b) c t = refl
part_ranged u (choose d a b) c t = refl
part_ranged u (cast ty a) c t = refl
part_ranged u (field a x) c t = refl
part_ranged u (pick x n a i) c t = refl
part_ranged u (arr x n all) c t = refl
part_ranged u (rec x all) c t = refl

-- ---- what stands before

copy_stays : (u : CUnit) (x : List ℕ) (s : Stmt) → is_copy_of x s ≡ true → hits (is_copy_of x) (renewed_statement u s) ≡ true
copy_stays u x (copies y) h = h
copy_stays u x (calls g guard args) h = absurd (cc h)
copy_stays u x (nexts r e) h = absurd (cc h)
copy_stays u x (stores r e) h = absurd (cc h)
copy_stays u x (moves r e) h = absurd (cc h)
copy_stays u x (puts r) h = absurd (cc h)

next_stays : (u : CUnit) (r : List ℕ) (s : Stmt) → is_next_of r s ≡ true → hits (is_next_of r) (renewed_statement u s) ≡ true
next_stays u r (copies y) h = absurd (cc h)
next_stays u r (calls g guard args) h = absurd (cc h)
next_stays u r (nexts x e) h = h
next_stays u r (stores x e) h = absurd (cc h)
next_stays u r (moves x e) h = absurd (cc h)
next_stays u r (puts x) h = absurd (cc h)

element_copied : (before : List Stmt) (r : List ℕ) (a : Expr) (b : Bool) → is_read_after_copy before (if b then cell r else ring_at r a) ≡ true
element_copied before r a true = refl
element_copied before r a false = refl

part_copied : (u : CUnit) (before : List Stmt) → Renews u (is_read_after_copy before) (is_read_after_copy (filter_map (renewed_statement u) before))
part_copied u before (lit k n) c t = refl
part_copied u before yes c t = refl
part_copied u before no c t = refl
part_copied u before (copy x) c t = new_any u (is_copy_of x) (is_copy_of x) (copy_stays u x) before t
part_copied u before (head r) c t = refl
part_copied u before (cell r) c t = refl
part_copied u before (ring_at r a) c t = element_copied (filter_map (renewed_statement u) before) r (renewed u a) (names_old u r)
part_copied u before (un op a) c t = refl
part_copied u before (bin op a b) c t = refl
part_copied u before (choose d a b) c t = refl
part_copied u before (cast ty a) c t = refl
part_copied u before (field a x) c t = refl
part_copied u before (pick x n a i) c t = refl
part_copied u before (arr x n all) c t = refl
part_copied u before (rec x all) c t = refl

store_behind : (u : CUnit) (before : List Stmt) (r : List ℕ) (e : Expr) (b : Bool) → list_any (is_next_of r) before ≡ true
    → passes (is_written_after_next (filter_map (renewed_statement u) before)) (if b then Some (puts r) else Some (stores r e)) ≡ true
store_behind u before r e true h = new_any u (is_next_of r) (is_next_of r) (next_stays u r) before h
store_behind u before r e false h = new_any u (is_next_of r) (is_next_of r) (next_stays u r) before h

move_behind : (before : List Stmt) (r : List ℕ) (e : Expr) (b : Bool) → passes (is_written_after_next before) (if b then None else Some (moves r e)) ≡ true
move_behind before r e true = refl
move_behind before r e false = refl

statement_behind : (u : CUnit) (before : List Stmt) → RenewsStatement u (is_written_after_next before) (is_written_after_next
    (filter_map (renewed_statement u) before))
statement_behind u before (copies x) c t = refl
statement_behind u before (calls g guard args) c t = refl
statement_behind u before (nexts r e) c t = refl
statement_behind u before (stores r e) c t = store_behind u before r (renewed u e) (names_old u r) t
statement_behind u before (moves r e) c t = move_behind (filter_map (renewed_statement u) before) r (renewed u e) (names_old u r)
statement_behind u before (puts r) c t = new_any u (is_next_of r) (is_next_of r) (next_stays u r) before t

-- the rings that have a Next, in order
store_nexts : (r : List ℕ) (e : Expr) (b : Bool) (ss : List Stmt) → filter_map next_of (cons_option (if b then Some (puts r) else Some (stores r e)) ss) ≡
    filter_map next_of ss
store_nexts r e true ss = refl
store_nexts r e false ss = refl

move_nexts : (r : List ℕ) (e : Expr) (b : Bool) (ss : List Stmt) → filter_map next_of (cons_option (if b then None else Some (moves r e)) ss) ≡ filter_map
    next_of ss
move_nexts r e true ss = refl
move_nexts r e false ss = refl

same_nexts : (u : CUnit) (ss : List Stmt) → filter_map next_of (filter_map (renewed_statement u) ss) ≡ filter_map next_of ss
same_nexts u [] = refl
same_nexts u (copies x ∷ ss) = same_nexts u ss
same_nexts u (calls g guard args ∷ ss) = same_nexts u ss
same_nexts u (nexts r e ∷ ss) = ap (λ (rs : List (List ℕ)). r ∷ rs) (same_nexts u ss)
same_nexts u (stores r e ∷ ss) = store_nexts r (renewed u e) (names_old u r) (filter_map (renewed_statement u) ss) ∙ same_nexts u ss
same_nexts u (moves r e ∷ ss) = move_nexts r (renewed u e) (names_old u r) (filter_map (renewed_statement u) ss) ∙ same_nexts u ss
same_nexts u (puts r ∷ ss) = same_nexts u ss

-- ---- indices

index_kept : (b : Bool) (z : CRing) → b ≡ false → z.indexed ≡ true → (if b then record z { indexed = false } else z).indexed ≡ true
index_kept true z e h = absurd (cc e)
index_kept false z e h = h

index_stays : (o : Option CRing) → option_map_or is_old o false ≡ false → option_map_or (λ z. z.indexed) o false ≡ true → option_map_or (λ z. z.indexed)
    (option_map renewed_ring o) false ≡ true
index_stays None e h = h
index_stays (Some z) e h = index_kept (is_old z) z e h

index_lost : (b : Bool) (z : CRing) → b ≡ true → not (if b then record z { indexed = false } else z).indexed ≡ true
index_lost true z e = refl
index_lost false z e = absurd (cc e)

index_goes : (o : Option CRing) → option_map_or is_old o false ≡ true → option_map_or (λ z. not z.indexed) (option_map renewed_ring o) false ≡ true
index_goes None e = e
index_goes (Some z) e = index_lost (is_old z) z e

none_kept : (b : Bool) (z : CRing) → not z.indexed ≡ true → not (if b then record z { indexed = false } else z).indexed ≡ true
none_kept true z h = refl
none_kept false z h = h

none_stays : (o : Option CRing) → option_map_or (λ z. not z.indexed) o false ≡ true → option_map_or (λ z. not z.indexed) (option_map renewed_ring o) false ≡
    true
none_stays None h = h
none_stays (Some z) h = none_kept (is_old z) z h

fits_still : (a : Option CTy) (o : Option CRing) → option_map_or (λ z. fits_in a z.ty) (option_map renewed_ring o) false ≡ option_map_or (λ z. fits_in a z.ty)
    o false
fits_still a None = refl
fits_still a (Some z) = ap (λ (r : CTy). fits_in a r) (same_type z)

same_length : (u : CUnit) (es : Exprs) → length (list_of (renewed_all u es)) ≡ length (list_of es)
same_length u none = refl
same_length u (more e es) = ap (λ (n : ℕ). suc n) (same_length u es)

-- ---- what the new program declares

module _ (u : CUnit) (name : List ℕ) (bytes need : ℕ) (step : List CStmt) where
  ring_there : (r : List ℕ) → is_some (ring_of u r) ≡ true → is_some (ring_of (made u name bytes need step) r) ≡ true
  ring_there r h = ap (λ (o : Option CRing). is_some o) (new_ring u name bytes need step r) ∙ some-map renewed_ring (ring_of u r) h

  indexed_still : (r : List ℕ) → names_old u r ≡ false → has_index u r ≡ true → has_index (made u name bytes need step) r ≡ true
  indexed_still r e h = ap (λ (o : Option CRing). option_map_or (λ z. z.indexed) o false) (new_ring u name bytes need step r) ∙ index_stays (ring_of u r) e h

  indexed_no_more : (r : List ℕ) → names_old u r ≡ true → has_no_index (made u name bytes need step) r ≡ true
  indexed_no_more r e = ap (λ (o : Option CRing). option_map_or (λ z. not z.indexed) o false) (new_ring u name bytes need step r) ∙ index_goes (ring_of u r) e

  plain_still : (r : List ℕ) → has_no_index u r ≡ true → has_no_index (made u name bytes need step) r ≡ true
  plain_still r h = ap (λ (o : Option CRing). option_map_or (λ z. not z.indexed) o false) (new_ring u name bytes need step r) ∙ none_stays (ring_of u r) h

  -- ---- expressions

  element_there : (r : List ℕ) (a : Expr) (b : Bool) → is_some (ring_of u r) ≡ true → is_there (made u name bytes need step) (if b then cell r else ring_at r
      a) ≡ true
  element_there r a true h = ring_there r h
  element_there r a false h = ring_there r h

  part_there : Renews u (is_there u) (is_there (made u name bytes need step))
  part_there (lit k n) c t = t
  part_there yes c t = t
  part_there no c t = t
  part_there (copy x) c t = t
  part_there (head r) c t = ring_there r t
  part_there (cell r) c t = ring_there r t
  part_there (ring_at r a) c t = element_there r (renewed u a) (names_old u r) t
  part_there (un op a) c t = t
  part_there (bin op a b) c t = t
  part_there (choose d a b) c t = t
  part_there (cast ty a) c t = t
  part_there (field a x) c t = ap (λ (o : Option CTy). is_some (var_of (fields_in u.types o) x)) (new_type u name bytes need step a c) ∙ t
  part_there (pick x n a i) c t = t
  part_there (arr x n all) c t = t
  part_there (rec x all) c t = t

  part_typed : Renews u (λ e. is_some (type_of u e)) (λ e. is_some (type_of (made u name bytes need step) e))
  part_typed e c t = ap (λ (o : Option CTy). is_some o) (new_type u name bytes need step e c) ∙ t

  scalar_still : (e : Expr) → ReadsOfOld u e → is_scalar_expr u e ≡ true → is_scalar_expr (made u name bytes need step) (renewed u e) ≡ true
  scalar_still e c t = ap (λ (o : Option CTy). option_map_or is_scalar_type o false) (new_type u name bytes need step e c) ∙ t

  element_scalar : (r : List ℕ) (a : Expr) (b : Bool) → names_old u r ≡ b → ReadsOfOld u (ring_at r a) → is_scalar_expr u a ≡ true
      → has_scalar_subscript (made u name bytes need step) (if b then cell r else ring_at r (renewed u a)) ≡ true
  element_scalar r a true e c t = refl
  element_scalar r a false e c t = scalar_still a (subscript_reads u r a e c) t

  part_scalar : Renews u (has_scalar_subscript u) (has_scalar_subscript (made u name bytes need step))
  part_scalar (lit k n) c t = refl
  part_scalar yes c t = refl
  part_scalar no c t = refl
  part_scalar (copy x) c t = refl
  part_scalar (head r) c t = refl
  part_scalar (cell r) c t = refl
  part_scalar (ring_at r a) c t = element_scalar r a (names_old u r) refl c t
  part_scalar (un op a) c t = refl
  part_scalar (bin op a b) c t = refl
  part_scalar (choose d a b) c t = refl
  part_scalar (cast ty a) c t = refl
  part_scalar (field a x) c t = refl
  part_scalar (pick x n a i) c t = scalar_still i (right_reads u a i c) t
  part_scalar (arr x n all) c t = refl
  part_scalar (rec x all) c t = refl

  element_way : (r : List ℕ) (a : Expr) (b : Bool) → names_old u r ≡ b → has_index u r ≡ true → reads_its_way (made u name bytes need step)
      (if b then cell r else ring_at r a) ≡ true
  element_way r a true e t = indexed_no_more r e
  element_way r a false e t = indexed_still r e t

  part_way : Renews u (reads_its_way u) (reads_its_way (made u name bytes need step))
  part_way (lit k n) c t = refl
  part_way yes c t = refl
  part_way no c t = refl
  part_way (copy x) c t = refl
  part_way (head r) c t = indexed_still r (head_is_other u r c) t
  part_way (cell r) c t = plain_still r t
  part_way (ring_at r a) c t = element_way r (renewed u a) (names_old u r) refl t
  part_way (un op a) c t = refl
  part_way (bin op a b) c t = refl
  part_way (choose d a b) c t = refl
  part_way (cast ty a) c t = refl
  part_way (field a x) c t = refl
  part_way (pick x n a i) c t = refl
  part_way (arr x n all) c t = refl
  part_way (rec x all) c t = refl

  -- ---- statements

  store_there : (r : List ℕ) (e : Expr) (b : Bool) → is_some (ring_of u r) ≡ true → passes (is_statement_there (made u name bytes need step))
      (if b then Some (puts r) else Some (stores r e)) ≡ true
  store_there r e true h = ring_there r h
  store_there r e false h = ring_there r h

  move_there : (r : List ℕ) (e : Expr) (b : Bool) → is_some (ring_of u r) ≡ true → passes (is_statement_there (made u name bytes need step))
      (if b then None else Some (moves r e)) ≡ true
  move_there r e true h = refl
  move_there r e false h = ring_there r h

  statement_there : RenewsStatement u (is_statement_there u) (is_statement_there (made u name bytes need step))
  statement_there (copies x) c t = t
  statement_there (calls g guard args) c t = t
  statement_there (nexts r e) c t = ring_there r t
  statement_there (stores r e) c t = store_there r (renewed u e) (names_old u r) t
  statement_there (moves r e) c t = move_there r (renewed u e) (names_old u r) t
  statement_there (puts r) c t = ring_there r t

  store_full : (r : List ℕ) (e : Expr) (b : Bool) → passes (has_all_arguments (made u name bytes need step)) (if b then Some (puts r) else Some (stores r e))
      ≡ true
  store_full r e true = refl
  store_full r e false = refl

  move_full : (r : List ℕ) (e : Expr) (b : Bool) → passes (has_all_arguments (made u name bytes need step)) (if b then None else Some (moves r e)) ≡ true
  move_full r e true = refl
  move_full r e false = refl

  statement_full : RenewsStatement u (has_all_arguments u) (has_all_arguments (made u name bytes need step))
  statement_full (copies x) c t = refl
  statement_full (calls g guard args) c t = ap (λ (n : ℕ). option_map_or (λ (p : CProto). nat_eq n (length p.params)) (handler_of u g) false)
      (same_length u args) ∙ t
  statement_full (nexts r e) c t = refl
  statement_full (stores r e) c t = store_full r (renewed u e) (names_old u r)
  statement_full (moves r e) c t = move_full r (renewed u e) (names_old u r)
  statement_full (puts r) c t = refl

  store_scalar : (r : List ℕ) (e : Expr) (b : Bool) → names_old u r ≡ b → UsesOfOld u (stores r e) → is_scalar_expr u e ≡ true
      → passes (is_scalar_where_asked (made u name bytes need step)) (if b then Some (puts r) else Some (stores r (renewed u e))) ≡ true
  store_scalar r e true n c t = refl
  store_scalar r e false n c t = scalar_still e (store_reads u r e n c) t

  move_scalar : (r : List ℕ) (e : Expr) (b : Bool) → passes (is_scalar_where_asked (made u name bytes need step)) (if b then None else Some (moves r e)) ≡ true
  move_scalar r e true = refl
  move_scalar r e false = refl

  statement_scalar : RenewsStatement u (is_scalar_where_asked u) (is_scalar_where_asked (made u name bytes need step))
  statement_scalar (copies x) c t = refl
  statement_scalar (calls g guard args) c t = scalar_still guard (here_reads u guard args c) t
  statement_scalar (nexts r e) c t = refl
  statement_scalar (stores r e) c t = store_scalar r e (names_old u r) refl c t
  statement_scalar (moves r e) c t = move_scalar r (renewed u e) (names_old u r)
  statement_scalar (puts r) c t = refl

  store_fits : (r : List ℕ) (e : Expr) (b : Bool) → passes (has_fitting_values (made u name bytes need step)) (if b then Some (puts r) else Some (stores r e))
      ≡ true
  store_fits r e true = refl
  store_fits r e false = refl

  move_fits : (r : List ℕ) (e : Expr) (b : Bool) → names_old u r ≡ b → UsesOfOld u (moves r e) → fits_in (type_of u e) (ty.Scalar t.U32) ≡ true
      → passes (has_fitting_values (made u name bytes need step)) (if b then None else Some (moves r (renewed u e))) ≡ true
  move_fits r e true n c h = refl
  move_fits r e false n c h = ap (λ (o : Option CTy). fits_in o (ty.Scalar t.U32)) (new_type u name bytes need step e (move_reads u r e n c)) ∙ h

  statement_fits : RenewsStatement u (has_fitting_values u) (has_fitting_values (made u name bytes need step))
  statement_fits (copies x) c h = refl
  statement_fits (calls g guard args) c h =
      ap (λ (ts : List (Option CTy)). option_map_or (λ (p : CProto). fit_params ts p.params) (handler_of u g) false) (new_types u name bytes need step args
      (others_read u guard args c)) ∙ h
  statement_fits (nexts r e) c h =
      ap (λ (o : Option CRing). option_map_or (λ (z : CRing). fits_in (type_of (made u name bytes need step) (renewed u e)) z.ty) o false)
      (new_ring u name bytes need step r)
      ∙ fits_still (type_of (made u name bytes need step) (renewed u e)) (ring_of u r)
      ∙ ap (λ (a : Option CTy). option_map_or (λ (z : CRing). fits_in a z.ty) (ring_of u r) false) (new_type u name bytes need step e c) ∙ h
  statement_fits (stores r e) c h = store_fits r (renewed u e) (names_old u r)
  statement_fits (moves r e) c h = move_fits r e (names_old u r) refl c h
  statement_fits (puts r) c h = refl

  store_way : (r : List ℕ) (e : Expr) (b : Bool) → names_old u r ≡ b → has_index u r ≡ true → passes (writes_its_way (made u name bytes need step))
      (if b then Some (puts r) else Some (stores r e)) ≡ true
  store_way r e true n t = indexed_no_more r n
  store_way r e false n t = indexed_still r n t

  move_way : (r : List ℕ) (e : Expr) (b : Bool) → names_old u r ≡ b → has_index u r ≡ true → passes (writes_its_way (made u name bytes need step))
      (if b then None else Some (moves r e)) ≡ true
  move_way r e true n t = refl
  move_way r e false n t = indexed_still r n t

  statement_way : RenewsStatement u (writes_its_way u) (writes_its_way (made u name bytes need step))
  statement_way (copies x) c t = refl
  statement_way (calls g guard args) c t = refl
  statement_way (nexts r e) c t = refl
  statement_way (stores r e) c t = store_way r (renewed u e) (names_old u r) refl t
  statement_way (moves r e) c t = move_way r (renewed u e) (names_old u r) refl t
  statement_way (puts r) c t = plain_still r t

-- ---- rings

ring_kept : (p : CRing → Bool) → ((r : CRing) → p r ≡ true → p (record r { indexed = false }) ≡ true) → (b : Bool) (r : CRing) → is_old r ≡ b → p r ≡ true
    → p (if b then record r { indexed = false } else r) ≡ true
ring_kept p h true r e t = h r t
ring_kept p h false r e t = t

one_or_indexed : (b : Bool) (r : CRing) → is_old r ≡ b → (r.indexed || nat_eq r.len 1) ≡ true → ((if b then record r { indexed = false } else r).indexed ||
    nat_eq (if b then record r { indexed = false } else r).len 1) ≡ true
one_or_indexed true r e t = right_passes r.indexed (nat_eq r.len 1) e
one_or_indexed false r e t = t

same_names : (rs : List CRing) → map (λ (r : CRing). r.name) (map renewed_ring rs) ≡ map (λ (r : CRing). r.name) rs
same_names [] = refl
same_names (r ∷ rs) = let first = same_name r in let rest = same_names rs in cc (first, rest)

-- ---- all rules

five_parts : (a b c d e : Bool) → (a && b && c && d && e) ≡ true → (a ≡ true) × (b ≡ true) × (c ≡ true) × (d ≡ true) × (e ≡ true)
five_parts true true true true true h = (refl, refl, refl, refl, refl)
five_parts true true true true false h = absurd (cc h)
five_parts true true true false e h = absurd (cc h)
five_parts true true false d e h = absurd (cc h)
five_parts true false c d e h = absurd (cc h)
five_parts false b c d e h = absurd (cc h)

six_parts : (a b c d e f g : Bool) → (a && b && c && d && e && f && g) ≡ true → (b ≡ true) × (c ≡ true) × (d ≡ true) × (e ≡ true) × (f ≡ true) × (g ≡ true)
six_parts true true true true true true true h = (refl, refl, refl, refl, refl, refl)
six_parts true true true true true true false h = absurd (cc h)
six_parts true true true true true false g h = absurd (cc h)
six_parts true true true true false f g h = absurd (cc h)
six_parts true true true false e f g h = absurd (cc h)
six_parts true true false d e f g h = absurd (cc h)
six_parts true false c d e f g h = absurd (cc h)
six_parts false b c d e f g h = absurd (cc h)

four_pass : (a b c d : Bool) → a ≡ true → b ≡ true → c ≡ true → d ≡ true → (a && b && c && d) ≡ true
four_pass a b c d h i j k = rw (h, i, j, k) refl

five_pass : (a b c d e : Bool) → a ≡ true → b ≡ true → c ≡ true → d ≡ true → e ≡ true → (a && b && c && d && e) ≡ true
five_pass a b c d e h i j k l = rw (h, i, j, k, l) refl

seven_pass : (a b c d e f g : Bool) → a ≡ true → b ≡ true → c ≡ true → d ≡ true → e ≡ true → f ≡ true → g ≡ true → (a && b && c && d && e && f && g) ≡ true
seven_pass a b c d e f g h i j k l m n = rw (h, i, j, k, l, m, n) refl

total_by : (bytes need s w : ℕ) → bytes ≡ s → need ≡ w → s ≤ 2147483647 → w ≤ 2147483647 → (nat_eq bytes s && nat_eq need w && nat_le bytes 2147483647 &&
    nat_le need 2147483647) ≡ true
total_by bytes need s w h g i j =
    four_pass (nat_eq bytes s) (nat_eq need w) (nat_le bytes 2147483647) (nat_le need 2147483647) (grind (arith, nat_tests, h)) (grind (arith, nat_tests, g))
    (grind (arith, nat_tests, h, i)) (grind (arith, nat_tests, g, j))

module _ (u : CUnit) (name : List ℕ) (bytes need : ℕ) (step : List CStmt) (same : map statement step ≡ filter_map (renewed_statement u) (statements u))
    (w : IsWellFormed u) (all : AllUseOfOld u (statements u)) where
  each_still : (p q : Expr → Bool) → Renews u p q → each_part p u ≡ true → each_part q (made u name bytes need step) ≡ true
  each_still p q h t =
      subst (λ (ss : List Stmt). list_all (λ s. list_all q (parts_in s)) ss ≡ true) (sym same)
      (new_statements u (λ s. list_all p (parts_in s)) (λ s. list_all q (parts_in s)) (statement_parts u p q h) (statements u) all t)

  each_statement_still : (p q : Stmt → Bool) → RenewsStatement u p q → each_statement p u ≡ true → each_statement q (made u name bytes need step) ≡ true
  each_statement_still p q h t = subst (λ (ss : List Stmt). list_all q ss ≡ true) (sym same) (new_statements u p q h (statements u) all t)

  after_still : (f g : List Stmt → Stmt → Bool) → ((before : List Stmt) → RenewsStatement u (f before) (g (filter_map (renewed_statement u) before)))
      → each_after f [] (statements u) ≡ true → each_after g [] (map statement step) ≡ true
  after_still f g h t = subst (λ (ss : List Stmt). each_after g [] ss ≡ true) (sym same) (new_after u f g h [] (statements u) all t)

  rings_still : (p : CRing → Bool) → ((r : CRing) → p r ≡ true → p (record r { indexed = false }) ≡ true) → list_all p u.rings ≡ true
      → list_all p (map renewed_ring u.rings) ≡ true
  rings_still p h t = new_rings p (ring_kept p h) u.rings t

  names_still : is_name name ≡ true → names_are_names (made u name bytes need step) ≡ true
  names_still h =
      let p = six_parts (is_name u.name) (list_all has_names_def u.types) (list_all has_names_var u.externs) (list_all has_names_handler u.handlers)
      (list_all has_names_ring u.rings)
      (each_statement has_names_statement u) (each_part has_names_part u) w.names in
      seven_pass (is_name name) (list_all has_names_def u.types) (list_all has_names_var u.externs) (list_all has_names_handler u.handlers)
      (list_all has_names_ring (map renewed_ring u.rings))
      (each_statement has_names_statement (made u name bytes need step)) (each_part has_names_part (made u name bytes need step)) h p.0 p.1 p.2
      (rings_still has_names_ring (λ r t. t) p.3)
      (each_statement_still has_names_statement has_names_statement (statement_named u) p.4) (each_still has_names_part has_names_part (part_named u) p.5)

  distinct_still : names_are_distinct (made u name bytes need step) ≡ true
  distinct_still =
      ap (λ (xs : List (List ℕ)). types_are_distinct u.types && list_all are_distinct_fields u.types && are_distinct is_same xs && are_distinct is_same
      (map (λ x. x.name) u.externs ++ map (λ h. h.name) u.handlers))
      (same_names u.rings) ∙ w.spaces

  types_still : types_come_first (made u name bytes need step) ≡ true
  types_still =
      let p = four (types_are_built_in_order u.types) (list_all (λ x. is_defined u.types x.ty) u.externs) (list_all (λ h. list_all (is_defined u.types)
      h.params) u.handlers) (list_all (λ r. is_defined u.types r.ty) u.rings) w.types_first in
      four_pass (types_are_built_in_order u.types) (list_all (λ x. is_defined u.types x.ty) u.externs) (list_all (λ h. list_all (is_defined u.types) h.params)
      u.handlers)
      (list_all (λ r. is_defined u.types r.ty) (map renewed_ring u.rings)) p.0 p.1 p.2 (rings_still (λ r. is_defined u.types r.ty) (λ r t. t) p.3)

  there_still : used_things_are_there (made u name bytes need step) ≡ true
  there_still =
      both_pass (each_statement (is_statement_there (made u name bytes need step)) (made u name bytes need step))
      (each_part (is_there (made u name bytes need step)) (made u name bytes need step))
      (each_statement_still (is_statement_there u) (is_statement_there (made u name bytes need step)) (statement_there u name bytes need step)
      (left_passes (each_statement (is_statement_there u) u) (each_part (is_there u) u) w.used_there))
      (each_still (is_there u) (is_there (made u name bytes need step)) (part_there u name bytes need step)
      (right_passes (each_statement (is_statement_there u) u) (each_part (is_there u) u) w.used_there))

  scalars_still : guards_and_subscripts_are_scalar (made u name bytes need step) ≡ true
  scalars_still =
      both_pass (each_statement (is_scalar_where_asked (made u name bytes need step)) (made u name bytes need step))
      (each_part (has_scalar_subscript (made u name bytes need step)) (made u name bytes need step))
      (each_statement_still (is_scalar_where_asked u) (is_scalar_where_asked (made u name bytes need step)) (statement_scalar u name bytes need step)
      (left_passes (each_statement (is_scalar_where_asked u) u) (each_part (has_scalar_subscript u) u) w.scalars))
      (each_still (has_scalar_subscript u) (has_scalar_subscript (made u name bytes need step)) (part_scalar u name bytes need step)
      (right_passes (each_statement (is_scalar_where_asked u) u) (each_part (has_scalar_subscript u) u) w.scalars))

  copies_still : copies_come_first (made u name bytes need step) ≡ true
  copies_still =
      after_still (λ before s. list_all (is_read_after_copy before) (parts_in s)) (λ before s. list_all (is_read_after_copy before) (parts_in s))
      (λ before. statement_parts u (is_read_after_copy before) (is_read_after_copy (filter_map (renewed_statement u) before)) (part_copied u before)) w.copied

  ways_still : rings_are_used_their_way (made u name bytes need step) ≡ true
  ways_still =
      let p = five_parts (are_distinct is_same (filter_map next_of (statements u))) (each_after is_written_after_next [] (statements u))
      (list_all (λ r. r.indexed || nat_eq r.len 1) u.rings)
      (each_part (reads_its_way u) u) (each_statement (writes_its_way u) u) w.rings in
      let nexts_same : filter_map next_of (map statement step) ≡ filter_map next_of (statements u) = ap (filter_map next_of) same
      ∙ same_nexts u (statements u) in
      five_pass (are_distinct is_same (filter_map next_of (map statement step))) (each_after is_written_after_next [] (map statement step))
      (list_all (λ r. r.indexed || nat_eq r.len 1) (map renewed_ring u.rings))
      (each_part (reads_its_way (made u name bytes need step)) (made u name bytes need step)) (each_statement (writes_its_way (made u name bytes need step))
      (made u name bytes need step))
      (ap (are_distinct is_same) nexts_same ∙ p.0)
      (after_still is_written_after_next is_written_after_next (statement_behind u) p.1)
      (new_rings (λ r. r.indexed || nat_eq r.len 1) one_or_indexed u.rings p.2)
      (each_still (reads_its_way u) (reads_its_way (made u name bytes need step)) (part_way u name bytes need step) p.3)
      (each_statement_still (writes_its_way u) (writes_its_way (made u name bytes need step)) (statement_way u name bytes need step) p.4)

  lengths_still : lengths_are_in_range (made u name bytes need step) ≡ true
  lengths_still =
      both_pass (list_all has_array_length (arrays_in u.types)) (list_all (λ r. nat_le 1 r.len && nat_le r.len 65536) (map renewed_ring u.rings))
      (left_passes (list_all has_array_length (arrays_in u.types)) (list_all (λ r. nat_le 1 r.len && nat_le r.len 65536) u.rings) w.lengths)
      (rings_still (λ r. nat_le 1 r.len && nat_le r.len 65536) (λ r t. t) (right_passes (list_all has_array_length (arrays_in u.types))
      (list_all (λ r. nat_le 1 r.len && nat_le r.len 65536) u.rings) w.lengths))

  heights_still : heights_are_in_range (made u name bytes need step) ≡ true
  heights_still =
      both_pass (each_statement (λ s. list_all (λ e. nat_le (height e) most_height) (expressions_in s)) (made u name bytes need step))
      (list_all (has_low_constants u.types) (map renewed_ring u.rings))
      (each_statement_still (λ s. are_low (expressions_in s)) (λ s. are_low (expressions_in s)) (statement_low u)
      (left_passes (each_statement (λ s. are_low (expressions_in s)) u) (list_all (has_low_constants u.types) u.rings) w.heights))
      (rings_still (has_low_constants u.types) (λ r t. t) (right_passes (each_statement (λ s. are_low (expressions_in s)) u)
      (list_all (has_low_constants u.types) u.rings) w.heights))

  made_formed : is_name name ≡ true → bytes ≡ storage_of (made u name bytes need step) → need ≡ unit_weight_of (made u name bytes need step)
      → storage_of (made u name bytes need step) ≤ 2147483647 → unit_weight_of (made u name bytes need step) ≤ 2147483647
      → IsWellFormed (made u name bytes need step)
  made_formed h bytes_are need_is small light =
      record {
        names = names_still h;
        spaces = distinct_still;
        types_first = types_still;
        used_there = there_still;
        fields = w.fields;
        literals = each_still is_in_range is_in_range (part_ranged u) w.literals;
        constants = rings_still (λ r. is_some (first_values u.types r)) (λ r t. t) w.constants;
        types = each_still (λ e. is_some (type_of u e)) (λ e. is_some (type_of (made u name bytes need step) e)) (part_typed u name bytes need step) w.types;
        arguments = each_statement_still (has_all_arguments u) (has_all_arguments (made u name bytes need step)) (statement_full u name bytes need step)
            w.arguments;
        scalars = scalars_still;
        assigned = each_statement_still (has_fitting_values u) (has_fitting_values (made u name bytes need step)) (statement_fits u name bytes need step)
            w.assigned;
        copied = copies_still;
        rings = ways_still;
        lengths = lengths_still;
        heights = heights_still;
        totals = total_by bytes need (storage_of (made u name bytes need step)) (unit_weight_of (made u name bytes need step)) bytes_are need_is small light;
      }

  pub made_types : IsTrue (types_come_first (made u name bytes need step))
  made_types = types_still

pub new_types_first : (u v : CUnit) (name : List ℕ) → IsRenewed u name v → IsWellFormed u → misused u ≡ None → IsTrue (types_come_first v)
new_types_first u v name is w h =
    subst (λ (z : CUnit). IsTrue (types_come_first z)) (sym (is_made u v name is)) (made_types u name v.storage v.need v.step is.step w (all_use_of_old u h))

pub new_formed : (u v : CUnit) (name : List ℕ) → IsMigrated u name v → IsWellFormed u → IsTrue (is_name name) → misused u ≡ None → IsWellFormed v
new_formed u v name m w n h =
    let is = is_made u v name m.renewed in
    subst IsWellFormed (sym is)
    (made_formed u name v.storage v.need v.step m.renewed.step w (all_use_of_old u h) n (m.storage ∙ ap storage_of is) (m.need ∙ ap unit_weight_of is)
    (subst (λ (z : CUnit). storage_of z ≤ 2147483647) is (storage_fits u v name m.renewed w)) (subst (λ (z : CUnit). unit_weight_of z ≤ 2147483647) is
    (weight_fits u v name m.renewed w)))
