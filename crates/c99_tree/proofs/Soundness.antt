-- What the checks of the statements say, rule by rule.
use Rattle.std.proofs.Common.{◌≡◌, ℕ, List, [], ◌∷◌, ◌++◌, length, Bool, true, false, not, ◌&&◌, Option, Some, None, refl, sym, ◌∙◌}
use Rattle.std.specs.Prelude.{IsSome, is_some, nat_eq, nat_le, if◌then◌else◌}
use Rattle.std.specs.Option.{option_map, option_and_then, option_map_or}
use Rattle.std.specs.List.{list_all}
use Rattle.std.proofs.lemmas.Bool.{and_parts, and_from}
use Rattle.std.proofs.lemmas.List.Folds.{list_all-append}
use Rattle.c99_tree.specs.declared.types.CTy.{CTy}
use Rattle.c99_tree.specs.declared.types.CTy.TheVariants as ty
use Rattle.c99_tree.specs.declared.types.CVar.{CVar}
use Rattle.c99_tree.specs.declared.unit.CRing.{CRing}
use Rattle.c99_tree.specs.declared.unit.Unit.{Unit as CUnit}
use Rattle.c99_tree.specs.Tree.{Expr, Exprs, lit, yes, no, copy, head, cell, ring_at, un, bin, choose, cast, field, pick, arr, rec, none, more, Stmt, statements}
use Rattle.c99_tree.specs.Words.{elem_type}
use Rattle.c99_tree.specs.Lookup.{fields_of, var_of, ring_of}
use Rattle.c99_tree.specs.Spelling.{height, most_height}
use Rattle.c99_tree.specs.Typing.{type_of, types_of, scalar_type, where_scalar, where_type, where_true, arms_type_of, fields_in, fits_in, fit_members, fit_elements, is_same_type, unary_type, binary_type, is_scalar_type}
use Rattle.c99_tree.specs.WellFormed.{parts_of, parts_of_all, expressions_in, parts_in, each_part, each_statement, has_names_part, is_there, is_in_range, reads_its_way, has_scalar_subscript, has_names_statement, is_statement_there, has_all_arguments, is_scalar_where_asked, has_fitting_values, writes_its_way}
use Rattle.c99_tree.specs.Checks.{is_named_there, is_sound_part, is_sound_expression, are_sound_expressions, is_sound_statement}
use Rattle.c99_tree.proofs.Optional.{map-some, both-some}
use Rattle.sm_io.proofs.Truths.{all_weaker, all-flat_map}

-- ---- lists

pub all-join : {X : Type 0} (p q r : X → Bool) → ((x : X) → p x ≡ true → q x ≡ true → r x ≡ true) → (xs : List X) → list_all p xs ≡ true → list_all q xs ≡ true → list_all r xs ≡ true
all-join p q r m [] h g = refl
all-join p q r m (x ∷ xs) h g =
    let a = and_parts (p x) (list_all p xs) h in
    let b = and_parts (q x) (list_all q xs) g in
    and_from (r x) (list_all r xs) (m x a.0 b.0) (all-join p q r m xs a.1 b.1)

-- ---- an expression that has a type has parts that have types

scalar-some : (o : Option CTy) → IsSome (scalar_type o) → IsSome o
scalar-some None h = absurd (cc h)
scalar-some (Some t) h = refl

where_scalar-some : (a t : Option CTy) → IsSome (where_scalar a t) → IsSome a × IsSome t
where_scalar-some None t h = absurd (cc h)
where_scalar-some (Some (ty.Scalar s)) t h = (refl, h)
where_scalar-some (Some (ty.Struct x)) t h = absurd (cc h)
where_scalar-some (Some (ty.Array x n)) t h = absurd (cc h)

where_scalar-scalar : (a t : Option CTy) → IsSome (where_scalar a t) → option_map_or is_scalar_type a false ≡ true
where_scalar-scalar None t h = absurd (cc h)
where_scalar-scalar (Some (ty.Scalar s)) t h = refl
where_scalar-scalar (Some (ty.Struct x)) t h = absurd (cc h)
where_scalar-scalar (Some (ty.Array x n)) t h = absurd (cc h)

arms-some : (a b : Option CTy) → IsSome (arms_type_of a b) → IsSome a × IsSome b
arms-some None b h = absurd (cc h)
arms-some (Some a) None h = absurd (cc h)
arms-some (Some a) (Some b) h = (refl, refl)

if-some : (b : Bool) (t : Option CTy) → IsSome (if b then t else None) → IsSome t
if-some true t h = h
if-some false t h = absurd (cc h)

where_type-some : (a : Option CTy) (b : CTy) (t : Option CTy) → IsSome (where_type a b t) → IsSome a × IsSome t
where_type-some None b t h = absurd (cc h)
where_type-some (Some a) b t h = (refl, if-some (is_same_type a b) t h)

where_true-true : (b : Bool) (t : Option CTy) → IsSome (where_true b t) → b ≡ true
where_true-true true t h = refl
where_true-true false t h = absurd (cc h)

fields-some : (u : CUnit) (a : Option CTy) (x : List ℕ) → IsSome (var_of (fields_in u.types a) x) → IsSome a
fields-some u None x h = absurd (cc h)
fields-some u (Some a) x h = refl

fits-some : (a : Option CTy) (t : CTy) → fits_in a t ≡ true → is_some a ≡ true
fits-some None t h = absurd (cc h)
fits-some (Some a) t h = refl

members-some : (as' : List (Option CTy)) (xs : List CVar) → fit_members as' xs ≡ true → list_all is_some as' ≡ true
members-some [] xs h = refl
members-some (a ∷ all) [] h = absurd (cc h)
members-some (a ∷ all) (x ∷ xs) h =
    let p = and_parts (fits_in a x.ty) (fit_members all xs) h in
    and_from (is_some a) (list_all is_some all) (fits-some a x.ty p.0) (members-some all xs p.1)

found-some : (ts : List (Option CTy)) (o : Option (List CVar)) (t : CTy) → IsSome (option_and_then (λ fields. where_true (fit_members ts fields) (Some t)) o) → list_all is_some ts ≡ true
found-some ts None t h = absurd (cc h)
found-some ts (Some fields) t h = members-some ts fields (where_true-true (fit_members ts fields) (Some t) h)

abbrev typed : CUnit → Expr → Bool
typed u e = is_some (type_of u e)

two : (u : CUnit) (a b : Expr) → list_all (typed u) (parts_of a) ≡ true → list_all (typed u) (parts_of b) ≡ true → list_all (typed u) (parts_of a ++ parts_of b) ≡ true
two u a b h g = list_all-append (typed u) (parts_of a) (parts_of b) ∙ and_from (list_all (typed u) (parts_of a)) (list_all (typed u) (parts_of b)) h g

mutual
  typed-parts : (u : CUnit) (e : Expr) → is_some (type_of u e) ≡ true → list_all (typed u) (parts_of e) ≡ true
  typed-parts u (lit k n) h = refl
  typed-parts u yes h = refl
  typed-parts u no h = refl
  typed-parts u (copy x) h = and_from (typed u (copy x)) true h refl
  typed-parts u (head r) h = refl
  typed-parts u (cell r) h = and_from (typed u (cell r)) true h refl
  typed-parts u (ring_at r a) h =
      and_from (typed u (ring_at r a)) (list_all (typed u) (parts_of a)) h (typed-parts u a (where_scalar-some (type_of u a) (option_map (λ (ring : CRing). ring.ty) (ring_of u r)) h).0)
  typed-parts u (un op a) h =
      and_from (typed u (un op a)) (list_all (typed u) (parts_of a)) h (typed-parts u a (scalar-some (type_of u a) (map-some (λ s. ty.Scalar (unary_type op s)) (scalar_type (type_of u a)) h)))
  typed-parts u (bin op a b) h =
      let p = both-some (λ s t. ty.Scalar (binary_type op s t)) (scalar_type (type_of u a)) (scalar_type (type_of u b)) h in
      and_from (typed u (bin op a b)) (list_all (typed u) (parts_of a ++ parts_of b)) h
      (two u a b (typed-parts u a (scalar-some (type_of u a) p.0)) (typed-parts u b (scalar-some (type_of u b) p.1)))
  typed-parts u (choose c a b) h =
      let p = where_scalar-some (type_of u c) (arms_type_of (type_of u a) (type_of u b)) h in
      let q = arms-some (type_of u a) (type_of u b) p.1 in
      and_from (typed u (choose c a b)) (list_all (typed u) (parts_of c ++ (parts_of a ++ parts_of b))) h
      (list_all-append (typed u) (parts_of c) (parts_of a ++ parts_of b)
      ∙ and_from (list_all (typed u) (parts_of c)) (list_all (typed u) (parts_of a ++ parts_of b)) (typed-parts u c p.0) (two u a b (typed-parts u a q.0) (typed-parts u b q.1)))
  typed-parts u (cast t a) h =
      and_from (typed u (cast t a)) (list_all (typed u) (parts_of a)) h (typed-parts u a (where_scalar-some (type_of u a) (Some (ty.Scalar t)) h).0)
  typed-parts u (field a x) h =
      and_from (typed u (field a x)) (list_all (typed u) (parts_of a)) h
      (typed-parts u a (fields-some u (type_of u a) x (map-some (λ (v : CVar). v.ty) (var_of (fields_in u.types (type_of u a)) x) h)))
  typed-parts u (pick x n a i) h =
      let p = where_type-some (type_of u a) (ty.Array x n) (where_scalar (type_of u i) (Some (elem_type x))) h in
      let q = where_scalar-some (type_of u i) (Some (elem_type x)) p.1 in
      and_from (typed u (pick x n a i)) (list_all (typed u) (parts_of a ++ parts_of i)) h (two u a i (typed-parts u a p.0) (typed-parts u i q.0))
  typed-parts u (arr x n all) h =
      let fit = where_true-true (fit_elements (types_of u all) n (elem_type x)) (Some (ty.Array x n)) h in
      let each = (and_parts (nat_eq (length (types_of u all)) n) (list_all (λ a. fits_in a (elem_type x)) (types_of u all)) fit).1 in
      and_from (typed u (arr x n all)) (list_all (typed u) (parts_of_all all)) h
      (typed-parts_all u all (all_weaker (λ a. fits_in a (elem_type x)) is_some (λ a g. fits-some a (elem_type x) g) (types_of u all) each))
  typed-parts u (rec x all) h =
      and_from (typed u (rec x all)) (list_all (typed u) (parts_of_all all)) h (typed-parts_all u all (found-some (types_of u all) (fields_of u.types x) (ty.Struct x) h))

  typed-parts_all : (u : CUnit) (es : Exprs) → list_all is_some (types_of u es) ≡ true → list_all (typed u) (parts_of_all es) ≡ true
  typed-parts_all u none h = refl
  typed-parts_all u (more e es) h =
      let p = and_parts (is_some (type_of u e)) (list_all is_some (types_of u es)) h in
      list_all-append (typed u) (parts_of e) (parts_of_all es)
      ∙ and_from (list_all (typed u) (parts_of e)) (list_all (typed u) (parts_of_all es)) (typed-parts u e p.0) (typed-parts_all u es p.1)

-- ---- what a part that has a type and is sound promises

index-there : (o : Option CRing) → option_map_or (λ (ring : CRing). ring.indexed) o false ≡ true → is_some o ≡ true
index-there None h = absurd (cc h)
index-there (Some r) h = refl

no_index-there : (o : Option CRing) → option_map_or (λ (ring : CRing). not ring.indexed) o false ≡ true → is_some o ≡ true
no_index-there None h = absurd (cc h)
no_index-there (Some r) h = refl

record Sound (u : CUnit) (e : Expr) : Type 0 where
  named : has_names_part e ≡ true
  there : is_named_there u e ≡ true
  ranged : is_in_range e ≡ true
  read : reads_its_way u e ≡ true

sound : (u : CUnit) (e : Expr) → is_sound_part u e ≡ true → Sound u e
sound u e h =
    let p = and_parts (has_names_part e && is_named_there u e && is_in_range e) (reads_its_way u e) h in
    let q = and_parts (has_names_part e && is_named_there u e) (is_in_range e) p.0 in
    let r = and_parts (has_names_part e) (is_named_there u e) q.0 in
    record { named = r.0; there = r.1; ranged = q.1; read = p.1 }

part-there : (u : CUnit) (e : Expr) → typed u e ≡ true → is_sound_part u e ≡ true → is_there u e ≡ true
part-there u (lit k n) t h = refl
part-there u yes t h = refl
part-there u no t h = refl
part-there u (copy x) t h = (sound u (copy x) h).there
part-there u (head r) t h = index-there (ring_of u r) (sound u (head r) h).read
part-there u (cell r) t h = no_index-there (ring_of u r) (sound u (cell r) h).read
part-there u (ring_at r a) t h = index-there (ring_of u r) (sound u (ring_at r a) h).read
part-there u (un op a) t h = refl
part-there u (bin op a b) t h = refl
part-there u (choose c a b) t h = refl
part-there u (cast s a) t h = refl
part-there u (field a x) t h = map-some (λ (v : CVar). v.ty) (var_of (fields_in u.types (type_of u a)) x) t
part-there u (pick x n a i) t h = (sound u (pick x n a i) h).there
part-there u (arr x n all) t h = (sound u (arr x n all) h).there
part-there u (rec x all) t h = (sound u (rec x all) h).there

part-subscript : (u : CUnit) (e : Expr) → typed u e ≡ true → has_scalar_subscript u e ≡ true
part-subscript u (lit k n) t = refl
part-subscript u yes t = refl
part-subscript u no t = refl
part-subscript u (copy x) t = refl
part-subscript u (head r) t = refl
part-subscript u (cell r) t = refl
part-subscript u (ring_at r a) t = where_scalar-scalar (type_of u a) (option_map (λ (ring : CRing). ring.ty) (ring_of u r)) t
part-subscript u (un op a) t = refl
part-subscript u (bin op a b) t = refl
part-subscript u (choose c a b) t = refl
part-subscript u (cast s a) t = refl
part-subscript u (field a x) t = refl
part-subscript u (pick x n a i) t = where_scalar-scalar (type_of u i) (Some (elem_type x)) (where_type-some (type_of u a) (ty.Array x n) (where_scalar (type_of u i) (Some (elem_type x))) t).1
part-subscript u (arr x n all) t = refl
part-subscript u (rec x all) t = refl

part-named_there : (u : CUnit) (e : Expr) → is_there u e ≡ true → is_named_there u e ≡ true
part-named_there u (lit k n) h = refl
part-named_there u yes h = refl
part-named_there u no h = refl
part-named_there u (copy x) h = h
part-named_there u (head r) h = refl
part-named_there u (cell r) h = refl
part-named_there u (ring_at r a) h = refl
part-named_there u (un op a) h = refl
part-named_there u (bin op a b) h = refl
part-named_there u (choose c a b) h = refl
part-named_there u (cast s a) h = refl
part-named_there u (field a x) h = refl
part-named_there u (pick x n a i) h = h
part-named_there u (arr x n all) h = h
part-named_there u (rec x all) h = h

-- ---- an expression

record SoundExpression (u : CUnit) (e : Expr) : Type 0 where
  low : nat_le (height e) most_height ≡ true
  typed_is : is_some (type_of u e) ≡ true
  parts : list_all (is_sound_part u) (parts_of e) ≡ true

sound_expression : (u : CUnit) (e : Expr) → is_sound_expression u e ≡ true → SoundExpression u e
sound_expression u e h =
    let p = and_parts (nat_le (height e) most_height && is_some (type_of u e)) (list_all (is_sound_part u) (parts_of e)) h in
    let q = and_parts (nat_le (height e) most_height) (is_some (type_of u e)) p.0 in
    record { low = q.0; typed_is = q.1; parts = p.1 }

-- every part of a sound expression passes what a part with a type that is sound passes
expression-parts : (u : CUnit) (q : Expr → Bool) → ((x : Expr) → typed u x ≡ true → is_sound_part u x ≡ true → q x ≡ true) → (e : Expr) → is_sound_expression u e ≡ true → list_all q (parts_of e) ≡ true
expression-parts u q m e h =
    let s = sound_expression u e h in
    all-join (typed u) (is_sound_part u) q m (parts_of e) (typed-parts u e s.typed_is) s.parts

-- an expression is among its own parts
itself : (p : Expr → Bool) (e : Expr) → list_all p (parts_of e) ≡ true → p e ≡ true
itself p (lit k n) h = (and_parts (p (lit k n)) true h).0
itself p yes h = (and_parts (p yes) true h).0
itself p no h = (and_parts (p no) true h).0
itself p (copy x) h = (and_parts (p (copy x)) true h).0
itself p (head r) h = (and_parts (p (head r)) true h).0
itself p (cell r) h = (and_parts (p (cell r)) true h).0
itself p (ring_at r a) h = (and_parts (p (ring_at r a)) (list_all p (parts_of a)) h).0
itself p (un op a) h = (and_parts (p (un op a)) (list_all p (parts_of a)) h).0
itself p (bin op a b) h = (and_parts (p (bin op a b)) (list_all p (parts_of a ++ parts_of b)) h).0
itself p (choose c a b) h = (and_parts (p (choose c a b)) (list_all p (parts_of c ++ (parts_of a ++ parts_of b))) h).0
itself p (cast t a) h = (and_parts (p (cast t a)) (list_all p (parts_of a)) h).0
itself p (field a x) h = (and_parts (p (field a x)) (list_all p (parts_of a)) h).0
itself p (pick x n a i) h = (and_parts (p (pick x n a i)) (list_all p (parts_of a ++ parts_of i)) h).0
itself p (arr x n all) h = (and_parts (p (arr x n all)) (list_all p (parts_of_all all)) h).0
itself p (rec x all) h = (and_parts (p (rec x all)) (list_all p (parts_of_all all)) h).0

-- ---- a statement

record SoundStatement (u : CUnit) (s : Stmt) : Type 0 where
  named : has_names_statement s ≡ true
  there : is_statement_there u s ≡ true
  expressions : are_sound_expressions u s ≡ true
  arguments : has_all_arguments u s ≡ true
  scalars : is_scalar_where_asked u s ≡ true
  fitting : has_fitting_values u s ≡ true
  written : writes_its_way u s ≡ true

sound_statement : (u : CUnit) (s : Stmt) → is_sound_statement u s ≡ true → SoundStatement u s
sound_statement u s h =
    let a = and_parts (has_names_statement s && is_statement_there u s && are_sound_expressions u s && has_all_arguments u s && is_scalar_where_asked u s && has_fitting_values u s) (writes_its_way u s) h in
    let b = and_parts (has_names_statement s && is_statement_there u s && are_sound_expressions u s && has_all_arguments u s && is_scalar_where_asked u s) (has_fitting_values u s) a.0 in
    let c = and_parts (has_names_statement s && is_statement_there u s && are_sound_expressions u s && has_all_arguments u s) (is_scalar_where_asked u s) b.0 in
    let d = and_parts (has_names_statement s && is_statement_there u s && are_sound_expressions u s) (has_all_arguments u s) c.0 in
    let e = and_parts (has_names_statement s && is_statement_there u s) (are_sound_expressions u s) d.0 in
    let f = and_parts (has_names_statement s) (is_statement_there u s) e.0 in
    record { named = f.0; there = f.1; expressions = e.1; arguments = d.1; scalars = c.1; fitting = b.1; written = a.1 }

-- every part of a sound statement passes what a part with a type that is sound passes
statement-parts : (u : CUnit) (q : Expr → Bool) → ((x : Expr) → typed u x ≡ true → is_sound_part u x ≡ true → q x ≡ true) → (s : Stmt) → is_sound_statement u s ≡ true → list_all q (parts_in s) ≡ true
statement-parts u q m s h =
    all-flat_map q parts_of (expressions_in s) ∙ all_weaker (is_sound_expression u) (λ e. list_all q (parts_of e)) (expression-parts u q m) (expressions_in s) (sound_statement u s h).expressions

step-parts : (u : CUnit) (q : Expr → Bool) → ((x : Expr) → typed u x ≡ true → is_sound_part u x ≡ true → q x ≡ true) → each_statement (is_sound_statement u) u ≡ true → each_part q u ≡ true
step-parts u q m h = all_weaker (is_sound_statement u) (λ s. list_all q (parts_in s)) (statement-parts u q m) (statements u) h

-- what the statements' checks say of the step
pub record StepRules (u : CUnit) : Type 0 where
  pub named : each_statement has_names_statement u ≡ true
  pub there : each_statement (is_statement_there u) u ≡ true
  pub arguments : each_statement (has_all_arguments u) u ≡ true
  pub scalars : each_statement (is_scalar_where_asked u) u ≡ true
  pub fitting : each_statement (has_fitting_values u) u ≡ true
  pub written : each_statement (writes_its_way u) u ≡ true
  pub low : each_statement (λ s. list_all (λ e. nat_le (height e) most_height) (expressions_in s)) u ≡ true
  pub part_names : each_part has_names_part u ≡ true
  pub parts_there : each_part (is_there u) u ≡ true
  pub ranged : each_part is_in_range u ≡ true
  pub typed_are : each_part (λ e. is_some (type_of u e)) u ≡ true
  pub subscripts : each_part (has_scalar_subscript u) u ≡ true
  pub read : each_part (reads_its_way u) u ≡ true

pub step_rules : (u : CUnit) → each_statement (is_sound_statement u) u ≡ true → StepRules u
step_rules u h = record {
  named = all_weaker (is_sound_statement u) has_names_statement (λ s g. (sound_statement u s g).named) (statements u) h;
  there = all_weaker (is_sound_statement u) (is_statement_there u) (λ s g. (sound_statement u s g).there) (statements u) h;
  arguments = all_weaker (is_sound_statement u) (has_all_arguments u) (λ s g. (sound_statement u s g).arguments) (statements u) h;
  scalars = all_weaker (is_sound_statement u) (is_scalar_where_asked u) (λ s g. (sound_statement u s g).scalars) (statements u) h;
  fitting = all_weaker (is_sound_statement u) (has_fitting_values u) (λ s g. (sound_statement u s g).fitting) (statements u) h;
  written = all_weaker (is_sound_statement u) (writes_its_way u) (λ s g. (sound_statement u s g).written) (statements u) h;
  low = all_weaker (is_sound_statement u) (λ s. list_all (λ e. nat_le (height e) most_height) (expressions_in s))
      (λ s g. all_weaker (is_sound_expression u) (λ e. nat_le (height e) most_height) (λ e k. (sound_expression u e k).low) (expressions_in s) (sound_statement u s g).expressions) (statements u) h;
  part_names = step-parts u has_names_part (λ x t g. (sound u x g).named) h;
  parts_there = step-parts u (is_there u) (part-there u) h;
  ranged = step-parts u is_in_range (λ x t g. (sound u x g).ranged) h;
  typed_are = step-parts u (λ e. is_some (type_of u e)) (λ x t g. t) h;
  subscripts = step-parts u (has_scalar_subscript u) (λ x t g. part-subscript u x t) h;
  read = step-parts u (reads_its_way u) (λ x t g. (sound u x g).read) h;
}

-- ---- and back

make_sound : (u : CUnit) (e : Expr) → Sound u e → is_sound_part u e ≡ true
make_sound u e s =
    and_from (has_names_part e && is_named_there u e && is_in_range e) (reads_its_way u e)
    (and_from (has_names_part e && is_named_there u e) (is_in_range e) (and_from (has_names_part e) (is_named_there u e) s.named s.there) s.ranged) s.read

-- four tests of one list together
all-four : {X : Type 0} (p q r s t : X → Bool) → ((x : X) → p x ≡ true → q x ≡ true → r x ≡ true → s x ≡ true → t x ≡ true)
    → (xs : List X) → list_all p xs ≡ true → list_all q xs ≡ true → list_all r xs ≡ true → list_all s xs ≡ true → list_all t xs ≡ true
all-four p q r s t m [] a b c d = refl
all-four p q r s t m (x ∷ xs) a b c d =
    let ap' = and_parts (p x) (list_all p xs) a in
    let bp = and_parts (q x) (list_all q xs) b in
    let cp = and_parts (r x) (list_all r xs) c in
    let dp = and_parts (s x) (list_all s xs) d in
    and_from (t x) (list_all t xs) (m x ap'.0 bp.0 cp.0 dp.0) (all-four p q r s t m xs ap'.1 bp.1 cp.1 dp.1)

-- an expression whose parts keep the rules
record KeepsRules (u : CUnit) (e : Expr) : Type 0 where
  low : nat_le (height e) most_height ≡ true
  named : list_all has_names_part (parts_of e) ≡ true
  there : list_all (is_there u) (parts_of e) ≡ true
  ranged : list_all is_in_range (parts_of e) ≡ true
  typed_are : list_all (typed u) (parts_of e) ≡ true
  read : list_all (reads_its_way u) (parts_of e) ≡ true

make_sound_expression : (u : CUnit) (e : Expr) → KeepsRules u e → is_sound_expression u e ≡ true
make_sound_expression u e k =
    and_from (nat_le (height e) most_height && is_some (type_of u e)) (list_all (is_sound_part u) (parts_of e))
    (and_from (nat_le (height e) most_height) (is_some (type_of u e)) k.low (itself (typed u) e k.typed_are))
    (all-four has_names_part (is_there u) is_in_range (reads_its_way u) (is_sound_part u)
    (λ x a b c d. make_sound u x (record { named = a; there = part-named_there u x b; ranged = c; read = d })) (parts_of e) k.named k.there k.ranged k.read)

-- the expressions of a list, where all keep the rules
all_keep : (u : CUnit) (es : List Expr) → list_all (λ e. nat_le (height e) most_height) es ≡ true → list_all (λ e. list_all has_names_part (parts_of e)) es ≡ true
    → list_all (λ e. list_all (is_there u) (parts_of e)) es ≡ true → list_all (λ e. list_all is_in_range (parts_of e)) es ≡ true
    → list_all (λ e. list_all (typed u) (parts_of e)) es ≡ true → list_all (λ e. list_all (reads_its_way u) (parts_of e)) es ≡ true → list_all (is_sound_expression u) es ≡ true
all_keep u [] a b c d f g = refl
all_keep u (e ∷ es) a b c d f g =
    let ap' = and_parts (nat_le (height e) most_height) (list_all (λ x. nat_le (height x) most_height) es) a in
    let bp = and_parts (list_all has_names_part (parts_of e)) (list_all (λ x. list_all has_names_part (parts_of x)) es) b in
    let cp = and_parts (list_all (is_there u) (parts_of e)) (list_all (λ x. list_all (is_there u) (parts_of x)) es) c in
    let dp = and_parts (list_all is_in_range (parts_of e)) (list_all (λ x. list_all is_in_range (parts_of x)) es) d in
    let fp = and_parts (list_all (typed u) (parts_of e)) (list_all (λ x. list_all (typed u) (parts_of x)) es) f in
    let gp = and_parts (list_all (reads_its_way u) (parts_of e)) (list_all (λ x. list_all (reads_its_way u) (parts_of x)) es) g in
    and_from (is_sound_expression u e) (list_all (is_sound_expression u) es)
    (make_sound_expression u e (record { low = ap'.0; named = bp.0; there = cp.0; ranged = dp.0; typed_are = fp.0; read = gp.0 }))
    (all_keep u es ap'.1 bp.1 cp.1 dp.1 fp.1 gp.1)

parts-of-each : (q : Expr → Bool) (s : Stmt) → list_all q (parts_in s) ≡ true → list_all (λ e. list_all q (parts_of e)) (expressions_in s) ≡ true
parts-of-each q s h = sym (all-flat_map q parts_of (expressions_in s)) ∙ h

-- the rules of the step, for the statements of a list
record ListRules (u : CUnit) (ss : List Stmt) : Type 0 where
  named : list_all has_names_statement ss ≡ true
  there : list_all (is_statement_there u) ss ≡ true
  arguments : list_all (has_all_arguments u) ss ≡ true
  scalars : list_all (is_scalar_where_asked u) ss ≡ true
  fitting : list_all (has_fitting_values u) ss ≡ true
  written : list_all (writes_its_way u) ss ≡ true
  low : list_all (λ s. list_all (λ e. nat_le (height e) most_height) (expressions_in s)) ss ≡ true
  part_names : list_all (λ s. list_all has_names_part (parts_in s)) ss ≡ true
  parts_there : list_all (λ s. list_all (is_there u) (parts_in s)) ss ≡ true
  ranged : list_all (λ s. list_all is_in_range (parts_in s)) ss ≡ true
  typed_are : list_all (λ s. list_all (typed u) (parts_in s)) ss ≡ true
  read : list_all (λ s. list_all (reads_its_way u) (parts_in s)) ss ≡ true

rules-sound : (u : CUnit) (ss : List Stmt) → ListRules u ss → list_all (is_sound_statement u) ss ≡ true
rules-sound u [] r = refl
rules-sound u (s ∷ ss) r =
    let a = and_parts (has_names_statement s) (list_all has_names_statement ss) r.named in
    let b = and_parts (is_statement_there u s) (list_all (is_statement_there u) ss) r.there in
    let c = and_parts (has_all_arguments u s) (list_all (has_all_arguments u) ss) r.arguments in
    let d = and_parts (is_scalar_where_asked u s) (list_all (is_scalar_where_asked u) ss) r.scalars in
    let f = and_parts (has_fitting_values u s) (list_all (has_fitting_values u) ss) r.fitting in
    let g = and_parts (writes_its_way u s) (list_all (writes_its_way u) ss) r.written in
    let h = and_parts (list_all (λ e. nat_le (height e) most_height) (expressions_in s)) (list_all (λ x. list_all (λ e. nat_le (height e) most_height) (expressions_in x)) ss) r.low in
    let i = and_parts (list_all has_names_part (parts_in s)) (list_all (λ x. list_all has_names_part (parts_in x)) ss) r.part_names in
    let j = and_parts (list_all (is_there u) (parts_in s)) (list_all (λ x. list_all (is_there u) (parts_in x)) ss) r.parts_there in
    let k = and_parts (list_all is_in_range (parts_in s)) (list_all (λ x. list_all is_in_range (parts_in x)) ss) r.ranged in
    let l = and_parts (list_all (typed u) (parts_in s)) (list_all (λ x. list_all (typed u) (parts_in x)) ss) r.typed_are in
    let m = and_parts (list_all (reads_its_way u) (parts_in s)) (list_all (λ x. list_all (reads_its_way u) (parts_in x)) ss) r.read in
    let exprs_sound : are_sound_expressions u s ≡ true =
    all_keep u (expressions_in s) h.0 (parts-of-each has_names_part s i.0) (parts-of-each (is_there u) s j.0) (parts-of-each is_in_range s k.0) (parts-of-each (typed u) s l.0) (parts-of-each (reads_its_way u) s m.0) in
    let ab = and_from (has_names_statement s) (is_statement_there u s) a.0 b.0 in
    let abe = and_from (has_names_statement s && is_statement_there u s) (are_sound_expressions u s) ab exprs_sound in
    let abec = and_from (has_names_statement s && is_statement_there u s && are_sound_expressions u s) (has_all_arguments u s) abe c.0 in
    let abecd = and_from (has_names_statement s && is_statement_there u s && are_sound_expressions u s && has_all_arguments u s) (is_scalar_where_asked u s) abec d.0 in
    let abecdf = and_from (has_names_statement s && is_statement_there u s && are_sound_expressions u s && has_all_arguments u s && is_scalar_where_asked u s) (has_fitting_values u s) abecd f.0 in
    and_from (is_sound_statement u s) (list_all (is_sound_statement u) ss)
    (and_from (has_names_statement s && is_statement_there u s && are_sound_expressions u s && has_all_arguments u s && is_scalar_where_asked u s && has_fitting_values u s) (writes_its_way u s) abecdf g.0)
    (rules-sound u ss (record { named = a.1; there = b.1; arguments = c.1; scalars = d.1; fitting = f.1; written = g.1; low = h.1; part_names = i.1; parts_there = j.1; ranged = k.1; typed_are = l.1; read = m.1 }))

pub rules_to_sound : (u : CUnit) → StepRules u → each_statement (is_sound_statement u) u ≡ true
rules_to_sound u r = rules-sound u (statements u) (record { named = r.named; there = r.there; arguments = r.arguments; scalars = r.scalars; fitting = r.fitting; written = r.written; low = r.low; part_names = r.part_names; parts_there = r.parts_there; ranged = r.ranged; typed_are = r.typed_are; read = r.read })
