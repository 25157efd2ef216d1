-- A unit whose guard is higher than 8,192, and otherwise well formed.
use Rattle.std.proofs.Common.{◌≡◌, ℕ, zero, suc, ◌<◌, ◌≤◌, Bool, true, false, List, [], ◌∷◌, Some, refl, ap, ◌∙◌, sym, arith, codes, append-nil}
use Rattle.std.specs.List.{list_all, sum_by}
use Rattle.std.specs.Prelude.{is_some, nat_le, nat_eq}
use Rattle.std.proofs.lemmas.Bool.{and_from, eq-eqb, le-leb}
use Rattle.sm_io.specs.Words.{reserved, limit_fronts, limit_ends}
use Rattle.c99_tree.specs.declared.expr.CUn.TheVariants as u
use Rattle.c99_tree.specs.declared.types.CScalar.TheVariants as t
use Rattle.c99_tree.specs.declared.types.CTy.TheVariants as ty
use Rattle.c99_tree.specs.declared.unit.Unit.{Unit as CUnit}
use Rattle.c99_tree.specs.Tree.{Expr, Stmt, yes, un, none, calls, tree, statements}
use Rattle.c99_tree.specs.TreeLaws.{tree-True, tree-Un}
use Rattle.c99_tree.specs.Spelling.{height, most_height}
use Rattle.c99_tree.specs.Typing.{type_of}
use Rattle.c99_tree.specs.Weight.{weight, statement_weight, unit_weight_of}
use Rattle.c99_tree.specs.WellFormed.{parts_of, parts_in, each_part, each_statement, each_after, expressions_in, has_names_part, has_names_statement, names_are_names, used_things_are_there, literals_are_in_range, expressions_have_types, calls_have_all_arguments, guards_and_subscripts_are_scalar, values_fit, copies_come_first, rings_are_used_their_way, heights_are_in_range, totals_are_right, is_there, is_statement_there, is_in_range, has_all_arguments, is_scalar_where_asked, has_scalar_subscript, has_fitting_values, is_read_after_copy, reads_its_way, writes_its_way}
use Rattle.c99_tree.specs.RefusedUnits.{broken, numbers_of_false, nots, tall}

bangs : ℕ → Expr
bangs zero = yes
bangs (suc n) = un u.Not (bangs n)

tree-nots : (n : ℕ) → tree (nots n) ≡ bangs n
unfolding nots bangs
tree-nots zero = tree-True
tree-nots (suc n) = tree-Un u.Not (nots n) ∙ ap (un u.Not) (tree-nots n)

type-bangs : (unit : CUnit) (n : ℕ) → type_of unit (bangs n) ≡ Some (ty.Scalar t.I32)
unfolding bangs
type-bangs unit zero = refl
type-bangs unit (suc n) = rw (type-bangs unit n) refl

height-bangs : (n : ℕ) → height (bangs n) ≡ n
unfolding bangs
height-bangs zero = refl
height-bangs (suc n) = rw (height-bangs n) (omega arith)

weight-bangs : (n : ℕ) → weight (bangs n) ≡ n
unfolding bangs
weight-bangs zero = refl
weight-bangs (suc n) = rw (weight-bangs n) (omega arith)

all_bangs : (p : Expr → Bool) → ((k : ℕ) → p (bangs k) ≡ true) → (n : ℕ) → list_all p (parts_of (bangs n)) ≡ true
unfolding bangs
all_bangs p h zero = rw (h 0) refl
all_bangs p h (suc n) = and_from _ _ (h (suc n)) (all_bangs p h n)

tall_step : (n : ℕ) → statements (tall n) ≡ calls (codes "t") (bangs n) none ∷ []
unfolding tall
tall_step n = ap (λ (e : Expr). calls (codes "t") e none ∷ []) (tree-nots n)

statement-tall : (p : Stmt → Bool) (n : ℕ) → p (calls (codes "t") (bangs n) none) ≡ true → each_statement p (tall n) ≡ true
statement-tall p n h = ap (list_all p) (tall_step n) ∙ rw h refl

parts-tall : (p : Expr → Bool) (n : ℕ) → ((k : ℕ) → p (bangs k) ≡ true) → list_all p (parts_in (calls (codes "t") (bangs n) none)) ≡ true
parts-tall p n h = ap (list_all p) (append-nil (parts_of (bangs n))) ∙ all_bangs p h n

part-tall : (p : Expr → Bool) (n : ℕ) → ((k : ℕ) → p (bangs k) ≡ true) → each_part p (tall n) ≡ true
part-tall p n h = statement-tall (λ s. list_all p (parts_in s)) n (parts-tall p n h)

-- what holds of `true` and of each `!` holds of all of them
bang_part : (p : Expr → Bool) → p yes ≡ true → ((a : Expr) → p (un u.Not a) ≡ true) → (k : ℕ) → p (bangs k) ≡ true
unfolding bangs
bang_part p y h zero = y
bang_part p y h (suc k) = h (bangs k)

easy-tall : (p : Expr → Bool) (n : ℕ) → p yes ≡ true → ((a : Expr) → p (un u.Not a) ≡ true) → each_part p (tall n) ≡ true
easy-tall p n y h = part-tall p n (bang_part p y h)

has_type-bangs : (unit : CUnit) (n : ℕ) → is_some (type_of unit (bangs n)) ≡ true
has_type-bangs unit n = rw (type-bangs unit n) refl

-- ---- the rules

names : (n : ℕ) → names_are_names (tall n) ≡ true
unfolding tall reserved limit_fronts limit_ends
names n = and_from _ _ (statement-tall has_names_statement n refl) (easy-tall has_names_part n refl (λ a. refl))

used_there : (n : ℕ) → used_things_are_there (tall n) ≡ true
unfolding tall
used_there n = and_from _ _ (statement-tall (is_statement_there (tall n)) n refl) (easy-tall (is_there (tall n)) n refl (λ a. refl))

literals : (n : ℕ) → literals_are_in_range (tall n) ≡ true
literals n = easy-tall is_in_range n refl (λ a. refl)

types : (n : ℕ) → expressions_have_types (tall n) ≡ true
types n = part-tall (λ e. is_some (type_of (tall n) e)) n (has_type-bangs (tall n))

arguments : (n : ℕ) → calls_have_all_arguments (tall n) ≡ true
unfolding tall
arguments n = statement-tall (has_all_arguments (tall n)) n refl

guard_is_scalar : (n : ℕ) → is_scalar_where_asked (tall n) (calls (codes "t") (bangs n) none) ≡ true
guard_is_scalar n = rw (type-bangs (tall n) n) refl

scalars : (n : ℕ) → guards_and_subscripts_are_scalar (tall n) ≡ true
scalars n = and_from _ _ (statement-tall (is_scalar_where_asked (tall n)) n (guard_is_scalar n)) (easy-tall (has_scalar_subscript (tall n)) n refl (λ a. refl))

assigned : (n : ℕ) → values_fit (tall n) ≡ true
unfolding tall
assigned n = statement-tall (has_fitting_values (tall n)) n refl

copied : (n : ℕ) → copies_come_first (tall n) ≡ true
copied n =
    let passes : list_all (is_read_after_copy []) (parts_in (calls (codes "t") (bangs n) none)) ≡ true = parts-tall (is_read_after_copy []) n (bang_part (is_read_after_copy []) refl (λ a. refl)) in
    ap (λ (ss : List Stmt). each_after (λ before s. list_all (is_read_after_copy before) (parts_in s)) [] ss) (tall_step n) ∙ and_from _ _ passes refl

rings : (n : ℕ) → rings_are_used_their_way (tall n) ≡ true
unfolding tall
rings n = and_from _ _ (and_from _ _ refl (easy-tall (reads_its_way (tall n)) n refl (λ a. refl))) (statement-tall (writes_its_way (tall n)) n refl)

too_high : (n : ℕ) → most_height < n → nat_le (height (bangs n)) most_height ≡ false
too_high n h = rw (height-bangs n) (grind (arith, h))

heights : (n : ℕ) → most_height < n → heights_are_in_range (tall n) ≡ false
unfolding tall
heights n h =
    let high : each_statement (λ s. list_all (λ e. nat_le (height e) most_height) (expressions_in s)) (tall n) ≡ false =
    ap (list_all (λ (s : Stmt). list_all (λ e. nat_le (height e) most_height) (expressions_in s))) (tall_step n) ∙ rw (too_high n h) refl in
    rw high refl

weight-tall : (n : ℕ) → unit_weight_of (tall n) ≡ n
weight-tall n = ap (sum_by statement_weight) (tall_step n) ∙ rw (weight-bangs n) (omega arith)

totals : (n : ℕ) → n ≤ 2147483647 → totals_are_right (tall n) ≡ true
unfolding tall
totals n h =
    let need : nat_eq n (unit_weight_of (tall n)) ≡ true = eq-eqb n (unit_weight_of (tall n)) (sym (weight-tall n)) in
    and_from _ _ (and_from _ _ (and_from _ _ refl need) refl) (le-leb n 2147483647 h)

-- where only the fifteenth of sixteen is false
fifteenth : (a b c d e f g h i j k l m n o p : Bool) → a ≡ true → b ≡ true → c ≡ true → d ≡ true → e ≡ true → f ≡ true → g ≡ true → h ≡ true → i ≡ true → j ≡ true → k ≡ true → l ≡ true → m ≡ true → n ≡ true → o ≡ false → p ≡ true →
    numbers_of_false 1 (a ∷ b ∷ c ∷ d ∷ e ∷ f ∷ g ∷ h ∷ i ∷ j ∷ k ∷ l ∷ m ∷ n ∷ o ∷ p ∷ []) ≡ 15 ∷ []
fifteenth a b c d e f g h i j k l m n o p xa xb xc xd xe xf xg xh xi xj xk xl xm xn xo xp = rw (xa, xb, xc, xd, xe, xf, xg, xh, xi, xj, xk, xl, xm, xn, xo, xp) refl

pub broken-tall : (n : ℕ) → most_height < n → n ≤ 2147483647 → broken (tall n) ≡ 15 ∷ []
unfolding tall
broken-tall n h k = fifteenth _ _ _ _ _ _ _ _ _ _ _ _ _ _ _ _ (names n) refl refl (used_there n) refl (literals n) refl (types n) (arguments n) (scalars n) (assigned n) (copied n) (rings n) refl (heights n h) (totals n k)
