-- The rules that the units of specs/RefusedUnits.antt break.
use Rattle.std.proofs.Common.{◌≡◌, ℕ, Bool, true, List, [], ◌∷◌, map, refl, arith}
use Rattle.sm_io.specs.Words.{reserved, limit_fronts, limit_ends}
use Rattle.c99_tree.specs.TreeLaws.{tree_laws}
use Rattle.c99_tree.specs.Values.{shape_within}
use Rattle.c99_tree.proofs.Tall.{broken-tall}
use Rattle.c99_tree.specs.declared.unit.Unit.{Unit as CUnit}
use Rattle.c99_tree.specs.WellFormed.{IsWellFormed}
use Rattle.c99_tree.specs.RefusedUnits.{broken, numbers_of_false, refused_units, rules_broken, bad_name, two_externs_of_one_name, member_before_its_type, copy_of_no_extern, struct_without_members, literal_too_large, constant_too_large, operand_is_a_struct, argument_is_missing, guard_is_a_struct, argument_is_a_struct, copy_is_read_first, put_without_next, array_of_nothing, storage_is_one_more}

pub broken-bad_name : broken bad_name ≡ 1 ∷ []
unfolding bad_name shape_within reserved limit_fronts limit_ends
broken-bad_name = refl

pub broken-two_externs_of_one_name : broken two_externs_of_one_name ≡ 2 ∷ []
unfolding two_externs_of_one_name shape_within reserved limit_fronts limit_ends
broken-two_externs_of_one_name = refl

pub broken-member_before_its_type : broken member_before_its_type ≡ 3 ∷ []
unfolding member_before_its_type shape_within reserved limit_fronts limit_ends
broken-member_before_its_type = refl

pub broken-copy_of_no_extern : broken copy_of_no_extern ≡ 4 ∷ []
unfolding copy_of_no_extern shape_within reserved limit_fronts limit_ends
broken-copy_of_no_extern = refl

pub broken-struct_without_members : broken struct_without_members ≡ 5 ∷ []
unfolding struct_without_members shape_within reserved limit_fronts limit_ends
broken-struct_without_members = refl

pub broken-literal_too_large : broken literal_too_large ≡ 6 ∷ []
unfolding literal_too_large shape_within reserved limit_fronts limit_ends
broken-literal_too_large = simp tree_laws

pub broken-constant_too_large : broken constant_too_large ≡ 7 ∷ []
unfolding constant_too_large shape_within reserved limit_fronts limit_ends
broken-constant_too_large = refl

pub broken-operand_is_a_struct : broken operand_is_a_struct ≡ 8 ∷ 10 ∷ []
unfolding operand_is_a_struct shape_within reserved limit_fronts limit_ends
broken-operand_is_a_struct = simp tree_laws

pub broken-argument_is_missing : broken argument_is_missing ≡ 9 ∷ []
unfolding argument_is_missing shape_within reserved limit_fronts limit_ends
broken-argument_is_missing = simp tree_laws

pub broken-guard_is_a_struct : broken guard_is_a_struct ≡ 10 ∷ []
unfolding guard_is_a_struct shape_within reserved limit_fronts limit_ends
broken-guard_is_a_struct = simp tree_laws

pub broken-argument_is_a_struct : broken argument_is_a_struct ≡ 11 ∷ []
unfolding argument_is_a_struct shape_within reserved limit_fronts limit_ends
broken-argument_is_a_struct = simp tree_laws

pub broken-copy_is_read_first : broken copy_is_read_first ≡ 12 ∷ []
unfolding copy_is_read_first shape_within reserved limit_fronts limit_ends
broken-copy_is_read_first = simp tree_laws

pub broken-put_without_next : broken put_without_next ≡ 13 ∷ []
unfolding put_without_next shape_within reserved limit_fronts limit_ends
broken-put_without_next = refl

pub broken-array_of_nothing : broken array_of_nothing ≡ 14 ∷ []
unfolding array_of_nothing shape_within reserved limit_fronts limit_ends
broken-array_of_nothing = refl

pub broken-storage_is_one_more : broken storage_is_one_more ≡ 16 ∷ []
unfolding storage_is_one_more shape_within reserved limit_fronts limit_ends
broken-storage_is_one_more = refl

next : (a b : List ℕ) (xs ys : List (List ℕ)) → a ≡ b → xs ≡ ys → a ∷ xs ≡ b ∷ ys
next a b xs ys x y = rw (x, y) refl

pub all_refused : map broken refused_units ≡ rules_broken
all_refused =
    next _ _ _ _ broken-bad_name (next _ _ _ _ broken-two_externs_of_one_name (next _ _ _ _ broken-member_before_its_type (next _ _ _ _ broken-copy_of_no_extern
    (next _ _ _ _ broken-struct_without_members (next _ _ _ _ broken-literal_too_large (next _ _ _ _ broken-constant_too_large (next _ _ _ _ broken-operand_is_a_struct
    (next _ _ _ _ broken-argument_is_missing (next _ _ _ _ broken-guard_is_a_struct (next _ _ _ _ broken-argument_is_a_struct (next _ _ _ _ broken-copy_is_read_first
    (next _ _ _ _ broken-put_without_next (next _ _ _ _ broken-array_of_nothing (next _ _ _ _ (broken-tall 8193 (omega arith) (omega arith)) (next _ _ _ _ broken-storage_is_one_more refl)))))))))))))))

-- a well-formed unit breaks no rule
no_false : (a b c d e f g h i j k l m n o p : Bool) → a ≡ true → b ≡ true → c ≡ true → d ≡ true → e ≡ true → f ≡ true → g ≡ true → h ≡ true → i ≡ true → j ≡ true → k ≡ true → l ≡ true → m ≡ true → n ≡ true → o ≡ true → p ≡ true →
    numbers_of_false 1 (a ∷ b ∷ c ∷ d ∷ e ∷ f ∷ g ∷ h ∷ i ∷ j ∷ k ∷ l ∷ m ∷ n ∷ o ∷ p ∷ []) ≡ []
no_false a b c d e f g h i j k l m n o p xa xb xc xd xe xf xg xh xi xj xk xl xm xn xo xp = rw (xa, xb, xc, xd, xe, xf, xg, xh, xi, xj, xk, xl, xm, xn, xo, xp) refl

pub kept : (u : CUnit) → IsWellFormed u → broken u ≡ []
kept u w = no_false _ _ _ _ _ _ _ _ _ _ _ _ _ _ _ _ w.names w.spaces w.types_first w.used_there w.fields w.literals w.constants w.types w.arguments w.scalars w.assigned w.copied w.rings w.lengths w.heights w.totals
