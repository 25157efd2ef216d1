-- A test of all parts is the test of the parts of each part.
use Rattle.std.proofs.Common.{◌≡◌, List, [], ◌∷◌, Bool, ◌||◌, length, map, refl, ap, arith}
use Rattle.std.specs.List.{list_any}
use Rattle.std.proofs.lemmas.List.Folds.{list_all-append}
use Rattle.c99_tree.specs.declared.expr.CExpr.{CExpr}
use Rattle.c99_tree.specs.Tree.{tree, exprs}
use Rattle.c99_tree.specs.WellFormed.{list_of}

pub ruleset parting_laws = (list_all-append)

pub list_of_count : (all : List CExpr) → length (list_of (exprs (map tree all))) ≡ length all
list_of_count [] = refl
list_of_count (e ∷ all) = let h = list_of_count all in omega (arith, h)

pub any_map : {X Y : Type 0} (p : Y → Bool) (f : X → Y) (xs : List X) → list_any p (map f xs) ≡ list_any (λ x. p (f x)) xs
any_map p f [] = refl
any_map p f (x ∷ xs) = ap (λ (b : Bool). p (f x) || b) (any_map p f xs)
