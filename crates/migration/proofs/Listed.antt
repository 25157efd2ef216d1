-- What is made of each element of a list.
use Rattle.std.proofs.Common.{◌≡◌, ℕ, ◌+◌, ◌<◌, ◌≤◌, Bool, true, false, cond, List, [], ◌∷◌, ◌++◌, length, get_or, map, take, drop, Option, Some, None, refl, sym, ap, ◌∙◌, subst}
use Rattle.std.specs.List.{position_from, filter_map, cons_option}
use Rattle.std.proofs.lemmas.List.{take_all, take_more, drop_more}
use Rattle.std.proofs.lemmas.List.Elements.{filter_map-append}
use Rattle.sm_io.proofs.Elements.{map_push}
use Rattle.c99_tree.specs.declared.expr.CExpr.{CExpr}
use Rattle.c99_tree.specs.declared.unit.CStmt.{CStmt}
use Rattle.c99_tree.specs.declared.unit.Unit.{Unit as CUnit}
use Rattle.c99_tree.specs.Tree.{tree, exprs, more, Stmt, statement}
use Rattle.migration.specs.Migration.{renewed, renewed_all, renewed_statement}

renewed_each : (u : CUnit) (all : List CExpr) → exprs (map (λ (e : CExpr). renewed u (tree e)) all) ≡ renewed_all u (exprs (map tree all))
renewed_each u [] = refl
renewed_each u (e ∷ all) = ap (more (renewed u (tree e))) (renewed_each u all)

-- expressions that are those of a list, renewed, once all of it is taken
pub renewed_parts : (u : CUnit) (parts all : List CExpr) (i : ℕ) → length all ≤ i → map tree parts ≡ map (λ (e : CExpr). renewed u (tree e)) (take i all)
    → exprs (map tree parts) ≡ renewed_all u (exprs (map tree all))
renewed_parts u parts all i high same =
    ap exprs same ∙ ap (λ (es : List CExpr). exprs (map (λ (e : CExpr). renewed u (tree e)) es)) (take_all i all high) ∙ renewed_each u all

-- ---- the first place that passes, told while a list is gone through

next_item : {A : Type 0} (xs : List A) (i : ℕ) (x : A) → i < length xs → x ≡ get_or xs i x → drop i xs ≡ x ∷ drop (i + 1) xs
next_item xs i x less is = drop_more xs i x less ∙ ap (λ y. y ∷ drop (i + 1) xs) (sym is)

first_by : {A : Type 0} (p : A → Bool) (n : ℕ) (x : A) (rest : List A) (b : Bool) → p x ≡ b → position_from p n (x ∷ rest) ≡ cond b (Some n)
    (position_from p (n + 1) rest)
first_by p n x rest b is = ap (λ (c : Bool). cond c (Some n) (position_from p (n + 1) rest)) is

-- the list that is gone through is another's
item_of : {A : Type 0} (xs ys : List A) (i : ℕ) (x : A) → ys ≡ xs → i < length ys → x ≡ get_or ys i x → drop i xs ≡ x ∷ drop (i + 1) xs
item_of {A = A} xs ys i x same less is = subst (λ (zs : List A). drop i zs ≡ x ∷ drop (i + 1) zs) same (next_item ys i x less is)

pub first_here : {A : Type 0} (p : A → Bool) (xs ys : List A) (n i : ℕ) (x : A) → ys ≡ xs → i < length ys → x ≡ get_or ys i x → p x ≡ true
    → position_from p n (drop i xs) ≡ position_from p 1 xs → Some n ≡ position_from p 1 xs
first_here p xs ys n i x same less is passes rest =
    sym (ap (position_from p n) (item_of xs ys i x same less is) ∙ first_by p n x (drop (i + 1) xs) true passes) ∙ rest

pub first_later : {A : Type 0} (p : A → Bool) (xs ys : List A) (n i : ℕ) (x : A) → ys ≡ xs → i < length ys → x ≡ get_or ys i x → p x ≡ false
    → position_from p n (drop i xs) ≡ position_from p 1 xs → position_from p (n + 1) (drop (i + 1) xs) ≡ position_from p 1 xs
first_later p xs ys n i x same less is fails rest =
    sym (ap (position_from p n) (item_of xs ys i x same less is) ∙ first_by p n x (drop (i + 1) xs) false fails) ∙ rest

-- ---- the statements that stay

renewed_more : (u : CUnit) (old : List CStmt) (i : ℕ) (s : CStmt) → i < length old → s ≡ get_or old i s
    → filter_map (renewed_statement u) (map statement (take (i + 1) old)) ≡ filter_map (renewed_statement u) (map statement (take i old)) ++ cons_option
    (renewed_statement u (statement s)) []
renewed_more u old i s less is =
    ap (λ (xs : List CStmt). filter_map (renewed_statement u) (map statement xs)) (take_more old i s less ∙ ap (λ (x : CStmt). take i old ++ x ∷ []) (sym is))
    ∙ ap (filter_map (renewed_statement u)) (map_push statement (take i old) s)
    ∙ filter_map-append (renewed_statement u) (map statement (take i old)) (statement s ∷ [])

-- the list that is gone through is the program's
pub renewed_next : (u : CUnit) (old items : List CStmt) (i : ℕ) (s : CStmt) (step : List CStmt) → items ≡ old → i < length items → s ≡ get_or items i s
    → map statement step ≡ filter_map (renewed_statement u) (map statement (take i old))
    → map statement step ++ cons_option (renewed_statement u (statement s)) [] ≡ filter_map (renewed_statement u) (map statement (take (i + 1) old))
renewed_next u old items i s step same less is before =
    ap (λ (ss : List Stmt). ss ++ cons_option (renewed_statement u (statement s)) []) before
    ∙ sym (subst (λ (xs : List CStmt). filter_map (renewed_statement u) (map statement (take (i + 1) xs)) ≡ filter_map (renewed_statement u)
    (map statement (take i xs)) ++ cons_option (renewed_statement u (statement s)) [])
    same (renewed_more u items i s less is))

pub one_pushed : (u : CUnit) (s : Stmt) (step : List CStmt) (new : CStmt) → Some (statement new) ≡ renewed_statement u s → map statement (step ++ new ∷ []) ≡
    map statement step ++ cons_option (renewed_statement u s) []
one_pushed u s step new is = map_push statement step new ∙ ap (λ (o : Option Stmt). map statement step ++ cons_option o []) is

pub none_pushed : (u : CUnit) (s : Stmt) (step : List CStmt) → None ≡ renewed_statement u s → map statement step ≡ map statement step ++ cons_option
    (renewed_statement u s) []
none_pushed u s step is = sym (append_none (map statement step)) ∙ ap (λ (o : Option Stmt). map statement step ++ cons_option o []) is
  where
    append_none : (xs : List Stmt) → xs ++ [] ≡ xs
    append_none [] = refl
    append_none (x ∷ xs) = ap (λ (ys : List Stmt). x ∷ ys) (append_none xs)
