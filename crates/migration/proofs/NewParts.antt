-- What passes a test in the old program's expressions and statements passes another in the new one's.
use Rattle.std.proofs.Common.{◌≡◌, ℕ, Bool, true, false, ◌&&◌, ◌||◌, List, [], ◌∷◌, ◌++◌, map, Option, Some, None, refl, sym, ap, ◌∙◌, subst}
use Rattle.std.specs.Prelude.{if◌then◌else◌}
use Rattle.std.specs.List.{filter_map, cons_option, flat_map, list_all, list_any}
use Rattle.std.proofs.lemmas.List.Elements.{filter_map-append}
use Rattle.std.proofs.lemmas.List.Folds.{list_all-append}
use Rattle.sm_io.proofs.Truths.{both_pass, left_passes, right_passes}
use Rattle.c99_tree.specs.declared.unit.CRing.{CRing}
use Rattle.c99_tree.specs.declared.unit.Unit.{Unit as CUnit}
use Rattle.c99_tree.specs.Tree.{Expr, Exprs, lit, yes, no, copy, head, cell, ring_at, un, bin, choose, cast, field, pick, arr, rec, none, more, Stmt, copies, calls, nexts, stores, moves, puts}
use Rattle.c99_tree.specs.WellFormed.{parts_of, parts_of_all, list_of, parts_in, each_after}
use Rattle.migration.specs.Migration.{is_old, names_old, renewed, renewed_all, renewed_statement, renewed_ring}
use Rattle.migration.proofs.AsOfOld.{ReadsOfOld, AllReadOfOld, UsesOfOld, AllUseOfOld, subscript_reads, left_reads, right_reads, asked_reads, then_reads, else_reads, here_reads, others_read, first_uses, rest_use, store_reads, move_reads}

-- ---- two tests

pub node : (a b c d : Bool) → (a ≡ true → c ≡ true) → (b ≡ true → d ≡ true) → (a && b) ≡ true → (c && d) ≡ true
node a b c d f g t = both_pass c d (f (left_passes a b t)) (g (right_passes a b t))

both_parts : (p q : Expr → Bool) (xs ys zs ws : List Expr) → (list_all p xs ≡ true → list_all q zs ≡ true) → (list_all p ys ≡ true → list_all q ws ≡ true)
    → list_all p (xs ++ ys) ≡ true → list_all q (zs ++ ws) ≡ true
both_parts p q xs ys zs ws f g t = list_all-append q zs ws ∙ node (list_all p xs) (list_all p ys) (list_all q zs) (list_all q ws) f g
    (sym (list_all-append p xs ys) ∙ t)

-- ---- expressions

-- an expression that passes the first test passes the second once it is renewed
abbrev pub Renews : CUnit → (Expr → Bool) → (Expr → Bool) → Type 0
Renews u p q = (e : Expr) → ReadsOfOld u e → p e ≡ true → q (renewed u e) ≡ true

module _ (u : CUnit) (p q : Expr → Bool) (h : Renews u p q) where
  element_parts : (r : List ℕ) (a : Expr) (b : Bool) → names_old u r ≡ b → ReadsOfOld u (ring_at r a) → q (if b then cell r else ring_at r (renewed u a)) ≡ true
      → (ReadsOfOld u a → list_all q (parts_of (renewed u a)) ≡ true) → list_all q (parts_of (if b then cell r else ring_at r (renewed u a))) ≡ true
  element_parts r a true e c t inner = both_pass (q (cell r)) true t refl
  element_parts r a false e c t inner = both_pass (q (ring_at r (renewed u a))) (list_all q (parts_of (renewed u a))) t (inner (subscript_reads u r a e c))

  leaf : (e d : Expr) → (p e ≡ true → q d ≡ true) → (p e && true) ≡ true → (q d && true) ≡ true
  leaf e d f t = node (p e) true (q d) true f (λ s. refl) t

  mutual
    pub new_parts : (e : Expr) → ReadsOfOld u e → list_all p (parts_of e) ≡ true → list_all q (parts_of (renewed u e)) ≡ true
    new_parts (lit k n) c t = leaf (lit k n) (lit k n) (h (lit k n) c) t
    new_parts yes c t = leaf yes yes (h yes c) t
    new_parts no c t = leaf no no (h no c) t
    new_parts (copy x) c t = leaf (copy x) (copy x) (h (copy x) c) t
    new_parts (head r) c t = leaf (head r) (head r) (h (head r) c) t
    new_parts (cell r) c t = leaf (cell r) (cell r) (h (cell r) c) t
    new_parts (ring_at r a) c t =
        element_parts r a (names_old u r) refl c (h (ring_at r a) c (left_passes (p (ring_at r a)) (list_all p (parts_of a)) t))
        (λ g. new_parts a g (right_passes (p (ring_at r a)) (list_all p (parts_of a)) t))
    new_parts (un op a) c t =
        node (p (un op a)) (list_all p (parts_of a)) (q (un op (renewed u a))) (list_all q (parts_of (renewed u a))) (h (un op a) c) (λ s. new_parts a c s) t
    new_parts (bin op a b) c t =
        node (p (bin op a b)) (list_all p (parts_of a ++ parts_of b)) (q (bin op (renewed u a) (renewed u b))) (list_all q (parts_of (renewed u a) ++ parts_of
        (renewed u b))) (h (bin op a b) c)
        (λ s. both_parts p q (parts_of a) (parts_of b) (parts_of (renewed u a)) (parts_of (renewed u b)) (λ v. new_parts a (left_reads u a b c) v)
        (λ v. new_parts b (right_reads u a b c) v) s) t
    new_parts (choose d a b) c t =
        node (p (choose d a b)) (list_all p (parts_of d ++ (parts_of a ++ parts_of b))) (q (choose (renewed u d) (renewed u a) (renewed u b)))
        (list_all q (parts_of (renewed u d) ++ (parts_of (renewed u a) ++ parts_of (renewed u b)))) (h (choose d a b) c)
        (λ s. both_parts p q (parts_of d) (parts_of a ++ parts_of b) (parts_of (renewed u d)) (parts_of (renewed u a) ++ parts_of (renewed u b))
        (λ v. new_parts d (asked_reads u d a b c) v)
        (λ w. both_parts p q (parts_of a) (parts_of b) (parts_of (renewed u a)) (parts_of (renewed u b)) (λ v. new_parts a (then_reads u d a b c) v)
        (λ v. new_parts b (else_reads u d a b c) v) w) s) t
    new_parts (cast ty a) c t =
        node (p (cast ty a)) (list_all p (parts_of a)) (q (cast ty (renewed u a))) (list_all q (parts_of (renewed u a))) (h (cast ty a) c) (λ s. new_parts a c
        s) t
    new_parts (field a x) c t =
        node (p (field a x)) (list_all p (parts_of a)) (q (field (renewed u a) x)) (list_all q (parts_of (renewed u a))) (h (field a x) c) (λ s. new_parts a c
        s) t
    new_parts (pick x n a i) c t =
        node (p (pick x n a i)) (list_all p (parts_of a ++ parts_of i)) (q (pick x n (renewed u a) (renewed u i))) (list_all q (parts_of (renewed u a) ++
        parts_of (renewed u i))) (h (pick x n a i) c)
        (λ s. both_parts p q (parts_of a) (parts_of i) (parts_of (renewed u a)) (parts_of (renewed u i)) (λ v. new_parts a (left_reads u a i c) v)
        (λ v. new_parts i (right_reads u a i c) v) s) t
    new_parts (arr x n all) c t =
        node (p (arr x n all)) (list_all p (parts_of_all all)) (q (arr x n (renewed_all u all))) (list_all q (parts_of_all (renewed_all u all)))
        (h (arr x n all) c) (λ s. new_parts_all all c s) t
    new_parts (rec x all) c t =
        node (p (rec x all)) (list_all p (parts_of_all all)) (q (rec x (renewed_all u all))) (list_all q (parts_of_all (renewed_all u all))) (h (rec x all) c)
        (λ s. new_parts_all all c s) t

    new_parts_all : (es : Exprs) → AllReadOfOld u es → list_all p (parts_of_all es) ≡ true → list_all q (parts_of_all (renewed_all u es)) ≡ true
    new_parts_all none c t = refl
    new_parts_all (more e es) c t =
        both_parts p q (parts_of e) (parts_of_all es) (parts_of (renewed u e)) (parts_of_all (renewed_all u es)) (λ v. new_parts e (here_reads u e es c) v)
        (λ v. new_parts_all es (others_read u e es c) v) t

  list_parts : (es : Exprs) → AllReadOfOld u es → list_all p (flat_map parts_of (list_of es)) ≡ true
      → list_all q (flat_map parts_of (list_of (renewed_all u es))) ≡ true
  list_parts none c t = refl
  list_parts (more e es) c t =
      both_parts p q (parts_of e) (flat_map parts_of (list_of es)) (parts_of (renewed u e)) (flat_map parts_of (list_of (renewed_all u es)))
      (λ v. new_parts e (here_reads u e es c) v) (λ v. list_parts es (others_read u e es c) v) t

-- ---- statements

-- the statement passes, where there is one
abbrev pub passes : (Stmt → Bool) → Option Stmt → Bool
passes q None = true
passes q (Some s) = q s

-- there is a statement, and it passes
abbrev pub hits : (Stmt → Bool) → Option Stmt → Bool
hits q None = false
hits q (Some s) = q s

abbrev pub RenewsStatement : CUnit → (Stmt → Bool) → (Stmt → Bool) → Type 0
RenewsStatement u p q = (s : Stmt) → UsesOfOld u s → p s ≡ true → passes q (renewed_statement u s) ≡ true

passes_more : (q : Stmt → Bool) (o : Option Stmt) (ss : List Stmt) → passes q o ≡ true → list_all q ss ≡ true → list_all q (cons_option o ss) ≡ true
passes_more q None ss h g = g
passes_more q (Some s) ss h g = both_pass (q s) (list_all q ss) h g

pub new_statements : (u : CUnit) (p q : Stmt → Bool) → RenewsStatement u p q → (ss : List Stmt) → AllUseOfOld u ss → list_all p ss ≡ true
    → list_all q (filter_map (renewed_statement u) ss) ≡ true
new_statements u p q h [] c t = refl
new_statements u p q h (s ∷ ss) c t =
    passes_more q (renewed_statement u s) (filter_map (renewed_statement u) ss) (h s (first_uses u s ss c) (left_passes (p s) (list_all p ss) t))
    (new_statements u p q h ss (rest_use u s ss c) (right_passes (p s) (list_all p ss) t))

module _ (u : CUnit) (p q : Expr → Bool) (h : Renews u p q) where
  alone : (e : Expr) → ReadsOfOld u e → list_all p (parts_of e ++ []) ≡ true → list_all q (parts_of (renewed u e) ++ []) ≡ true
  alone e c t = both_parts p q (parts_of e) [] (parts_of (renewed u e)) [] (λ v. new_parts u p q h e c v) (λ v. v) t

  store_parts : (r : List ℕ) (e : Expr) (b : Bool) → names_old u r ≡ b → UsesOfOld u (stores r e) → list_all p (parts_of e ++ []) ≡ true
      → passes (λ s. list_all q (parts_in s)) (if b then Some (puts r) else Some (stores r (renewed u e))) ≡ true
  store_parts r e true n c t = refl
  store_parts r e false n c t = alone e (store_reads u r e n c) t

  move_parts : (r : List ℕ) (e : Expr) (b : Bool) → names_old u r ≡ b → UsesOfOld u (moves r e) → list_all p (parts_of e ++ []) ≡ true
      → passes (λ s. list_all q (parts_in s)) (if b then None else Some (moves r (renewed u e))) ≡ true
  move_parts r e true n c t = refl
  move_parts r e false n c t = alone e (move_reads u r e n c) t

  pub statement_parts : RenewsStatement u (λ s. list_all p (parts_in s)) (λ s. list_all q (parts_in s))
  statement_parts (copies x) c t = refl
  statement_parts (calls g guard args) c t =
      both_parts p q (parts_of guard) (flat_map parts_of (list_of args)) (parts_of (renewed u guard)) (flat_map parts_of (list_of (renewed_all u args)))
      (λ v. new_parts u p q h guard (here_reads u guard args c) v) (λ v. list_parts u p q h args (others_read u guard args c) v) t
  statement_parts (nexts r e) c t = alone e c t
  statement_parts (stores r e) c t = store_parts r e (names_old u r) refl c t
  statement_parts (moves r e) c t = move_parts r e (names_old u r) refl c t
  statement_parts (puts r) c t = refl

-- ---- statements beside those before them

after_none : (g : List Stmt → Stmt → Bool) (before rest : List Stmt) → each_after g (before ++ []) rest ≡ true → each_after g before rest ≡ true
after_none g before rest h = subst (λ (ss : List Stmt). each_after g ss rest ≡ true) (append_none before) h
  where
    append_none : (xs : List Stmt) → xs ++ [] ≡ xs
    append_none [] = refl
    append_none (x ∷ xs) = ap (λ (ys : List Stmt). x ∷ ys) (append_none xs)

after_more : (g : List Stmt → Stmt → Bool) (before : List Stmt) (o : Option Stmt) (rest : List Stmt) → passes (g before) o ≡ true
    → each_after g (before ++ cons_option o []) rest ≡ true → each_after g before (cons_option o rest) ≡ true
after_more g before None rest h t = after_none g before rest t
after_more g before (Some s) rest h t = both_pass (g before s) (each_after g (before ++ s ∷ []) rest) h t

pub new_after : (u : CUnit) (f g : List Stmt → Stmt → Bool)
    → ((before : List Stmt) → RenewsStatement u (f before) (g (filter_map (renewed_statement u) before)))
    → (before ss : List Stmt) → AllUseOfOld u ss → each_after f before ss ≡ true → each_after g (filter_map (renewed_statement u) before)
    (filter_map (renewed_statement u) ss) ≡ true
new_after u f g h before [] c t = refl
new_after u f g h before (s ∷ ss) c t =
    let here = left_passes (f before s) (each_after f (before ++ s ∷ []) ss) t in
    let later = right_passes (f before s) (each_after f (before ++ s ∷ []) ss) t in
    after_more g (filter_map (renewed_statement u) before) (renewed_statement u s) (filter_map (renewed_statement u) ss) (h before s (first_uses u s ss c) here)
    (subst (λ (zs : List Stmt). each_after g zs (filter_map (renewed_statement u) ss) ≡ true) (filter_map-append (renewed_statement u) before (s ∷ []))
    (new_after u f g h (before ++ s ∷ []) ss (rest_use u s ss c) later))

hits_more : (p : Stmt → Bool) (q : Stmt → Bool) (s : Stmt) (o : Option Stmt) (rest : Bool) (ss : List Stmt) → (p s ≡ true → hits q o ≡ true)
    → (rest ≡ true → list_any q ss ≡ true) → (p s || rest) ≡ true → list_any q (cons_option o ss) ≡ true
hits_more p q s None rest ss h g t = g (second (p s) rest h t)
  where
    second : (a b : Bool) → (a ≡ true → false ≡ true) → (a || b) ≡ true → b ≡ true
    second true b k e = absurd (cc (k refl))
    second false b k e = e
hits_more p q s (Some d) rest ss h g t = either (p s) rest (q d) (list_any q ss) h g t
  where
    either : (a b c d : Bool) → (a ≡ true → c ≡ true) → (b ≡ true → d ≡ true) → (a || b) ≡ true → (c || d) ≡ true
    either a b true d k l e = refl
    either true b false d k l e = absurd (cc (k refl))
    either false b false d k l e = l e

-- a statement that one seeks is still there
pub new_any : (u : CUnit) (p q : Stmt → Bool) → ((s : Stmt) → p s ≡ true → hits q (renewed_statement u s) ≡ true) → (ss : List Stmt) → list_any p ss ≡ true
    → list_any q (filter_map (renewed_statement u) ss) ≡ true
new_any u p q h [] t = absurd (cc t)
new_any u p q h (s ∷ ss) t = hits_more p q s (renewed_statement u s) (list_any p ss) (filter_map (renewed_statement u) ss) (h s) (λ g. new_any u p q h ss g) t

-- ---- rings

pub new_rings : (p : CRing → Bool) → ((b : Bool) (r : CRing) → is_old r ≡ b → p r ≡ true → p (if b then record r { indexed = false } else r) ≡ true)
    → (rs : List CRing) → list_all p rs ≡ true → list_all p (map renewed_ring rs) ≡ true
new_rings p h [] t = refl
new_rings p h (r ∷ rs) t = node (p r) (list_all p rs) (p (renewed_ring r)) (list_all p (map renewed_ring rs)) (h (is_old r) r refl) (λ s. new_rings p h rs s) t
