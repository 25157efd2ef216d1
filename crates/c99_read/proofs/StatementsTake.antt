-- The statements that are found stand there.
use Rattle.std.proofs.Common.{◌≡◌, ℕ, suc, ◌<◌, Bool, true, ◌&&◌, eqb, leb, List, [], ◌++◌, Option, Some, None, inl, inr, refl, sym, ap, subst, ◌∙◌, codes, arith}
use Rattle.std.specs.Prelude.{is_some, if◌then◌else◌}
use Rattle.std.specs.Option.{option_map_or}
use Rattle.std.proofs.lemmas.Bool.{and_from, and_parts, cases_Bool, eqb-true, le-leb, true≢false}
use Rattle.sm_io.specs.Words.{is_name}
use Rattle.c99_tree.specs.declared.types.CTy.{CTy}
use Rattle.c99_tree.specs.declared.types.CTy.TheVariants as ty
use Rattle.c99_tree.specs.declared.unit.CRing.{CRing}
use Rattle.c99_tree.specs.declared.unit.Unit.{Unit as CUnit}
use Rattle.c99_tree.specs.Words.{is_same, is_ring_name}
use Rattle.c99_tree.specs.Lookup.{ring_of}
use Rattle.c99_tree.specs.Tree.{Expr, Exprs, none, more, Stmt, copies, calls, nexts, stores, moves, puts}
use Rattle.c99_tree.specs.Spelling.{text, parted, height, highest, scalar_text, type_text, most_height, is_spelled, are_spelled, is_spelled_here, are_spelled_here, is_spelled_statement, statement_line}
use Rattle.c99_read.specs.Front.{◌>>=◌, behind, word, after_word, name_at, ring_name_at}
use Rattle.c99_read.specs.TypeAt.{type_at}
use Rattle.c99_read.specs.ExprAt.{expr_at, list_at}
use Rattle.c99_read.specs.LineAt.{value_at, given_at, copy_at, move_at, store_by, store_at, call_at, is_type, next_of, next_at, by_index, by_buffer, by_copy, statement_by, statement_at}
use Rattle.c99_read.proofs.FrontFinds.{behind_is, same_is}
use Rattle.c99_read.proofs.FrontTakes.{bound, paired, step, guarded, word_whole, name_takes, ring_name_takes, TakesLines}
use Rattle.c99_read.proofs.TypeTakes.{type_takes}
use Rattle.c99_read.proofs.ExprTakes.{Good, sound, list_takes}
use Rattle.c99_read.proofs.LinesTake.{Taken}
use Rattle.c99_read.proofs.StatementsFind.{copy_pieces, value_pieces, store_pieces, call_pieces, next_pieces}

abbrev Got : CUnit → List ℕ → Stmt → List ℕ → Type 0
Got u s a x = Taken (statement_line u) (is_spelled_statement u) s a x

here_spelled : (e : Expr) (s x : List ℕ) → Good (suc most_height) s e x → is_spelled_here e ≡ true
here_spelled e s x g = and_from (is_spelled e) (leb (height e) most_height) g.spelled (le-leb (height e) most_height (omega (arith, g.low)))

all_here : (es : Exprs) → are_spelled es ≡ true → highest es < suc most_height → are_spelled_here es ≡ true
all_here none s h = refl
all_here (more e es) s h =
    let p = and_parts (is_spelled e) (are_spelled es) s in
    and_from (is_spelled_here e) (are_spelled_here es) (and_from (is_spelled e) (leb (height e) most_height) p.0 (le-leb (height e) most_height (omega arith))) (all_here es p.1 (omega arith))

given_takes : (s : List ℕ) (e : Expr) (x : List ℕ) → given_at s ≡ Some (e, x) → (s ≡ codes " = " ++ (text e ++ (codes ";\n" ++ x))) × (is_spelled_here e ≡ true)
unfolding given_at
given_takes s e x h =
    let r = bound (behind (codes " = ") s) (λ r. value_at r >>= λ e. behind (codes ";\n") e.1 >>= λ x. Some (e.0, x)) (e, x) h in
    let v = bound (value_at r.0) (λ e. behind (codes ";\n") e.1 >>= λ x. Some (e.0, x)) (e, x) r.2 in
    let y = bound (behind (codes ";\n") v.0.1) (λ x. Some (v.0.0, x)) (e, x) v.2 in
    let p = paired v.0.0 e y.0 x y.2 in
    let g = (sound most_height).takes r.0 v.0.0 v.0.1 v.1 in
    let all : s ≡ codes " = " ++ (text v.0.0 ++ (codes ";\n" ++ x)) = step (codes " = ") (behind_is (codes " = ") s r.0 r.1) (step (text v.0.0) g.is (behind_is (codes ";\n") v.0.1 y.0 y.1 ∙ ap (λ (z : List ℕ). codes ";\n" ++ z) p.1)) in
    (subst (λ (f : Expr). s ≡ codes " = " ++ (text f ++ (codes ";\n" ++ x))) p.0 all, subst (λ (f : Expr). is_spelled_here f ≡ true) p.0 (here_spelled v.0.0 r.0 v.0.1 g))

copy_takes : (u : CUnit) (n rest : List ℕ) (a : Stmt) (x : List ℕ) → copy_at n rest ≡ Some (a, x) → Got u (codes "  " ++ ((codes "cp_c_" ++ n) ++ rest)) a x
copy_takes u n rest a x h =
    let g = guarded (is_name n) (behind (codes " = " ++ n ++ codes ";\n") rest >>= (λ r. Some (copies n, r))) (a, x) h in
    let r = bound (behind (codes " = " ++ n ++ codes ";\n") rest) (λ r. Some (copies n, r)) (a, x) g.1 in
    let p = paired (copies n) a r.0 x r.2 in
    let all : rest ≡ (codes " = " ++ n ++ codes ";\n") ++ x = behind_is (codes " = " ++ n ++ codes ";\n") rest r.0 r.1 ∙ ap (λ (z : List ℕ). (codes " = " ++ n ++ codes ";\n") ++ z) p.1 in
    subst (λ (b : Stmt). Got u (codes "  " ++ ((codes "cp_c_" ++ n) ++ rest)) b x) p.0 (record {
      is = ap (λ (z : List ℕ). codes "  " ++ ((codes "cp_c_" ++ n) ++ z)) all ∙ sym (copy_pieces (codes "  cp_c_") n (codes " = ") (codes ";") (codes "\n") x);
      spelled = g.0;
    })

move_takes : (u : CUnit) (r rest : List ℕ) (a : Stmt) (x : List ℕ) → move_at r rest ≡ Some (a, x) → Got u (codes "  " ++ ((codes "cp_i_" ++ r) ++ rest)) a x
move_takes u r rest a x h =
    let g = guarded (is_ring_name r) (given_at rest >>= (λ e. Some (moves r e.0, e.1))) (a, x) h in
    let e = bound (given_at rest) (λ e. Some (moves r e.0, e.1)) (a, x) g.1 in
    let p = paired (moves r e.0.0) a e.0.1 x e.2 in
    let t = given_takes rest e.0.0 e.0.1 e.1 in
    let all : rest ≡ codes " = " ++ (text e.0.0 ++ (codes ";\n" ++ x)) = t.0 ∙ ap (λ (z : List ℕ). codes " = " ++ (text e.0.0 ++ (codes ";\n" ++ z))) p.1 in
    subst (λ (b : Stmt). Got u (codes "  " ++ ((codes "cp_i_" ++ r) ++ rest)) b x) p.0 (record {
      is = ap (λ (z : List ℕ). codes "  " ++ ((codes "cp_i_" ++ r) ++ z)) all ∙ sym (value_pieces (codes "  cp_i_") r (codes " = ") (text e.0.0) (codes ";") (codes "\n") x);
      spelled = and_from (is_ring_name r) (is_spelled_here e.0.0) g.0 t.1;
    })

store_takes : (u : CUnit) (r rest : List ℕ) (a : Stmt) (x : List ℕ) → store_at r rest ≡ Some (a, x) → Got u (codes "  " ++ ((codes "cp_b_" ++ r) ++ rest)) a x
store_takes u r rest a x h =
    let g = guarded (is_ring_name r) (store_by r rest (behind (codes "[") rest)) (a, x) h in
    by (behind (codes "[") rest) g.0 g.1 (λ at e. behind_is (codes "[") rest at e)
  where
    by : (o : Option (List ℕ)) → is_ring_name r ≡ true → store_by r rest o ≡ Some (a, x) → ((at : List ℕ) → o ≡ Some at → rest ≡ codes "[" ++ at) → Got u (codes "  " ++ ((codes "cp_b_" ++ r) ++ rest)) a x
    by None n k f =
        let ending : List ℕ = codes " = cp_n_" ++ r ++ codes ";\n" in
        let y = bound (behind ending rest) (λ x. Some (puts r, x)) (a, x) k in
        let p = paired (puts r) a y.0 x y.2 in
        let all : rest ≡ ending ++ x = behind_is ending rest y.0 y.1 ∙ ap (λ (z : List ℕ). ending ++ z) p.1 in
        subst (λ (b : Stmt). Got u (codes "  " ++ ((codes "cp_b_" ++ r) ++ rest)) b x) p.0 (record {
          is = ap (λ (z : List ℕ). codes "  " ++ ((codes "cp_b_" ++ r) ++ z)) all ∙ sym (copy_pieces (codes "  cp_b_") r (codes " = cp_n_") (codes ";") (codes "\n") x);
          spelled = n;
        })
    by (Some at) n k f =
        let ending : List ℕ = codes "] = cp_n_" ++ r ++ codes ";\n" in
        let e = bound (value_at at) (λ e. behind ending e.1 >>= λ x. Some (stores r e.0, x)) (a, x) k in
        let y = bound (behind ending e.0.1) (λ x. Some (stores r e.0.0, x)) (a, x) e.2 in
        let p = paired (stores r e.0.0) a y.0 x y.2 in
        let g = (sound most_height).takes at e.0.0 e.0.1 e.1 in
        let all : rest ≡ codes "[" ++ (text e.0.0 ++ (ending ++ x)) = step (codes "[") (f at refl) (step (text e.0.0) g.is (behind_is ending e.0.1 y.0 y.1 ∙ ap (λ (z : List ℕ). ending ++ z) p.1)) in
        subst (λ (b : Stmt). Got u (codes "  " ++ ((codes "cp_b_" ++ r) ++ rest)) b x) p.0 (record {
          is = ap (λ (z : List ℕ). codes "  " ++ ((codes "cp_b_" ++ r) ++ z)) all ∙ sym (store_pieces (codes "  cp_b_") r (codes "[") (text e.0.0) (codes "] = cp_n_") (codes ";") (codes "\n") x);
          spelled = and_from (is_ring_name r) (is_spelled_here e.0.0) n (here_spelled e.0.0 at e.0.1 g);
        })

call_takes : (u : CUnit) (rest : List ℕ) (a : Stmt) (x : List ℕ) → call_at rest ≡ Some (a, x) → Got u (codes "  " ++ (codes "if" ++ rest)) a x
call_takes u rest a x k =
    let r = bound (behind (codes " (") rest) (λ r. value_at r >>= λ e. behind (codes ") { ") e.1 >>= λ x. name_at x >>= λ h. behind (codes "(") h.1 >>= λ y. list_at (expr_at most_height) y >>= λ all. behind (codes "); }\n") all.1 >>= λ z. Some (calls h.0 e.0 all.0, z)) (a, x) k in
    let e = bound (value_at r.0) (λ e. behind (codes ") { ") e.1 >>= λ x. name_at x >>= λ h. behind (codes "(") h.1 >>= λ y. list_at (expr_at most_height) y >>= λ all. behind (codes "); }\n") all.1 >>= λ z. Some (calls h.0 e.0 all.0, z)) (a, x) r.2 in
    let q = bound (behind (codes ") { ") e.0.1) (λ x. name_at x >>= λ h. behind (codes "(") h.1 >>= λ y. list_at (expr_at most_height) y >>= λ all. behind (codes "); }\n") all.1 >>= λ z. Some (calls h.0 e.0.0 all.0, z)) (a, x) e.2 in
    let h = bound (name_at q.0) (λ h. behind (codes "(") h.1 >>= λ y. list_at (expr_at most_height) y >>= λ all. behind (codes "); }\n") all.1 >>= λ z. Some (calls h.0 e.0.0 all.0, z)) (a, x) q.2 in
    let y = bound (behind (codes "(") h.0.1) (λ y. list_at (expr_at most_height) y >>= λ all. behind (codes "); }\n") all.1 >>= λ z. Some (calls h.0.0 e.0.0 all.0, z)) (a, x) h.2 in
    let l = bound (list_at (expr_at most_height) y.0) (λ all. behind (codes "); }\n") all.1 >>= λ z. Some (calls h.0.0 e.0.0 all.0, z)) (a, x) y.2 in
    let z = bound (behind (codes "); }\n") l.0.1) (λ z. Some (calls h.0.0 e.0.0 l.0.0, z)) (a, x) l.2 in
    let p = paired (calls h.0.0 e.0.0 l.0.0) a z.0 x z.2 in
    let g = (sound most_height).takes r.0 e.0.0 e.0.1 e.1 in
    let n = name_takes q.0 h.0.0 h.0.1 h.1 in
    let t = list_takes (expr_at most_height) (suc most_height) (omega arith) (sound most_height) y.0 l.0.0 l.0.1 l.1 in
    let all : rest ≡ codes " (" ++ (text e.0.0 ++ (codes ") { " ++ (h.0.0 ++ (codes "(" ++ (parted [] l.0.0 ++ (codes "); }\n" ++ x)))))) =
    step (codes " (") (behind_is (codes " (") rest r.0 r.1) (step (text e.0.0) g.is (step (codes ") { ") (behind_is (codes ") { ") e.0.1 q.0 q.1) (step h.0.0 n.0 (step (codes "(") (behind_is (codes "(") h.0.1 y.0 y.1)
    (step (parted [] l.0.0) t.0 (behind_is (codes "); }\n") l.0.1 z.0 z.1 ∙ ap (λ (w : List ℕ). codes "); }\n" ++ w) p.1)))))) in
    subst (λ (b : Stmt). Got u (codes "  " ++ (codes "if" ++ rest)) b x) p.0 (record {
      is = ap (λ (w : List ℕ). codes "  " ++ (codes "if" ++ w)) all ∙ sym (call_pieces (codes "  if (") (text e.0.0) (codes ") { ") h.0.0 (codes "(") (parted [] l.0.0) (codes "); }") (codes "\n") x);
      spelled = and_from (is_name h.0.0 && is_spelled_here e.0.0) (are_spelled_here l.0.0) (and_from (is_name h.0.0) (is_spelled_here e.0.0) n.1 (here_spelled e.0.0 r.0 e.0.1 g)) (all_here l.0.0 t.1 t.2);
    })

type_same : (a b : CTy) → is_type a b ≡ true → type_text a ≡ type_text b
type_same (ty.Scalar s) (ty.Scalar t) h = same_is (scalar_text s) (scalar_text t) h
type_same (ty.Struct x) (ty.Struct y) h = ap (λ (z : List ℕ). codes "struct " ++ z) (same_is x y h)
type_same (ty.Array x n) (ty.Array y m) h =
    let p = and_parts (is_same x y) (eqb n m) h in
    array_same x y n m (same_is x y p.0) (eqb-true n m p.1)
  where
    array_same : (x y : List ℕ) (n m : ℕ) → x ≡ y → n ≡ m → type_text (ty.Array x n) ≡ type_text (ty.Array y m)
    array_same x y n m p q = rw (p, q) refl
type_same _ _ h = absurd (true≢false (sym h))

-- the type of the first ring of a name
record TypeOf (u : CUnit) (t : CTy) (r : List ℕ) : Type 0 where
  ring : CRing
  is : ring_of u r ≡ Some ring
  same : type_text t ≡ type_text ring.ty

type_of_takes : (u : CUnit) (t : CTy) (r y : List ℕ) → next_of u.rings t r ≡ Some y → TypeOf u t r
type_of_takes u t r y h = by (ring_of u r) h (λ q e. e)
  where
    by : (o : Option CRing) → (option_map_or (λ x. Some x.ty) o None >>= λ k. if is_type t k then Some r else None) ≡ Some y → ((q : CRing) → o ≡ Some q → ring_of u r ≡ Some q) → TypeOf u t r
    by None k f = absurd (cc k)
    by (Some q) k f = let g = guarded (is_type t q.ty) (Some r) y k in record { ring = q; is = f q refl; same = type_same t q.ty g.0 }

next_takes : (u : CUnit) (s : List ℕ) (a : Stmt) (x : List ℕ) → next_at u.rings s ≡ Some (a, x) → Got u (codes "  " ++ s) a x
next_takes u s a x h =
    let t = bound (type_at s) (λ t. behind (codes " cp_n_") t.1 >>= λ x. ring_name_at x >>= λ r. next_of u.rings t.0 r.0 >>= λ y. given_at r.1 >>= λ e. Some (nexts r.0 e.0, e.1)) (a, x) h in
    let b = bound (behind (codes " cp_n_") t.0.1) (λ x. ring_name_at x >>= λ r. next_of u.rings t.0.0 r.0 >>= λ y. given_at r.1 >>= λ e. Some (nexts r.0 e.0, e.1)) (a, x) t.2 in
    let r = bound (ring_name_at b.0) (λ r. next_of u.rings t.0.0 r.0 >>= λ y. given_at r.1 >>= λ e. Some (nexts r.0 e.0, e.1)) (a, x) b.2 in
    let y = bound (next_of u.rings t.0.0 r.0.0) (λ y. given_at r.0.1 >>= λ e. Some (nexts r.0.0 e.0, e.1)) (a, x) r.2 in
    let e = bound (given_at r.0.1) (λ e. Some (nexts r.0.0 e.0, e.1)) (a, x) y.2 in
    let p = paired (nexts r.0.0 e.0.0) a e.0.1 x e.2 in
    let k = type_takes s t.0.0 t.0.1 t.1 in
    let m = ring_name_takes b.0 r.0.0 r.0.1 r.1 in
    let o = type_of_takes u t.0.0 r.0.0 y.0 y.1 in
    let g = given_takes r.0.1 e.0.0 e.0.1 e.1 in
    let all : s ≡ type_text o.ring.ty ++ (codes " cp_n_" ++ (r.0.0 ++ (codes " = " ++ (text e.0.0 ++ (codes ";\n" ++ x))))) =
    step (type_text o.ring.ty) (k.0 ∙ ap (λ (z : List ℕ). z ++ t.0.1) o.same) (step (codes " cp_n_") (behind_is (codes " cp_n_") t.0.1 b.0 b.1) (step r.0.0 m.0 (g.0 ∙ ap (λ (z : List ℕ). codes " = " ++ (text e.0.0 ++ (codes ";\n" ++ z))) p.1))) in
    let line-is : statement_line u (nexts r.0.0 e.0.0) ++ x ≡ codes "  " ++ type_text o.ring.ty ++ codes " cp_n_" ++ r.0.0 ++ codes " = " ++ text e.0.0 ++ codes ";" ++ codes "\n" ++ x =
    ap (λ (q : Option CRing). codes "  " ++ option_map_or (λ (w : CRing). type_text w.ty) q [] ++ codes " cp_n_" ++ r.0.0 ++ codes " = " ++ text e.0.0 ++ codes ";" ++ codes "\n" ++ x) o.is in
    subst (λ (b : Stmt). Got u (codes "  " ++ s) b x) p.0 (record {
      is = ap (λ (z : List ℕ). codes "  " ++ z) all ∙ sym (next_pieces (codes "  ") (type_text o.ring.ty) (codes " cp_n_") r.0.0 (codes " = ") (text e.0.0) (codes ";") (codes "\n") x) ∙ sym line-is;
      spelled = and_from (is_ring_name r.0.0 && is_some (ring_of u r.0.0)) (is_spelled_here e.0.0) (and_from (is_ring_name r.0.0) (is_some (ring_of u r.0.0)) m.1 (ap is_some o.is)) g.1;
    })

index_takes : (u : CUnit) (o : Option (List ℕ)) (s w rest : List ℕ) (a : Stmt) (x : List ℕ) → s ≡ w ++ rest → ((r : List ℕ) → o ≡ Some r → w ≡ codes "cp_i_" ++ r) → by_index u.rings o s rest ≡ Some (a, x) → Got u (codes "  " ++ s) a x
index_takes u None s w rest a x is f h = next_takes u s a x h
index_takes u (Some r) s w rest a x is f h = subst (λ (z : List ℕ). Got u (codes "  " ++ z) a x) (sym (is ∙ ap (λ (z : List ℕ). z ++ rest) (f r refl))) (move_takes u r rest a x h)

buffer_takes : (u : CUnit) (o : Option (List ℕ)) (s w rest : List ℕ) (a : Stmt) (x : List ℕ) → s ≡ w ++ rest → ((r : List ℕ) → o ≡ Some r → w ≡ codes "cp_b_" ++ r) → by_buffer u.rings o s w rest ≡ Some (a, x) → Got u (codes "  " ++ s) a x
buffer_takes u None s w rest a x is f h = index_takes u (behind (codes "cp_i_") w) s w rest a x is (λ r e. behind_is (codes "cp_i_") w r e) h
buffer_takes u (Some r) s w rest a x is f h = subst (λ (z : List ℕ). Got u (codes "  " ++ z) a x) (sym (is ∙ ap (λ (z : List ℕ). z ++ rest) (f r refl))) (store_takes u r rest a x h)

copied_takes : (u : CUnit) (o : Option (List ℕ)) (s w rest : List ℕ) (a : Stmt) (x : List ℕ) → s ≡ w ++ rest → ((r : List ℕ) → o ≡ Some r → w ≡ codes "cp_c_" ++ r) → by_copy u.rings o s w rest ≡ Some (a, x) → Got u (codes "  " ++ s) a x
copied_takes u None s w rest a x is f h = buffer_takes u (behind (codes "cp_b_") w) s w rest a x is (λ r e. behind_is (codes "cp_b_") w r e) h
copied_takes u (Some n) s w rest a x is f h = subst (λ (z : List ℕ). Got u (codes "  " ++ z) a x) (sym (is ∙ ap (λ (z : List ℕ). z ++ rest) (f n refl))) (copy_takes u n rest a x h)

statement_takes : (u : CUnit) (s : List ℕ) (a : Stmt) (x : List ℕ) → statement_at u.rings s ≡ Some (a, x) → Got u s a x
unfolding statement_at
statement_takes u s a x h =
    let r = bound (behind (codes "  ") s) (λ r. statement_by u.rings r (word r) (after_word r)) (a, x) h in
    let whole = word_whole r.0 in
    let w = word r.0 in
    let rest = after_word r.0 in
    subst (λ (z : List ℕ). Got u z a x) (sym (behind_is (codes "  ") s r.0 r.1)) (elim (cases_Bool (is_same w (codes "if"))) [
      | inl y ↦ subst (λ (z : List ℕ). Got u (codes "  " ++ z) a x) (sym (whole ∙ ap (λ (z : List ℕ). z ++ rest) (same_is w (codes "if") y))) (call_takes u rest a x (sym (ap (λ (b : Bool). if b then call_at rest else by_copy u.rings (behind (codes "cp_c_") w) r.0 w rest) y) ∙ r.2))
      | inr n ↦ copied_takes u (behind (codes "cp_c_") w) r.0 w rest a x whole (λ q e. behind_is (codes "cp_c_") w q e) (sym (ap (λ (b : Bool). if b then call_at rest else by_copy u.rings (behind (codes "cp_c_") w) r.0 w rest) n) ∙ r.2)
    ])

pub statements_taken : (u : CUnit) → TakesLines (statement_at u.rings) (statement_line u) (is_spelled_statement u)
statements_taken u = record { takes = λ s a x h. let t = statement_takes u s a x h in (t.is, t.spelled) }
