-- An expression that is found stands there.
use Rattle.std.proofs.Common.{arith, ◌≡◌, ℕ, zero, suc, ◌^◌, ◌<◌, Bool, true, false, ◌&&◌, ◌||◌, eqb, List, [], ◌∷◌, ◌++◌, length, Option, Some, None, inl, inr, refl, sym, ap, subst, ◌∙◌, append_assoc, codes}
use Rattle.std.specs.Prelude.{if◌then◌else◌}
use Rattle.std.specs.Fmt.{decimal}
use Rattle.std.proofs.lemmas.Bool.{and_parts, and_from, cases_Bool, eqb-true, le-leb, true≢false}
use Rattle.sm_io.specs.Words.{is_name}
use Rattle.c99_tree.specs.declared.expr.CLit.{CLit}
use Rattle.c99_tree.specs.declared.expr.CLit.TheVariants as k
use Rattle.c99_tree.specs.declared.expr.CUn.{CUn}
use Rattle.c99_tree.specs.declared.expr.CUn.TheVariants as u
use Rattle.c99_tree.specs.declared.expr.CBin.{CBin}
use Rattle.c99_tree.specs.Tree.{Expr, Exprs, lit, yes, no, copy, head, cell, ring_at, un, bin, choose, cast, field, pick, arr, rec, none, more}
use Rattle.c99_tree.specs.Words.{is_same, is_digit, is_ring_name, is_element}
use Rattle.c99_tree.specs.Spelling.{text, parted, operator, scalar_text, sign, suffix, most, height, highest, is_spelled, are_spelled, is_u32}
use Rattle.c99_read.specs.Front.{begins, ◌>>=◌, behind, word, after_word, token, after_token, number, after_number, number_of, name_at, array_of}
use Rattle.c99_read.specs.TypeAt.{scalar_of}
use Rattle.c99_read.specs.ExprAt.{level, expr_at, Sub, FoundAll, operators, suffixes, sign_of, operator_of, suffix_of, literal_of, copy_of, head_of, other_named, named_of, leaf, closed, onto, item_and, item_or, others_at, ends_list, list_at, celled, ring, picking, not_cell, by_word, unary, casting, array_parts, struct_parts, compound_of, compound, member, conditional, binary, operated, tail, at_type, at_struct, grouped, signed, inside, at_word, nothing}
use Rattle.c99_read.proofs.FrontFinds.{behind_is, same_is}
use Rattle.c99_read.proofs.FrontTakes.{bound, paired, step, meet, found_test, guarded, word_whole, token_whole, number_whole, number_of-takes, name_takes, array_takes}
use Rattle.c99_read.proofs.TypeTakes.{scalar_takes}

-- this text begins with this expression, which is spelled and lower than a bound
pub record Good (bound_of : ℕ) (s : List ℕ) (e : Expr) (x : List ℕ) : Type 0 where
  pub is : s ≡ text e ++ x
  pub spelled : is_spelled e ≡ true
  pub low : height e < bound_of

-- what this reader finds is so
pub record IsSound (sub : Sub) (m : ℕ) : Type 0 where
  pub takes : (s : List ℕ) (e : Expr) (x : List ℕ) → sub s ≡ Some (e, x) → Good m s e x

closed_takes : (end : List ℕ) (e f : Expr) (s x : List ℕ) → closed end e s ≡ Some (f, x) → (s ≡ end ++ x) × (e ≡ f)
closed_takes end e f s x h =
    let b = bound (behind end s) (λ r. Some (e, r)) (f, x) h in
    let p = paired e f b.0 x b.2 in
    (behind_is end s b.0 b.1 ∙ ap (λ (z : List ℕ). end ++ z) p.1, p.0)

-- ---- forms of one word

suffix_takes : (w : List ℕ) (s : CLit) → suffix_of w ≡ Some s → w ≡ suffix s
unfolding suffix_of
suffix_takes w s h = sym (same_is (suffix s) w (found_test (λ l. is_same (suffix l) w) suffixes s h))

operator_takes : (w : List ℕ) (op : CBin) → operator_of w ≡ Some op → w ≡ operator op
unfolding operator_of
operator_takes w op h = sym (same_is (operator op) w (found_test (λ l. is_same (operator l) w) operators op h))

most_small : (s : CLit) → most s < 2 ^ 64
most_small k.I = omega arith
most_small k.U = omega arith
most_small k.LL = omega arith
most_small k.ULL = omega arith

-- this word is this expression, which is spelled and of height 0
record Word (w : List ℕ) (e : Expr) : Type 0 where
  is : w ≡ text e
  spelled : is_spelled e ≡ true
  low : height e ≡ 0

literal_takes : (w : List ℕ) (e : Expr) → literal_of w ≡ Some e → Word w e
unfolding literal_of
literal_takes w e h =
    let a = bound (suffix_of (after_number w)) (λ l. number_of (most l) (number w) >>= λ n. Some (lit l n)) e h in
    let b = bound (number_of (most a.0) (number w)) (λ n. Some (lit a.0 n)) e a.2 in
    let same : lit a.0 b.0 ≡ e = cc b.2 in
    let d = number_of-takes (most a.0) b.0 (number w) (most_small a.0) b.1 in
    let t = suffix_takes (after_number w) a.0 a.1 in
    subst (Word w) same (record { is = number_whole w ∙ ap (λ (z : List ℕ). number w ++ z) t ∙ ap (λ (z : List ℕ). z ++ suffix a.0) d.0; spelled = le-leb b.0 (most a.0) d.1; low = refl })

copy_takes : (w x : List ℕ) (e : Expr) → w ≡ codes "cp_c_" ++ x → copy_of x ≡ Some e → Word w e
copy_takes w x e is h = let g = guarded (is_name x) (Some (copy x)) e h in let same : copy x ≡ e = cc g.1 in subst (Word w) same (record { is = is; spelled = g.0; low = refl })

head_takes : (w x : List ℕ) (e : Expr) → w ≡ codes "cp_i_" ++ x → head_of x ≡ Some e → Word w e
head_takes w x e is h = let g = guarded (is_ring_name x) (Some (head x)) e h in let same : head x ≡ e = cc g.1 in subst (Word w) same (record { is = is; spelled = g.0; low = refl })

other_takes : (w : List ℕ) (o : Option (List ℕ)) (e : Expr) → ((x : List ℕ) → o ≡ Some x → w ≡ codes "cp_c_" ++ x) → other_named o w ≡ Some e → Word w e
other_takes w (Some x) e f h = copy_takes w x e (f x refl) h
other_takes w None e f h = let b = bound (behind (codes "cp_i_") w) head_of e h in head_takes w b.0 e (behind_is (codes "cp_i_") w b.0 b.1) b.2

named_takes : (w : List ℕ) (e : Expr) → named_of w ≡ Some e → Word w e
unfolding named_of
named_takes w e h = elim (cases_Bool (is_same (codes "true") w)) [
  | inl y ↦ let same : Some yes ≡ Some e = sym (ap (λ (b : Bool). if b then Some yes else (if is_same (codes "false") w then Some no else other_named (behind (codes "cp_c_") w) w)) y) ∙ h in
      let is : yes ≡ e = cc same in subst (Word w) is (record { is = sym (same_is (codes "true") w y); spelled = refl; low = refl })
  | inr n ↦
      let g : (if is_same (codes "false") w then Some no else other_named (behind (codes "cp_c_") w) w) ≡ Some e = sym (ap (λ (b : Bool). if b then Some yes else (if is_same (codes "false") w then Some no else other_named (behind (codes "cp_c_") w) w)) n) ∙ h in
      elim (cases_Bool (is_same (codes "false") w)) [
        | inl y ↦ let same : Some no ≡ Some e = sym (ap (λ (b : Bool). if b then Some no else other_named (behind (codes "cp_c_") w) w) y) ∙ g in
            let is : no ≡ e = cc same in subst (Word w) is (record { is = sym (same_is (codes "false") w y); spelled = refl; low = refl })
        | inr m ↦ other_takes w (behind (codes "cp_c_") w) e (λ x q. behind_is (codes "cp_c_") w x q) (sym (ap (λ (b : Bool). if b then Some no else other_named (behind (codes "cp_c_") w) w) m) ∙ g)
      ]
]

leaf_takes : (m : ℕ) (w rest x : List ℕ) (o : Option Expr) (e : Expr) → ((f : Expr) → o ≡ Some f → Word w f) → leaf o rest ≡ Some (e, x) → Good (suc m) (w ++ rest) e x
leaf_takes m w rest x o e f h =
    let b = bound o (λ y. Some (y, rest)) (e, x) h in
    let p = paired b.0 e rest x b.2 in
    let g = f b.0 b.1 in
    subst (λ (y : Expr). Good (suc m) (w ++ rest) y x) p.0 (record { is = ap (λ (z : List ℕ). z ++ rest) g.is ∙ ap (λ (z : List ℕ). text b.0 ++ z) p.1; spelled = g.spelled; low = omega (arith, g.low) })

-- ---- forms with parts

ring_takes : (sub : Sub) (m : ℕ) → IsSound sub m → (r rest x : List ℕ) (e : Expr) → ring sub r rest ≡ Some (e, x) → Good (suc m) (codes "cp_b_" ++ r ++ rest) e x
ring_takes sub m g r rest x e h =
    let q = guarded (is_ring_name r) (celled sub r rest (behind (codes "[") rest)) (e, x) h in
    by (behind (codes "[") rest) q.1 q.0 (λ y i. behind_is (codes "[") rest y i)
  where
    by : (o : Option (List ℕ)) → celled sub r rest o ≡ Some (e, x) → is_ring_name r ≡ true → ((y : List ℕ) → o ≡ Some y → rest ≡ codes "[" ++ y) → Good (suc m) (codes "cp_b_" ++ r ++ rest) e x
    by None k n f =
        let p = paired (cell r) e rest x k in
        subst (λ (y : Expr). Good (suc m) (codes "cp_b_" ++ r ++ rest) y x) p.0 (record { is = ap (λ (z : List ℕ). codes "cp_b_" ++ r ++ z) p.1; spelled = n; low = omega arith })
    by (Some at) k n f =
        let a = bound (sub at) (λ a. closed (codes "]") (ring_at r a.0) a.1) (e, x) k in
        let t = g.takes at a.0.0 a.0.1 a.1 in
        let c = closed_takes (codes "]") (ring_at r a.0.0) e a.0.1 x a.2 in
        let all : rest ≡ codes "[" ++ (text a.0.0 ++ (codes "]" ++ x)) = step (codes "[") (f at refl) (step (text a.0.0) t.is c.0) in
        subst (λ (y : Expr). Good (suc m) (codes "cp_b_" ++ r ++ rest) y x) c.1 (record { is = ap (λ (z : List ℕ). codes "cp_b_" ++ r ++ z) all ∙ simp append_assoc; spelled = and_from (is_ring_name r) (is_spelled a.0.0) n t.spelled; low = omega (arith, t.low) })

sign_takes : (b : ℕ) (op : CUn) → sign_of b ≡ Some op → b ≡ sign op
sign_takes b op h = elim (cases_Bool (eqb b 33)) [
  | inl y ↦ let s : Some u.Not ≡ Some op = sym (ap (λ c. if c then Some u.Not else (if eqb b 126 then Some u.BitNot else (if eqb b 45 then Some u.Neg else None))) y) ∙ h in let i : u.Not ≡ op = cc s in eqb-true b 33 y ∙ ap sign i
  | inr n ↦ let g : (if eqb b 126 then Some u.BitNot else (if eqb b 45 then Some u.Neg else None)) ≡ Some op = sym (ap (λ c. if c then Some u.Not else (if eqb b 126 then Some u.BitNot else (if eqb b 45 then Some u.Neg else None))) n) ∙ h in elim (cases_Bool (eqb b 126)) [
    | inl y ↦ let s : Some u.BitNot ≡ Some op = sym (ap (λ c. if c then Some u.BitNot else (if eqb b 45 then Some u.Neg else None)) y) ∙ g in let i : u.BitNot ≡ op = cc s in eqb-true b 126 y ∙ ap sign i
    | inr k ↦ let q = guarded (eqb b 45) (Some u.Neg) op (sym (ap (λ c. if c then Some u.BitNot else (if eqb b 45 then Some u.Neg else None)) k) ∙ g) in let i : u.Neg ≡ op = cc q.1 in eqb-true b 45 q.0 ∙ ap sign i
  ]
]

unary_takes : (sub : Sub) (m : ℕ) → IsSound sub m → (op : CUn) (s x : List ℕ) (e : Expr) → unary sub op s ≡ Some (e, x) → Good (suc m) (40 ∷ (sign op ∷ s)) e x
unary_takes sub m g op s x e h =
    let a = bound (sub s) (λ a. closed (codes ")") (un op a.0) a.1) (e, x) h in
    let t = g.takes s a.0.0 a.0.1 a.1 in
    let c = closed_takes (codes ")") (un op a.0.0) e a.0.1 x a.2 in
    let all : s ≡ text a.0.0 ++ (codes ")" ++ x) = step (text a.0.0) t.is c.0 in
    subst (λ (y : Expr). Good (suc m) (40 ∷ (sign op ∷ s)) y x) c.1 (record { is = ap (λ (z : List ℕ). 40 ∷ (sign op ∷ z)) all ∙ simp append_assoc; spelled = t.spelled; low = omega (arith, t.low) })

casting_takes : (sub : Sub) (m : ℕ) → IsSound sub m → (s x : List ℕ) (e : Expr) → casting sub s ≡ Some (e, x) → Good (suc m) (40 ∷ (40 ∷ s)) e x
casting_takes sub m g s x e h =
    let ty = bound (scalar_of (word s)) (λ ty. behind (codes ")") (after_word s) >>= λ r. sub r >>= λ a. closed (codes ")") (cast ty a.0) a.1) (e, x) h in
    let r = bound (behind (codes ")") (after_word s)) (λ r. sub r >>= λ a. closed (codes ")") (cast ty.0 a.0) a.1) (e, x) ty.2 in
    let a = bound (sub r.0) (λ a. closed (codes ")") (cast ty.0 a.0) a.1) (e, x) r.2 in
    let t = g.takes r.0 a.0.0 a.0.1 a.1 in
    let c = closed_takes (codes ")") (cast ty.0 a.0.0) e a.0.1 x a.2 in
    let first : s ≡ scalar_text ty.0 ++ after_word s = word_whole s ∙ ap (λ (z : List ℕ). z ++ after_word s) (scalar_takes (word s) ty.0 ty.1) in
    let all : s ≡ scalar_text ty.0 ++ (codes ")" ++ (text a.0.0 ++ (codes ")" ++ x))) = step (scalar_text ty.0) first (step (codes ")") (behind_is (codes ")") (after_word s) r.0 r.1) (step (text a.0.0) t.is c.0)) in
    subst (λ (y : Expr). Good (suc m) (40 ∷ (40 ∷ s)) y x) c.1 (record { is = ap (λ (z : List ℕ). 40 ∷ (40 ∷ z)) all ∙ simp append_assoc; spelled = t.spelled; low = omega (arith, t.low) })

member_takes : (m : ℕ) (a : Expr) (s x : List ℕ) (e : Expr) → is_spelled a ≡ true → height a < m → member a s ≡ Some (e, x) → Good (suc m) (40 ∷ (text a ++ (46 ∷ s))) e x
member_takes m a s x e p l h =
    let n = bound (name_at s) (λ x. closed (codes ")") (field a x.0) x.1) (e, x) h in
    let t = name_takes s n.0.0 n.0.1 n.1 in
    let c = closed_takes (codes ")") (field a n.0.0) e n.0.1 x n.2 in
    let all : s ≡ n.0.0 ++ (codes ")" ++ x) = step n.0.0 t.0 c.0 in
    subst (λ (y : Expr). Good (suc m) (40 ∷ (text a ++ (46 ∷ s))) y x) c.1 (record { is = ap (λ (z : List ℕ). 40 ∷ (text a ++ (46 ∷ z))) all ∙ simp append_assoc; spelled = and_from (is_spelled a) (is_name n.0.0) p t.1; low = omega arith })

conditional_takes : (sub : Sub) (m : ℕ) → IsSound sub m → (a : Expr) (s x : List ℕ) (e : Expr) → is_spelled a ≡ true → height a < m → conditional sub a s ≡ Some (e, x) → Good (suc m) (40 ∷ (text a ++ (codes " ? " ++ s))) e x
conditional_takes sub m g a s x e p l h =
    let b = bound (sub s) (λ b. behind (codes " : ") b.1 >>= λ r. sub r >>= λ d. closed (codes ")") (choose a b.0 d.0) d.1) (e, x) h in
    let r = bound (behind (codes " : ") b.0.1) (λ r. sub r >>= λ d. closed (codes ")") (choose a b.0.0 d.0) d.1) (e, x) b.2 in
    let d = bound (sub r.0) (λ d. closed (codes ")") (choose a b.0.0 d.0) d.1) (e, x) r.2 in
    let t = g.takes s b.0.0 b.0.1 b.1 in
    let v = g.takes r.0 d.0.0 d.0.1 d.1 in
    let c = closed_takes (codes ")") (choose a b.0.0 d.0.0) e d.0.1 x d.2 in
    let all : s ≡ text b.0.0 ++ (codes " : " ++ (text d.0.0 ++ (codes ")" ++ x))) = step (text b.0.0) t.is (step (codes " : ") (behind_is (codes " : ") b.0.1 r.0 r.1) (step (text d.0.0) v.is c.0)) in
    subst (λ (y : Expr). Good (suc m) (40 ∷ (text a ++ (codes " ? " ++ s))) y x) c.1 (record { is = ap (λ (z : List ℕ). 40 ∷ (text a ++ (codes " ? " ++ z))) all ∙ simp append_assoc; spelled = and_from (is_spelled a && is_spelled b.0.0) (is_spelled d.0.0) (and_from (is_spelled a) (is_spelled b.0.0) p t.spelled) v.spelled; low = omega (arith, t.low, v.low) })

binary_takes : (sub : Sub) (m : ℕ) → IsSound sub m → (a : Expr) (op : CBin) (s x : List ℕ) (e : Expr) → is_spelled a ≡ true → height a < m → binary sub a op s ≡ Some (e, x) → Good (suc m) (40 ∷ (text a ++ (32 ∷ (operator op ++ (32 ∷ s))))) e x
binary_takes sub m g a op s x e p l h =
    let b = bound (sub s) (λ b. closed (codes ")") (bin op a b.0) b.1) (e, x) h in
    let t = g.takes s b.0.0 b.0.1 b.1 in
    let c = closed_takes (codes ")") (bin op a b.0.0) e b.0.1 x b.2 in
    let all : s ≡ text b.0.0 ++ (codes ")" ++ x) = step (text b.0.0) t.is c.0 in
    subst (λ (y : Expr). Good (suc m) (40 ∷ (text a ++ (32 ∷ (operator op ++ (32 ∷ s))))) y x) c.1 (record { is = ap (λ (z : List ℕ). 40 ∷ (text a ++ (32 ∷ (operator op ++ (32 ∷ z))))) all ∙ simp append_assoc; spelled = and_from (is_spelled a) (is_spelled b.0.0) p t.spelled; low = omega (arith, t.low) })

operated_takes : (sub : Sub) (m : ℕ) → IsSound sub m → (a : Expr) (s x : List ℕ) (e : Expr) → is_spelled a ≡ true → height a < m → operated sub a (token s) (after_token s) ≡ Some (e, x) → Good (suc m) (40 ∷ (text a ++ (32 ∷ s))) e x
operated_takes sub m g a s x e p l h =
    let r = bound (behind (codes " ") (after_token s)) (λ r. if is_same (token s) (codes "?") then conditional sub a r else operator_of (token s) >>= (λ op. binary sub a op r)) (e, x) h in
    let rest = behind_is (codes " ") (after_token s) r.0 r.1 in
    elim (cases_Bool (is_same (token s) (codes "?"))) [
      | inl y ↦
          let k : conditional sub a r.0 ≡ Some (e, x) = sym (ap (λ (b : Bool). if b then conditional sub a r.0 else operator_of (token s) >>= (λ op. binary sub a op r.0)) y) ∙ r.2 in
          let all : s ≡ codes "?" ++ (codes " " ++ r.0) = token_whole s ∙ meet (token s) (after_token s) (codes "?") (codes " " ++ r.0) (same_is (token s) (codes "?") y) rest in
          subst (λ (z : List ℕ). Good (suc m) (40 ∷ (text a ++ (32 ∷ z))) e x) (sym all) (conditional_takes sub m g a r.0 x e p l k)
      | inr n ↦
          let k : (operator_of (token s) >>= (λ op. binary sub a op r.0)) ≡ Some (e, x) = sym (ap (λ (b : Bool). if b then conditional sub a r.0 else operator_of (token s) >>= (λ op. binary sub a op r.0)) n) ∙ r.2 in
          let o = bound (operator_of (token s)) (λ op. binary sub a op r.0) (e, x) k in
          let all : s ≡ operator o.0 ++ (codes " " ++ r.0) = token_whole s ∙ meet (token s) (after_token s) (operator o.0) (codes " " ++ r.0) (operator_takes (token s) o.0 o.1) rest in
          subst (λ (z : List ℕ). Good (suc m) (40 ∷ (text a ++ (32 ∷ z))) e x) (sym all) (binary_takes sub m g a o.0 r.0 x e p l o.2)
    ]

tail_takes : (sub : Sub) (m : ℕ) → IsSound sub m → (a : Expr) (s x : List ℕ) (e : Expr) → is_spelled a ≡ true → height a < m → tail sub a s ≡ Some (e, x) → Good (suc m) (40 ∷ (text a ++ s)) e x
tail_takes sub m g a [] x e p l h = absurd (cc h)
tail_takes sub m g a (b ∷ s) x e p l h = elim (cases_Bool (eqb b 46)) [
  | inl y ↦ subst (λ (c : ℕ). Good (suc m) (40 ∷ (text a ++ (c ∷ s))) e x) (sym (eqb-true b 46 y)) (member_takes m a s x e p l (sym (ap (λ (c : Bool). if c then member a s else (if eqb b 32 then operated sub a (token s) (after_token s) else None)) y) ∙ h))
  | inr n ↦
      let q = guarded (eqb b 32) (operated sub a (token s) (after_token s)) (e, x) (sym (ap (λ (c : Bool). if c then member a s else (if eqb b 32 then operated sub a (token s) (after_token s) else None)) n) ∙ h) in
      subst (λ (c : ℕ). Good (suc m) (40 ∷ (text a ++ (c ∷ s))) e x) (sym (eqb-true b 32 q.0)) (operated_takes sub m g a s x e p l q.1)
]

pick_pieces : (w b t c u d x : List ℕ) → w ++ (b ++ (t ++ (c ++ (u ++ (d ++ x))))) ≡ w ++ b ++ t ++ c ++ u ++ d ++ x
pick_pieces w b t c u d x = simp append_assoc

picking_takes : (sub : Sub) (m : ℕ) → IsSound sub m → (w rest x : List ℕ) (e : Expr) → picking sub w rest ≡ Some (e, x) → Good (suc m) (codes "cp_ix_" ++ w ++ rest) e x
picking_takes sub m g w rest x e h =
    let p = bound (array_of w) (λ p. behind (codes "(") rest >>= λ r. sub r >>= λ a. behind (codes ", ") a.1 >>= λ t. sub t >>= λ i. closed (codes ")") (pick p.0 p.1 a.0 i.0) i.1) (e, x) h in
    let r = bound (behind (codes "(") rest) (λ r. sub r >>= λ a. behind (codes ", ") a.1 >>= λ t. sub t >>= λ i. closed (codes ")") (pick p.0.0 p.0.1 a.0 i.0) i.1) (e, x) p.2 in
    let a = bound (sub r.0) (λ a. behind (codes ", ") a.1 >>= λ t. sub t >>= λ i. closed (codes ")") (pick p.0.0 p.0.1 a.0 i.0) i.1) (e, x) r.2 in
    let t = bound (behind (codes ", ") a.0.1) (λ t. sub t >>= λ i. closed (codes ")") (pick p.0.0 p.0.1 a.0.0 i.0) i.1) (e, x) a.2 in
    let i = bound (sub t.0) (λ i. closed (codes ")") (pick p.0.0 p.0.1 a.0.0 i.0) i.1) (e, x) t.2 in
    let ta = g.takes r.0 a.0.0 a.0.1 a.1 in
    let ti = g.takes t.0 i.0.0 i.0.1 i.1 in
    let n = array_takes w p.0.0 p.0.1 p.1 in
    let c = closed_takes (codes ")") (pick p.0.0 p.0.1 a.0.0 i.0.0) e i.0.1 x i.2 in
    let all : rest ≡ codes "(" ++ (text a.0.0 ++ (codes ", " ++ (text i.0.0 ++ (codes ")" ++ x)))) =
    step (codes "(") (behind_is (codes "(") rest r.0 r.1) (step (text a.0.0) ta.is (step (codes ", ") (behind_is (codes ", ") a.0.1 t.0 t.1) (step (text i.0.0) ti.is c.0))) in
    let named : codes "cp_ix_" ++ w ≡ codes "cp_ix_" ++ p.0.0 ++ codes "_" ++ decimal p.0.1 = ap (λ (z : List ℕ). codes "cp_ix_" ++ z) n.is ∙ simp append_assoc in
    let whole : codes "cp_ix_" ++ w ++ rest ≡ text (pick p.0.0 p.0.1 a.0.0 i.0.0) ++ x = meet (codes "cp_ix_" ++ w) rest (codes "cp_ix_" ++ p.0.0 ++ codes "_" ++ decimal p.0.1) (codes "(" ++ (text a.0.0 ++ (codes ", " ++ (text i.0.0 ++ (codes ")" ++ x))))) named all ∙ pick_pieces (codes "cp_ix_" ++ p.0.0 ++ codes "_" ++ decimal p.0.1) (codes "(") (text a.0.0) (codes ", ") (text i.0.0) (codes ")") x in
    let len = and_from (is_element p.0.0) (is_u32 p.0.1) n.elem n.len in
    subst (λ (y : Expr). Good (suc m) (codes "cp_ix_" ++ w ++ rest) y x) c.1 (record { is = whole; spelled = and_from (is_element p.0.0 && is_u32 p.0.1 && is_spelled a.0.0) (is_spelled i.0.0) (and_from (is_element p.0.0 && is_u32 p.0.1) (is_spelled a.0.0) len ta.spelled) ti.spelled; low = omega (arith, ta.low, ti.low) })

-- ---- lists

-- this text begins with these items behind a separator, which are spelled and no higher than a bound
record GoodAll (bound_of : ℕ) (before s : List ℕ) (es : Exprs) (x : List ℕ) : Type 0 where
  is : before ++ s ≡ parted before es ++ x
  spelled : are_spelled es ≡ true
  low : highest es < bound_of

onto_takes : (a : Expr) (o : FoundAll) (es : Exprs) (x : List ℕ) → onto (more a none) o ≡ Some (es, x) → (b : Exprs × List ℕ) × (o ≡ Some b) × (more a b.0 ≡ es) × (b.1 ≡ x)
onto_takes a None es x h = absurd (cc h)
onto_takes a (Some b) es x h = let p = paired (more a b.0) es b.1 x h in (b, refl, p.0, p.1)

three_pieces : (b t p x : List ℕ) → b ++ t ++ p ++ x ≡ b ++ (t ++ (p ++ x))
three_pieces b t p x = simp append_assoc

array_pieces : (l a x u n o p c y : List ℕ) → l ++ a ++ (x ++ u ++ n) ++ (o ++ (p ++ (c ++ y))) ≡ l ++ (a ++ x ++ u ++ n) ++ o ++ p ++ c ++ y
array_pieces l a x u n o p c y = simp append_assoc

rec_pieces : (a w o p c y : List ℕ) → a ++ w ++ (o ++ (p ++ (c ++ y))) ≡ a ++ w ++ o ++ p ++ c ++ y
rec_pieces a w o p c y = simp append_assoc

-- an item and then others
item_takes : (sub : Sub) (m : ℕ) → IsSound sub m → (before : List ℕ) (others : List ℕ → FoundAll) (s : List ℕ) (es : Exprs) (x : List ℕ)
    → ((s : List ℕ) (es : Exprs) (x : List ℕ) → others s ≡ Some (es, x) → (s ≡ parted (codes ", ") es ++ x) × (are_spelled es ≡ true) × (highest es < m))
    → item_and sub others s ≡ Some (es, x) → (before ++ s ≡ parted before es ++ x) × (are_spelled es ≡ true) × (highest es < m)
item_takes sub m g before others s es x f h =
    let a = bound (sub s) (λ a. onto (more a.0 none) (others a.1)) (es, x) h in
    let t = g.takes s a.0.0 a.0.1 a.1 in
    let q = onto_takes a.0.0 (others a.0.1) es x a.2 in
    let r = f a.0.1 q.0.0 q.0.1 q.1 in
    let all : s ≡ text a.0.0 ++ (parted (codes ", ") q.0.0 ++ q.0.1) = step (text a.0.0) t.is r.0 in
    let whole : before ++ s ≡ parted before (more a.0.0 q.0.0) ++ q.0.1 = ap (λ (z : List ℕ). before ++ z) all ∙ sym (three_pieces before (text a.0.0) (parted (codes ", ") q.0.0) q.0.1) in
    (whole ∙ meet (parted before (more a.0.0 q.0.0)) q.0.1 (parted before es) x (ap (parted before) q.2) q.3, ap are_spelled (sym q.2) ∙ and_from (is_spelled a.0.0) (are_spelled q.0.0) t.spelled r.1, subst (λ (y : Exprs). highest y < m) q.2 (omega (arith, t.low, r.2)))

others_takes : (sub : Sub) (m : ℕ) → 0 < m → IsSound sub m → (n : ℕ) (s : List ℕ) (es : Exprs) (x : List ℕ) → others_at sub n s ≡ Some (es, x)
    → (s ≡ parted (codes ", ") es ++ x) × (are_spelled es ≡ true) × (highest es < m)
unfolding others_at
others_takes sub m p g zero s es x h = absurd (cc h)
others_takes sub m p g (suc n) s es x h = by (behind (codes ", ") s) h (λ r k. behind_is (codes ", ") s r k) (λ s es x k. others_takes sub m p g n s es x k)
  where
    by : (o : Option (List ℕ)) → item_or sub (others_at sub n) s o ≡ Some (es, x) → ((r : List ℕ) → o ≡ Some r → s ≡ codes ", " ++ r)
        → ((s : List ℕ) (es : Exprs) (x : List ℕ) → others_at sub n s ≡ Some (es, x) → (s ≡ parted (codes ", ") es ++ x) × (are_spelled es ≡ true) × (highest es < m))
        → (s ≡ parted (codes ", ") es ++ x) × (are_spelled es ≡ true) × (highest es < m)
    by None k f i =
        let e = paired none es s x k in
        (e.1 ∙ ap (λ (y : Exprs). parted (codes ", ") y ++ x) e.0, ap are_spelled (sym e.0), subst (λ (y : Exprs). highest y < m) e.0 p)
    by (Some r) k f i = let t = item_takes sub m g (codes ", ") (others_at sub n) r es x i k in (f r refl ∙ t.0, t.1, t.2)

pub list_takes : (sub : Sub) (m : ℕ) → 0 < m → IsSound sub m → (s : List ℕ) (es : Exprs) (x : List ℕ) → list_at sub s ≡ Some (es, x) → (s ≡ parted [] es ++ x) × (are_spelled es ≡ true) × (highest es < m)
unfolding list_at
list_takes sub m p g s es x h = elim (cases_Bool (ends_list s)) [
  | inl y ↦
      let e = paired none es s x (sym (ap (λ (b : Bool). if b then Some (none, s) else item_and sub (others_at sub (length s)) s) y) ∙ h) in
      (e.1 ∙ ap (λ (y : Exprs). parted [] y ++ x) e.0, ap are_spelled (sym e.0), subst (λ (y : Exprs). highest y < m) e.0 p)
  | inr n ↦ item_takes sub m g [] (others_at sub (length s)) s es x (λ s es x k. others_takes sub m p g _ s es x k) (sym (ap (λ (b : Bool). if b then Some (none, s) else item_and sub (others_at sub (length s)) s) n) ∙ h)
]

-- ---- compound literals

array_parts_takes : (sub : Sub) (m : ℕ) → 0 < m → IsSound sub m → (w rest x : List ℕ) (e : Expr) → array_parts sub w rest ≡ Some (e, x) → Good (suc m) (codes "((struct cp_arr_" ++ w ++ rest) e x
array_parts_takes sub m p g w rest x e h =
    let n = bound (array_of w) (λ p. behind (codes "){ { ") rest >>= λ r. list_at sub r >>= λ all. closed (codes " } })") (arr p.0 p.1 all.0) all.1) (e, x) h in
    let r = bound (behind (codes "){ { ") rest) (λ r. list_at sub r >>= λ all. closed (codes " } })") (arr n.0.0 n.0.1 all.0) all.1) (e, x) n.2 in
    let a = bound (list_at sub r.0) (λ all. closed (codes " } })") (arr n.0.0 n.0.1 all.0) all.1) (e, x) r.2 in
    let t = list_takes sub m p g r.0 a.0.0 a.0.1 a.1 in
    let k = array_takes w n.0.0 n.0.1 n.1 in
    let c = closed_takes (codes " } })") (arr n.0.0 n.0.1 a.0.0) e a.0.1 x a.2 in
    let all : rest ≡ codes "){ { " ++ (parted [] a.0.0 ++ (codes " } })" ++ x)) = step (codes "){ { ") (behind_is (codes "){ { ") rest r.0 r.1) (step (parted [] a.0.0) t.0 c.0) in
    let whole = meet (codes "((struct cp_arr_" ++ w) rest (codes "((struct cp_arr_" ++ (n.0.0 ++ codes "_" ++ decimal n.0.1)) (codes "){ { " ++ (parted [] a.0.0 ++ (codes " } })" ++ x))) (ap (λ (z : List ℕ). codes "((struct cp_arr_" ++ z) k.is) all in
    subst (λ (y : Expr). Good (suc m) (codes "((struct cp_arr_" ++ w ++ rest) y x) c.1 (record {
      is = whole ∙ array_pieces (codes "((") (codes "struct cp_arr_") n.0.0 (codes "_") (decimal n.0.1) (codes "){ { ") (parted [] a.0.0) (codes " } })") x;
      spelled = and_from (is_element n.0.0 && is_u32 n.0.1) (are_spelled a.0.0) (and_from (is_element n.0.0) (is_u32 n.0.1) k.elem k.len) t.1;
      low = omega (arith, t.2);
    })

struct_parts_takes : (sub : Sub) (m : ℕ) → 0 < m → IsSound sub m → (w rest x : List ℕ) (e : Expr) → struct_parts sub w rest ≡ Some (e, x) → Good (suc m) (codes "((struct " ++ w ++ rest) e x
struct_parts_takes sub m p g w rest x e h =
    let n = guarded (is_name w) (behind (codes "){ ") rest >>= (λ r. list_at sub r >>= λ all. closed (codes " })") (rec w all.0) all.1)) (e, x) h in
    let r = bound (behind (codes "){ ") rest) (λ r. list_at sub r >>= λ all. closed (codes " })") (rec w all.0) all.1) (e, x) n.1 in
    let a = bound (list_at sub r.0) (λ all. closed (codes " })") (rec w all.0) all.1) (e, x) r.2 in
    let t = list_takes sub m p g r.0 a.0.0 a.0.1 a.1 in
    let c = closed_takes (codes " })") (rec w a.0.0) e a.0.1 x a.2 in
    let all : rest ≡ codes "){ " ++ (parted [] a.0.0 ++ (codes " })" ++ x)) = step (codes "){ ") (behind_is (codes "){ ") rest r.0 r.1) (step (parted [] a.0.0) t.0 c.0) in
    subst (λ (y : Expr). Good (suc m) (codes "((struct " ++ w ++ rest) y x) c.1 (record {
      is = ap (λ (z : List ℕ). codes "((struct " ++ w ++ z) all ∙ rec_pieces (codes "((struct ") w (codes "){ ") (parted [] a.0.0) (codes " })") x;
      spelled = and_from (is_name w) (are_spelled a.0.0) n.0 t.1;
      low = omega (arith, t.2);
    })

compound_takes : (sub : Sub) (m : ℕ) → 0 < m → IsSound sub m → (s x : List ℕ) (e : Expr) → compound sub s ≡ Some (e, x) → Good (suc m) (40 ∷ (40 ∷ s)) e x
compound_takes sub m p g s x e h =
    let r = bound (behind (codes "struct ") s) (λ r. compound_of sub (behind (codes "cp_arr_") (word r)) (word r) (after_word r)) (e, x) h in
    let all : s ≡ codes "struct " ++ (word r.0 ++ after_word r.0) = behind_is (codes "struct ") s r.0 r.1 ∙ ap (λ (z : List ℕ). codes "struct " ++ z) (word_whole r.0) in
    subst (λ (z : List ℕ). Good (suc m) (40 ∷ (40 ∷ z)) e x) (sym all) (by (behind (codes "cp_arr_") (word r.0)) r.0 r.2 (λ a k. behind_is (codes "cp_arr_") (word r.0) a k))
  where
    by : (o : Option (List ℕ)) (r : List ℕ) → compound_of sub o (word r) (after_word r) ≡ Some (e, x) → ((a : List ℕ) → o ≡ Some a → word r ≡ codes "cp_arr_" ++ a) → Good (suc m) (codes "((struct " ++ (word r ++ after_word r)) e x
    by None r k f = struct_parts_takes sub m p g (word r) (after_word r) x e k
    by (Some a) r k f = subst (λ (z : List ℕ). Good (suc m) (codes "((struct " ++ (z ++ after_word r)) e x) (sym (f a refl)) (array_parts_takes sub m p g a (after_word r) x e k)

-- ---- one level

starts_struct : (s : List ℕ) (b : ℕ) → at_struct b s ≡ true → b ≡ 40
starts_struct [] b h = absurd (true≢false (sym h))
starts_struct (c ∷ s) b h = eqb-true b 40 (and_parts (eqb b 40) (eqb c 115) h).0

starts_type : (s : List ℕ) (b : ℕ) → at_type b s ≡ true → b ≡ 40
starts_type [] b h = absurd (true≢false (sym h))
starts_type (c ∷ s) b h = eqb-true b 40 (and_parts (eqb b 40) (eqb c 98 || eqb c 105 || eqb c 117) h).0

group_takes : (sub : Sub) (m : ℕ) → IsSound sub m → (s x : List ℕ) (e : Expr) → (sub s >>= (λ a. tail sub a.0 a.1)) ≡ Some (e, x) → Good (suc m) (40 ∷ s) e x
group_takes sub m g s x e h =
    let a = bound (sub s) (λ a. tail sub a.0 a.1) (e, x) h in
    let t = g.takes s a.0.0 a.0.1 a.1 in
    subst (λ (z : List ℕ). Good (suc m) (40 ∷ z) e x) (sym t.is) (tail_takes sub m g a.0.0 a.0.1 x e t.spelled t.low a.2)

grouped_takes : (sub : Sub) (m : ℕ) → 0 < m → IsSound sub m → (b : ℕ) (s x : List ℕ) (e : Expr) → grouped sub b s ≡ Some (e, x) → Good (suc m) (40 ∷ (b ∷ s)) e x
grouped_takes sub m p g b s x e h = elim (cases_Bool (at_type b s)) [
  | inl y ↦ subst (λ (c : ℕ). Good (suc m) (40 ∷ (c ∷ s)) e x) (sym (starts_type s b y)) (casting_takes sub m g s x e (sym (ap (λ (c : Bool). if c then casting sub s else (if at_struct b s then compound sub s else sub (b ∷ s) >>= (λ a. tail sub a.0 a.1))) y) ∙ h))
  | inr n ↦
      let k : (if at_struct b s then compound sub s else sub (b ∷ s) >>= (λ a. tail sub a.0 a.1)) ≡ Some (e, x) = sym (ap (λ (c : Bool). if c then casting sub s else (if at_struct b s then compound sub s else sub (b ∷ s) >>= (λ a. tail sub a.0 a.1))) n) ∙ h in
      elim (cases_Bool (at_struct b s)) [
        | inl y ↦ subst (λ (c : ℕ). Good (suc m) (40 ∷ (c ∷ s)) e x) (sym (starts_struct s b y)) (compound_takes sub m p g s x e (sym (ap (λ (c : Bool). if c then compound sub s else sub (b ∷ s) >>= (λ a. tail sub a.0 a.1)) y) ∙ k))
        | inr q ↦ group_takes sub m g (b ∷ s) x e (sym (ap (λ (c : Bool). if c then compound sub s else sub (b ∷ s) >>= (λ a. tail sub a.0 a.1)) q) ∙ k)
      ]
]

inside_takes : (sub : Sub) (m : ℕ) → 0 < m → IsSound sub m → (s x : List ℕ) (e : Expr) → inside sub s ≡ Some (e, x) → Good (suc m) (40 ∷ s) e x
inside_takes sub m p g [] x e h = absurd (cc h)
inside_takes sub m p g (b ∷ s) x e h = by (sign_of b) h (λ op k. sign_takes b op k)
  where
    by : (o : Option CUn) → signed sub o b s ≡ Some (e, x) → ((op : CUn) → o ≡ Some op → b ≡ sign op) → Good (suc m) (40 ∷ (b ∷ s)) e x
    by (Some op) k f = subst (λ (c : ℕ). Good (suc m) (40 ∷ (c ∷ s)) e x) (sym (f op refl)) (unary_takes sub m g op s x e k)
    by None k f = grouped_takes sub m p g b s x e k

not_cell_takes : (sub : Sub) (m : ℕ) → IsSound sub m → (o : Option (List ℕ)) (w rest x : List ℕ) (e : Expr) → ((a : List ℕ) → o ≡ Some a → w ≡ codes "cp_ix_" ++ a) → not_cell sub o w rest ≡ Some (e, x) → Good (suc m) (w ++ rest) e x
not_cell_takes sub m g (Some a) w rest x e f h = subst (λ (z : List ℕ). Good (suc m) (z ++ rest) e x) (sym (f a refl)) (picking_takes sub m g a rest x e h)
not_cell_takes sub m g None w rest x e f h = leaf_takes m w rest x (named_of w) e (λ y k. named_takes w y k) h

by_word_takes : (sub : Sub) (m : ℕ) → IsSound sub m → (o : Option (List ℕ)) (w rest x : List ℕ) (e : Expr) → ((a : List ℕ) → o ≡ Some a → w ≡ codes "cp_b_" ++ a) → by_word sub o w rest ≡ Some (e, x) → Good (suc m) (w ++ rest) e x
by_word_takes sub m g (Some a) w rest x e f h = subst (λ (z : List ℕ). Good (suc m) (z ++ rest) e x) (sym (f a refl)) (ring_takes sub m g a rest x e h)
by_word_takes sub m g None w rest x e f h = not_cell_takes sub m g (behind (codes "cp_ix_") w) w rest x e (λ a k. behind_is (codes "cp_ix_") w a k) h

at_word_takes : (sub : Sub) (m : ℕ) → IsSound sub m → (w rest x : List ℕ) (e : Expr) → ((r : List ℕ) → w ++ rest ≡ 40 ∷ r → 0 < m) → at_word sub w rest ≡ Some (e, x) → Good (suc m) (w ++ rest) e x
at_word_takes sub m g [] rest x e f h =
    let r = bound (behind (codes "(") rest) (inside sub) (e, x) h in
    let is : rest ≡ 40 ∷ r.0 = behind_is (codes "(") rest r.0 r.1 in
    subst (λ (z : List ℕ). Good (suc m) z e x) (sym is) (inside_takes sub m (f r.0 is) g r.0 x e r.2)
at_word_takes sub m g (c ∷ w) rest x e f h = elim (cases_Bool (is_digit c)) [
  | inl y ↦ leaf_takes m (c ∷ w) rest x (literal_of (c ∷ w)) e (λ y k. literal_takes (c ∷ w) y k) (sym (ap (λ (b : Bool). if b then leaf (literal_of (c ∷ w)) rest else by_word sub (behind (codes "cp_b_") (c ∷ w)) (c ∷ w) rest) y) ∙ h)
  | inr n ↦ by_word_takes sub m g (behind (codes "cp_b_") (c ∷ w)) (c ∷ w) rest x e (λ a k. behind_is (codes "cp_b_") (c ∷ w) a k) (sym (ap (λ (b : Bool). if b then leaf (literal_of (c ∷ w)) rest else by_word sub (behind (codes "cp_b_") (c ∷ w)) (c ∷ w) rest) n) ∙ h)
]

level_takes : (sub : Sub) (m : ℕ) → IsSound sub m → (s x : List ℕ) (e : Expr) → ((r : List ℕ) → s ≡ 40 ∷ r → 0 < m) → level sub s ≡ Some (e, x) → Good (suc m) s e x
unfolding level
level_takes sub m g s x e f h =
    subst (λ (z : List ℕ). Good (suc m) z e x) (sym (word_whole s)) (at_word_takes sub m g (word s) (after_word s) x e (λ r k. f r (word_whole s ∙ k)) h)

-- ---- all expressions

nothing_sound : IsSound nothing 0
nothing_sound = record { takes = λ s e x h. absurd (cc h) }

no_bracket : (s : List ℕ) → begins (codes "(") s ≡ false → (r : List ℕ) → s ≡ 40 ∷ r → ⊥
unfolding behind
no_bracket s h r e = true≢false (sym (ap (begins (codes "(")) e) ∙ h)

pub sound : (n : ℕ) → IsSound (expr_at n) (suc n)
unfolding expr_at
sound zero = record {
  takes = λ s e x h. elim (cases_Bool (begins (codes "(") s)) [
    | inl y ↦ absurd (cc (sym (ap (λ (b : Bool). if b then None else level nothing s) y) ∙ h))
    | inr n ↦ level_takes nothing 0 nothing_sound s x e (λ r k. absurd (no_bracket s n r k)) (sym (ap (λ (b : Bool). if b then None else level nothing s) n) ∙ h)
  ];
}
sound (suc n) = record { takes = λ s e x h. level_takes (expr_at n) (suc n) (sound n) s x e (λ r k. omega arith) h }
