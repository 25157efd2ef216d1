-- An expression is read as it was written.
use Rattle.std.proofs.Common.{◌≡◌, ℕ, zero, suc, ◌^◌, ◌<◌, ◌≤◌, Bool, true, false, not, ◌&&◌, ◌||◌, leb, eqb, List, [], ◌∷◌, ◌++◌, length, Option, Some, None, inl, inr, refl, sym, ap, ◌∙◌, append_assoc, length-append, codes, arith}
use Rattle.std.specs.Fmt.{decimal}
use Rattle.std.specs.List.{list_all}
use Rattle.std.proofs.lemmas.Fmt.{decimal_nonempty}
use Rattle.std.proofs.lemmas.Bool.{and_parts, and_left, ne_eqb, cond-true, leb-true, or_parts, or_cases, not-true, eqb-true, eqb-false}
use Rattle.sm_io.specs.Names.{is_name_byte}
use Rattle.sm_io.specs.Words.{is_name}
use Rattle.c99_tree.specs.declared.expr.CLit.{CLit}
use Rattle.c99_tree.specs.declared.expr.CLit.TheVariants as k
use Rattle.c99_tree.specs.declared.expr.CUn.{CUn}
use Rattle.c99_tree.specs.declared.expr.CUn.TheVariants as u
use Rattle.c99_tree.specs.declared.expr.CBin.{CBin}
use Rattle.c99_tree.specs.declared.expr.CBin.TheVariants as o
use Rattle.c99_tree.specs.declared.types.CScalar.{CScalar}
use Rattle.c99_tree.specs.declared.types.CScalar.TheVariants as t
use Rattle.c99_tree.specs.Tree.{Expr, Exprs, lit, yes, no, copy, head, cell, ring_at, un, bin, choose, cast, field, pick, arr, rec, none, more}
use Rattle.c99_tree.specs.Words.{is_same, is_digit, is_ring_name, is_element}
use Rattle.c99_tree.specs.Spelling.{text, parted, operator, scalar_text, array_text, sign, suffix, most, height, highest, is_spelled, are_spelled, is_u32}
use Rattle.c99_read.specs.Front.{begins, ◌>>=◌, behind, word, after_word, token, after_token}
use Rattle.c99_read.specs.ExprAt.{level, expr_at, part_at, Sub, leaf, at_word, inside, tail, sign_of, at_type, at_struct, operator_of, suffix_of, literal_of, named_of, others_at, ends_list, list_at}
use Rattle.c99_read.proofs.FrontFinds.{ends, all_word, word_front, after_word_front, all_word-append, name_word, ring_word, decimal_digits, decimal_word, ends_number, number_front, after_number_front, number_of-decimal, in_range, name_no_cp, name_finds, array_of-is}
use Rattle.c99_read.proofs.TypeFinds.{are_scalars, array_word, array_word-word}

-- neither a word nor an index goes on here
abbrev pub stops : List ℕ → Bool
stops [] = true
stops (b ∷ bs) = not (is_name_byte b || eqb b 91)

stop_byte : (b : ℕ) → not (is_name_byte b || eqb b 91) ≡ true → (is_name_byte b ≡ false) × (eqb b 91 ≡ false)
stop_byte b h = or_parts (is_name_byte b) (eqb b 91) (not-true _ h)

pub ends-stops : (x : List ℕ) → stops x ≡ true → ends x ≡ true
ends-stops [] h = refl
ends-stops (b ∷ bs) h = rw (stop_byte b h).0 refl

no_index : (x : List ℕ) → stops x ≡ true → behind (codes "[") x ≡ None
unfolding behind
no_index [] h = refl
no_index (b ∷ bs) h = rw (ne_eqb 91 b (λ e. eqb-false b 91 (stop_byte b h).1 (sym e))) refl

-- this reader finds this expression, whatever follows
pub record Reads (sub : Sub) (e : Expr) : Type 0 where
  pub finds : (x : List ℕ) → stops x ≡ true → sub (text e ++ x) ≡ Some (e, x)

level_word : (sub : Sub) (w x : List ℕ) → all_word w ≡ true → ends x ≡ true → level sub (w ++ x) ≡ at_word sub w x
unfolding level
level_word sub w x a h = rw (word_front w x a h, after_word_front w x a h) refl

level_open : (sub : Sub) (bs : List ℕ) → level sub (40 ∷ bs) ≡ inside sub bs
unfolding level word after_word behind
level_open sub bs = refl

reads_yes : (sub : Sub) → Reads (level sub) yes
unfolding named_of behind
reads_yes sub = record { finds = λ x h. level_word sub (codes "true") x refl (ends-stops x h) }

reads_no : (sub : Sub) → Reads (level sub) no
unfolding named_of behind
reads_no sub = record { finds = λ x h. level_word sub (codes "false") x refl (ends-stops x h) }

reads_copy : (sub : Sub) (n : List ℕ) → is_name n ≡ true → Reads (level sub) (copy n)
unfolding named_of behind
reads_copy sub n ok = record { finds = λ x h. level_word sub (codes "cp_c_" ++ n) x (name_word n ok) (ends-stops x h) ∙ rw ok refl }

reads_head : (sub : Sub) (r : List ℕ) → is_ring_name r ≡ true → Reads (level sub) (head r)
unfolding named_of behind
reads_head sub r ok = record { finds = λ x h. level_word sub (codes "cp_i_" ++ r) x (ring_word r ok) (ends-stops x h) ∙ rw ok refl }

reads_cell : (sub : Sub) (r : List ℕ) → is_ring_name r ≡ true → Reads (level sub) (cell r)
unfolding behind
reads_cell sub r ok = record { finds = λ x h. level_word sub (codes "cp_b_" ++ r) x (ring_word r ok) (ends-stops x h) ∙ rw (ok, no_index x h) refl }

reads_ring_at : (sub : Sub) (r : List ℕ) (a : Expr) → is_ring_name r ≡ true → Reads sub a → Reads (level sub) (ring_at r a)
unfolding behind
reads_ring_at sub r a ok ra = record {
  finds = λ x h.
      let regroup : text (ring_at r a) ++ x ≡ (codes "cp_b_" ++ r) ++ (91 ∷ (text a ++ (93 ∷ x))) = simp append_assoc in
      ap (level sub) regroup ∙ level_word sub (codes "cp_b_" ++ r) (91 ∷ (text a ++ (93 ∷ x))) (ring_word r ok) refl ∙ rw (ok, ra.finds (93 ∷ x) refl) refl;
}

signs : (op : CUn) → sign_of (sign op) ≡ Some op
signs u.Not = refl
signs u.BitNot = refl
signs u.Neg = refl

reads_un : (sub : Sub) (op : CUn) (a : Expr) → Reads sub a → Reads (level sub) (un op a)
unfolding behind
reads_un sub op a ra = record {
  finds = λ x h.
      let regroup : text (un op a) ++ x ≡ 40 ∷ (sign op ∷ (text a ++ (41 ∷ x))) = simp append_assoc in
      ap (level sub) regroup ∙ level_open sub (sign op ∷ (text a ++ (41 ∷ x))) ∙ rw (signs op, ra.finds (41 ∷ x) refl) refl;
}

-- ---- literals

record IsSuffix (s : CLit) : Type 0 where
  is_word : all_word (suffix s) ≡ true
  no_digit : ends_number (suffix s) ≡ true
  is : suffix_of (suffix s) ≡ Some s

are_suffixes : (s : CLit) → IsSuffix s
unfolding suffix_of
are_suffixes k.I = record { is_word = refl; no_digit = refl; is = refl }
are_suffixes _ = record { is_word = refl; no_digit = refl; is = refl }

most_fits : (s : CLit) (n : ℕ) → n ≤ most s → n < 2 ^ 64
most_fits k.I n h = omega arith
most_fits k.U n h = omega arith
most_fits k.LL n h = omega arith
most_fits k.ULL n h = omega arith

literal_again : (s : CLit) (n : ℕ) → n ≤ most s → literal_of (decimal n ++ suffix s) ≡ Some (lit s n)
unfolding literal_of
literal_again s n h =
    let fits = most_fits s n h in
    let i = are_suffixes s in
    rw (after_number_front (decimal n) (suffix s) (decimal_digits n fits) i.no_digit, number_front (decimal n) (suffix s) (decimal_digits n fits) i.no_digit, i.is, number_of-decimal (most s) n fits h) refl

at_digits : (sub : Sub) (ds s rest : List ℕ) → 0 < length ds → list_all is_digit ds ≡ true → at_word sub (ds ++ s) rest ≡ leaf (literal_of (ds ++ s)) rest
at_digits sub [] s rest h a = absurd (omega arith)
at_digits sub (d ∷ ds) s rest h a = let p = and_parts (is_digit d) (list_all is_digit ds) a in cond-true (is_digit d) _ _ p.0

reads_lit : (sub : Sub) (s : CLit) (n : ℕ) → leb n (most s) ≡ true → Reads (level sub) (lit s n)
reads_lit sub s n ok = record {
  finds = λ x h.
      let low : n ≤ most s = leb-true n (most s) ok in
      let fits = most_fits s n low in
      level_word sub (decimal n ++ suffix s) x (all_word-append (decimal n) (suffix s) (decimal_word n fits) (are_suffixes s).is_word) (ends-stops x h)
      ∙ at_digits sub (decimal n) (suffix s) x (decimal_nonempty n fits) (decimal_digits n fits) ∙ ap (λ (y : Option Expr). leaf y x) (literal_again s n low);
}

-- ---- how an expression begins

record Opens (e : Expr) : Type 0 where
  first : ℕ
  more_of : List ℕ
  is : text e ≡ first ∷ more_of
  no_sign : sign_of first ≡ None
  no_type : (eqb first 98 || eqb first 105 || eqb first 117) ≡ false
  no_struct : eqb first 115 ≡ false
  no_end : (eqb first 32 || eqb first 41) ≡ false
  no_cast : (y : List ℕ) → at_type first (more_of ++ y) ≡ false
  no_compound : (y : List ℕ) → at_struct first (more_of ++ y) ≡ false

-- a first byte that is a digit
digit_first : (ds s : List ℕ) → 0 < length ds → list_all is_digit ds ≡ true → (b : ℕ) × (bs : List ℕ) × (ds ++ s ≡ b ∷ bs) × (is_digit b ≡ true)
digit_first [] s h a = absurd (omega arith)
digit_first (d ∷ ds) s h a = (d, ds ++ s, refl, (and_parts (is_digit d) (list_all is_digit ds) a).0)

no_open : (b : ℕ) (y : List ℕ) → (b ≡ 40 → ⊥) → (at_type b y ≡ false) × (at_struct b y ≡ false)
no_open b [] h = (refl, refl)
no_open b (c ∷ y) h = (and_left (eqb b 40) _ (ne_eqb b 40 h), and_left (eqb b 40) _ (ne_eqb b 40 h))

digit_opens : (e : Expr) (b : ℕ) (bs : List ℕ) → text e ≡ b ∷ bs → is_digit b ≡ true → Opens e
digit_opens e b bs is h =
    let r = in_range b h in
    let n = λ (c : ℕ) (f : b ≡ c → ⊥). ne_eqb b c f in
    record {
      first = b;
      more_of = bs;
      is = is;
      no_sign = rw (n 33 (λ e. omega (arith, r)), n 126 (λ e. omega (arith, r)), n 45 (λ e. omega (arith, r))) refl;
      no_type = rw (n 98 (λ e. omega (arith, r)), n 105 (λ e. omega (arith, r)), n 117 (λ e. omega (arith, r))) refl;
      no_struct = n 115 (λ e. omega (arith, r));
      no_end = rw (n 32 (λ e. omega (arith, r)), n 41 (λ e. omega (arith, r))) refl;
      no_cast = λ y. (no_open b (bs ++ y) (λ e. omega (arith, r))).0;
      no_compound = λ y. (no_open b (bs ++ y) (λ e. omega (arith, r))).1;
    }

-- an expression in round brackets, by the byte behind the first
opens_in : (e : Expr) (c : ℕ) (more_of : List ℕ) → text e ≡ 40 ∷ (c ∷ more_of) → (eqb c 98 || eqb c 105 || eqb c 117) ≡ false → eqb c 115 ≡ false → Opens e
opens_in e c more_of is h g = record { first = 40; more_of = c ∷ more_of; is = is; no_sign = refl; no_type = refl; no_struct = refl; no_end = refl; no_cast = λ y. h; no_compound = λ y. g }

opens_deep : (e a : Expr) (rest : List ℕ) → Opens a → text e ≡ 40 ∷ (text a ++ rest) → Opens e
opens_deep e a rest o is = opens_in e o.first (o.more_of ++ rest) (is ∙ ap (λ (t : List ℕ). 40 ∷ (t ++ rest)) o.is) o.no_type o.no_struct

opens_c : (e : Expr) (more_of : List ℕ) → text e ≡ 99 ∷ more_of → Opens e
opens_c e more_of is = record { first = 99; more_of = more_of; is = is; no_sign = refl; no_type = refl; no_struct = refl; no_end = refl; no_cast = λ y. (no_open 99 (more_of ++ y) (λ e. omega arith)).0; no_compound = λ y. (no_open 99 (more_of ++ y) (λ e. omega arith)).1 }

opens : (e : Expr) → is_spelled e ≡ true → Opens e
opens (lit s n) h =
    let fits = most_fits s n (leb-true n (most s) h) in
    let d = digit_first (decimal n) (suffix s) (decimal_nonempty n fits) (decimal_digits n fits) in
    digit_opens (lit s n) d.0 d.1 d.2 d.3
opens yes s = record { first = 116; more_of = codes "rue"; is = refl; no_sign = refl; no_type = refl; no_struct = refl; no_end = refl; no_cast = λ y. refl; no_compound = λ y. refl }
opens no s = record { first = 102; more_of = codes "alse"; is = refl; no_sign = refl; no_type = refl; no_struct = refl; no_end = refl; no_cast = λ y. refl; no_compound = λ y. refl }
opens (copy x) s = opens_c (copy x) (codes "p_c_" ++ x) refl
opens (head r) s = opens_c (head r) (codes "p_i_" ++ r) refl
opens (cell r) s = opens_c (cell r) (codes "p_b_" ++ r) refl
opens (ring_at r a) s = opens_c (ring_at r a) (codes "p_b_" ++ r ++ codes "[" ++ text a ++ codes "]") refl
opens (un u.Not a) s = opens_in (un u.Not a) 33 (text a ++ codes ")") refl refl refl
opens (un u.BitNot a) s = opens_in (un u.BitNot a) 126 (text a ++ codes ")") refl refl refl
opens (un u.Neg a) s = opens_in (un u.Neg a) 45 (text a ++ codes ")") refl refl refl
opens (bin op a b) s = opens_deep (bin op a b) a (codes " " ++ operator op ++ codes " " ++ text b ++ codes ")") (opens a (and_parts (is_spelled a) (is_spelled b) s).0) (simp append_assoc)
opens (choose c a b) s = opens_deep (choose c a b) c (codes " ? " ++ text a ++ codes " : " ++ text b ++ codes ")") (opens c (and_parts (is_spelled c) (is_spelled a) (and_parts _ (is_spelled b) s).0).0) (simp append_assoc)
opens (cast ty a) s = opens_in (cast ty a) 40 (scalar_text ty ++ codes ")" ++ text a ++ codes ")") refl refl refl
opens (field a x) s = opens_deep (field a x) a (codes "." ++ x ++ codes ")") (opens a (and_parts (is_spelled a) (is_name x) s).0) (simp append_assoc)
opens (pick x n a i) s = opens_c (pick x n a i) (codes "p_ix_" ++ x ++ codes "_" ++ decimal n ++ codes "(" ++ text a ++ codes ", " ++ text i ++ codes ")") refl
opens (arr x n all) s = opens_in (arr x n all) 40 (array_text x n ++ codes "){ { " ++ parted [] all ++ codes " } })") refl refl refl
opens (rec x all) s = opens_in (rec x all) 40 (codes "struct " ++ x ++ codes "){ " ++ parted [] all ++ codes " })") refl refl refl

-- behind a ( and before an expression: neither a sign nor a type stands
inside_expr : (sub : Sub) (a : Expr) (y : List ℕ) → Opens a → inside sub (text a ++ y) ≡ (sub (text a ++ y) >>= λ p. tail sub p.0 p.1)
inside_expr sub a y o = rw (o.is, o.no_sign, o.no_cast y, o.no_compound y) refl

-- ---- what stands behind a first part

record IsOperator (op : CBin) : Type 0 where
  token-is : (y : List ℕ) → token (operator op ++ (32 ∷ y)) ≡ operator op
  rest-is : (y : List ℕ) → after_token (operator op ++ (32 ∷ y)) ≡ 32 ∷ y
  no_question : is_same (operator op) (codes "?") ≡ false
  is : operator_of (operator op) ≡ Some op

are_operators : (op : CBin) → IsOperator op
unfolding token after_token operator_of
are_operators o.Add = record { token-is = λ y. refl; rest-is = λ y. refl; no_question = refl; is = refl }
are_operators _ = record { token-is = λ y. refl; rest-is = λ y. refl; no_question = refl; is = refl }

reads_bin : (sub : Sub) (op : CBin) (a b : Expr) → is_spelled a ≡ true → Reads sub a → Reads sub b → Reads (level sub) (bin op a b)
unfolding behind
reads_bin sub op a b sa ra rb = record {
  finds = λ x h.
      let rest : List ℕ = operator op ++ (32 ∷ (text b ++ (41 ∷ x))) in
      let regroup : text (bin op a b) ++ x ≡ 40 ∷ (text a ++ (32 ∷ (operator op ++ (32 ∷ (text b ++ (41 ∷ x)))))) = simp append_assoc in
      let t = are_operators op in
      ap (level sub) regroup ∙ level_open sub (text a ++ (32 ∷ rest)) ∙ inside_expr sub a (32 ∷ rest) (opens a sa)
      ∙ rw (ra.finds (32 ∷ rest) refl, t.token-is (text b ++ (41 ∷ x)), t.rest-is (text b ++ (41 ∷ x)), t.no_question, t.is, rb.finds (41 ∷ x) refl) refl;
}

question_token : (y : List ℕ) → token (63 ∷ (32 ∷ y)) ≡ 63 ∷ []
unfolding token
question_token y = refl

question_rest : (y : List ℕ) → after_token (63 ∷ (32 ∷ y)) ≡ 32 ∷ y
unfolding after_token
question_rest y = refl

reads_choose : (sub : Sub) (c a b : Expr) → is_spelled c ≡ true → Reads sub c → Reads sub a → Reads sub b → Reads (level sub) (choose c a b)
unfolding behind
reads_choose sub c a b sc rc ra rb = record {
  finds = λ x h.
      let last : List ℕ = text b ++ (41 ∷ x) in
      let mid : List ℕ = text a ++ (32 ∷ (58 ∷ (32 ∷ last))) in
      let regroup : text (choose c a b) ++ x ≡ 40 ∷ (text c ++ (32 ∷ (63 ∷ (32 ∷ (text a ++ (32 ∷ (58 ∷ (32 ∷ (text b ++ (41 ∷ x)))))))))) = simp append_assoc in
      ap (level sub) regroup ∙ level_open sub (text c ++ (32 ∷ (63 ∷ (32 ∷ mid)))) ∙ inside_expr sub c (32 ∷ (63 ∷ (32 ∷ mid))) (opens c sc)
      ∙ rw (rc.finds (32 ∷ (63 ∷ (32 ∷ mid))) refl, question_token mid, question_rest mid, ra.finds (32 ∷ (58 ∷ (32 ∷ last))) refl, rb.finds (41 ∷ x) refl) refl;
}

cast_begins : (ty : CScalar) (y : List ℕ) → at_type 40 (scalar_text ty ++ y) ≡ true
cast_begins t.Bool y = refl
cast_begins _ y = refl

reads_cast : (sub : Sub) (ty : CScalar) (a : Expr) → Reads sub a → Reads (level sub) (cast ty a)
unfolding behind
reads_cast sub ty a ra = record {
  finds = λ x h.
      let t = are_scalars ty in
      let rest : List ℕ = 41 ∷ (text a ++ (41 ∷ x)) in
      let regroup : text (cast ty a) ++ x ≡ 40 ∷ (40 ∷ (scalar_text ty ++ (41 ∷ (text a ++ (41 ∷ x))))) = simp append_assoc in
      ap (level sub) regroup ∙ level_open sub (40 ∷ (scalar_text ty ++ rest))
      ∙ rw (cast_begins ty rest, word_front (scalar_text ty) rest t.is_word refl, after_word_front (scalar_text ty) rest t.is_word refl, t.is, ra.finds (41 ∷ x) refl) refl;
}

reads_field : (sub : Sub) (a : Expr) (n : List ℕ) → is_spelled a ≡ true → is_name n ≡ true → Reads sub a → Reads (level sub) (field a n)
unfolding behind
reads_field sub a n sa ok ra = record {
  finds = λ x h.
      let regroup : text (field a n) ++ x ≡ 40 ∷ (text a ++ (46 ∷ (n ++ (41 ∷ x)))) = simp append_assoc in
      ap (level sub) regroup ∙ level_open sub (text a ++ (46 ∷ (n ++ (41 ∷ x)))) ∙ inside_expr sub a (46 ∷ (n ++ (41 ∷ x))) (opens a sa)
      ∙ rw (ra.finds (46 ∷ (n ++ (41 ∷ x))) refl, name_finds n (41 ∷ x) ok refl) refl;
}

abbrev pick_word : List ℕ → ℕ → List ℕ
pick_word x n = codes "cp_ix_" ++ x ++ codes "_" ++ decimal n

reads_pick : (sub : Sub) (x : List ℕ) (n : ℕ) (a i : Expr) → is_element x ≡ true → is_u32 n ≡ true → Reads sub a → Reads sub i → Reads (level sub) (pick x n a i)
unfolding behind
reads_pick sub y n a i e f ra ri = record {
  finds = λ x h.
      let rest : List ℕ = 40 ∷ (text a ++ (44 ∷ (32 ∷ (text i ++ (41 ∷ x))))) in
      let regroup : text (pick y n a i) ++ x ≡ pick_word y n ++ (40 ∷ (text a ++ (44 ∷ (32 ∷ (text i ++ (41 ∷ x)))))) = simp append_assoc in
      ap (level sub) regroup ∙ level_word sub (pick_word y n) rest (array_word-word y n e f) refl
      ∙ rw (array_of-is y n e f, ra.finds (44 ∷ (32 ∷ (text i ++ (41 ∷ x)))) refl, ri.finds (41 ∷ x) refl) refl;
}

-- ---- lists

abbrev pub AllRead : Sub → Exprs → Type 0
AllRead sub none = Unit {0}
AllRead sub (more e es) = Reads sub e × AllRead sub es

abbrev count : Exprs → ℕ
count none = 0
count (more e es) = suc (count es)

count_parted : (es : Exprs) → count es ≤ length (parted (codes ", ") es)
count_parted none = omega arith
count_parted (more e es) = omega (arith, length-append (text e) (parted (codes ", ") es), count_parted es)

record EndsList (x : List ℕ) : Type 0 where
  no_comma : behind (codes ", ") x ≡ None
  stopped : stops x ≡ true

end_is : (x : List ℕ) → ends_list x ≡ true → EndsList x
unfolding behind
end_is [] h = record { no_comma = refl; stopped = refl }
end_is (b ∷ bs) h = elim (or_cases (eqb b 32) (eqb b 41) h) [ inl p ↦ let e = eqb-true b 32 p in record { no_comma = rw e refl; stopped = rw e refl } | inr q ↦ let e = eqb-true b 41 q in record { no_comma = rw e refl; stopped = rw e refl } ]

parted_stops : (es : Exprs) (x : List ℕ) → stops x ≡ true → stops (parted (codes ", ") es ++ x) ≡ true
parted_stops none x h = h
parted_stops (more e es) x h = refl

others_find : (sub : Sub) (es : Exprs) (x : List ℕ) (n : ℕ) → AllRead sub es → EndsList x → count es < n → others_at sub n (parted (codes ", ") es ++ x) ≡ Some (es, x)
unfolding others_at behind
others_find sub es x zero r e k = absurd (omega arith)
others_find sub none x (suc n) r e k = rw e.no_comma refl
others_find sub (more a es) x (suc n) r e k =
    rw (append_assoc (text a) (parted (codes ", ") es) x, r.0.finds (parted (codes ", ") es ++ x) (parted_stops es x e.stopped), others_find sub es x n r.1 e (omega arith)) refl

pub list_finds : (sub : Sub) (es : Exprs) (x : List ℕ) → are_spelled es ≡ true → AllRead sub es → ends_list x ≡ true → list_at sub (parted [] es ++ x) ≡ Some (es, x)
unfolding list_at
list_finds sub none x s r h = rw h refl
list_finds sub (more a es) x s r h =
    let e = end_is x h in
    let o = opens a (and_parts (is_spelled a) (are_spelled es) s).0 in
    let rest : List ℕ = parted (codes ", ") es ++ x in
    let first : ends_list (text a ++ rest) ≡ false = rw (o.is, o.no_end) refl in
    rw (
      append_assoc (text a) (parted (codes ", ") es) x,
      first,
      r.0.finds rest (parted_stops es x e.stopped),
      others_find sub es x (length (text a ++ rest)) r.1 e (omega (arith, ap length o.is, length-append (text a) rest, length-append (parted (codes ", ") es) x, count_parted es)),
    ) refl

reads_arr : (sub : Sub) (x : List ℕ) (n : ℕ) (all : Exprs) → is_element x ≡ true → is_u32 n ≡ true → are_spelled all ≡ true → AllRead sub all → Reads (level sub) (arr x n all)
unfolding behind
reads_arr sub y n all e f s r = record {
  finds = λ x h.
      let ending : List ℕ = codes " } })" ++ x in
      let parts : List ℕ = parted [] all ++ ending in
      let rest : List ℕ = codes "){ { " ++ parts in
      let regroup : text (arr y n all) ++ x ≡ codes "((struct " ++ array_word y n ++ (codes "){ { " ++ (parted [] all ++ (codes " } })" ++ x))) = simp append_assoc in
      let w = array_word-word y n e f in
      ap (level sub) regroup ∙ level_open sub (codes "(struct " ++ (array_word y n ++ rest))
      ∙ rw (word_front (array_word y n) rest w refl, after_word_front (array_word y n) rest w refl, array_of-is y n e f, list_finds sub all ending s r refl) refl;
}

reads_rec : (sub : Sub) (n : List ℕ) (all : Exprs) → is_name n ≡ true → are_spelled all ≡ true → AllRead sub all → Reads (level sub) (rec n all)
unfolding behind
reads_rec sub n all ok s r = record {
  finds = λ x h.
      let ending : List ℕ = codes " })" ++ x in
      let parts : List ℕ = parted [] all ++ ending in
      let rest : List ℕ = codes "){ " ++ parts in
      let regroup : text (rec n all) ++ x ≡ codes "((struct " ++ n ++ (codes "){ " ++ (parted [] all ++ (codes " })" ++ x))) = simp append_assoc in
      ap (level sub) regroup ∙ level_open sub (codes "(struct " ++ (n ++ rest))
      ∙ rw (word_front n rest (name_word n ok) refl, after_word_front n rest (name_word n ok) refl, name_no_cp (codes "arr_") n ok, ok, list_finds sub all ending s r refl) refl;
}

-- ---- all expressions

-- an expression that is a word
record IsLow (e : Expr) : Type 0 where
  no_bracket : (x : List ℕ) → begins (codes "(") (text e ++ x) ≡ false

low_lit : (s : CLit) (n : ℕ) → leb n (most s) ≡ true → IsLow (lit s n)
unfolding behind
low_lit s n h =
    let fits = most_fits s n (leb-true n (most s) h) in
    let d = digit_first (decimal n) (suffix s) (decimal_nonempty n fits) (decimal_digits n fits) in
    let r = in_range d.0 d.3 in
    record { no_bracket = λ x. rw (d.2, ne_eqb 40 d.0 (λ e. omega (arith, r))) refl }

low_c : (e : Expr) (rest : List ℕ) → text e ≡ 99 ∷ rest → IsLow e
unfolding behind
low_c e rest is = record { no_bracket = λ x. rw is refl }

low_yes : IsLow yes
unfolding behind
low_yes = record { no_bracket = λ x. refl }

low_no : IsLow no
unfolding behind
low_no = record { no_bracket = λ x. refl }

here : (n : ℕ) (e : Expr) → IsLow e → Reads (level (part_at n)) e → Reads (expr_at n) e
unfolding part_at expr_at
here zero e l r = record { finds = λ x h. rw (l.no_bracket x) (r.finds x h) }
here (suc n) e l r = r

mutual
  unfolding expr_at

  pub again : (e : Expr) (n : ℕ) → height e ≤ n → is_spelled e ≡ true → Reads (expr_at n) e
  again (lit s v) n h g = here n (lit s v) (low_lit s v g) (reads_lit (part_at n) s v g)
  again yes n h s = here n yes low_yes (reads_yes (part_at n))
  again no n h s = here n no low_no (reads_no (part_at n))
  again (copy x) n h s = here n (copy x) (low_c (copy x) (codes "p_c_" ++ x) refl) (reads_copy (part_at n) x s)
  again (head r) n h s = here n (head r) (low_c (head r) (codes "p_i_" ++ r) refl) (reads_head (part_at n) r s)
  again (cell r) n h s = here n (cell r) (low_c (cell r) (codes "p_b_" ++ r) refl) (reads_cell (part_at n) r s)
  again (ring_at r a) (suc n) h s = let p = and_parts (is_ring_name r) (is_spelled a) s in reads_ring_at (expr_at n) r a p.0 (again a n (omega arith) p.1)
  again (ring_at r a) zero h s = absurd (omega arith)
  again (un op a) (suc n) h s = reads_un (expr_at n) op a (again a n (omega arith) s)
  again (un op a) zero h s = absurd (omega arith)
  again (bin op a b) (suc n) h s = let p = and_parts (is_spelled a) (is_spelled b) s in reads_bin (expr_at n) op a b p.0 (again a n (omega arith) p.0) (again b n (omega arith) p.1)
  again (bin op a b) zero h s = absurd (omega arith)
  again (choose c a b) (suc n) h s = let q = and_parts (is_spelled c && is_spelled a) (is_spelled b) s in let p = and_parts (is_spelled c) (is_spelled a) q.0 in reads_choose (expr_at n) c a b p.0 (again c n (omega arith) p.0) (again a n (omega arith) p.1) (again b n (omega arith) q.1)
  again (choose c a b) zero h s = absurd (omega arith)
  again (cast ty a) (suc n) h s = reads_cast (expr_at n) ty a (again a n (omega arith) s)
  again (cast ty a) zero h s = absurd (omega arith)
  again (field a x) (suc n) h s = let p = and_parts (is_spelled a) (is_name x) s in reads_field (expr_at n) a x p.0 p.1 (again a n (omega arith) p.0)
  again (field a x) zero h s = absurd (omega arith)
  again (pick x m a i) (suc n) h s = let q = and_parts (is_element x && is_u32 m && is_spelled a) (is_spelled i) s in let p = and_parts (is_element x && is_u32 m) (is_spelled a) q.0 in let r = and_parts (is_element x) (is_u32 m) p.0 in reads_pick (expr_at n) x m a i r.0 r.1 (again a n (omega arith) p.1) (again i n (omega arith) q.1)
  again (pick x m a i) zero h s = absurd (omega arith)
  again (arr x m all) (suc n) h s = let p = and_parts (is_element x && is_u32 m) (are_spelled all) s in let r = and_parts (is_element x) (is_u32 m) p.0 in reads_arr (expr_at n) x m all r.0 r.1 p.1 (all_again all n (omega arith) p.1)
  again (arr x m all) zero h s = absurd (omega arith)
  again (rec x all) (suc n) h s = let p = and_parts (is_name x) (are_spelled all) s in reads_rec (expr_at n) x all p.0 p.1 (all_again all n (omega arith) p.1)
  again (rec x all) zero h s = absurd (omega arith)

  pub all_again : (es : Exprs) (n : ℕ) → highest es ≤ n → are_spelled es ≡ true → AllRead (expr_at n) es
  all_again none n h s = tt
  all_again (more e es) n h s = let p = and_parts (is_spelled e) (are_spelled es) s in (again e n (omega arith) p.0, all_again es n (omega arith) p.1)
