-- The statements of `step` are read as they were written.
use Rattle.std.proofs.Common.{◌≡◌, ℕ, ◌<◌, ◌≤◌, Bool, true, false, ◌&&◌, leb, eqb, List, [], ◌∷◌, ◌++◌, length, Option, Some, None, refl, sym, ap, ◌∙◌, append_assoc, codes, arith}
use Rattle.std.specs.Prelude.{is_some, if◌then◌else◌}
use Rattle.std.specs.Fmt.{decimal}
use Rattle.std.specs.Option.{option_map_or}
use Rattle.std.specs.List.{list_all, find}
use Rattle.std.proofs.lemmas.Bool.{and_from, and_parts, eq-eqb, leb-true, true≢false}
use Rattle.sm_io.specs.Words.{is_name}
use Rattle.c99_tree.specs.declared.types.CScalar.{CScalar}
use Rattle.c99_tree.specs.declared.types.CScalar.TheVariants as t
use Rattle.c99_tree.specs.declared.types.CTy.{CTy}
use Rattle.c99_tree.specs.declared.types.CTy.TheVariants as ty
use Rattle.c99_tree.specs.declared.unit.CRing.{CRing}
use Rattle.c99_tree.specs.declared.unit.Unit.{Unit as CUnit}
use Rattle.c99_tree.specs.Words.{is_same, is_ring_name}
use Rattle.c99_tree.specs.Lookup.{ring_of}
use Rattle.c99_tree.specs.Tree.{Expr, Exprs, none, more, Stmt, copies, calls, nexts, stores, moves, puts}
use Rattle.c99_tree.specs.Spelling.{text, parted, height, highest, scalar_text, type_text, most_height, is_spelled, are_spelled, is_spelled_here, are_spelled_here, is_spelled_type, is_spelled_ring, is_spelled_statement, statement_line}
use Rattle.c99_read.specs.Front.{behind, word, after_word, begins}
use Rattle.c99_read.specs.ExprAt.{expr_at}
use Rattle.c99_read.specs.LineAt.{given_at, is_type, next_at, statement_by, statement_at}
use Rattle.c99_read.proofs.FrontFinds.{same_self, behind_front, word_front, after_word_front, name_word, ring_word, name_finds, ring_name_finds, ReadsLines, anything}
use Rattle.c99_read.proofs.TypeFinds.{are_scalars, type_finds}
use Rattle.c99_read.proofs.WordsFind.{same_some}
use Rattle.c99_read.proofs.RingsFind.{sound}
use Rattle.c99_read.proofs.ExprFinds.{Reads, again, all_again, list_finds}

pub here_reads : (e : Expr) → is_spelled_here e ≡ true → Reads (expr_at most_height) e
here_reads e h = let p = and_parts (is_spelled e) (leb (height e) most_height) h in again e most_height (leb-true (height e) most_height p.1) p.0

all_here : (es : Exprs) → are_spelled_here es ≡ true → (are_spelled es ≡ true) × (highest es ≤ most_height)
all_here none h = (refl, omega arith)
all_here (more e es) h =
    let q = and_parts (is_spelled_here e) (are_spelled_here es) h in
    let p = and_parts (is_spelled e) (leb (height e) most_height) q.0 in
    let r = all_here es q.1 in
    let low = leb-true (height e) most_height p.1 in
    (rw p.0 r.0, omega (arith, r.1))

given_finds : (e : Expr) (y : List ℕ) → is_spelled_here e ≡ true → given_at (codes " = " ++ (text e ++ (codes ";\n" ++ y))) ≡ Some (e, y)
unfolding given_at behind
given_finds e y h = rw ((here_reads e h).finds (codes ";\n" ++ y) refl) refl

-- ---- each form

abbrev Found : CUnit → Stmt → Type 0
Found u s = (y : List ℕ) → statement_at u.rings (statement_line u s ++ y) ≡ Some (s, y)

pub copy_pieces : (a x b c l y : List ℕ) → a ++ x ++ b ++ x ++ c ++ l ++ y ≡ a ++ x ++ ((b ++ x ++ (c ++ l)) ++ y)
copy_pieces a x b c l y = simp append_assoc

copies_find : (u : CUnit) (x : List ℕ) → is_name x ≡ true → Found u (copies x)
unfolding statement_at behind
copies_find u x h y =
    let ending : List ℕ = codes " = " ++ x ++ codes ";\n" in
    let w = name_word x h in
    ap (statement_at u.rings) (copy_pieces (codes "  cp_c_") x (codes " = ") (codes ";") (codes "\n") y)
    ∙ rw (word_front (codes "cp_c_" ++ x) (ending ++ y) w refl, after_word_front (codes "cp_c_" ++ x) (ending ++ y) w refl, h, behind_front ending y) refl

pub value_pieces : (a r b e c l y : List ℕ) → a ++ r ++ b ++ e ++ c ++ l ++ y ≡ a ++ r ++ (b ++ (e ++ ((c ++ l) ++ y)))
value_pieces a r b e c l y = simp append_assoc

moves_find : (u : CUnit) (r : List ℕ) (e : Expr) → is_ring_name r ≡ true → is_spelled_here e ≡ true → Found u (moves r e)
unfolding statement_at behind
moves_find u r e h k y =
    let rest : List ℕ = codes " = " ++ (text e ++ (codes ";\n" ++ y)) in
    let w = ring_word r h in
    ap (statement_at u.rings) (value_pieces (codes "  cp_i_") r (codes " = ") (text e) (codes ";") (codes "\n") y)
    ∙ rw (word_front (codes "cp_i_" ++ r) rest w refl, after_word_front (codes "cp_i_" ++ r) rest w refl, h, given_finds e y k) refl

puts_find : (u : CUnit) (r : List ℕ) → is_ring_name r ≡ true → Found u (puts r)
unfolding statement_at behind
puts_find u r h y =
    let ending : List ℕ = codes " = cp_n_" ++ r ++ codes ";\n" in
    let w = ring_word r h in
    ap (statement_at u.rings) (copy_pieces (codes "  cp_b_") r (codes " = cp_n_") (codes ";") (codes "\n") y)
    ∙ rw (word_front (codes "cp_b_" ++ r) (ending ++ y) w refl, after_word_front (codes "cp_b_" ++ r) (ending ++ y) w refl, h, behind_front ending y) refl

pub store_pieces : (a r b e c d l y : List ℕ) → a ++ r ++ b ++ e ++ c ++ r ++ d ++ l ++ y ≡ a ++ r ++ (b ++ (e ++ ((c ++ r ++ (d ++ l)) ++ y)))
store_pieces a r b e c d l y = simp append_assoc

stores_find : (u : CUnit) (r : List ℕ) (e : Expr) → is_ring_name r ≡ true → is_spelled_here e ≡ true → Found u (stores r e)
unfolding statement_at behind
stores_find u r e h k y =
    let ending : List ℕ = codes "] = cp_n_" ++ r ++ codes ";\n" in
    let rest : List ℕ = codes "[" ++ (text e ++ (ending ++ y)) in
    let w = ring_word r h in
    ap (statement_at u.rings) (store_pieces (codes "  cp_b_") r (codes "[") (text e) (codes "] = cp_n_") (codes ";") (codes "\n") y)
    ∙ rw (word_front (codes "cp_b_" ++ r) rest w refl, after_word_front (codes "cp_b_" ++ r) rest w refl, h, (here_reads e k).finds (ending ++ y) refl, behind_front ending y) refl

pub call_pieces : (a g b h c p d l y : List ℕ) → a ++ g ++ b ++ h ++ c ++ p ++ d ++ l ++ y ≡ a ++ (g ++ (b ++ (h ++ (c ++ (p ++ ((d ++ l) ++ y))))))
call_pieces a g b h c p d l y = simp append_assoc

calls_find : (u : CUnit) (h : List ℕ) (g : Expr) (args : Exprs) → is_name h ≡ true → is_spelled_here g ≡ true → are_spelled_here args ≡ true → Found u (calls h g args)
unfolding statement_at behind
calls_find u h g args n k all y =
    let ending : List ℕ = codes "); }\n" ++ y in
    let rest : List ℕ = codes "(" ++ (parted [] args ++ ending) in
    let tail : List ℕ = codes ") { " ++ (h ++ rest) in
    let a = all_here args all in
    let called : List ℕ = codes " (" ++ (text g ++ tail) in
    ap (statement_at u.rings) (call_pieces (codes "  if (") (text g) (codes ") { ") h (codes "(") (parted [] args) (codes "); }") (codes "\n") y)
    ∙ rw (
      word_front (codes "if") called refl refl,
      after_word_front (codes "if") called refl refl,
      (here_reads g k).finds tail refl,
      name_finds h rest n refl,
      list_finds (expr_at most_height) args ending a.0 (all_again args most_height a.1 a.0) refl,
    ) refl

-- ---- a Next, by the type of its ring

not_other : (rings : List CRing) (k : CTy) (y : List ℕ) → is_spelled_type k ≡ true → statement_by rings (type_text k ++ (32 ∷ y)) (word (type_text k ++ (32 ∷ y))) (after_word (type_text k ++ (32 ∷ y))) ≡ next_at rings (type_text k ++ (32 ∷ y))
unfolding behind
not_other rings (ty.Scalar q) y h = let s = are_scalars q in rw (word_front (scalar_text q) (32 ∷ y) s.is_word refl) (scalars_go q)
  where
    scalars_go : (k : CScalar) → statement_by rings (scalar_text k ++ (32 ∷ y)) (scalar_text k) (after_word (scalar_text k ++ (32 ∷ y))) ≡ next_at rings (scalar_text k ++ (32 ∷ y))
    scalars_go t.Bool = refl
    scalars_go _ = refl
not_other rings (ty.Struct x) y h = rw (word_front (codes "struct") (32 ∷ (x ++ (32 ∷ y))) refl refl) refl
not_other rings (ty.Array x n) y h = rw (word_front (codes "struct") (32 ∷ (codes "cp_arr_" ++ x ++ codes "_" ++ decimal n ++ (32 ∷ y))) refl refl) refl

found_by : {A : Type 0} (p : A → Bool) (a x : A) (b : Bool) (o : Option A) → p a ≡ true → (o ≡ Some x → p x ≡ true) → (if b then Some a else o) ≡ Some x → p x ≡ true
found_by p a x true o h f g = rw (← same_some a x g) h
found_by p a x false o h f g = f g

found_passes : {A : Type 0} (p test : A → Bool) (xs : List A) (x : A) → list_all p xs ≡ true → find test xs ≡ Some x → p x ≡ true
found_passes p test [] x h f = absurd (cc f)
found_passes p test (a ∷ xs) x h f = let q = and_parts (p a) (list_all p xs) h in found_by p a x (test a) (find test xs) q.0 (λ g. found_passes p test xs x q.1 g) f

is_some-Some : {A : Type 0} (o : Option A) → is_some o ≡ true → (x : A) × (o ≡ Some x)
is_some-Some None h = absurd (true≢false (sym h))
is_some-Some (Some x) h = (x, refl)

type_self : (a : CTy) → is_type a a ≡ true
type_self (ty.Scalar t) = same_self (scalar_text t)
type_self (ty.Struct x) = same_self x
type_self (ty.Array x n) = and_from (is_same x x) (eqb n n) (same_self x) (eq-eqb n n refl)

pub next_pieces : (i t b r c e d l y : List ℕ) → i ++ t ++ b ++ r ++ c ++ e ++ d ++ l ++ y ≡ i ++ (t ++ (b ++ (r ++ (c ++ (e ++ ((d ++ l) ++ y))))))
next_pieces i t b r c e d l y = simp append_assoc

nexts_find : (u : CUnit) (r : List ℕ) (e : Expr) (ring : CRing) → ring_of u r ≡ Some ring → is_spelled_type ring.ty ≡ true → is_ring_name r ≡ true → is_spelled_here e ≡ true → Found u (nexts r e)
unfolding statement_at behind
nexts_find u r e ring f k h s y =
    let rest : List ℕ = codes " = " ++ (text e ++ (codes ";\n" ++ y)) in
    let tail : List ℕ = codes "cp_n_" ++ (r ++ rest) in
    let line-is : statement_line u (nexts r e) ++ y ≡ codes "  " ++ type_text ring.ty ++ codes " cp_n_" ++ r ++ codes " = " ++ text e ++ codes ";" ++ codes "\n" ++ y =
    ap (λ (o : Option CRing). codes "  " ++ option_map_or (λ (x : CRing). type_text x.ty) o [] ++ codes " cp_n_" ++ r ++ codes " = " ++ text e ++ codes ";" ++ codes "\n" ++ y) f in
    ap (statement_at u.rings) (line-is ∙ next_pieces (codes "  ") (type_text ring.ty) (codes " cp_n_") r (codes " = ") (text e) (codes ";") (codes "\n") y)
    ∙ not_other u.rings ring.ty tail k
    ∙ rw (type_finds ring.ty (32 ∷ tail) k refl, ring_name_finds r rest h refl, f, type_self ring.ty, given_finds e y s) refl

-- ---- all

statement_finds : (u : CUnit) (s : Stmt) → list_all (is_spelled_ring u.types) u.rings ≡ true → is_spelled_statement u s ≡ true → Found u s
statement_finds u (copies x) rs h = copies_find u x h
statement_finds u (calls n g args) rs h =
    let q = and_parts (is_name n && is_spelled_here g) (are_spelled_here args) h in
    let p = and_parts (is_name n) (is_spelled_here g) q.0 in
    calls_find u n g args p.0 p.1 q.1
statement_finds u (nexts r e) rs h =
    let q = and_parts (is_ring_name r && is_some (ring_of u r)) (is_spelled_here e) h in
    let p = and_parts (is_ring_name r) (is_some (ring_of u r)) q.0 in
    let x = is_some-Some (ring_of u r) p.1 in
    nexts_find u r e x.0 x.1 (sound u.types x.0 (found_passes (is_spelled_ring u.types) _ u.rings x.0 rs x.1)).kind p.0 q.1
statement_finds u (stores r e) rs h = let p = and_parts (is_ring_name r) (is_spelled_here e) h in stores_find u r e p.0 p.1
statement_finds u (moves r e) rs h = let p = and_parts (is_ring_name r) (is_spelled_here e) h in moves_find u r e p.0 p.1
statement_finds u (puts r) rs h = puts_find u r h

statement_begins : (u : CUnit) (s : Stmt) (y : List ℕ) → begins (codes " ") (statement_line u s ++ y) ≡ true
unfolding behind
statement_begins u (copies x) y = refl
statement_begins u (calls n g args) y = refl
statement_begins u (nexts r e) y = refl
statement_begins u (stores r e) y = refl
statement_begins u (moves r e) y = refl
statement_begins u (puts r) y = refl

statement_long : (u : CUnit) (s : Stmt) → 0 < length (statement_line u s)
statement_long u (copies x) = omega arith
statement_long u (calls n g args) = omega arith
statement_long u (nexts r e) = omega arith
statement_long u (stores r e) = omega arith
statement_long u (moves r e) = omega arith
statement_long u (puts r) = omega arith

pub statements_read : (u : CUnit) → list_all (is_spelled_ring u.types) u.rings ≡ true → ReadsLines (begins (codes " ")) anything (statement_at u.rings) (statement_line u) (is_spelled_statement u)
statements_read u rs = record { starts = λ s y h. statement_begins u s y; finds = λ s y h e. statement_finds u s rs h y; goes = λ s y h. refl; long = λ s h. statement_long u s }
