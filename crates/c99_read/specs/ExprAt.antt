-- Reading an expression at the front of a text.
use Rattle.std.specs.Prelude.{ℕ, zero, suc, Bool, true, false, ◌&&◌, ◌||◌, ◌==◌, if◌then◌else◌, List, [], ◌∷◌, length, codes, Option, Some, None}
use Rattle.std.specs.List.{find}
use Rattle.sm_io.specs.Words.{is_name}
use Rattle.c99_tree.specs.declared.expr.CLit.{CLit}
use Rattle.c99_tree.specs.declared.expr.CLit.TheVariants as k
use Rattle.c99_tree.specs.declared.expr.CUn.{CUn}
use Rattle.c99_tree.specs.declared.expr.CUn.TheVariants as u
use Rattle.c99_tree.specs.declared.expr.CBin.{CBin}
use Rattle.c99_tree.specs.declared.expr.CBin.TheVariants as o
use Rattle.c99_tree.specs.Tree.{Expr, Exprs, lit, yes, no, copy, head, cell, ring_at, un, bin, choose, cast, field, pick, arr, rec, none, more}
use Rattle.c99_tree.specs.Words.{is_same, is_digit, is_ring_name}
use Rattle.c99_tree.specs.Spelling.{suffix, most, operator}
use Rattle.c99_read.specs.Front.{◌>>=◌, behind, word, after_word, token, after_token, number, after_number, number_of, name_at, array_of, begins}
use Rattle.c99_read.specs.TypeAt.{scalar_of}

abbrev pub operators : List CBin
operators = o.Add ∷ o.Sub ∷ o.Mul ∷ o.Div ∷ o.Rem ∷ o.BitAnd ∷ o.BitOr ∷ o.BitXor ∷ o.Shl ∷ o.Shr ∷ o.Eq ∷ o.Ne ∷ o.Lt ∷ o.Le ∷ o.Gt ∷ o.Ge ∷ o.And ∷ o.Or ∷ []

abbrev pub suffixes : List CLit
suffixes = k.I ∷ k.U ∷ k.LL ∷ k.ULL ∷ []

unfoldable pub operator_of : List ℕ → Option CBin
operator_of w = find (λ op. is_same (operator op) w) operators

unfoldable pub suffix_of : List ℕ → Option CLit
suffix_of w = find (λ l. is_same (suffix l) w) suffixes

abbrev pub sign_of : ℕ → Option CUn
sign_of b = if b == 33 then Some u.Not else (if b == 126 then Some u.BitNot else (if b == 45 then Some u.Neg else None))

unfoldable pub literal_of : List ℕ → Option Expr
literal_of w = suffix_of (after_number w) >>= λ l. number_of (most l) (number w) >>= λ n. Some (lit l n)

abbrev pub copy_of : List ℕ → Option Expr
copy_of x = if is_name x then Some (copy x) else None

abbrev pub head_of : List ℕ → Option Expr
head_of r = if is_ring_name r then Some (head r) else None

abbrev pub other_named : Option (List ℕ) → List ℕ → Option Expr
other_named (Some x) w = copy_of x
other_named None w = behind (codes "cp_i_") w >>= head_of

-- a word that is an expression by itself
unfoldable pub named_of : List ℕ → Option Expr
named_of w =
    if is_same (codes "true") w then Some yes
    else (if is_same (codes "false") w then Some no else other_named (behind (codes "cp_c_") w) w)

abbrev pub Found : Type 0
Found = Option (Expr × List ℕ)

abbrev pub FoundAll : Type 0
FoundAll = Option (Exprs × List ℕ)

-- Below, sub reads the parts.
abbrev pub Sub : Type 0
Sub = List ℕ → Found

abbrev pub leaf : Option Expr → List ℕ → Found
leaf e rest = e >>= λ x. Some (x, rest)

abbrev pub closed : List ℕ → Expr → List ℕ → Found
closed end e rest = behind end rest >>= λ r. Some (e, r)

-- ---- lists

-- these items before those that were found
abbrev pub joined : Exprs → Exprs → Exprs
joined none es = es
joined (more e es) fs = more e (joined es fs)

abbrev pub onto : Exprs → FoundAll → FoundAll
onto es None = None
onto es (Some b) = Some (joined es b.0, b.1)

abbrev pub item_and : Sub → (List ℕ → FoundAll) → List ℕ → FoundAll
item_and sub others s = sub s >>= λ a. onto (more a.0 none) (others a.1)

abbrev pub item_or : Sub → (List ℕ → FoundAll) → List ℕ → Option (List ℕ) → FoundAll
item_or sub others s None = Some (none, s)
item_or sub others s (Some r) = item_and sub others r

-- further items, each behind a comma
unfoldable pub others_at : Sub → ℕ → List ℕ → FoundAll
others_at sub zero s = None
others_at sub (suc n) s = item_or sub (others_at sub n) s (behind (codes ", ") s)

-- a list ends before a space or a bracket
abbrev pub ends_list : List ℕ → Bool
ends_list [] = true
ends_list (b ∷ bs) = b == 32 || b == 41

unfoldable pub list_at : Sub → List ℕ → FoundAll
list_at sub s = if ends_list s then Some (none, s) else item_and sub (others_at sub (length s)) s

-- ---- forms

abbrev pub celled : Sub → List ℕ → List ℕ → Option (List ℕ) → Found
celled sub r rest None = Some (cell r, rest)
celled sub r rest (Some at) = sub at >>= λ a. closed (codes "]") (ring_at r a.0) a.1

abbrev pub ring : Sub → List ℕ → List ℕ → Found
ring sub r rest = if is_ring_name r then celled sub r rest (behind (codes "[") rest) else None

abbrev pub picking : Sub → List ℕ → List ℕ → Found
picking sub w rest =
    array_of w >>= λ p. behind (codes "(") rest >>= λ r. sub r >>= λ a.
    behind (codes ", ") a.1 >>= λ t. sub t >>= λ i. closed (codes ")") (pick p.0 p.1 a.0 i.0) i.1

abbrev pub not_cell : Sub → Option (List ℕ) → List ℕ → List ℕ → Found
not_cell sub (Some w) all rest = picking sub w rest
not_cell sub None all rest = leaf (named_of all) rest

abbrev pub by_word : Sub → Option (List ℕ) → List ℕ → List ℕ → Found
by_word sub (Some r) w rest = ring sub r rest
by_word sub None w rest = not_cell sub (behind (codes "cp_ix_") w) w rest

abbrev pub unary : Sub → CUn → List ℕ → Found
unary sub op bytes = sub bytes >>= λ a. closed (codes ")") (un op a.0) a.1

abbrev pub casting : Sub → List ℕ → Found
casting sub bytes =
    scalar_of (word bytes) >>= λ ty. behind (codes ")") (after_word bytes) >>= λ r. sub r >>= λ a.
    closed (codes ")") (cast ty a.0) a.1

abbrev pub array_parts : Sub → List ℕ → List ℕ → Found
array_parts sub w rest =
    array_of w >>= λ p. behind (codes "){ { ") rest >>= λ r. list_at sub r >>= λ all.
    closed (codes " } })") (arr p.0 p.1 all.0) all.1

abbrev pub struct_parts : Sub → List ℕ → List ℕ → Found
struct_parts sub w rest =
    if is_name w then behind (codes "){ ") rest >>= (λ r. list_at sub r >>= λ all. closed (codes " })") (rec w all.0) all.1)
    else None

abbrev pub compound_of : Sub → Option (List ℕ) → List ℕ → List ℕ → Found
compound_of sub (Some a) w rest = array_parts sub a rest
compound_of sub None w rest = struct_parts sub w rest

abbrev pub compound : Sub → List ℕ → Found
compound sub bytes =
    behind (codes "struct ") bytes >>= λ r. compound_of sub (behind (codes "cp_arr_") (word r)) (word r) (after_word r)

abbrev pub member : Expr → List ℕ → Found
member a bytes = name_at bytes >>= λ x. closed (codes ")") (field a x.0) x.1

abbrev pub conditional : Sub → Expr → List ℕ → Found
conditional sub c bytes =
    sub bytes >>= λ a. behind (codes " : ") a.1 >>= λ r. sub r >>= λ b. closed (codes ")") (choose c a.0 b.0) b.1

abbrev pub binary : Sub → Expr → CBin → List ℕ → Found
binary sub a op bytes = sub bytes >>= λ b. closed (codes ")") (bin op a b.0) b.1

abbrev pub operated : Sub → Expr → List ℕ → List ℕ → Found
operated sub a t rest =
    behind (codes " ") rest >>= λ r. if is_same t (codes "?") then conditional sub a r else operator_of t >>= (λ op. binary sub a op r)

abbrev pub tail : Sub → Expr → List ℕ → Found
tail sub a [] = None
tail sub a (b ∷ bytes) =
    if b == 46 then member a bytes else (if b == 32 then operated sub a (token bytes) (after_token bytes) else None)

-- whether a ( and a scalar type stand here
abbrev pub at_type : ℕ → List ℕ → Bool
at_type b [] = false
at_type b (c ∷ bytes) = b == 40 && (c == 98 || c == 105 || c == 117)

-- whether a ( and the word struct stand here
abbrev pub at_struct : ℕ → List ℕ → Bool
at_struct b [] = false
at_struct b (c ∷ bytes) = b == 40 && c == 115

abbrev pub grouped : Sub → ℕ → List ℕ → Found
grouped sub b bytes =
    if at_type b bytes then casting sub bytes
    else (if at_struct b bytes then compound sub bytes else sub (b ∷ bytes) >>= (λ a. tail sub a.0 a.1))

abbrev pub signed : Sub → Option CUn → ℕ → List ℕ → Found
signed sub (Some op) b bytes = unary sub op bytes
signed sub None b bytes = grouped sub b bytes

abbrev pub inside : Sub → List ℕ → Found
inside sub [] = None
inside sub (b ∷ bytes) = signed sub (sign_of b) b bytes

abbrev pub at_word : Sub → List ℕ → List ℕ → Found
at_word sub [] rest = behind (codes "(") rest >>= inside sub
at_word sub (c ∷ w) rest =
    if is_digit c then leaf (literal_of (c ∷ w)) rest
    else by_word sub (behind (codes "cp_b_") (c ∷ w)) (c ∷ w) rest

unfoldable pub level : Sub → List ℕ → Found
level sub bytes = at_word sub (word bytes) (after_word bytes)

abbrev pub nothing : Sub
nothing bytes = None

-- an expression of height 0 is a word
abbrev pub lowest : Sub
lowest bytes = if begins (codes "(") bytes then None else level nothing bytes

-- the expression of at most this height at the front, and the bytes behind it
unfoldable pub expr_at : ℕ → Sub
expr_at zero = lowest
expr_at (suc n) = level (expr_at n)

-- what the parts of an expression of at most this height are read by
unfoldable pub part_at : ℕ → Sub
part_at zero = nothing
part_at (suc n) = expr_at n
