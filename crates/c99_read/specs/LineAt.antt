-- Reading the lines of a header and of a source.
use Rattle.std.specs.Prelude.{ℕ, Bool, true, false, not, nat_eq, ◌&&◌, if◌then◌else◌, List, [], ◌∷◌, ◌++◌, codes, Option, Some, None}
use Rattle.std.specs.Option.{option_map_or}
use Rattle.std.specs.List.{find}
use Rattle.std.specs.Fmt.{decimal}
use Rattle.sm_io.specs.Words.{is_name}
use Rattle.c99_tree.specs.declared.types.CTy.{CTy}
use Rattle.c99_tree.specs.declared.types.CTy.TheVariants as ty
use Rattle.c99_tree.specs.declared.types.CVar.{CVar}
use Rattle.c99_tree.specs.declared.types.CDef.{CDef}
use Rattle.c99_tree.specs.declared.types.CDef.TheVariants as def
use Rattle.c99_tree.specs.declared.types.CProto.{CProto}
use Rattle.c99_tree.specs.declared.unit.CRing.{CRing}
use Rattle.c99_tree.specs.Words.{is_same, elem_type, is_ring_name}
use Rattle.c99_tree.specs.Tree.{Expr, Stmt, copies, calls, nexts, stores, moves, puts}
use Rattle.c99_tree.specs.Values.{shape_of}
use Rattle.c99_tree.specs.Spelling.{scalar_text, type_text, most_height}
use Rattle.c99_read.specs.Front.{◌>>=◌, behind, word, after_word, number_at, name_at, ring_name_at, array_of, all_at, after_all, begins}
use Rattle.c99_read.specs.TypeAt.{type_at}
use Rattle.c99_read.specs.ExprAt.{expr_at, list_at}
use Rattle.c99_read.specs.WordsAt.{FoundWords, words_at, times_at}

-- ---- the header

abbrev pub var_of : CTy → List ℕ → CVar
var_of t x = record { name = x; ty = t }

-- a type, a space and a name
unfoldable pub var_at : List ℕ → Option (CVar × List ℕ)
var_at s = type_at s >>= λ t. behind (codes " ") t.1 >>= λ r. name_at r >>= λ x. Some (var_of t.0 x.0, x.1)

-- a member of a struct
unfoldable pub field_at : List ℕ → Option (CVar × List ℕ)
field_at s = behind (codes " ") s >>= λ r. var_at r >>= λ x. behind (codes ";") x.1 >>= λ t. Some (x.0, t)

-- the members end before a closing brace
abbrev pub is_field : List ℕ → Bool
is_field s = not (begins (codes " }") s)

abbrev pub array_def_at : List ℕ → List ℕ → Option (CDef × List ℕ)
array_def_at w rest =
    array_of w >>= λ p. behind (codes " { ") rest >>= λ a. behind (type_text (elem_type p.0)) a >>= λ b. behind (codes " e[") b
    >>= λ c. behind (decimal p.1) c >>= λ d. behind (codes "]; };\n") d >>= λ r. Some (def.Array p.0 p.1, r)

abbrev pub struct_def_at : List ℕ → List ℕ → Option (CDef × List ℕ)
struct_def_at w rest =
    if is_name w then behind (codes " {") rest
    >>= (λ r. all_at is_field field_at r >>= λ all. behind (codes " };\n") all.1 >>= λ t. Some (def.Struct w all.0, t))
    else None

abbrev pub def_of_word : Option (List ℕ) → List ℕ → List ℕ → Option (CDef × List ℕ)
def_of_word (Some a) w rest = array_def_at a rest
def_of_word None w rest = struct_def_at w rest

-- the definition of a type
unfoldable pub def_at : List ℕ → Option (CDef × List ℕ)
def_at s = behind (codes "struct ") s >>= λ r. def_of_word (behind (codes "cp_arr_") (word r)) (word r) (after_word r)

unfoldable pub extern_at : List ℕ → Option (CVar × List ℕ)
extern_at s = behind (codes "extern ") s >>= λ r. var_at r >>= λ x. behind (codes ";\n") x.1 >>= λ t. Some (x.0, t)

-- a further parameter stands behind a comma
unfoldable pub param_at : List ℕ → Option (CTy × List ℕ)
param_at s = behind (codes ", ") s >>= type_at

abbrev pub params_by : List ℕ → Option (List ℕ) → Option (List CTy × List ℕ)
params_by s (Some r) = Some ([], r)
params_by s None = type_at s >>= λ t. after_all (t.0 ∷ []) (all_at (begins (codes ", ")) param_at t.1)

-- the types of parameters, or the word for none
unfoldable pub params_at : List ℕ → Option (List CTy × List ℕ)
params_at s = params_by s (behind (codes "void") s)

abbrev pub proto_of : List ℕ → List CTy → CProto
proto_of h ts = record { name = h; params = ts }

unfoldable pub handler_at : List ℕ → Option (CProto × List ℕ)
handler_at s =
    behind (codes "void ") s >>= λ r. name_at r >>= λ h. behind (codes "(") h.1 >>= λ t. params_at t >>= λ ts.
    behind (codes ");\n") ts.1 >>= λ x. Some (proto_of h.0 ts.0, x)

-- a line of a function that isn't step
abbrev pub is_other : Option (List ℕ) → Bool
is_other None = false
is_other (Some r) = not (is_same (word r) (codes "step"))

abbrev pub is_handler : List ℕ → Bool
is_handler s = is_other (behind (codes "void ") s)

-- ---- the rings

abbrev pub a_ring : List ℕ → CTy → ℕ → Bool → List ℕ → CRing
a_ring r t n i ws = record { name = r; ty = t; len = n; indexed = i; init = ws }

-- the words of so many constants of a type
unfoldable pub init_at : List CDef → CTy → ℕ → List ℕ → FoundWords
init_at ds t n s = shape_of ds t >>= λ shape. times_at n (words_at most_height shape) [] s

abbrev pub single_at : List CDef → CTy → List ℕ → List ℕ → Option (CRing × List ℕ)
single_at ds t r s =
    behind (codes " = ") s >>= λ x. init_at ds t 1 x >>= λ ws. behind (codes ";\n") ws.1 >>= λ y.
    Some (a_ring r t 1 false ws.0, y)

-- the constants of a ring with an index, and what stands behind them
abbrev pub filled_at : List CDef → CTy → List ℕ → ℕ → List ℕ → Option (CRing × List ℕ)
filled_at ds t r n s =
    init_at ds t n s >>= λ ws. behind (codes " };\nstatic uint32_t cp_i_" ++ r ++ codes " = 0U;\n") ws.1 >>= λ y.
    Some (a_ring r t n true ws.0, y)

abbrev pub indexed_at : List CDef → CTy → List ℕ → List ℕ → Option (CRing × List ℕ)
indexed_at ds t r s = number_at s >>= λ n. behind (codes "] = { ") n.1 >>= filled_at ds t r n.0

abbrev pub ring_by : List CDef → CTy → List ℕ → List ℕ → Option (List ℕ) → Option (CRing × List ℕ)
ring_by ds t r s None = single_at ds t r s
ring_by ds t r s (Some x) = indexed_at ds t r x

unfoldable pub ring_lines_at : List CDef → List ℕ → Option (CRing × List ℕ)
ring_lines_at ds s =
    behind (codes "static ") s >>= λ x. type_at x >>= λ t. behind (codes " cp_b_") t.1 >>= λ y. ring_name_at y >>= λ r.
    ring_by ds t.0 r.0 r.1 (behind (codes "[") r.1)

-- ---- the statements

-- the expression of a statement
abbrev pub value_at : List ℕ → Option (Expr × List ℕ)
value_at s = expr_at most_height s

-- ` = E;`
unfoldable pub given_at : List ℕ → Option (Expr × List ℕ)
given_at s = behind (codes " = ") s >>= λ r. value_at r >>= λ e. behind (codes ";\n") e.1 >>= λ x. Some (e.0, x)

abbrev pub copy_at : List ℕ → List ℕ → Option (Stmt × List ℕ)
copy_at x s = if is_name x then behind (codes " = " ++ x ++ codes ";\n") s >>= (λ r. Some (copies x, r)) else None

abbrev pub move_at : List ℕ → List ℕ → Option (Stmt × List ℕ)
move_at r s = if is_ring_name r then given_at s >>= (λ e. Some (moves r e.0, e.1)) else None

abbrev pub store_by : List ℕ → List ℕ → Option (List ℕ) → Option (Stmt × List ℕ)
store_by r s None = behind (codes " = cp_n_" ++ r ++ codes ";\n") s >>= λ x. Some (puts r, x)
store_by r s (Some at) =
    value_at at >>= λ e. behind (codes "] = cp_n_" ++ r ++ codes ";\n") e.1 >>= λ x. Some (stores r e.0, x)

abbrev pub store_at : List ℕ → List ℕ → Option (Stmt × List ℕ)
store_at r s = if is_ring_name r then store_by r s (behind (codes "[") s) else None

-- the rest of a call, behind the brace
abbrev pub called_at : Expr → List ℕ → Option (Stmt × List ℕ)
called_at e s =
    name_at s >>= λ h. behind (codes "(") h.1 >>= λ y. list_at (expr_at most_height) y >>= λ all.
    behind (codes "); }\n") all.1 >>= λ z. Some (calls h.0 e all.0, z)

abbrev pub call_at : List ℕ → Option (Stmt × List ℕ)
call_at s = behind (codes " (") s >>= λ r. value_at r >>= λ e. behind (codes ") { ") e.1 >>= called_at e.0

-- the type that a Next writes: that of the first ring of its name
abbrev pub type_of_ring_in : List CRing → List ℕ → Option CTy
type_of_ring_in rings r = option_map_or (λ x. Some x.ty) (find (λ x. is_same r x.name) rings) None

abbrev pub is_type : CTy → CTy → Bool
is_type (ty.Scalar s) (ty.Scalar t) = is_same (scalar_text s) (scalar_text t)
is_type (ty.Struct x) (ty.Struct y) = is_same x y
is_type (ty.Array x n) (ty.Array y m) = is_same x y && nat_eq n m
is_type _ _ = false

abbrev pub next_of : List CRing → CTy → List ℕ → Option (List ℕ)
next_of rings t r = type_of_ring_in rings r >>= λ k. if is_type t k then Some r else None

-- a Next of this type, from the ring's name on
abbrev pub next_named : List CRing → CTy → List ℕ → Option (Stmt × List ℕ)
next_named rings t s =
    ring_name_at s >>= λ r. next_of rings t r.0 >>= λ y. given_at r.1 >>= λ e. Some (nexts r.0 e.0, e.1)

abbrev pub next_at : List CRing → List ℕ → Option (Stmt × List ℕ)
next_at rings s = type_at s >>= λ t. behind (codes " cp_n_") t.1 >>= next_named rings t.0

abbrev pub by_index : List CRing → Option (List ℕ) → List ℕ → List ℕ → Option (Stmt × List ℕ)
by_index rings (Some r) s rest = move_at r rest
by_index rings None s rest = next_at rings s

abbrev pub by_buffer : List CRing → Option (List ℕ) → List ℕ → List ℕ → List ℕ → Option (Stmt × List ℕ)
by_buffer rings (Some r) s w rest = store_at r rest
by_buffer rings None s w rest = by_index rings (behind (codes "cp_i_") w) s rest

abbrev pub by_copy : List CRing → Option (List ℕ) → List ℕ → List ℕ → List ℕ → Option (Stmt × List ℕ)
by_copy rings (Some x) s w rest = copy_at x rest
by_copy rings None s w rest = by_buffer rings (behind (codes "cp_b_") w) s w rest

abbrev pub statement_by : List CRing → List ℕ → List ℕ → List ℕ → Option (Stmt × List ℕ)
statement_by rings s w rest =
    if is_same w (codes "if") then call_at rest else by_copy rings (behind (codes "cp_c_") w) s w rest

-- a statement, where these are the rings
unfoldable pub statement_at : List CRing → List ℕ → Option (Stmt × List ℕ)
statement_at rings s = behind (codes "  ") s >>= λ r. statement_by rings r (word r) (after_word r)

-- ---- the lines that follow from the header

-- an array's type
abbrev pub array_at : List ℕ → ℕ → List ℕ → Option (List ℕ)
array_at x n s = behind (codes "struct cp_arr_") s >>= behind x >>= behind (codes "_") >>= behind (decimal n)

-- the name of the function that reads an element
abbrev pub pick_name_at : List ℕ → ℕ → List ℕ → Option (List ℕ)
pick_name_at x n s =
    behind (codes "static ") s >>= behind (type_text (elem_type x)) >>= behind (codes " cp_ix_") >>= behind x
    >>= behind (codes "_") >>= behind (decimal n)

abbrev pub pick_at : List ℕ → ℕ → List ℕ → Option (List ℕ)
pick_at x n s =
    pick_name_at x n s >>= behind (codes "(") >>= array_at x n
    >>= behind (codes " cp_a, uint32_t cp_k) { return cp_a.e[cp_k]; }\n")

abbrev pub pick_of : CDef → List ℕ → Option (List ℕ)
pick_of (def.Struct x fields) s = Some s
pick_of (def.Array x n) s = pick_at x n s

abbrev pub copy_of : CVar → List ℕ → Option (List ℕ)
copy_of x s =
    behind (codes "static ") s >>= behind (type_text x.ty) >>= behind (codes " cp_c_") >>= behind x.name >>= behind (codes ";\n")
