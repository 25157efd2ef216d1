-- Reading a header and a source.
use Rattle.std.specs.Prelude.{ℕ, if◌then◌else◌, List, [], ◌∷◌, ◌++◌, codes, map, Option, Some, None}
use Rattle.std.specs.List.{flat_map}
use Rattle.sm_io.specs.Words.{is_name}
use Rattle.c99_tree.specs.declared.types.CVar.{CVar}
use Rattle.c99_tree.specs.declared.types.CDef.{CDef}
use Rattle.c99_tree.specs.declared.types.CProto.{CProto}
use Rattle.c99_tree.specs.declared.unit.CRing.{CRing}
use Rattle.c99_tree.specs.declared.unit.CStmt.{CStmt}
use Rattle.c99_tree.specs.declared.unit.Unit.{Unit as CUnit}
use Rattle.c99_tree.specs.Words.{is_same}
use Rattle.c99_tree.specs.Lookup.{arrays_in}
use Rattle.c99_tree.specs.Tree.{Expr, Stmt, statement}
use Rattle.c99_tree.specs.Spelling.{pick_line, copy_line, most_height}
use Rattle.c99_read.specs.declared.heading.Header.{Header}
use Rattle.c99_read.specs.Front.{◌>>=◌, behind, word, after_word, number_at, all_at, begins}
use Rattle.c99_read.specs.ExprAt.{expr_at}
use Rattle.c99_read.specs.LineAt.{def_at, extern_at, handler_at, is_handler, ring_lines_at, statement_at}

-- nothing is left
abbrev pub whole : {A : Type 0} → A → List ℕ → Option A
whole a [] = Some a
whole a (b ∷ bs) = None

-- the expression that is the whole text
abbrev pub all_of : List ℕ → Option Expr
all_of s = expr_at most_height s >>= λ a. whole a.0 a.1

-- what a source says beside its header
pub record Source : Type 0 where
  pub rings : List CRing
  pub step : List Stmt

-- what stands before the last `_H`
abbrev pub one_more : ℕ → Option (List ℕ) → Option (List ℕ)
one_more b None = None
one_more b (Some x) = Some (b ∷ x)

unfoldable pub before_end : List ℕ → Option (List ℕ)
before_end [] = None
before_end (b ∷ bs) = if is_same (b ∷ bs) (codes "_H") then Some [] else one_more b (before_end bs)

unfoldable pub guard_name_at : List ℕ → Option (List ℕ × List ℕ)
guard_name_at s = before_end (word s) >>= λ x. if is_name x then Some (x, after_word s) else None

unfoldable pub top_at : List ℕ → Option (List ℕ × List ℕ)
top_at s =
    behind (codes "#ifndef CP_") s >>= λ r. guard_name_at r >>= λ x.
    behind (codes "\n#define CP_" ++ x.0 ++ codes "_H\n#include <stdint.h>\n#include <stdbool.h>\n") x.1 >>= λ t. Some (x.0, t)

unfoldable pub totals_at : List ℕ → Option ((ℕ × ℕ) × List ℕ)
totals_at s =
    behind (codes "enum { cp_storage = ") s >>= λ r. number_at r >>= λ a. behind (codes ", cp_need = ") a.1 >>= λ t.
    number_at t >>= λ b. behind (codes " };\n") b.1 >>= λ x. Some ((a.0, b.0), x)

abbrev pub a_header : List ℕ → ℕ × ℕ → List CDef → List CVar → List CProto → Header
a_header x ns ds vs hs =
    record { name = x; storage = ns.0; need = ns.1; types = ds; externs = vs; handlers = hs }

-- the end of a header with these parts
abbrev pub ended : Header → List ℕ → Option Header
ended h s = behind (codes "void step(void);\n#endif\n") s >>= whole h

-- what stands behind the totals
abbrev pub declared_at : List ℕ → ℕ × ℕ → List ℕ → Option Header
declared_at x ns s =
    all_at (begins (codes "struct ")) def_at s >>= λ ds. all_at (begins (codes "extern ")) extern_at ds.1 >>= λ vs.
    all_at is_handler handler_at vs.1 >>= λ hs. ended (a_header x ns ds.0 vs.0 hs.0) hs.1

unfoldable pub header_of : List ℕ → Option Header
header_of s = top_at s >>= λ x. totals_at x.1 >>= λ ns. declared_at x.0 ns.0 ns.1

-- the lines that follow from the header
unfoldable pub known_at : Header → List ℕ → Option (List ℕ)
known_at h s =
    behind (codes "#include \"" ++ h.name ++ codes ".h\"\n") s >>= behind (flat_map pick_line (arrays_in h.types))
    >>= behind (flat_map copy_line h.externs)

-- the statements and the end of a source with these rings
abbrev pub step_at : List CRing → List ℕ → Option Source
step_at rs s =
    all_at (begins (codes " ")) (statement_at rs) s >>= λ all. behind (codes "}\n") all.1
    >>= whole (record { rings = rs; step = all.0 })

unfoldable pub source_of : Header → List ℕ → Option Source
source_of h s =
    known_at h s >>= λ x. all_at (begins (codes "static ")) (ring_lines_at h.types) x >>= λ rs.
    behind (codes "void step(void)\n{\n") rs.1 >>= step_at rs.0

-- what the code keeps of a source
abbrev pub kept : List CRing × List CStmt → Source
kept p = record { rings = p.0; step = map statement p.1 }

-- what a program's texts say of it
abbrev pub said : CUnit → Header
said u = a_header u.name (u.storage, u.need) u.types u.externs u.handlers

abbrev pub said_by_source : CUnit → Source
said_by_source u = record { rings = u.rings; step = map statement u.step }
