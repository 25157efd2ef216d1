-- Two texts spell at most one program.
use Rattle.std.proofs.Common.{arith, ◌≡◌, ℕ, false, List, [], ◌∷◌, ◌++◌, map, Some, refl, sym, ap, ◌∙◌, append_assoc, codes}
use Rattle.std.specs.List.{flat_map}
use Rattle.c99_tree.specs.declared.expr.CExpr.{CExpr}
use Rattle.c99_tree.specs.declared.unit.CStmt.{CStmt}
use Rattle.c99_tree.specs.declared.unit.CStmt.TheVariants as s
use Rattle.c99_tree.specs.declared.unit.Unit.{Unit as CUnit}
use Rattle.c99_tree.specs.Tree.{tree, exprs, Stmt, copies, calls, nexts, stores, moves, puts, statement, statements}
use Rattle.c99_tree.specs.Lookup.{arrays_in}
use Rattle.c99_tree.specs.Spelling.{pick_line, copy_line, ring_lines, statement_line, source_text, HasSpelling, Spells}
use Rattle.c99_read.specs.Front.{behind, begins}
use Rattle.c99_read.specs.declared.heading.Header.{Header}
use Rattle.c99_read.specs.UnitAt.{Source, header_of, known_at, source_of}
use Rattle.c99_read.proofs.FrontFinds.{behind_front, all_find}
use Rattle.c99_read.proofs.RingsFind.{rings}
use Rattle.c99_read.proofs.StatementsFind.{statements_read}
use Rattle.c99_read.proofs.HeaderFinds.{header_in, header_finds}
use Rattle.c99_read.proofs.WordsFind.{same_some}
use Rattle.c99_read.proofs.OneTree.{untree, untrees, back}

-- ---- the source

-- what the source of a program says beside its header
abbrev pub source_in : CUnit → Source
source_in u = record { rings = u.rings; step = statements u }

known_finds : (h : Header) (y : List ℕ) → known_at h ((codes "#include \"" ++ h.name ++ codes ".h\"\n") ++ (flat_map pick_line (arrays_in h.types) ++ (flat_map copy_line h.externs ++ y))) ≡ Some y
unfolding known_at
known_finds h y =
    rw (
      behind_front (codes "#include \"" ++ h.name ++ codes ".h\"\n") (flat_map pick_line (arrays_in h.types) ++ (flat_map copy_line h.externs ++ y)),
      behind_front (flat_map pick_line (arrays_in h.types)) (flat_map copy_line h.externs ++ y),
      behind_front (flat_map copy_line h.externs) y,
    ) refl

pub source_pieces : (a n b l p c r s t d y : List ℕ) → a ++ n ++ b ++ l ++ p ++ c ++ r ++ s ++ t ++ d ++ y ≡ (a ++ n ++ (b ++ l)) ++ (p ++ (c ++ (r ++ ((s ++ t) ++ (d ++ y)))))
source_pieces a n b l p c r s t d y = simp append_assoc

no_ring : (y : List ℕ) → begins (codes "static ") (codes "void step(void)\n{\n" ++ y) ≡ false
unfolding behind
no_ring y = refl

no_statement : begins (codes " ") (codes "}\n") ≡ false
unfolding behind
no_statement = refl

pub source_finds : (u : CUnit) → HasSpelling u → source_of (header_in u) (source_text u) ≡ Some (source_in u)
unfolding source_of
source_finds u h =
    let end : List ℕ = codes "}\n" in
    let steps : List ℕ = flat_map (statement_line u) (statements u) ++ end in
    let open' : List ℕ = codes "void step(void)\n{\n" ++ steps in
    let all : List ℕ = flat_map (ring_lines u.types) u.rings ++ open' in
    let regroup : source_text u ≡ (codes "#include \"" ++ u.name ++ codes ".h\"\n") ++ (flat_map pick_line (arrays_in u.types) ++ (flat_map copy_line u.externs ++ all)) =
    source_pieces (codes "#include \"") u.name (codes ".h\"") (codes "\n") (flat_map pick_line (arrays_in u.types)) (flat_map copy_line u.externs) (flat_map (ring_lines u.types) u.rings)
    (codes "void step(void)\n") (codes "{\n") (flat_map (statement_line u) (statements u)) (codes "}\n") in
    ap (source_of (header_in u)) regroup
    ∙ rw (
      known_finds (header_in u) all,
      all_find (rings u.types) u.rings open' (omega arith) (no_ring steps) refl h.rings,
      behind_front (codes "void step(void)\n{\n") steps,
      all_find (statements_read u h.rings) (statements u) end (omega arith) no_statement refl h.step,
      behind_front end [],
    ) refl

-- ---- statements from their trees

unlist : (all : List CExpr) → untrees (exprs (map tree all)) ≡ all
unlist [] = refl
unlist (e ∷ es) = rw (back e, unlist es) refl

-- the statement of a tree
abbrev pub unstatement : Stmt → CStmt
unstatement (copies x) = s.Copy x
unstatement (calls h g args) = s.Call h (untree g) (untrees args)
unstatement (nexts r e) = s.Next r (untree e)
unstatement (stores r e) = s.Store r (untree e)
unstatement (moves r e) = s.Move r (untree e)
unstatement (puts r) = s.Put r

statement_back : (a : CStmt) → unstatement (statement a) ≡ a
statement_back (s.Copy x) = refl
statement_back (s.Call h g args) = simp (back g, unlist args)
statement_back (s.Next r e) = rw (back e) refl
statement_back (s.Store r e) = rw (back e) refl
statement_back (s.Move r e) = rw (back e) refl
statement_back (s.Put r) = refl

statements_back : (all : List CStmt) → map unstatement (map statement all) ≡ all
statements_back [] = refl
statements_back (a ∷ all) = rw (statement_back a, statements_back all) refl

-- ---- the whole

abbrev pub a_unit : Header → Source → CUnit
a_unit h s = record { name = h.name; types = h.types; storage = h.storage; need = h.need; externs = h.externs; handlers = h.handlers; rings = s.rings; step = map unstatement s.step }

unit_back : (u : CUnit) → a_unit (header_in u) (source_in u) ≡ u
unit_back u = ap (λ (all : List CStmt). record { name = u.name; types = u.types; storage = u.storage; need = u.need; externs = u.externs; handlers = u.handlers; rings = u.rings; step = all }) (statements_back u.step)

pub one_unit : (u v : CUnit) (header source : List ℕ) → Spells u header source → Spells v header source → u ≡ v
one_unit u v header source p q =
    let headers : header_in u ≡ header_in v = same_some (header_in u) (header_in v) (sym (header_finds u p.spelled) ∙ ap header_of (sym p.header_is ∙ q.header_is) ∙ header_finds v q.spelled) in
    let sources : source_in u ≡ source_in v = same_some (source_in u) (source_in v)
    (sym (source_finds u p.spelled) ∙ ap (λ (h : Header). source_of h (source_text u)) headers ∙ ap (source_of (header_in v)) (sym p.source_is ∙ q.source_is) ∙ source_finds v q.spelled) in
    sym (unit_back u) ∙ ap (λ (h : Header). a_unit h (source_in u)) headers ∙ ap (a_unit (header_in v)) sources ∙ unit_back v
