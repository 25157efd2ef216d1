-- A header is read as it was written.
use Rattle.std.proofs.Common.{◌≡◌, ℕ, true, false, List, [], ◌∷◌, ◌++◌, length, Some, refl, ap, ◌∙◌, append_assoc, length-append, codes, arith}
use Rattle.std.specs.Fmt.{decimal}
use Rattle.std.specs.List.{flat_map}
use Rattle.std.proofs.lemmas.Bool.{and_parts}
use Rattle.sm_io.specs.Words.{is_name}
use Rattle.c99_tree.specs.declared.types.CVar.{CVar}
use Rattle.c99_tree.specs.declared.types.CProto.{CProto}
use Rattle.c99_tree.specs.declared.unit.Unit.{Unit as CUnit}
use Rattle.c99_tree.specs.Spelling.{type_line, extern_line, handler_line, header_text, HasSpelling, is_u32}
use Rattle.c99_read.specs.Front.{behind, word, begins}
use Rattle.c99_read.specs.LineAt.{is_handler}
use Rattle.c99_read.specs.declared.heading.Header.{Header}
use Rattle.c99_read.specs.UnitAt.{a_header, before_end, guard_name_at, top_at, totals_at, header_of}
use Rattle.c99_read.proofs.FrontFinds.{not_same, behind_front, all_word-append, word_front, after_word_front, name_word, number_finds, all_find}
use Rattle.c99_read.proofs.LinesFind.{defs, externs, handlers}

-- what the header of a program says
abbrev pub header_in : CUnit → Header
header_in u = a_header u.name (u.storage, u.need) u.types u.externs u.handlers

pub before_end-is : (x : List ℕ) → before_end (x ++ codes "_H") ≡ Some x
unfolding before_end
before_end-is [] = refl
before_end-is (b ∷ x) =
    let long = not_same (b ∷ (x ++ codes "_H")) (codes "_H") (λ e. absurd (omega (arith, ap length e, length-append x (codes "_H")))) in
    rw (long, before_end-is x) refl

top_finds : (x y : List ℕ) → is_name x ≡ true
    → top_at (codes "#ifndef CP_" ++ (x ++ codes "_H" ++ ((codes "\n#define CP_" ++ x ++ codes "_H\n#include <stdint.h>\n#include <stdbool.h>\n") ++ y))) ≡ Some (x, y)
unfolding top_at guard_name_at behind
top_finds x y h =
    let rest : List ℕ = codes "\n#define CP_" ++ x ++ codes "_H\n#include <stdint.h>\n#include <stdbool.h>\n" in
    let w = all_word-append x (codes "_H") (name_word x h) refl in
    rw (word_front (x ++ codes "_H") (rest ++ y) w refl, after_word_front (x ++ codes "_H") (rest ++ y) w refl, before_end-is x, h, behind_front rest y) refl

totals_find : (a b : ℕ) (y : List ℕ) → is_u32 a ≡ true → is_u32 b ≡ true → totals_at (codes "enum { cp_storage = " ++ (decimal a ++ (codes ", cp_need = " ++ (decimal b ++ (codes " };\n" ++ y))))) ≡ Some ((a, b), y)
unfolding totals_at behind
totals_find a b y h k = rw (number_finds a (codes ", cp_need = " ++ (decimal b ++ (codes " };\n" ++ y))) h refl, number_finds b (codes " };\n" ++ y) k refl) refl

-- where the lines of one kind end, those of a later kind begin
abbrev last : List ℕ
last = codes "void step(void);\n#endif\n"

no_extern : (hs : List CProto) → begins (codes "extern ") (flat_map handler_line hs ++ last) ≡ false
unfolding behind
no_extern [] = refl
no_extern (h ∷ hs) = refl

no_def : (vs : List CVar) (hs : List CProto) → begins (codes "struct ") (flat_map extern_line vs ++ (flat_map handler_line hs ++ last)) ≡ false
unfolding behind
no_def [] [] = refl
no_def [] (h ∷ hs) = refl
no_def (v ∷ vs) hs = refl

no_handler : is_handler last ≡ false
unfolding behind word
no_handler = refl

pub header_pieces : (a n h l b i j c d e f g t x p q r : List ℕ) →
    a ++ n ++ h ++ l ++ (b ++ n ++ h ++ l) ++ i ++ j ++ (c ++ d ++ e ++ f ++ g ++ l) ++ t ++ x ++ p ++ q ++ r
    ≡ a ++ (n ++ h ++ (((l ++ b) ++ n ++ (h ++ l ++ i ++ j)) ++ (c ++ (d ++ (e ++ (f ++ ((g ++ l) ++ (t ++ (x ++ (p ++ (q ++ r)))))))))))
header_pieces a n h l b i j c d e f g t x p q r = simp append_assoc

pub header_finds : (u : CUnit) → HasSpelling u → header_of (header_text u) ≡ Some (header_in u)
unfolding header_of
header_finds u s =
    let n = and_parts (is_u32 u.storage) (is_u32 u.need) s.numbers in
    let end : List ℕ = codes "void step(void);\n#endif\n" in
    let hs : List ℕ = flat_map handler_line u.handlers ++ end in
    let vs : List ℕ = flat_map extern_line u.externs ++ hs in
    let ds : List ℕ = flat_map type_line u.types ++ vs in
    let long_hs = length-append (flat_map handler_line u.handlers) end in
    let long_vs = length-append (flat_map extern_line u.externs) hs in
    let tail : List ℕ = codes "enum { cp_storage = " ++ (decimal u.storage ++ (codes ", cp_need = " ++ (decimal u.need ++ (codes " };\n" ++ ds)))) in
    let regroup : header_text u ≡ codes "#ifndef CP_" ++ (u.name ++ codes "_H" ++ ((codes "\n#define CP_" ++ u.name ++ codes "_H\n#include <stdint.h>\n#include <stdbool.h>\n") ++ tail)) =
    header_pieces (codes "#ifndef CP_") u.name (codes "_H") (codes "\n") (codes "#define CP_") (codes "#include <stdint.h>\n") (codes "#include <stdbool.h>\n") (codes "enum { cp_storage = ") (decimal u.storage) (codes ", cp_need = ") (decimal u.need) (codes " };")
    (flat_map type_line u.types) (flat_map extern_line u.externs) (flat_map handler_line u.handlers) (codes "void step(void);\n") (codes "#endif\n") in
    ap header_of regroup
    ∙ rw (top_finds u.name tail s.name, totals_find u.storage u.need ds n.0 n.1, all_find defs u.types vs (omega (arith, long_vs)) (no_def u.externs u.handlers) refl s.types, all_find externs u.externs hs (omega (arith, long_hs)) (no_extern u.handlers) refl s.externs, all_find handlers u.handlers end (omega arith) no_handler refl s.handlers, behind_front end []) refl
