-- The header and the source that are found stand there.
use Rattle.std.proofs.Common.{◌≡◌, ℕ, Bool, true, ◌&&◌, List, [], ◌∷◌, ◌++◌, length, Option, Some, None, inl, inr, refl, sym, ap, subst, ◌∙◌, codes}
use Rattle.std.specs.Prelude.{if◌then◌else◌}
use Rattle.std.specs.Fmt.{decimal}
use Rattle.std.specs.List.{list_all, flat_map}
use Rattle.std.proofs.lemmas.Bool.{and_from, cases_Bool}
use Rattle.sm_io.specs.Words.{is_name}
use Rattle.c99_tree.specs.declared.unit.CRing.{CRing}
use Rattle.c99_tree.specs.declared.unit.Unit.{Unit as CUnit}
use Rattle.c99_tree.specs.Words.{is_same}
use Rattle.c99_tree.specs.Lookup.{arrays_in}
use Rattle.c99_tree.specs.Tree.{Stmt, statements}
use Rattle.c99_tree.specs.Spelling.{type_line, extern_line, handler_line, pick_line, copy_line, ring_lines, statement_line, header_text, source_text, is_u32, is_spelled_def, is_spelled_var, is_spelled_handler, is_spelled_ring, is_spelled_statement, Spells}
use Rattle.c99_read.specs.Front.{◌>>=◌, behind, word, after_word, number_at, all_at, begins}
use Rattle.c99_read.specs.LineAt.{def_at, extern_at, handler_at, is_handler, ring_lines_at, statement_at}
use Rattle.c99_read.specs.declared.heading.Header.{Header}
use Rattle.c99_read.specs.UnitAt.{Source, a_header, one_more, before_end, guard_name_at, top_at, totals_at, whole, header_of, known_at, source_of}
use Rattle.c99_read.proofs.FrontFinds.{behind_is, same_is}
use Rattle.c99_read.proofs.FrontTakes.{bound, paired, step, meet, guarded, word_whole, number_takes, many_takes}
use Rattle.c99_read.proofs.LinesTake.{defs_taken, externs_taken, handlers_taken}
use Rattle.c99_read.proofs.RingsTake.{rings_taken}
use Rattle.c99_read.proofs.StatementsTake.{statements_taken}
use Rattle.c99_read.proofs.HeaderFinds.{header_in, header_pieces, header_finds}
use Rattle.c99_read.proofs.OneUnit.{source_in, source_pieces, source_finds}

-- ---- the header

more_takes : (b : ℕ) (o : Option (List ℕ)) (x : List ℕ) → one_more b o ≡ Some x → (y : List ℕ) × (o ≡ Some y) × (b ∷ y ≡ x)
more_takes b None x h = absurd (cc h)
more_takes b (Some y) x h = (y, refl, cc h)

pub end_takes : (w x : List ℕ) → before_end w ≡ Some x → w ≡ x ++ codes "_H"
unfolding before_end
end_takes [] x h = absurd (cc h)
end_takes (b ∷ bs) x h = elim (cases_Bool (is_same (b ∷ bs) (codes "_H"))) [
  | inl y ↦
      let e : Some [] ≡ Some x = sym (ap (λ (c : Bool). if c then Some [] else one_more b (before_end bs)) y) ∙ h in
      let is : [] ≡ x = cc e in
      same_is (b ∷ bs) (codes "_H") y ∙ ap (λ (z : List ℕ). z ++ codes "_H") is
  | inr n ↦
      let e : one_more b (before_end bs) ≡ Some x = sym (ap (λ (c : Bool). if c then Some [] else one_more b (before_end bs)) n) ∙ h in
      let m = more_takes b (before_end bs) x e in
      ap (λ (z : List ℕ). b ∷ z) (end_takes bs m.0 m.1) ∙ ap (λ (z : List ℕ). z ++ codes "_H") m.2
]

guard_takes : (s x r : List ℕ) → guard_name_at s ≡ Some (x, r) → (s ≡ x ++ codes "_H" ++ r) × (is_name x ≡ true)
unfolding guard_name_at
guard_takes s x r h =
    let b = bound (before_end (word s)) (λ y. if is_name y then Some (y, after_word s) else None) (x, r) h in
    let g = guarded (is_name b.0) (Some (b.0, after_word s)) (x, r) b.2 in
    let p = paired b.0 x (after_word s) r g.1 in
    (word_whole s ∙ meet (word s) (after_word s) (x ++ codes "_H") r (end_takes (word s) b.0 b.1 ∙ ap (λ (z : List ℕ). z ++ codes "_H") p.0) p.1, ap is_name (sym p.0) ∙ g.0)

abbrev guard_lines : List ℕ → List ℕ
guard_lines x = codes "\n#define CP_" ++ x ++ codes "_H\n#include <stdint.h>\n#include <stdbool.h>\n"

top_takes : (s x r : List ℕ) → top_at s ≡ Some (x, r) → (s ≡ codes "#ifndef CP_" ++ (x ++ codes "_H" ++ (guard_lines x ++ r))) × (is_name x ≡ true)
unfolding top_at
top_takes s x r h =
    let a = bound (behind (codes "#ifndef CP_") s) (λ r. guard_name_at r >>= λ x. behind (codes "\n#define CP_" ++ x.0 ++ codes "_H\n#include <stdint.h>\n#include <stdbool.h>\n") x.1 >>= λ t. Some (x.0, t)) (x, r) h in
    let n = bound (guard_name_at a.0) (λ x. behind (codes "\n#define CP_" ++ x.0 ++ codes "_H\n#include <stdint.h>\n#include <stdbool.h>\n") x.1 >>= λ t. Some (x.0, t)) (x, r) a.2 in
    let t = bound (behind (guard_lines n.0.0) n.0.1) (λ t. Some (n.0.0, t)) (x, r) n.2 in
    let p = paired n.0.0 x t.0 r t.2 in
    let g = guard_takes a.0 n.0.0 n.0.1 n.1 in
    let rest : n.0.1 ≡ guard_lines n.0.0 ++ r = behind_is (guard_lines n.0.0) n.0.1 t.0 t.1 ∙ ap (λ (z : List ℕ). guard_lines n.0.0 ++ z) p.1 in
    let all : s ≡ codes "#ifndef CP_" ++ (n.0.0 ++ codes "_H" ++ (guard_lines n.0.0 ++ r)) = step (codes "#ifndef CP_") (behind_is (codes "#ifndef CP_") s a.0 a.1) (step (n.0.0 ++ codes "_H") g.0 rest) in
    (subst (λ (y : List ℕ). s ≡ codes "#ifndef CP_" ++ (y ++ codes "_H" ++ (guard_lines y ++ r))) p.0 all, ap is_name (sym p.0) ∙ g.1)

record Totals (s : List ℕ) (ns : ℕ × ℕ) (r : List ℕ) : Type 0 where
  is : s ≡ codes "enum { cp_storage = " ++ (decimal ns.0 ++ (codes ", cp_need = " ++ (decimal ns.1 ++ (codes " };\n" ++ r))))
  low : (is_u32 ns.0 && is_u32 ns.1) ≡ true

totals_take : (s : List ℕ) (ns : ℕ × ℕ) (r : List ℕ) → totals_at s ≡ Some (ns, r) → Totals s ns r
unfolding totals_at
totals_take s ns r h =
    let a = bound (behind (codes "enum { cp_storage = ") s) (λ r. number_at r >>= λ a. behind (codes ", cp_need = ") a.1 >>= λ t. number_at t >>= λ b. behind (codes " };\n") b.1 >>= λ x. Some ((a.0, b.0), x)) (ns, r) h in
    let m = bound (number_at a.0) (λ a. behind (codes ", cp_need = ") a.1 >>= λ t. number_at t >>= λ b. behind (codes " };\n") b.1 >>= λ x. Some ((a.0, b.0), x)) (ns, r) a.2 in
    let t = bound (behind (codes ", cp_need = ") m.0.1) (λ t. number_at t >>= λ b. behind (codes " };\n") b.1 >>= λ x. Some ((m.0.0, b.0), x)) (ns, r) m.2 in
    let n = bound (number_at t.0) (λ b. behind (codes " };\n") b.1 >>= λ x. Some ((m.0.0, b.0), x)) (ns, r) t.2 in
    let y = bound (behind (codes " };\n") n.0.1) (λ x. Some ((m.0.0, n.0.0), x)) (ns, r) n.2 in
    let p = paired (m.0.0, n.0.0) ns y.0 r y.2 in
    let j = number_takes a.0 m.0.0 m.0.1 m.1 in
    let k = number_takes t.0 n.0.0 n.0.1 n.1 in
    subst (λ (q : ℕ × ℕ). Totals s q r) p.0 (record {
      is = step (codes "enum { cp_storage = ") (behind_is (codes "enum { cp_storage = ") s a.0 a.1) (step (decimal m.0.0) j.0 (step (codes ", cp_need = ") (behind_is (codes ", cp_need = ") m.0.1 t.0 t.1)
          (step (decimal n.0.0) k.0 (behind_is (codes " };\n") n.0.1 y.0 y.1 ∙ ap (λ (z : List ℕ). codes " };\n" ++ z) p.1))));
      low = and_from (is_u32 m.0.0) (is_u32 n.0.0) j.1 k.1;
    })

pub whole_takes : {A : Type 0} (a b : A) (s : List ℕ) → whole a s ≡ Some b → (a ≡ b) × (s ≡ [])
whole_takes a b [] h = (cc h, refl)
whole_takes a b (c ∷ s) h = absurd (cc h)

-- this text is the header of each program that has it, and what it says is spelled
pub record HeaderGood (s : List ℕ) (h : Header) : Type 0 where
  pub is : (u : CUnit) → header_in u ≡ h → s ≡ header_text u
  pub name : is_name h.name ≡ true
  pub numbers : (is_u32 h.storage && is_u32 h.need) ≡ true
  pub types : list_all is_spelled_def h.types ≡ true
  pub externs : list_all is_spelled_var h.externs ≡ true
  pub handlers : list_all is_spelled_handler h.handlers ≡ true

-- the header of programs that say this
abbrev header_of_said : Header → List ℕ
header_of_said h = header_text (record { name = h.name; types = h.types; storage = h.storage; need = h.need; externs = h.externs; handlers = h.handlers; rings = []; step = [] })

pub header_takes : (s : List ℕ) (h : Header) → header_of s ≡ Some h → HeaderGood s h
unfolding header_of
header_takes s h e =
    let x = bound (top_at s) (λ x. totals_at x.1 >>= λ ns. all_at (begins (codes "struct ")) def_at ns.1 >>= λ ds. all_at (begins (codes "extern ")) extern_at ds.1 >>= λ vs. all_at is_handler handler_at vs.1 >>= λ hs. behind (codes "void step(void);\n#endif\n") hs.1 >>= whole (a_header x.0 ns.0 ds.0 vs.0 hs.0)) h e in
    let n = bound (totals_at x.0.1) (λ ns. all_at (begins (codes "struct ")) def_at ns.1 >>= λ ds. all_at (begins (codes "extern ")) extern_at ds.1 >>= λ vs. all_at is_handler handler_at vs.1 >>= λ hs. behind (codes "void step(void);\n#endif\n") hs.1 >>= whole (a_header x.0.0 ns.0 ds.0 vs.0 hs.0)) h x.2 in
    let d = bound (all_at (begins (codes "struct ")) def_at n.0.1) (λ ds. all_at (begins (codes "extern ")) extern_at ds.1 >>= λ vs. all_at is_handler handler_at vs.1 >>= λ hs. behind (codes "void step(void);\n#endif\n") hs.1 >>= whole (a_header x.0.0 n.0.0 ds.0 vs.0 hs.0)) h n.2 in
    let v = bound (all_at (begins (codes "extern ")) extern_at d.0.1) (λ vs. all_at is_handler handler_at vs.1 >>= λ hs. behind (codes "void step(void);\n#endif\n") hs.1 >>= whole (a_header x.0.0 n.0.0 d.0.0 vs.0 hs.0)) h d.2 in
    let k = bound (all_at is_handler handler_at v.0.1) (λ hs. behind (codes "void step(void);\n#endif\n") hs.1 >>= whole (a_header x.0.0 n.0.0 d.0.0 v.0.0 hs.0)) h v.2 in
    let y = bound (behind (codes "void step(void);\n#endif\n") k.0.1) (whole (a_header x.0.0 n.0.0 d.0.0 v.0.0 k.0.0)) h k.2 in
    let w = whole_takes (a_header x.0.0 n.0.0 d.0.0 v.0.0 k.0.0) h y.0 y.2 in
    let tx = top_takes s x.0.0 x.0.1 x.1 in
    let tn = totals_take x.0.1 n.0.0 n.0.1 n.1 in
    let td = many_takes (begins (codes "struct ")) defs_taken (length n.0.1) n.0.1 d.0.0 d.0.1 d.1 in
    let tv = many_takes (begins (codes "extern ")) externs_taken (length d.0.1) d.0.1 v.0.0 v.0.1 v.1 in
    let tk = many_takes is_handler handlers_taken (length v.0.1) v.0.1 k.0.0 k.0.1 k.1 in
    let end : k.0.1 ≡ codes "void step(void);\n#endif\n" = behind_is (codes "void step(void);\n#endif\n") k.0.1 y.0 y.1 ∙ ap (λ (z : List ℕ). codes "void step(void);\n#endif\n" ++ z) w.1 in
    let lines : n.0.1 ≡ flat_map type_line d.0.0 ++ (flat_map extern_line v.0.0 ++ (flat_map handler_line k.0.0 ++ codes "void step(void);\n#endif\n")) =
    step (flat_map type_line d.0.0) td.0 (step (flat_map extern_line v.0.0) tv.0 (step (flat_map handler_line k.0.0) tk.0 end)) in
    subst (λ (q : Header). HeaderGood s q) w.0 (record {
      is = λ u same. tx.0 ∙ ap (λ (z : List ℕ). codes "#ifndef CP_" ++ (x.0.0 ++ codes "_H" ++ (guard_lines x.0.0 ++ z)))
          (tn.is ∙ ap (λ (z : List ℕ). codes "enum { cp_storage = " ++ (decimal n.0.0.0 ++ (codes ", cp_need = " ++ (decimal n.0.0.1 ++ (codes " };\n" ++ z))))) lines)
          ∙ sym (header_pieces (codes "#ifndef CP_") x.0.0 (codes "_H") (codes "\n") (codes "#define CP_") (codes "#include <stdint.h>\n") (codes "#include <stdbool.h>\n") (codes "enum { cp_storage = ") (decimal n.0.0.0) (codes ", cp_need = ") (decimal n.0.0.1) (codes " };")
          (flat_map type_line d.0.0) (flat_map extern_line v.0.0) (flat_map handler_line k.0.0) (codes "void step(void);\n") (codes "#endif\n"))
          ∙ sym (ap header_of_said same);
      name = tx.1;
      numbers = tn.low;
      types = td.1;
      externs = tv.1;
      handlers = tk.1;
    })

-- ---- the source

known_takes : (h : Header) (s r : List ℕ) → known_at h s ≡ Some r → s ≡ (codes "#include \"" ++ h.name ++ codes ".h\"\n") ++ (flat_map pick_line (arrays_in h.types) ++ (flat_map copy_line h.externs ++ r))
unfolding known_at
known_takes h s r e =
    let b = bound (behind (codes "#include \"" ++ h.name ++ codes ".h\"\n") s >>= behind (flat_map pick_line (arrays_in h.types))) (behind (flat_map copy_line h.externs)) r e in
    let a = bound (behind (codes "#include \"" ++ h.name ++ codes ".h\"\n") s) (behind (flat_map pick_line (arrays_in h.types))) b.0 b.1 in
    step (codes "#include \"" ++ h.name ++ codes ".h\"\n") (behind_is (codes "#include \"" ++ h.name ++ codes ".h\"\n") s a.0 a.1) (step (flat_map pick_line (arrays_in h.types)) (behind_is (flat_map pick_line (arrays_in h.types)) a.0 b.0 a.2) (behind_is (flat_map copy_line h.externs) b.0 r b.2))

both_named : (f : List CRing → List ℕ) (g : List Stmt → List ℕ) (rs qs : List CRing) (as' bs : List Stmt) → rs ≡ qs → as' ≡ bs → f rs ++ (codes "void step(void)\n{\n" ++ (g as' ++ codes "}\n")) ≡ f qs ++ (codes "void step(void)\n{\n" ++ (g bs ++ codes "}\n"))
both_named f g rs qs as' bs p q = rw (p, q) refl

-- of a program whose header and rings are read, the rest of the source
source_of_unit : (u : CUnit) (s : List ℕ) (all : List Stmt) → source_of (header_in u) s ≡ Some (record { rings = u.rings; step = all }) →
    (statements u ≡ all → s ≡ source_text u) × (list_all (is_spelled_ring u.types) u.rings ≡ true) × (list_all (is_spelled_statement u) all ≡ true)
unfolding source_of
source_of_unit u s all e =
    let h = header_in u in
    let x = bound (known_at h s) (λ x. all_at (begins (codes "static ")) (ring_lines_at h.types) x >>= λ rs. behind (codes "void step(void)\n{\n") rs.1 >>= λ t. all_at (begins (codes " ")) (statement_at rs.0) t >>= λ l. behind (codes "}\n") l.1 >>= whole (record { rings = rs.0; step = l.0 })) (record { rings = u.rings; step = all }) e in
    let r = bound (all_at (begins (codes "static ")) (ring_lines_at h.types) x.0) (λ rs. behind (codes "void step(void)\n{\n") rs.1 >>= λ t. all_at (begins (codes " ")) (statement_at rs.0) t >>= λ l. behind (codes "}\n") l.1 >>= whole (record { rings = rs.0; step = l.0 })) (record { rings = u.rings; step = all }) x.2 in
    let t = bound (behind (codes "void step(void)\n{\n") r.0.1) (λ t. all_at (begins (codes " ")) (statement_at r.0.0) t >>= λ l. behind (codes "}\n") l.1 >>= whole (record { rings = r.0.0; step = l.0 })) (record { rings = u.rings; step = all }) r.2 in
    let l = bound (all_at (begins (codes " ")) (statement_at r.0.0) t.0) (λ l. behind (codes "}\n") l.1 >>= whole (record { rings = r.0.0; step = l.0 })) (record { rings = u.rings; step = all }) t.2 in
    let y = bound (behind (codes "}\n") l.0.1) (whole (record { rings = r.0.0; step = l.0.0 })) (record { rings = u.rings; step = all }) l.2 in
    let w = whole_takes (record { rings = r.0.0; step = l.0.0 }) (record { rings = u.rings; step = all }) y.0 y.2 in
    let rings-are : r.0.0 ≡ u.rings = ap (λ (q : Source). q.rings) w.0 in
    let steps-are : l.0.0 ≡ all = ap (λ (q : Source). q.step) w.0 in
    let found : all_at (begins (codes " ")) (statement_at u.rings) t.0 ≡ Some (l.0.0, l.0.1) = ap (λ (rs : List CRing). all_at (begins (codes " ")) (statement_at rs) t.0) (sym rings-are) ∙ l.1 in
    let tk = known_takes h s x.0 x.1 in
    let tr = many_takes (begins (codes "static ")) (rings_taken u.types) (length x.0) x.0 r.0.0 r.0.1 r.1 in
    let tl = many_takes (begins (codes " ")) (statements_taken u) (length t.0) t.0 l.0.0 l.0.1 found in
    let end : l.0.1 ≡ codes "}\n" = behind_is (codes "}\n") l.0.1 y.0 y.1 ∙ ap (λ (z : List ℕ). codes "}\n" ++ z) w.1 in
    let lines : x.0 ≡ flat_map (ring_lines u.types) r.0.0 ++ (codes "void step(void)\n{\n" ++ (flat_map (statement_line u) l.0.0 ++ codes "}\n")) =
    step (flat_map (ring_lines u.types) r.0.0) tr.0 (step (codes "void step(void)\n{\n") (behind_is (codes "void step(void)\n{\n") r.0.1 t.0 t.1) (step (flat_map (statement_line u) l.0.0) tl.0 end)) in
    let named : x.0 ≡ flat_map (ring_lines u.types) u.rings ++ (codes "void step(void)\n{\n" ++ (flat_map (statement_line u) all ++ codes "}\n")) =
    lines ∙ both_named (flat_map (ring_lines u.types)) (flat_map (statement_line u)) r.0.0 u.rings l.0.0 all rings-are steps-are in (
      (λ is. tk ∙ ap (λ (z : List ℕ). (codes "#include \"" ++ u.name ++ codes ".h\"\n") ++ (flat_map pick_line (arrays_in u.types) ++ (flat_map copy_line u.externs ++ z)))
          (named ∙ ap (λ (a : List Stmt). flat_map (ring_lines u.types) u.rings ++ (codes "void step(void)\n{\n" ++ (flat_map (statement_line u) a ++ codes "}\n"))) (sym is))
          ∙ sym (source_pieces (codes "#include \"") u.name (codes ".h\"") (codes "\n") (flat_map pick_line (arrays_in u.types)) (flat_map copy_line u.externs) (flat_map (ring_lines u.types) u.rings)
          (codes "void step(void)\n") (codes "{\n") (flat_map (statement_line u) (statements u)) (codes "}\n"))),
      ap (list_all (is_spelled_ring u.types)) (sym rings-are) ∙ tr.1,
      ap (list_all (is_spelled_statement u)) (sym steps-are) ∙ tl.1,
    )

-- ---- both

-- what is read of two texts is what they spell
pub spells : (u : CUnit) (h s : List ℕ) → header_of h ≡ Some (header_in u) → source_of (header_in u) s ≡ Some (source_in u) → Spells u h s
spells u h s e f =
    let a = header_takes h (header_in u) e in
    let b = source_of_unit u s (statements u) f in
    record {
      spelled = record { name = a.name; numbers = a.numbers; types = a.types; externs = a.externs; handlers = a.handlers; rings = b.1; step = b.2 };
      header_is = a.is u refl;
      source_is = b.0 refl;
    }

-- what two texts spell is read of them
pub read_header : (u : CUnit) (h s : List ℕ) → Spells u h s → header_of h ≡ Some (header_in u)
read_header u h s p = ap header_of p.header_is ∙ header_finds u p.spelled

pub read_source : (u : CUnit) (h s : List ℕ) → Spells u h s → source_of (header_in u) s ≡ Some (source_in u)
read_source u h s p = ap (source_of (header_in u)) p.source_is ∙ source_finds u p.spelled

-- a header that is read is that of a program
pub header_has_program : (h : List ℕ) (q : Header) → header_of h ≡ Some q → (u : CUnit) × (s : List ℕ) × Spells u h s
header_has_program h q e =
    let a = header_takes h q e in
    let u : CUnit = record { name = q.name; types = q.types; storage = q.storage; need = q.need; externs = q.externs; handlers = q.handlers; rings = []; step = [] } in (
      u,
      source_text u,
      record {
        spelled = record { name = a.name; numbers = a.numbers; types = a.types; externs = a.externs; handlers = a.handlers; rings = refl; step = refl };
        header_is = a.is u refl;
        source_is = refl;
      },
    )
