-- Declarations and whole forests without a fault are those that their nodes hold, and keep the table.
use Rattle.std.proofs.Common.{◌≡◌, ℕ, ◌==◌, ◌&&◌, Bool, true, false, nat_le, List, [], map, Option, Some, None, refl, ap, sym, ◌∙◌, subst}
use Rattle.std.specs.Prelude.{◌||◌, codes, bytes_eq, if◌then◌else◌}
use Rattle.std.specs.Option.{option_map}
use Rattle.std.proofs.lemmas.Bool.{and_from}
use Rattle.sm_io.specs.Words.{is_name}
use Rattle.spec_forest.specs.Node.{Node, Nodes, atom, list, forest_nodes}
use Rattle.spec_forest.specs.Node.{none as no_node, more as more_node}
use Rattle.spec_forest.specs.declared.tree.Forest.{Forest}
use Rattle.spec_text.specs.declared.surface.Surface.{Surface}
use Rattle.spec_words.specs.declared.head.DeclHead.{DeclHead}
use Rattle.spec_words.specs.declared.head.DeclHead.TheVariants as decl
use Rattle.spec_words.specs.Words.{decl_word, decl_head, version_of, spec_word}
use Rattle.spec_words.proofs.WordLaws.{found_decl, found_version}
use Rattle.spec_text.specs.Form.{word, form_of, form_of_const, form_of_expr, form_of_field, form_of_decl, forms, form, none, more, Matches, AllMatch, IsSurfaceOf}
use Rattle.spec_text.specs.KeepsTable.{all_kept, kept_from, keeps_name, keeps_type, keeps_const, keeps_expr, keeps_field, keeps_decl, keeps_table, KeepsTable}
use Rattle.spec_text.specs.Shape.{bad_form, bad_name, Items, top, extra, declaration, field, initial, name, ty, constant, expression, count, most_initial, unless, decl_items, spec_items, headed_items, shape_fault}
use Rattle.spec_text.specs.FirstFault.{or_else, fault_in, fault_among, faults_of, top_fault}
use Rattle.spec_text.specs.Holds.{Holds, HoldsDecl, HoldsForm}
use Rattle.spec_text.proofs.Orders.{top_is}
use Rattle.spec_text.proofs.Counts.{kept_count}
use Rattle.spec_text.proofs.Heads.{holds_list}
use Rattle.spec_text.proofs.Read.{first, behind, each_in, name_in, text_in, type_in, const_in, expr_in, field_in, initial_in, decl_in, decl_list}
use Rattle.spec_text.proofs.Held.{or-parts, first-fine, unless-none, Held, each-held, several, every, name-held, type-held, const-held}
use Rattle.spec_text.proofs.HeldExprs.{expr-held}

-- ---- fields and initial values

field-held : (x : Node) → Held field form_of_field keeps_field field_in x
field-held (atom at text) e = absurd (cc)
field-held (list at no_node) e = absurd (cc)
field-held (list at (more_node x no_node)) e = absurd (cc)
field-held (list at (more_node x (more_node y (more_node z zs)))) e = absurd (cc)
field-held (list at (more_node x (more_node y no_node))) e =
    let q = or-parts (fault_in name x) (or_else (fault_in ty y) None) e in
    let n = name-held x q.0 in
    let t = type-held y (first-fine (fault_in ty y) None q.1) in
    ((refl, (n.0, (t.0, tt))), and_from (keeps_name (name_in x)) (keeps_type (type_in y)) n.1 t.1)

initial-held : (version : ℕ) (x : Node) → fault_in (initial version) x ≡ None → Matches (form None (forms (map form_of_const (initial_in x)))) x × (kept_from 1 (most_initial version) (map keeps_const (initial_in x)) ≡ true)
initial-held version (atom at text) e = absurd (cc)
initial-held version (list at ps) e =
    let s = several at 1 (most_initial version) constant form_of_const keeps_const const_in ps (every const-held ps) e in
    ((tt, s.0.0), s.1)

-- ---- declarations

abbrev ListHeld : ℕ → ℕ → DeclHead → Nodes → Type 0
ListHeld version at h ps = faults_of at (decl_items version h) ps ≡ None → HoldsForm form_of_decl (keeps_decl version) at (decl_word h) ps (decl_list at (Some h) ps)

struct-held : (version at : ℕ) (ps : Nodes) → ListHeld version at decl.Struct ps
struct-held version at no_node e = absurd (cc)
struct-held version at (more_node x ps) e =
    let q = or-parts (unless (nat_le 1 (count ps) && nat_le (count ps) 64) (bad_form at)) (or_else (fault_in name x) (fault_among [] field ps)) e in
    let r = or-parts (fault_in name x) (fault_among [] field ps) q.1 in
    let n = name-held x r.0 in
    let items = each-held field form_of_field keeps_field field_in ps (every field-held ps) r.1 in
    let few = kept_count 1 64 ps (map keeps_field (each_in field_in ps)) (unless-none (nat_le 1 (count ps) && nat_le (count ps) 64) (bad_form at) q.0) items.1 items.2 in
    ((refl, refl, (n.0, items.0)), and_from (keeps_name (name_in x)) (kept_from 1 64 (map keeps_field (each_in field_in ps))) n.1 few)

extern-held : (version at : ℕ) (ps : Nodes) → ListHeld version at decl.Extern ps
extern-held version at no_node e = absurd (cc)
extern-held version at (more_node x no_node) e = absurd (cc)
extern-held version at (more_node x (more_node y (more_node z zs))) e = absurd (cc)
extern-held version at (more_node x (more_node y no_node)) e =
    let q = or-parts (fault_in name x) (or_else (fault_in ty y) None) e in
    let n = name-held x q.0 in
    let t = type-held y (first-fine (fault_in ty y) None q.1) in
    ((refl, refl, (n.0, (t.0, tt))), and_from (keeps_name (name_in x)) (keeps_type (type_in y)) n.1 t.1)

stream-held : (version at : ℕ) (ps : Nodes) → ListHeld version at decl.Stream ps
stream-held version at no_node e = absurd (cc)
stream-held version at (more_node x no_node) e = absurd (cc)
stream-held version at (more_node x (more_node y no_node)) e = absurd (cc)
stream-held version at (more_node x (more_node y (more_node z no_node))) e = absurd (cc)
stream-held version at (more_node x (more_node y (more_node z (more_node w (more_node v vs))))) e = absurd (cc)
stream-held version at (more_node x (more_node y (more_node z (more_node w no_node)))) e =
    let q = or-parts (fault_in name x) (or_else (fault_in ty y) (or_else (fault_in (initial version) z) (or_else (fault_in expression w) None))) e in
    let r = or-parts (fault_in ty y) (or_else (fault_in (initial version) z) (or_else (fault_in expression w) None)) q.1 in
    let s = or-parts (fault_in (initial version) z) (or_else (fault_in expression w) None) r.1 in
    let n = name-held x q.0 in
    let t = type-held y r.0 in
    let i = initial-held version z s.0 in
    let a = expr-held w (first-fine (fault_in expression w) None s.1) in
    let kept = kept_from 1 (most_initial version) (map keeps_const (initial_in z)) in (
      (refl, refl, (n.0, (t.0, (i.0, (a.0, tt))))),
      and_from (keeps_name (name_in x) && keeps_type (type_in y) && kept) (keeps_expr (expr_in w))
          (and_from (keeps_name (name_in x) && keeps_type (type_in y)) kept (and_from (keeps_name (name_in x)) (keeps_type (type_in y)) n.1 t.1) i.1) a.1,
    )

def-held : (version at : ℕ) (ps : Nodes) → ListHeld version at decl.Def ps
def-held version at no_node e = absurd (cc)
def-held version at (more_node x no_node) e = absurd (cc)
def-held version at (more_node x (more_node y no_node)) e = absurd (cc)
def-held version at (more_node x (more_node y (more_node z (more_node w ws)))) e = absurd (cc)
def-held version at (more_node x (more_node y (more_node z no_node))) e =
    let q = or-parts (fault_in name x) (or_else (fault_in ty y) (or_else (fault_in expression z) None)) e in
    let r = or-parts (fault_in ty y) (or_else (fault_in expression z) None) q.1 in
    let n = name-held x q.0 in
    let t = type-held y r.0 in
    let a = expr-held z (first-fine (fault_in expression z) None r.1) in (
      (refl, refl, (n.0, (t.0, (a.0, tt)))),
      and_from (keeps_name (name_in x) && keeps_type (type_in y)) (keeps_expr (expr_in z)) (and_from (keeps_name (name_in x)) (keeps_type (type_in y)) n.1 t.1) a.1,
    )

trigger-held : (version at : ℕ) (ps : Nodes) → ListHeld version at decl.Trigger ps
trigger-held version at no_node e = absurd (cc)
trigger-held version at (more_node x no_node) e = absurd (cc)
trigger-held version at (more_node x (more_node y ps)) e =
    let q = or-parts (unless (nat_le 0 (count ps) && nat_le (count ps) 16) (bad_form at)) (or_else (fault_in name x) (or_else (fault_in expression y) (fault_among [] expression ps))) e in
    let r = or-parts (fault_in name x) (or_else (fault_in expression y) (fault_among [] expression ps)) q.1 in
    let s = or-parts (fault_in expression y) (fault_among [] expression ps) r.1 in
    let n = name-held x r.0 in
    let g = expr-held y s.0 in
    let items = each-held expression form_of_expr keeps_expr expr_in ps (every expr-held ps) s.1 in
    let few = kept_count 0 16 ps (map keeps_expr (each_in expr_in ps)) (unless-none (nat_le 0 (count ps) && nat_le (count ps) 16) (bad_form at) q.0) items.1 items.2 in (
      (refl, refl, (n.0, (g.0, items.0))),
      and_from (keeps_name (name_in x) && keeps_expr (expr_in y)) (kept_from 0 16 (map keeps_expr (each_in expr_in ps))) (and_from (keeps_name (name_in x)) (keeps_expr (expr_in y)) n.1 g.1) few,
    )

observer-held : (version at : ℕ) (ps : Nodes) → ListHeld version at decl.Observer ps
observer-held version at no_node e = absurd (cc)
observer-held version at (more_node x no_node) e = absurd (cc)
observer-held version at (more_node x (more_node y (more_node z zs))) e = absurd (cc)
observer-held version at (more_node x (more_node y no_node)) e =
    let q = or-parts (fault_in name x) (or_else (fault_in expression y) None) e in
    let n = name-held x q.0 in
    let a = expr-held y (first-fine (fault_in expression y) None q.1) in
    ((refl, refl, (n.0, (a.0, tt))), and_from (keeps_name (name_in x)) (keeps_expr (expr_in y)) n.1 a.1)

by-head : (version at : ℕ) (h : DeclHead) (ps : Nodes) → ListHeld version at h ps
by-head version at decl.Struct ps = struct-held version at ps
by-head version at decl.Extern ps = extern-held version at ps
by-head version at decl.Stream ps = stream-held version at ps
by-head version at decl.Def ps = def-held version at ps
by-head version at decl.Trigger ps = trigger-held version at ps
by-head version at decl.Observer ps = observer-held version at ps

at-decl : (version at p : ℕ) (text : List ℕ) (ps : Nodes) (all : Items) → headed_items (declaration version) text ps ≡ Some all → fault_in (declaration version) (list at (more_node (atom p text) ps)) ≡ faults_of at all ps
at-decl version at p text ps all e = rw e refl

no-decl : (version at p : ℕ) (text : List ℕ) (ps : Nodes) → headed_items (declaration version) text ps ≡ None → fault_in (declaration version) (list at (more_node (atom p text) ps)) ≡ Some (bad_form at)
no-decl version at p text ps e = rw e refl

decl-headed : (version at p : ℕ) (text : List ℕ) (ps : Nodes) (o : Option DeclHead) → decl_head text ≡ o → fault_in (declaration version) (list at (more_node (atom p text) ps)) ≡ None
    → HoldsDecl version (list at (more_node (atom p text) ps)) (decl_list at o ps)
decl-headed version at p text ps None is e = absurd (let no : Some (bad_form at) ≡ None = sym (no-decl version at p text ps (rw is refl)) ∙ e in cc)
decl-headed version at p text ps (Some h) is e =
    let fine : faults_of at (decl_items version h) ps ≡ None = sym (at-decl version at p text ps (decl_items version h) (rw is refl)) ∙ e in
    let made = holds_list form_of_decl (keeps_decl version) at p (decl_word h) ps (decl_list at (Some h) ps) (by-head version at h ps fine) in
    subst (λ (t : List ℕ). HoldsDecl version (list at (more_node (atom p t) ps)) (decl_list at (Some h) ps)) (sym (found_decl text h is)) made

decl-held : (version : ℕ) (x : Node) → Held (declaration version) form_of_decl (keeps_decl version) decl_in x
decl-held version (atom at text) e = absurd (cc)
decl-held version (list at no_node) e = absurd (cc)
decl-held version (list at (more_node (list p ys) ps)) e = absurd (cc)
decl-held version (list at (more_node (atom p text) ps)) e = decl-headed version at p text ps (decl_head text) refl e

-- ---- the whole

-- a version's word is of version 1 or 2
a-version : (text : List ℕ) (v : ℕ) → version_of text ≡ Some v → (v == 1 || v == 2) ≡ true
a-version text v e = by (bytes_eq text (codes "spec")) (bytes_eq text (codes "spec2")) e where
  by : (a b : Bool) → (if a then Some 1 else if b then Some 2 else None) ≡ Some v → (v == 1 || v == 2) ≡ true
  by true b h = let is : 1 ≡ v = cc in subst (λ (n : ℕ). (n == 1 || n == 2) ≡ true) is refl
  by false true h = let is : 2 ≡ v = cc in subst (λ (n : ℕ). (n == 1 || n == 2) ≡ true) is refl
  by false false h = absurd (cc)

abbrev made : ℕ → Nodes → Surface
made v ps = record { version = v; name = text_in (first ps); decls = each_in decl_in (behind ps) }

text-held : (x : Node) → fault_in name x ≡ None → Matches (word None (text_in x)) x × (is_name (text_in x) ≡ true)
text-held (atom at text) e = ((tt, refl), unless-none (is_name text) (bad_name at) e)
text-held (list at xs) e = absurd (cc)

body-held : (v : ℕ) (ps : Nodes) → (v == 1 || v == 2) ≡ true → faults_of 0 (spec_items v) ps ≡ None → (at : ℕ) → HoldsForm form_of keeps_table at (spec_word v) ps (made v ps)
unfolding keeps_table
body-held v no_node k e at = absurd (cc)
body-held v (more_node x ps) k e at =
    let q = or-parts (unless (nat_le 0 (count ps) && true) (bad_form 0)) (or_else (fault_in name x) (fault_among [] (declaration v) ps)) e in
    let r = or-parts (fault_in name x) (fault_among [] (declaration v) ps) q.1 in
    let n = text-held x r.0 in
    let items = each-held (declaration v) form_of_decl (keeps_decl v) decl_in ps (every (decl-held v) ps) r.1 in
    ((tt, refl, (n.0, items.0)), and_from ((v == 1 || v == 2) && is_name (text_in x)) (all_kept (map (keeps_decl v) (each_in decl_in ps))) (and_from (v == 1 || v == 2) (is_name (text_in x)) k n.1) items.1)

at-top : (at p : ℕ) (text : List ℕ) (ps : Nodes) (all : Items) → headed_items top text ps ≡ Some all → fault_in top (list at (more_node (atom p text) ps)) ≡ faults_of 0 all ps
at-top at p text ps all e = rw e refl

no-top : (at p : ℕ) (text : List ℕ) (ps : Nodes) → headed_items top text ps ≡ None → fault_in top (list at (more_node (atom p text) ps)) ≡ Some (bad_form 0)
no-top at p text ps e = rw e refl

-- a node that holds some surface which keeps the table
abbrev HasSurface : Node → Type 0
HasSurface x = (s : Surface) × Holds form_of keeps_table x s

spec-headed : (at p : ℕ) (text : List ℕ) (ps : Nodes) (o : Option ℕ) → version_of text ≡ o → fault_in top (list at (more_node (atom p text) ps)) ≡ None → HasSurface (list at (more_node (atom p text) ps))
spec-headed at p text ps None is e = absurd (let no : Some (bad_form 0) ≡ None = sym (no-top at p text ps (ap (option_map spec_items) is)) ∙ e in cc)
spec-headed at p text ps (Some v) is e =
    let fine : faults_of 0 (spec_items v) ps ≡ None = sym (at-top at p text ps (spec_items v) (ap (option_map spec_items) is)) ∙ e in
    let holds = holds_list form_of keeps_table at p (spec_word v) ps (made v ps) (body-held v ps (a-version text v is) fine at) in
    (made v ps, subst (λ (t : List ℕ). Holds form_of keeps_table (list at (more_node (atom p t) ps)) (made v ps)) (sym (found_version text v is)) holds)

spec-held : (x : Node) → fault_in top x ≡ None → HasSurface x
spec-held (atom at text) e = absurd (cc)
spec-held (list at no_node) e = absurd (cc)
spec-held (list at (more_node (list p ys) ps)) e = absurd (cc)
spec-held (list at (more_node (atom p text) ps)) e = spec-headed at p text ps (version_of text) refl e

no-extra : (x : Node) (xs : Nodes) → fault_among [] extra (more_node x xs) ≡ None → ⊥
no-extra (atom at text) xs e = cc
no-extra (list at ys) xs e = cc

nodes-held : (xs : Nodes) → top_fault xs ≡ None → (s : Surface) × AllMatch (more (form_of s) none) xs × KeepsTable s
nodes-held no_node e = absurd (cc)
nodes-held (more_node x (more_node y ys)) e = absurd (no-extra y ys (or-parts (fault_in top x) (fault_among [] extra (more_node y ys)) e).1)
nodes-held (more_node x no_node) e =
    let s = spec-held x (first-fine (fault_in top x) None e) in
    (s.0, (s.1.0, tt), s.1.1)

pub surface-held : (forest : Forest) → shape_fault forest ≡ None → (s : Surface) × IsSurfaceOf forest s × KeepsTable s
unfolding shape_fault
surface-held forest e = nodes-held (forest_nodes forest) (sym (top_is (forest_nodes forest)) ∙ e)
