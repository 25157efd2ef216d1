-- Declarations and surfaces that keep the table are read from the nodes that match their forms.
use Rattle.std.proofs.Common.{◌≡◌, ℕ, ◌==◌, ◌&&◌, true, List, map, length, Option, refl, ap, sym, ◌∙◌}
use Rattle.std.specs.Prelude.{◌||◌, codes}
use Rattle.std.proofs.lemmas.Bool.{and_parts}
use Rattle.sm_io.specs.Words.{is_name}
use Rattle.spec_forest.specs.Node.{Nodes, atom, list, forest_nodes}
use Rattle.spec_forest.specs.Node.{more as more_node}
use Rattle.spec_forest.specs.declared.tree.Forest.{Forest}
use Rattle.spec_text.specs.declared.surface.FieldForm.{FieldForm}
use Rattle.spec_text.specs.declared.surface.Decl.{Decl}
use Rattle.spec_text.specs.declared.surface.Decl.TheVariants as d
use Rattle.spec_text.specs.declared.surface.Surface.{Surface}
use Rattle.spec_words.specs.Words.{decl_head}
use Rattle.spec_text.specs.Form.{none, more, form_of, form_of_const, form_of_expr, form_of_field, form_of_decl, AllMatch, IsSurfaceOf}
use Rattle.spec_words.specs.Words.{spec_word}
use Rattle.spec_text.specs.KeepsTable.{between, all_kept, kept_from, keeps_name, keeps_type, keeps_const, keeps_expr, keeps_field, keeps_decl, keeps_table, KeepsTable}
use Rattle.spec_text.specs.Shape.{most_initial}
use Rattle.spec_words.specs.Words.{version_of}
use Rattle.spec_words.proofs.ReadBack.{version-read}
use Rattle.spec_text.proofs.Read.{each_in, parts_in, text_in, name_in, type_in, const_in, expr_in, field_in, initial_in, decl_in, version_or, surface_of, surface_in}
use Rattle.spec_text.proofs.ReadParts.{AreRead, Kept, list-is, items-are, worded-are, headed-is, one-are, two-are, three-are, four-are, front-are, fronts-are, name-is, text-is, all-are}
use Rattle.spec_text.proofs.ReadForms.{type-read, const-read}
use Rattle.spec_text.proofs.ReadExprs.{expr-read}

field-read : (f : FieldForm) → Kept keeps_field form_of_field field_in f
field-read f k =
    let p = and_parts (keeps_name f.name) (keeps_type f.ty) k in
    list-is field_in f.at (two-are (λ xs. field_in (list f.at xs)) name_in type_in (λ n t. record { at = f.at; name = n; ty = t }) (λ x y. refl) (name-is f.name) (type-read f.ty p.1))

decl-read : (version : ℕ) (x : Decl) → Kept (keeps_decl version) form_of_decl decl_in x
unfolding decl_head
decl-read version (d.Struct at x fields) k =
    let p = and_parts (keeps_name x) (kept_from 1 64 (map keeps_field fields)) k in
    let q = and_parts (between 1 64 (length (map keeps_field fields))) (all_kept (map keeps_field fields)) p.1 in
    headed-is decl_in at (codes "struct") (λ w. front-are (λ xs. decl_in (list at (more_node (atom w (codes "struct")) xs))) name_in (λ xs. each_in field_in xs) (λ n fs. d.Struct at n fs) (λ y xs. refl)
    (name-is x) (all-are keeps_field form_of_field field_in field-read fields q.1))
decl-read version (d.Extern at x t) k =
    let p = and_parts (keeps_name x) (keeps_type t) k in
    headed-is decl_in at (codes "extern") (λ w. two-are (λ xs. decl_in (list at (more_node (atom w (codes "extern")) xs))) name_in type_in (λ n u. d.Extern at n u) (λ y z. refl)
    (name-is x) (type-read t p.1))
decl-read version (d.Stream at x t init e) k =
    let p = and_parts (keeps_name x && keeps_type t && kept_from 1 (most_initial version) (map keeps_const init)) (keeps_expr e) k in
    let q = and_parts (keeps_name x && keeps_type t) (kept_from 1 (most_initial version) (map keeps_const init)) p.0 in
    let r = and_parts (keeps_name x) (keeps_type t) q.0 in
    let i = and_parts (between 1 (most_initial version) (length (map keeps_const init))) (all_kept (map keeps_const init)) q.1 in
    headed-is decl_in at (codes "stream") (λ w. four-are (λ xs. decl_in (list at (more_node (atom w (codes "stream")) xs))) name_in type_in initial_in expr_in (λ n u cs v. d.Stream at n u cs v) (λ y z a b. refl)
    (name-is x) (type-read t r.1) (items-are (λ xs. each_in const_in xs) (all-are keeps_const form_of_const const_in const-read init i.1)) (expr-read e p.1))
decl-read version (d.Def at x t e) k =
    let p = and_parts (keeps_name x && keeps_type t) (keeps_expr e) k in
    let q = and_parts (keeps_name x) (keeps_type t) p.0 in
    headed-is decl_in at (codes "def") (λ w. three-are (λ xs. decl_in (list at (more_node (atom w (codes "def")) xs))) name_in type_in expr_in (λ n u v. d.Def at n u v) (λ y z a. refl)
    (name-is x) (type-read t q.1) (expr-read e p.1))
decl-read version (d.Trigger at x guard args) k =
    let p = and_parts (keeps_name x && keeps_expr guard) (kept_from 0 16 (map keeps_expr args)) k in
    let q = and_parts (keeps_name x) (keeps_expr guard) p.0 in
    let i = and_parts (between 0 16 (length (map keeps_expr args))) (all_kept (map keeps_expr args)) p.1 in
    headed-is decl_in at (codes "trigger") (λ w. fronts-are (λ xs. decl_in (list at (more_node (atom w (codes "trigger")) xs))) name_in expr_in (λ xs. each_in expr_in xs) (λ n g es. d.Trigger at n g es) (λ y z xs. refl)
    (name-is x) (expr-read guard q.1) (all-are keeps_expr form_of_expr expr_in expr-read args i.1))
decl-read version (d.Observer at x e) k =
    let p = and_parts (keeps_name x) (keeps_expr e) k in
    headed-is decl_in at (codes "observer") (λ w. two-are (λ xs. decl_in (list at (more_node (atom w (codes "observer")) xs))) name_in expr_in (λ n v. d.Observer at n v) (λ y z. refl)
    (name-is x) (expr-read e p.1))

-- ---- the whole

abbrev made : ℕ → List ℕ → List Decl → Surface
made version name decls = record { version = version; name = name; decls = decls }

abbrev kept_version : Surface → ℕ
kept_version s = version_or (version_of (spec_word s.version))

whole-read : (s : Surface) → all_kept (map (keeps_decl s.version) s.decls) ≡ true → AreRead (λ xs. surface_in xs) (more (form_of s) none) (made (kept_version s) s.name s.decls)
whole-read s k =
    one-are (λ xs. surface_in xs) (λ x. surface_of (parts_in x)) (λ t. t) (λ x. refl)
    (items-are (λ xs. surface_of xs) (worded-are (λ xs. surface_of xs) (spec_word s.version)
    (λ w. front-are (λ xs. surface_of (more_node (atom w (spec_word s.version)) xs)) text_in (λ xs. each_in decl_in xs) (λ n ds. made (kept_version s) n ds) (λ x xs. refl)
    (text-is s.name) (all-are (keeps_decl s.version) form_of_decl decl_in (decl-read s.version) s.decls k))))

-- The nodes of a surface that keeps the table are read as it.
pub nodes-read : (xs : Nodes) (s : Surface) → AllMatch (more (form_of s) none) xs → KeepsTable s → surface_in xs ≡ s
unfolding keeps_table
nodes-read xs s m k =
    let p = and_parts ((s.version == 1 || s.version == 2) && is_name s.name) (all_kept (map (keeps_decl s.version) s.decls)) k in
    let q = and_parts (s.version == 1 || s.version == 2) (is_name s.name) p.0 in
    (whole-read s p.1).by xs m
    ∙ ap (λ (o : Option ℕ). made (version_or o) s.name s.decls) (version-read s.version q.0)

pub one-surface : (forest : Forest) (s t : Surface) → IsSurfaceOf forest s → IsSurfaceOf forest t → KeepsTable s → KeepsTable t → s ≡ t
one-surface forest s t h k l m = sym (nodes-read (forest_nodes forest) s h l) ∙ nodes-read (forest_nodes forest) t k m
