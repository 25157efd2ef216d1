-- A canonical text is scanned as the form that it was written from.
use Rattle.std.proofs.Common.{◌≡◌, ℕ, ◌≤◌, max, List, [], length, None, refl, ap, sym, ◌∙◌, subst, arith, map}
use Rattle.spec_forest.specs.Node.{Node, Nodes, atom, list, forest_nodes}
use Rattle.spec_forest.specs.Node.{none as no_node, more as more_node}
use Rattle.spec_forest.specs.declared.tree.Forest.{Forest}
use Rattle.spec_forest.specs.Scan.{scan_fault}
use Rattle.spec_forest.specs.Tokens.{IsForestOf}
use Rattle.spec_forest.specs.Extents.{node_nesting}
use Rattle.spec_forest.specs.Extents.{nesting as nodes_nesting}
use Rattle.spec_forest.specs.Pieces.{node_unplaced, unplaced, SameShape}
use Rattle.spec_forest.specs.Layout.{page_text, page_nodes}
use Rattle.spec_forest.proofs.Pages.{PageIsRead, page-read}
use Rattle.spec_text.specs.declared.surface.Surface.{Surface}
use Rattle.spec_text.specs.Form.{Form, Forms, word, form, none, more, forms, form_of, form_of_decl, Matches, AllMatch, IsSurfaceOf}
use Rattle.spec_words.specs.Words.{spec_word}
use Rattle.spec_text.specs.Bare.{bare, bares}
use Rattle.spec_text.specs.Extent.{nesting, deepest}
use Rattle.spec_text.specs.KeepsTable.{KeepsTable}
use Rattle.spec_text.specs.Canonical.{canonical}
use Rattle.spec_text.proofs.Bares.{canonical_page}
use Rattle.spec_print.proofs.Worded.{surface-worded}

-- ---- depth

mutual
  form-nesting : (f : Form) → node_nesting (bare f) ≡ nesting f
  form-nesting (word at bytes) = refl
  form-nesting (form at items) = let e : nodes_nesting (bares items) ≡ deepest items = forms-nesting items in omega (arith, e)

  forms-nesting : (fs : Forms) → nodes_nesting (bares fs) ≡ deepest fs
  forms-nesting none = refl
  forms-nesting (more f fs) = ap (λ (n : ℕ). max n (nodes_nesting (bares fs))) (form-nesting f) ∙ ap (λ (n : ℕ). max (nesting f) n) (forms-nesting fs)

-- ---- the page of a surface

abbrev items_of : Surface → Nodes
items_of s = bares (forms (map form_of_decl s.decls))

page-low : (s : Surface) → nesting (form_of s) ≤ 64 → nodes_nesting (page_nodes (spec_word s.version) s.name (items_of s)) ≤ 64
page-low s low = let e : nodes_nesting (bares (more (form_of s) none)) ≡ max (nesting (form_of s)) 0 = forms-nesting (more (form_of s) none) in omega (arith, e, low)

page-short : (s : Surface) → length (canonical s) ≤ 1048576 → length (page_text (spec_word s.version) s.name (items_of s)) ≤ 1048576
page-short s short = subst (λ (t : List ℕ). length t ≤ 1048576) (canonical_page s) short

pub page-of : (s : Surface) → KeepsTable s → nesting (form_of s) ≤ 64 → length (canonical s) ≤ 1048576 → PageIsRead (spec_word s.version) s.name (items_of s)
page-of s k low short =
    let w = surface-worded s k in
    page-read (spec_word s.version) s.name (items_of s) w.head w.name w.items (page-low s low) (page-short s short)

pub scanned : (s : Surface) → KeepsTable s → nesting (form_of s) ≤ 64 → length (canonical s) ≤ 1048576 → scan_fault (canonical s) ≡ None
scanned s k low short = subst (λ (t : List ℕ). scan_fault t ≡ None) (sym (canonical_page s)) (page-of s k low short).sound

pub forested : (s : Surface) → KeepsTable s → nesting (form_of s) ≤ 64 → length (canonical s) ≤ 1048576 → (g : Nodes) × IsForestOf (canonical s) g
forested s k low short = subst (λ (t : List ℕ). (g : Nodes) × IsForestOf t g) (sym (canonical_page s)) (page-of s k low short).some

mutual
  form-unplaced : (f : Form) → node_unplaced (bare f) ≡ bare f
  form-unplaced (word at bytes) = refl
  form-unplaced (form at items) = ap (list 0) (bares-unplaced items)

  bares-unplaced : (fs : Forms) → unplaced (bares fs) ≡ bares fs
  bares-unplaced none = refl
  bares-unplaced (more f fs) = ap (λ (x : Node). more_node x (unplaced (bares fs))) (form-unplaced f) ∙ ap (more_node (bare f)) (bares-unplaced fs)

pub shaped : (s : Surface) → KeepsTable s → nesting (form_of s) ≤ 64 → length (canonical s) ≤ 1048576 → (g : Nodes) → IsForestOf (canonical s) g → unplaced g ≡ bares (more (form_of s) none)
shaped s k low short g h =
    let e : SameShape g (page_nodes (spec_word s.version) s.name (items_of s)) = (page-of s k low short).each g (subst (λ (t : List ℕ). IsForestOf t g) (canonical_page s) h) in
    e ∙ bares-unplaced (more (form_of s) none)

-- ---- what is read

mutual
  bare-matched : (f : Form) (x : Node) → Matches f x → bare f ≡ node_unplaced x
  bare-matched (word at bytes) (atom place read) h = ap (atom 0) (sym h.1)
  bare-matched (word at bytes) (list place parts) h = elim h [ ]
  bare-matched (form at items) (atom place read) h = elim h [ ]
  bare-matched (form at items) (list place parts) h = ap (list 0) (bares-matched items parts h.1)

  bares-matched : (fs : Forms) (xs : Nodes) → AllMatch fs xs → bares fs ≡ unplaced xs
  bares-matched none no_node h = refl
  bares-matched none (more_node x xs) h = elim h [ ]
  bares-matched (more f fs) no_node h = elim h [ ]
  bares-matched (more f fs) (more_node x xs) h = ap (λ (y : Node). more_node y (bares fs)) (bare-matched f x h.0) ∙ ap (more_node (node_unplaced x)) (bares-matched fs xs h.1)

abbrev front : Nodes → Node
front no_node = atom 0 []
front (more_node x xs) = x

abbrev page : Node → List ℕ
page (list at (more_node (atom p head) (more_node (atom q name) items))) = page_text head name items
page _ = []

pub same-form : (s : Surface) → KeepsTable s → nesting (form_of s) ≤ 64 → length (canonical s) ≤ 1048576 → (forest : Forest) → IsForestOf (canonical s) (forest_nodes forest) → (t : Surface) → IsSurfaceOf forest t → bare (form_of t) ≡ bare (form_of s)
same-form s k low short forest h t m = ap front (bares-matched (more (form_of t) none) (forest_nodes forest) m ∙ shaped s k low short (forest_nodes forest) h)

pub same-text : (s : Surface) → KeepsTable s → nesting (form_of s) ≤ 64 → length (canonical s) ≤ 1048576 → (forest : Forest) → IsForestOf (canonical s) (forest_nodes forest) → (t : Surface) → IsSurfaceOf forest t → canonical t ≡ canonical s
same-text s k low short forest h t m = canonical_page t ∙ ap page (same-form s k low short forest h t m) ∙ sym (canonical_page s)
