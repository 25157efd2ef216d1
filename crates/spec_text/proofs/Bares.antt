-- Forms without places.
use Rattle.std.proofs.Common.{◌≡◌, ℕ, refl, ap, sym, ◌∙◌, List, [], ◌∷◌, ◌++◌, map}
use Rattle.std.specs.Prelude.{codes}
use Rattle.std.specs.List.{flat_map}
use Rattle.std.proofs.lemmas.List.Concat.{flat_map-cons}
use Rattle.spec_forest.specs.Node.{Node, Nodes, atom, list}
use Rattle.spec_forest.specs.Node.{none as no_node, more as more_node}
use Rattle.spec_forest.specs.Pieces.{node_unplaced, unplaced}
use Rattle.spec_forest.specs.Layout.{node_text, line_text, lines_text, page_text}
use Rattle.spec_forest.specs.declared.tree.Forest.{Forest}
use Rattle.spec_text.specs.declared.surface.Decl.{Decl}
use Rattle.spec_text.specs.declared.surface.Surface.{Surface}
use Rattle.spec_words.specs.Words.{spec_word}
use Rattle.spec_text.specs.Form.{Form, Forms, word, form, none, more, forms, form_of, form_of_decl, Matches, AllMatch, IsSurfaceOf}
use Rattle.spec_text.specs.Bare.{bare, bares}
use Rattle.spec_text.specs.Canonical.{text, texts, decl_line, canonical}

mutual
  bare-matched : (f : Form) (x : Node) → Matches f x → bare f ≡ node_unplaced x
  bare-matched (word at bytes) (atom place read) h = ap (atom 0) (sym h.1)
  bare-matched (word at bytes) (list place parts) h = elim h [ ]
  bare-matched (form at items) (atom place read) h = elim h [ ]
  bare-matched (form at items) (list place parts) h = ap (list 0) (bares-matched items parts h.1)

  bares-matched : (fs : Forms) (xs : Nodes) → AllMatch fs xs → bares fs ≡ unplaced xs
  bares-matched none no_node h = refl
  bares-matched none (more_node x xs) h = elim h [ ]
  bares-matched (more f fs) no_node h = elim h [ ]
  bares-matched (more f fs) (more_node x xs) h = ap (λ y. more_node y (bares fs)) (bare-matched f x h.0) ∙ ap (more_node (node_unplaced x)) (bares-matched fs xs h.1)

abbrev first : Nodes → Node
first no_node = atom 0 []
first (more_node x xs) = x

pub same_forms : (forest : Forest) (s t : Surface) → IsSurfaceOf forest s → IsSurfaceOf forest t → bare (form_of s) ≡ bare (form_of t)
same_forms forest s t h k = ap first (bares-matched (more (form_of s) none) _ h ∙ sym (bares-matched (more (form_of t) none) _ k))

mutual
  text-bare : (f : Form) → text f ≡ node_text (bare f)
  text-bare (word at bytes) = refl
  text-bare (form at items) = ap (λ t. codes "(" ++ t ++ codes ")") (texts-bares items)

  texts-bares : (fs : Forms) → texts fs ≡ line_text (bares fs)
  texts-bares none = refl
  texts-bares (more f none) = text-bare f
  texts-bares (more f (more g gs)) = ap (λ t. t ++ codes " " ++ texts (more g gs)) (text-bare f) ∙ ap (λ t. node_text (bare f) ++ codes " " ++ t) (texts-bares (more g gs))

lines : (ds : List Decl) → flat_map decl_line ds ≡ lines_text (bares (forms (map form_of_decl ds)))
lines [] = refl
lines (d ∷ ds) =
    flat_map-cons decl_line d ds
    ∙ ap (λ t. codes "\n  " ++ t ++ flat_map decl_line ds) (text-bare (form_of_decl d))
    ∙ ap (λ t. codes "\n  " ++ node_text (bare (form_of_decl d)) ++ t) (lines ds)

pub canonical_page : (s : Surface) → canonical s ≡ page_text (spec_word s.version) s.name (bares (forms (map form_of_decl s.decls)))
unfolding canonical page_text
canonical_page s = ap (λ t. codes "(" ++ spec_word s.version ++ codes " " ++ s.name ++ t ++ codes ")\n") (lines s.decls)

abbrev page : Node → List ℕ
page (list at (more_node (atom p head) (more_node (atom q name) items))) = page_text head name items
page _ = []

pub one_text : (forest : Forest) (s t : Surface) → IsSurfaceOf forest s → IsSurfaceOf forest t → canonical s ≡ canonical t
one_text forest s t h k = canonical_page s ∙ ap page (same_forms forest s t h k) ∙ sym (canonical_page t)
