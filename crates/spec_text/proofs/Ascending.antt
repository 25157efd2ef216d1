-- The places of a surface's parts ascend, since those of its forest do.
use Rattle.std.proofs.Common.{◌≡◌, ℕ, zero, suc, ◌+◌, ◌<◌, ◌≤◌, List, [], ◌∷◌, ◌++◌, map, length, Some, None, refl, sym, subst, arith, append_assoc, append-nil}
use Rattle.std.specs.Prelude.{slice_index}
use Rattle.std.specs.List.Sorted.{IsStrictlyIncreasing}
use Rattle.spec_forest.specs.Node.{Node, Nodes, atom, list, forest_nodes}
use Rattle.spec_forest.specs.Node.{none as no_node, more as more_node}
use Rattle.spec_forest.specs.declared.tree.Forest.{Forest}
use Rattle.spec_forest.specs.Tokens.{IsForestOf}
use Rattle.spec_forest.specs.Places.{node_places, places}
use Rattle.spec_forest.proofs.Rising.{rising}
use Rattle.spec_text.specs.declared.surface.Decl.{Decl}
use Rattle.spec_text.specs.declared.surface.Decl.TheVariants as d
use Rattle.spec_text.specs.declared.surface.Surface.{Surface}
use Rattle.spec_text.specs.Form.{Form, Forms, word, form, none, more, forms, form_of, form_of_decl, Matches, AllMatch, IsSurfaceOf}
use Rattle.spec_text.specs.Places.{form_places, forms_places, place_of_decl}

-- each is at least the first number, and above the one before it
abbrev From : ℕ → List ℕ → Type 0
From n [] = Unit {0}
From n (k ∷ ks) = (n ≤ k) × From (suc k) ks

lower : (n m : ℕ) (ks : List ℕ) → n ≤ m → From m ks → From n ks
lower n m [] h r = tt
lower n m (k ∷ ks) h r = (omega (arith, h, r.0), r.1)

-- what stands behind others
behind-them : (n : ℕ) (ks ls : List ℕ) → From n (ks ++ ls) → From n ls
behind-them n [] ls r = r
behind-them n (k ∷ ks) ls r = lower n (suc k) ls (omega (arith, r.0)) (behind-them (suc k) ks ls r.1)

front-of : (n : ℕ) (ks ls : List ℕ) → From n (ks ++ ls) → From n ks
front-of n [] ls r = tt
front-of n (k ∷ ks) ls r = (r.0, front-of (suc k) ks ls r.1)

from-increasing : (n : ℕ) (ks : List ℕ) → (0 < length ks → n ≤ slice_index ks 0) → IsStrictlyIncreasing ks → From n ks
from-increasing n [] low h = tt
from-increasing n (k ∷ ks) low h = (low (omega arith), from-increasing (suc k) ks (λ some. h 0 (omega (arith, some))) next) where
  next : IsStrictlyIncreasing ks
  next i l =
      let e : suc i + 1 ≡ suc (i + 1) = omega arith in
      subst (λ (m : ℕ). slice_index ks i < slice_index (k ∷ ks) m) e (h (suc i) (omega (arith, l)))

increasing : (n : ℕ) (ks : List ℕ) → From n ks → IsStrictlyIncreasing ks
increasing n [] r i l = absurd (omega (arith, l))
increasing n (k ∷ []) r i l = absurd (omega (arith, l))
increasing n (k ∷ j ∷ ks) r zero l = omega (arith, r.1.0)
increasing n (k ∷ j ∷ ks) r (suc i) l =
    let e : suc (i + 1) ≡ suc i + 1 = omega arith in
    subst (λ (m : ℕ). slice_index (j ∷ ks) i < slice_index (k ∷ j ∷ ks) m) e (increasing (suc k) (j ∷ ks) r.1 i (omega (arith, l)))

-- ---- forms keep some of the places

-- Wherever the first places ascend, the second do.
abbrev Within : List ℕ → List ℕ → Type 0
Within ks ls = (n : ℕ) → From n ks → From n ls

mutual
  kept-form : (f : Form) (x : Node) (ks ls : List ℕ) → Matches f x → Within ks ls → Within (node_places x ++ ks) (form_places f ++ ls)
  kept-form (word at bytes) (list place parts) ks ls m h n r = elim m [ ]
  kept-form (form at items) (atom place text) ks ls m h n r = elim m [ ]
  kept-form (word (Some at) bytes) (atom place text) ks ls m h n r = rw m.0 (r.0, h (suc place) r.1)
  kept-form (word None bytes) (atom place text) ks ls m h n r = lower n (suc place) ls (omega (arith, r.0)) (h (suc place) r.1)
  kept-form (form (Some at) items) (list place parts) ks ls m h n r = rw m.0 (r.0, kept-forms items parts ks ls m.1 h (suc place) r.1)
  kept-form (form None items) (list place parts) ks ls m h n r =
      lower n (suc place) (forms_places items ++ ls) (omega (arith, r.0)) (kept-forms items parts ks ls m.1 h (suc place) r.1)

  kept-forms : (fs : Forms) (xs : Nodes) (ks ls : List ℕ) → AllMatch fs xs → Within ks ls → Within (places xs ++ ks) (forms_places fs ++ ls)
  kept-forms none no_node ks ls m h n r = h n r
  kept-forms none (more_node x xs) ks ls m h n r = elim m [ ]
  kept-forms (more f fs) no_node ks ls m h n r = elim m [ ]
  kept-forms (more f fs) (more_node x xs) ks ls m h n r =
      subst (From n) (sym (append_assoc (form_places f) (forms_places fs) ls))
      (kept-form f x (places xs ++ ks) (forms_places fs ++ ls) m.0 (kept-forms fs xs ks ls m.1 h) n
      (subst (From n) (append_assoc (node_places x) (places xs) ks) r))

pub parts-ascend : (text : List ℕ) (forest : Forest) (s : Surface) → IsForestOf text (forest_nodes forest) → IsSurfaceOf forest s → IsStrictlyIncreasing (form_places (form_of s))
parts-ascend text forest s is m =
    let all : From 0 (places (forest_nodes forest)) = from-increasing 0 (places (forest_nodes forest)) (λ some. omega arith) (rising text (forest_nodes forest) is) in
    let kept = kept-forms (more (form_of s) none) (forest_nodes forest) [] [] m (λ n r. r) 0 (subst (From 0) (sym (append-nil (places (forest_nodes forest)))) all) in
    increasing 0 (form_places (form_of s)) (front-of 0 (form_places (form_of s)) [] (front-of 0 (form_places (form_of s) ++ []) [] kept))

-- ---- declarations

-- a declaration is a list at its place
a-list : (x : Decl) → (items : Forms) × (form_of_decl x ≡ form (Some (place_of_decl x)) items)
a-list (d.Struct at x fields) = (_, refl)
a-list (d.Extern at x ty) = (_, refl)
a-list (d.Stream at x ty init e) = (_, refl)
a-list (d.Def at x ty e) = (_, refl)
a-list (d.Trigger at x guard args) = (_, refl)
a-list (d.Observer at x e) = (_, refl)

decl-first : (x : Decl) (ks : List ℕ) (n : ℕ) → From n (form_places (form_of_decl x) ++ ks) → (n ≤ place_of_decl x) × From (suc (place_of_decl x)) ks
decl-first x ks n r =
    let p = a-list x in
    let q = subst (λ (f : Form). From n (form_places f ++ ks)) p.1 r in
    (q.0, behind-them (suc (place_of_decl x)) (forms_places p.0) ks q.1)

decls-from : (n : ℕ) (ds : List Decl) → From n (forms_places (forms (map form_of_decl ds))) → From n (map place_of_decl ds)
decls-from n [] r = tt
decls-from n (x ∷ ds) r =
    let p = decl-first x (forms_places (forms (map form_of_decl ds))) n r in
    (p.0, decls-from (suc (place_of_decl x)) ds p.1)

pub decls-ascend : (text : List ℕ) (forest : Forest) (s : Surface) → IsForestOf text (forest_nodes forest) → IsSurfaceOf forest s → IsStrictlyIncreasing (map place_of_decl s.decls)
decls-ascend text forest s is m =
    let all : From 0 (form_places (form_of s)) = from-increasing 0 (form_places (form_of s)) (λ some. omega arith) (parts-ascend text forest s is m) in
    increasing 0 (map place_of_decl s.decls) (decls-from 0 s.decls all)
