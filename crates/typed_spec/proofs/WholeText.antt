-- The specification of a whole text.
use Rattle.std.proofs.Common.{◌≡◌, ⊎_elim, ℕ, ◌+◌, ◌<◌, ◌≤◌, List, [], ◌++◌, length, map, sym, ap, ap₂, ◌∙◌, subst, arith}
use Rattle.std.specs.Prelude.{slice_get}
use Rattle.sm_io.proofs.Elements.{get_within}
use Rattle.stream_types.specs.declared.types.TypeEntry.{TypeEntry}
use Rattle.spec_text.specs.declared.surface.Decl.{Decl}
use Rattle.spec_text.specs.declared.surface.Surface.{Surface}
use Rattle.spec_text.specs.Form.{form_of}
use Rattle.spec_text.specs.Extent.{list_count}
use Rattle.stream_core.specs.declared.spec.LibItem.{LibItem}
use Rattle.stream_core.specs.Value.{SpecValue}
use Rattle.stream_core.specs.Parts.{IsNodeList}
use Rattle.stream_core.specs.Term.{TreeSpec, tree, trees, trees_by}
use Rattle.stream_core.specs.Ordered.{Ordered}
use Rattle.type_check.specs.Table.{struct_names}
use Rattle.type_check.specs.Untyped.{reversed, all_of}
use Rattle.type_check.specs.TypeOrder.{types_of_text}
use Rattle.typed_spec.specs.declared.arena.Arena.{Arena}
use Rattle.typed_spec.specs.declared.text.Text.{Text}
use Rattle.typed_text.specs.ReadSpec.{Numbers, numbers_of, placed, spec_of}
use Rattle.typed_spec.specs.Made.{form_tree, Holds}
use Rattle.typed_text.specs.InExpressions.{StandsIn, AreParts}
use Rattle.typed_spec.specs.Added.{Adds, IsTextAt, item_total, items_of, joined, trees_in}
use Rattle.typed_spec.proofs.FormCounts.{text_forms, text_decls}
use Rattle.typed_spec.proofs.Joining.{more_items, stands_back, all_ordered, all_held}

-- before the first declaration
abbrev pub empty_spec : List ℕ → List TypeEntry → SpecValue
empty_spec name types = record { name = name; types = types; nodes = []; externs = []; streams = []; defs = []; triggers = []; observers = []; libs = [] }

abbrev pub no_items : Surface → SpecValue
no_items s = empty_spec s.name (types_of_text s)

pub start_room : (s : Surface) (v : SpecValue) (name : List ℕ) (types : List TypeEntry) (xs : List Decl) → xs ≡ s.decls → v ≡ empty_spec name types → list_count (form_of s) ≤ 524288 → item_total v + length xs < 4294967295
start_room s v name types xs e h l =
    let none : item_total v ≡ 0 = ap item_total h in
    let count : length xs ≡ length s.decls = ap length e in
    let few = text_decls s l in
    omega (arith, none, count, few)

pub start_few : (s : Surface) (text : Text) (xs : List Decl) → xs ≡ s.decls → IsTextAt (struct_names (all_of s)) [] s.decls (numbers_of s) text → list_count (form_of s) ≤ 524288 → text.scope.closed + length xs < 4294967295
start_few s text xs e h l =
    let none : text.scope.closed ≡ 0 = h.between.ended in
    let count : length xs ≡ length s.decls = ap length e in
    let few = text_decls s l in
    omega (arith, none, count, few)

-- all declarations of a text were added to an arena that began with nothing
pub record IsFilled (s : Surface) (a : Arena) : Type 0 where
  pub first : Arena
  pub first_is : first.spec ≡ no_items s
  pub no_forms : first.forms.items ≡ []
  pub adds : Adds (numbers_of s) (all_of s) first a (placed (numbers_of s) (all_of s) [] 0 s.decls)

pub filled : (s : Surface) (first a : Arena) (text : Text) (name : List ℕ) (types : List TypeEntry) (xs : List Decl) → xs ≡ s.decls → first.spec ≡ empty_spec name types → name ≡ s.name → types ≡ types_of_text s → first.forms.items ≡ []
    → IsTextAt (struct_names (all_of s)) [] s.decls (numbers_of s) text
    → ((names : List (List ℕ)) (n : Numbers) → IsTextAt names [] xs n text → first.forms.items ≡ [] → Adds n (reversed [] xs) first a (placed n (reversed [] xs) [] 0 xs)) → IsFilled s a
filled s first a text name types xs e h n t none at adds = record {
  first = first;
  first_is = h ∙ ap₂ empty_spec n t;
  no_forms = none;
  adds = subst (λ (ys : List Decl). Adds (numbers_of s) (reversed [] ys) first a (placed (numbers_of s) (reversed [] ys) [] 0 ys)) e
      (adds (struct_names (all_of s)) (numbers_of s) (subst (λ (ys : List Decl). IsTextAt (struct_names (all_of s)) [] ys (numbers_of s) text) (sym e) at) none);
}

pub few_forms : (s : Surface) (a : Arena) → IsFilled s a → list_count (form_of s) ≤ 524288 → length a.forms.items ≤ 524288
few_forms s a h l =
    let m = more_items h.first a h.adds.forms h.adds.extends in
    let none : length h.first.forms.items ≡ 0 = ap length h.no_forms in
    let count = h.adds.count in
    let low = text_forms (numbers_of s) (all_of s) s l in
    omega (arith, m, none, count, low)

pub no_libs : (s : Surface) (a : Arena) → IsFilled s a → a.spec.libs ≡ []
no_libs s a h = h.adds.libs ∙ ap (λ (v : SpecValue). v.libs) h.first_is

pub room_for_forms : (s : Surface) (a : Arena) → IsFilled s a → list_count (form_of s) ≤ 524288 → length a.spec.libs + length a.forms.items < 4294967296
room_for_forms s a h l = let none : length a.spec.libs ≡ 0 = ap length (no_libs s a h) in let few = few_forms s a h l in omega (arith, none, few)

-- a specification is that of a text
pub record IsRead (s : Surface) (x : SpecValue) : Type 0 where
  pub trees_are : trees x ≡ spec_of s
  pub ordered : Ordered x.nodes x.libs
  pub parts : AreParts x

module _ (s : Surface) (a : Arena) (h : IsFilled s a) (l : list_count (form_of s) ≤ 524288) (list : IsNodeList a.spec.nodes) where
  abbrev final : SpecValue
  final = record a.spec { libs = a.forms.items }

  few : length a.forms.items < 4294967296
  few = let f = few_forms s a h l in omega (arith, f)

  no_nodes : h.first.spec.nodes ≡ []
  no_nodes = ap (λ (v : SpecValue). v.nodes) h.first_is

  held : Holds h.first a h.adds.forms a.spec.nodes a.forms.items
  held = all_held h.first a h.adds.forms no_nodes h.no_forms h.adds.extends list few

  abbrev items : TreeSpec
  items = items_of (numbers_of s) (all_of s) (placed (numbers_of s) (all_of s) [] 0 s.decls)

  added : trees final ≡ joined (trees_in (tree a.spec.nodes a.forms.items) h.first) items
  added = h.adds.trees a.spec.nodes a.forms.items held

  begun : joined (trees_in (tree a.spec.nodes a.forms.items) h.first) items ≡ spec_of s
  unfolding spec_of
  begun = let f = tree a.spec.nodes a.forms.items in
      ap₂ (λ (v : SpecValue) (ls : List LibItem). joined (record (trees_by f v) { libs = map (form_tree f) ls }) items) h.first_is h.no_forms

  stands : (i : ℕ) → i < length a.spec.nodes → StandsIn (trees final) (tree a.spec.nodes a.forms.items i)
  stands i low =
      let f = tree a.spec.nodes a.forms.items in
      let n = get_within a.spec.nodes i low in
      ⊎_elim
      (λ old. absurd (let q = ap (λ ns. slice_get ns i) (sym no_nodes) ∙ old in cc))
      (λ w. subst (λ x. StandsIn x (f i)) (sym added) (stands_back (trees_in f h.first) items (f i) w))
      (h.adds.parts a.spec.nodes a.forms.items held i n.0 n.1)

  read_final : IsRead s final
  read_final = record {
    trees_are = added ∙ begun;
    ordered = all_ordered h.first a h.adds.forms no_nodes h.no_forms h.adds.extends list few;
    parts = record { parts = stands };
  }

-- with its forms
pub text_is_read : (s : Surface) (a : Arena) (x : SpecValue) → IsFilled s a → list_count (form_of s) ≤ 524288 → IsNodeList x.nodes → x ≡ record a.spec { libs = a.spec.libs ++ a.forms.items } → IsRead s x
text_is_read s a x h l list e =
    let is : x ≡ record a.spec { libs = a.forms.items } = e ∙ ap (λ (ls : List LibItem). record a.spec { libs = ls ++ a.forms.items }) (no_libs s a h) in
    subst (IsRead s) (sym is) (read_final s a h l (subst (λ (v : SpecValue). IsNodeList v.nodes) is list))
