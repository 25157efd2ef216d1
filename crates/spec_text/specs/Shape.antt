-- The table of forms, by the place where a node stands, and the first node that doesn't fit its place.
use Rattle.std.specs.Prelude.{ℕ, zero, suc, ◌+◌, ◌-◌, Bool, true, false, ◌==◌, ◌&&◌, ◌||◌, if◌then◌else◌, nat_le, List, [], ◌∷◌, ◌++◌, length, codes, bytes_eq, Option, Some, None, is_some}
use Rattle.std.specs.Option.{option_map, option_map_or}
use Rattle.sm_io.specs.Words.{is_name}
use Rattle.spec_forest.specs.Node.{Node, Nodes, atom, list, none, more, forest_nodes}
use Rattle.spec_forest.specs.declared.tree.Forest.{Forest}
use Rattle.spec_words.specs.declared.head.DeclHead.{DeclHead}
use Rattle.spec_words.specs.declared.head.DeclHead.TheVariants as decl
use Rattle.spec_words.specs.declared.head.ConstHead.{ConstHead}
use Rattle.spec_words.specs.declared.head.ConstHead.TheVariants as constant_head
use Rattle.spec_words.specs.declared.head.Head.{Head}
use Rattle.spec_words.specs.declared.head.Head.TheVariants as head
use Rattle.spec_words.specs.Words.{version_of, scalar_of, decl_head, const_head, head_of, truth_of}
use Rattle.spec_words.specs.Decimals.{is_decimal, value_of, is_decimal_between}
use Rattle.spec_words.specs.Literals.{literal_of, is_numeric}

-- ---- places

-- where a node may stand
pub data Place : Type 0 where
  top : Place  -- the text's first item
  extra : Place  -- a further item at the top
  first_word : Place  -- the word that begins a form
  declaration : ℕ → Place  -- of a text of this version
  field : Place  -- of a struct
  initial : ℕ → Place  -- a stream's list of constants, in a text of this version
  name : Place
  ty : Place
  constant : Place
  expression : Place
  decimal : Place  -- a decimal of any size
  number : ℕ → ℕ → Place  -- a decimal from the first number to the second
  beyond : Place  -- where no node may stand

-- What stands behind the first items of a list: nothing, or at least so many items at one place, and at most so many.
pub data Further : Type 0 where
  end : Further
  some : ℕ → Option ℕ → Place → Further

-- What the items of a list are, behind the word that begins a form: the places of the first ones in order, and what
-- stands behind them.
pub record Items : Type 0 where
  pub first : List Place
  pub further : Further

abbrev pub exactly : List Place → Items
exactly ps = record { first = ps; further = end }

abbrev pub several : List Place → ℕ → ℕ → Place → Items
several ps least most p = record { first = ps; further = some least (Some most) p }

abbrev pub any_from : List Place → ℕ → Place → Items
any_from ps least p = record { first = ps; further = some least None p }

abbrev pub count : Nodes → ℕ
count none = 0
count (more x xs) = count xs + 1

-- the place of what stands behind the first items
abbrev pub place_of : Further → Place
place_of end = beyond
place_of (some least most p) = p

abbrev pub is_within : ℕ → Option ℕ → Bool
is_within n None = true
is_within n (Some most) = nat_le n most

-- so many first items are there, and behind them as many as may
abbrev pub has_items : ℕ → Further → Nodes → Bool
has_items zero end none = true
has_items zero end (more x xs) = false
has_items zero (some least most p) xs = nat_le least (count xs) && is_within (count xs) most
has_items (suc n) further none = false
has_items (suc n) further (more x xs) = has_items n further xs

-- ---- the table

abbrev pub spec_items : ℕ → Items
spec_items version = any_from (name ∷ []) 0 (declaration version)

-- the most initial values of a stream
abbrev pub most_initial : ℕ → ℕ
most_initial version = if version == 1 then 4096 else 65536

abbrev pub decl_items : ℕ → DeclHead → Items
decl_items version decl.Struct = several (name ∷ []) 1 64 field
decl_items version decl.Extern = exactly (name ∷ ty ∷ [])
decl_items version decl.Stream = exactly (name ∷ ty ∷ initial version ∷ expression ∷ [])
decl_items version decl.Def = exactly (name ∷ ty ∷ expression ∷ [])
decl_items version decl.Trigger = several (name ∷ expression ∷ []) 0 16 expression
decl_items version decl.Observer = exactly (name ∷ expression ∷ [])

abbrev pub field_items : Items
field_items = exactly (name ∷ ty ∷ [])

abbrev pub initial_items : ℕ → Items
initial_items version = several [] 1 (most_initial version) constant

abbrev pub type_items : Items
type_items = exactly (ty ∷ number 1 1024 ∷ [])

abbrev pub const_items : ConstHead → Items
const_items constant_head.Array = several [] 1 1024 constant
const_items constant_head.Record = any_from (name ∷ []) 1 constant

-- the number that the first part behind the word writes, where it writes one
abbrev pub number_in : Node → ℕ
number_in (atom at text) = value_of text
number_in (list at parts) = 0

abbrev pub first_number : Nodes → ℕ
first_number none = 0
first_number (more x xs) = number_in x

-- of the parts behind the word the first may bound the second
abbrev pub expr_items : Head → Nodes → Items
expr_items head.Drop parts = exactly (number 0 4294967295 ∷ name ∷ [])
expr_items (head.Single h) parts = exactly (expression ∷ [])
expr_items (head.Pair h) parts = exactly (expression ∷ expression ∷ [])
expr_items head.If parts = exactly (expression ∷ expression ∷ expression ∷ [])
expr_items head.Cast parts = exactly (ty ∷ expression ∷ [])
expr_items head.Field parts = exactly (expression ∷ name ∷ [])
expr_items head.Array parts = several [] 1 1024 expression
expr_items head.Record parts = any_from (name ∷ []) 1 expression
expr_items (head.Bounded h) parts = exactly (decimal ∷ number (first_number parts) 128 ∷ expression ∷ [])
expr_items head.SinceIn parts =
    exactly (decimal ∷ number (first_number parts) 128 ∷ expression ∷ expression ∷ [])
expr_items head.Clock parts = exactly (number 1 4294967295 ∷ number 0 (first_number parts - 1) ∷ [])
expr_items (head.Vote h) parts = several [] 1 9 expression
expr_items (head.Window h) parts = exactly (number 1 12 ∷ expression ∷ [])

-- the items of a list that begins with this word, where the word begins a form of the place
abbrev pub headed_items : Place → List ℕ → Nodes → Option Items
headed_items top text parts = option_map spec_items (version_of text)
headed_items (declaration version) text parts = option_map (decl_items version) (decl_head text)
headed_items ty text parts = if bytes_eq text (codes "array") then Some type_items else None
headed_items constant text parts = option_map const_items (const_head text)
headed_items expression text parts = option_map (λ h. expr_items h parts) (head_of text)
headed_items _ text parts = None

-- the items of a list at a place; none where no form of the place begins so
abbrev pub items_at : Place → Nodes → Option Items
items_at field parts = Some field_items
items_at (initial version) parts = Some (initial_items version)
items_at p (more (atom at text) parts) = headed_items p text parts
items_at p _ = None

-- the place of the word with which a list at a place begins
abbrev pub word_place : Place → List Place
word_place field = []
word_place (initial version) = []
word_place _ = first_word ∷ []

-- the items behind the word, where there is one
abbrev pub behind : Place → Nodes → Nodes
behind field parts = parts
behind (initial version) parts = parts
behind p none = none
behind p (more x xs) = xs

-- ---- the fault of one node

-- what is wrong with a node at its place, and at which byte
pub data SyntaxFault : Type 0 where
  bad_form : ℕ → SyntaxFault
  bad_name : ℕ → SyntaxFault
  bad_literal : ℕ → SyntaxFault

abbrev pub unless : Bool → SyntaxFault → Option SyntaxFault
unless true fault = None
unless false fault = Some fault

-- a list begins a form of its place, and has as many items as that form
abbrev pub form_fault : ℕ → Option Items → Nodes → Option SyntaxFault
form_fault at None parts = Some (bad_form at)
form_fault at (Some all) parts = unless (has_items (length all.first) all.further parts) (bad_form at)

-- the fault of an atom at its place
abbrev pub atom_fault : Place → ℕ → List ℕ → Option SyntaxFault
atom_fault top at text = Some (bad_form 0)
atom_fault extra at text = Some (bad_form at)
atom_fault (declaration version) at text = Some (bad_form at)
atom_fault field at text = Some (bad_form at)
atom_fault (initial version) at text = Some (bad_form at)
atom_fault name at text = unless (is_name text) (bad_name at)
atom_fault ty at text = unless (is_some (scalar_of text) || is_name text) (bad_name at)
atom_fault constant at text = unless (is_some (literal_of text)) (bad_literal at)
atom_fault expression at text =
    if is_numeric text then unless (is_some (literal_of text)) (bad_literal at)
    else unless (is_some (truth_of text) || is_name text) (bad_name at)
atom_fault decimal at text = unless (is_decimal text) (bad_literal at)
atom_fault (number low high) at text =
    unless (is_decimal_between low high text) (bad_literal at)
atom_fault first_word at text = None
atom_fault beyond at text = None

-- the fault of a list at its place, its parts aside
abbrev pub list_fault : Place → ℕ → Nodes → Option SyntaxFault
list_fault top at parts = form_fault 0 (items_at top parts) (behind top parts)
list_fault extra at parts = Some (bad_form at)
list_fault name at parts = Some (bad_name at)
list_fault decimal at parts = Some (bad_literal at)
list_fault (number low high) at parts = Some (bad_literal at)
list_fault first_word at parts = None
list_fault beyond at parts = None
list_fault p at parts = form_fault at (items_at p parts) (behind p parts)

abbrev pub own_fault : Place → Node → Option SyntaxFault
own_fault p (atom at text) = atom_fault p at text
own_fault p (list at parts) = list_fault p at parts

-- ---- the first fault

-- a node at its place
pub record Placed : Type 0 where
  pub place : Place
  pub node : Node

-- the places of a list's items, the word's among them
abbrev pub first_places : Place → Option Items → List Place
first_places p None = []
first_places p (Some all) = word_place p ++ all.first

-- the place of each further item
abbrev pub further_place : Option Items → Place
further_place None = beyond
further_place (Some all) = place_of all.further

-- the nodes of a tree at their places, each before its parts, from the left
abbrev mutual
  pub preorder : Place → Node → List Placed
  preorder p (atom at text) = record { place = p; node = atom at text } ∷ []
  preorder p (list at parts) =
      record { place = p; node = list at parts } ∷ preorders (first_places p (items_at p parts)) (further_place (items_at p parts)) parts

  -- of some nodes at these places, and then at the last
  pub preorders : List Place → Place → Nodes → List Placed
  preorders ps p none = []
  preorders [] p (more x xs) = preorder p x ++ preorders [] p xs
  preorders (q ∷ ps) p (more x xs) = preorder q x ++ preorders ps p xs

abbrev pub first_fault : List Placed → Option SyntaxFault
first_fault [] = None
first_fault (x ∷ xs) = option_map_or Some (own_fault x.place x.node) (first_fault xs)

-- the fault of the first node in preorder that doesn't fit its place; a text without items is no form
unfoldable pub shape_fault_of : Nodes → Option SyntaxFault
shape_fault_of none = Some (bad_form 0)
shape_fault_of (more x xs) = first_fault (preorders (top ∷ []) extra (more x xs))

unfoldable pub shape_fault : Forest → Option SyntaxFault
shape_fault forest = shape_fault_of (forest_nodes forest)
