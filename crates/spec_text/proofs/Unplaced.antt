-- Whether a node has a fault depends on no place.
use Rattle.std.proofs.Common.{◌≡◌, ℕ, zero, suc, ◌+◌, ◌&&◌, Bool, true, false, nat_le, List, [], ◌∷◌, length, Option, Some, None, refl, ap, sym, ◌∙◌}
use Rattle.std.specs.Prelude.{◌||◌, is_some, if◌then◌else◌}
use Rattle.std.specs.Option.{option_map}
use Rattle.sm_io.specs.Words.{is_name}
use Rattle.spec_forest.specs.Node.{Node, Nodes, atom, list, none, more}
use Rattle.spec_forest.specs.Pieces.{node_unplaced, unplaced}
use Rattle.spec_words.specs.declared.head.Head.{Head}
use Rattle.spec_words.specs.declared.head.Head.TheVariants as head
use Rattle.spec_words.specs.Words.{scalar_of, head_of}
use Rattle.spec_words.specs.Decimals.{is_decimal, value_of}
use Rattle.spec_words.specs.Literals.{literal_of, is_numeric}
use Rattle.spec_words.specs.Words.{truth_of}
use Rattle.spec_text.specs.Shape.{SyntaxFault, bad_form, bad_name, bad_literal, Place, top, extra, first_word, declaration, field, initial, name, ty, constant, expression, decimal, number, beyond, Further, end, some, Items, count, first_number, expr_items, headed_items, items_at, has_items, is_within, behind, unless, form_fault, atom_fault, list_fault, first_places, further_place}
use Rattle.spec_text.specs.FirstFault.{or_else, fault_in, fault_among, top_fault}

some-or : (a b : Option SyntaxFault) → is_some (or_else a b) ≡ (is_some a || is_some b)
some-or None b = refl
some-or (Some f) b = refl

some-unless : (b : Bool) (f g : SyntaxFault) → is_some (unless b f) ≡ is_some (unless b g)
some-unless true f g = refl
some-unless false f g = refl

-- ---- atoms

expression-atom : (c a b : Bool) (at : ℕ) → is_some (if c then unless a (bad_literal at) else unless b (bad_name at)) ≡ is_some (if c then unless a (bad_literal 0) else unless b (bad_name 0))
expression-atom true a b at = some-unless a (bad_literal at) (bad_literal 0)
expression-atom false a b at = some-unless b (bad_name at) (bad_name 0)

atom-placed : (p : Place) (at : ℕ) (text : List ℕ) → is_some (atom_fault p at text) ≡ is_some (atom_fault p 0 text)
atom-placed top at text = refl
atom-placed extra at text = refl
atom-placed (declaration version) at text = refl
atom-placed field at text = refl
atom-placed (initial version) at text = refl
atom-placed name at text = some-unless (is_name text) (bad_name at) (bad_name 0)
atom-placed ty at text = some-unless (is_some (scalar_of text) || is_name text) (bad_name at) (bad_name 0)
atom-placed constant at text = some-unless (is_some (literal_of text)) (bad_literal at) (bad_literal 0)
atom-placed expression at text = expression-atom (is_numeric text) (is_some (literal_of text)) (is_some (truth_of text) || is_name text) at
atom-placed decimal at text = some-unless (is_decimal text) (bad_literal at) (bad_literal 0)
atom-placed (number low high) at text = some-unless (is_decimal text && (nat_le low (value_of text) && nat_le (value_of text) high)) (bad_literal at) (bad_literal 0)
atom-placed first_word at text = refl
atom-placed beyond at text = refl

-- ---- lists

count-placed : (xs : Nodes) → count (unplaced xs) ≡ count xs
count-placed none = refl
count-placed (more x xs) = ap (λ (n : ℕ). n + 1) (count-placed xs)

first-placed : (xs : Nodes) → first_number (unplaced xs) ≡ first_number xs
first-placed none = refl
first-placed (more (atom at text) xs) = refl
first-placed (more (list at ys) xs) = refl

-- which items an expression has depends on its first number alone
expr-placed : (h : Head) (xs : Nodes) → expr_items h (unplaced xs) ≡ expr_items h xs
expr-placed head.Drop xs = refl
expr-placed (head.Single h) xs = refl
expr-placed (head.Pair h) xs = refl
expr-placed head.If xs = refl
expr-placed head.Cast xs = refl
expr-placed head.Field xs = refl
expr-placed head.Array xs = refl
expr-placed head.Record xs = refl
expr-placed (head.Bounded h) xs = rw (first-placed xs) refl
expr-placed head.SinceIn xs = rw (first-placed xs) refl
expr-placed head.Clock xs = rw (first-placed xs) refl
expr-placed (head.Vote h) xs = refl
expr-placed (head.Window h) xs = refl

expr-option : (o : Option Head) (xs : Nodes) → option_map (λ h. expr_items h (unplaced xs)) o ≡ option_map (λ h. expr_items h xs) o
expr-option None xs = refl
expr-option (Some h) xs = ap (λ (i : Items). Some i) (expr-placed h xs)

headed-placed : (p : Place) (text : List ℕ) (xs : Nodes) → headed_items p text (unplaced xs) ≡ headed_items p text xs
headed-placed top text xs = refl
headed-placed extra text xs = refl
headed-placed first_word text xs = refl
headed-placed (declaration version) text xs = refl
headed-placed field text xs = refl
headed-placed (initial version) text xs = refl
headed-placed name text xs = refl
headed-placed ty text xs = refl
headed-placed constant text xs = refl
headed-placed expression text xs = expr-option (head_of text) xs
headed-placed decimal text xs = refl
headed-placed (number low high) text xs = refl
headed-placed beyond text xs = refl

items-placed : (p : Place) (xs : Nodes) → items_at p (unplaced xs) ≡ items_at p xs
items-placed field xs = refl
items-placed (initial version) xs = refl
items-placed top none = refl
items-placed top (more (list at ys) xs) = refl
items-placed top (more (atom at text) xs) = headed-placed top text xs
items-placed extra none = refl
items-placed extra (more (list at ys) xs) = refl
items-placed extra (more (atom at text) xs) = headed-placed extra text xs
items-placed first_word none = refl
items-placed first_word (more (list at ys) xs) = refl
items-placed first_word (more (atom at text) xs) = headed-placed first_word text xs
items-placed (declaration version) none = refl
items-placed (declaration version) (more (list at ys) xs) = refl
items-placed (declaration version) (more (atom at text) xs) = headed-placed (declaration version) text xs
items-placed name none = refl
items-placed name (more (list at ys) xs) = refl
items-placed name (more (atom at text) xs) = headed-placed name text xs
items-placed ty none = refl
items-placed ty (more (list at ys) xs) = refl
items-placed ty (more (atom at text) xs) = headed-placed ty text xs
items-placed constant none = refl
items-placed constant (more (list at ys) xs) = refl
items-placed constant (more (atom at text) xs) = headed-placed constant text xs
items-placed expression none = refl
items-placed expression (more (list at ys) xs) = refl
items-placed expression (more (atom at text) xs) = headed-placed expression text xs
items-placed decimal none = refl
items-placed decimal (more (list at ys) xs) = refl
items-placed decimal (more (atom at text) xs) = headed-placed decimal text xs
items-placed (number low high) none = refl
items-placed (number low high) (more (list at ys) xs) = refl
items-placed (number low high) (more (atom at text) xs) = headed-placed (number low high) text xs
items-placed beyond none = refl
items-placed beyond (more (list at ys) xs) = refl
items-placed beyond (more (atom at text) xs) = headed-placed beyond text xs

behind-placed : (p : Place) (xs : Nodes) → behind p (unplaced xs) ≡ unplaced (behind p xs)
behind-placed field xs = refl
behind-placed (initial version) xs = refl
behind-placed top none = refl
behind-placed top (more x xs) = refl
behind-placed extra none = refl
behind-placed extra (more x xs) = refl
behind-placed first_word none = refl
behind-placed first_word (more x xs) = refl
behind-placed (declaration version) none = refl
behind-placed (declaration version) (more x xs) = refl
behind-placed name none = refl
behind-placed name (more x xs) = refl
behind-placed ty none = refl
behind-placed ty (more x xs) = refl
behind-placed constant none = refl
behind-placed constant (more x xs) = refl
behind-placed expression none = refl
behind-placed expression (more x xs) = refl
behind-placed decimal none = refl
behind-placed decimal (more x xs) = refl
behind-placed (number low high) none = refl
behind-placed (number low high) (more x xs) = refl
behind-placed beyond none = refl
behind-placed beyond (more x xs) = refl

has-placed : (n : ℕ) (f : Further) (xs : Nodes) → has_items n f (unplaced xs) ≡ has_items n f xs
has-placed zero end none = refl
has-placed zero end (more x xs) = refl
has-placed zero (some least most p) xs = ap (λ (n : ℕ). nat_le least n && is_within n most) (count-placed xs)
has-placed (suc n) f none = refl
has-placed (suc n) f (more x xs) = has-placed n f xs

form-placed : (at : ℕ) (o : Option Items) (xs : Nodes) → is_some (form_fault at o xs) ≡ is_some (form_fault 0 o (unplaced xs))
form-placed at None xs = refl
form-placed at (Some all) xs =
    some-unless (has_items (length all.first) all.further xs) (bad_form at) (bad_form 0)
    ∙ ap (λ (b : Bool). is_some (unless b (bad_form 0))) (sym (has-placed (length all.first) all.further xs))

-- the fault of a list that has a form at its place
at-form : (p : Place) (at : ℕ) (xs : Nodes) → is_some (form_fault at (items_at p xs) (behind p xs)) ≡ is_some (form_fault 0 (items_at p (unplaced xs)) (behind p (unplaced xs)))
at-form p at xs =
    form-placed at (items_at p xs) (behind p xs)
    ∙ ap (λ (o : Option Items). is_some (form_fault 0 o (unplaced (behind p xs)))) (sym (items-placed p xs))
    ∙ ap (λ (ys : Nodes). is_some (form_fault 0 (items_at p (unplaced xs)) ys)) (sym (behind-placed p xs))

list-placed : (p : Place) (at : ℕ) (xs : Nodes) → is_some (list_fault p at xs) ≡ is_some (list_fault p 0 (unplaced xs))
list-placed top at xs = at-form top 0 xs
list-placed extra at xs = refl
list-placed (declaration version) at xs = at-form (declaration version) at xs
list-placed field at xs = at-form field at xs
list-placed (initial version) at xs = at-form (initial version) at xs
list-placed name at xs = refl
list-placed ty at xs = at-form ty at xs
list-placed constant at xs = at-form constant at xs
list-placed expression at xs = at-form expression at xs
list-placed decimal at xs = refl
list-placed (number low high) at xs = refl
list-placed first_word at xs = refl
list-placed beyond at xs = refl

-- ---- trees

join : (a b c e : Option SyntaxFault) → is_some a ≡ is_some c → is_some b ≡ is_some e → is_some (or_else a b) ≡ is_some (or_else c e)
join a b c e h k = some-or a b ∙ ap (λ (x : Bool). x || is_some b) h ∙ ap (λ (x : Bool). is_some c || x) k ∙ sym (some-or c e)

mutual
  fault-placed : (p : Place) (x : Node) → is_some (fault_in p x) ≡ is_some (fault_in p (node_unplaced x))
  fault-placed p (atom at text) = atom-placed p at text
  fault-placed p (list at xs) =
      join (list_fault p at xs) (fault_among (first_places p (items_at p xs)) (further_place (items_at p xs)) xs) (list_fault p 0 (unplaced xs)) (fault_among (first_places p (items_at p (unplaced xs))) (further_place (items_at p (unplaced xs))) (unplaced xs))
      (list-placed p at xs)
      (faults-placed (first_places p (items_at p xs)) (further_place (items_at p xs)) xs
      ∙ ap (λ (o : Option Items). is_some (fault_among (first_places p o) (further_place o) (unplaced xs))) (sym (items-placed p xs)))

  faults-placed : (ps : List Place) (p : Place) (xs : Nodes) → is_some (fault_among ps p xs) ≡ is_some (fault_among ps p (unplaced xs))
  faults-placed ps p none = refl
  faults-placed [] p (more x xs) = join (fault_in p x) (fault_among [] p xs) (fault_in p (node_unplaced x)) (fault_among [] p (unplaced xs)) (fault-placed p x) (faults-placed [] p xs)
  faults-placed (q ∷ ps) p (more x xs) = join (fault_in q x) (fault_among ps p xs) (fault_in q (node_unplaced x)) (fault_among ps p (unplaced xs)) (fault-placed q x) (faults-placed ps p xs)

top-placed : (xs : Nodes) → is_some (top_fault xs) ≡ is_some (top_fault (unplaced xs))
top-placed none = refl
top-placed (more x xs) = join (fault_in top x) (fault_among [] extra xs) (fault_in top (node_unplaced x)) (fault_among [] extra (unplaced xs)) (fault-placed top x) (faults-placed [] extra xs)

no-fault : (o : Option SyntaxFault) → is_some o ≡ false → o ≡ None
no-fault None h = refl
no-fault (Some f) h = absurd (cc)

-- Where the tree without places has no fault, the tree has none.
pub top-fits : (xs ys : Nodes) → unplaced xs ≡ ys → top_fault ys ≡ None → top_fault xs ≡ None
top-fits xs ys e h = no-fault (top_fault xs) (top-placed xs ∙ ap (λ (zs : Nodes). is_some (top_fault zs)) e ∙ ap (λ (o : Option SyntaxFault). is_some o) h)
