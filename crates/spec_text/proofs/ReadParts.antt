-- How a form is read from the nodes that match it, by how its parts are.
use Rattle.std.proofs.Common.{◌≡◌, ℕ, ◌^◌, ◌<◌, Bool, true, List, [], ◌∷◌, map, Some, None, refl, ap, sym, ◌∙◌}
use Rattle.std.proofs.lemmas.Bool.{and_parts}
use Rattle.spec_forest.specs.Node.{Node, Nodes, atom, list}
use Rattle.spec_forest.specs.Node.{none as no_node, more as more_node}
use Rattle.spec_text.specs.declared.surface.NameAt.{NameAt}
use Rattle.spec_words.specs.Decimals.{value_of}
use Rattle.spec_text.specs.Form.{Form, Forms, word, form, none, more, forms, headed, number, name_form, Matches, AllMatch}
use Rattle.spec_text.specs.KeepsTable.{all_kept}
use Rattle.spec_text.specs.Shape.{number_in}
use Rattle.spec_words.proofs.ReadBack.{value-decimal}
use Rattle.spec_text.proofs.Read.{each_in, parts_in, text_in, name_in}

-- each node that matches the form is read as the value
pub record IsRead {X : Type 0} (read : Node → X) (f : Form) (v : X) : Type 0 where
  pub by : (x : Node) → Matches f x → read x ≡ v

-- the nodes that match the forms, one after another
pub record AreRead {X : Type 0} (read : Nodes → X) (fs : Forms) (v : X) : Type 0 where
  pub by : (xs : Nodes) → AllMatch fs xs → read xs ≡ v

-- ---- atoms and lists

at-atom : {X : Type 0} (read : Node → X) (at : ℕ) (bytes : List ℕ) (v : X) → read (atom at bytes) ≡ v → (x : Node) → Matches (word (Some at) bytes) x → read x ≡ v
at-atom read at bytes v e (atom place text) m = ap (λ (t : List ℕ). read (atom place t)) m.1 ∙ ap (λ (p : ℕ). read (atom p bytes)) (sym m.0) ∙ e
at-atom read at bytes v e (list place xs) m = elim m [ ]

pub atom-is : {X : Type 0} (read : Node → X) (at : ℕ) (bytes : List ℕ) (v : X) → read (atom at bytes) ≡ v → IsRead read (word (Some at) bytes) v
atom-is read at bytes v e = record { by = at-atom read at bytes v e }

at-list : {X : Type 0} (read : Node → X) (at : ℕ) (fs : Forms) (v : X) → AreRead (λ xs. read (list at xs)) fs v → (x : Node) → Matches (form (Some at) fs) x → read x ≡ v
at-list read at fs v h (atom place text) m = elim m [ ]
at-list read at fs v h (list place xs) m = ap (λ (p : ℕ). read (list p xs)) (sym m.0) ∙ h.by xs m.1

pub list-is : {X : Type 0} (read : Node → X) (at : ℕ) {fs : Forms} {v : X} → AreRead (λ xs. read (list at xs)) fs v → IsRead read (form (Some at) fs) v
list-is read at {fs} {v} h = record { by = at-list read at fs v h }

at-any : {X : Type 0} (read : Nodes → X) (fs : Forms) (v : X) → AreRead read fs v → (x : Node) → Matches (form None fs) x → read (parts_in x) ≡ v
at-any read fs v h (atom place text) m = elim m [ ]
at-any read fs v h (list place xs) m = h.by xs m.1

-- a list whose place is not kept
pub items-are : {X : Type 0} (read : Nodes → X) {fs : Forms} {v : X} → AreRead read fs v → IsRead (λ x. read (parts_in x)) (form None fs) v
items-are read {fs} {v} h = record { by = at-any read fs v h }

-- ---- parts

at-none : {X : Type 0} (read : Nodes → X) (v : X) → read no_node ≡ v → (xs : Nodes) → AllMatch none xs → read xs ≡ v
at-none read v e no_node m = e
at-none read v e (more_node x xs) m = elim m [ ]

none-are : {X : Type 0} (read : Nodes → X) (v : X) → read no_node ≡ v → AreRead read none v
none-are read v e = record { by = at-none read v e }

at-next : {X : Type 0} (read : Nodes → X) (f : Form) (fs : Forms) (v : X) → ((x : Node) → Matches f x → AreRead (λ xs. read (more_node x xs)) fs v) → (xs : Nodes) → AllMatch (more f fs) xs → read xs ≡ v
at-next read f fs v h no_node m = elim m [ ]
at-next read f fs v h (more_node x xs) m = (h x m.0).by xs m.1

next-are : {X : Type 0} (read : Nodes → X) (f : Form) (fs : Forms) (v : X) → ((x : Node) → Matches f x → AreRead (λ xs. read (more_node x xs)) fs v) → AreRead read (more f fs) v
next-are read f fs v h = record { by = at-next read f fs v h }

-- so many parts as they are
pub many-are : {X B : Type 0} (read : Nodes → X) (rb : Nodes → B) (make : B → X) → ((xs : Nodes) → read xs ≡ make (rb xs)) → {fs : Forms} {b : B} → AreRead rb fs b → AreRead read fs (make b)
many-are read rb make e h = record { by = λ xs m. e xs ∙ ap make (h.by xs m) }

pub one-are : {X A : Type 0} (read : Nodes → X) (ra : Node → A) (make : A → X) → ((x : Node) → read (more_node x no_node) ≡ make (ra x)) → {f : Form} {a : A} → IsRead ra f a → AreRead read (more f none) (make a)
one-are read ra make e {f} {a} h = next-are read f none (make a) (λ x m. none-are (λ xs. read (more_node x xs)) (make a) (e x ∙ ap make (h.by x m)))

-- one part, and those behind it
pub front-are : {X A B : Type 0} (read : Nodes → X) (ra : Node → A) (rb : Nodes → B) (make : A → B → X) → ((x : Node) (xs : Nodes) → read (more_node x xs) ≡ make (ra x) (rb xs))
    → {f : Form} {fs : Forms} {a : A} {b : B} → IsRead ra f a → AreRead rb fs b → AreRead read (more f fs) (make a b)
front-are read ra rb make e {f} {fs} {a} {b} h k =
    next-are read f fs (make a b) (λ x m. many-are (λ xs. read (more_node x xs)) rb (make a) (λ xs. e x xs ∙ ap (λ c. make c (rb xs)) (h.by x m)) k)

pub two-are : {X A B : Type 0} (read : Nodes → X) (ra : Node → A) (rb : Node → B) (make : A → B → X) → ((x y : Node) → read (more_node x (more_node y no_node)) ≡ make (ra x) (rb y))
    → {f g : Form} {a : A} {b : B} → IsRead ra f a → IsRead rb g b → AreRead read (more f (more g none)) (make a b)
two-are read ra rb make e {f} {g} {a} {b} h k =
    next-are read f (more g none) (make a b) (λ x m. one-are (λ xs. read (more_node x xs)) rb (make a) (λ y. e x y ∙ ap (λ c. make c (rb y)) (h.by x m)) k)

-- two parts, and those behind them
pub fronts-are : {X A B C : Type 0} (read : Nodes → X) (ra : Node → A) (rb : Node → B) (rc : Nodes → C) (make : A → B → C → X)
    → ((x y : Node) (xs : Nodes) → read (more_node x (more_node y xs)) ≡ make (ra x) (rb y) (rc xs))
    → {f g : Form} {fs : Forms} {a : A} {b : B} {c : C} → IsRead ra f a → IsRead rb g b → AreRead rc fs c → AreRead read (more f (more g fs)) (make a b c)
fronts-are read ra rb rc make e {f} {g} {fs} {a} {b} {c} h k l =
    next-are read f (more g fs) (make a b c) (λ x m. front-are (λ xs. read (more_node x xs)) rb rc (make a) (λ y xs. e x y xs ∙ ap (λ v. make v (rb y) (rc xs)) (h.by x m)) k l)

pub three-are : {X A B C : Type 0} (read : Nodes → X) (ra : Node → A) (rb : Node → B) (rc : Node → C) (make : A → B → C → X)
    → ((x y z : Node) → read (more_node x (more_node y (more_node z no_node))) ≡ make (ra x) (rb y) (rc z))
    → {f g h : Form} {a : A} {b : B} {c : C} → IsRead ra f a → IsRead rb g b → IsRead rc h c → AreRead read (more f (more g (more h none))) (make a b c)
three-are read ra rb rc make e {f} {g} {h} {a} {b} {c} p q r =
    next-are read f (more g (more h none)) (make a b c) (λ x m. two-are (λ xs. read (more_node x xs)) rb rc (make a) (λ y z. e x y z ∙ ap (λ v. make v (rb y) (rc z)) (p.by x m)) q r)

pub four-are : {X A B C D : Type 0} (read : Nodes → X) (ra : Node → A) (rb : Node → B) (rc : Node → C) (rd : Node → D) (make : A → B → C → D → X)
    → ((w x y z : Node) → read (more_node w (more_node x (more_node y (more_node z no_node)))) ≡ make (ra w) (rb x) (rc y) (rd z))
    → {f g h i : Form} {a : A} {b : B} {c : C} {d : D} → IsRead ra f a → IsRead rb g b → IsRead rc h c → IsRead rd i d → AreRead read (more f (more g (more h (more i none)))) (make a b c d)
four-are read ra rb rc rd make e {f} {g} {h} {i} {a} {b} {c} {d} p q r s =
    next-are read f (more g (more h (more i none))) (make a b c d) (λ w m. three-are (λ xs. read (more_node w xs)) rb rc rd (make a) (λ x y z. e w x y z ∙ ap (λ v. make v (rb x) (rc y) (rd z)) (p.by w m)) q r s)

-- ---- a word, and the parts behind it

at-word : {X : Type 0} (read : Nodes → X) (head : List ℕ) (fs : Forms) (v : X) → ((p : ℕ) → AreRead (λ xs. read (more_node (atom p head) xs)) fs v) → (x : Node) → Matches (word None head) x → AreRead (λ xs. read (more_node x xs)) fs v
at-word read head fs v h (list p ys) m = elim m [ ]
at-word read head fs v h (atom p text) m = record { by = λ xs k. ap (λ (t : List ℕ). read (more_node (atom p t) xs)) m.1 ∙ (h p).by xs k }

pub worded-are : {X : Type 0} (read : Nodes → X) (head : List ℕ) {fs : Forms} {v : X} → ((p : ℕ) → AreRead (λ xs. read (more_node (atom p head) xs)) fs v) → AreRead read (more (word None head) fs) v
worded-are read head {fs} {v} h = next-are read (word None head) fs v (at-word read head fs v h)

pub headed-is : {X : Type 0} (read : Node → X) (at : ℕ) (head : List ℕ) {fs : Forms} {v : X} → ((p : ℕ) → AreRead (λ xs. read (list at (more_node (atom p head) xs))) fs v) → IsRead read (headed (Some at) head fs) v
headed-is read at head {fs} {v} h = list-is read at (worded-are (λ xs. read (list at xs)) head h)

-- ---- numbers and names

at-number : (n : ℕ) → n < 2 ^ 64 → (x : Node) → Matches (number n) x → number_in x ≡ n
at-number n small (atom place text) m = ap value_of m.1 ∙ value-decimal n small
at-number n small (list place xs) m = elim m [ ]

pub number-is : (n : ℕ) → n < 2 ^ 64 → IsRead number_in (number n) n
number-is n small = record { by = at-number n small }

pub name-is : (x : NameAt) → IsRead name_in (name_form x) x
name-is x = atom-is name_in x.at x.name x refl

at-text : (bytes : List ℕ) (x : Node) → Matches (word None bytes) x → text_in x ≡ bytes
at-text bytes (atom place text) m = m.1
at-text bytes (list place xs) m = elim m [ ]

pub text-is : (bytes : List ℕ) → IsRead text_in (word None bytes) bytes
text-is bytes = record { by = at-text bytes }

-- ---- items

-- a kept part is read as it is
abbrev pub Kept : {X : Type 0} → (X → Bool) → (X → Form) → (Node → X) → X → Type 0
Kept keeps as_form read x = keeps x ≡ true → IsRead read (as_form x) x

abbrev pub fst : {X : Type 0} {P : X → Type 0} → ((x : X) × P x) → X
fst e = e.0

pub each-are : {X : Type 0} (keeps : X → Bool) (as_form : X → Form) (read : Node → X) (es : List ((x : X) × Kept keeps as_form read x)) → all_kept (map keeps (map fst es)) ≡ true → AreRead (λ xs. each_in read xs) (forms (map as_form (map fst es))) (map fst es)
each-are keeps as_form read [] k = none-are (λ xs. each_in read xs) [] refl
each-are keeps as_form read (e ∷ es) k =
    let p = and_parts (keeps e.0) (all_kept (map keeps (map fst es))) k in
    front-are (λ xs. each_in read xs) read (λ xs. each_in read xs) (λ y ys. y ∷ ys) (λ x xs. refl) (e.1 p.0) (each-are keeps as_form read es p.1)

pub all-are : {X : Type 0} (keeps : X → Bool) (as_form : X → Form) (read : Node → X) → ((x : X) → Kept keeps as_form read x) → (xs : List X) → all_kept (map keeps xs) ≡ true → AreRead (λ ns. each_in read ns) (forms (map as_form xs)) xs
all-are keeps as_form read h [] k = none-are (λ ns. each_in read ns) [] refl
all-are keeps as_form read h (x ∷ xs) k =
    let p = and_parts (keeps x) (all_kept (map keeps xs)) k in
    front-are (λ ns. each_in read ns) read (λ ns. each_in read ns) (λ y ys. y ∷ ys) (λ n ns. refl) (h x p.0) (all-are keeps as_form read h xs p.1)
