-- The types of an order are added one by one: each may follow those before it, and makes the list one entry longer.
use Rattle.std.proofs.Common.{◌≡◌, ◌<◌, ◌+◌, ℕ, List, [], ◌∷◌, ◌++◌, length, take, get_or, sym, ap, ◌∙◌, subst, arith, append-nil}
use Rattle.stream_types.specs.declared.types.TypeEntry.{TypeEntry}
use Rattle.stream_types.specs.declared.types.TypeEntry.TheVariants as entry
use Rattle.type_check.specs.declared.known.Known.{Known}
use Rattle.type_check.specs.NamedType.{NamedType, scalar, struct, array, Declarations, struct_in}
use Rattle.type_check.specs.TypeOrder.{ty_of, fields_of, entry_of, entries}
use Rattle.type_check.specs.NextEntries.{MayBeAdded, IsListable}
use Rattle.type_check.specs.Listed.{MayFollow}
use Rattle.type_check.specs.Standing.{AllMean, Means}
use Rattle.type_check.proofs.Fielding.{entries_last, IsNextType, next_type}

only : (d e : TypeEntry) → d ∷ [] ≡ e ∷ [] → d ≡ e
only d e h = ap (λ es. get_or es 0 d) h

follows : (all : Declarations) (order : List NamedType) (before : List TypeEntry) (e : TypeEntry) (t : NamedType) → MayBeAdded all order before t → e ∷ [] ≡ entry_of all order t → length before < 4294967295 → MayFollow before e
follows all order before e (scalar s) m h r = elim m [ ]
follows all order before e (struct x) m h r = subst (λ d. MayFollow before d) (sym (only e (entry.Struct x (fields_of order (struct_in all x))) h))
    (record { good = (m.parts, m.least, m.most, m.apart); new = m.fresh; narrow = m.narrow; room = r })
follows all order before e (array t n) m h r = subst (λ d. MayFollow before d) (sym (only e (entry.Array (ty_of order t) n) h))
    (record { good = (m.element, m.least, m.most); new = m.fresh; narrow = m.narrow; room = r })

-- the next type's entry may follow
pub next_follows : (names : List (List ℕ)) (all : Declarations) (order : List NamedType) (i : ℕ) (k : Known) (types : List TypeEntry) (e : TypeEntry) → IsListable all order → (x : IsNextType names order i k) → types ≡ entries all order (take i order)
    → e ∷ [] ≡ entry_of all order x.ty → MayFollow types e
next_follows names all order i k types e l x is h =
    let n = l.counts i (omega (arith, x.low)) in
    subst (λ (ts : List TypeEntry). MayFollow ts e) (sym is) (follows all order (entries all order (take i order)) e x.ty (l.each i x.ty x.at) h (omega (arith, n, x.low, l.room)))

-- the list with the next type's entry
pub entry_added : (names : List (List ℕ)) (all : Declarations) (order : List NamedType) (i : ℕ) (k : Known) (old new es : List TypeEntry) → (x : IsNextType names order i k) → old ≡ entries all order (take i order) → es ≡ entry_of all order x.ty
    → new ≡ old ++ es → new ≡ entries all order (take (i + 1) order)
entry_added names all order i k old new es x is h e =
    e ∙ ap (λ o. o ++ es) is ∙ ap (λ l. entries all order (take i order) ++ l) h ∙ sym (entries_last all order (take i order) x.ty) ∙ ap (entries all order) (sym x.taken)

-- a type without an entry
pub none_added : (names : List (List ℕ)) (all : Declarations) (order : List NamedType) (i : ℕ) (k : Known) (types : List TypeEntry) → (x : IsNextType names order i k) → types ≡ entries all order (take i order) → [] ≡ entry_of all order x.ty
    → types ≡ entries all order (take (i + 1) order)
none_added names all order i k types x is h = entry_added names all order i k types types [] x is h (sym (append-nil types))

-- the type at a place of the order, by its number in the code: its entry may follow, and makes the list one longer
pub known_follows : (names : List (List ℕ)) (all : Declarations) (order : List NamedType) (placed : List Known) (i : ℕ) (k out : Known) (types : List TypeEntry) (e : TypeEntry) → IsListable all order → AllMean names placed order → i < length placed
    → get_or placed i out ≡ k → ((t : NamedType) → Means names k t → e ∷ [] ≡ entry_of all order t) → types ≡ entries all order (take i order) → MayFollow types e
known_follows names all order placed i k out types e l ms low is f h =
    let x = next_type names placed order i k out ms low (sym is) in
    next_follows names all order i k types e l x h (f x.ty x.means)

pub known_added : (names : List (List ℕ)) (all : Declarations) (order : List NamedType) (placed : List Known) (i : ℕ) (k out : Known) (old new es : List TypeEntry) → AllMean names placed order → i < length placed → get_or placed i out ≡ k
    → ((t : NamedType) → Means names k t → es ≡ entry_of all order t) → old ≡ entries all order (take i order) → new ≡ old ++ es → new ≡ entries all order (take (i + 1) order)
known_added names all order placed i k out old new es ms low is f h e =
    let x = next_type names placed order i k out ms low (sym is) in
    entry_added names all order i k old new es x h (f x.ty x.means) e
