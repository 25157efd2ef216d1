-- Names that are walked over in text order, and what is kept of them.
use Rattle.std.proofs.Common.{◌≡◌, ℕ, suc, ◌+◌, ◌<◌, ◌≤◌, Bool, true, false, nat_eq, cond, List, [], ◌∷◌, ◌++◌, map, drop, length, get_or, refl, sym, ap, ◌∙◌, arith, add-one}
use Rattle.std.specs.Prelude.{Option, Some, None, Result, Ok, Err, ◌||◌, ◌&&◌, not, if◌then◌else◌, bytes_eq}
use Rattle.std.specs.List.{list_any}
use Rattle.std.specs.Result.{IfOk}
use Rattle.std.specs.Option.{IfNone}
use Rattle.type_check.specs.declared.fault.TypeFault.{TypeFault}
use Rattle.std.specs.Map.{lookup}
use Rattle.std.proofs.lemmas.List.{append-nil, append_assoc, drop_more, drop_all, map_push}
use Rattle.std.proofs.lemmas.List.Folds.{list_any-append}
use Rattle.std.proofs.lemmas.Bool.Decides.{nat_tests}
use Rattle.std.specs.Cmp.Lexicographic.{nat_list_eq_equiv}
use Rattle.spec_text.specs.declared.surface.NameAt.{NameAt}
use Rattle.spec_text.specs.declared.surface.FieldForm.{FieldForm}
use Rattle.spec_text.specs.declared.surface.Decl.{Decl}
use Rattle.spec_text.specs.declared.surface.Decl.TheVariants as d
use Rattle.spec_text.specs.declared.surface.Surface.{Surface}
use Rattle.type_check.proofs.SameNames.{list_same}
use Rattle.type_check.specs.Names.{structs, fields, items, Declared, declared_as, names_of, names_from, forbids, is_redeclared, first_redeclared, name_fault}
use Rattle.type_check.specs.Seen.{clashes, IsSeen}

-- the first of two places
abbrev pub or_else : Option ℕ → Option ℕ → Option ℕ
or_else (Some at) other = Some at
or_else None other = other

-- ---- tests

or_false : (a : Bool) → (a || false) ≡ a
or_false true = refl
or_false false = refl

and_true : (a : Bool) → (a && true) ≡ a
and_true true = refl
and_true false = refl

-- what is declared once is not shared
not_shared : (a : Bool) → not (a && false && false) ≡ true
not_shared true = refl
not_shared false = refl

pub was_there : (new there : Bool) → new ≡ not there → new ≡ false → there ≡ true
was_there new true e h = refl
was_there new false e h = absurd (cc)

pub was_new : (new there : Bool) → new ≡ not there → new ≡ true → there ≡ false
was_new new true e h = absurd (cc)
was_new new false e h = refl

-- what holds whatever the answer
pub in_any_case : {P : Type 0} (r : Result (Option ℕ) TypeFault) → P → IfOk r (λ at. IfNone at P)
in_any_case (Ok None) p = p
in_any_case (Ok (Some at)) p = tt
in_any_case (Err e) p = tt

same_number : (i : ℕ) → nat_eq i i ≡ true
same_number i = grind (arith, nat_tests)

other_number : (j i : ℕ) → suc i ≤ j → nat_eq j i ≡ false
other_number j i h = grind (arith, nat_tests)

-- ---- the first that is declared again

chosen : (r : Bool) (at : ℕ) (f g h : Option ℕ) → f ≡ or_else g h → (if r then Some at else f) ≡ or_else (if r then Some at else g) h
chosen true at f g h e = refl
chosen false at f g h e = e

pub first-append : (v : ℕ) (b xs ys : List Declared) → first_redeclared v b (xs ++ ys) ≡ or_else (first_redeclared v b xs) (first_redeclared v (b ++ xs) ys)
first-append v b [] ys = ap (λ b. first_redeclared v b ys) (sym (append-nil b))
first-append v b (x ∷ xs) ys =
    chosen (is_redeclared v b x) x.at _ _ _
    (first-append v (b ++ x ∷ []) xs ys ∙ ap (λ c. or_else (first_redeclared v (b ++ x ∷ []) xs) (first_redeclared v c ys)) (append_assoc b (x ∷ []) xs))

-- ---- fields

-- the fields of declaration i
abbrev pub field_names : ℕ → List FieldForm → List Declared
field_names i fs = map (λ (f : FieldForm). declared_as (fields i) f.name false) fs

abbrev pub field_name : FieldForm → List ℕ
field_name f = f.name.name

field_forbids : (v i : ℕ) (x : NameAt) (f : FieldForm) → forbids v (declared_as (fields i) x false) (declared_as (fields i) f.name false) ≡ bytes_eq x.name f.name.name
field_forbids v i x f =
    ap (λ b. b && bytes_eq x.name f.name.name && not (nat_eq v 2 && false && false)) (same_number i)
    ∙ ap (λ b. bytes_eq x.name f.name.name && b) (not_shared (nat_eq v 2))
    ∙ and_true (bytes_eq x.name f.name.name)

field_seen : (v i : ℕ) (x : NameAt) (done : List FieldForm) → is_redeclared v (field_names i done) (declared_as (fields i) x false) ≡ list_any (bytes_eq x.name) (map field_name done)
field_seen v i x [] = refl
field_seen v i x (f ∷ fs) = let a = field_forbids v i x f in let b = field_seen v i x fs in cc

if_true : (r : Bool) (x y : Option ℕ) → r ≡ true → (if r then x else y) ≡ x
if_true true x y h = refl
if_true false x y h = absurd (cc)

if_false : (r : Bool) (x y : Option ℕ) → r ≡ false → (if r then x else y) ≡ y
if_false true x y h = absurd (cc)
if_false false x y h = refl

pub twin_old : (v i : ℕ) (done : List FieldForm) (f : FieldForm) (rest : List FieldForm) → list_any (bytes_eq f.name.name) (map field_name done) ≡ true → first_redeclared v (field_names i done) (field_names i (f ∷ rest)) ≡ Some f.name.at
twin_old v i done f rest h = if_true (is_redeclared v (field_names i done) (declared_as (fields i) f.name false)) _ _ (field_seen v i f.name done ∙ h)

field_names-append : (i : ℕ) (xs ys : List FieldForm) → field_names i (xs ++ ys) ≡ field_names i xs ++ field_names i ys
field_names-append i [] ys = refl
field_names-append i (x ∷ xs) ys = ap (λ r. declared_as (fields i) x.name false ∷ r) (field_names-append i xs ys)

pub twin_new : (v i : ℕ) (done : List FieldForm) (f : FieldForm) (rest : List FieldForm) → list_any (bytes_eq f.name.name) (map field_name done) ≡ false → first_redeclared v (field_names i done) (field_names i (f ∷ rest)) ≡ first_redeclared v (field_names i (done ++ f ∷ [])) (field_names i rest)
twin_new v i done f rest h =
    if_false (is_redeclared v (field_names i done) (declared_as (fields i) f.name false)) _ _ (field_seen v i f.name done ∙ h)
    ∙ ap (λ b. first_redeclared v b (field_names i rest)) (sym (field_names-append i done (f ∷ [])))

-- the names of the first k fields are seen, and differ
pub record IsTwinless (members : List FieldForm) (k : ℕ) (names : List (List ℕ)) : Type 0 where
  pub done : List FieldForm
  pub seen_are : names ≡ map field_name done
  pub rest : (v i : ℕ) → first_redeclared v [] (field_names i members) ≡ first_redeclared v (field_names i done) (field_names i (drop k members))

pub twinless_none : (members : List FieldForm) → IsTwinless members 0 []
twinless_none members = record { done = []; seen_are = refl; rest = λ v i. refl }

twinless_at : (members : List FieldForm) (k : ℕ) (names : List (List ℕ)) (h : IsTwinless members k names) (f : FieldForm) → k < length members → f ≡ get_or members k f
    → (v i : ℕ) → first_redeclared v [] (field_names i members) ≡ first_redeclared v (field_names i h.done) (field_names i (f ∷ drop (k + 1) members))
twinless_at members k names h f lt e v i =
    h.rest v i
    ∙ ap (λ fs. first_redeclared v (field_names i h.done) (field_names i fs)) (drop_more members k f lt)
    ∙ ap (λ (g : FieldForm). first_redeclared v (field_names i h.done) (field_names i (g ∷ drop (k + 1) members))) (sym e)

pub twinless_fault : (members : List FieldForm) (k : ℕ) (names : List (List ℕ)) → IsTwinless members k names → (f : FieldForm) → k < length members → f ≡ get_or members k f
    → list_any (bytes_eq f.name.name) names ≡ true → (v i : ℕ) → Some f.name.at ≡ first_redeclared v [] (field_names i members)
twinless_fault members k names h f lt e old v i =
    sym (twinless_at members k names h f lt e v i ∙ twin_old v i h.done f (drop (k + 1) members) (ap (list_any (bytes_eq f.name.name)) (sym h.seen_are) ∙ old))

pub twinless_more : (members : List FieldForm) (k : ℕ) (names : List (List ℕ)) → IsTwinless members k names → (f : FieldForm) → k < length members → f ≡ get_or members k f
    → list_any (bytes_eq f.name.name) names ≡ false → IsTwinless members (k + 1) (names ++ f.name.name ∷ [])
twinless_more members k names h f lt e new = record {
  done = h.done ++ f ∷ [];
  seen_are = ap (λ ns. ns ++ f.name.name ∷ []) h.seen_are ∙ sym (map_push field_name h.done f);
  rest = λ v i. twinless_at members k names h f lt e v i ∙ twin_new v i h.done f (drop (k + 1) members) (ap (list_any (bytes_eq f.name.name)) (sym h.seen_are) ∙ new);
}

pub twinless_all : (members : List FieldForm) (k : ℕ) (names : List (List ℕ)) → IsTwinless members k names → length members ≤ k → (v i : ℕ) → None ≡ first_redeclared v [] (field_names i members)
twinless_all members k names h le v i = sym (h.rest v i ∙ ap (λ fs. first_redeclared v (field_names i h.done) (field_names i fs)) (drop_all k members le))

-- names of other spaces forbid no field
fields_apart : (v i : ℕ) (before done : List Declared) (fs : List FieldForm) → ((x : NameAt) → is_redeclared v before (declared_as (fields i) x false) ≡ false) → first_redeclared v (before ++ done) (field_names i fs) ≡ first_redeclared v done (field_names i fs)
fields_apart v i before done [] h = refl
fields_apart v i before done (f ∷ fs) h =
    let x = declared_as (fields i) f.name false in
    let here : is_redeclared v (before ++ done) x ≡ is_redeclared v done x = list_any-append (forbids v x) before done ∙ ap (λ b. b || is_redeclared v done x) (h f.name) in
    ap (λ b. if b then Some f.name.at else first_redeclared v ((before ++ done) ++ x ∷ []) (field_names i fs)) here
    ∙ ap (λ r. if is_redeclared v done x then Some f.name.at else r) (ap (λ b. first_redeclared v b (field_names i fs)) (append_assoc before done (x ∷ [])) ∙ fields_apart v i before (done ++ x ∷ []) fs h)

-- ---- what is kept of the names

pub nothing_seen : (v : ℕ) → IsSeen v [] 0 [] []
nothing_seen v = record { structs_are = λ x. refl; items_are = λ x t. refl; fields_are = λ j x h. refl }

pub seen_later : (v : ℕ) (before : List Declared) (i : ℕ) (ss : List (List ℕ)) (is : List (List ℕ × Bool)) → IsSeen v before i ss is → IsSeen v before (i + 1) ss is
seen_later v before i ss is h = record { structs_are = h.structs_are; items_are = h.items_are; fields_are = λ j x le. h.fields_are j x (omega arith) }

-- an item's name

item_old : (v : ℕ) (before : List Declared) (i : ℕ) (ss : List (List ℕ)) (is : List (List ℕ × Bool)) (x : NameAt) (t r : Bool) → IsSeen v before i ss is → r ≡ clashes (nat_eq v 2 && t) (lookup (bytes_eq x.name) is) → first_redeclared v before (declared_as items x t ∷ []) ≡ (if r then Some x.at else None)
item_old v before i ss is x t r h e = ap (λ b. if b then Some x.at else None) (h.items_are x t ∙ sym e)

pub item_again : (v : ℕ) (before : List Declared) (i : ℕ) (ss : List (List ℕ)) (is : List (List ℕ × Bool)) (x : NameAt) (t : Bool) → IsSeen v before i ss is → clashes (nat_eq v 2 && t) (lookup (bytes_eq x.name) is) ≡ true → first_redeclared v before (declared_as items x t ∷ []) ≡ Some x.at
item_again v before i ss is x t h e = item_old v before i ss is x t true h (sym e)

pub item_new : (v : ℕ) (before : List Declared) (i : ℕ) (ss : List (List ℕ)) (is : List (List ℕ × Bool)) (x : NameAt) (t : Bool) → IsSeen v before i ss is → clashes (nat_eq v 2 && t) (lookup (bytes_eq x.name) is) ≡ false → first_redeclared v before (declared_as items x t ∷ []) ≡ None
item_new v before i ss is x t h e = item_old v before i ss is x t false h (sym e)

-- a later item of the same name, where the new one was not forbidden
later_shares : (two t u : Bool) (earlier : Option Bool) → clashes (two && t) earlier ≡ false → (clashes (two && u) earlier || (not (two && u && t) || false)) ≡ not ((two && u) && (two && t))
later_shares true true true None h = refl
later_shares true true false None h = refl
later_shares true false true None h = refl
later_shares true false false None h = refl
later_shares false t u None h = refl
later_shares true true true (Some true) h = refl
later_shares true true false (Some true) h = refl
later_shares true true u (Some false) h = absurd (cc)
later_shares true false u (Some s) h = absurd (cc)
later_shares false t u (Some s) h = absurd (cc)

-- the item is of that name, or of another
item_after : (v : ℕ) (before : List Declared) (i : ℕ) (ss : List (List ℕ)) (is is' : List (List ℕ × Bool)) (x : NameAt) (t : Bool) → IsSeen v before i ss is
    → clashes (nat_eq v 2 && t) (lookup (bytes_eq x.name) is) ≡ false
    → ((q : List ℕ) → lookup (bytes_eq q) is' ≡ cond (bytes_eq x.name q) (Some (nat_eq v 2 && t)) (lookup (bytes_eq q) is))
    → (y : NameAt) (u : Bool)
    → (is_redeclared v before (declared_as items y u) || (bytes_eq y.name x.name && not (nat_eq v 2 && u && t) || false)) ≡ clashes (nat_eq v 2 && u) (lookup (bytes_eq y.name) is')
item_after v before i ss is is' x t h free put y u = by (bytes_eq y.name x.name) refl
  where
    by : (b : Bool) → bytes_eq y.name x.name ≡ b → (is_redeclared v before (declared_as items y u) || (bytes_eq y.name x.name && not (nat_eq v 2 && u && t) || false)) ≡ clashes (nat_eq v 2 && u) (lookup (bytes_eq y.name) is')
    by true e =
        let same : y.name ≡ x.name = list_same y.name x.name e in
        let a : is_redeclared v before (declared_as items y u) ≡ clashes (nat_eq v 2 && u) (lookup (bytes_eq x.name) is) = h.items_are y u ∙ ap (λ n. clashes (nat_eq v 2 && u) (lookup (bytes_eq n) is)) same in
        let p : lookup (bytes_eq y.name) is' ≡ Some (nat_eq v 2 && t) = put y.name ∙ ap (λ b. cond b (Some (nat_eq v 2 && t)) (lookup (bytes_eq y.name) is)) (ap (λ n. bytes_eq n y.name) (sym same) ∙ nat_list_eq_equiv.refl y.name) in
        ap (λ b. is_redeclared v before (declared_as items y u) || (b && not (nat_eq v 2 && u && t) || false)) e
        ∙ ap (λ b. b || (not (nat_eq v 2 && u && t) || false)) a
        ∙ later_shares (nat_eq v 2) t u (lookup (bytes_eq x.name) is) free
        ∙ ap (clashes (nat_eq v 2 && u)) (sym p)
    by false e =
        let p : lookup (bytes_eq y.name) is' ≡ lookup (bytes_eq y.name) is = put y.name ∙ ap (λ b. cond b (Some (nat_eq v 2 && t)) (lookup (bytes_eq y.name) is)) (nat_list_eq_equiv.symm x.name y.name ∙ e) in
        ap (λ b. is_redeclared v before (declared_as items y u) || (b && not (nat_eq v 2 && u && t) || false)) e
        ∙ or_false (is_redeclared v before (declared_as items y u))
        ∙ h.items_are y u
        ∙ ap (clashes (nat_eq v 2 && u)) (sym p)

pub item_seen : (v : ℕ) (before : List Declared) (i : ℕ) (ss : List (List ℕ)) (is is' : List (List ℕ × Bool)) (x : NameAt) (t : Bool) → IsSeen v before i ss is
    → clashes (nat_eq v 2 && t) (lookup (bytes_eq x.name) is) ≡ false
    → ((q : List ℕ) → lookup (bytes_eq q) is' ≡ cond (bytes_eq x.name q) (Some (nat_eq v 2 && t)) (lookup (bytes_eq q) is))
    → IsSeen v (before ++ declared_as items x t ∷ []) i ss is'
item_seen v before i ss is is' x t h free put = record {
  structs_are = λ y. list_any-append (forbids v (declared_as structs y false)) before (declared_as items x t ∷ []) ∙ or_false _ ∙ h.structs_are y;
  items_are = λ y u. list_any-append (forbids v (declared_as items y u)) before (declared_as items x t ∷ []) ∙ item_after v before i ss is is' x t h free put y u;
  fields_are = λ j y le. list_any-append (forbids v (declared_as (fields j) y false)) before (declared_as items x t ∷ []) ∙ or_false _ ∙ h.fields_are j y le;
}

-- a struct's names

struct_forbids : (v : ℕ) (y x : NameAt) → forbids v (declared_as structs y false) (declared_as structs x false) ≡ bytes_eq y.name x.name
struct_forbids v y x = ap (λ b. bytes_eq y.name x.name && b) (not_shared (nat_eq v 2)) ∙ and_true (bytes_eq y.name x.name)

pub struct_again : (v : ℕ) (before : List Declared) (i : ℕ) (ss : List (List ℕ)) (is : List (List ℕ × Bool)) (at : ℕ) (x : NameAt) (fs : List FieldForm) → IsSeen v before i ss is → list_any (bytes_eq x.name) ss ≡ true → first_redeclared v before (names_of i (d.Struct at x fs)) ≡ Some x.at
struct_again v before i ss is at x fs h e = if_true (is_redeclared v before (declared_as structs x false)) _ _ (h.structs_are x ∙ e)

pub struct_new : (v : ℕ) (before : List Declared) (i : ℕ) (ss : List (List ℕ)) (is : List (List ℕ × Bool)) (at : ℕ) (x : NameAt) (fs : List FieldForm) → IsSeen v before i ss is → list_any (bytes_eq x.name) ss ≡ false → first_redeclared v before (names_of i (d.Struct at x fs)) ≡ first_redeclared v [] (field_names i fs)
struct_new v before i ss is at x fs h e =
    let s = declared_as structs x false in
    if_false (is_redeclared v before s) _ _ (h.structs_are x ∙ e)
    ∙ ap (λ b. first_redeclared v b (field_names i fs)) (sym (append-nil (before ++ s ∷ [])))
    ∙ fields_apart v i (before ++ s ∷ []) [] fs (λ y. list_any-append (forbids v (declared_as (fields i) y false)) before (s ∷ []) ∙ or_false _ ∙ h.fields_are i y (omega arith))

structs_pass : (v i : ℕ) (y : NameAt) (fs : List FieldForm) → is_redeclared v (field_names i fs) (declared_as structs y false) ≡ false
structs_pass v i y [] = refl
structs_pass v i y (f ∷ fs) = structs_pass v i y fs

items_pass : (v i : ℕ) (y : NameAt) (u : Bool) (fs : List FieldForm) → is_redeclared v (field_names i fs) (declared_as items y u) ≡ false
items_pass v i y u [] = refl
items_pass v i y u (f ∷ fs) = items_pass v i y u fs

later_fields_pass : (v i j : ℕ) (y : NameAt) (fs : List FieldForm) → suc i ≤ j → is_redeclared v (field_names i fs) (declared_as (fields j) y false) ≡ false
later_fields_pass v i j y [] le = refl
later_fields_pass v i j y (f ∷ fs) le =
    ap (λ b. b && bytes_eq y.name f.name.name && not (nat_eq v 2 && false && false) || is_redeclared v (field_names i fs) (declared_as (fields j) y false)) (other_number j i le)
    ∙ later_fields_pass v i j y fs le

pub struct_seen : (v : ℕ) (before : List Declared) (i : ℕ) (ss : List (List ℕ)) (is : List (List ℕ × Bool)) (at : ℕ) (x : NameAt) (fs : List FieldForm) → IsSeen v before i ss is → IsSeen v (before ++ names_of i (d.Struct at x fs)) (i + 1) (ss ++ x.name ∷ []) is
struct_seen v before i ss is at x fs h = record {
  structs_are = λ y.
      let new = declared_as structs y false in
      list_any-append (forbids v new) before (names_of i (d.Struct at x fs))
      ∙ ap (λ b. is_redeclared v before new || (forbids v new (declared_as structs x false) || b)) (structs_pass v i y fs)
      ∙ ap (λ b. is_redeclared v before new || (b || false)) (struct_forbids v y x)
      ∙ ap (λ b. b || (bytes_eq y.name x.name || false)) (h.structs_are y)
      ∙ sym (list_any-append (bytes_eq y.name) ss (x.name ∷ []));
  items_are = λ y u.
      let new = declared_as items y u in
      list_any-append (forbids v new) before (names_of i (d.Struct at x fs))
      ∙ ap (λ b. is_redeclared v before new || b) (items_pass v i y u fs)
      ∙ or_false _
      ∙ h.items_are y u;
  fields_are = λ j y le.
      let new = declared_as (fields j) y false in
      list_any-append (forbids v new) before (names_of i (d.Struct at x fs))
      ∙ ap (λ b. is_redeclared v before new || b) (later_fields_pass v i j y fs (omega arith))
      ∙ or_false _
      ∙ h.fields_are j y (omega arith);
}

-- ---- the walk over the declarations

-- the names of the first i declarations are seen, and the first fault is the first of the rest
pub record IsWalked (s : Surface) (i : ℕ) (ss : List (List ℕ)) (is : List (List ℕ × Bool)) : Type 0 where
  pub before : List Declared
  pub seen : IsSeen s.version before i ss is
  pub rest : name_fault s ≡ first_redeclared s.version before (names_from i (drop i s.decls))

pub walked_none : (s : Surface) → IsWalked s 0 [] []
unfolding name_fault
walked_none s = record { before = []; seen = nothing_seen s.version; rest = refl }

-- the rest, from a declaration on
walked_at : (s : Surface) (i : ℕ) (ss : List (List ℕ)) (is : List (List ℕ × Bool)) (h : IsWalked s i ss is) (x : Decl) → i < length s.decls → x ≡ get_or s.decls i x
    → name_fault s ≡ or_else (first_redeclared s.version h.before (names_of i x)) (first_redeclared s.version (h.before ++ names_of i x) (names_from (i + 1) (drop (i + 1) s.decls)))
walked_at s i ss is h x lt e =
    h.rest
    ∙ ap (λ ds. first_redeclared s.version h.before (names_from i ds)) (drop_more s.decls i x lt)
    ∙ ap (λ y. first_redeclared s.version h.before (names_of i y ++ names_from (suc i) (drop (i + 1) s.decls))) (sym e)
    ∙ first-append s.version h.before (names_of i x) (names_from (suc i) (drop (i + 1) s.decls))
    ∙ ap (λ k. or_else (first_redeclared s.version h.before (names_of i x)) (first_redeclared s.version (h.before ++ names_of i x) (names_from k (drop (i + 1) s.decls)))) (sym (add-one i))

pub walked_more : (s : Surface) (i : ℕ) (ss ss' : List (List ℕ)) (is is' : List (List ℕ × Bool)) (h : IsWalked s i ss is) (x : Decl) → i < length s.decls → x ≡ get_or s.decls i x
    → None ≡ first_redeclared s.version h.before (names_of i x) → IsSeen s.version (h.before ++ names_of i x) (i + 1) ss' is' → IsWalked s (i + 1) ss' is'
walked_more s i ss ss' is is' h x lt e none seen = record {
  before = h.before ++ names_of i x;
  seen = seen;
  rest = walked_at s i ss is h x lt e ∙ ap (λ o. or_else o (first_redeclared s.version (h.before ++ names_of i x) (names_from (i + 1) (drop (i + 1) s.decls)))) (sym none);
}

pub walked_fault : (s : Surface) (i : ℕ) (ss : List (List ℕ)) (is : List (List ℕ × Bool)) (h : IsWalked s i ss is) (x : Decl) (at : ℕ) → i < length s.decls → x ≡ get_or s.decls i x
    → Some at ≡ first_redeclared s.version h.before (names_of i x) → Some at ≡ name_fault s
walked_fault s i ss is h x at lt e found =
    sym (walked_at s i ss is h x lt e ∙ ap (λ o. or_else o (first_redeclared s.version (h.before ++ names_of i x) (names_from (i + 1) (drop (i + 1) s.decls)))) (sym found))

pub walked_all : (s : Surface) (i : ℕ) (ss : List (List ℕ)) (is : List (List ℕ × Bool)) → IsWalked s i ss is → length s.decls ≤ i → None ≡ name_fault s
walked_all s i ss is h le = sym (h.rest ∙ ap (λ ds. first_redeclared s.version h.before (names_from i ds)) (drop_all i s.decls le))
