-- How often a name is declared in a text without a fault of names.
use Rattle.std.proofs.Common.{◌≡◌, ℕ, zero, suc, ◌+◌, ◌≤◌, Bool, true, false, nat_eq, List, [], ◌∷◌, ◌++◌, map, refl, sym, ap, ◌∙◌, subst, arith}
use Rattle.std.specs.Prelude.{◌&&◌, ◌||◌, not, if◌then◌else◌, bytes_eq, slice_get, Option, Some, None, IsTrue}
use Rattle.std.specs.List.{list_any}
use Rattle.std.proofs.lemmas.List.Folds.{list_any-append}
use Rattle.std.specs.Cmp.Lexicographic.{nat_list_eq_equiv}
use Rattle.spec_text.specs.declared.surface.NameAt.{NameAt}
use Rattle.spec_text.specs.declared.surface.FieldForm.{FieldForm}
use Rattle.spec_text.specs.declared.surface.Decl.{Decl}
use Rattle.spec_text.specs.declared.surface.Decl.TheVariants as d
use Rattle.spec_text.specs.declared.surface.Surface.{Surface}
use Rattle.type_check.specs.Names.{Declared, items, declared_as, names_of, names_from, forbids, is_redeclared, first_redeclared, name_fault}
use Rattle.type_check.proofs.Redeclarations.{or_else, first-append}
use Rattle.type_check.proofs.SameNames.{list_same}
use Rattle.typed_text.specs.ReadSpec.{extern_names, stream_names, def_names}

-- ---- how often a name is in a list

abbrev pub one_if : Bool → ℕ
one_if true = 1
one_if false = 0

abbrev pub times : List ℕ → List (List ℕ) → ℕ
times x [] = 0
times x (y ∷ ys) = one_if (bytes_eq x y) + times x ys

pub times-append : (x : List ℕ) (ys zs : List (List ℕ)) → times x (ys ++ zs) ≡ times x ys + times x zs
times-append x [] zs = omega arith
times-append x (y ∷ ys) zs = let e : times x (ys ++ zs) ≡ times x ys + times x zs = times-append x ys zs in omega (arith, e)

-- a name at some place is there once at least
pub times_some : (x : List ℕ) (ys : List (List ℕ)) (i : ℕ) → slice_get ys i ≡ Some x → 1 ≤ times x ys
times_some x [] i h = absurd (cc)
times_some x (y ∷ ys) zero h =
    let e : y ≡ x = cc in
    let f : one_if (bytes_eq x y) ≡ 1 = ap (λ z. one_if (bytes_eq x z)) e ∙ ap one_if (nat_list_eq_equiv.refl x) in omega (arith, f)
times_some x (y ∷ ys) (suc i) h = let f = times_some x ys i h in omega (arith, f)

-- a name that is there once at most is at one place
pub one_place : (x : List ℕ) (ys : List (List ℕ)) (i j : ℕ) → times x ys ≤ 1 → slice_get ys i ≡ Some x → slice_get ys j ≡ Some x → i ≡ j
one_place x [] i j h p q = absurd (cc)
one_place x (y ∷ ys) zero zero h p q = refl
one_place x (y ∷ ys) zero (suc j) h p q = absurd (
    let e : y ≡ x = cc in
    let f : one_if (bytes_eq x y) ≡ 1 = ap (λ z. one_if (bytes_eq x z)) e ∙ ap one_if (nat_list_eq_equiv.refl x) in
    let g = times_some x ys j q in omega (arith, f, g, h))
one_place x (y ∷ ys) (suc i) zero h p q = absurd (
    let e : y ≡ x = cc in
    let f : one_if (bytes_eq x y) ≡ 1 = ap (λ z. one_if (bytes_eq x z)) e ∙ ap one_if (nat_list_eq_equiv.refl x) in
    let g = times_some x ys i p in omega (arith, f, g, h))
one_place x (y ∷ ys) (suc i) (suc j) h p q = ap suc (one_place x ys i j (omega (arith, h)) p q)

-- ---- the names of a text by their kinds

abbrev pub observer_names : List Decl → List (List ℕ)
observer_names [] = []
observer_names (d.Observer at x e ∷ ds) = x.name ∷ observer_names ds
observer_names (_ ∷ ds) = observer_names ds

abbrev pub trigger_names : List Decl → List (List ℕ)
trigger_names [] = []
trigger_names (d.Trigger at x guard args ∷ ds) = x.name ∷ trigger_names ds
trigger_names (_ ∷ ds) = trigger_names ds

-- those that are no triggers, in text order
abbrev pub item_names : List Decl → List (List ℕ)
item_names [] = []
item_names (d.Struct at x fields ∷ ds) = item_names ds
item_names (d.Extern at x ty ∷ ds) = x.name ∷ item_names ds
item_names (d.Stream at x ty init e ∷ ds) = x.name ∷ item_names ds
item_names (d.Def at x ty e ∷ ds) = x.name ∷ item_names ds
item_names (d.Trigger at x guard args ∷ ds) = item_names ds
item_names (d.Observer at x e ∷ ds) = x.name ∷ item_names ds

pub by_kinds : (x : List ℕ) (ds : List Decl) → times x (item_names ds) ≡ times x (extern_names ds) + times x (stream_names ds) + times x (def_names ds) + times x (observer_names ds)
by_kinds x [] = refl
by_kinds x (d.Struct at y fields ∷ ds) = by_kinds x ds
by_kinds x (d.Extern at y ty ∷ ds) = let e = by_kinds x ds in omega (arith, e)
by_kinds x (d.Stream at y ty init e ∷ ds) = let f = by_kinds x ds in omega (arith, f)
by_kinds x (d.Def at y ty e ∷ ds) = let f = by_kinds x ds in omega (arith, f)
by_kinds x (d.Trigger at y guard args ∷ ds) = by_kinds x ds
by_kinds x (d.Observer at y e ∷ ds) = let f = by_kinds x ds in omega (arith, f)

-- ---- names that may not be declared again

-- by no item of this kind
record IsTaken (v : ℕ) (before : List Declared) (x : List ℕ) (trigger : Bool) : Type 0 where
  again : (y : NameAt) → y.name ≡ x → is_redeclared v before (declared_as items y trigger) ≡ true

or_left : (a b : Bool) → a ≡ true → (a || b) ≡ true
or_left true b h = refl
or_left false b h = absurd (cc)

or_right : (a b : Bool) → b ≡ true → (a || b) ≡ true
or_right true b h = refl
or_right false b h = h

taken_on : (v : ℕ) (before more : List Declared) (x : List ℕ) (t : Bool) → IsTaken v before x t → IsTaken v (before ++ more) x t
taken_on v before more x t h = record { again = λ y e. list_any-append (forbids v (declared_as items y t)) before more ∙ or_left (is_redeclared v before (declared_as items y t)) (is_redeclared v more (declared_as items y t)) (h.again y e) }

-- of two items of one name, one of which is no trigger
unshared : (t u : Bool) → (t && u) ≡ false → (two : Bool) → not (two && t && u) ≡ true
unshared t u e true = ap not e
unshared t u e false = refl

taken_now : (v : ℕ) (before : List Declared) (y : NameAt) (x : List ℕ) (t u : Bool) → (t && u) ≡ false → bytes_eq x y.name ≡ true → IsTaken v (before ++ declared_as items y u ∷ []) x t
taken_now v before y x t u e h = record {
  again = λ z same.
      list_any-append (forbids v (declared_as items z t)) before (declared_as items y u ∷ [])
      ∙ or_right (is_redeclared v before (declared_as items z t)) (is_redeclared v (declared_as items y u ∷ []) (declared_as items z t))
      (or_left (forbids v (declared_as items z t) (declared_as items y u)) false
      (ap (λ b. b && not (nat_eq v 2 && t && u)) (ap (λ n. bytes_eq n y.name) same ∙ h) ∙ unshared t u e (nat_eq v 2)));
}

-- ---- names without a fault

if_none : (r : Bool) (at : ℕ) (o : Option ℕ) → (if r then Some at else o) ≡ None → (r ≡ false) × (o ≡ None)
if_none true at o h = absurd (cc)
if_none false at o h = (refl, h)

else_none : (o r : Option ℕ) → or_else o r ≡ None → r ≡ None
else_none None r h = h
else_none (Some at) r h = absurd (cc)

-- behind some names without a fault
behind : (v : ℕ) (before xs ys : List Declared) → first_redeclared v before (xs ++ ys) ≡ None → first_redeclared v (before ++ xs) ys ≡ None
behind v before xs ys h = else_none (first_redeclared v before xs) (first_redeclared v (before ++ xs) ys) (sym (first-append v before xs ys) ∙ h)

other_name : (v : ℕ) (before : List Declared) (y : NameAt) (x : List ℕ) (t : Bool) → IsTaken v before x t → is_redeclared v before (declared_as items y t) ≡ false → (b : Bool) → bytes_eq x y.name ≡ b → one_if b ≡ 0
other_name v before y x t h e true g = absurd (let f = h.again y (sym (list_same x y.name g)) in let no : true ≡ false = sym f ∙ e in cc)
other_name v before y x t h e false g = refl

none_again : (v : ℕ) (before : List Declared) (i : ℕ) (xs : List Decl) (x : List ℕ) → IsTaken v before x false → first_redeclared v before (names_from i xs) ≡ None → times x (item_names xs) ≡ 0
none_again v before i [] x h f = refl
none_again v before i (d.Struct at y fields ∷ xs) x h f = let ns = names_of i (d.Struct at y fields) in none_again v (before ++ ns) (suc i) xs x (taken_on v before ns x false h) (behind v before ns (names_from (suc i) xs) f)
none_again v before i (d.Trigger at y guard args ∷ xs) x h f = let ns = names_of i (d.Trigger at y guard args) in none_again v (before ++ ns) (suc i) xs x (taken_on v before ns x false h) (behind v before ns (names_from (suc i) xs) f)
none_again v before i (d.Extern at y ty ∷ xs) x h f =
    let n = declared_as items y false in
    let p = if_none (is_redeclared v before n) y.at (first_redeclared v (before ++ n ∷ []) (names_from (suc i) xs)) f in
    let a = other_name v before y x false h p.0 (bytes_eq x y.name) refl in
    let b = none_again v (before ++ n ∷ []) (suc i) xs x (taken_on v before (n ∷ []) x false h) p.1 in omega (arith, a, b)
none_again v before i (d.Stream at y ty init e ∷ xs) x h f =
    let n = declared_as items y false in
    let p = if_none (is_redeclared v before n) y.at (first_redeclared v (before ++ n ∷ []) (names_from (suc i) xs)) f in
    let a = other_name v before y x false h p.0 (bytes_eq x y.name) refl in
    let b = none_again v (before ++ n ∷ []) (suc i) xs x (taken_on v before (n ∷ []) x false h) p.1 in omega (arith, a, b)
none_again v before i (d.Def at y ty e ∷ xs) x h f =
    let n = declared_as items y false in
    let p = if_none (is_redeclared v before n) y.at (first_redeclared v (before ++ n ∷ []) (names_from (suc i) xs)) f in
    let a = other_name v before y x false h p.0 (bytes_eq x y.name) refl in
    let b = none_again v (before ++ n ∷ []) (suc i) xs x (taken_on v before (n ∷ []) x false h) p.1 in omega (arith, a, b)
none_again v before i (d.Observer at y e ∷ xs) x h f =
    let n = declared_as items y false in
    let p = if_none (is_redeclared v before n) y.at (first_redeclared v (before ++ n ∷ []) (names_from (suc i) xs)) f in
    let a = other_name v before y x false h p.0 (bytes_eq x y.name) refl in
    let b = none_again v (before ++ n ∷ []) (suc i) xs x (taken_on v before (n ∷ []) x false h) p.1 in omega (arith, a, b)

-- an item, and those behind it
one_at_most : (v : ℕ) (before : List Declared) (i : ℕ) (y : NameAt) (xs : List Decl) (x : List ℕ) → first_redeclared v (before ++ declared_as items y false ∷ []) (names_from (suc i) xs) ≡ None → times x (item_names xs) ≤ 1
    → (b : Bool) → bytes_eq x y.name ≡ b → one_if b + times x (item_names xs) ≤ 1
one_at_most v before i y xs x f h true e = let z = none_again v (before ++ declared_as items y false ∷ []) (suc i) xs x (taken_now v before y x false false refl e) f in omega (arith, z)
one_at_most v before i y xs x f h false e = omega (arith, h)

once_from : (v : ℕ) (before : List Declared) (i : ℕ) (xs : List Decl) (x : List ℕ) → first_redeclared v before (names_from i xs) ≡ None → times x (item_names xs) ≤ 1
once_from v before i [] x f = omega arith
once_from v before i (d.Struct at y fields ∷ xs) x f = let ns = names_of i (d.Struct at y fields) in once_from v (before ++ ns) (suc i) xs x (behind v before ns (names_from (suc i) xs) f)
once_from v before i (d.Trigger at y guard args ∷ xs) x f = let ns = names_of i (d.Trigger at y guard args) in once_from v (before ++ ns) (suc i) xs x (behind v before ns (names_from (suc i) xs) f)
once_from v before i (d.Extern at y ty ∷ xs) x f =
    let g = behind v before (declared_as items y false ∷ []) (names_from (suc i) xs) f in
    one_at_most v before i y xs x g (once_from v (before ++ declared_as items y false ∷ []) (suc i) xs x g) (bytes_eq x y.name) refl
once_from v before i (d.Stream at y ty init e ∷ xs) x f =
    let g = behind v before (declared_as items y false ∷ []) (names_from (suc i) xs) f in
    one_at_most v before i y xs x g (once_from v (before ++ declared_as items y false ∷ []) (suc i) xs x g) (bytes_eq x y.name) refl
once_from v before i (d.Def at y ty e ∷ xs) x f =
    let g = behind v before (declared_as items y false ∷ []) (names_from (suc i) xs) f in
    one_at_most v before i y xs x g (once_from v (before ++ declared_as items y false ∷ []) (suc i) xs x g) (bytes_eq x y.name) refl
once_from v before i (d.Observer at y e ∷ xs) x f =
    let g = behind v before (declared_as items y false ∷ []) (names_from (suc i) xs) f in
    one_at_most v before i y xs x g (once_from v (before ++ declared_as items y false ∷ []) (suc i) xs x g) (bytes_eq x y.name) refl

pub declared_once : (s : Surface) → name_fault s ≡ None → (x : List ℕ) → times x (item_names s.decls) ≤ 1
unfolding name_fault
declared_once s h x = once_from s.version [] 0 s.decls x h

-- ---- triggers' names are no items' names

no_trigger : (v : ℕ) (before : List Declared) (i : ℕ) (xs : List Decl) (x : List ℕ) → IsTaken v before x true → first_redeclared v before (names_from i xs) ≡ None → times x (trigger_names xs) ≡ 0
no_trigger v before i [] x h f = refl
no_trigger v before i (d.Trigger at y guard args ∷ xs) x h f =
    let n = declared_as items y true in
    let p = if_none (is_redeclared v before n) y.at (first_redeclared v (before ++ n ∷ []) (names_from (suc i) xs)) f in
    let a = other_name v before y x true h p.0 (bytes_eq x y.name) refl in
    let b = no_trigger v (before ++ n ∷ []) (suc i) xs x (taken_on v before (n ∷ []) x true h) p.1 in omega (arith, a, b)
no_trigger v before i (d.Struct at y fields ∷ xs) x h f = let ns = names_of i (d.Struct at y fields) in no_trigger v (before ++ ns) (suc i) xs x (taken_on v before ns x true h) (behind v before ns (names_from (suc i) xs) f)
no_trigger v before i (d.Extern at y ty ∷ xs) x h f = let ns = names_of i (d.Extern at y ty) in no_trigger v (before ++ ns) (suc i) xs x (taken_on v before ns x true h) (behind v before ns (names_from (suc i) xs) f)
no_trigger v before i (d.Stream at y ty init e ∷ xs) x h f = let ns = names_of i (d.Stream at y ty init e) in no_trigger v (before ++ ns) (suc i) xs x (taken_on v before ns x true h) (behind v before ns (names_from (suc i) xs) f)
no_trigger v before i (d.Def at y ty e ∷ xs) x h f = let ns = names_of i (d.Def at y ty e) in no_trigger v (before ++ ns) (suc i) xs x (taken_on v before ns x true h) (behind v before ns (names_from (suc i) xs) f)
no_trigger v before i (d.Observer at y e ∷ xs) x h f = let ns = names_of i (d.Observer at y e) in no_trigger v (before ++ ns) (suc i) xs x (taken_on v before ns x true h) (behind v before ns (names_from (suc i) xs) f)

-- an item in front of the triggers
apart_item : (v : ℕ) (before : List Declared) (i : ℕ) (y : NameAt) (xs : List Decl) (x : List ℕ) → first_redeclared v (before ++ declared_as items y false ∷ []) (names_from (suc i) xs) ≡ None → 1 ≤ times x (trigger_names xs) → times x (item_names xs) ≡ 0
    → (b : Bool) → bytes_eq x y.name ≡ b → one_if b + times x (item_names xs) ≡ 0
apart_item v before i y xs x f m h true e = absurd (let z = no_trigger v (before ++ declared_as items y false ∷ []) (suc i) xs x (taken_now v before y x true false refl e) f in omega (arith, z, m))
apart_item v before i y xs x f m h false e = omega (arith, h)

apart_trigger : (v : ℕ) (before : List Declared) (i : ℕ) (y : NameAt) (xs : List Decl) (x : List ℕ) → first_redeclared v (before ++ declared_as items y true ∷ []) (names_from (suc i) xs) ≡ None → (1 ≤ times x (trigger_names xs) → times x (item_names xs) ≡ 0)
    → (b : Bool) → bytes_eq x y.name ≡ b → 1 ≤ one_if b + times x (trigger_names xs) → times x (item_names xs) ≡ 0
apart_trigger v before i y xs x f h true e m = none_again v (before ++ declared_as items y true ∷ []) (suc i) xs x (taken_now v before y x false true refl e) f
apart_trigger v before i y xs x f h false e m = h (omega (arith, m))

apart_from : (v : ℕ) (before : List Declared) (i : ℕ) (xs : List Decl) (x : List ℕ) → first_redeclared v before (names_from i xs) ≡ None → 1 ≤ times x (trigger_names xs) → times x (item_names xs) ≡ 0
apart_from v before i [] x f m = refl
apart_from v before i (d.Struct at y fields ∷ xs) x f m = let ns = names_of i (d.Struct at y fields) in apart_from v (before ++ ns) (suc i) xs x (behind v before ns (names_from (suc i) xs) f) m
apart_from v before i (d.Trigger at y guard args ∷ xs) x f m =
    let g = behind v before (declared_as items y true ∷ []) (names_from (suc i) xs) f in
    apart_trigger v before i y xs x g (λ k. apart_from v (before ++ declared_as items y true ∷ []) (suc i) xs x g k) (bytes_eq x y.name) refl m
apart_from v before i (d.Extern at y ty ∷ xs) x f m =
    let g = behind v before (declared_as items y false ∷ []) (names_from (suc i) xs) f in
    apart_item v before i y xs x g m (apart_from v (before ++ declared_as items y false ∷ []) (suc i) xs x g m) (bytes_eq x y.name) refl
apart_from v before i (d.Stream at y ty init e ∷ xs) x f m =
    let g = behind v before (declared_as items y false ∷ []) (names_from (suc i) xs) f in
    apart_item v before i y xs x g m (apart_from v (before ++ declared_as items y false ∷ []) (suc i) xs x g m) (bytes_eq x y.name) refl
apart_from v before i (d.Def at y ty e ∷ xs) x f m =
    let g = behind v before (declared_as items y false ∷ []) (names_from (suc i) xs) f in
    apart_item v before i y xs x g m (apart_from v (before ++ declared_as items y false ∷ []) (suc i) xs x g m) (bytes_eq x y.name) refl
apart_from v before i (d.Observer at y e ∷ xs) x f m =
    let g = behind v before (declared_as items y false ∷ []) (names_from (suc i) xs) f in
    apart_item v before i y xs x g m (apart_from v (before ++ declared_as items y false ∷ []) (suc i) xs x g m) (bytes_eq x y.name) refl

pub triggers_apart : (s : Surface) → name_fault s ≡ None → (x : List ℕ) → 1 ≤ times x (trigger_names s.decls) → times x (item_names s.decls) ≡ 0
unfolding name_fault
triggers_apart s h x m = apart_from s.version [] 0 s.decls x h m
