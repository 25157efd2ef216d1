-- The structs of a text that declares no name twice in a space.
use Rattle.std.proofs.Common.{◌≡◌, ℕ, zero, suc, Bool, true, false, nat_eq, List, [], ◌∷◌, ◌++◌, map, length, refl, sym, ap, ◌∙◌, subst, arith, append-nil, append_assoc}
use Rattle.std.specs.Prelude.{Option, Some, None, ◌||◌, ◌&&◌, not, if◌then◌else◌, bytes_eq, slice_get}
use Rattle.std.proofs.lemmas.List.Folds.{list_any-append}
use Rattle.std.proofs.lemmas.Bool.Decides.{nat_tests}
use Rattle.std.specs.Cmp.Lexicographic.{nat_list_eq_equiv}
use Rattle.spec_text.specs.declared.surface.NameAt.{NameAt}
use Rattle.spec_text.specs.declared.surface.FieldForm.{FieldForm}
use Rattle.spec_text.specs.declared.surface.Decl.{Decl}
use Rattle.spec_text.specs.declared.surface.Decl.TheVariants as d
use Rattle.spec_text.specs.declared.surface.Surface.{Surface}
use Rattle.type_check.specs.NamedType.{Declarations, Struct, struct_in}
use Rattle.type_check.specs.Names.{structs, fields, Declared, declared_as, names_of, names_from, forbids, is_redeclared, first_redeclared, name_fault}
use Rattle.type_check.specs.Untyped.{reversed, all_of}
use Rattle.type_check.specs.Standing.{IsDistinct}
use Rattle.type_check.specs.Table.{struct_names}
use Rattle.type_check.proofs.Redeclarations.{or_else, first-append}

-- where a name stands in a list that grew by one
data IsPlace (xs : List (List ℕ)) (y x : List ℕ) (i : ℕ) : Type 0 where
  in_front : slice_get xs i ≡ Some x → IsPlace xs y x i
  at_last : i ≡ length xs → y ≡ x → IsPlace xs y x i

place_more : (xs : List (List ℕ)) (z y x : List ℕ) (i : ℕ) → IsPlace xs y x i → IsPlace (z ∷ xs) y x (suc i)
place_more xs z y x i (in_front h) = in_front h
place_more xs z y x i (at_last e h) = at_last (ap suc e) h

place : (xs : List (List ℕ)) (y x : List ℕ) (i : ℕ) → slice_get (xs ++ y ∷ []) i ≡ Some x → IsPlace xs y x i
place [] y x zero h = at_last refl (cc)
place [] y x (suc i) h = absurd (cc)
place (z ∷ xs) y x zero h = in_front h
place (z ∷ xs) y x (suc i) h = place_more xs z y x i (place xs y x i h)

once_more : (xs : List (List ℕ)) (y x : List ℕ) (i j : ℕ) → IsDistinct xs → ((k : ℕ) → slice_get xs k ≡ Some y → ⊥) → IsPlace xs y x i → IsPlace xs y x j → i ≡ j
once_more xs y x i j k n (in_front p) (in_front q) = k.once i j x p q
once_more xs y x i j k n (in_front p) (at_last e f) = absurd (n i (p ∙ ap Some (sym f)))
once_more xs y x i j k n (at_last e f) (in_front q) = absurd (n j (q ∙ ap Some (sym f)))
once_more xs y x i j k n (at_last e f) (at_last g h) = e ∙ sym g

distinct_more : (xs : List (List ℕ)) (y : List ℕ) → IsDistinct xs → ((k : ℕ) → slice_get xs k ≡ Some y → ⊥) → IsDistinct (xs ++ y ∷ [])
distinct_more xs y k n = record { once = λ i j x p q. once_more xs y x i j k n (place xs y x i p) (place xs y x j q) }

-- ---- the structs' names among all names

-- each struct's name is one that may not be declared again
record AreForbidden (v : ℕ) (before : List Declared) (ds : Declarations) : Type 0 where
  again : (x : NameAt) (i : ℕ) → slice_get (struct_names ds) i ≡ Some x.name → is_redeclared v before (declared_as structs x false) ≡ true

or_left : (a b : Bool) → a ≡ true → (a || b) ≡ true
or_left true b h = refl
or_left false b h = absurd (cc)

or_right : (a b : Bool) → b ≡ true → (a || b) ≡ true
or_right true b h = refl
or_right false b h = h

forbidden_on : (v : ℕ) (before more : List Declared) (ds : Declarations) → AreForbidden v before ds → AreForbidden v (before ++ more) ds
forbidden_on v before more ds f = record { again = λ x i h. list_any-append (forbids v (declared_as structs x false)) before more ∙ or_left (is_redeclared v before (declared_as structs x false)) (is_redeclared v more (declared_as structs x false)) (f.again x i h) }

unshared : (b : Bool) → not (b && false && false) ≡ true
unshared true = refl
unshared false = refl

own_again : (v : ℕ) (x y : NameAt) → y.name ≡ x.name → is_redeclared v (declared_as structs y false ∷ []) (declared_as structs x false) ≡ true
own_again v x y e = or_left (forbids v (declared_as structs x false) (declared_as structs y false)) false
    (ap (λ b. b && not (nat_eq v 2 && false && false)) (subst (λ z. bytes_eq x.name z ≡ true) (sym e) (nat_list_eq_equiv.refl x.name)) ∙ unshared (nat_eq v 2))

again_if : (v : ℕ) (before : List Declared) (ds : Declarations) (y x : NameAt) (i : ℕ) → AreForbidden v before ds → IsPlace (struct_names ds) y.name x.name i → is_redeclared v (before ++ declared_as structs y false ∷ []) (declared_as structs x false) ≡ true
again_if v before ds y x i f (in_front h) = list_any-append (forbids v (declared_as structs x false)) before (declared_as structs y false ∷ [])
    ∙ or_left (is_redeclared v before (declared_as structs x false)) _ (f.again x i h)
again_if v before ds y x i f (at_last e h) = list_any-append (forbids v (declared_as structs x false)) before (declared_as structs y false ∷ [])
    ∙ or_right (is_redeclared v before (declared_as structs x false)) _ (own_again v x y h)

forbidden_more : (v : ℕ) (before : List Declared) (ds : Declarations) (at : ℕ) (y : NameAt) (fs : List FieldForm) → AreForbidden v before ds → AreForbidden v (before ++ declared_as structs y false ∷ []) (d.Struct at y fs ∷ ds)
forbidden_more v before ds at y fs f = record { again = λ x i h. again_if v before ds y x i f (place (struct_names ds) y.name x.name i h) }

-- ---- names without a fault

if_none : (r : Bool) (at : ℕ) (o : Option ℕ) → (if r then Some at else o) ≡ None → (r ≡ false) × (o ≡ None)
if_none true at o h = absurd (cc)
if_none false at o h = (refl, h)

else_none : (o r : Option ℕ) → or_else o r ≡ None → r ≡ None
else_none None r h = h
else_none (Some at) r h = absurd (cc)

-- behind some names without a fault
behind : (v : ℕ) (before xs ys : List Declared) → first_redeclared v before (xs ++ ys) ≡ None → first_redeclared v (before ++ xs) ys ≡ None
behind v before xs ys h = else_none (first_redeclared v before xs) (first_redeclared v (before ++ xs) ys) (sym (first-append v before xs ys) ∙ h)

not_twice : (v : ℕ) (before : List Declared) (ds : Declarations) (y : NameAt) → AreForbidden v before ds → is_redeclared v before (declared_as structs y false) ≡ false → (i : ℕ) → slice_get (struct_names ds) i ≡ Some y.name → ⊥
not_twice v before ds y f h i p = let g = f.again y i p in absurd (cc)

distinct_from : (v : ℕ) (before : List Declared) (i : ℕ) (ds : Declarations) (xs : List Decl) → IsDistinct (struct_names ds) → AreForbidden v before ds → first_redeclared v before (names_from i xs) ≡ None → IsDistinct (struct_names (reversed ds xs))
distinct_from v before i ds [] k f h = k
distinct_from v before i ds (d.Struct at y fs ∷ xs) k f h =
    let own = declared_as structs y false in
    let members = map (λ (g : FieldForm). declared_as (fields i) g.name false) fs in
    let p = if_none (is_redeclared v before own) y.at (first_redeclared v (before ++ own ∷ []) (members ++ names_from (suc i) xs)) h in
    distinct_from v (before ++ own ∷ [] ++ members) (suc i) (d.Struct at y fs ∷ ds) xs
    (distinct_more (struct_names ds) y.name k (not_twice v before ds y f p.0))
    (forbidden_on v (before ++ own ∷ []) members (d.Struct at y fs ∷ ds) (forbidden_more v before ds at y fs f))
    (behind v (before ++ own ∷ []) members (names_from (suc i) xs) p.1)
distinct_from v before i ds (d.Extern at y ty ∷ xs) k f h =
    let ns = names_of i (d.Extern at y ty) in
    distinct_from v (before ++ ns) (suc i) (d.Extern at y ty ∷ ds) xs k (record { again = (forbidden_on v before ns ds f).again }) (behind v before ns (names_from (suc i) xs) h)
distinct_from v before i ds (d.Stream at y ty init e ∷ xs) k f h =
    let ns = names_of i (d.Stream at y ty init e) in
    distinct_from v (before ++ ns) (suc i) (d.Stream at y ty init e ∷ ds) xs k (record { again = (forbidden_on v before ns ds f).again }) (behind v before ns (names_from (suc i) xs) h)
distinct_from v before i ds (d.Def at y ty e ∷ xs) k f h =
    let ns = names_of i (d.Def at y ty e) in
    distinct_from v (before ++ ns) (suc i) (d.Def at y ty e ∷ ds) xs k (record { again = (forbidden_on v before ns ds f).again }) (behind v before ns (names_from (suc i) xs) h)
distinct_from v before i ds (d.Trigger at y guard args ∷ xs) k f h =
    let ns = names_of i (d.Trigger at y guard args) in
    distinct_from v (before ++ ns) (suc i) (d.Trigger at y guard args ∷ ds) xs k (record { again = (forbidden_on v before ns ds f).again }) (behind v before ns (names_from (suc i) xs) h)
distinct_from v before i ds (d.Observer at y e ∷ xs) k f h =
    let ns = names_of i (d.Observer at y e) in
    distinct_from v (before ++ ns) (suc i) (d.Observer at y e ∷ ds) xs k (record { again = (forbidden_on v before ns ds f).again }) (behind v before ns (names_from (suc i) xs) h)

none_distinct : IsDistinct []
none_distinct = record { once = λ i j x p q. absurd (none i x p) }
  where
    none : (i : ℕ) (x : List ℕ) → slice_get [] i ≡ Some x → ⊥
    none zero x p = cc
    none (suc i) x p = cc

-- A text without a fault of names has structs of different names.
pub distinct_structs : (s : Surface) → name_fault s ≡ None → IsDistinct (struct_names (all_of s))
unfolding name_fault
distinct_structs s h = distinct_from s.version [] 0 [] s.decls none_distinct (record { again = λ x i p. absurd (cc) }) h

-- ---- the fields of each struct

-- each field so far of declaration i has a name that may not be declared again among its fields
record FieldsForbidden (v : ℕ) (before : List Declared) (i : ℕ) (names : List (List ℕ)) : Type 0 where
  again : (x : NameAt) (k : ℕ) → slice_get names k ≡ Some x.name → is_redeclared v before (declared_as (fields i) x false) ≡ true

own_field : (v i : ℕ) (x y : NameAt) → y.name ≡ x.name → is_redeclared v (declared_as (fields i) y false ∷ []) (declared_as (fields i) x false) ≡ true
own_field v i x y e =
    let same : nat_eq i i ≡ true = grind (arith, nat_tests) in
    or_left (forbids v (declared_as (fields i) x false) (declared_as (fields i) y false)) false
    (ap (λ b. b && bytes_eq x.name y.name && not (nat_eq v 2 && false && false)) same
    ∙ ap (λ b. b && not (nat_eq v 2 && false && false)) (subst (λ z. bytes_eq x.name z ≡ true) (sym e) (nat_list_eq_equiv.refl x.name)) ∙ unshared (nat_eq v 2))

field_if : (v : ℕ) (before : List Declared) (i : ℕ) (names : List (List ℕ)) (y x : NameAt) (k : ℕ) → FieldsForbidden v before i names → IsPlace names y.name x.name k → is_redeclared v (before ++ declared_as (fields i) y false ∷ []) (declared_as (fields i) x false) ≡ true
field_if v before i names y x k f (in_front h) = list_any-append (forbids v (declared_as (fields i) x false)) before (declared_as (fields i) y false ∷ [])
    ∙ or_left (is_redeclared v before (declared_as (fields i) x false)) _ (f.again x k h)
field_if v before i names y x k f (at_last e h) = list_any-append (forbids v (declared_as (fields i) x false)) before (declared_as (fields i) y false ∷ [])
    ∙ or_right (is_redeclared v before (declared_as (fields i) x false)) _ (own_field v i x y h)

no_twin : (v : ℕ) (before : List Declared) (i : ℕ) (names : List (List ℕ)) (y : NameAt) → FieldsForbidden v before i names → is_redeclared v before (declared_as (fields i) y false) ≡ false → (k : ℕ) → slice_get names k ≡ Some y.name → ⊥
no_twin v before i names y f h k p = let g = f.again y k p in absurd (cc)

fields_from : (v : ℕ) (before : List Declared) (i : ℕ) (names : List (List ℕ)) (fs : List FieldForm) → IsDistinct names → FieldsForbidden v before i names → first_redeclared v before (map (λ (g : FieldForm). declared_as (fields i) g.name false) fs) ≡ None
    → IsDistinct (names ++ map (λ (g : FieldForm). g.name.name) fs)
fields_from v before i names [] k f h = subst (λ ns. IsDistinct ns) (sym (append-nil names)) k
fields_from v before i names (g ∷ fs) k f h =
    let own = declared_as (fields i) g.name false in
    let p = if_none (is_redeclared v before own) g.name.at (first_redeclared v (before ++ own ∷ []) (map (λ (e : FieldForm). declared_as (fields i) e.name false) fs)) h in
    let r = fields_from v (before ++ own ∷ []) i (names ++ g.name.name ∷ []) fs (distinct_more names g.name.name k (no_twin v before i names g.name f p.0))
    (record { again = λ x j q. field_if v before i names g.name x j f (place names g.name.name x.name j q) }) p.1 in
    subst (λ ns. IsDistinct ns) (append_assoc names (g.name.name ∷ []) (map (λ (e : FieldForm). e.name.name) fs)) r

in_front_none : (v : ℕ) (before xs ys : List Declared) → first_redeclared v before (xs ++ ys) ≡ None → first_redeclared v before xs ≡ None
in_front_none v before xs ys h = front (first_redeclared v before xs) (first_redeclared v (before ++ xs) ys) (sym (first-append v before xs ys) ∙ h)
  where
    front : (o r : Option ℕ) → or_else o r ≡ None → o ≡ None
    front None r e = refl
    front (Some at) r e = absurd (cc)

-- The fields of a struct without a fault of names have different names.
pub fields_distinct : (v : ℕ) (before : List Declared) (i : ℕ) (fs : List FieldForm) (rest : List Declared) → first_redeclared v before (map (λ (g : FieldForm). declared_as (fields i) g.name false) fs ++ rest) ≡ None → IsDistinct (map (λ (g : FieldForm). g.name.name) fs)
fields_distinct v before i fs rest h =
    fields_from v before i [] fs none_distinct (record { again = λ x k p. absurd (cc) }) (in_front_none v before (map (λ (g : FieldForm). declared_as (fields i) g.name false) fs) rest h)

record HaveFields (ds : Declarations) : Type 0 where
  apart : (x : List ℕ) (s : Struct) → struct_in ds x ≡ Some s → IsDistinct (map (λ (g : FieldForm). g.name.name) s.fields)

one_apart : (ds : Declarations) (fs : List FieldForm) (x : List ℕ) (s : Struct) (b : Bool) → IsDistinct (map (λ (g : FieldForm). g.name.name) fs) → HaveFields ds → (if b then Some (record { fields = fs; before = ds }) else struct_in ds x) ≡ Some s
    → IsDistinct (map (λ (g : FieldForm). g.name.name) s.fields)
one_apart ds fs x s true k h e = let own : Struct = record { fields = fs; before = ds } in let f : own ≡ s = cc in subst (λ (t : Struct). IsDistinct (map (λ (g : FieldForm). g.name.name) t.fields)) f k
one_apart ds fs x s false k h e = h.apart x s e

apart_from : (v : ℕ) (before : List Declared) (i : ℕ) (ds : Declarations) (xs : List Decl) → HaveFields ds → first_redeclared v before (names_from i xs) ≡ None → HaveFields (reversed ds xs)
apart_from v before i ds [] k h = k
apart_from v before i ds (d.Struct at y fs ∷ xs) k h =
    let own = declared_as structs y false in
    let members = map (λ (g : FieldForm). declared_as (fields i) g.name false) fs in
    let p = if_none (is_redeclared v before own) y.at (first_redeclared v (before ++ own ∷ []) (members ++ names_from (suc i) xs)) h in
    apart_from v (before ++ own ∷ [] ++ members) (suc i) (d.Struct at y fs ∷ ds) xs
    (record { apart = λ x s e. one_apart ds fs x s (bytes_eq y.name x) (fields_distinct v (before ++ own ∷ []) i fs (names_from (suc i) xs) p.1) k e })
    (behind v (before ++ own ∷ []) members (names_from (suc i) xs) p.1)
apart_from v before i ds (d.Extern at y ty ∷ xs) k h =
    let ns = names_of i (d.Extern at y ty) in
    apart_from v (before ++ ns) (suc i) (d.Extern at y ty ∷ ds) xs (record { apart = λ x s e. k.apart x s e }) (behind v before ns (names_from (suc i) xs) h)
apart_from v before i ds (d.Stream at y ty init e ∷ xs) k h =
    let ns = names_of i (d.Stream at y ty init e) in
    apart_from v (before ++ ns) (suc i) (d.Stream at y ty init e ∷ ds) xs (record { apart = λ x s e. k.apart x s e }) (behind v before ns (names_from (suc i) xs) h)
apart_from v before i ds (d.Def at y ty e ∷ xs) k h =
    let ns = names_of i (d.Def at y ty e) in
    apart_from v (before ++ ns) (suc i) (d.Def at y ty e ∷ ds) xs (record { apart = λ x s e. k.apart x s e }) (behind v before ns (names_from (suc i) xs) h)
apart_from v before i ds (d.Trigger at y guard args ∷ xs) k h =
    let ns = names_of i (d.Trigger at y guard args) in
    apart_from v (before ++ ns) (suc i) (d.Trigger at y guard args ∷ ds) xs (record { apart = λ x s e. k.apart x s e }) (behind v before ns (names_from (suc i) xs) h)
apart_from v before i ds (d.Observer at y e ∷ xs) k h =
    let ns = names_of i (d.Observer at y e) in
    apart_from v (before ++ ns) (suc i) (d.Observer at y e ∷ ds) xs (record { apart = λ x s e. k.apart x s e }) (behind v before ns (names_from (suc i) xs) h)

-- In a text without a fault of names no struct has two fields of one name.
pub distinct_fields : (s : Surface) → name_fault s ≡ None → (x : List ℕ) (t : Struct) → struct_in (all_of s) x ≡ Some t → IsDistinct (map (λ (g : FieldForm). g.name.name) t.fields)
unfolding name_fault
distinct_fields s h x t e = (apart_from s.version [] 0 [] s.decls (record { apart = λ y u q. absurd (cc) }) h).apart x t e
