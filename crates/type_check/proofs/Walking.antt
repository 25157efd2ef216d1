-- A walk over a text's declarations.
use Rattle.std.proofs.Common.{◌≡◌, ℕ, zero, suc, Bool, true, false, nat_lt, List, [], ◌∷◌, ◌++◌, length, map, refl, sym, ap, ◌∙◌, subst, arith, append-nil, append_assoc, length-append}
use Rattle.std.specs.Prelude.{slice_get, bytes_eq, if◌then◌else◌, Option, Some, None, Result, Ok, Err}
use Rattle.std.specs.Map.{lookup}
use Rattle.std.specs.Option.{option_map_or}
use Rattle.std.specs.Cmp.Lexicographic.{nat_list_eq_equiv}
use Rattle.std.proofs.lemmas.Bool.Decides.{nat_tests}
use Rattle.spec_text.specs.declared.surface.NameAt.{NameAt}
use Rattle.spec_text.specs.declared.surface.FieldForm.{FieldForm}
use Rattle.spec_text.specs.declared.surface.Decl.{Decl}
use Rattle.spec_text.specs.declared.surface.Decl.TheVariants as d
use Rattle.type_check.specs.declared.fault.TypeFault.{TypeFault}
use Rattle.type_check.specs.declared.fault.TypeFault.TheVariants.{Redeclared, Unknown, TypeClash, NestedArray, TypeTooWide, DropOfNoBuffer, DropTooFar, Memory}
use Rattle.type_check.specs.declared.order.Order.{Order}
use Rattle.type_check.specs.declared.scope.Scope.{Scope as CodeScope}
use Rattle.type_check.specs.declared.structs.Struct.{Struct as CodeStruct}
use Rattle.type_check.specs.declared.structs.Structs.{Structs}
use Rattle.type_check.specs.NamedType.{struct, Declarations, struct_in, struct_words, most_words}
use Rattle.type_check.specs.Judged.{has, lacks, Judged, judged, over_parts, or_else, first_of}
use Rattle.type_check.specs.Untyped.{reversed, struct_width, scope_of}
use Rattle.type_check.specs.TypeOrder.{Event, met, ends, closings}
use Rattle.type_check.specs.Standing.{IsDistinct, IsStructAt, IsNumbered, AreFirst, IsScope, IsOrder, Ends, Gives, GivesType, GivesParts, GivesDone, IsDone, AreTypedParts, struct_words_at, capped}
use Rattle.type_check.specs.Table.{struct_names, IsTable, HasItems}
use Rattle.type_check.specs.Walked.{IsBetween, IsPassed, GivesPassed}
use Rattle.type_check.proofs.Meeting.{meets_plain}
use Rattle.type_check.proofs.Nodes.{grows_then}
use Rattle.type_check.proofs.Tables.{first_ones, grown, next_name}

-- ---- the names in force

last_out : (xs : List (List ℕ)) (y x : List ℕ) → (y ≡ x → ⊥) → ((i : ℕ) → slice_get xs i ≡ Some x → ⊥) → (i : ℕ) → slice_get (xs ++ y ∷ []) i ≡ Some x → ⊥
last_out [] y x n f zero h = n (cc)
last_out [] y x n f (suc i) h = absurd (cc)
last_out (z ∷ xs) y x n f zero h = f 0 h
last_out (z ∷ xs) y x n f (suc i) h = last_out xs y x n (λ j. f (suc j)) i h

apart : (y x : List ℕ) → bytes_eq y x ≡ false → y ≡ x → ⊥
apart y x h e = let f : bytes_eq y x ≡ true = subst (λ z. bytes_eq y z ≡ true) e (nat_list_eq_equiv.refl y) in absurd (cc)

unnamed_if : (ds : Declarations) (at : ℕ) (y : NameAt) (fields : List FieldForm) (x : List ℕ) (b : Bool) → bytes_eq y.name x ≡ b → (struct_in ds x ≡ None → (i : ℕ) → slice_get (struct_names ds) i ≡ Some x → ⊥)
    → struct_in (d.Struct at y fields ∷ ds) x ≡ None → (i : ℕ) → slice_get (struct_names ds ++ y.name ∷ []) i ≡ Some x → ⊥
unnamed_if ds at y fields x true e f h i p = let g = sym (ap (λ c. if c then Some (record { fields = fields; before = ds }) else struct_in ds x) e) ∙ h in absurd (cc)
unnamed_if ds at y fields x false e f h i p =
    last_out (struct_names ds) y.name x (apart y.name x e) (f (sym (ap (λ c. if c then Some (record { fields = fields; before = ds }) else struct_in ds x) e) ∙ h)) i p

-- a struct that is nowhere in these declarations has no place among their names
unnamed : (ds : Declarations) (x : List ℕ) → struct_in ds x ≡ None → (i : ℕ) → slice_get (struct_names ds) i ≡ Some x → ⊥
unnamed [] x h i p = absurd (cc)
unnamed (d.Struct at y fields ∷ ds) x h i p = unnamed_if ds at y fields x (bytes_eq y.name x) refl (unnamed ds x) h i p
unnamed (d.Extern at y ty ∷ ds) x h i p = unnamed ds x h i p
unnamed (d.Stream at y ty init e ∷ ds) x h i p = unnamed ds x h i p
unnamed (d.Def at y ty e ∷ ds) x h i p = unnamed ds x h i p
unnamed (d.Trigger at y guard args ∷ ds) x h i p = unnamed ds x h i p
unnamed (d.Observer at y e ∷ ds) x h i p = unnamed ds x h i p

numbered_at : (names : List (List ℕ)) → IsDistinct names → (ds : Declarations) → names ≡ struct_names ds → (all : List CodeStruct) (i : ℕ) (x : List ℕ) (o : Option ℕ) → slice_get names i ≡ Some x → IsNumbered names ds all x o → IsStructAt names ds all x i
numbered_at names k ds e all i x None h n = absurd (unnamed ds x n i (ap (λ ns. slice_get ns i) (sym e) ∙ h))
numbered_at names k ds e all i x (Some j) h n = subst (λ (l : ℕ). IsStructAt names ds all x l) (k.once j i x n.name_is h) n

-- the struct at each place of a text's names
pub structs_at : (names : List (List ℕ)) → IsDistinct names → (ds : Declarations) → names ≡ struct_names ds → (structs : Structs) → IsTable names ds structs → (i : ℕ) (x : List ℕ) → slice_get names i ≡ Some x → IsStructAt names ds structs.all.items x i
structs_at names k ds e structs t i x h = numbered_at names k ds e structs.all.items i x (lookup (bytes_eq x) structs.numbers.entries) h (t.numbers_are x)

pub between_first : (names : List (List ℕ)) (before : Declarations) (rest : List Decl) (scope : CodeScope) → IsBetween names before rest scope → AreFirst names before scope.structs scope.closed
between_first names before rest scope b = subst (λ (n : ℕ). AreFirst names before scope.structs n) (sym b.ended) (first_ones names b.distinct before rest b.names_are scope.structs b.table)

pub between_scope : (names : List (List ℕ)) (before : Declarations) (rest : List Decl) (scope : CodeScope) → IsBetween names before rest scope → IsScope names (scope_of before (reversed before rest)) scope
between_scope names before rest scope b = record {
  distinct = b.distinct;
  behind = between_first names before rest scope b;
  structs_are = λ i x h. structs_at names b.distinct (reversed before rest) b.names_are scope.structs b.table i x h;
  items_are = λ x. b.items.items_are x;
}

-- behind one declaration more
pub between_next : (names : List (List ℕ)) (before : Declarations) (x : Decl) (rest : List Decl) (old new : CodeScope) → IsBetween names before (x ∷ rest) old → new.structs ≡ old.structs → new.items ≡ old.items
    → new.closed ≡ length (struct_names (x ∷ before)) → IsBetween names (x ∷ before) rest new
between_next names before x rest old new b s i n = record {
  distinct = b.distinct;
  names_are = b.names_are;
  table = subst (λ (t : Structs). IsTable names (reversed (x ∷ before) rest) t) (sym s) b.table;
  items = subst (λ t. HasItems names (reversed (x ∷ before) rest) t) (ap (λ (m : _). m.entries) (sym i)) b.items;
  ended = n;
}

-- ---- a declaration that ends no struct

pub passed_done : {names : List (List ℕ)} {n : ℕ} {a b : Order} {j : Judged} {x : Decl} → closings x ≡ [] → IsDone names n a b j → IsPassed names n n a b j x
passed_done {names} {n} {a} {b} {j} {x} c h = record {
  faultless = h.faultless;
  goes = λ es i. subst (λ (l : List Event). IsOrder names n (es ++ l) b) (sym (ap (λ l. map met j.types ++ l) c ∙ append-nil (map met j.types))) (h.grows.goes es i);
}

pub passes_on : (X Y : Type 0) (names : List (List ℕ)) (n m : ℕ) (a b : Order) (j : Judged) (x : Decl) (e : TypeFault) → GivesDone {X = X} names n a b j (Err e) → GivesPassed {X = Y} names n m a b j x (Err e)
passes_on X Y names n m a b j x (Redeclared at) h = h
passes_on X Y names n m a b j x (Unknown at) h = h
passes_on X Y names n m a b j x (TypeClash at) h = h
passes_on X Y names n m a b j x (NestedArray at) h = h
passes_on X Y names n m a b j x (TypeTooWide at) h = h
passes_on X Y names n m a b j x (DropOfNoBuffer at) h = h
passes_on X Y names n m a b j x (DropTooFar at) h = h
passes_on X Y names n m a b j x Memory h = tt

pub passes : (X : Type 0) (names : List (List ℕ)) (n : ℕ) (a b : Order) (j : Judged) (x : Decl) (r : Result X TypeFault) → closings x ≡ [] → GivesDone {X = X} names n a b j r → GivesPassed {X = X} names n n a b j x r
passes X names n a b j x (Ok y) c h = passed_done c h
passes X names n a b j x (Err e) c h = passes_on X X names n n a b j x e h

pub type_passes : (Y : Type 0) (names : List (List ℕ)) (n : ℕ) (a b : Order) (j : Judged) (x : Decl) (e : TypeFault) → GivesType names n a b j (Err e) → GivesPassed {X = Y} names n n a b j x (Err e)
type_passes Y names n a b j x (Redeclared at) h = h
type_passes Y names n a b j x (Unknown at) h = h
type_passes Y names n a b j x (TypeClash at) h = h
type_passes Y names n a b j x (NestedArray at) h = h
type_passes Y names n a b j x (TypeTooWide at) h = h
type_passes Y names n a b j x (DropOfNoBuffer at) h = h
type_passes Y names n a b j x (DropTooFar at) h = h
type_passes Y names n a b j x Memory h = tt

pub node_passes : (Y : Type 0) (names : List (List ℕ)) (n : ℕ) (a b : Order) (j : Judged) (x : Decl) (e : TypeFault) → Gives names n a b j (Err e) → GivesPassed {X = Y} names n n a b j x (Err e)
node_passes Y names n a b j x (Redeclared at) h = h
node_passes Y names n a b j x (Unknown at) h = h
node_passes Y names n a b j x (TypeClash at) h = h
node_passes Y names n a b j x (NestedArray at) h = h
node_passes Y names n a b j x (TypeTooWide at) h = h
node_passes Y names n a b j x (DropOfNoBuffer at) h = h
node_passes Y names n a b j x (DropTooFar at) h = h
node_passes Y names n a b j x Memory h = tt

-- what is told of parts is told of the declaration
pub parts_pass : (Y : Type 0) (names : List (List ℕ)) (n m : ℕ) (a b c o : Order) (ps : List Judged) (j : Judged) (x : Decl) (e : TypeFault) → ((y : TypeFault) → first_of ps ≡ Some y → j.fault ≡ Some y) → GivesParts names n a b ps (Err e) → GivesPassed {X = Y} names n m c o j x (Err e)
parts_pass Y names n m a b c o ps j x (Redeclared at) f h = f (Redeclared at) h
parts_pass Y names n m a b c o ps j x (Unknown at) f h = f (Unknown at) h
parts_pass Y names n m a b c o ps j x (TypeClash at) f h = f (TypeClash at) h
parts_pass Y names n m a b c o ps j x (NestedArray at) f h = f (NestedArray at) h
parts_pass Y names n m a b c o ps j x (TypeTooWide at) f h = f (TypeTooWide at) h
parts_pass Y names n m a b c o ps j x (DropOfNoBuffer at) f h = f (DropOfNoBuffer at) h
parts_pass Y names n m a b c o ps j x (DropTooFar at) f h = f (DropTooFar at) h
parts_pass Y names n m a b c o ps j x Memory f h = tt

-- ---- the end of a struct

low_words : (w : ℕ) → nat_lt 1024 (capped w) ≡ nat_lt 1024 w
low_words w = grind (arith, nat_tests)

own_words : (ds : Declarations) (at : ℕ) (x : NameAt) (fields : List FieldForm) → struct_words (d.Struct at x fields ∷ ds) x.name ≡ struct_width ds fields
own_words ds at x fields = ap (λ c. if c then struct_width ds fields else struct_words ds x.name) (nat_list_eq_equiv.refl x.name)

-- the words of the next struct
pub width_is : (names : List (List ℕ)) (before : Declarations) (at : ℕ) (x : NameAt) (fields : List FieldForm) (rest : List Decl) (scope : CodeScope) → IsBetween names before (d.Struct at x fields ∷ rest) scope
    → nat_lt 1024 (struct_words_at scope.structs.all.items scope.closed) ≡ nat_lt most_words (struct_width before fields)
width_is names before at x fields rest scope b =
    let all = reversed before (d.Struct at x fields ∷ rest) in
    let n = length (struct_names before) in
    let here : slice_get names n ≡ Some x.name = ap (λ ns. slice_get ns n) b.names_are ∙ next_name before at x fields rest in
    let s = structs_at names b.distinct all b.names_are scope.structs b.table n x.name here in
    let g = grown names b.distinct (d.Struct at x fields ∷ before) rest b.names_are n x.name here (omega (arith, length-append (struct_names before) (x.name ∷ []))) in
    ap (λ i. nat_lt 1024 (struct_words_at scope.structs.all.items i)) b.ended
    ∙ ap (λ (o : Option CodeStruct). nat_lt 1024 (option_map_or (λ (c : CodeStruct). c.words) o 0)) s.kept_is
    ∙ ap (nat_lt 1024) (s.words ∙ ap capped (g.words_are ∙ own_words before at x fields)) ∙ low_words (struct_width before fields)

-- where the fields have types, the struct is too wide
pub wide_told : (names : List (List ℕ)) (n : ℕ) (a b : Order) (ps : List Judged) (wide : Bool) (x : List ℕ) (e : TypeFault) → AreTypedParts names n a b ps → wide ≡ true → (judged ps (if wide then lacks e else has (struct x))).fault ≡ Some e
wide_told names n a b ps wide x e p w = ap (λ c. (judged ps (if c then lacks e else has (struct x))).fault) w ∙ ap (λ c. (over_parts c ps (lacks e)).fault) p.typed ∙ ap (λ o. or_else o (Some e)) p.faultless

struct_done : (names : List (List ℕ)) (n : ℕ) (a b : Order) (ps : List Judged) (wide : Bool) (x : List ℕ) (e : TypeFault) → AreTypedParts names n a b ps → wide ≡ false → IsDone names n a b (judged ps (if wide then lacks e else has (struct x)))
struct_done names n a b ps wide x e p w = subst (λ (c : Bool). IsDone names n a b (judged ps (if c then lacks e else has (struct x)))) (sym w)
    (subst (λ (c : Bool). IsDone names n a b (over_parts c ps (has (struct x)))) (sym p.typed) (record { faultless = p.faultless; grows = grows_then p.grows (meets_plain names n b (struct x) refl) }))

pub struct_passed : (names : List (List ℕ)) (n m : ℕ) (a b c : Order) (ps : List Judged) (wide : Bool) (at : ℕ) (x : NameAt) (fields : List FieldForm) (e : TypeFault) → AreTypedParts names n a b ps → wide ≡ false → m ≡ suc n → Ends names n b c x.name
    → IsPassed names n m a c (judged ps (if wide then lacks e else has (struct x.name))) (d.Struct at x fields)
struct_passed names n m a b c ps wide at x fields e p w k t =
    let h = struct_done names n a b ps wide x.name e p w in
    let j = judged ps (if wide then lacks e else has (struct x.name)) in
    subst (λ (i : ℕ). IsPassed names n i a c j (d.Struct at x fields)) (sym k) (record {
      faultless = h.faultless;
      goes = λ es i. subst (λ (l : List Event). IsOrder names (suc n) l c) (append_assoc es (map met j.types) (ends x.name ∷ [])) (t.goes (es ++ map met j.types) (h.grows.goes es i));
    })
