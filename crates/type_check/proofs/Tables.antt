-- A text's structs, taken in one after another.
use Rattle.std.proofs.Common.{◌≡◌, take, drop, get_or, ℕ, zero, suc, ◌+◌, ◌<◌, Bool, true, false, cond, nat_lt, List, [], ◌∷◌, ◌++◌, length, refl, sym, ap, ◌∙◌, subst, arith, ◌≤◌, append-nil, append_assoc, length-append}
use Rattle.std.specs.Prelude.{slice_get, bytes_eq, if◌then◌else◌, Option, Some, None}
use Rattle.std.specs.Map.{lookup}
use Rattle.std.proofs.lemmas.Bool.Decides.{nat_tests}
use Rattle.std.proofs.lemmas.Option.{slice_get_within}
use Rattle.std.proofs.lemmas.List.{take_more, drop_more, take-append-drop}
use Rattle.spec_text.specs.declared.surface.NameAt.{NameAt}
use Rattle.spec_text.specs.declared.surface.FieldForm.{FieldForm}
use Rattle.spec_text.specs.declared.surface.Decl.{Decl}
use Rattle.spec_text.specs.declared.surface.Decl.TheVariants as d
use Rattle.type_check.specs.declared.structs.Struct.{Struct as CodeStruct}
use Rattle.type_check.specs.declared.structs.Structs.{Structs}
use Rattle.type_check.specs.declared.scope.Item.{Item}
use Rattle.type_check.specs.Judged.{Named, declared, named_in}
use Rattle.type_check.specs.NamedType.{Declarations, Struct, struct_in, struct_words}
use Rattle.type_check.specs.Untyped.{struct_width, reversed}
use Rattle.type_check.specs.Standing.{IsDistinct, MeansOption, IsItem, no_item, an_item, kind_of, AreMembers, IsStructAt, IsNumbered, AreFirst, among_first, capped}
use Rattle.type_check.specs.Table.{struct_names, IsTable, HasItems}
use Rattle.type_check.proofs.SameNames.{list_same}

at_end : {X : Type 0} (xs : List X) (x : X) → slice_get (xs ++ x ∷ []) (length xs) ≡ Some x
at_end [] x = refl
at_end (y ∷ xs) x = at_end xs x

at_front : {X : Type 0} (xs : List X) (y : X) (i : ℕ) (x : X) → slice_get xs i ≡ Some x → slice_get (xs ++ y ∷ []) i ≡ Some x
at_front [] y i x h = absurd (cc)
at_front (z ∷ xs) y zero x h = h
at_front (z ∷ xs) y (suc i) x h = at_front xs y i x h

-- ---- a declaration that is no struct

other : (names : List (List ℕ)) (ds es : Declarations) (all : List CodeStruct) (x : List ℕ) (o : Option ℕ) → struct_in es x ≡ struct_in ds x → struct_words es x ≡ struct_words ds x → IsNumbered names ds all x o → IsNumbered names es all x o
other names ds es all x None f g n = f ∙ n
other names ds es all x (Some i) f g n = record { name_is = n.name_is; declared = n.declared; is = f ∙ n.is; kept = n.kept; kept_is = n.kept_is; kept_name = n.kept_name; members = n.members; words = n.words ∙ ap capped (sym g) }

pub table_other : (names : List (List ℕ)) (ds es : Declarations) (structs : Structs) → ((x : List ℕ) → struct_in es x ≡ struct_in ds x) → ((x : List ℕ) → struct_words es x ≡ struct_words ds x) → struct_names es ≡ struct_names ds → IsTable names ds structs → IsTable names es structs
table_other names ds es structs f g h t = record {
  numbers_are = λ x. other names ds es structs.all.items x (lookup (bytes_eq x) structs.numbers.entries) (f x) (g x) (t.numbers_are x);
  count = t.count ∙ ap length (sym h);
}

-- ---- a struct more

one_more : (names : List (List ℕ)) (ds : Declarations) (at : ℕ) (x : NameAt) (fields : List FieldForm) (all : List CodeStruct) (kept : CodeStruct) (q : List ℕ) (o : Option ℕ) (b : Bool) → bytes_eq x.name q ≡ b
    → slice_get names (length all) ≡ Some x.name → kept.name ≡ x.name → AreMembers names ds fields kept.members → kept.words ≡ capped (struct_width ds fields)
    → IsNumbered names ds all q o → IsNumbered names (d.Struct at x fields ∷ ds) (all ++ kept ∷ []) q (cond b (Some (length all)) o)
one_more names ds at x fields all kept q o true e n l m w h = record {
  name_is = n ∙ ap Some (list_same x.name q e);
  declared = record { fields = fields; before = ds };
  is = ap (λ c. if c then Some (record { fields = fields; before = ds }) else struct_in ds q) e;
  kept = kept;
  kept_is = at_end all kept;
  kept_name = l ∙ list_same x.name q e;
  members = m;
  words = w ∙ ap capped (sym (ap (λ c. if c then struct_width ds fields else struct_words ds q) e));
}
one_more names ds at x fields all kept q None false e n l m w h = ap (λ c. if c then Some (record { fields = fields; before = ds }) else struct_in ds q) e ∙ h
one_more names ds at x fields all kept q (Some i) false e n l m w h = record {
  name_is = h.name_is;
  declared = h.declared;
  is = ap (λ c. if c then Some (record { fields = fields; before = ds }) else struct_in ds q) e ∙ h.is;
  kept = h.kept;
  kept_is = at_front all kept i h.kept h.kept_is;
  kept_name = h.kept_name;
  members = h.members;
  words = h.words ∙ ap capped (sym (ap (λ c. if c then struct_width ds fields else struct_words ds q) e));
}

pub table_more : (names : List (List ℕ)) (ds : Declarations) (at : ℕ) (x : NameAt) (fields : List FieldForm) (old new : Structs) (kept : CodeStruct) → IsTable names ds old
    → slice_get names (length old.all.items) ≡ Some x.name → kept.name ≡ x.name → AreMembers names ds fields kept.members → kept.words ≡ capped (struct_width ds fields)
    → new.all.items ≡ old.all.items ++ kept ∷ []
    → ((q : List ℕ) → lookup (bytes_eq q) new.numbers.entries ≡ cond (bytes_eq x.name q) (Some (length old.all.items)) (lookup (bytes_eq q) old.numbers.entries))
    → IsTable names (d.Struct at x fields ∷ ds) new
table_more names ds at x fields old new kept t n k m w a l = record {
  numbers_are = λ q. subst (λ (o : Option ℕ). IsNumbered names (d.Struct at x fields ∷ ds) new.all.items q o) (sym (l q))
      (subst (λ (ks : List CodeStruct). IsNumbered names (d.Struct at x fields ∷ ds) ks q (cond (bytes_eq x.name q) (Some (length old.all.items)) (lookup (bytes_eq q) old.numbers.entries))) (sym a)
      (one_more names ds at x fields old.all.items kept q (lookup (bytes_eq q) old.numbers.entries) (bytes_eq x.name q) refl n k m w (t.numbers_are q)));
  count = ap length a ∙ length-append old.all.items (kept ∷ []) ∙ ap (λ k. k + 1) t.count ∙ sym (length-append (struct_names ds) (x.name ∷ []));
}

-- ---- all structs so far are the first ones

all_first : (names : List (List ℕ)) (ds : Declarations) (all : List CodeStruct) (x : List ℕ) (o : Option ℕ) → IsNumbered names ds all x o → IsNumbered names ds all x (among_first (length all) o)
all_first names ds all x None h = h
all_first names ds all x (Some i) h = let l = slice_get_within all i h.kept h.kept_is in let b : nat_lt i (length all) ≡ true = grind (arith, nat_tests, l) in
    subst (λ (c : Bool). IsNumbered names ds all x (if c then Some i else None)) (sym b) h

pub table_first : (names : List (List ℕ)) (ds : Declarations) (structs : Structs) → IsTable names ds structs → AreFirst names ds structs (length structs.all.items)
table_first names ds structs t = record { numbers_are = λ x. all_first names ds structs.all.items x (lookup (bytes_eq x) structs.numbers.entries) (t.numbers_are x) }

-- ---- the first structs of a text

pub later_names : List Decl → List (List ℕ)
later_names [] = []
later_names (d.Struct at x fields ∷ xs) = x.name ∷ later_names xs
later_names (_ ∷ xs) = later_names xs

pub names_reversed : (ds : Declarations) (xs : List Decl) → struct_names (reversed ds xs) ≡ struct_names ds ++ later_names xs
unfolding later_names
names_reversed ds [] = sym (append-nil (struct_names ds))
names_reversed ds (d.Struct at x fields ∷ xs) = names_reversed (d.Struct at x fields ∷ ds) xs ∙ append_assoc (struct_names ds) (x.name ∷ []) (later_names xs)
names_reversed ds (d.Extern at x ty ∷ xs) = names_reversed (d.Extern at x ty ∷ ds) xs
names_reversed ds (d.Stream at x ty init e ∷ xs) = names_reversed (d.Stream at x ty init e ∷ ds) xs
names_reversed ds (d.Def at x ty e ∷ xs) = names_reversed (d.Def at x ty e ∷ ds) xs
names_reversed ds (d.Trigger at x guard args ∷ xs) = names_reversed (d.Trigger at x guard args ∷ ds) xs
names_reversed ds (d.Observer at x e ∷ xs) = names_reversed (d.Observer at x e ∷ ds) xs

after : {X : Type 0} (xs : List X) (y : X) (zs : List X) → slice_get (xs ++ y ∷ zs) (length xs) ≡ Some y
after [] y zs = refl
after (x ∷ xs) y zs = after xs y zs

pub in_front : {X : Type 0} (xs zs : List X) (i : ℕ) (x : X) → slice_get xs i ≡ Some x → slice_get (xs ++ zs) i ≡ Some x
in_front [] zs i x h = absurd (cc)
in_front (y ∷ xs) zs zero x h = h
in_front (y ∷ xs) zs (suc i) x h = in_front xs zs i x h

-- the name of the next struct of a text is at the place of its number
pub next_name : (ds : Declarations) (at : ℕ) (x : NameAt) (fields : List FieldForm) (xs : List Decl) → slice_get (struct_names (reversed ds (d.Struct at x fields ∷ xs))) (length (struct_names ds)) ≡ Some x.name
unfolding later_names
next_name ds at x fields xs = ap (λ ns. slice_get ns (length (struct_names ds))) (names_reversed ds (d.Struct at x fields ∷ xs)) ∙ after (struct_names ds) x.name (later_names xs)

-- these declarations have of a struct what those have
pub record IsAlike (ds es : Declarations) (x : List ℕ) : Type 0 where
  pub struct_is : struct_in es x ≡ struct_in ds x
  pub words_are : struct_words es x ≡ struct_words ds x

alike_on : (ds es fs : Declarations) (x : List ℕ) → IsAlike ds es x → IsAlike es fs x → IsAlike ds fs x
alike_on ds es fs x a b = record { struct_is = b.struct_is ∙ a.struct_is; words_are = b.words_are ∙ a.words_are }

another : (ds : Declarations) (at : ℕ) (y : NameAt) (fields : List FieldForm) (x : List ℕ) (b : Bool) → bytes_eq y.name x ≡ b → (y.name ≡ x → ⊥) → IsAlike ds (d.Struct at y fields ∷ ds) x
another ds at y fields x true e n = absurd (n (list_same y.name x e))
another ds at y fields x false e n = record {
  struct_is = ap (λ c. if c then Some (record { fields = fields; before = ds }) else struct_in ds x) e;
  words_are = ap (λ c. if c then struct_width ds fields else struct_words ds x) e;
}

apart_names : (names : List (List ℕ)) → IsDistinct names → (i j : ℕ) (x y : List ℕ) → i < j → slice_get names i ≡ Some x → slice_get names j ≡ Some y → y ≡ x → ⊥
apart_names names k i j x y l p q e = let f = k.once i j x p (q ∙ ap Some e) in omega arith

pub grown : (names : List (List ℕ)) → IsDistinct names → (ds : Declarations) (xs : List Decl) → names ≡ struct_names (reversed ds xs) → (i : ℕ) (x : List ℕ) → slice_get names i ≡ Some x → i < length (struct_names ds) → IsAlike ds (reversed ds xs) x
grown names k ds [] n i x h l = record { struct_is = refl; words_are = refl }
grown names k ds (d.Struct at y fields ∷ xs) n i x h l =
    let more = grown names k (d.Struct at y fields ∷ ds) xs n i x h (omega (arith, length-append (struct_names ds) (y.name ∷ []))) in
    let here : slice_get names (length (struct_names ds)) ≡ Some y.name = ap (λ ns. slice_get ns (length (struct_names ds))) n ∙ next_name ds at y fields xs in
    alike_on ds (d.Struct at y fields ∷ ds) (reversed (d.Struct at y fields ∷ ds) xs) x (another ds at y fields x (bytes_eq y.name x) refl (apart_names names k i (length (struct_names ds)) x y.name l h here)) more
grown names k ds (d.Extern at y ty ∷ xs) n i x h l = let m = grown names k (d.Extern at y ty ∷ ds) xs n i x h l in record { struct_is = m.struct_is; words_are = m.words_are }
grown names k ds (d.Stream at y ty init e ∷ xs) n i x h l = let m = grown names k (d.Stream at y ty init e ∷ ds) xs n i x h l in record { struct_is = m.struct_is; words_are = m.words_are }
grown names k ds (d.Def at y ty e ∷ xs) n i x h l = let m = grown names k (d.Def at y ty e ∷ ds) xs n i x h l in record { struct_is = m.struct_is; words_are = m.words_are }
grown names k ds (d.Trigger at y guard args ∷ xs) n i x h l = let m = grown names k (d.Trigger at y guard args ∷ ds) xs n i x h l in record { struct_is = m.struct_is; words_are = m.words_are }
grown names k ds (d.Observer at y e ∷ xs) n i x h l = let m = grown names k (d.Observer at y e ∷ ds) xs n i x h l in record { struct_is = m.struct_is; words_are = m.words_are }

-- the place of a struct's name
found_if : (ds : Declarations) (at : ℕ) (y : NameAt) (fields : List FieldForm) (x : List ℕ) (s : Struct) (b : Bool) → bytes_eq y.name x ≡ b → ((r : Struct) → struct_in ds x ≡ Some r → (j : ℕ) × (slice_get (struct_names ds) j ≡ Some x)) → struct_in (d.Struct at y fields ∷ ds) x ≡ Some s → (j : ℕ) × (slice_get (struct_names ds ++ y.name ∷ []) j ≡ Some x)
found_if ds at y fields x s true e f h = (length (struct_names ds), at_end (struct_names ds) y.name ∙ ap Some (list_same y.name x e))
found_if ds at y fields x s false e f h =
    let r = f s (sym (ap (λ c. if c then Some (record { fields = fields; before = ds }) else struct_in ds x) e) ∙ h) in
    (r.0, at_front (struct_names ds) y.name r.0 x r.1)

pub found_name : (ds : Declarations) (x : List ℕ) (s : Struct) → struct_in ds x ≡ Some s → (j : ℕ) × (slice_get (struct_names ds) j ≡ Some x)
found_name [] x s h = absurd (cc)
found_name (d.Struct at y fields ∷ ds) x s h = found_if ds at y fields x s (bytes_eq y.name x) refl (λ r. found_name ds x r) h
found_name (d.Extern at y ty ∷ ds) x s h = found_name ds x s h
found_name (d.Stream at y ty init e ∷ ds) x s h = found_name ds x s h
found_name (d.Def at y ty e ∷ ds) x s h = found_name ds x s h
found_name (d.Trigger at y guard args ∷ ds) x s h = found_name ds x s h
found_name (d.Observer at y e ∷ ds) x s h = found_name ds x s h

-- a struct that isn't there yet
pub not_yet : (ds : Declarations) (x : List ℕ) (o : Option Struct) → struct_in ds x ≡ o → ((j : ℕ) → slice_get (struct_names ds) j ≡ Some x → ⊥) → struct_in ds x ≡ None
not_yet ds x None e f = e
not_yet ds x (Some s) e f = let r = found_name ds x s e in absurd (f r.0 r.1)

first_if : (names : List (List ℕ)) → IsDistinct names → (ds : Declarations) (xs : List Decl) → names ≡ struct_names (reversed ds xs) → (all : List CodeStruct) (x : List ℕ) (i : ℕ) (b : Bool) → nat_lt i (length (struct_names ds)) ≡ b → IsStructAt names (reversed ds xs) all x i → IsNumbered names ds all x (if b then Some i else None)
first_if names k ds xs n all x i true e h =
    let a = grown names k ds xs n i x h.name_is (grind (arith, nat_tests, e)) in
    record { name_is = h.name_is; declared = h.declared; is = sym a.struct_is ∙ h.is; kept = h.kept; kept_is = h.kept_is; kept_name = h.kept_name; members = h.members; words = h.words ∙ ap capped a.words_are }
first_if names k ds xs n all x i false e h = not_yet ds x (struct_in ds x) refl (λ j p.
    let q : slice_get names j ≡ Some x = ap (λ ns. slice_get ns j) (n ∙ names_reversed ds xs) ∙ in_front (struct_names ds) (later_names xs) j x p in
    let l = slice_get_within (struct_names ds) j x p in
    let f = k.once i j x h.name_is q in
    let g : length (struct_names ds) ≤ i = grind (arith, nat_tests, e) in
    absurd (omega arith))

-- what is nowhere in the text isn't there yet
none_yet : (names : List (List ℕ)) → IsDistinct names → (ds : Declarations) (xs : List Decl) → names ≡ struct_names (reversed ds xs) → (x : List ℕ) (o : Option Struct) → struct_in ds x ≡ o → struct_in (reversed ds xs) x ≡ None → struct_in ds x ≡ None
none_yet names k ds xs n x None e h = e
none_yet names k ds xs n x (Some s) e h =
    let r = found_name ds x s e in
    let q : slice_get names r.0 ≡ Some x = ap (λ ns. slice_get ns r.0) (n ∙ names_reversed ds xs) ∙ in_front (struct_names ds) (later_names xs) r.0 x r.1 in
    let a = grown names k ds xs n r.0 x q (slice_get_within (struct_names ds) r.0 x r.1) in
    sym a.struct_is ∙ h

first_at_all : (names : List (List ℕ)) → IsDistinct names → (ds : Declarations) (xs : List Decl) → names ≡ struct_names (reversed ds xs) → (all : List CodeStruct) (x : List ℕ) (o : Option ℕ) → IsNumbered names (reversed ds xs) all x o → IsNumbered names ds all x (among_first (length (struct_names ds)) o)
first_at_all names k ds xs n all x None h = none_yet names k ds xs n x (struct_in ds x) refl h
first_at_all names k ds xs n all x (Some i) h = first_if names k ds xs n all x i (nat_lt i (length (struct_names ds))) refl h

-- In a text whose structs all have names of their own, the structs before a declaration are the first ones.
pub first_ones : (names : List (List ℕ)) → IsDistinct names → (ds : Declarations) (xs : List Decl) → names ≡ struct_names (reversed ds xs) → (structs : Structs) → IsTable names (reversed ds xs) structs → AreFirst names ds structs (length (struct_names ds))
first_ones names k ds xs n structs t = record { numbers_are = λ x. first_at_all names k ds xs n structs.all.items x (lookup (bytes_eq x) structs.numbers.entries) (t.numbers_are x) }

-- ---- items

item_if : (names : List (List ℕ)) (o : Option Named) (n : Named) (i : Item) (l : Option Item) (b : Bool) → i.kind ≡ kind_of n → MeansOption names i.ty (declared n).ty → IsItem names o l → IsItem names (if b then Some n else o) (cond b (Some i) l)
item_if names o n i l true k m h = an_item k m
item_if names o n i l false k m h = h

pub item_more : (names : List (List ℕ)) (ds : Declarations) (x : NameAt) (n : Named) (i : Item) (old new : List (List ℕ × Item)) → HasItems names ds old → i.kind ≡ kind_of n → MeansOption names i.ty (declared n).ty
    → ((q : List ℕ) → lookup (bytes_eq q) new ≡ cond (bytes_eq x.name q) (Some i) (lookup (bytes_eq q) old))
    → (q : List ℕ) → IsItem names (if bytes_eq x.name q then Some n else named_in ds q) (lookup (bytes_eq q) new)
item_more names ds x n i old new h k m l q = subst (λ (o : Option Item). IsItem names (if bytes_eq x.name q then Some n else named_in ds q) o) (sym (l q))
    (item_if names (named_in ds q) n i (lookup (bytes_eq q) old) (bytes_eq x.name q) k m (h.items_are q))

-- ---- declarations one after another

pub reversed_append : (ds : Declarations) (xs ys : List Decl) → reversed ds (xs ++ ys) ≡ reversed (reversed ds xs) ys
reversed_append ds [] ys = refl
reversed_append ds (x ∷ xs) ys = reversed_append (x ∷ ds) xs ys

-- the next one, between those before it and those behind it
pub reversed_at : (xs : List Decl) (i : ℕ) (x out : Decl) → i < length xs → x ≡ get_or xs i out → reversed [] xs ≡ reversed (reversed [] (take i xs)) (x ∷ drop (i + 1) xs)
reversed_at xs i x out low is = ap (reversed []) (sym (take-append-drop i xs)) ∙ reversed_append [] (take i xs) (drop i xs)
    ∙ ap (reversed (reversed [] (take i xs))) (drop_more xs i out low ∙ ap (λ y. y ∷ drop (i + 1) xs) (sym is))

pub reversed_more : (xs : List Decl) (i : ℕ) (x out : Decl) → i < length xs → x ≡ get_or xs i out → x ∷ reversed [] (take i xs) ≡ reversed [] (take (i + 1) xs)
reversed_more xs i x out low is = sym (ap (reversed []) (take_more xs i out low ∙ ap (λ y. take i xs ++ y ∷ []) (sym is)) ∙ reversed_append [] (take i xs) (x ∷ []))

pub table_none : (names : List (List ℕ)) (structs : Structs) → structs.numbers.entries ≡ [] → structs.all.items ≡ [] → IsTable names [] structs
table_none names structs e f = record {
  numbers_are = λ x. subst (λ es. IsNumbered names [] structs.all.items x (lookup (bytes_eq x) es)) (sym e) refl;
  count = ap length f;
}

pub items_none : (names : List (List ℕ)) (items : List (List ℕ × Item)) → items ≡ [] → HasItems names [] items
items_none names items e = record { items_are = λ x. subst (λ es. IsItem names None (lookup (bytes_eq x) es)) (sym e) no_item }
