-- The names of each kind of item, as far as a text's declarations were taken in.
use Rattle.std.proofs.Common.{◌≡◌, ◌+◌, ◌<◌, ℕ, suc, Bool, true, false, not, cond, List, [], ◌∷◌, ◌++◌, length, take, get_or, refl, sym, ap, ◌∙◌, subst, arith, append-nil, length-append}
use Rattle.std.specs.Prelude.{◌||◌, nat_lt, Option, Some, None, is_some, bytes_eq}
use Rattle.std.specs.Map.{lookup}
use Rattle.std.specs.List.{list_any, position, position_or_len}
use Rattle.std.specs.Option.{option_map, option_map_or}
use Rattle.std.proofs.lemmas.List.{take_more}
use Rattle.std.proofs.lemmas.List.Recursion.{is_position_or_len}
use Rattle.std.proofs.lemmas.Slice.Eq.{bytes_eq-Decides}
use Rattle.std.proofs.lemmas.Bool.Decides.{nat_tests}
use Rattle.spec_text.specs.declared.surface.Decl.{Decl}
use Rattle.spec_text.specs.declared.surface.Decl.TheVariants as d
use Rattle.type_check.proofs.Meaning.{one_test}
use Rattle.typed_text.specs.ReadSpec.{extern_names, stream_names, def_names}
use Rattle.typed_spec.specs.declared.table.Table.{Table}
use Rattle.typed_spec.specs.Texts.{AreNumbered}

-- ---- the first place that passes

suc_lt : (i n : ℕ) → nat_lt (1 + i) (suc n) ≡ nat_lt i n
suc_lt i n = grind (arith, nat_tests)

placed_by : (c : Bool) (i : ℕ) → cond c (Some (1 + i)) None ≡ option_map suc (cond c (Some i) None)
placed_by true i = let e : 1 + i ≡ suc i = omega arith in ap (λ (k : ℕ). Some k) e
placed_by false i = refl

placed_if : (b : Bool) (i n : ℕ) → cond (nat_lt (cond (not b) (1 + i) 0) (suc n)) (Some (cond (not b) (1 + i) 0)) None ≡ cond b (Some 0) (option_map suc (cond (nat_lt i n) (Some i) None))
placed_if true i n = let e : nat_lt 0 (suc n) ≡ true = grind (arith, nat_tests) in ap (λ c. cond c (Some 0) None) e
placed_if false i n = ap (λ c. cond c (Some (1 + i)) None) (suc_lt i n) ∙ placed_by (nat_lt i n) i

position_more : {X : Type 0} (p : X → Bool) (x : X) (xs : List X) → position p (x ∷ xs) ≡ cond (p x) (Some 0) (option_map suc (position p xs))
position_more p x xs = placed_if (p x) (position_or_len p xs) (length xs)

later : (b c : Bool) (o : Option ℕ) (n : ℕ) → cond b (Some 0) (option_map suc (option_map_or (λ k. Some k) o (cond c (Some n) None))) ≡ option_map_or (λ k. Some k) (cond b (Some 0) (option_map suc o)) (cond c (Some (suc n)) None)
later true c o n = refl
later false true None n = refl
later false false None n = refl
later false c (Some k) n = refl

last_by : (b : Bool) → cond (nat_lt (cond (not b) (1 + 0) 0) 1) (Some (cond (not b) (1 + 0) 0)) None ≡ cond b (Some 0) None
last_by true = refl
last_by false = refl

position_last : {X : Type 0} (p : X → Bool) (xs : List X) (y : X) → position p (xs ++ y ∷ []) ≡ option_map_or (λ k. Some k) (position p xs) (cond (p y) (Some (length xs)) None)
position_last p [] y = last_by (p y)
position_last p (x ∷ xs) y = position_more p x (xs ++ y ∷ []) ∙ ap (λ o. cond (p x) (Some 0) (option_map suc o)) (position_last p xs y) ∙ later (p x) (p y) (position p xs) (length xs)
    ∙ ap (λ o. option_map_or (λ k. Some k) o (cond (p y) (Some (suc (length xs))) None)) (sym (position_more p x xs))

any_by : (b : Bool) (o : Option ℕ) → is_some (cond b (Some 0) (option_map suc o)) ≡ (b || is_some o)
any_by true o = refl
any_by false None = refl
any_by false (Some k) = refl

pub any_position : {X : Type 0} (p : X → Bool) (xs : List X) → is_some (position p xs) ≡ list_any p xs
any_position p [] = refl
any_position p (x ∷ xs) = ap is_some (position_more p x xs) ∙ any_by (p x) (position p xs) ∙ ap (λ b. p x || b) (any_position p xs)

mapped : (o : Option ℕ) (n : ℕ) → option_map_or (λ k. k) (option_map suc o) (suc n) ≡ 1 + option_map_or (λ k. k) o n
mapped None n = omega arith
mapped (Some k) n = omega arith

stepped : (b : Bool) (o : Option ℕ) (n : ℕ) → option_map_or (λ k. k) (cond b (Some 0) (option_map suc o)) (suc n) ≡ cond b 0 (1 + option_map_or (λ k. k) o n)
stepped true o n = refl
stepped false o n = mapped o n

pub position_or : {X : Type 0} (p : X → Bool) (xs : List X) → option_map_or (λ k. k) (position p xs) (length xs) ≡ position_or_len p xs
position_or p xs = is_position_or_len (λ ys. option_map_or (λ k. k) (position p ys) (length ys)) p refl
    (λ x ys. ap (λ o. option_map_or (λ k. k) o (suc (length ys))) (position_more p x ys) ∙ stepped (p x) (position p ys) (length ys)) xs

-- ---- one name more

bytes_refl : (x : List ℕ) → bytes_eq x x ≡ true
bytes_refl x = (bytes_eq-Decides x x).1 refl

bytes_sym : (x y : List ℕ) → bytes_eq x y ≡ bytes_eq y x
bytes_sym x y = one_test (bytes_eq x y) (bytes_eq y x)
    (λ h. subst (λ z. bytes_eq z x ≡ true) ((bytes_eq-Decides x y).0 h) (bytes_refl x))
    (λ h. subst (λ z. bytes_eq z y ≡ true) ((bytes_eq-Decides y x).0 h) (bytes_refl y))

new_number : (o : Option ℕ) (i : ℕ) (b : Bool) → (b ≡ true → is_some o ≡ false) → cond b (Some i) o ≡ option_map_or (λ k. Some k) o (cond b (Some i) None)
new_number None i true f = refl
new_number None i false f = refl
new_number (Some k) i true f = let e = f refl in absurd (cc)
new_number (Some k) i false f = refl

same_number : (o : Option ℕ) (i : ℕ) (b : Bool) → (b ≡ true → is_some o ≡ true) → o ≡ option_map_or (λ k. Some k) o (cond b (Some i) None)
same_number None i true f = let e = f refl in absurd (cc)
same_number None i false f = refl
same_number (Some k) i b f = refl

pub no_names : (table : Table) → table.numbers.entries ≡ [] → table.count ≡ 0 → AreNumbered [] table
no_names table e c = record { numbers_are = λ q. ap (lookup (bytes_eq q)) e; count = c }

count_more : (all : List (List ℕ)) (x : List ℕ) (old new : ℕ) → old ≡ length all → new ≡ old + 1 → new ≡ length (all ++ x ∷ [])
count_more all x old new h e = let l = length-append all (x ∷ []) in omega (arith, h, e, l)

pub name_more : (all : List (List ℕ)) (x : List ℕ) (old new : Table) → AreNumbered all old → is_some (lookup (bytes_eq x) old.numbers.entries) ≡ false
    → ((q : List ℕ) → lookup (bytes_eq q) new.numbers.entries ≡ cond (bytes_eq x q) (Some old.count) (lookup (bytes_eq q) old.numbers.entries)) → new.count ≡ old.count + 1 → AreNumbered (all ++ x ∷ []) new
name_more all x old new h none l c = record {
  numbers_are = λ q.
      l q ∙ new_number (lookup (bytes_eq q) old.numbers.entries) old.count (bytes_eq x q) (λ b. subst (λ z. is_some (lookup (bytes_eq z) old.numbers.entries) ≡ false) ((bytes_eq-Decides x q).0 b) none)
      ∙ ap (λ o. option_map_or (λ k. Some k) o (cond (bytes_eq x q) (Some old.count) None)) (h.numbers_are q)
      ∙ ap (λ b. option_map_or (λ k. Some k) (position (bytes_eq q) all) (cond b (Some old.count) None)) (bytes_sym x q)
      ∙ ap (λ n. option_map_or (λ k. Some k) (position (bytes_eq q) all) (cond (bytes_eq q x) (Some n) None)) h.count
      ∙ sym (position_last (bytes_eq q) all x);
  count = count_more all x old.count new.count h.count c;
}

pub name_again : (all : List (List ℕ)) (x : List ℕ) (old new : Table) → AreNumbered all old → is_some (lookup (bytes_eq x) old.numbers.entries) ≡ true → new.numbers.entries ≡ old.numbers.entries → new.count ≡ old.count + 1 → AreNumbered (all ++ x ∷ []) new
name_again all x old new h some e c = record {
  numbers_are = λ q.
      ap (lookup (bytes_eq q)) e
      ∙ same_number (lookup (bytes_eq q) old.numbers.entries) (length all) (bytes_eq x q) (λ b. subst (λ z. is_some (lookup (bytes_eq z) old.numbers.entries) ≡ true) ((bytes_eq-Decides x q).0 b) some)
      ∙ ap (λ o. option_map_or (λ k. Some k) o (cond (bytes_eq x q) (Some (length all)) None)) (h.numbers_are q)
      ∙ ap (λ b. option_map_or (λ k. Some k) (position (bytes_eq q) all) (cond b (Some (length all)) None)) (bytes_sym x q)
      ∙ sym (position_last (bytes_eq q) all x);
  count = count_more all x old.count new.count h.count c;
}

-- no name more
pub no_more : (all : List (List ℕ)) (table : Table) → AreNumbered all table → AreNumbered (all ++ []) table
no_more all table h = subst (λ ns. AreNumbered ns table) (sym (append-nil all)) h

-- ---- one declaration more

externs_append : (xs ys : List Decl) → extern_names (xs ++ ys) ≡ extern_names xs ++ extern_names ys
externs_append [] ys = refl
externs_append (d.Struct at x fields ∷ xs) ys = externs_append xs ys
externs_append (d.Extern at x ty ∷ xs) ys = ap (λ ns. x.name ∷ ns) (externs_append xs ys)
externs_append (d.Stream at x ty init e ∷ xs) ys = externs_append xs ys
externs_append (d.Def at x ty e ∷ xs) ys = externs_append xs ys
externs_append (d.Trigger at x guard args ∷ xs) ys = externs_append xs ys
externs_append (d.Observer at x e ∷ xs) ys = externs_append xs ys

streams_append : (xs ys : List Decl) → stream_names (xs ++ ys) ≡ stream_names xs ++ stream_names ys
streams_append [] ys = refl
streams_append (d.Struct at x fields ∷ xs) ys = streams_append xs ys
streams_append (d.Extern at x ty ∷ xs) ys = streams_append xs ys
streams_append (d.Stream at x ty init e ∷ xs) ys = ap (λ ns. x.name ∷ ns) (streams_append xs ys)
streams_append (d.Def at x ty e ∷ xs) ys = streams_append xs ys
streams_append (d.Trigger at x guard args ∷ xs) ys = streams_append xs ys
streams_append (d.Observer at x e ∷ xs) ys = streams_append xs ys

defs_append : (xs ys : List Decl) → def_names (xs ++ ys) ≡ def_names xs ++ def_names ys
defs_append [] ys = refl
defs_append (d.Struct at x fields ∷ xs) ys = defs_append xs ys
defs_append (d.Extern at x ty ∷ xs) ys = defs_append xs ys
defs_append (d.Stream at x ty init e ∷ xs) ys = defs_append xs ys
defs_append (d.Def at x ty e ∷ xs) ys = ap (λ ns. x.name ∷ ns) (defs_append xs ys)
defs_append (d.Trigger at x guard args ∷ xs) ys = defs_append xs ys
defs_append (d.Observer at x e ∷ xs) ys = defs_append xs ys

taken : (xs : List Decl) (i : ℕ) (x out : Decl) → i < length xs → x ≡ get_or xs i out → take i xs ++ x ∷ [] ≡ take (i + 1) xs
taken xs i x out low is = ap (λ y. take i xs ++ y ∷ []) is ∙ sym (take_more xs i out low)

pub externs_more : (xs : List Decl) (i : ℕ) (x out : Decl) (table : Table) → i < length xs → x ≡ get_or xs i out → AreNumbered (extern_names (take i xs) ++ extern_names (x ∷ [])) table → AreNumbered (extern_names (take (i + 1) xs)) table
externs_more xs i x out table low is h = subst (λ ns. AreNumbered ns table) (sym (externs_append (take i xs) (x ∷ [])) ∙ ap extern_names (taken xs i x out low is)) h

pub streams_more : (xs : List Decl) (i : ℕ) (x out : Decl) (table : Table) → i < length xs → x ≡ get_or xs i out → AreNumbered (stream_names (take i xs) ++ stream_names (x ∷ [])) table → AreNumbered (stream_names (take (i + 1) xs)) table
streams_more xs i x out table low is h = subst (λ ns. AreNumbered ns table) (sym (streams_append (take i xs) (x ∷ [])) ∙ ap stream_names (taken xs i x out low is)) h

pub defs_more : (xs : List Decl) (i : ℕ) (x out : Decl) (table : Table) → i < length xs → x ≡ get_or xs i out → AreNumbered (def_names (take i xs) ++ def_names (x ∷ [])) table → AreNumbered (def_names (take (i + 1) xs)) table
defs_more xs i x out table low is h = subst (λ ns. AreNumbered ns table) (sym (defs_append (take i xs) (x ∷ [])) ∙ ap def_names (taken xs i x out low is)) h
