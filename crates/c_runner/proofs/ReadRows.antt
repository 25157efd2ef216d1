-- Words of a row's scalars give the externs' values, and the words of a call's values are those of its parameters' scalars.
use Rattle.std.proofs.Common.{◌≡◌, ℕ, zero, suc, ◌&&◌, Bool, true, false, List, [], ◌∷◌, ◌++◌, append_assoc, map, Option, Some, refl, sym, ap, ◌∙◌, subst}
use Rattle.std.specs.Prelude.{IsTrue}
use Rattle.std.specs.Option.{option_map, option_and_then}
use Rattle.std.specs.List.{flat_map, list_all}
use Rattle.std.proofs.lemmas.Bool.{and_parts}
use Rattle.std.proofs.lemmas.List.Concat.{flat_map-cons}
use Rattle.stream_types.specs.declared.scalar.Scalar.{Scalar}
use Rattle.stream_types.specs.Types.{AreWords, leaves, repeated as repeat_scalars}
use Rattle.c99_tree.specs.declared.types.CScalar.{CScalar}
use Rattle.c99_tree.specs.declared.types.CTy.{CTy}
use Rattle.c99_tree.specs.declared.types.CVar.{CVar}
use Rattle.c99_tree.specs.declared.types.CDef.{CDef}
use Rattle.c99_tree.specs.declared.types.CProto.{CProto}
use Rattle.c99_tree.specs.declared.unit.CRing.{CRing}
use Rattle.c99_tree.specs.declared.unit.Unit.{Unit as CUnit}
use Rattle.c99_tree.specs.Lookup.{is_defined}
use Rattle.c99_tree.specs.Values.{Value, Values, number, struct_of, array_of, no_value, and_value, values, is_word, number_of_word, word_of_number}
use Rattle.c99_tree.specs.Values.{words_of, words_of_all, Shape, Shapes, scalar, members, elements, no_shape, and_shape, shape_of, repeated, filled}
use Rattle.c99_tree.specs.Values.{filled_all, row_values}
use Rattle.c99_tree.specs.Typed.{IsValueOf, AreValuesOf, IsRow}
use Rattle.c99_tree.specs.WellFormed.{types_are_built_in_order, types_come_first}
use Rattle.c99_tree.proofs.LookedUp.{found}
use Rattle.c99_tree.proofs.Shaped.{shape_of-defined}
use Rattle.c99_tree.proofs.TypedShapes.{HasShape, HaveShapes, Times, IfSome, filled_has}
use Rattle.c99_tree.proofs.WordsBack.{number_back, words_back}
use Rattle.c_runner.specs.Read.{read_type, read_types, scalar_of}
use Rattle.c_runner.proofs.ReadWords.{word_same}
use Rattle.c_runner.proofs.ReadLeaves.{leaves_read, shape_scalars, shapes_scalars}

-- ---- from words to values

-- what a reader gives of words, and that it leaves words of the scalars behind it
pub record Given {A : Type 0} (o : Option (A × List ℕ)) (more : List Scalar) : Type 0 where
  pub value : A
  pub rest : List ℕ
  pub is : o ≡ Some (value, rest)
  pub words : AreWords more rest

map_given : {A B : Type 0} (f : A → B) (o : Option (A × List ℕ)) (more : List Scalar) → Given o more
    → Given (option_map (λ (a : A × List ℕ). (f a.0, a.1)) o) more
map_given f o more g = record { value = f g.value; rest = g.rest; is = rw g.is refl; words = g.words }

then_given : {A B C : Type 0} (k : A → B → C) (o : Option (A × List ℕ)) (next : List ℕ → Option (B × List ℕ)) (middle more : List Scalar) → Given o middle
    → ((ws : List ℕ) → AreWords middle ws → Given (next ws) more)
    → Given (option_and_then (λ (a : A × List ℕ). option_map (λ (b : B × List ℕ). (k a.0 b.0, b.1)) (next a.1)) o) more
then_given k o next middle more g m =
    let h = m g.rest g.words in
    record { value = k g.value h.value; rest = h.rest; is = rw (g.is, h.is) refl; words = h.words }

scalar_given : (t : CScalar) (more : List Scalar) (ws : List ℕ) → AreWords (scalar_of t ∷ more) ws → Given (filled (scalar t) ws) more
scalar_given t more [] h = absurd h
scalar_given t more (w ∷ ws) h =
    let e : is_word t w ≡ true = sym (word_same t w) ∙ h.0 in
    record { value = number (number_of_word t w); rest = ws; is = rw e refl; words = h.1 }

repeated_given : (n : ℕ) (scalars : List Scalar) (f : List ℕ → Option (Value × List ℕ))
    → ((more : List Scalar) (ws : List ℕ) → AreWords (scalars ++ more) ws → Given (f ws) more)
    → (more : List Scalar) (ws : List ℕ) → AreWords (repeat_scalars n scalars ++ more) ws → Given (repeated n f ws) more
repeated_given zero scalars f m more ws h = record { value = []; rest = ws; is = refl; words = h }
repeated_given (suc n) scalars f m more ws h =
    then_given (λ (v : Value) (vs : List Value). v ∷ vs) (f ws) (repeated n f) (repeat_scalars n scalars ++ more) more
    (m (repeat_scalars n scalars ++ more) ws (subst (λ (ss : List Scalar). AreWords ss ws) (append_assoc scalars (repeat_scalars n scalars) more) h))
    (repeated_given n scalars f m more)

mutual
  pub filled_given : (s : Shape) (more : List Scalar) (ws : List ℕ) → AreWords (shape_scalars s ++ more) ws → Given (filled s ws) more
  filled_given (scalar t) more ws h = scalar_given t more ws h
  filled_given (members ss) more ws h = map_given struct_of (filled_all ss ws) more (filled_all_given ss more ws h)
  filled_given (elements n s) more ws h =
      map_given (λ (vs : List Value). array_of (values vs)) (repeated n (filled s) ws) more
      (repeated_given n (shape_scalars s) (filled s) (filled_given s) more ws h)

  filled_all_given : (ss : Shapes) (more : List Scalar) (ws : List ℕ) → AreWords (shapes_scalars ss ++ more) ws → Given (filled_all ss ws) more
  filled_all_given no_shape more ws h = record { value = no_value; rest = ws; is = refl; words = h }
  filled_all_given (and_shape s ss) more ws h =
      then_given and_value (filled s ws) (filled_all ss) (shapes_scalars ss ++ more) more
      (filled_given s (shapes_scalars ss ++ more) ws (subst (λ (xs : List Scalar). AreWords xs ws) (append_assoc (shape_scalars s) (shapes_scalars ss) more) h))
      (filled_all_given ss more)

-- ---- a row

abbrev scalars_in : List CDef → CTy → List Scalar
scalars_in ds r = leaves (read_types ds) (read_type ds r)

-- the values of a variable of this shape and of those behind it
abbrev then_rest : List CDef → List CVar → List ℕ → Shape → Option (List Value × List ℕ)
then_rest ds xs ws z =
    option_and_then (λ (a : Value × List ℕ). option_map (λ (b : List Value × List ℕ). (a.0 ∷ b.0, b.1)) (row_values ds xs a.1)) (filled z ws)

at_shape : (ds : List CDef) (x : CVar) (xs : List CVar) (ws : List ℕ) (s : Shape) → shape_of ds x.ty ≡ Some s → Given (then_rest ds xs ws s) []
    → Given (row_values ds (x ∷ xs) ws) []
at_shape ds x xs ws s e g = subst (λ (o : Option Shape). Given (option_and_then (then_rest ds xs ws) o) []) (sym e) g

row_given : (ds : List CDef) → types_are_built_in_order ds ≡ true → (xs : List CVar) → list_all (λ (x : CVar). is_defined ds x.ty) xs ≡ true → (ws : List ℕ)
    → AreWords (flat_map (λ (x : CVar). scalars_in ds x.ty) xs) ws → Given (row_values ds xs ws) []
row_given ds ordered [] d ws h = record { value = []; rest = ws; is = refl; words = h }
row_given ds ordered (x ∷ xs) d ws h =
    let p = and_parts (is_defined ds x.ty) (list_all (λ (y : CVar). is_defined ds y.ty) xs) d in
    let s = found (shape_of ds x.ty) (shape_of-defined ds ordered x.ty p.0) in
    let more : List Scalar = flat_map (λ (y : CVar). scalars_in ds y.ty) xs in
    let scalars : flat_map (λ (y : CVar). scalars_in ds y.ty) (x ∷ xs) ≡ shape_scalars s.0 ++ more =
    flat_map-cons (λ (y : CVar). scalars_in ds y.ty) x xs ∙ ap (λ (ss : List Scalar). ss ++ more) (leaves_read ds ordered x.ty s.0 p.0 s.1) in
    let one = filled_given s.0 more ws (subst (λ (ss : List Scalar). AreWords ss ws) scalars h) in
    at_shape ds x xs ws s.0 s.1
    (then_given (λ (v : Value) (vs : List Value). v ∷ vs) (filled s.0 ws) (row_values ds xs) more [] one (row_given ds ordered xs p.1))

no_words : (ws : List ℕ) → AreWords [] ws → ws ≡ []
no_words [] h = refl
no_words (w ∷ ws) h = absurd h

none_left : {A : Type 0} (o : Option (A × List ℕ)) → Given o [] → option_map (λ (a : A × List ℕ). a.1) o ≡ Some []
none_left o g = rw g.is (ap Some (no_words g.rest g.words))

four : (a b c d : Bool) → (a && b && c && d) ≡ true → (a ≡ true) × (b ≡ true) × (c ≡ true)
four true true true d h = (refl, refl, refl)
four true true false d h = absurd (cc h)
four true false c d h = absurd (cc h)
four false b c d h = absurd (cc h)

pub first_types : (u : CUnit) → IsTrue (types_come_first u)
    → (types_are_built_in_order u.types ≡ true) × (list_all (λ (x : CVar). is_defined u.types x.ty) u.externs ≡ true)
    × (list_all (λ (p : CProto). list_all (is_defined u.types) p.params) u.handlers ≡ true)
first_types u h =
    four (types_are_built_in_order u.types) (list_all (λ (x : CVar). is_defined u.types x.ty) u.externs)
    (list_all (λ (p : CProto). list_all (is_defined u.types) p.params) u.handlers)
    (list_all (λ (r : CRing). is_defined u.types r.ty) u.rings) h

pub row_read : (u : CUnit) → IsTrue (types_come_first u) → (row : List ℕ) → AreWords (flat_map (λ (x : CVar). scalars_in u.types x.ty) u.externs) row
    → IsRow u row
row_read u t row h =
    let p = first_types u t in
    none_left (row_values u.types u.externs row) (row_given u.types p.0 u.externs p.1 row h)

-- ---- from values to words

number_words : (t : CScalar) (more : List Scalar) (rest : List ℕ) (v : Value) → HasShape (scalar t) v → AreWords more rest
    → AreWords (shape_scalars (scalar t) ++ more) (words_of v ++ rest)
number_words t more rest (number x) h m = (word_same t (word_of_number x) ∙ (number_back t x h).0, m)
number_words t more rest (struct_of vs) h m = absurd h
number_words t more rest (array_of vs) h m = absurd h

regrouped : (a b c : List Scalar) (x y z : List ℕ) → AreWords (a ++ (b ++ c)) (x ++ (y ++ z)) → AreWords ((a ++ b) ++ c) ((x ++ y) ++ z)
regrouped a b c x y z h =
    subst (λ (ss : List Scalar). AreWords ss ((x ++ y) ++ z)) (sym (append_assoc a b c))
    (subst (λ (ws : List ℕ). AreWords (a ++ (b ++ c)) ws) (sym (append_assoc x y z)) h)

times_words : (P : Value → Type 0) (scalars : List Scalar)
    → ((more : List Scalar) (rest : List ℕ) (v : Value) → P v → AreWords more rest → AreWords (scalars ++ more) (words_of v ++ rest))
    → (n : ℕ) (more : List Scalar) (rest : List ℕ) (vs : Values) → Times P n vs → AreWords more rest
    → AreWords (repeat_scalars n scalars ++ more) (words_of_all vs ++ rest)
times_words P scalars m zero more rest no_value h r = r
times_words P scalars m zero more rest (and_value v vs) h r = absurd h
times_words P scalars m (suc n) more rest no_value h r = absurd h
times_words P scalars m (suc n) more rest (and_value v vs) h r =
    regrouped scalars (repeat_scalars n scalars) more (words_of v) (words_of_all vs) rest
    (m (repeat_scalars n scalars ++ more) (words_of_all vs ++ rest) v h.0 (times_words P scalars m n more rest vs h.1 r))

mutual
  value_words : (s : Shape) (more : List Scalar) (rest : List ℕ) (v : Value) → HasShape s v → AreWords more rest
      → AreWords (shape_scalars s ++ more) (words_of v ++ rest)
  value_words (scalar t) more rest v h r = number_words t more rest v h r
  value_words (members ss) more rest (number x) h r = absurd h
  value_words (members ss) more rest (struct_of vs) h r = all_words ss more rest vs h r
  value_words (members ss) more rest (array_of vs) h r = absurd h
  value_words (elements n s) more rest (number x) h r = absurd h
  value_words (elements n s) more rest (struct_of vs) h r = absurd h
  value_words (elements n s) more rest (array_of vs) h r = times_words (HasShape s) (shape_scalars s) (value_words s) n more rest vs h r

  all_words : (ss : Shapes) (more : List Scalar) (rest : List ℕ) (vs : Values) → HaveShapes ss vs → AreWords more rest
      → AreWords (shapes_scalars ss ++ more) (words_of_all vs ++ rest)
  all_words no_shape more rest no_value h r = r
  all_words no_shape more rest (and_value v vs) h r = absurd h
  all_words (and_shape s ss) more rest no_value h r = absurd h
  all_words (and_shape s ss) more rest (and_value v vs) h r =
      regrouped (shape_scalars s) (shapes_scalars ss) more (words_of v) (words_of_all vs) rest
      (value_words s (shapes_scalars ss ++ more) (words_of_all vs ++ rest) v h.0 (all_words ss more rest vs h.1 r))

value_has : (ds : List CDef) (r : CTy) (s : Shape) (v : Value) → shape_of ds r ≡ Some s → IsValueOf ds r v → HasShape s v
value_has ds r s v e h =
    subst (λ (o : Option (Value × List ℕ)). IfSome o (λ a. HasShape s a.0)) (words_back ds r s v [] e h) (filled_has s (words_of v ++ []))

-- the words of values of types are those of the types' scalars
pub values_worded : (ds : List CDef) → types_are_built_in_order ds ≡ true → (rs : List CTy) → list_all (is_defined ds) rs ≡ true → (vs : Values)
    → AreValuesOf ds rs vs
    → AreWords (flat_map (leaves (read_types ds)) (map (read_type ds) rs)) (words_of_all vs)
values_worded ds ordered [] d no_value h = tt
values_worded ds ordered [] d (and_value v vs) h = absurd h
values_worded ds ordered (r ∷ rs) d no_value h = absurd h
values_worded ds ordered (r ∷ rs) d (and_value v vs) h =
    let p = and_parts (is_defined ds r) (list_all (is_defined ds) rs) d in
    let s = found (shape_of ds r) (shape_of-defined ds ordered r p.0) in
    let more : List Scalar = flat_map (leaves (read_types ds)) (map (read_type ds) rs) in
    let scalars : flat_map (leaves (read_types ds)) (map (read_type ds) (r ∷ rs)) ≡ shape_scalars s.0 ++ more =
    flat_map-cons (leaves (read_types ds)) (read_type ds r) (map (read_type ds) rs)
    ∙ ap (λ (ss : List Scalar). ss ++ more) (leaves_read ds ordered r s.0 p.0 s.1) in
    subst (λ (ss : List Scalar). AreWords ss (words_of v ++ words_of_all vs)) (sym scalars)
    (value_words s.0 more (words_of_all vs) v (value_has ds r s.0 v s.1 h.0) (values_worded ds ordered rs p.1 vs h.1))
