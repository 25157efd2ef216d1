-- What a program looks up by name, where names are told apart.
use Rattle.std.proofs.Common.{◌≡◌, ℕ, zero, suc, ◌+◌, Bool, true, false, not, ◌||◌, cond, List, [], ◌∷◌, map, take, find, Option, Some, None, refl, sym, ap, ◌∙◌, subst, arith}
use Rattle.std.specs.Prelude.{slice_get, nat_lt, All}
use Rattle.std.specs.Option.{option_map, option_map_or}
use Rattle.std.specs.List.{list_any, position_or_len, filter_map, AllByRecursion}
use Rattle.std.proofs.lemmas.Bool.Decides.{nat_tests}
use Rattle.std.specs.Cmp.Lexicographic.{nat_list_eq_equiv}
use Rattle.std.proofs.lemmas.Option.{slice_get-map}
use Rattle.sm_io.specs.Words.{is_name, is_word, is_kept, is_among, reserved}
use Rattle.sm_io.proofs.Truths.{right_passes}
use Rattle.stream_types.specs.declared.scalar.Scalar.{Scalar}
use Rattle.stream_types.specs.declared.scalar.Scalar.TheVariants as scalar
use Rattle.stream_types.specs.declared.scalar.Ty.{Ty}
use Rattle.stream_types.specs.declared.scalar.Ty.TheVariants as ty
use Rattle.stream_types.specs.declared.types.Field.{Field}
use Rattle.stream_types.specs.declared.types.TypeEntry.{TypeEntry}
use Rattle.stream_types.specs.declared.types.TypeEntry.TheVariants as entry
use Rattle.stream_types.specs.TypeList.{HasTwins, IsElement, IsStructEntry}
use Rattle.stream_types.proofs.GrownLists.{at_take}
use Rattle.stream_core.specs.declared.spec.ExternItem.{ExternItem}
use Rattle.stream_core.specs.Term.{TreeSpec, TreeStream}
use Rattle.stream_core.proofs.SameNode.{list_same}
use Rattle.c99_tree.specs.declared.types.CScalar.{CScalar}
use Rattle.c99_tree.specs.declared.types.CScalar.TheVariants as c
use Rattle.c99_tree.specs.declared.types.CTy.TheVariants as cty
use Rattle.c99_tree.specs.declared.types.CVar.{CVar}
use Rattle.c99_tree.specs.declared.types.CDef.{CDef}
use Rattle.c99_tree.specs.declared.unit.CRing.{CRing}
use Rattle.c99_tree.specs.declared.unit.Unit.{Unit as CUnit}
use Rattle.c99_tree.specs.Words.{is_same, word_of, scalars, elem_type}
use Rattle.c99_tree.specs.Lookup as look
use Rattle.c99_tree.specs.Lookup.{fields_of, var_of, place_of_var, place_of_ring, named_struct}
use Rattle.c99_tree.proofs.LookedUp.{all_at}
use Rattle.ring_codegen.specs.CTypes.{c_scalar, c_type, c_field, c_def, c_extern, element_word, struct_name}
use Rattle.ring_codegen.specs.Translation.{ring_of}
use Rattle.ring_codegen.specs.Standing.{IsNamedOnce, HasStructName, IsRingLong, IsTranslatable, Declares}

-- ---- the first of a name

named_rest : {A : Type 0} (name : A → List ℕ) (x : A) (xs : List A) → IsNamedOnce name (x ∷ xs) → IsNamedOnce name xs
named_rest name x xs once i j a b e f g = let s : suc i ≡ suc j = once (suc i) (suc j) a b e f g in omega (arith, s)

-- it is found, at its place
pub record IsFirst {A : Type 0} (p : A → Bool) (xs : List A) (x : A) (k : ℕ) : Type 0 where
  pub found : find p xs ≡ Some x
  pub place : position_or_len p xs ≡ k

first_here : {A : Type 0} (p : A → Bool) (x : A) (xs : List A) → p x ≡ true → IsFirst p (x ∷ xs) x 0
first_here p x xs e = record {
  found = ap (λ (b : Bool). cond b (Some x) (find p xs)) e;
  place = ap (λ (b : Bool). cond (not b) (1 + position_or_len p xs) 0) e;
}

first_later : {A : Type 0} (p : A → Bool) (y : A) (xs : List A) (x : A) (k : ℕ) → p y ≡ false → IsFirst p xs x k → IsFirst p (y ∷ xs) x (suc k)
first_later p y xs x k e h =
    let l = h.place in
    record {
      found = ap (λ (b : Bool). cond b (Some y) (find p xs)) e ∙ h.found;
      place = ap (λ (b : Bool). cond (not b) (1 + position_or_len p xs) 0) e ∙ omega (arith, l);
    }

pub first_named : {A : Type 0} (name : A → List ℕ) (xs : List A) (k : ℕ) (x : A) → IsNamedOnce name xs → slice_get xs k ≡ Some x → IsFirst (λ y. is_same (name x) (name y)) xs x k
first_named name [] k x once e = absurd (cc e)
first_named name (y ∷ xs) zero x once e =
    let s : y ≡ x = cc e in
    subst (λ z. IsFirst (λ w. is_same (name z) (name w)) (y ∷ xs) z 0) s (first_here (λ w. is_same (name y) (name w)) y xs (nat_list_eq_equiv.refl (name y)))
first_named {A = A} name (y ∷ xs) (suc k) x once e = by (first_named name xs k x (named_rest name y xs once) e) (is_same (name x) (name y)) refl
  where
    by : IsFirst (λ w. is_same (name x) (name w)) xs x k → (b : Bool) → is_same (name x) (name y) ≡ b → IsFirst (λ w. is_same (name x) (name w)) (y ∷ xs) x (suc k)
    by rest true s = let z : 0 ≡ suc k = once 0 (suc k) y x refl e (sym (list_same (name x) (name y) s)) in absurd (omega (arith, z))
    by rest false s = first_later (λ w. is_same (name x) (name w)) y xs x k s rest

-- where an element of a mapped list comes from
pub record ComesFrom {A B : Type 0} (f : A → B) (xs : List A) (k : ℕ) (y : B) : Type 0 where
  pub origin : A
  pub there : slice_get xs k ≡ Some origin
  pub is : f origin ≡ y

pub from_map : {A B : Type 0} (f : A → B) (xs : List A) (k : ℕ) (y : B) → slice_get (map f xs) k ≡ Some y → ComesFrom f xs k y
from_map f [] k y e = absurd (cc e)
from_map f (x ∷ xs) zero y e = record { origin = x; there = refl; is = cc e }
from_map f (x ∷ xs) (suc k) y e = let r = from_map f xs k y e in record { origin = r.origin; there = r.there; is = r.is }

pub once_map : {A B : Type 0} (f : A → B) (name : A → List ℕ) (short : B → List ℕ) → ((x : A) → short (f x) ≡ name x) → (xs : List A) → IsNamedOnce name xs → IsNamedOnce short (map f xs)
once_map f name short same xs once i j x y e g h =
    let a = from_map f xs i x e in
    let b = from_map f xs j y g in
    once i j a.origin b.origin a.there b.there (sym (same a.origin) ∙ ap short a.is ∙ h ∙ ap short (sym b.is) ∙ same b.origin)

-- ---- types

-- no two members of a struct have one name
pub fields_once : (fields : List Field) → ¬ HasTwins fields → IsNamedOnce (λ (f : Field). f.name) fields
fields_once fields h i j x y e f g = by (nat_lt i j) (nat_lt j i) refl refl
  where
    by : (a b : Bool) → nat_lt i j ≡ a → nat_lt j i ≡ b → i ≡ j
    by true b p q = absurd (h (record { i = i; j = j; one = x; other = y; before = grind (arith, nat_tests, p); one_is = e; other_is = f; alike = g }))
    by false true p q = absurd (h (record { i = j; j = i; one = y; other = x; before = grind (arith, nat_tests, q); one_is = f; other_is = e; alike = sym g }))
    by false false p q = grind (arith, nat_tests, p, q)

-- the struct of a name that stands once, and its members
pub struct_first : (types es : List TypeEntry) (i : ℕ) (name : List ℕ) (fields : List Field) → slice_get es i ≡ Some (entry.Struct name fields)
    → ((j : ℕ) (gs : List Field) → slice_get es j ≡ Some (entry.Struct name gs) → j ≡ i) → fields_of (map (c_def types) es) name ≡ Some (map (c_field types) fields)
struct_first types [] i name fields e once = absurd (cc e)
struct_first types (entry.Array elem n ∷ es) zero name fields e once = absurd (cc e)
struct_first types (entry.Array elem n ∷ es) (suc i) name fields e once =
    struct_first types es i name fields e (λ j gs g. let s : suc j ≡ suc i = once (suc j) gs g in omega (arith, s))
struct_first types (entry.Struct x gs ∷ es) zero name fields e once =
    let s : x ≡ name = cc e in
    let t : gs ≡ fields = cc e in
    ap (λ (b : Bool). option_map (λ (r : List ℕ × List CVar). r.1) (cond b (Some (x, map (c_field types) gs)) (find (λ (r : List ℕ × List CVar). is_same name r.0) (filter_map named_struct (map (c_def types) es)))))
    (ap (is_same name) s ∙ nat_list_eq_equiv.refl name)
    ∙ ap (λ (fs : List Field). Some (map (c_field types) fs)) t
struct_first types (entry.Struct x gs ∷ es) (suc i) name fields e once =
    by (struct_first types es i name fields e (λ j hs g. let s : suc j ≡ suc i = once (suc j) hs g in omega (arith, s))) (is_same name x) refl
  where
    by : fields_of (map (c_def types) es) name ≡ Some (map (c_field types) fields) → (b : Bool) → is_same name x ≡ b → fields_of (map (c_def types) (entry.Struct x gs ∷ es)) name ≡ Some (map (c_field types) fields)
    by rest true s =
        let z : 0 ≡ suc i = once 0 gs (ap (λ (n : List ℕ). Some (entry.Struct n gs)) (sym (list_same name x s))) in
        absurd (omega (arith, z))
    by rest false s =
        ap (λ (b : Bool). option_map (λ (r : List ℕ × List CVar). r.1) (cond b (Some (x, map (c_field types) gs)) (find (λ (r : List ℕ × List CVar). is_same name r.0) (filter_map named_struct (map (c_def types) es))))) s
        ∙ rest

-- ---- words of elements

scalar_element : (c : Scalar) → elem_type (word_of (c_scalar c)) ≡ cty.Scalar (c_scalar c)
scalar_element scalar.Bool = refl
scalar_element scalar.Int8 = refl
scalar_element scalar.Int16 = refl
scalar_element scalar.Int32 = refl
scalar_element scalar.Int64 = refl
scalar_element scalar.Word8 = refl
scalar_element scalar.Word16 = refl
scalar_element scalar.Word32 = refl
scalar_element scalar.Word64 = refl

none_passes : {A : Type 0} (p : A → Bool) (xs : List A) (k : ℕ) (x : A) → list_any p xs ≡ false → slice_get xs k ≡ Some x → p x ≡ false
none_passes p [] k x h e = absurd (cc e)
none_passes p (y ∷ xs) zero x h e = let s : y ≡ x = cc e in subst (λ z. p z ≡ false) s (left_fails (p y) (list_any p xs) h)
  where
    left_fails : (a b : Bool) → (a || b) ≡ false → a ≡ false
    left_fails true b g = absurd (cc g)
    left_fails false b g = refl
none_passes p (y ∷ xs) (suc k) x h e = none_passes p xs k x (right_fails (p y) (list_any p xs) h) e
  where
    right_fails : (a b : Bool) → (a || b) ≡ false → b ≡ false
    right_fails true b g = absurd (cc g)
    right_fails false b g = g

passes_none : {A : Type 0} (p : A → Bool) (xs : List A) → AllByRecursion (λ x. p x ≡ false) xs → find p xs ≡ None
passes_none p [] h = refl
passes_none p (x ∷ xs) h = ap (λ (b : Bool). cond b (Some x) (find p xs)) h.0 ∙ passes_none p xs h.1

first_of_four : (a b c d : Bool) → not (a || b || c || d) ≡ true → a ≡ false
first_of_four true b c d h = absurd (cc h)
first_of_four false b c d h = refl

not_reserved : (x : List ℕ) → is_name x ≡ true → is_among reserved x ≡ false
not_reserved x h = first_of_four (is_among reserved x) _ _ _ (right_passes (is_word x) (not (is_kept x)) h)

no_scalar : (x : List ℕ) → is_name x ≡ true → (k : ℕ) (s : CScalar) → slice_get reserved k ≡ Some (word_of s) → is_same (word_of s) x ≡ false
no_scalar x h k s e = none_passes (λ (w : List ℕ). is_same w x) reserved k (word_of s) (not_reserved x h) e

-- a struct's name is no word of a scalar
struct_element : (x : List ℕ) → is_name x ≡ true → elem_type x ≡ cty.Struct x
unfolding reserved
struct_element x h = ap (λ (o : Option CScalar). option_map_or cty.Scalar o (cty.Struct x)) (
    passes_none (λ s. is_same (word_of s) x) scalars (
      no_scalar x h 39 c.Bool refl,
      (
        no_scalar x h 40 c.I8 refl,
        (
          no_scalar x h 41 c.I16 refl,
          (
            no_scalar x h 42 c.I32 refl,
            (
              no_scalar x h 43 c.I64 refl,
              (no_scalar x h 44 c.U8 refl, (no_scalar x h 45 c.U16 refl, (no_scalar x h 46 c.U32 refl, (no_scalar x h 47 c.U64 refl, tt)))),
            ),
          ),
        ),
      ),
    )
    )

whole_element : (types : List TypeEntry) (i : ℕ) (elem : Ty) → IsElement (take i types) elem → IsElement types elem
whole_element types i (ty.Scalar s) h = tt
whole_element types i (ty.Array j) h = absurd h
whole_element types i (ty.Struct j) h = at_take types i j IsStructEntry (λ n. n) h

pub element_type : (types : List TypeEntry) → All HasStructName types → (elem : Ty) → IsElement types elem → elem_type (element_word types elem) ≡ c_type types elem
element_type types named (ty.Scalar s) h = scalar_element s
element_type types named (ty.Array i) h = absurd h
element_type types named (ty.Struct i) h = by (slice_get types i) refl h
  where
    by : (o : Option TypeEntry) → slice_get types i ≡ o → IsStructEntry o → elem_type (struct_name o) ≡ cty.Struct (struct_name o)
    by None e g = absurd g
    by (Some (entry.Array elem n)) e g = absurd g
    by (Some (entry.Struct name fields)) e g = struct_element name (all_at HasStructName types i (entry.Struct name fields) named e)

-- ---- the program of a specification

-- what the translation's names find
pub record LooksUp (spec : TreeSpec) (u : CUnit) : Type 0 where
  pub var : (k : ℕ) (x : ExternItem) → slice_get spec.externs k ≡ Some x → var_of u.externs x.name ≡ Some (c_extern spec.types x)
  pub var_place : (k : ℕ) (x : ExternItem) → slice_get spec.externs k ≡ Some x → place_of_var u.externs x.name ≡ k
  pub ring : (k : ℕ) (x : TreeStream) → slice_get spec.streams k ≡ Some x → look.ring_of u x.name ≡ Some (ring_of spec.types x)
  pub ring_place : (k : ℕ) (x : TreeStream) → slice_get spec.streams k ≡ Some x → place_of_ring u x.name ≡ k
  pub struct : (i : ℕ) (name : List ℕ) (fields : List Field) → slice_get spec.types i ≡ Some (entry.Struct name fields) → fields_of u.types name ≡ Some (map (c_field spec.types) fields)
  pub member : (i m : ℕ) (name : List ℕ) (fields : List Field) (f : Field) → slice_get spec.types i ≡ Some (entry.Struct name fields) → slice_get fields m ≡ Some f
      → var_of (map (c_field spec.types) fields) f.name ≡ Some (c_field spec.types f)
  pub member_place : (i m : ℕ) (name : List ℕ) (fields : List Field) (f : Field) → slice_get spec.types i ≡ Some (entry.Struct name fields) → slice_get fields m ≡ Some f
      → place_of_var (map (c_field spec.types) fields) f.name ≡ m
  pub element : (i n : ℕ) (elem : Ty) → slice_get spec.types i ≡ Some (entry.Array elem n) → elem_type (element_word spec.types elem) ≡ c_type spec.types elem
  pub long : (k : ℕ) (x : TreeStream) → slice_get spec.streams k ≡ Some x → IsRingLong spec.types x

module _ (spec : TreeSpec) (u : CUnit) (good : IsTranslatable spec) (is : Declares spec u) where
  var_first : (k : ℕ) (x : ExternItem) → slice_get spec.externs k ≡ Some x → IsFirst (λ (v : CVar). is_same x.name v.name) u.externs (c_extern spec.types x) k
  var_first k x e = subst (λ (vs : List CVar). IsFirst (λ (v : CVar). is_same x.name v.name) vs (c_extern spec.types x) k) (sym is.externs)
      (first_named (λ (v : CVar). v.name) (map (c_extern spec.types) spec.externs) k (c_extern spec.types x)
      (once_map (c_extern spec.types) (λ (y : ExternItem). y.name) (λ (v : CVar). v.name) (λ y. refl) spec.externs good.externs)
      (slice_get-map (c_extern spec.types) spec.externs k ∙ ap (option_map (c_extern spec.types)) e))

  ring_first : (k : ℕ) (x : TreeStream) → slice_get spec.streams k ≡ Some x → IsFirst (λ (v : CRing). is_same x.name v.name) u.rings (ring_of spec.types x) k
  ring_first k x e = subst (λ (vs : List CRing). IsFirst (λ (v : CRing). is_same x.name v.name) vs (ring_of spec.types x) k) (sym is.rings)
      (first_named (λ (v : CRing). v.name) (map (ring_of spec.types) spec.streams) k (ring_of spec.types x)
      (once_map (ring_of spec.types) (λ (y : TreeStream). y.name) (λ (v : CRing). v.name) (λ y. refl) spec.streams good.streams)
      (slice_get-map (ring_of spec.types) spec.streams k ∙ ap (option_map (ring_of spec.types)) e))

  member_first : (i m : ℕ) (name : List ℕ) (fields : List Field) (f : Field) → slice_get spec.types i ≡ Some (entry.Struct name fields) → slice_get fields m ≡ Some f
      → IsFirst (λ (v : CVar). is_same f.name v.name) (map (c_field spec.types) fields) (c_field spec.types f) m
  member_first i m name fields f e g =
      first_named (λ (v : CVar). v.name) (map (c_field spec.types) fields) m (c_field spec.types f)
      (once_map (c_field spec.types) (λ (y : Field). y.name) (λ (v : CVar). v.name) (λ y. refl) fields (fields_once fields (good.types.each i (entry.Struct name fields) e).3))
      (slice_get-map (c_field spec.types) fields m ∙ ap (option_map (c_field spec.types)) g)

  element_of_entry : (i n : ℕ) (elem : Ty) → slice_get spec.types i ≡ Some (entry.Array elem n) → IsElement spec.types elem
  element_of_entry i n elem e = whole_element spec.types i elem (good.types.each i (entry.Array elem n) e).0

  pub looks_up : LooksUp spec u
  looks_up = record {
    var = λ k x e. (var_first k x e).found;
    var_place = λ k x e. (var_first k x e).place;
    ring = λ k x e. (ring_first k x e).found;
    ring_place = λ k x e. (ring_first k x e).place;
    struct = λ i name fields e. subst (λ (ds : List CDef). fields_of ds name ≡ Some (map (c_field spec.types) fields)) (sym is.types)
        (struct_first spec.types spec.types i name fields e (λ j gs g. good.types.structs j i name gs fields g e));
    member = λ i m name fields f e g. (member_first i m name fields f e g).found;
    member_place = λ i m name fields f e g. (member_first i m name fields f e g).place;
    element = λ i n elem e. element_type spec.types good.structs elem (element_of_entry i n elem e);
    long = λ k x e. all_at (IsRingLong spec.types) spec.streams k x good.long e;
  }
