-- Words are read one value after another.
use Rattle.std.proofs.Common.{◌≡◌, ℕ, zero, suc, ◌+◌, ◌<◌, ltb, true, List, [], ◌∷◌, ◌++◌, length, get_or, drop, Option, Some, None, refl, sym, ap, ◌∙◌, append_assoc, append-nil, codes, arith}
use Rattle.std.specs.Prelude.{is_some}
use Rattle.std.specs.Option.{option_map, option_map_or, option_and_then}
use Rattle.std.specs.List.{find}
use Rattle.std.proofs.lemmas.List.{drop_more}
use Rattle.std.proofs.lemmas.Bool.{lt-ltb, true≢false}
use Rattle.c99_tree.specs.declared.types.CScalar.{CScalar}
use Rattle.c99_tree.specs.declared.types.CTy.{CTy}
use Rattle.c99_tree.specs.declared.types.CTy.TheVariants as ty
use Rattle.c99_tree.specs.declared.types.CVar.{CVar}
use Rattle.c99_tree.specs.declared.types.CDef.{CDef}
use Rattle.c99_tree.specs.Words.{is_same, word_of, scalars, elem_type}
use Rattle.c99_tree.specs.Lookup.{fields_of}
use Rattle.c99_tree.specs.Values.{Shape, Shapes, scalar, members, elements, and_shape, shapes_of_fields, shape_of_element, shape_over, shape_within}
use Rattle.c99_read.specs.declared.fault.ReadFault.{ReadFault}
use Rattle.c99_read.specs.declared.fault.ReadFault.TheVariants.{Memory, NotRead}
use Rattle.c99_read.specs.Gives.{Fails}
use Rattle.c99_read.specs.Front.{◌>>=◌, behind, after_all}
use Rattle.c99_read.specs.WordsAt.{FoundWords, words_then, between, words_at, times_at, shaped_at, all_shaped, times_shaped, braced_at}
use Rattle.c99_read.proofs.FrontTakes.{paired}

-- ---- shapes

pub no_depth : (d : ℕ) (ds : List CDef) (t : CTy) → d ≡ 0 → shape_within d ds t ≡ None
unfolding shape_within
no_depth zero ds t p = refl
no_depth (suc d) ds t p = absurd (omega arith)

pub scalar_shape : (d : ℕ) (ds : List CDef) (t : CScalar) → 0 < d → shape_within d ds (ty.Scalar t) ≡ Some (scalar t)
unfolding shape_within
scalar_shape zero ds t p = absurd (omega arith)
scalar_shape (suc d) ds t p = refl

pub depth_some : (d : ℕ) (ds : List CDef) (t : CScalar) → ltb 0 d ≡ is_some (shape_within d ds (ty.Scalar t))
unfolding shape_within
depth_some zero ds t = refl
depth_some (suc d) ds t = lt-ltb 0 (suc d) (omega arith)

pub struct_shape : (d i : ℕ) (ds : List CDef) (x : List ℕ) (fields : List CVar) → d ≡ suc i → fields_of ds x ≡ Some fields
    → shape_within d ds (ty.Struct x) ≡ option_map members (shapes_of_fields (shape_within i ds) fields)
unfolding shape_within
struct_shape d i ds x fields p h = rw (p, h) refl

pub no_struct : (d : ℕ) (ds : List CDef) (x : List ℕ) → fields_of ds x ≡ None → shape_within d ds (ty.Struct x) ≡ None
unfolding shape_within
no_struct zero ds x h = refl
no_struct (suc d) ds x h = rw h refl

element_is : (f : CTy → Option Shape) (ds : List CDef) (x : List ℕ) → shape_of_element f ds (elem_type x) ≡ shape_over f ds (elem_type x)
element_is f ds x = by (find (λ s. is_same (word_of s) x) scalars)
  where
    by : (o : Option CScalar) → shape_of_element f ds (option_map_or ty.Scalar o (ty.Struct x)) ≡ shape_over f ds (option_map_or ty.Scalar o (ty.Struct x))
    by None = refl
    by (Some t) = refl

pub array_shape : (d : ℕ) (ds : List CDef) (x : List ℕ) (n : ℕ) → shape_within d ds (ty.Array x n) ≡ option_map (elements n) (shape_within d ds (elem_type x))
unfolding shape_within
array_shape zero ds x n = refl
array_shape (suc d) ds x n = ap (option_map (elements n)) (element_is (shape_within d ds) ds x)

pub map_some : {A B : Type 0} (f : A → B) (o : Option A) → is_some (option_map f o) ≡ is_some o
map_some f None = refl
map_some f (Some a) = refl

-- ---- one after another

none_after : (o : Option (List ℕ)) → ◌≡◌ {A = FoundWords} None (o >>= λ r. None)
none_after None = refl
none_after (Some r) = refl

pub after_none : (given : List ℕ) (o : FoundWords) → o ≡ None → after_all given o ≡ None
after_none given o h = ap (after_all given) h

pub after_fail : (e : ReadFault) (given : List ℕ) (o : FoundWords) → Fails e o → Fails e (after_all given o)
after_fail Memory given o h = tt
after_fail NotRead given o h = after_none given o h

after_pair : (given ws : List ℕ) (o : FoundWords) → after_all given (o >>= λ b. Some (ws ++ b.0, b.1)) ≡ after_all (given ++ ws) o
after_pair given ws None = refl
after_pair given ws (Some b) = ap (λ (xs : List ℕ). Some (xs, b.1)) (sym (append_assoc given ws b.0))

same_after : (f : List ℕ → FoundWords) (xs ys s t : List ℕ) → xs ≡ ys → s ≡ t → after_all xs (f s) ≡ after_all ys (f t)
same_after f xs ys s t p q = rw (p, q) refl

then_more : (first others : List ℕ → FoundWords) (before s r given all y : List ℕ) → behind before s ≡ Some r → after_all given (first r) ≡ Some (all, y)
    → after_all given (words_then first others before s) ≡ after_all all (others y)
then_more first others before s r given all y h g = rw h (by (first r) g)
  where
    by : (o : FoundWords) → after_all given o ≡ Some (all, y) → after_all given (o >>= λ a. others a.1 >>= λ b. Some (a.0 ++ b.0, b.1)) ≡ after_all all (others y)
    by None k = absurd (cc k)
    by (Some a) k = let p = paired (given ++ a.0) all a.1 y k in after_pair given a.0 (others a.1) ∙ same_after others (given ++ a.0) all a.1 y p.0 p.1

then_none : (first others : List ℕ → FoundWords) (before s given : List ℕ) → behind before s ≡ None → after_all given (words_then first others before s) ≡ None
then_none first others before s given h = rw h refl

then_out : (first others : List ℕ → FoundWords) (before s r given : List ℕ) → behind before s ≡ Some r → after_all given (first r) ≡ None → after_all given (words_then first others before s) ≡ None
then_out first others before s r given h g = rw h (by (first r) g)
  where
    by : (o : FoundWords) → after_all given o ≡ None → after_all given (o >>= λ a. others a.1 >>= λ b. Some (a.0 ++ b.0, b.1)) ≡ None
    by None k = refl
    by (Some a) k = absurd (cc k)

-- ---- in braces

between_more : (open' close : List ℕ) (f : List ℕ → FoundWords) (s r given all y : List ℕ) → behind open' s ≡ Some r → after_all given (f r) ≡ Some (all, y)
    → after_all given (between open' close f s) ≡ (behind close y >>= λ z. Some (all, z))
between_more open' close f s r given all y h g = rw h (by (f r) g)
  where
    closing : (ws : List ℕ) (o : Option (List ℕ)) → after_all given (o >>= λ x. Some (ws, x)) ≡ (o >>= λ z. Some (given ++ ws, z))
    closing ws None = refl
    closing ws (Some x) = refl

    same : (xs s t : List ℕ) → xs ≡ all → s ≡ t → ◌≡◌ {A = FoundWords} (behind close s >>= λ z. Some (xs, z)) (behind close t >>= λ z. Some (all, z))
    same xs s t p q = rw (p, q) refl

    by : (o : FoundWords) → after_all given o ≡ Some (all, y) → after_all given (o >>= λ a. behind close a.1 >>= λ x. Some (a.0, x)) ≡ (behind close y >>= λ z. Some (all, z))
    by None k = absurd (cc k)
    by (Some a) k = let p = paired (given ++ a.0) all a.1 y k in closing a.0 (behind close a.1) ∙ same (given ++ a.0) a.1 y p.0 p.1

between_none : (open' close : List ℕ) (f : List ℕ → FoundWords) (s given : List ℕ) → behind open' s ≡ None → after_all given (between open' close f s) ≡ None
between_none open' close f s given h = rw h refl

between_out : (open' close : List ℕ) (f : List ℕ → FoundWords) (s r given : List ℕ) → behind open' s ≡ Some r → after_all given (f r) ≡ None → after_all given (between open' close f s) ≡ None
between_out open' close f s r given h g = rw h (by (f r) g)
  where
    by : (o : FoundWords) → after_all given o ≡ None → after_all given (o >>= λ a. behind close a.1 >>= λ x. Some (a.0, x)) ≡ None
    by None k = refl
    by (Some a) k = absurd (cc k)

pub open_fail : (e : ReadFault) (open' close : List ℕ) (f : List ℕ → FoundWords) (s given : List ℕ) → Fails e (behind open' s) → Fails e (after_all given (between open' close f s))
open_fail Memory open' close f s given h = tt
open_fail NotRead open' close f s given h = between_none open' close f s given h

pub inner_fail : (e : ReadFault) (open' close : List ℕ) (f : List ℕ → FoundWords) (s r given : List ℕ) → behind open' s ≡ Some r → Fails e (after_all given (f r)) → Fails e (after_all given (between open' close f s))
inner_fail Memory open' close f s r given h g = tt
inner_fail NotRead open' close f s r given h g = between_out open' close f s r given h g

pub close_fail : (e : ReadFault) (open' close : List ℕ) (f : List ℕ → FoundWords) (s r given all y : List ℕ) → behind open' s ≡ Some r → after_all given (f r) ≡ Some (all, y) → Fails e (behind close y)
    → Fails e (after_all given (between open' close f s))
close_fail Memory open' close f s r given all y h g k = tt
close_fail NotRead open' close f s r given all y h g k = between_more open' close f s r given all y h g ∙ rw k refl

pub between_goes : (open' close : List ℕ) (f : List ℕ → FoundWords) (s r given all y z : List ℕ) → behind open' s ≡ Some r → after_all given (f r) ≡ Some (all, y) → behind close y ≡ Some z
    → after_all given (between open' close f s) ≡ Some (all, z)
between_goes open' close f s r given all y z h g k = between_more open' close f s r given all y h g ∙ rw k refl

-- ---- structs and arrays

members_by : (less : ℕ) (o : Option Shapes) (s : List ℕ) → shaped_at (suc less) (option_map members o) s ≡ braced_at less o s
unfolding words_at
members_by less None s = refl
members_by less (Some a) s = refl

pub struct_is : (most less d i : ℕ) (ds : List CDef) (x : List ℕ) (fields : List CVar) (given s : List ℕ) → most ≡ suc less → d ≡ suc i → fields_of ds x ≡ Some fields
    → after_all given (shaped_at most (shape_within d ds (ty.Struct x)) s) ≡ after_all given (braced_at less (shapes_of_fields (shape_within i ds) fields) s)
struct_is most less d i ds x fields given s p q h = rw (p, struct_shape d i ds x fields q h) (ap (after_all given) (members_by less (shapes_of_fields (shape_within i ds) fields) s))

no_members : (o : Option Shapes) (s : List ℕ) → shaped_at 0 (option_map members o) s ≡ None
unfolding words_at
no_members None s = refl
no_members (Some a) s = refl

no_fields : (f : CTy → Option Shape) (o : Option (List CVar)) (s : List ℕ) → shaped_at 0 (option_and_then (λ fields. option_map members (shapes_of_fields f fields)) o) s ≡ None
no_fields f None s = refl
no_fields f (Some fields) s = no_members (shapes_of_fields f fields) s

pub zero_struct : (most d : ℕ) (ds : List CDef) (x given s : List ℕ) → most ≡ 0 → after_all given (shaped_at most (shape_within d ds (ty.Struct x)) s) ≡ None
unfolding shape_within
zero_struct most zero ds x given s p = refl
zero_struct most (suc d) ds x given s p = rw p (after_none given _ (no_fields (shape_within d ds) (fields_of ds x) s))

few : (m n : ℕ) (o : Option Shape) (s : List ℕ) → m < 2 → shaped_at m (option_map (elements n) o) s ≡ None
unfolding words_at
few m n None s h = refl
few zero n (Some a) s h = refl
few (suc zero) n (Some a) s h = refl
few (suc (suc m)) n (Some a) s h = absurd (omega arith)

pub small_array : (most d n : ℕ) (ds : List CDef) (x given s : List ℕ) → most < 2 → after_all given (shaped_at most (shape_within d ds (ty.Array x n)) s) ≡ None
small_array most d n ds x given s h = rw (array_shape d ds x n) (after_none given _ (few most n (shape_within d ds (elem_type x)) s h))

arrays_by : (less n : ℕ) (o : Option Shape) (s : List ℕ) → shaped_at (suc (suc less)) (option_map (elements n) o) s ≡ between (codes "{ { ") (codes " } }") (times_shaped less n o []) s
unfolding words_at
arrays_by less n None s = none_after (behind (codes "{ { ") s)
arrays_by less n (Some a) s = refl

pub array_is : (most less d n : ℕ) (ds : List CDef) (x given s : List ℕ) → most ≡ suc (suc less)
    → after_all given (shaped_at most (shape_within d ds (ty.Array x n)) s) ≡ after_all given (between (codes "{ { ") (codes " } }") (times_shaped less n (shape_within d ds (elem_type x)) []) s)
array_is most less d n ds x given s p = rw (p, array_shape d ds x n) (ap (after_all given) (arrays_by less n (shape_within d ds (elem_type x)) s))

-- ---- values of one shape

times_split : (most n : ℕ) (o : Option Shape) (before s : List ℕ) → times_shaped most (suc n) o before s ≡ words_then (shaped_at most o) (times_shaped most n o (codes ", ")) before s
unfolding times_at
times_split most n None before s = none_after (behind before s)
times_split most n (Some a) before s = refl

some_by : {A : Type 0} (given : List ℕ) (o : Option A) (f : A → FoundWords) (x : List ℕ × List ℕ) → after_all given (o >>= f) ≡ Some x → is_some o ≡ true
some_by given None f x h = absurd (cc h)
some_by given (Some a) f x h = refl

pub some_shape : (most : ℕ) (o : Option Shape) (given s all y : List ℕ) → after_all given (shaped_at most o s) ≡ Some (all, y) → is_some o ≡ true
some_shape most o given s all y h = some_by given o (λ a. words_at most a s) (all, y) h

pub times_more : (most n k : ℕ) (o : Option Shape) (before s r given all y : List ℕ) → n ≡ suc k → behind before s ≡ Some r → after_all given (shaped_at most o r) ≡ Some (all, y)
    → after_all given (times_shaped most n o before s) ≡ after_all all (times_shaped most k o (codes ", ") y)
times_more most n k o before s r given all y p h g = rw (p, times_split most k o before s) (then_more (shaped_at most o) (times_shaped most k o (codes ", ")) before s r given all y h g)

pub times_before_fail : (e : ReadFault) (most n k : ℕ) (o : Option Shape) (before s given : List ℕ) → n ≡ suc k → Fails e (behind before s) → Fails e (after_all given (times_shaped most n o before s))
times_before_fail Memory most n k o before s given p h = tt
times_before_fail NotRead most n k o before s given p h = rw (p, times_split most k o before s) (then_none (shaped_at most o) (times_shaped most k o (codes ", ")) before s given h)

pub times_value_fail : (e : ReadFault) (most n k : ℕ) (o : Option Shape) (before s r given : List ℕ) → n ≡ suc k → behind before s ≡ Some r → Fails e (after_all given (shaped_at most o r))
    → Fails e (after_all given (times_shaped most n o before s))
times_value_fail Memory most n k o before s r given p h g = tt
times_value_fail NotRead most n k o before s r given p h g = rw (p, times_split most k o before s) (then_out (shaped_at most o) (times_shaped most k o (codes ", ")) before s r given h g)

pub times_end : (most n : ℕ) (o : Option Shape) (before s given : List ℕ) → n ≡ 0 → is_some o ≡ true → after_all given (times_shaped most n o before s) ≡ Some (given, s)
unfolding times_at
times_end most n None before s given p h = absurd (true≢false (sym h))
times_end most zero (Some a) before s given p h = ap (λ (xs : List ℕ). Some (xs, s)) (append-nil given)
times_end most (suc n) (Some a) before s given p h = absurd (omega arith)

-- ---- the members of a struct

fields_split : (most : ℕ) (o : Option Shape) (p : Option Shapes) (before s : List ℕ)
    → all_shaped most (option_and_then (λ a. option_map (and_shape a) p) o) before s ≡ words_then (shaped_at most o) (all_shaped most p (codes ", ")) before s
unfolding words_at
fields_split most None p before s = none_after (behind before s)
fields_split most (Some a) (Some b) before s = refl
fields_split most (Some a) None before s = none_last (behind before s)
  where
    none_next : (o : FoundWords) → ◌≡◌ {A = FoundWords} None (o >>= λ a. None)
    none_next None = refl
    none_next (Some a) = refl

    none_last : (o : Option (List ℕ)) → ◌≡◌ {A = FoundWords} None (o >>= λ r. words_at most a r >>= λ x. None)
    none_last None = refl
    none_last (Some r) = none_next (words_at most a r)

module _ (most : ℕ) (f : CTy → Option Shape) (x : CVar) (fields xs : List CVar) (before s given : List ℕ) (is : fields ≡ x ∷ xs) where
  pub fields_more : (r all y : List ℕ) → behind before s ≡ Some r → after_all given (shaped_at most (f x.ty) r) ≡ Some (all, y)
      → after_all given (all_shaped most (shapes_of_fields f fields) before s) ≡ after_all all (all_shaped most (shapes_of_fields f xs) (codes ", ") y)
  fields_more r all y h g = rw (is, fields_split most (f x.ty) (shapes_of_fields f xs) before s) (then_more (shaped_at most (f x.ty)) (all_shaped most (shapes_of_fields f xs) (codes ", ")) before s r given all y h g)

  pub fields_before_fail : (e : ReadFault) → Fails e (behind before s) → Fails e (after_all given (all_shaped most (shapes_of_fields f fields) before s))
  fields_before_fail Memory h = tt
  fields_before_fail NotRead h = rw (is, fields_split most (f x.ty) (shapes_of_fields f xs) before s) (then_none (shaped_at most (f x.ty)) (all_shaped most (shapes_of_fields f xs) (codes ", ")) before s given h)

  pub fields_value_fail : (e : ReadFault) (r : List ℕ) → behind before s ≡ Some r → Fails e (after_all given (shaped_at most (f x.ty) r)) → Fails e (after_all given (all_shaped most (shapes_of_fields f fields) before s))
  fields_value_fail Memory r h g = tt
  fields_value_fail NotRead r h g = rw (is, fields_split most (f x.ty) (shapes_of_fields f xs) before s) (then_out (shaped_at most (f x.ty)) (all_shaped most (shapes_of_fields f xs) (codes ", ")) before s r given h g)

pub fields_end : (most : ℕ) (f : CTy → Option Shape) (fields : List CVar) (before s given : List ℕ) → fields ≡ [] → after_all given (all_shaped most (shapes_of_fields f fields) before s) ≡ Some (given, s)
unfolding words_at
fields_end most f fields before s given is = rw is (ap (λ (xs : List ℕ). Some (xs, s)) (append-nil given))

pub after_empty : (o : FoundWords) → after_all [] o ≡ o
after_empty None = refl
after_empty (Some b) = refl

pub words_start : (f : ℕ → FoundWords) (given : List ℕ) (n m : ℕ) → given ≡ [] → m ≡ n → f n ≡ after_all given (f m)
words_start f given n m p q = rw (p, q) (sym (after_empty (f n)))

-- the item at a place, and those behind it
pub drop_item : {A : Type 0} (xs : List A) (i : ℕ) (x : A) → i < length xs → x ≡ get_or xs i x → drop i xs ≡ x ∷ drop (i + 1) xs
drop_item xs i x p h = drop_more xs i x p ∙ ap (λ n. get_or xs i x ∷ drop n xs) (omega arith) ∙ ap (λ y. y ∷ drop (i + 1) xs) (sym h)
