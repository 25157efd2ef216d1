-- The leaves of a value by the entry of its type, and their scalars.
use Rattle.std.proofs.Common.{◌≡◌, ℕ, zero, suc, ◌+◌, ◌-◌, ◌*◌, ◌<◌, ◌≤◌, List, [], ◌∷◌, ◌++◌, length, map, take, drop, get_or, refl, arith, ap, sym, ◌∙◌, subst, append_assoc, length-append, add-one, drop-cons, unwrap_or}
use Rattle.std.specs.Prelude.{slice_get, Option, Some, All}
use Rattle.std.proofs.lemmas.List.{map_push, take-append-drop, take-append-le}
use Rattle.stream_types.specs.declared.scalar.Scalar.{Scalar}
use Rattle.stream_types.specs.declared.scalar.Ty.{Ty}
use Rattle.stream_types.specs.declared.scalar.Ty.TheVariants as ty
use Rattle.stream_types.specs.declared.types.Field.{Field}
use Rattle.stream_types.specs.declared.types.TypeEntry.{TypeEntry}
use Rattle.stream_types.specs.declared.types.TypeEntry.TheVariants as entry
use Rattle.stream_types.specs.Types.{repeated, leaves_at, leaves_of_fields, leaves_of_entry, all_leaves, leaves}
use Rattle.stream_types.specs.TypeList.{IsArrayEntry, IsStructEntry, Stands, IsGoodEntry, IsTypeList}
use Rattle.stream_types.proofs.GrownLists.{within, take-length}
use Rattle.stream_types.proofs.TypeLists.{Stands-take}
use Rattle.stream_types.proofs.Widths.{Stands-element}
use Rattle.extern_rows.specs.declared.header.Leaf.{Leaf}
use Rattle.extern_rows.specs.Leaves.{index_text, member_text, led, under, of_elements, tails_at, of_members, of_entry, all_tails, leaf_columns, scalars_of}

abbrev named : Scalar → List ℕ → Leaf
named s n = record { name = n; scalar = s }

-- ---- names under names

under-append : (front : List ℕ) (xs ys : List Leaf) → under front (xs ++ ys) ≡ under front xs ++ under front ys
under-append front [] ys = refl
under-append front (x ∷ xs) ys = ap (λ (r : List Leaf). led front x ∷ r) (under-append front xs ys)

under-under : (front back : List ℕ) (xs : List Leaf) → under front (under back xs) ≡ under (front ++ back) xs
under-under front back [] = refl
under-under front back (x ∷ xs) =
    ap (λ (n : List ℕ). named x.scalar n ∷ under front (under back xs)) (sym (append_assoc front back x.name))
    ∙ ap (λ (r : List Leaf). led (front ++ back) x ∷ r) (under-under front back xs)

-- ---- places

pub get-append : {X : Type 0} (xs ys : List X) (i : ℕ) → i < length xs → slice_get (xs ++ ys) i ≡ slice_get xs i
get-append [] ys i h = absurd (omega arith)
get-append (x ∷ xs) ys zero h = refl
get-append (x ∷ xs) ys (suc i) h = get-append xs ys i (omega arith)

pub get-last : {X : Type 0} (xs : List X) (x : X) (i : ℕ) → i ≡ length xs → slice_get (xs ++ x ∷ []) i ≡ Some x
get-last [] x zero h = refl
get-last [] x (suc i) h = absurd (omega arith)
get-last (y ∷ xs) x zero h = absurd (omega arith)
get-last (y ∷ xs) x (suc i) h = get-last xs x i (omega arith)

length_take-le : (types : List TypeEntry) (i : ℕ) → length (take i types) ≤ i
length_take-le [] zero = omega arith
length_take-le [] (suc i) = omega arith
length_take-le (x ∷ types) zero = omega arith
length_take-le (x ∷ types) (suc i) = omega (arith, length_take-le types i)

-- a name with what was put behind it, cut back to its length
pub cut_back : (whole front back : List ℕ) (n : ℕ) → whole ≡ front ++ back → n ≡ length front → take n whole ≡ front
cut_back whole front back n e len =
    ap (λ (xs : List ℕ). take n xs) e ∙ take-append-le n front back (omega arith) ∙ ap (λ (m : ℕ). take m front) len ∙ take-length front

-- ---- the leaves of an entry come from those before it

tails-append : (before : List (List Leaf)) (es more : List TypeEntry) → all_tails before (es ++ more) ≡ all_tails (all_tails before es) more
tails-append before [] more = refl
tails-append before (x ∷ es) more = tails-append (before ++ of_entry before x ∷ []) es more

length-tails : (before : List (List Leaf)) (es : List TypeEntry) → length (all_tails before es) ≡ length before + length es
length-tails before [] = omega arith
length-tails before (x ∷ es) = omega (arith, length-tails (before ++ of_entry before x ∷ []) es, length-append before (of_entry before x ∷ []))

tails_keep : (before : List (List Leaf)) (es : List TypeEntry) (i : ℕ) → i < length before → slice_get (all_tails before es) i ≡ slice_get before i
tails_keep before [] i h = refl
tails_keep before (x ∷ es) i h =
    tails_keep (before ++ of_entry before x ∷ []) es i (omega (arith, length-append before (of_entry before x ∷ [])))
    ∙ get-append before (of_entry before x ∷ []) i h

tail_at : (before : List (List Leaf)) (es : List TypeEntry) (i j : ℕ) (e : TypeEntry) → slice_get es i ≡ Some e → j ≡ length before + i → slice_get (all_tails before es) j ≡ Some (of_entry (all_tails before (take i es)) e)
tail_at before [] i j e h p = absurd (cc)
tail_at before (x ∷ es) zero j e h p =
    tails_keep (before ++ of_entry before x ∷ []) es j (omega (arith, length-append before (of_entry before x ∷ [])))
    ∙ get-last before (of_entry before x) j (omega arith)
    ∙ let q : x ≡ e = cc in ap (λ (y : TypeEntry). Some (of_entry before y)) q
tail_at before (x ∷ es) (suc i) j e h p = tail_at (before ++ of_entry before x ∷ []) es i j e h (omega (arith, length-append before (of_entry before x ∷ [])))

tails_at-append : (types more : List TypeEntry) (t : Ty) → Stands types t → tails_at (all_tails [] (types ++ more)) t ≡ tails_at (all_tails [] types) t
tails_at-append types more (ty.Scalar s) h = refl
tails_at-append types more (ty.Array j) h =
    ap (λ (ts : List (List Leaf)). unwrap_or (slice_get ts j) []) (tails-append [] types more)
    ∙ ap (λ (o : Option (List Leaf)). unwrap_or o []) (tails_keep (all_tails [] types) more j (omega (arith, length-tails [] types, within types j IsArrayEntry (λ n. n) h)))
tails_at-append types more (ty.Struct j) h =
    ap (λ (ts : List (List Leaf)). unwrap_or (slice_get ts j) []) (tails-append [] types more)
    ∙ ap (λ (o : Option (List Leaf)). unwrap_or o []) (tails_keep (all_tails [] types) more j (omega (arith, length-tails [] types, within types j IsStructEntry (λ n. n) h)))

of_members-append : (types more : List TypeEntry) (fs : List Field) → All (λ (x : Field). Stands types x.ty) fs → of_members (all_tails [] (types ++ more)) fs ≡ of_members (all_tails [] types) fs
of_members-append types more [] h = refl
of_members-append types more (x ∷ fs) h =
    ap (λ (ts : List Leaf). under (member_text x.name) ts ++ of_members (all_tails [] (types ++ more)) fs) (tails_at-append types more x.ty (h 0 x (omega arith)))
    ∙ ap (λ (ts : List Leaf). under (member_text x.name) (tails_at (all_tails [] types) x.ty) ++ ts) (of_members-append types more fs (λ k d p. h (suc k) d (omega arith)))

of_entry-append : (types more : List TypeEntry) (e : TypeEntry) → IsGoodEntry types e → of_entry (all_tails [] (types ++ more)) e ≡ of_entry (all_tails [] types) e
of_entry-append types more (entry.Array elem n) h = ap (λ (ts : List Leaf). of_elements 0 n ts) (tails_at-append types more elem (Stands-element types elem h.0))
of_entry-append types more (entry.Struct name fields) h = of_members-append types more fields h.0

tails_is : (types : List TypeEntry) (i : ℕ) (e : TypeEntry) → IsTypeList types → slice_get types i ≡ Some e → slice_get (all_tails [] types) i ≡ Some (of_entry (all_tails [] types) e)
tails_is types i e h p =
    tail_at [] types i i e p (omega arith)
    ∙ sym (ap (λ (ts : List Leaf). Some ts) (of_entry-append (take i types) (drop i types) e (h.each i e p)))
    ∙ ap (λ (ts : List TypeEntry). Some (of_entry (all_tails [] ts) e)) (take-append-drop i types)

-- ---- the leaves of a value, by its type

pub columns-array : (types : List TypeEntry) (name : List ℕ) (i : ℕ) (elem : Ty) (n : ℕ) → IsTypeList types → slice_get types i ≡ Some (entry.Array elem n)
    → leaf_columns types name (ty.Array i) ≡ under name (of_elements 0 n (tails_at (all_tails [] types) elem))
columns-array types name i elem n h p = ap (λ (o : Option (List Leaf)). under name (unwrap_or o [])) (tails_is types i (entry.Array elem n) h p)

pub columns-struct : (types : List TypeEntry) (name : List ℕ) (i : ℕ) (of : List ℕ) (fields : List Field) → IsTypeList types → slice_get types i ≡ Some (entry.Struct of fields)
    → leaf_columns types name (ty.Struct i) ≡ under name (of_members (all_tails [] types) fields)
columns-struct types name i of fields h p = ap (λ (o : Option (List Leaf)). under name (unwrap_or o [])) (tails_is types i (entry.Struct of fields) h p)

-- ---- the leaves so far and those to come are the whole, also after one more part

join : (out one more whole rest : List Leaf) → rest ≡ one ++ more → out ++ rest ≡ whole → (out ++ one) ++ more ≡ whole
join out one more whole rest e h = append_assoc out one more ∙ ap (λ (r : List Leaf). out ++ r) (sym e) ∙ h

pub one_element : (element : List Leaf) (name : List ℕ) (k n : ℕ) (out whole : List Leaf) → k < n
    → out ++ under name (of_elements k (n - k) element) ≡ whole → (out ++ under (name ++ index_text k) element) ++ under name (of_elements (k + 1) (n - (k + 1)) element) ≡ whole
one_element element name k n out whole low h =
    let count : n - k ≡ suc (n - (k + 1)) = omega arith in
    join out (under (name ++ index_text k) element) (under name (of_elements (k + 1) (n - (k + 1)) element)) whole (under name (of_elements k (n - k) element))
    (ap (λ (m : ℕ). under name (of_elements k m element)) count
    ∙ under-append name (under (index_text k) element) (of_elements (k + 1) (n - (k + 1)) element)
    ∙ ap (λ (r : List Leaf). r ++ under name (of_elements (k + 1) (n - (k + 1)) element)) (under-under name (index_text k) element)) h

pub one_member : (before : List (List Leaf)) (fields : List Field) (j : ℕ) (f : Field) (name : List ℕ) (out whole : List Leaf) → j < length fields → f ≡ get_or fields j f
    → out ++ under name (of_members before (drop j fields)) ≡ whole
    → (out ++ under (name ++ member_text f.name) (tails_at before f.ty)) ++ under name (of_members before (drop (j + 1) fields)) ≡ whole
one_member before fields j f name out whole low is h =
    let next : drop j fields ≡ get_or fields j f ∷ drop (j + 1) fields = rw add-one (drop-cons fields j f low) in
    let cut : drop j fields ≡ f ∷ drop (j + 1) fields = next ∙ ap (λ (x : Field). x ∷ drop (j + 1) fields) (sym is) in
    join out (under (name ++ member_text f.name) (tails_at before f.ty)) (under name (of_members before (drop (j + 1) fields))) whole (under name (of_members before (drop j fields)))
    (ap (λ (fs : List Field). under name (of_members before fs)) cut
    ∙ under-append name (under (member_text f.name) (tails_at before f.ty)) (of_members before (drop (j + 1) fields))
    ∙ ap (λ (r : List Leaf). r ++ under name (of_members before (drop (j + 1) fields))) (under-under name (member_text f.name) (tails_at before f.ty))) h

-- ---- parts stand before their whole

-- above the ranks of a type's parts
abbrev pub rank : Ty → ℕ
rank (ty.Scalar s) = 0
rank (ty.Array i) = i * 2 + 2
rank (ty.Struct i) = i * 2 + 2

below : (types : List TypeEntry) (i : ℕ) (t : Ty) → Stands (take i types) t → rank t < i * 2 + 1
below types i (ty.Scalar s) h = omega arith
below types i (ty.Array j) h = omega (arith, within (take i types) j IsArrayEntry (λ n. n) h, length_take-le types i)
below types i (ty.Struct j) h = omega (arith, within (take i types) j IsStructEntry (λ n. n) h, length_take-le types i)

pub element_below : (types : List TypeEntry) (i : ℕ) (elem : Ty) (n : ℕ) → IsTypeList types → slice_get types i ≡ Some (entry.Array elem n) → (rank elem < i * 2 + 1) × Stands types elem
element_below types i elem n h p =
    let s : Stands (take i types) elem = Stands-element (take i types) elem (h.each i (entry.Array elem n) p).0 in
    (below types i elem s, Stands-take types i elem s)

pub member_below : (types : List TypeEntry) (i : ℕ) (of : List ℕ) (fields : List Field) (j : ℕ) (f : Field) → IsTypeList types → slice_get types i ≡ Some (entry.Struct of fields) → j < length fields → f ≡ get_or fields j f
    → (rank f.ty < i * 2 + 1) × Stands types f.ty
member_below types i of fields j f h p low is =
    let s : Stands (take i types) f.ty = subst (λ (x : Field). Stands (take i types) x.ty) (sym is) ((h.each i (entry.Struct of fields) p).0 j f low) in
    (below types i f.ty s, Stands-take types i f.ty s)

-- ---- the leaves' scalars

scalars-append : (xs ys : List Leaf) → scalars_of (xs ++ ys) ≡ scalars_of xs ++ scalars_of ys
scalars-append [] ys = refl
scalars-append (x ∷ xs) ys = ap (λ (r : List Scalar). x.scalar ∷ r) (scalars-append xs ys)

scalars-under : (front : List ℕ) (xs : List Leaf) → scalars_of (under front xs) ≡ scalars_of xs
scalars-under front [] = refl
scalars-under front (x ∷ xs) = ap (λ (r : List Scalar). x.scalar ∷ r) (scalars-under front xs)

scalars-elements : (k n : ℕ) (element : List Leaf) → scalars_of (of_elements k n element) ≡ repeated n (scalars_of element)
scalars-elements k zero element = refl
scalars-elements k (suc n) element =
    scalars-append (under (index_text k) element) (of_elements (k + 1) n element)
    ∙ ap (λ (r : List Scalar). r ++ scalars_of (of_elements (k + 1) n element)) (scalars-under (index_text k) element)
    ∙ ap (λ (r : List Scalar). scalars_of element ++ r) (scalars-elements (k + 1) n element)

scalars-place : (before : List (List Leaf)) (i : ℕ) → scalars_of (unwrap_or (slice_get before i) []) ≡ unwrap_or (slice_get (map scalars_of before) i) []
scalars-place [] i = refl
scalars-place (x ∷ before) zero = refl
scalars-place (x ∷ before) (suc i) = scalars-place before i

scalars-at : (before : List (List Leaf)) (t : Ty) → scalars_of (tails_at before t) ≡ leaves_at (map scalars_of before) t
scalars-at before (ty.Scalar s) = refl
scalars-at before (ty.Array i) = scalars-place before i
scalars-at before (ty.Struct i) = scalars-place before i

scalars-members : (before : List (List Leaf)) (fs : List Field) → scalars_of (of_members before fs) ≡ leaves_of_fields (map scalars_of before) fs
scalars-members before [] = refl
scalars-members before (x ∷ fs) =
    scalars-append (under (member_text x.name) (tails_at before x.ty)) (of_members before fs)
    ∙ ap (λ (r : List Scalar). r ++ scalars_of (of_members before fs)) (scalars-under (member_text x.name) (tails_at before x.ty) ∙ scalars-at before x.ty)
    ∙ ap (λ (r : List Scalar). leaves_at (map scalars_of before) x.ty ++ r) (scalars-members before fs)

scalars-entry : (before : List (List Leaf)) (e : TypeEntry) → scalars_of (of_entry before e) ≡ leaves_of_entry (map scalars_of before) e
scalars-entry before (entry.Array elem n) = scalars-elements 0 n (tails_at before elem) ∙ ap (λ (r : List Scalar). repeated n r) (scalars-at before elem)
scalars-entry before (entry.Struct name fields) = scalars-members before fields

scalars-all : (before : List (List Leaf)) (es : List TypeEntry) → map scalars_of (all_tails before es) ≡ all_leaves (map scalars_of before) es
scalars-all before [] = refl
scalars-all before (e ∷ es) =
    scalars-all (before ++ of_entry before e ∷ []) es
    ∙ ap (λ (ls : List (List Scalar)). all_leaves ls es) (map_push scalars_of before (of_entry before e) ∙ ap (λ (l : List Scalar). map scalars_of before ++ l ∷ []) (scalars-entry before e))

-- one leaf for each scalar of the value, in order
pub scalars-columns : (types : List TypeEntry) (name : List ℕ) (t : Ty) → scalars_of (leaf_columns types name t) ≡ leaves types t
scalars-columns types name t =
    scalars-under name (tails_at (all_tails [] types) t)
    ∙ scalars-at (all_tails [] types) t
    ∙ ap (λ (ls : List (List Scalar)). leaves_at ls t) (scalars-all [] types)
