-- The columns of a sound specification: their scalars are those of a row, and they are few.
use Rattle.std.proofs.Common.{◌≡◌, ℕ, suc, ◌+◌, ◌<◌, ◌≤◌, Bool, true, false, if◌then◌else◌, List, [], ◌∷◌, ◌++◌, length, map, Option, Some, None, refl, sym, ap, ◌∙◌, arith}
use Rattle.std.specs.Prelude.{nat_lt, sum}
use Rattle.std.specs.List.{flat_map}
use Rattle.std.proofs.lemmas.Bool.Decides.{nat_tests}
use Rattle.std.proofs.lemmas.List.{length-append}
use Rattle.std.proofs.lemmas.List.Concat.{flat_map-cons}
use Rattle.std.proofs.lemmas.List.Sums.{sum_by-cons}
use Rattle.stream_types.specs.declared.scalar.Scalar.{Scalar}
use Rattle.stream_types.specs.declared.types.TypeEntry.{TypeEntry}
use Rattle.stream_types.specs.Types.{leaves, words}
use Rattle.stream_types.proofs.LeafWords.{length-leaves}
use Rattle.stream_core.specs.declared.spec.ExternItem.{ExternItem}
use Rattle.stream_core.specs.Value.{SpecValue}
use Rattle.stream_core.specs.Term.{TreeSpec, trees}
use Rattle.stream_core.specs.Eval.{row_leaves}
use Rattle.stream_core.specs.Meaning.{IsFirstFault, closed_spec}
use Rattle.stream_core.specs.Soundness.{too_many_decls, too_many_words, declarations, total_words, heavy_root, weight_fault, limit_fault}
use Rattle.extern_rows.specs.declared.header.Leaf.{Leaf}
use Rattle.extern_rows.specs.Leaves.{leaf_columns, scalars_of}
use Rattle.extern_rows.proofs.LeafNames.{scalars-columns}
use Rattle.interpreter.specs.Interpreted.{extern_columns}

-- ---- scalars

scalars-both : (xs ys : List Leaf) → scalars_of (xs ++ ys) ≡ scalars_of xs ++ scalars_of ys
scalars-both [] ys = refl
scalars-both (x ∷ xs) ys = ap (λ (r : List Scalar). x.scalar ∷ r) (scalars-both xs ys)

abbrev columns_at : List TypeEntry → ExternItem → List Leaf
columns_at types x = leaf_columns types x.name x.ty

abbrev leaves_at : List TypeEntry → ExternItem → List Scalar
leaves_at types x = leaves types x.ty

scalars-all : (types : List TypeEntry) (xs : List ExternItem) → scalars_of (flat_map (columns_at types) xs) ≡ flat_map (leaves_at types) xs
scalars-all types [] = refl
scalars-all types (x ∷ xs) =
    ap scalars_of (flat_map-cons (columns_at types) x xs)
    ∙ scalars-both (columns_at types x) (flat_map (columns_at types) xs)
    ∙ ap (λ (r : List Scalar). r ++ scalars_of (flat_map (columns_at types) xs)) (scalars-columns types x.name x.ty)
    ∙ ap (λ (r : List Scalar). leaves_at types x ++ r) (scalars-all types xs)
    ∙ sym (flat_map-cons (leaves_at types) x xs)

pub scalars-are : (s : SpecValue) → scalars_of (extern_columns s) ≡ row_leaves (closed_spec s)
scalars-are s = scalars-all s.types s.externs

-- ---- how many

scalars-length : (xs : List Leaf) → length (scalars_of xs) ≡ length xs
scalars-length [] = refl
scalars-length (x ∷ xs) = ap suc (scalars-length xs)

leaves-length : (types : List TypeEntry) (xs : List ExternItem) → length (flat_map (leaves_at types) xs) ≡ sum (map (λ (x : ExternItem). words types x.ty) xs)
leaves-length types [] = refl
leaves-length types (x ∷ xs) =
    ap length (flat_map-cons (leaves_at types) x xs)
    ∙ length-append (leaves_at types x) (flat_map (leaves_at types) xs)
    ∙ ap (λ (n : ℕ). n + length (flat_map (leaves_at types) xs)) (length-leaves types x.ty)
    ∙ ap (λ (n : ℕ). words types x.ty + n) (leaves-length types xs)
    ∙ sym (sum_by-cons (λ (k : ℕ). k) (words types x.ty) (map (λ (y : ExternItem). words types y.ty) xs))

at_most : (n k : ℕ) → nat_lt n k ≡ false → k ≤ n
at_most n k h = grind (arith, nat_tests, h)

if_none : {X : Type 0} (b : Bool) (x : X) (o : Option X) → (if b then Some x else o) ≡ None → (b ≡ false) × (o ≡ None)
if_none true x o e = absurd (cc)
if_none false x o e = (refl, e)

few_words : (s : TreeSpec) → limit_fault s ≡ None → total_words s ≤ 262144
few_words s h =
    let a = if_none (nat_lt 4096 (declarations s)) too_many_decls (if nat_lt 262144 (total_words s) then Some too_many_words else weight_fault s (heavy_root s)) h in
    let b = if_none (nat_lt 262144 (total_words s)) too_many_words (weight_fault s (heavy_root s)) a.1 in
    at_most 262144 (total_words s) b.0

pub columns_few : (s : SpecValue) → IsFirstFault s None → length (extern_columns s) < 4294967296
columns_few s sound =
    let few = few_words (trees s) sound.1 in
    let count : length (extern_columns s) ≡ sum (map (λ (x : ExternItem). words s.types x.ty) s.externs) =
    sym (scalars-length (extern_columns s)) ∙ ap length (scalars-are s) ∙ leaves-length s.types s.externs in
    omega (arith, few, count)
