-- The storage and the weight of a translation are ints.
use Rattle.std.proofs.Common.{◌≡◌, ℕ, zero, suc, ◌+◌, ◌*◌, ◌≤◌, Bool, true, false, List, [], ◌∷◌, ◌++◌, length, map, length-append, Some, refl, sym, ap, ◌∙◌, subst, arith}
use Rattle.std.specs.Prelude.{slice_get, nat_le, sum, if◌then◌else◌, All, ◌/◌}
use Rattle.std.specs.List.{flat_map, sum_by, AllByRecursion}
use Rattle.std.proofs.lemmas.Nat.{div_below}
use Rattle.std.proofs.lemmas.List.{map-append}
use Rattle.std.proofs.lemmas.List.Sums.{sum_by-cons, sum_by-append}
use Rattle.stream_types.specs.declared.scalar.Scalar.{Scalar}
use Rattle.stream_types.specs.declared.scalar.Scalar.TheVariants as scalar
use Rattle.stream_types.specs.declared.scalar.Ty.{Ty}
use Rattle.stream_types.specs.declared.types.TypeEntry.{TypeEntry}
use Rattle.stream_types.specs.Types.{leaves, repeated, words, size, scalar_bytes, AreWords}
use Rattle.stream_types.proofs.LeafWords.{length-leaves, size-leaves, length-words}
use Rattle.stream_core.specs.declared.spec.ExternItem.{ExternItem}
use Rattle.stream_core.specs.Term.{Term, TreeSpec, TreeStream, TreeTrigger, TreeObserver, TreeRoot, initial_count}
use Rattle.stream_core.specs.Limits.{plain_weight, trigger_weights, weight_of_plain, ring_bytes, storage_of_plain}
use Rattle.stream_core.specs.KeptLimits.{words_of_plain, KeepsLimits}
use Rattle.c99_tree.specs.declared.expr.CExpr.{CExpr}
use Rattle.c99_tree.specs.declared.expr.CExpr.TheVariants as e
use Rattle.c99_tree.specs.declared.unit.CStmt.{CStmt}
use Rattle.c99_tree.specs.declared.unit.CStmt.TheVariants as s
use Rattle.c99_tree.specs.declared.unit.Unit.{Unit as CUnit}
use Rattle.c99_tree.specs.Tree.{Stmt, tree, exprs, statement, statements}
use Rattle.c99_tree.specs.TreeLaws.{tree-Head}
use Rattle.c99_tree.specs.Weight as c_weight
use Rattle.c99_tree.specs.Weight.{weights, statement_weight, unit_weight_of}
use Rattle.ring_codegen.specs.Translation.{translated, copy_statement, trigger_statement, next_statement, write_statements, is_indexed, place_behind}
use Rattle.ring_codegen.specs.Standing.{IsRingLong, HasSteps, IsProgramOf}
use Rattle.ring_codegen.proofs.Listing.{by_recursion}
use Rattle.ring_codegen.proofs.UnitOrder.{grouped}
use Rattle.ring_codegen.proofs.UnitSizes.{small, IsPlace, place_small}

-- ---- bytes and words

scalar_small : (s : Scalar) → scalar_bytes s ≤ 8
scalar_small scalar.Bool = omega arith
scalar_small scalar.Int8 = omega arith
scalar_small scalar.Int16 = omega arith
scalar_small scalar.Int32 = omega arith
scalar_small scalar.Int64 = omega arith
scalar_small scalar.Word8 = omega arith
scalar_small scalar.Word16 = omega arith
scalar_small scalar.Word32 = omega arith
scalar_small scalar.Word64 = omega arith

leaves_small : (ss : List Scalar) → sum_by scalar_bytes ss ≤ 8 * length ss
leaves_small [] = omega arith
leaves_small (s ∷ ss) =
    let a = sum_by-cons scalar_bytes s ss in
    let b = scalar_small s in
    let r = leaves_small ss in
    omega (arith, a, b, r)

size_small : (types : List TypeEntry) (t : Ty) → size types t ≤ 8 * words types t
size_small types t =
    let a = leaves_small (leaves types t) in
    let b = size-leaves types t in
    let c = length-leaves types t in
    omega (arith, a, b, c)

next_times : (n w : ℕ) → w + n * w ≡ suc n * w
next_times n w = omega arith

zero_times : (w : ℕ) → 0 ≡ 0 * w
zero_times w = omega arith

length-repeated : (n : ℕ) (ss : List Scalar) → length (repeated n ss) ≡ n * length ss
length-repeated zero ss = zero_times (length ss)
length-repeated (suc n) ss = length-append ss (repeated n ss) ∙ ap (λ (k : ℕ). length ss + k) (length-repeated n ss) ∙ next_times n (length ss)

times_small : (n a b : ℕ) → a ≤ 8 * b → n * a ≤ 8 * (n * b)
times_small zero a b h = omega arith
times_small (suc n) a b h = let r = times_small n a b h in omega (arith, h, r)

-- the bytes of a ring of so many bytes, with or without an index
with_index_small : (b : Bool) (bytes len : ℕ) → bytes ≤ 8 * len → 1 ≤ len → (if b then bytes + 4 else bytes) ≤ 12 * len
with_index_small true bytes len h g = omega (arith, h, g)
with_index_small false bytes len h g = omega (arith, h, g)

no_part : (w : ℕ) → 1 ≤ 0 / w → ⊥
no_part zero h = absurd (omega (arith, h))
no_part (suc w) h = let b = div_below 0 (suc w) 1 (omega arith) (omega arith) in absurd (omega (arith, b, h))

some_words : (w : ℕ) (init : List ℕ) → 1 ≤ length init / w → 1 ≤ length init
some_words w [] h = absurd (no_part w h)
some_words w (x ∷ xs) h = omega arith

module _ (types : List TypeEntry) where
  ring_small : (x : TreeStream) → IsRingLong types x → ring_bytes (initial_count types x) (size types x.ty) ≤ 12 * length x.init
  ring_small x l =
      let count = initial_count types x in
      let long : length x.init ≡ count * words types x.ty = length-words (repeated count (leaves types x.ty)) x.init l.initial ∙ length-repeated count (leaves types x.ty) ∙ ap (λ (n : ℕ). count * n) (length-leaves types x.ty) in
      let low : count * size types x.ty ≤ 8 * length x.init = subst (λ (n : ℕ). count * size types x.ty ≤ 8 * n) (sym long) (times_small count (size types x.ty) (words types x.ty) (size_small types x.ty)) in
      with_index_small (nat_le 2 count) (count * size types x.ty) (length x.init) low (some_words (words types x.ty) x.init l.some)

  rings_small : (xs : List TreeStream) → AllByRecursion (IsRingLong types) xs
      → sum (map (λ (x : TreeStream). ring_bytes (initial_count types x) (size types x.ty)) xs) ≤ 12 * sum (map (λ (x : TreeStream). length x.init) xs)
  rings_small [] h = omega arith
  rings_small (x ∷ xs) h =
      let a = sum_by-cons (λ (n : ℕ). n) (ring_bytes (initial_count types x) (size types x.ty)) (map (λ (y : TreeStream). ring_bytes (initial_count types y) (size types y.ty)) xs) in
      let b = sum_by-cons (λ (n : ℕ). n) (length x.init) (map (λ (y : TreeStream). length y.init) xs) in
      let c = ring_small x h.0 in
      let r = rings_small xs h.1 in
      omega (arith, a, b, c, r)

  copies_small : (xs : List ExternItem) → sum (map (λ (x : ExternItem). size types x.ty) xs) ≤ 12 * sum (map (λ (x : ExternItem). words types x.ty) xs)
  copies_small [] = omega arith
  copies_small (x ∷ xs) =
      let a = sum_by-cons (λ (n : ℕ). n) (size types x.ty) (map (λ (y : ExternItem). size types y.ty) xs) in
      let b = sum_by-cons (λ (n : ℕ). n) (words types x.ty) (map (λ (y : ExternItem). words types y.ty) xs) in
      let c = size_small types x.ty in
      let r = copies_small xs in
      omega (arith, a, b, c, r)

  streams_few : (xs : List TreeStream) → AllByRecursion (IsRingLong types) xs → length xs ≤ sum (map (λ (x : TreeStream). length x.init) xs)
  streams_few [] h = omega arith
  streams_few (x ∷ xs) h =
      let b = sum_by-cons (λ (n : ℕ). n) (length x.init) (map (λ (y : TreeStream). length y.init) xs) in
      let c = some_words (words types x.ty) x.init h.0.some in
      let r = streams_few xs h.1 in
      omega (arith, b, c, r)

-- the storage of a plain specification of few words
pub storage_small : (spec : TreeSpec) → AllByRecursion (IsRingLong spec.types) spec.streams → words_of_plain spec ≤ 262144 → storage_of_plain spec ≤ 2147483647
storage_small spec long few =
    let a = rings_small spec.types spec.streams long in
    let b = copies_small spec.types spec.externs in
    omega (arith, a, b, few)

-- ---- weight

module _ (spec : TreeSpec) where
  copies_weight : (xs : List ExternItem) → sum_by statement_weight (map statement (map copy_statement xs)) ≡ 0
  copies_weight [] = refl
  copies_weight (x ∷ xs) =
      let a = sum_by-cons statement_weight (statement (copy_statement x)) (map statement (map copy_statement xs)) in
      let r = copies_weight xs in
      omega (arith, a, r)

  args_weight : (rs : List TreeRoot) → weights (exprs (map tree (map (λ (r : TreeRoot). translated spec r.expr) rs))) ≤ 4 * sum (map (λ (r : TreeRoot). plain_weight r.expr) rs)
  args_weight [] = omega arith
  args_weight (r ∷ rs) =
      let a = sum_by-cons (λ (n : ℕ). n) (plain_weight r.expr) (map (λ (y : TreeRoot). plain_weight y.expr) rs) in
      let b = (small spec r.expr).heavy in
      let c = args_weight rs in
      omega (arith, a, b, c)

  calls_weight : (xs : List TreeTrigger) → sum_by statement_weight (map statement (map (trigger_statement spec) xs)) ≤ 4 * sum (trigger_weights xs)
  calls_weight [] = omega arith
  calls_weight (x ∷ xs) =
      let a = sum_by-cons statement_weight (statement (trigger_statement spec x)) (map statement (map (trigger_statement spec) xs)) in
      let b = sum_by-cons (λ (n : ℕ). n) (plain_weight x.guard.expr) (map (λ (r : TreeRoot). plain_weight r.expr) x.args ++ trigger_weights xs) in
      let d = sum_by-append (λ (n : ℕ). n) (map (λ (r : TreeRoot). plain_weight r.expr) x.args) (trigger_weights xs) in
      let g = (small spec x.guard.expr).heavy in
      let m = args_weight x.args in
      let r = calls_weight xs in
      omega (arith, a, b, d, g, m, r)

  nexts_weight : (xs : List TreeStream) → sum_by statement_weight (map statement (map (next_statement spec) xs)) ≤ 4 * sum (map (λ (x : TreeStream). plain_weight x.expr) xs)
  nexts_weight [] = omega arith
  nexts_weight (x ∷ xs) =
      let a = sum_by-cons statement_weight (statement (next_statement spec x)) (map statement (map (next_statement spec) xs)) in
      let b = sum_by-cons (λ (n : ℕ). n) (plain_weight x.expr) (map (λ (y : TreeStream). plain_weight y.expr) xs) in
      let g = (small spec x.expr).heavy in
      let r = nexts_weight xs in
      omega (arith, a, b, g, r)

  abbrev written : TreeStream → Bool → List CStmt
  written x b = if b then s.Store x.name (e.Head x.name) ∷ s.Move x.name (place_behind spec.types x 1) ∷ [] else s.Put x.name ∷ []

  write_weight : (x : TreeStream) (b : Bool) → sum_by statement_weight (map statement (written x b)) ≤ 3
  write_weight x true =
      let p = (place_small spec.types x 1).heavy in
      let h : c_weight.weight (tree (e.Head x.name)) ≡ 0 = ap c_weight.weight (tree-Head x.name) in
      let a = sum_by-cons statement_weight (statement (s.Store x.name (e.Head x.name))) (statement (s.Move x.name (place_behind spec.types x 1)) ∷ []) in
      let b = sum_by-cons statement_weight (statement (s.Move x.name (place_behind spec.types x 1))) [] in
      let z : sum_by statement_weight [] ≡ 0 = refl in
      omega (arith, p, h, a, b, z)
  write_weight x false =
      let a = sum_by-cons statement_weight (statement (s.Put x.name)) [] in
      let z : sum_by statement_weight [] ≡ 0 = refl in
      omega (arith, a, z)

  writes_weight : (xs : List TreeStream) → sum_by statement_weight (map statement (flat_map (write_statements spec.types) xs)) ≤ 3 * length xs
  writes_weight [] = omega arith
  writes_weight (x ∷ xs) =
      let a = ap (sum_by statement_weight) (map-append statement (write_statements spec.types x) (flat_map (write_statements spec.types) xs)) in
      let b = sum_by-append statement_weight (map statement (write_statements spec.types x)) (map statement (flat_map (write_statements spec.types) xs)) in
      let g : sum_by statement_weight (map statement (write_statements spec.types x)) ≤ 3 = write_weight x (is_indexed spec.types x) in
      let r = writes_weight xs in
      let whole : sum_by statement_weight (map statement (flat_map (write_statements spec.types) (x ∷ xs))) ≡ sum_by statement_weight (map statement (write_statements spec.types x)) + sum_by statement_weight (map statement (flat_map (write_statements spec.types) xs)) = a ∙ b in
      omega (arith, whole, g, r)

-- the weight of a program of a specification that keeps the limits
pub weight_small : (spec : TreeSpec) (u : CUnit) → HasSteps spec → IsProgramOf spec u → KeepsLimits spec → unit_weight_of u ≤ 2147483647
weight_small spec u has is kept =
    let copied = map statement (map copy_statement spec.externs) in
    let called = map statement (map (trigger_statement spec) spec.triggers) in
    let computed = map statement (map (next_statement spec) spec.streams) in
    let wrote = map statement (flat_map (write_statements spec.types) spec.streams) in
    let total : unit_weight_of u ≡ sum_by statement_weight copied + (sum_by statement_weight called + (sum_by statement_weight computed + sum_by statement_weight wrote)) =
    ap (sum_by statement_weight) (grouped spec u has is)
    ∙ sum_by-append statement_weight copied (called ++ (computed ++ wrote))
    ∙ ap (λ (n : ℕ). sum_by statement_weight copied + n) (sum_by-append statement_weight called (computed ++ wrote)
    ∙ ap (λ (n : ℕ). sum_by statement_weight called + n) (sum_by-append statement_weight computed wrote)) in
    let p = copies_weight spec spec.externs in
    let q = calls_weight spec spec.triggers in
    let r = nexts_weight spec spec.streams in
    let t = writes_weight spec spec.streams in
    let few = streams_few spec.types spec.streams (by_recursion (IsRingLong spec.types) spec.streams has.translatable.long) in
    let words_ = kept.words in
    let all = kept.whole in
    omega (arith, total, p, q, r, t, few, words_, all)
