-- There is a ring for each stream, and its rows are as wide as the stream's values.
use Rattle.std.proofs.Common.{◌≡◌, ℕ, zero, suc, ◌+◌, ◌<◌, ◌≤◌, List, [], ◌∷◌, ◌++◌, length, map, drop, Some, Ok, refl, sym, ap, ◌∙◌, subst, arith}
use Rattle.std.specs.Prelude.{slice_get, slice_index_or}
use Rattle.std.specs.List.{AllByRecursion}
use Rattle.std.specs.Option.{option_map}
use Rattle.std.proofs.lemmas.List.{length-append, length-map}
use Rattle.std.proofs.lemmas.Option.{slice_get-map}
use Rattle.stream_types.specs.declared.types.TypeEntry.{TypeEntry}
use Rattle.stream_types.specs.Types.{AreWords, leaves, words}
use Rattle.stream_types.proofs.LeafWords.{length-leaves, length-words}
use Rattle.stream_core.specs.declared.spec.StreamItem.{StreamItem}
use Rattle.stream_core.specs.Value.{SpecValue}
use Rattle.stream_core.specs.Term.{TreeSpec, TreeStream, stream, tree, trees}
use Rattle.stream_core.specs.Eval.{Table, Line, lines, stream_line}
use Rattle.stream_core.specs.Equations.{AllMeet, bound_of}
use Rattle.stream_core.specs.Meaning.{closed_spec, table}
use Rattle.stream_core.specs.Plain.{lists_from}
use Rattle.stream_core.specs.Signature.{stream_signature, signature_of}
use Rattle.stream_core.proofs.ClosedTypes.{stream_words}
use Rattle.stream_core.proofs.Reach.{bounded, typed_reads}
use Rattle.stream_core.proofs.RingsOfTables.{rings_long}
use Rattle.stream_core.proofs.Roots.{acyclic}
use Rattle.stream_core.proofs.Tables.{meets}
use Rattle.ring_bank.specs.RingRows.{width_of}
use Rattle.stream_interp.specs.Buffers.{AreAsWide}
use Rattle.stream_interp.specs.Seen.{IsSeen}
use Rattle.stream_interp.proofs.ClosedForms.{no_operands, streams_count}

as_wide : (types : List TypeEntry) (xs : List StreamItem) (rs : Table) → length rs ≡ length xs → ((k : ℕ) (x : StreamItem) → slice_get xs k ≡ Some x → width_of (slice_index_or rs k []) ≡ words types x.ty) → AreAsWide types xs rs
as_wide types [] [] e h = tt
as_wide types [] (r ∷ rs) e h = absurd (omega (arith, e))
as_wide types (x ∷ xs) [] e h = absurd (omega (arith, e))
as_wide types (x ∷ xs) (r ∷ rs) e h = (h 0 x refl, as_wide types xs rs (omega (arith, e)) (λ k y q. h (suc k) y q))

all_dropped : {X : Type 0} (P : X → Type 0) (n : ℕ) (xs : List X) → AllByRecursion P xs → AllByRecursion P (drop n xs)
all_dropped P zero xs h = h
all_dropped P (suc n) [] h = tt
all_dropped P (suc n) (x ∷ xs) h = all_dropped P n xs h.1

first_of : (P : List ℕ → Type 0) (rows : List (List ℕ)) → 0 < length rows → AllByRecursion P rows → P (slice_index_or rows 0 [])
first_of P [] b h = absurd (omega (arith, b))
first_of P (r ∷ rows) b h = h.0

drop_none : (n : ℕ) → drop {A = List ℕ} n [] ≡ []
drop_none zero = refl
drop_none (suc n) = refl

ring_is : (n : ℕ) (T : Table) (k : ℕ) → slice_index_or (lists_from n T) k [] ≡ drop n (slice_index_or T k [])
ring_is n [] k = sym (drop_none n)
ring_is n (xs ∷ T) zero = refl
ring_is n (xs ∷ T) (suc k) = ring_is n T k

as_many : (s : TreeSpec) (h : List (List ℕ)) (n : ℕ) (T : Table) (ls : List Line) (xss : Table) → AllMeet s h n T ls xss → length xss ≡ length ls
as_many s h n T [] [] all = refl
as_many s h n T [] (xs ∷ xss) all = absurd all
as_many s h n T (l ∷ ls) [] all = absurd all
as_many s h n T (l ∷ ls) (xs ∷ xss) all = ap suc (as_many s h n T ls xss all.1)

module _ (s : SpecValue) (rings : Table) (row : List ℕ) (seen : IsSeen s rings row) where
  abbrev stream_tree : StreamItem → TreeStream
  stream_tree x = record { name = x.name; ty = x.ty; init = x.init; expr = tree s.nodes s.libs x.expr; at = x.at }

  some_rows : (k : ℕ) (x : StreamItem) → slice_get s.streams k ≡ Some x → 0 < bound_of (lines (closed_spec s)) k
  some_rows k x e =
      let own = stream_signature s.types (stream_tree x) in
      let one : slice_get (trees s).streams k ≡ Some (stream_tree x) = slice_get-map stream_tree s.streams k ∙ ap (option_map stream_tree) e in
      let is : slice_get (signature_of (trees s)).streams k ≡ Some own = slice_get-map (stream_signature s.types) (trees s).streams k ∙ ap (option_map (stream_signature s.types)) one in
      typed_reads s seen.plain.typed (stream k) x.ty (record { stream = own; is = is; type_is = refl })

  ring_width : (k : ℕ) (x : StreamItem) → slice_get s.streams k ≡ Some x → width_of (slice_index_or (lists_from seen.time seen.lists) k []) ≡ words s.types x.ty
  ring_width k x e =
      let long = rings_long s seen.plain.typed seen.history seen.time seen.lists seen.table_is k in
      let b = some_rows k x e in
      let there = seen.there in
      let all = stream_words s seen.plain.typed (acyclic s seen.plain.typed seen.plain.no_cycle) seen.history seen.rows seen.time seen.lists seen.table_is (omega (arith, there)) k x e in
      let here = subst (AllByRecursion (AreWords (leaves s.types x.ty))) (sym (ring_is seen.time seen.lists k)) (all_dropped (AreWords (leaves s.types x.ty)) seen.time (slice_index_or seen.lists k []) all) in
      let r = slice_index_or (lists_from seen.time seen.lists) k [] in
      length-words (leaves s.types x.ty) (slice_index_or r 0 []) (first_of (AreWords (leaves s.types x.ty)) r (omega (arith, long, b)) here) ∙ length-leaves s.types x.ty

  count : length (lists_from seen.time seen.lists) ≡ length s.streams
  count =
      let met = meets (closed_spec s) seen.history seen.time seen.lists (bounded s seen.plain.typed) seen.table_is in
      let n = length-append (map (stream_line s.types) (closed_spec s).streams) [] in
      let m = length-map (closed_spec s).streams (stream_line s.types) in
      let c = streams_count s in
      length-map seen.lists (drop seen.time)
      ∙ as_many (closed_spec s) seen.history seen.time seen.lists (lines (closed_spec s)) seen.lists met.each
      ∙ ap (λ (ls : List Line). length (map (stream_line s.types) (closed_spec s).streams ++ ls)) (no_operands s seen.plain.no_forms)
      ∙ omega (arith, n, m, c)

  pub rings_wide : AreAsWide s.types s.streams rings
  rings_wide = subst (AreAsWide s.types s.streams) (sym seen.rings_are) (as_wide s.types s.streams (lists_from seen.time seen.lists) count ring_width)
