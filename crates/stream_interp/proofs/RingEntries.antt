-- Where the entries of the streams stand in the rings.
use Rattle.std.proofs.Common.{◌≡◌, ℕ, zero, suc, ◌<◌, List, [], ◌∷◌, length, drop, refl, sym, ap, ◌∙◌, subst, arith}
use Rattle.std.specs.Prelude.{slice_index, slice_index_or}
use Rattle.std.specs.List.{AllByRecursion}
use Rattle.stream_types.specs.declared.scalar.Ty.{Ty}
use Rattle.stream_types.specs.Types.{AreWords, leaves, words}
use Rattle.stream_types.proofs.LeafWords.{length-leaves, length-words}
use Rattle.stream_core.specs.declared.spec.StreamItem.{StreamItem}
use Rattle.stream_core.specs.Value.{SpecValue}
use Rattle.stream_core.specs.Term.{TreeStream, dropped, stream, tree, trees}
use Rattle.stream_core.specs.Eval.{Table}
use Rattle.stream_core.specs.Plain.{lists_from}
use Rattle.stream_core.specs.Signature.{signature_of, stream_signature}
use Rattle.stream_core.specs.WellTyped.{DropHasType, StreamHasType}
use Rattle.stream_core.proofs.ClosedTypes.{stream_words}
use Rattle.stream_core.proofs.Reach.{typed_reads}
use Rattle.stream_core.proofs.RingsOfTables.{rings_long}
use Rattle.stream_core.proofs.Signatures.{from_mapped}
use Rattle.ring_bank.specs.RingRows.{ring_at, row_at}
use Rattle.stream_interp.specs.Reading.{IsEntryOf}
use Rattle.stream_interp.specs.Seen.{IsSeen}
use Rattle.stream_interp.proofs.NowValues.{acyclic}

-- ---- lists

drop_none : {X : Type 0} (n : ℕ) → drop {A = X} n [] ≡ []
drop_none zero = refl
drop_none (suc n) = refl

pub all_dropped : {X : Type 0} (P : X → Type 0) (n : ℕ) (xs : List X) → AllByRecursion P xs → AllByRecursion P (drop n xs)
all_dropped P zero xs h = h
all_dropped P (suc n) [] h = tt
all_dropped P (suc n) (x ∷ xs) h = all_dropped P n xs h.1

pub all_read : {X : Type 0} (P : X → Type 0) (xs : List X) (i : ℕ) (d : X) → AllByRecursion P xs → i < length xs → P (slice_index_or xs i d)
all_read P [] i d h b = absurd (omega (arith, b))
all_read P (x ∷ xs) zero d h b = h.0
all_read P (x ∷ xs) (suc i) d h b = all_read P xs i d h.1 (omega (arith, b))

ring_is : (n : ℕ) (T : Table) (x : ℕ) → slice_index_or (lists_from n T) x [] ≡ drop n (slice_index_or T x [])
ring_is n [] x = sym (drop_none n)
ring_is n (xs ∷ T) zero = refl
ring_is n (xs ∷ T) (suc x) = ring_is n T x

some_ring : (T : Table) (x : ℕ) → 0 < length (slice_index_or T x []) → x < length T
some_ring [] x h = absurd (omega (arith, h))
some_ring (xs ∷ T) zero h = omega arith
some_ring (xs ∷ T) (suc x) h = let r = some_ring T x h in omega (arith, r)

-- a list of one word
pub only_word : (xs : List ℕ) (w : ℕ) → length xs ≡ 1 → w ≡ slice_index xs 0 → xs ≡ w ∷ []
only_word [] w h e = absurd (omega (arith, h))
only_word (x ∷ []) w h e = ap (λ y. y ∷ []) (sym e)
only_word (x ∷ y ∷ xs) w h e = absurd (omega (arith, h))

-- ---- entries

-- the ring and the row are there, and the row has the words of the type
pub record IsEntryThere (s : SpecValue) (rings : Table) (x k : ℕ) (t : Ty) : Type 0 where
  pub ring : x < length rings
  pub row : k < length (ring_at rings x)
  pub wide : length (row_at (ring_at rings x) k) ≡ words s.types t

module _ (s : SpecValue) (rings : Table) (row : List ℕ) (seen : IsSeen s rings row) where
  ring_words : (x : ℕ) (t : Ty) → StreamHasType (signature_of (trees s)) x t → AllByRecursion (AreWords (leaves s.types t)) (ring_at rings x)
  ring_words x t h =
      let tree_is = from_mapped (stream_signature s.types) (trees s).streams x h.stream h.is in
      let item_is = from_mapped (λ (y : StreamItem). record { name = y.name; ty = y.ty; init = y.init; expr = tree s.nodes s.libs y.expr; at = y.at }) s.streams x tree_is.0 tree_is.1 in
      let ty_is : item_is.0.ty ≡ t = ap (λ (y : TreeStream). y.ty) item_is.2 ∙ ap (λ y. y.ty) tree_is.2 ∙ h.type_is in
      let all = stream_words s seen.plain.typed (acyclic s seen.plain) seen.history seen.rows seen.time seen.lists seen.table_is (let b = seen.there in omega (arith, b)) x item_is.0 item_is.1 in
      let here = subst (AllByRecursion (AreWords (leaves s.types item_is.0.ty))) (sym (ring_is seen.time seen.lists x)) (all_dropped _ seen.time (slice_index_or seen.lists x []) all) in
      subst (λ R. AllByRecursion (AreWords (leaves s.types t)) (slice_index_or R x [])) (sym seen.rings_are)
      (subst (λ u. AllByRecursion (AreWords (leaves s.types u)) (slice_index_or (lists_from seen.time seen.lists) x [])) ty_is here)

  pub entry_there : (x k : ℕ) (t : Ty) → IsEntryOf s x k t → IsEntryThere s rings x k t
  entry_there x k t h =
      let long = ap (λ R. length (slice_index_or R x [])) seen.rings_are ∙ rings_long s seen.plain.typed seen.history seen.time seen.lists seen.table_is x in
      let within = h.within in
      let row_in : k < length (ring_at rings x) = omega (arith, long, within) in
      let ws = all_read (AreWords (leaves s.types t)) (ring_at rings x) k [] (ring_words x t h.typed) row_in in
      record { ring = some_ring rings x (omega (arith, row_in)); row = row_in; wide = length-words (leaves s.types t) (row_at (ring_at rings x) k) ws ∙ length-leaves s.types t }

  -- what a typed expression reads
  pub stream_entry : (x : ℕ) (t : Ty) → StreamHasType (signature_of (trees s)) x t → IsEntryOf s x 0 t
  stream_entry x t h = record { typed = h; within = typed_reads s seen.plain.typed (stream x) t h }

  pub dropped_entry : (x k : ℕ) (t : Ty) → DropHasType (signature_of (trees s)) x k t → IsEntryOf s x k t
  dropped_entry x k t h = record { typed = record { stream = h.stream; is = h.is; type_is = h.type_is }; within = typed_reads s seen.plain.typed (dropped x k) t h }
