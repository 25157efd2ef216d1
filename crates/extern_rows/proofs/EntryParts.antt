-- What a type has by its entry, also in a longer list.
use Rattle.std.proofs.Common.{◌≡◌, ℕ, zero, suc, ◌+◌, ◌<◌, List, [], ◌∷◌, ◌++◌, length, take, drop, refl, arith, ap, sym, ◌∙◌, length-append, unwrap_or}
use Rattle.std.specs.Prelude.{slice_get, Option, Some}
use Rattle.std.proofs.lemmas.List.{take-append-drop}
use Rattle.stream_types.specs.declared.scalar.Scalar.{Scalar}
use Rattle.stream_types.specs.declared.scalar.Ty.{Ty}
use Rattle.stream_types.specs.declared.scalar.Ty.TheVariants as ty
use Rattle.stream_types.specs.declared.types.TypeEntry.{TypeEntry}
use Rattle.stream_types.specs.TypeList.{IsArrayEntry, IsStructEntry, Stands, IsGoodEntry, IsTypeList}
use Rattle.stream_types.proofs.GrownLists.{within}
use Rattle.extern_rows.specs.ValueTexts.{each_entry, at_type}
use Rattle.extern_rows.proofs.LeafNames.{get-append, get-last}

each-append : {X : Type 0} (step : List X → TypeEntry → X) (before : List X) (es more : List TypeEntry) → each_entry step before (es ++ more) ≡ each_entry step (each_entry step before es) more
each-append step before [] more = refl
each-append step before (e ∷ es) more = each-append step (before ++ step before e ∷ []) es more

length-each : {X : Type 0} (step : List X → TypeEntry → X) (before : List X) (es : List TypeEntry) → length (each_entry step before es) ≡ length before + length es
length-each step before [] = omega arith
length-each step before (e ∷ es) = omega (arith, length-each step (before ++ step before e ∷ []) es, length-append before (step before e ∷ []))

each_keep : {X : Type 0} (step : List X → TypeEntry → X) (before : List X) (es : List TypeEntry) (i : ℕ) → i < length before → slice_get (each_entry step before es) i ≡ slice_get before i
each_keep step before [] i h = refl
each_keep step before (e ∷ es) i h =
    each_keep step (before ++ step before e ∷ []) es i (omega (arith, length-append before (step before e ∷ []))) ∙ get-append before (step before e ∷ []) i h

each_at : {X : Type 0} (step : List X → TypeEntry → X) (before : List X) (es : List TypeEntry) (i j : ℕ) (e : TypeEntry) → slice_get es i ≡ Some e → j ≡ length before + i
    → slice_get (each_entry step before es) j ≡ Some (step (each_entry step before (take i es)) e)
each_at step before [] i j e h p = absurd (cc)
each_at step before (x ∷ es) zero j e h p =
    each_keep step (before ++ step before x ∷ []) es j (omega (arith, length-append before (step before x ∷ [])))
    ∙ get-last before (step before x) j (omega arith)
    ∙ let q : x ≡ e = cc in ap (λ (y : TypeEntry). Some (step before y)) q
each_at step before (x ∷ es) (suc i) j e h p = each_at step (before ++ step before x ∷ []) es i j e h (omega (arith, length-append before (step before x ∷ [])))

-- A type has the same in a longer list.
pub at-longer : {X : Type 0} (step : List X → TypeEntry → X) (one : Scalar → X) (none : X) (types more : List TypeEntry) (t : Ty) → Stands types t
    → at_type one none (each_entry step [] (types ++ more)) t ≡ at_type one none (each_entry step [] types) t
at-longer step one none types more (ty.Scalar s) h = refl
at-longer step one none types more (ty.Array j) h =
    ap (λ (xs : List _). unwrap_or (slice_get xs j) none) (each-append step [] types more)
    ∙ ap (λ (o : Option _). unwrap_or o none) (each_keep step (each_entry step [] types) more j (omega (arith, length-each step [] types, within types j IsArrayEntry (λ n. n) h)))
at-longer step one none types more (ty.Struct j) h =
    ap (λ (xs : List _). unwrap_or (slice_get xs j) none) (each-append step [] types more)
    ∙ ap (λ (o : Option _). unwrap_or o none) (each_keep step (each_entry step [] types) more j (omega (arith, length-each step [] types, within types j IsStructEntry (λ n. n) h)))

-- What an entry has is made of what the whole list's types have.
pub entry_is : {X : Type 0} (step : List X → TypeEntry → X) → ((types more : List TypeEntry) (e : TypeEntry) → IsGoodEntry types e → step (each_entry step [] (types ++ more)) e ≡ step (each_entry step [] types) e)
    → (types : List TypeEntry) (i : ℕ) (e : TypeEntry) → IsTypeList types → slice_get types i ≡ Some e → slice_get (each_entry step [] types) i ≡ Some (step (each_entry step [] types) e)
entry_is step stays types i e h p =
    each_at step [] types i i e p (omega arith)
    ∙ sym (ap (λ (x : _). Some x) (stays (take i types) (drop i types) e (h.each i e p)))
    ∙ ap (λ (ts : List TypeEntry). Some (step (each_entry step [] ts) e)) (take-append-drop i types)
