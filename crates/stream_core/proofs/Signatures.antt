-- What a signature says of a declaration is that declaration's, and signatures grow with their specifications.
use Rattle.std.proofs.Common.{◌≡◌, ℕ, zero, suc, ◌/◌, List, [], ◌∷◌, ◌++◌, length, map, Some, refl, sym, ap, ◌∙◌, subst, arith}
use Rattle.std.specs.Prelude.{slice_get, All}
use Rattle.std.proofs.lemmas.List.{append-nil}
use Rattle.sm_io.proofs.Elements.{map_push}
use Rattle.stream_types.specs.declared.scalar.Ty.{Ty}
use Rattle.stream_types.specs.declared.types.TypeEntry.{TypeEntry}
use Rattle.stream_types.specs.TypeList.{Stands}
use Rattle.stream_types.proofs.Widths.{words-append}
use Rattle.stream_core.specs.declared.spec.ExternItem.{ExternItem}
use Rattle.stream_core.specs.declared.spec.StreamItem.{StreamItem}
use Rattle.stream_core.specs.declared.spec.DefItem.{DefItem}
use Rattle.stream_core.specs.declared.spec.Item.{Item}
use Rattle.stream_core.specs.declared.spec.Item.TheVariants as item
use Rattle.stream_core.specs.Value.{SpecValue}
use Rattle.stream_core.specs.Stored.{with_item}
use Rattle.stream_core.specs.Term.{Term, tree_def, tree, trees}
use Rattle.stream_core.specs.Signature.{Signature, StreamSignature, extern_types, stream_signature, def_types, signature_of, item_signature, items_signature}
use Rattle.stream_core.specs.TypeOf.{Extends}

-- what stands at a place of a mapped list comes from what stands there in the list
pub from_mapped : {A B : Type 0} (f : A → B) (xs : List A) (k : ℕ) (y : B) → slice_get (map f xs) k ≡ Some y → (x : A) × (slice_get xs k ≡ Some x) × (f x ≡ y)
from_mapped f [] k y e = absurd (cc)
from_mapped f (x ∷ xs) zero y e = let is : f x ≡ y = cc in (x, refl, is)
from_mapped f (x ∷ xs) (suc k) y e = from_mapped f xs k y e

-- ---- by items

streams_are : (types : List TypeEntry) (at : ℕ → Term) (xs : List StreamItem) → map (stream_signature types) (map (λ (x : StreamItem). record { name = x.name; ty = x.ty; init = x.init; expr = at x.expr; at = x.at }) xs) ≡ map (item_signature types) xs
streams_are types at [] = refl
streams_are types at (x ∷ xs) = ap (λ ys. item_signature types x ∷ ys) (streams_are types at xs)

defs_are : (at : ℕ → Term) (xs : List DefItem) → def_types (map (tree_def at) xs) ≡ map (λ (x : DefItem). x.ty) xs
defs_are at [] = refl
defs_are at (x ∷ xs) = ap (λ ts. x.ty ∷ ts) (defs_are at xs)

abbrev of_parts : SpecValue → List StreamSignature → List Ty → Signature
of_parts s streams defs = record { types = s.types; externs = extern_types s.externs; streams = streams; defs = defs }

-- a signature depends on the items alone
pub by_items : (s : SpecValue) → signature_of (trees s) ≡ items_signature s
by_items s =
    let at = tree s.nodes s.libs in
    ap (λ (xs : List StreamSignature). of_parts s xs (def_types (trees s).defs)) (streams_are s.types at s.streams)
    ∙ ap (of_parts s (map (item_signature s.types) s.streams)) (defs_are at s.defs)

-- ---- growth

none_more : {X : Type 0} (xs : List X) → xs ≡ xs ++ []
none_more xs = sym (append-nil xs)

same_grows : (sig : Signature) → Extends sig sig
same_grows sig = record { more_types = []; types = none_more sig.types; more_externs = []; externs = none_more sig.externs; more_streams = []; streams = none_more sig.streams; more_defs = []; defs = none_more sig.defs }

items_grow : (s : SpecValue) (x : Item) → Extends (items_signature s) (items_signature (with_item s x))
items_grow s (item.Extern x) = record { more_types = []; types = none_more s.types; more_externs = x.ty ∷ []; externs = map_push (λ (y : ExternItem). y.ty) s.externs x; more_streams = []; streams = none_more _; more_defs = []; defs = none_more _ }
items_grow s (item.Stream x) = record { more_types = []; types = none_more s.types; more_externs = []; externs = none_more _; more_streams = item_signature s.types x ∷ []; streams = map_push (item_signature s.types) s.streams x; more_defs = []; defs = none_more _ }
items_grow s (item.Def x) = record { more_types = []; types = none_more s.types; more_externs = []; externs = none_more _; more_streams = []; streams = none_more _; more_defs = x.ty ∷ []; defs = map_push (λ (y : DefItem). y.ty) s.defs x }
items_grow s (item.Trigger x) = same_grows (items_signature s)
items_grow s (item.Observer x) = same_grows (items_signature s)
items_grow s (item.Lib x) = same_grows (items_signature s)

count_stays : (types more : List TypeEntry) (xs : List StreamItem) → All (λ (x : StreamItem). Stands types x.ty) xs → map (item_signature (types ++ more)) xs ≡ map (item_signature types) xs
count_stays types more [] h = refl
count_stays types more (x ∷ xs) h =
    let w = words-append types more x.ty (h 0 x (omega arith)) in
    let head : item_signature (types ++ more) x ≡ item_signature types x = ap (λ w. record { ty = x.ty; count = length x.init / w }) w in
    let rest = count_stays types more xs (λ k d b. h (suc k) d (omega (arith, b))) in
    cc

types_grow : (s : SpecValue) (more : List TypeEntry) → All (λ (x : StreamItem). Stands s.types x.ty) s.streams → Extends (items_signature s) (items_signature (record s { types = s.types ++ more }))
types_grow s more h = record { more_types = more; types = refl; more_externs = []; externs = none_more _; more_streams = []; streams = count_stays s.types more s.streams h ∙ none_more _; more_defs = []; defs = none_more _ }

by_trees : (s t : SpecValue) → Extends (items_signature s) (items_signature t) → Extends (signature_of (trees s)) (signature_of (trees t))
by_trees s t h = subst (λ sig. Extends sig (signature_of (trees t))) (sym (by_items s)) (subst (Extends (items_signature s)) (sym (by_items t)) h)

pub grows_by_item : (s : SpecValue) (x : Item) → Extends (signature_of (trees s)) (signature_of (trees (with_item s x)))
grows_by_item s x = by_trees s (with_item s x) (items_grow s x)

pub grows_by_types : (s : SpecValue) (more : List TypeEntry) → All (λ (x : StreamItem). Stands s.types x.ty) s.streams → Extends (signature_of (trees s)) (signature_of (trees (record s { types = s.types ++ more })))
grows_by_types s more h = by_trees s (record s { types = s.types ++ more }) (types_grow s more h)
