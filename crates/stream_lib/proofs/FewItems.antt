-- A sound specification has few items and few buffers.
use Rattle.std.proofs.Common.{◌≡◌, ℕ, ◌+◌, ◌≤◌, Bool, true, false, if◌then◌else◌, List, [], ◌∷◌, length, map, Option, Some, None, refl, ap, ◌∙◌, arith}
use Rattle.std.specs.Prelude.{nat_lt}
use Rattle.std.proofs.lemmas.Bool.Decides.{nat_tests}
use Rattle.std.proofs.lemmas.List.{length-map, length-append}
use Rattle.stream_core.specs.declared.node.Node.TheVariants as node
use Rattle.stream_core.specs.declared.node.LibForm.{LibForm}
use Rattle.stream_core.specs.declared.node.LibForm.TheVariants as form
use Rattle.stream_core.specs.declared.spec.LibItem.{LibItem}
use Rattle.stream_core.specs.declared.spec.StreamItem.{StreamItem}
use Rattle.stream_types.specs.declared.types.TypeEntry.{TypeEntry}
use Rattle.stream_core.specs.Value.{SpecValue}
use Rattle.stream_core.specs.Term.{Term, TreeSpec, tree, tree_def, trees}
use Rattle.stream_core.specs.Lower.{all_buffers, buffers, buffers_of}
use Rattle.stream_core.specs.Soundness.{too_many_decls, too_many_words, declarations, total_words, heavy_root, weight_fault, limit_fault}
use Rattle.stream_core.specs.Meaning.{IsFirstFault}
use Rattle.stream_core.specs.WellTyped.{WellTyped}
use Rattle.stream_core.proofs.GoodNodes.{good_node}
use Rattle.stream_core.proofs.WholeWeight.{observer_tree, stream_tree, trigger_tree}
use Rattle.recursion_check.specs.Counted.{form_words, libs_words}
use Rattle.recursion_check.proofs.Counting.{words_are}
use Rattle.stream_lib.specs.Room.{HasForms, HasRoomFor, IsSmall, buffer_count}
use Rattle.stream_lib.specs.Built.{Grows}
use Rattle.stream_lib.specs.Made.{MakesStreams, stream_tree as made_tree}
use Rattle.stream_lib.proofs.MadeStreams.{tree_lib}
use Rattle.stream_lib.proofs.PlacedTrees.{grows_then}
use Rattle.stream_lib.proofs.WholeTrees.{empty_spec}

-- ---- the limits

at_most : (n k : ℕ) → nat_lt n k ≡ false → k ≤ n
at_most n k h = grind (arith, nat_tests, h)

if_none : {X : Type 0} (b : Bool) (x : X) (o : Option X) → (if b then Some x else o) ≡ None → (b ≡ false) × (o ≡ None)
if_none true x o e = absurd (cc)
if_none false x o e = (refl, e)

within : (s : TreeSpec) → limit_fault s ≡ None → (declarations s ≤ 4096) × (total_words s ≤ 262144)
within s h =
    let a = if_none (nat_lt 4096 (declarations s)) too_many_decls (if nat_lt 262144 (total_words s) then Some too_many_words else weight_fault s (heavy_root s)) h in
    let b = if_none (nat_lt 262144 (total_words s)) too_many_words (weight_fault s (heavy_root s)) a.1 in
    (at_most 4096 (declarations s) a.0, at_most 262144 (total_words s) b.0)

-- each buffer has a word at least
some_words : (f : LibForm) → buffers f ≤ form_words f
some_words form.Once = omega arith
some_words form.Historically = omega arith
some_words form.Yesterday = omega arith
some_words form.WeaklyYesterday = omega arith
some_words form.Since = omega arith
some_words (form.OnceIn low high) = omega arith
some_words (form.HistoricallyIn low high) = omega arith
some_words (form.SinceIn low high) = omega arith
some_words (form.Clock period phase) = omega arith
some_words (form.WindowMax n s) = omega arith
some_words (form.WindowMin n s) = omega arith
some_words (form.WindowSum n s) = omega arith

all_words : (xs : List LibItem) → buffer_count xs ≤ libs_words xs
all_words [] = omega arith
all_words (x ∷ xs) = let a = some_words x.form in let b = all_words xs in omega (arith, a, b)

pub sound_small : (s : SpecValue) → WellTyped s → IsFirstFault s None → IsSmall s
sound_small s w sound =
    let t = trees s in
    let h = within t sound.1 in
    let few = h.0 in
    let words = h.1 in
    let total = words_are s w in
    let own = all_words s.libs in
    let streams = length-map s.streams (stream_tree s) in
    let defs = length-map s.defs (tree_def (tree s.nodes s.libs)) in
    let triggers = length-map s.triggers (trigger_tree s) in
    let observers = length-map s.observers (observer_tree s) in
    record {
      externs = omega (arith, few);
      streams = omega (arith, few, streams);
      defs = omega (arith, few, defs);
      triggers = omega (arith, few, triggers);
      observers = omega (arith, few, observers);
      forms = omega (arith, words, total, own);
    }

pub typed_forms : (s : SpecValue) → WellTyped s → HasForms s
typed_forms s w i k e = good_node s w i (node.Lib k) e

-- ---- the buffers

form_streams : (f : LibForm) (number b at : ℕ) (ps : List Term) → length (buffers_of f number b at ps) ≤ buffers f
form_streams form.Once number b at ps = omega arith
form_streams form.Historically number b at ps = omega arith
form_streams form.Since number b at ps = omega arith
form_streams (form.Clock period phase) number b at ps = omega arith
form_streams form.Yesterday number b at [] = omega arith
form_streams form.Yesterday number b at (p ∷ ps) = omega arith
form_streams form.WeaklyYesterday number b at [] = omega arith
form_streams form.WeaklyYesterday number b at (p ∷ ps) = omega arith
form_streams (form.OnceIn low high) number b at [] = omega arith
form_streams (form.OnceIn low high) number b at (p ∷ ps) = omega arith
form_streams (form.HistoricallyIn low high) number b at [] = omega arith
form_streams (form.HistoricallyIn low high) number b at (p ∷ ps) = omega arith
form_streams (form.SinceIn low high) number b at [] = omega arith
form_streams (form.SinceIn low high) number b at (p ∷ []) = omega arith
form_streams (form.SinceIn low high) number b at (p ∷ q ∷ ps) = omega arith
form_streams (form.WindowMax n s) number b at [] = omega arith
form_streams (form.WindowMax n s) number b at (p ∷ ps) = omega arith
form_streams (form.WindowMin n s) number b at [] = omega arith
form_streams (form.WindowMin n s) number b at (p ∷ ps) = omega arith
form_streams (form.WindowSum n s) number b at [] = omega arith
form_streams (form.WindowSum n s) number b at (p ∷ ps) = omega arith

all_streams : (f : Term → Term) (source : SpecValue) (number b : ℕ) (xs : List LibItem) → length (all_buffers f number b (map (tree_lib source) xs)) ≤ buffer_count xs
all_streams f source number b [] = omega arith
all_streams f source number b (x ∷ xs) =
    let ps = map f (tree_lib source x).args in
    let a = form_streams x.form number b x.at ps in
    let r = all_streams f source (number + buffers x.form) (b + buffers x.form) xs in
    let both = length-append (buffers_of x.form number b x.at ps) (all_buffers f (number + buffers x.form) (b + buffers x.form) (map (tree_lib source) xs)) in
    omega (arith, a, r, both)

-- there are no more streams made than buffers are counted
pub few_made : (source s t : SpecValue) (f : Term → Term) (number b : ℕ) (xs : List StreamItem) → MakesStreams s t xs (all_buffers f number b (trees source).libs) → length xs ≤ buffer_count source.libs
few_made source s t f number b xs made =
    let a = length-map xs (made_tree t) in
    let e = ap length made.are in
    let h = all_streams f source number b source.libs in
    omega (arith, a, e, h)

-- behind no items there is room for few ones and their buffers
pub room : (source v s t : SpecValue) (name : List ℕ) (types : List TypeEntry) (n : ℕ) → IsSmall source → v ≡ empty_spec name types → Grows v s → Grows s t → n ≤ buffer_count source.libs → HasRoomFor source n t
room source v s t name types n small new grows more few =
    let g = grows_then v s t grows more in
    let is : t ≡ record (empty_spec name types) { nodes = t.nodes } = g.others ∙ ap (λ (w : SpecValue). record w { nodes = t.nodes }) new in
    let externs : length t.externs ≡ 0 = ap (λ (w : SpecValue). length w.externs) is in
    let streams : length t.streams ≡ 0 = ap (λ (w : SpecValue). length w.streams) is in
    let defs : length t.defs ≡ 0 = ap (λ (w : SpecValue). length w.defs) is in
    let triggers : length t.triggers ≡ 0 = ap (λ (w : SpecValue). length w.triggers) is in
    let observers : length t.observers ≡ 0 = ap (λ (w : SpecValue). length w.observers) is in
    let a = small.externs in
    let b = small.streams in
    let c = small.defs in
    let d = small.triggers in
    let e = small.observers in
    let f = small.forms in
    record {
      externs = omega (arith, externs, a);
      streams = omega (arith, streams, b, few, f);
      defs = omega (arith, defs, c);
      triggers = omega (arith, triggers, d);
      observers = omega (arith, observers, e);
    }
