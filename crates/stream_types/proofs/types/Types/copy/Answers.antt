use Rattle.std.proofs.Common.{List, ◌++◌, ◌∷◌, [], take, ap, sym, ◌∙◌, subst}
use Rattle.std.proofs.lemmas.List.{take_all}
use Rattle.stream_types.specs.Measures.{IsKept, entries_of}
use Rattle.stream_types.specs.ArrayPlaces.{ArePlaces}
use Rattle.stream_types.specs.declared.types.Measured.{Measured}
use Rattle.stream_types.proofs.PlacedArrays.{no_places, kept_more, entries_more, front_length, front_new}
use Rattle.stream_types.proofs.types.Types.copy.Goals as goal

pub loop-i-init : goal.loop-i-init
loop-i-init c = record {
  entries = c.new-entries.ensures.items;
  places = no_places c.new-places.result.entries c.new-places.ensures.empty;
}

pub loop-i-preserved : goal.loop-i-preserved
loop-i-preserved c =
    let items = c.deref-kept-items.result.now in
    let i = c.loop-i.i in
    let h = c.loop-i.invariant in
    let same = c.deref-kept-items.ensures.value in
    let whole = subst (λ (xs : List Measured). IsKept xs) (sym same) c.self.invariant.0 in
    let new = front_new items i c.kept-item.result whole.types c.loop-i-test.true c.kept-item.is in
    record {
      entries = c.in_ok-push.ensures.items ∙ ap (λ xs. xs ++ c.in_ok-copy.field-0 ∷ []) h.entries ∙ ap (λ x. take i items ++ x ∷ []) c.in_ok-copy.ensures ∙ sym (kept_more items i c.kept-item.result c.loop-i-test.true c.kept-item.is);
      places = subst (ArePlaces c.note_place.new.places.entries) (sym (entries_more items i c.kept-item.result c.loop-i-test.true c.kept-item.is))
          (c.in_ok-note_place.ensures.ok (entries_of (take i items)) h.places new (front_length items i c.loop-i-test.true));
    }

pub invariant_of-result : goal.invariant_of-result
invariant_of-result c =
    let items = c.deref-kept-items.result.now in
    let h = c.loop-i.invariant in
    let whole = take_all c.loop-i.i items c.loop-i-test.false in
    let e = h.entries ∙ whole ∙ c.deref-kept-items.ensures.value in
    (subst (λ (xs : List Measured). IsKept xs) (sym e) c.self.invariant.0, subst (λ (xs : List Measured). ArePlaces c.loop-i.places.entries (entries_of xs)) (sym h.entries) h.places)

pub returns : goal.returns
returns c =
    let items = c.deref-kept-items.result.now in
    let whole = take_all c.loop-i.i items c.loop-i-test.false in
    ap entries_of (c.loop-i.invariant.entries ∙ whole ∙ c.deref-kept-items.ensures.value) ∙ c.self.view_is
