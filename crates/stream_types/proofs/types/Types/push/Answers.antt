use Rattle.std.proofs.Common.{◌≡◌, List, ◌++◌, ◌∷◌, [], length, ap, sym, ◌∙◌, subst}
use Rattle.std.proofs.lemmas.List.{map_push}
use Rattle.stream_types.specs.declared.types.Measured.{Measured}
use Rattle.stream_types.specs.declared.types.TypeEntry.{TypeEntry}
use Rattle.stream_types.specs.TypeList.{IsNewEntry}
use Rattle.stream_types.specs.Measures.{IsKept, entries_of}
use Rattle.stream_types.specs.ArrayPlaces.{ArePlaces}
use Rattle.stream_types.proofs.TypeLists.{IsKept-push}
use Rattle.stream_types.proofs.types.Types.push.Goals as goal

pub invariant_of-self-2 : goal.invariant_of-self-2
invariant_of-self-2 c =
    let r = c.requires in
    let kept = c.self.inside.entries.items in
    let places = c.note_place.new.places.entries in
    let m : Measured = record { entry = c.args.entry; extent = c.args.extent } in
    let items : c.push.new.self.items ≡ kept ++ m ∷ [] = c.in_ok-push.ensures.items ∙ ap (λ (xs : List Measured). xs ++ m ∷ []) c.in_ok-reserve.ensures.items in
    let new = subst (λ (types : List TypeEntry). IsNewEntry types c.args.entry) (sym c.self.view_is) r.new in
    let noted = c.in_ok-note_place.ensures.ok (entries_of kept) c.self.invariant.1 new (c.len-place.ensures.value ∙ ap length (sym c.self.view_is)) in (
      subst IsKept (sym items) (IsKept-push kept c.args.self.now m c.self.view_is c.self.invariant.0 r.good r.new r.words r.bytes r.narrow r.room),
      subst (λ (xs : List Measured). ArePlaces places (entries_of xs)) (sym items) (subst (ArePlaces places) (sym (map_push (λ (k : Measured). k.entry) kept m)) noted),
    )
