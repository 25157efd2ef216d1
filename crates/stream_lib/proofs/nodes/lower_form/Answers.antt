use Rattle.std.proofs.Common.{◌≡◌, ◌<◌, length, get_or, map, Some, refl, sym, ap, ◌∙◌, subst, List, arith}
use Rattle.std.specs.Prelude.{slice_get, Option}
use Rattle.std.specs.List.{AllByRecursion}
use Rattle.std.proofs.lemmas.Option.{slice_get-get_or, slice_get_read}
use Rattle.stream_core.specs.declared.spec.LibItem.{LibItem}
use Rattle.stream_core.specs.Ordered.{args_of}
use Rattle.stream_core.specs.Lower.{form_term}
use Rattle.stream_lib.specs.Built.{AreThere, trees_at}
use Rattle.stream_lib.specs.Renamed.{new_of}
use Rattle.stream_lib.proofs.PlacedTrees.{makes_as}
use Rattle.stream_lib.proofs.LoweredNodes.{form_lowered, new_there}
use Rattle.stream_lib.proofs.nodes.lower_form.Goals.{After-as_slice-2}
use Rattle.stream_lib.proofs.nodes.lower_form.Goals as goal

start_is : (c : goal.After-as_slice-2) → slice_get c.args.starts.now c.args.k ≡ Some (get_or c.args.starts.now c.args.k 0)
start_is c = let a = c.requires.all in let b = c.requires.form in slice_get-get_or c.args.starts.now c.args.k 0 (omega (arith, a, b))

item_is : (c : goal.After-as_slice-2) → slice_get c.args.source.now.libs c.args.k ≡ Some c.index-libs-k.result
item_is c = slice_get_read c.args.source.now.libs (length c.args.source.now.libs) c.args.k c.index-libs-k.result refl c.requires.form
    (c.index-libs-k.is ∙ ap (λ (xs : List LibItem). get_or xs c.args.k c.index-libs-k.result) c.libs.ensures)

below : (c : goal.After-as_slice-2) → AllByRecursion (λ j. j < length c.args.news.now) c.index-libs-k.result.args
below c = subst (λ (o : Option LibItem). AllByRecursion (λ j. j < length c.args.news.now) (args_of o)) (item_is c) c.requires.below

ids_are : (c : goal.After-as_slice-2) → c.as_slice-2.result.now ≡ map (new_of c.args.news.now) c.index-libs-k.result.args
ids_are c = c.as_slice-2.ensures ∙ c.in_ok-ps.ensures ∙ ap (map (new_of c.args.news.now)) c.as_slice.ensures

pub form_term-requires-clause-there : goal.form_term-requires-clause-there
form_term-requires-clause-there c = subst (AreThere c.args.spec.now) (sym (ids_are c)) (new_there c.args.source.now c.args.spec.now c.args.news.now c.index-libs-k.result.args c.requires.lowered (below c))

pub form_term-requires-clause-next : goal.form_term-requires-clause-next
form_term-requires-clause-next c = (c.requires.starts c.args.k (get_or c.args.starts.now c.args.k 0) (start_is c)).0

pub returns-clause-made : goal.returns-clause-made
returns-clause-made c =
    let a = (goal.at.returns-clause-made c).After-as_slice-2 in
    let item = c.index-libs-k.result in
    let b = get_or c.args.starts.now c.args.k 0 in
    makes_as _ _ _ _ _
    (ap (λ is. form_term item.form b (trees_at c.args.spec.now is)) (ids_are a)
    ∙ form_lowered c.args.source.now c.args.spec.now c.args.news.now c.args.k b item c.requires.lowered (item_is a) (c.requires.starts c.args.k b (start_is a)).1 (below a))
    c.in_ok-id.ensures.made
