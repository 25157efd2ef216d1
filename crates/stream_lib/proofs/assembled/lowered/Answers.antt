use Rattle.std.proofs.Common.{ℕ, List, length, ap, sym, subst, ◌∙◌, arith}
use Rattle.stream_core.specs.declared.spec.StreamItem.{StreamItem}
use Rattle.stream_core.specs.Lower.{lowered}
use Rattle.stream_lib.specs.Renamed.{AreNumbers, starts_of, with_items}
use Rattle.stream_lib.proofs.FewItems.{few_made, room}
use Rattle.stream_core.specs.Value.{SpecValue}
use Rattle.stream_lib.proofs.LoweredParts.{whole_parts}
use Rattle.stream_lib.proofs.WholeTrees.{new_is, whole_is}
use Rattle.stream_lib.proofs.assembled.lowered.Goals as goal

pub all_buffers-requires-clause-below : goal.all_buffers-requires-clause-below
all_buffers-requires-clause-below c =
    let source = c.args.source.now in
    let same = sym c.in_ok-news.ensures.all ∙ ap (λ (is : List ℕ). length is) (sym c.as_slice-2.ensures.value) in
    let are = subst (λ (n : ℕ). AreNumbers n source) same c.requires.numbers in
    are.libs

pub add_items-requires-clause-room : goal.add_items-requires-clause-room
add_items-requires-clause-room c =
    let source = c.args.source.now in
    let s = c.lower_nodes.new.spec in
    let t = c.all_buffers.new.spec in
    let xs = c.in_ok-xs.xs.items in
    let few = few_made source s t (lowered (starts_of source)) 1 (length source.streams) xs c.in_ok-xs.ensures in
    let same = ap (λ (ys : List StreamItem). length ys) c.as_slice-4.ensures.value in
    room source c.new-spec.result s t _ _ (length c.as_slice-4.result.now) c.requires.few c.new-spec.ensures c.in_ok-news.ensures.grows c.in_ok-xs.ensures.grows (omega (arith, few, same))

pub returns-clause-trees : goal.returns-clause-trees
returns-clause-trees c =
    let source = c.args.source.now in
    let news = c.in_ok-news.news.items in
    let xs = c.in_ok-xs.xs.items in
    let t = c.all_buffers.new.spec in
    whole_is source c.new-spec.result c.lower_nodes.new.spec t c.add_items.new.spec news xs
    (c.new-spec.ensures ∙ new_is source _ _ _ _ c.in_ok-name.ensures c.in_ok-types.ensures c.name.ensures c.types.ensures)
    c.in_ok-news.ensures.grows
    c.in_ok-news.ensures.lowered
    c.in_ok-xs.ensures
    (subst (λ n. AreNumbers n source) (sym c.in_ok-news.ensures.all) c.requires.numbers)
    (c.in_ok-add_items.ensures ∙ ap (λ is. with_items source is c.as_slice-4.result.now t) c.as_slice-3.ensures.value ∙ ap (λ (ys : List StreamItem). with_items source news ys t) c.as_slice-4.ensures.value)

pub returns-clause-parts : goal.returns-clause-parts
returns-clause-parts c =
    let t = c.all_buffers.new.spec in
    whole_parts c.args.source.now c.new-spec.result c.lower_nodes.new.spec t c.add_items.new.spec c.in_ok-xs.xs.items
    (ap (λ (v : SpecValue). v.nodes) c.new-spec.ensures)
    c.in_ok-news.ensures.adds
    c.in_ok-xs.ensures
    (ap (λ (v : SpecValue). v.nodes) c.in_ok-add_items.ensures)

pub returns-clause-list : goal.returns-clause-list
returns-clause-list c = c.nodes.ensures.list
