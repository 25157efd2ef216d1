use Rattle.std.proofs.Common.{◌≡◌, [], ◌∷◌, length, length-append, refl, ap, ◌∙◌, arith}
use Rattle.std.proofs.lemmas.Result.{on_ok_weaker}
use Rattle.stream_core.specs.declared.spec.ObserverItem.{ObserverItem}
use Rattle.stream_core.specs.declared.spec.Item.TheVariants as item
use Rattle.stream_core.specs.Stored.{with_item}
use Rattle.stream_core.specs.Value.{SpecValue}
use Rattle.spec_text.specs.declared.surface.Decl.TheVariants as d
use Rattle.typed_spec.specs.Added.{item_total}
use Rattle.typed_spec.proofs.AddedItems.{adds_one, observer_joined}
use Rattle.typed_spec.proofs.declarations.observer_item.Goals as goal

-- the items are those before the expressions
pub add-requires : goal.add-requires
add-requires c = let r = c.requires.room in let e = ap (λ (v : SpecValue). length v.observers) c.root.ensures.others in omega (arith, r, e)

pub returns-clause-total : goal.returns-clause-total
returns-clause-total c =
    let old = c.root.new.arena.spec in
    let y : ObserverItem = record { name = c.in_ok-name.name; root = c.in_ok-root.root } in
    on_ok_weaker c.add.result (λ e. ap item_total e ∙ (let p = length-append old.observers (y ∷ []) in let q = ap item_total c.root.ensures.others in omega (arith, p, q))) c.add.ensures.ok

pub returns-clause-adds : goal.returns-clause-adds
returns-clause-adds c = λ names s n at h.
    let old = c.args.arena.now in
    let mid = c.root.new.arena in
    let new = c.add.new.self in
    let x = c.args.name.now in
    let r = c.in_ok-root.root in
    let y : ObserverItem = record { name = c.in_ok-name.name; root = r } in
    on_ok_weaker c.add.result
    (λ e. let whole : new ≡ with_item (record old.spec { nodes = mid.spec.nodes }) (item.Observer y) = e ∙ ap (λ v. with_item v (item.Observer y)) c.root.ensures.others in
    adds_one n s old mid (record mid { spec = new }) (r ∷ []) (d.Observer at x c.args.e.now) (c.in_ok-root.ensures.made names s n h) (ap (λ (v : SpecValue). v.nodes) whole) refl (ap (λ (v : SpecValue). v.libs) whole)
    (λ f q. observer_joined n s old.spec new mid.spec.nodes (length old.forms.items) at x c.args.e.now y whole c.in_ok-name.ensures f q))
    c.add.ensures.ok
