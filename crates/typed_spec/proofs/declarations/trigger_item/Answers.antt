use Rattle.std.proofs.Common.{◌≡◌, [], ◌∷◌, length, length-append, refl, sym, ap, ◌∙◌, subst, arith}
use Rattle.std.proofs.lemmas.Result.{on_ok_weaker}
use Rattle.stream_core.specs.declared.spec.TriggerItem.{TriggerItem}
use Rattle.stream_core.specs.declared.spec.Item.TheVariants as item
use Rattle.stream_core.specs.Stored.{with_item}
use Rattle.stream_core.specs.Value.{SpecValue}
use Rattle.spec_text.specs.declared.surface.Decl.TheVariants as d
use Rattle.stream_core.specs.declared.spec.Root.{Root}
use Rattle.std.proofs.Common.{List}
use Rattle.typed_spec.specs.Added.{MakesRoots}
use Rattle.typed_spec.specs.Added.{item_total}
use Rattle.typed_spec.proofs.Joining.{roots_then}
use Rattle.typed_spec.proofs.AddedItems.{adds_one, trigger_joined}
use Rattle.typed_spec.proofs.declarations.trigger_item.Goals as goal

-- the items are those before the expressions
pub add-requires : goal.add-requires
add-requires c = let r = c.requires.room in let e = ap (λ (v : SpecValue). length v.triggers) (c.roots.ensures.others ∙ ap (λ (v : SpecValue). record v { nodes = c.roots.new.arena.spec.nodes }) c.root.ensures.others) in omega (arith, r, e)

pub returns-clause-total : goal.returns-clause-total
returns-clause-total c =
    let old = c.roots.new.arena.spec in
    let y : TriggerItem = record { name = c.in_ok-name.name; guard = c.in_ok-guard.guard; args = c.of-args.result } in
    on_ok_weaker c.add.result (λ e. ap item_total e ∙ (let p = length-append old.triggers (y ∷ []) in let q = ap item_total (c.roots.ensures.others ∙ ap (λ (v : SpecValue). record v { nodes = c.roots.new.arena.spec.nodes }) c.root.ensures.others) in omega (arith, p, q))) c.add.ensures.ok

pub returns-clause-adds : goal.returns-clause-adds
returns-clause-adds c = λ names s n at h.
    let old = c.args.arena.now in
    let first = c.root.new.arena in
    let mid = c.roots.new.arena in
    let new = c.add.new.self in
    let x = c.args.name.now in
    let r = c.in_ok-guard.guard in
    let qs = c.of-args.result in
    let y : TriggerItem = record { name = c.in_ok-name.name; guard = r; args = qs } in
    let others = c.roots.ensures.others ∙ ap (λ (v : SpecValue). record v { nodes = mid.spec.nodes }) c.root.ensures.others in
    let args = subst (λ (rs : List Root). MakesRoots n s first mid rs c.args.args.now) (sym c.of-args.ensures) (c.in_ok-roots.ensures.made names s n h) in
    on_ok_weaker c.add.result
    (λ e. let whole : new ≡ with_item (record old.spec { nodes = mid.spec.nodes }) (item.Trigger y) = e ∙ ap (λ v. with_item v (item.Trigger y)) others in
    adds_one n s old mid (record mid { spec = new }) (r ∷ qs) (d.Trigger at x c.args.guard.now c.args.args.now) (roots_then (c.in_ok-guard.ensures.made names s n h) args) (ap (λ (v : SpecValue). v.nodes) whole) refl
    (ap (λ (v : SpecValue). v.libs) whole) (λ f q. trigger_joined n s old.spec new mid.spec.nodes (length old.forms.items) at x c.args.guard.now c.args.args.now y whole c.in_ok-name.ensures f q))
    c.add.ensures.ok
