use Rattle.std.proofs.Common.{◌≡◌, [], ◌∷◌, length, length-append, refl, ap, ap₂, ◌∙◌, arith}
use Rattle.std.proofs.lemmas.Result.{on_ok_weaker}
use Rattle.stream_core.specs.declared.spec.DefItem.{DefItem}
use Rattle.stream_core.specs.declared.spec.Item.TheVariants as item
use Rattle.stream_core.specs.Stored.{with_item}
use Rattle.stream_core.specs.Value.{SpecValue}
use Rattle.spec_text.specs.declared.surface.Decl.TheVariants as d
use Rattle.type_check.specs.Judged.{judge_form}
use Rattle.typed_text.specs.ReadSpec.{ty_in}
use Rattle.typed_spec.specs.Added.{item_total}
use Rattle.typed_spec.proofs.AddedItems.{adds_one, def_with, def_joined}
use Rattle.typed_spec.proofs.declarations.def_item.Goals as goal

-- the items are those before the expressions
pub add-requires : goal.add-requires
add-requires c = let r = c.requires.room in let e = ap (λ (v : SpecValue). length v.defs) c.root.ensures.others in omega (arith, r, e)

pub returns-clause-total : goal.returns-clause-total
returns-clause-total c =
    let old = c.root.new.arena.spec in
    let y : DefItem = record { name = c.in_ok-name.name; ty = c.ty-ty.result; expr = c.in_ok-value.value.expr; at = c.args.at } in
    on_ok_weaker c.add.result (λ e. ap item_total e ∙ (let p = length-append old.defs (y ∷ []) in let q = ap item_total c.root.ensures.others in omega (arith, p, q))) c.add.ensures.ok

pub returns-clause-adds : goal.returns-clause-adds
returns-clause-adds c = λ names s n h.
    let old = c.args.arena.now in
    let mid = c.root.new.arena in
    let new = c.add.new.self in
    let x = c.args.name.now in
    let ty = c.args.ty.now in
    let r = c.in_ok-value.value in
    let y : DefItem = record { name = c.in_ok-name.name; ty = c.ty-ty.result; expr = r.expr; at = c.args.at } in
    let ty_is = c.ty-ty.ensures names s n (judge_form s.before ty) h (c.written.ensures names s n h) in
    let is : y ≡ def_with x.name (ty_in n (judge_form s.before ty)) r.expr c.args.at = ap₂ (λ a t. def_with a t r.expr c.args.at) c.in_ok-name.ensures ty_is in
    on_ok_weaker c.add.result
    (λ e. let whole : new ≡ with_item (record old.spec { nodes = mid.spec.nodes }) (item.Def y) = e ∙ ap (λ v. with_item v (item.Def y)) c.root.ensures.others in
    adds_one n s old mid (record mid { spec = new }) (r ∷ []) (d.Def c.args.at x ty c.args.e.now) (c.in_ok-value.ensures.made names s n h) (ap (λ (v : SpecValue). v.nodes) whole) refl (ap (λ (v : SpecValue). v.libs) whole)
    (λ f q. def_joined n s old.spec new mid.spec.nodes (length old.forms.items) c.args.at x ty c.args.e.now r y whole is f q))
    c.add.ensures.ok
