use Rattle.std.proofs.Common.{◌≡◌, [], ◌∷◌, ◌++◌, length, length-append, refl, ap, ap₂, ◌∙◌, arith}
use Rattle.std.proofs.lemmas.Result.{on_ok_weaker}
use Rattle.stream_core.specs.declared.spec.StreamItem.{StreamItem}
use Rattle.stream_core.specs.declared.spec.Item.TheVariants as item
use Rattle.stream_core.specs.Stored.{with_item}
use Rattle.stream_core.specs.Value.{SpecValue}
use Rattle.spec_text.specs.declared.surface.Decl.TheVariants as d
use Rattle.type_check.specs.Judged.{judge_form}
use Rattle.typed_text.specs.ReadSpec.{const_words, ty_in}
use Rattle.std.specs.List.{flat_map}
use Rattle.typed_spec.specs.Added.{item_total}
use Rattle.typed_spec.proofs.AddedItems.{adds_one, stream_with, stream_joined}
use Rattle.typed_spec.proofs.declarations.stream_item.Goals as goal

-- the items are those before the expressions
pub add-requires : goal.add-requires
add-requires c = let r = c.requires.room in let e = ap (λ (v : SpecValue). length v.streams) c.root.ensures.others in omega (arith, r, e)

pub returns-clause-total : goal.returns-clause-total
returns-clause-total c =
    let old = c.root.new.arena.spec in
    let r = c.in_ok-next.next in
    let y : StreamItem = record { name = c.in_ok-name.name; ty = c.ty-ty.result; init = c.of.result; expr = r.expr; at = r.at } in
    on_ok_weaker c.add.result (λ e. ap item_total e ∙ (let p = length-append old.streams (y ∷ []) in let q = ap item_total c.root.ensures.others in omega (arith, p, q))) c.add.ensures.ok

pub returns-clause-adds : goal.returns-clause-adds
returns-clause-adds c = λ names s n at h.
    let old = c.args.arena.now in
    let mid = c.root.new.arena in
    let new = c.add.new.self in
    let x = c.args.name.now in
    let ty = c.args.ty.now in
    let r = c.in_ok-next.next in
    let y : StreamItem = record { name = c.in_ok-name.name; ty = c.ty-ty.result; init = c.of.result; expr = r.expr; at = r.at } in
    let ty_is = c.ty-ty.ensures names s n (judge_form s.before ty) h (c.written.ensures names s n h) in
    let words_are : c.of.result ≡ flat_map const_words c.args.init.now = c.of.ensures ∙ c.in_ok-constants.ensures ∙ ap (λ ws. ws ++ flat_map const_words c.args.init.now) c.new-words.ensures.items in
    let is : y ≡ stream_with x.name (ty_in n (judge_form s.before ty)) (flat_map const_words c.args.init.now) r.expr r.at =
    ap₂ (λ a t. stream_with a t c.of.result r.expr r.at) c.in_ok-name.ensures ty_is ∙ ap (λ ws. stream_with x.name (ty_in n (judge_form s.before ty)) ws r.expr r.at) words_are in
    on_ok_weaker c.add.result
    (λ e. let whole : new ≡ with_item (record old.spec { nodes = mid.spec.nodes }) (item.Stream y) = e ∙ ap (λ v. with_item v (item.Stream y)) c.root.ensures.others in
    adds_one n s old mid (record mid { spec = new }) (r ∷ []) (d.Stream at x ty c.args.init.now c.args.e.now) (c.in_ok-next.ensures.made names s n h) (ap (λ (v : SpecValue). v.nodes) whole) refl (ap (λ (v : SpecValue). v.libs) whole)
    (λ f q. stream_joined n s old.spec new mid.spec.nodes (length old.forms.items) at x ty c.args.init.now c.args.e.now r y whole is f q))
    c.add.ensures.ok
