use Rattle.std.proofs.Common.{◌≡◌, [], ◌∷◌, length, length-append, refl, ap, ap₂, ◌∙◌, arith}
use Rattle.std.proofs.lemmas.Result.{on_ok_weaker}
use Rattle.stream_core.specs.declared.spec.ExternItem.{ExternItem}
use Rattle.stream_core.specs.Value.{SpecValue}
use Rattle.spec_text.specs.declared.surface.Decl.TheVariants as d
use Rattle.type_check.specs.Judged.{judge_form}
use Rattle.typed_text.specs.ReadSpec.{ty_in}
use Rattle.typed_spec.specs.Added.{item_total}
use Rattle.typed_spec.proofs.Joining.{roots_none}
use Rattle.typed_spec.proofs.AddedItems.{adds_one, extern_with, extern_joined}
use Rattle.typed_spec.proofs.declarations.extern_item.Goals as goal

pub add-requires : goal.add-requires
add-requires c = let r = c.requires.room in omega (arith, r)

pub returns-clause-adds : goal.returns-clause-adds
returns-clause-adds c = λ names s n at h.
    let old = c.args.arena.now in
    let new = c.add.new.self in
    let x = c.args.name.now in
    let ty = c.args.ty.now in
    let y : ExternItem = record { name = c.in_ok-name.name; ty = c.ty-ty.result } in
    let ty_is = c.ty-ty.ensures names s n (judge_form s.before ty) h (c.written.ensures names s n h) in
    let is : y ≡ extern_with x.name (ty_in n (judge_form s.before ty)) = ap₂ extern_with c.in_ok-name.ensures ty_is in
    on_ok_weaker c.add.result
    (λ e. adds_one n s old old (record old { spec = new }) [] (d.Extern at x ty) (roots_none n s old) (ap (λ (v : SpecValue). v.nodes) e) refl (ap (λ (v : SpecValue). v.libs) e)
    (λ f q. extern_joined n s old.spec new (length old.forms.items) at x ty y e is f))
    c.add.ensures.ok

pub returns-clause-total : goal.returns-clause-total
returns-clause-total c =
    let old = c.args.arena.now.spec in
    let y : ExternItem = record { name = c.in_ok-name.name; ty = c.ty-ty.result } in
    on_ok_weaker c.add.result (λ e. ap item_total e ∙ (let p = length-append old.externs (y ∷ []) in omega (arith, p))) c.add.ensures.ok
