use Rattle.std.proofs.Common.{List, sym, subst}
use Rattle.std.proofs.lemmas.Result.{err_from_is_err_and}
use Rattle.type_check.specs.declared.known.Known.{Known}
use Rattle.type_check.specs.Listed.{IsSomeOrder, IsOrderOf}
use Rattle.type_check.proofs.TypeLists.{listable}
use Rattle.type_check.proofs.Texts.{text_order, some_order, text_refused, listed_told}
use Rattle.type_check.proofs.checked.check_types.Goals as goal

pub list-requires : goal.list-requires
list-requires c =
    let s = c.args.surface.now in
    let t = c.in_ok-text.ensures in
    subst (λ (ks : List Known). IsSomeOrder c.in_ok-text.text.scope.structs.all.items ks) (sym c.as_slice.ensures) (some_order s c.in_ok-text.text t (listable s c.requires.kept c.requires.items t.faultless))

pub returns-in_err-text : goal.returns-in_err-text
returns-in_err-text c =
    let p = err_from_is_err_and c.from_residual.result c.from_residual.ensures.1 in
    rw p.1 (rw p.2 (text_refused c.args.surface.now c.in_err-text.field-0.0 c.in_err-text.ensures))

pub returns : goal.returns
returns c =
    let s = c.args.surface.now in
    let t = c.in_ok-text.ensures in
    let o = text_order s c.in_ok-text.text t (listable s c.requires.kept c.requires.items t.faultless) in
    listed_told s c.in_ok-text.text c.list.result t
    (c.list.ensures.ok s (subst (λ (ks : List Known). IsOrderOf s c.in_ok-text.text.scope.structs.all.items ks) (sym c.as_slice.ensures) o))
    c.list.ensures.err
