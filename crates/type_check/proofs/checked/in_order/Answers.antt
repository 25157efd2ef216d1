use Rattle.std.proofs.Common.{◌≡◌, List, [], sym, ap, ◌∙◌, subst}
use Rattle.std.specs.Prelude.{Err}
use Rattle.std.proofs.lemmas.Result.{err_from_is_err_and}
use Rattle.spec_text.specs.declared.surface.Decl.{Decl}
use Rattle.type_check.specs.Untyped.{reversed, all_of}
use Rattle.type_check.specs.Table.{struct_names, IsTable, HasItems}
use Rattle.type_check.specs.Walked.{IsBetween, IsOrdered, GivesOrder}
use Rattle.type_check.proofs.Texts.{text_start, text_is, text_stops}
use Rattle.type_check.proofs.checked.in_order.Goals as goal

pub returns-in_err-order : goal.returns-in_err-order
returns-in_err-order c =
    let s = c.args.surface.now in
    let names = struct_names (all_of s) in
    let e = sym c.in_default.is ∙ c.in_ok-at.ensures.ok in
    let same = c.as_slice-decls.ensures in
    let t = c.in_ok-scope.ensures.ok names (ap (λ (xs : List Decl). struct_names (reversed [] xs)) (sym same)) in
    let u = subst (λ (xs : List Decl). IsTable names (reversed [] xs) c.in_ok-scope.scope.structs × HasItems names (reversed [] xs) c.in_ok-scope.scope.items.entries × (c.in_ok-scope.scope.closed ≡ 0)) same t in
    let b = text_start s c.in_ok-scope.scope e u.0 u.1 u.2 in
    let p = err_from_is_err_and c.from_residual-in_err-order.result c.from_residual-in_err-order.ensures.1 in
    rw p.1 (rw p.2 (text_stops s names c.in_err-order.field-0.0 e
    (subst (λ (xs : List Decl). GivesOrder names xs (Err c.in_err-order.field-0.0)) same (c.in_err-order.ensures.gives names (subst (λ (xs : List Decl). IsBetween names [] xs c.in_ok-scope.scope) (sym same) b)))))

pub returns : goal.returns
returns c =
    let s = c.args.surface.now in
    let names = struct_names (all_of s) in
    let e = sym c.in_default.is ∙ c.in_ok-at.ensures.ok in
    let same = c.as_slice-decls.ensures in
    let t = c.in_ok-scope.ensures.ok names (ap (λ (xs : List Decl). struct_names (reversed [] xs)) (sym same)) in
    let u = subst (λ (xs : List Decl). IsTable names (reversed [] xs) c.in_ok-scope.scope.structs × HasItems names (reversed [] xs) c.in_ok-scope.scope.items.entries × (c.in_ok-scope.scope.closed ≡ 0)) same t in
    let b = subst (λ (xs : List Decl). IsBetween names [] xs c.in_ok-scope.scope) (sym same) (text_start s c.in_ok-scope.scope e u.0 u.1 u.2) in
    text_is s (record { scope = c.walked.new.scope; order = c.in_ok-order.order }) e
    (subst (λ (xs : List Decl). IsBetween names (reversed [] xs) [] c.walked.new.scope) same (c.in_ok-order.ensures.keeps names b))
    (subst (λ (xs : List Decl). IsOrdered names xs c.in_ok-order.order) same (c.in_ok-order.ensures.gives names b))
