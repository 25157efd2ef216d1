use Rattle.std.proofs.Common.{◌≡◌, suc, ◌∷◌, sym, ap, ◌∙◌, arith}
use Rattle.std.specs.Prelude.{Some, nat_lt, length, slice_get, if◌then◌else◌}
use Rattle.std.proofs.lemmas.Result.{err_from_is_err_and}
use Rattle.spec_text.specs.declared.surface.Decl.TheVariants as decl
use Rattle.type_check.specs.declared.fault.TypeFault.TheVariants.{TypeTooWide}
use Rattle.type_check.specs.NamedType.{struct, most_words}
use Rattle.type_check.specs.Judged.{Verdict, has, lacks, judged}
use Rattle.type_check.specs.Untyped.{judge_fields, struct_width}
use Rattle.type_check.specs.Table.{struct_names}
use Rattle.type_check.proofs.Nodes.{parts_typed, judged_fault}
use Rattle.type_check.proofs.Tables.{next_name}
use Rattle.type_check.proofs.Walking.{between_first, parts_pass, width_is, wide_told, struct_passed}
use Rattle.type_check.proofs.walk.next_struct.Goals as goal

pub returns-in_err-fields-clause-gives : goal.returns-in_err-fields-clause-gives
returns-in_err-fields-clause-gives c = λ names all before rest x b.
    let scope = c.args.scope.now in
    let n = scope.closed in
    let o = c.args.order.now in
    let ms = c.args.members.now in
    let ps = judge_fields before ms in
    let v : Verdict = if nat_lt most_words (struct_width before ms) then lacks (TypeTooWide c.args.at) else has (struct x.name) in
    let p = err_from_is_err_and c.from_residual.result c.from_residual.ensures.1 in
    rw p.1 (rw p.2 (parts_pass (Unit {0}) names n n o c.fields.new.order o c.fields.new.order ps (judged ps v) (decl.Struct c.args.at x ms) c.in_err-fields.field-0.0
    (λ y h. judged_fault ps v y h) (c.in_err-fields.ensures.gives names before b.distinct (between_first names before (decl.Struct c.args.at x ms ∷ rest) scope b))))

pub returns-then-is_too_wide-clause-gives : goal.returns-then-is_too_wide-clause-gives
returns-then-is_too_wide-clause-gives c = λ names all before rest x b.
    let scope = c.args.scope.now in
    let ms = c.args.members.now in
    let ps = judge_fields before ms in
    let w = sym (width_is names before c.args.at x ms rest scope b) ∙ sym c.is_too_wide.ensures ∙ c.if-is_too_wide.true in
    let p = c.in_ok-fields.ensures.gives names before b.distinct (between_first names before (decl.Struct c.args.at x ms ∷ rest) scope b) in
    wide_told names scope.closed c.args.order.now c.fields.new.order ps (nat_lt most_words (struct_width before ms)) x.name (TypeTooWide c.args.at) (parts_typed p c.in_ok-fields.ensures.all) w

pub returns-clause-gives : goal.returns-clause-gives
returns-clause-gives c = λ names all before rest x b.
    let scope = c.args.scope.now in
    let ms = c.args.members.now in
    let ps = judge_fields before ms in
    let w = sym (width_is names before c.args.at x ms rest scope b) ∙ sym c.is_too_wide.ensures ∙ c.if-is_too_wide.false in
    let p = c.in_ok-fields.ensures.gives names before b.distinct (between_first names before (decl.Struct c.args.at x ms ∷ rest) scope b) in
    let here : slice_get names scope.closed ≡ Some x.name = ap (slice_get names) b.ended ∙ ap (λ ns. slice_get ns (length (struct_names before))) b.names_are ∙ next_name before c.args.at x ms rest in
    let next : c.in-Some.next ≡ suc scope.closed = omega (arith, c.in-Some.ensures) in
    struct_passed names scope.closed c.in-Some.next c.args.order.now c.fields.new.order c.close.new.self ps (nat_lt most_words (struct_width before ms)) c.args.at x ms (TypeTooWide c.args.at) (parts_typed p c.in_ok-fields.ensures.all) w next
    (c.in_ok-close.ensures.ends names x.name b.distinct here)
