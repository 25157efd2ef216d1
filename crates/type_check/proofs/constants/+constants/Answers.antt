use Rattle.std.proofs.Common.{◌≡◌, ◌+◌, take, arith, List, [], map, refl, sym, ap, ◌∙◌, subst}
use Rattle.std.specs.Prelude.{Option, Some, None}
use Rattle.std.specs.Option.{option_map}
use Rattle.std.specs.Global.{Vec}
use Rattle.std.proofs.lemmas.Bool.Decides.{nat_tests}
use Rattle.std.proofs.lemmas.Result.{err_from_is_err_and}
use Rattle.spec_text.specs.declared.surface.ConstForm.TheOpen.{ConstForm-F}
use Rattle.spec_text.specs.FoldRows.{const-Lit, const-Array, const-Record}
use Rattle.type_check.specs.declared.known.Known.{Known}
use Rattle.type_check.specs.NamedType.{scalar, struct_in}
use Rattle.type_check.specs.Judged.{Judged, has, types_of, on_items, on_record, judge_const, const_step}
use Rattle.type_check.specs.Standing.{Gives, AreParts, AllMean, all_known, is_type}
use Rattle.type_check.proofs.Nodes.{parts_none, taken_parts, whole_parts, failed_part, all_are, none_all, parts_typed, parts_untyped, typed_none}
use Rattle.type_check.proofs.Members.{items_words}
use Rattle.type_check.proofs.constants.+constants.Goals as goal

pub constant-returns-in-Lit : goal.constant-returns-in-Lit
unfolding judge_const
constant-returns-in-Lit t c = λ names s h.
    let n = c.args.scope.now.closed in
    let o = c.args.order.now in
    let e : const_step s (ConstForm-F.Lit c.in-Lit.at c.in-Lit.scalar c.in-Lit.word) ≡ judge_const s c.args.form.now = rw (c.in-Lit.is, const-Lit) in
    subst (λ (x : Judged). Gives names n o c.node.new.order x c.node.result) e (c.node.ensures names o [] (has (scalar c.in-Lit.scalar)) h.distinct (typed_none names n o) (is_type (record { is = refl })))

pub constant-returns-in-Array : goal.constant-returns-in-Array
unfolding judge_const
constant-returns-in-Array t c = λ names s h.
    let n = c.args.scope.now.closed in
    let o = c.args.order.now in
    let e : const_step s (ConstForm-F.Array c.in-Array.at (map (judge_const s) c.as_slice.result.now)) ≡ judge_const s c.args.form.now = rw (c.as_slice.ensures, c.in-Array.is, const-Array) in
    subst (λ (x : Judged). Gives names n o c.array_constant.new.order x c.array_constant.result) e (c.array_constant.ensures names s h)

pub constant-returns-in-Record : goal.constant-returns-in-Record
unfolding judge_const
constant-returns-in-Record t c = λ names s h.
    let n = c.args.scope.now.closed in
    let o = c.args.order.now in
    let e : const_step s (ConstForm-F.Record c.in-Record.at c.in-Record.name (map (judge_const s) c.as_slice-in-Record.result.now)) ≡ judge_const s c.args.form.now = rw (c.as_slice-in-Record.ensures, c.in-Record.is, const-Record) in
    subst (λ (x : Judged). Gives names n o c.record_constant.new.order x c.record_constant.result) e (c.record_constant.ensures names s h)

pub array_constant-returns : goal.array_constant-returns
array_constant-returns t c = λ names s h.
    let q = c.in_ok-parts.ensures names s h in
    let z : all_known c.in_ok-parts.parts.items ≡ None = ap all_known (sym c.as_slice.ensures.value) ∙ sym c.in_ok-types.ensures.all ∙ ap (option_map (λ (v : Vec Known). v.items)) c.in-None.is in
    parts_untyped _ q (none_all c.in_ok-parts.parts.items z)

pub array_constant-returns-in-Some : goal.array_constant-returns-in-Some
array_constant-returns-in-Some t c = λ names s h.
    let ks = c.in_ok-parts.parts.items in
    let js = c.in-Some.types.items in
    let ps = map (judge_const s) c.args.items.now in
    let q = c.in_ok-parts.ensures names s h in
    let z : all_known ks ≡ Some js = ap all_known (sym c.as_slice.ensures.value) ∙ sym c.in_ok-types.ensures.all ∙ ap (option_map (λ (v : Vec Known). v.items)) c.in-Some.is in
    let w = all_are names ps ks js q.types_are z in
    let m : AllMean names c.as_slice-in-Some.result.now (types_of ps) = subst (λ (ls : List Known). AllMean names ls (types_of ps)) (sym c.as_slice-in-Some.ensures.value) w.mean in
    c.node.ensures names c.args.order.now ps (on_items s.all c.args.at (types_of ps)) h.distinct (parts_typed q w.all) (c.on_items.ensures names s.all (types_of ps) h.distinct m (items_words names s c.args.scope.now.structs.all.items h.structs_are c.as_slice-in-Some.result.now (types_of ps) m))

pub record_constant-returns : goal.record_constant-returns
record_constant-returns t c = λ names s h.
    let q = c.in_ok-parts.ensures names s h in
    let z : all_known c.in_ok-parts.parts.items ≡ None = ap all_known (sym c.as_slice.ensures.value) ∙ sym c.in_ok-types.ensures.all ∙ ap (option_map (λ (v : Vec Known). v.items)) c.in-None.is in
    parts_untyped _ q (none_all c.in_ok-parts.parts.items z)

pub record_constant-returns-in-Some : goal.record_constant-returns-in-Some
record_constant-returns-in-Some t c = λ names s h.
    let ks = c.in_ok-parts.parts.items in
    let js = c.in-Some.types.items in
    let ps = map (judge_const s) c.args.items.now in
    let q = c.in_ok-parts.ensures names s h in
    let z : all_known ks ≡ Some js = ap all_known (sym c.as_slice.ensures.value) ∙ sym c.in_ok-types.ensures.all ∙ ap (option_map (λ (v : Vec Known). v.items)) c.in-Some.is in
    let w = all_are names ps ks js q.types_are z in
    let m : AllMean names c.as_slice-in-Some.result.now (types_of ps) = subst (λ (ls : List Known). AllMean names ls (types_of ps)) (sym c.as_slice-in-Some.ensures.value) w.mean in
    c.node.ensures names c.args.order.now ps (on_record (struct_in s.before c.args.name.now.name) c.args.at c.args.name.now (types_of ps)) h.distinct (parts_typed q w.all) (c.record_of.ensures names s.before (types_of ps) h.distinct h.behind m)

pub constants-loop-form-init : goal.constants-loop-form-init
constants-loop-form-init t c = λ names s h.
    let n = c.args.scope.now.closed in
    let o = c.args.order.now in
    subst (λ (ks : List (Option Known)). AreParts names n o o [] ks) (sym c.new-parts.ensures.items) (parts_none names n o)

pub constants-loop-form-preserved : goal.constants-loop-form-preserved
constants-loop-form-preserved t c = λ names s h.
    let n = c.args.scope.now.closed in
    let o = c.args.order.now in
    let all = c.args.forms.now in
    let i = c.loop-form.form-index in
    subst (λ (ks : List (Option Known)). AreParts names n o c.constant.new.order (map (judge_const s) (take (i + 1) all)) ks) (sym c.in_ok-push.ensures.items)
    (taken_parts (judge_const s) names n o c.loop-form.order c.constant.new.order all i _ _ c.loop-form.parts.items c.in_ok-ty.ty c.loop-form-test.true c.form-item.is (c.loop-form.invariant names s h) (c.in_ok-ty.ensures names s h))

pub constants-returns : goal.constants-returns
constants-returns t c = λ names s h.
    let i = c.loop-form.form-index in
    whole_parts (judge_const s) names c.args.scope.now.closed c.args.order.now c.loop-form.order c.args.forms.now i c.loop-form.parts.items (grind (arith, nat_tests, c.loop-form-test.false)) (c.loop-form.invariant names s h)

pub constants-returns-in_err-ty : goal.constants-returns-in_err-ty
constants-returns-in_err-ty t c = λ names s h.
    let p = err_from_is_err_and c.from_residual.result c.from_residual.ensures.1 in
    let n = c.args.scope.now.closed in
    let o = c.args.order.now in
    rw p.1 (rw p.2 (failed_part (judge_const s) names n o c.loop-form.order c.constant.new.order c.args.forms.now c.loop-form.form-index _ _ c.loop-form.parts.items c.in_err-ty.field-0.0 c.loop-form-test.true c.form-item.is (c.loop-form.invariant names s h) (c.in_err-ty.ensures names s h)))
