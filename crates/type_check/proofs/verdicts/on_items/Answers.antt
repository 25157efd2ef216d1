use Rattle.std.proofs.Common.{◌≡◌, ◌∷◌, sym, ap, ◌∙◌, true, false}
use Rattle.std.specs.Prelude.{length}
use Rattle.std.specs.List.{list_all, list_any}
use Rattle.type_check.specs.declared.fault.TypeFault.TheVariants.{TypeClash, NestedArray}
use Rattle.type_check.specs.NamedType.{same_type, is_array}
use Rattle.type_check.specs.Judged.{lacks, on_items, on_elements}
use Rattle.type_check.specs.Standing.{is_fault}
use Rattle.type_check.proofs.Reasons.{verdict_is, has_array_means, all_same_means, more_of, none_of, nested, unlike, alike, first_words, lengths}
use Rattle.type_check.proofs.verdicts.on_items.Goals as goal

pub returns-in_default : goal.returns-in_default
returns-in_default c = λ names ds ts d ms w. verdict_is names (lacks (TypeClash c.args.at)) _ _ is_fault (sym (ap (on_items ds c.args.at) (none_of names c.args.items.now ts ms c.in_default.ensures.cases)))

pub returns-then-has_array : goal.returns-then-has_array
returns-then-has_array c = λ names ds ts d ms w.
    let r = more_of names c.args.items.now c.in-Some.others.now c.in-Some.first.now ts ms c.in-Some.ensures.cases.0 in
    let e : list_any is_array (r.first ∷ r.others) ≡ true = ap (list_any is_array) (sym r.is) ∙ has_array_means names c.args.items.now ts ms ∙ sym c.has_array.ensures ∙ c.if-has_array.true in
    verdict_is names (lacks (NestedArray c.args.at)) _ _ is_fault (sym (ap (on_items ds c.args.at) r.is ∙ nested ds c.args.at r.first r.others e))

pub returns-then-not-are_all : goal.returns-then-not-are_all
returns-then-not-are_all c = λ names ds ts d ms w.
    let r = more_of names c.args.items.now c.in-Some.others.now c.in-Some.first.now ts ms c.in-Some.ensures.cases.0 in
    let e : list_any is_array (r.first ∷ r.others) ≡ false = ap (list_any is_array) (sym r.is) ∙ has_array_means names c.args.items.now ts ms ∙ sym c.has_array.ensures ∙ c.if-has_array.false in
    let f : list_all (same_type r.first) r.others ≡ false = all_same_means names d c.in-Some.first.now r.first r.means c.in-Some.others.now r.others r.mean ∙ sym c.are_all.ensures ∙ c.if-not-are_all.true in
    verdict_is names (lacks (TypeClash c.args.at)) _ _ is_fault (sym (ap (on_items ds c.args.at) r.is ∙ unlike ds c.args.at r.first r.others e f))

pub returns : goal.returns
returns c = λ names ds ts d ms w.
    let r = more_of names c.args.items.now c.in-Some.others.now c.in-Some.first.now ts ms c.in-Some.ensures.cases.0 in
    let e : list_any is_array (r.first ∷ r.others) ≡ false = ap (list_any is_array) (sym r.is) ∙ has_array_means names c.args.items.now ts ms ∙ sym c.has_array.ensures ∙ c.if-has_array.false in
    let f : list_all (same_type r.first) r.others ≡ true = all_same_means names d c.in-Some.first.now r.first r.means c.in-Some.others.now r.others r.mean ∙ sym c.are_all.ensures ∙ c.if-not-are_all.false in
    verdict_is names _ _ c.array.result (c.array.ensures names ds r.first r.means (first_words c.args.structs.now.all.items ds c.args.items.now c.in-Some.others.now c.in-Some.first.now ts r.first r.others c.in-Some.ensures.cases.0 r.is w))
    (ap (λ n. on_elements ds c.args.at n r.first) (ap length c.in-Some.ensures.cases.0 ∙ lengths names c.in-Some.first.now c.in-Some.others.now r.others r.mean)
    ∙ sym (ap (on_items ds c.args.at) r.is ∙ alike ds c.args.at r.first r.others e f))
