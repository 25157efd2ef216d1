use Rattle.std.proofs.Common.{◌≡◌, ◌<◌, ℕ, ◌+◌, List, [], ◌∷◌, ◌++◌, length, refl, sym, ap, ◌∙◌, arith, append_assoc, append-nil, length-append}
use Rattle.std.specs.Vec.Iter.{into_iter_items}
use Rattle.stream_core.specs.declared.spec.LibItem.{LibItem}
use Rattle.stream_core.specs.declared.spec.Item.TheVariants as item
use Rattle.stream_core.specs.Stored.{with_item}
use Rattle.stream_core.specs.Value.{SpecValue}
use Rattle.typed_spec.proofs.reading.with_forms.Goals as goal

nothing_left : (xs : List LibItem) → length xs ≡ 0 → xs ≡ []
nothing_left [] h = refl
nothing_left (x ∷ xs) h = absurd (omega (arith, h))

abbrev with_libs : SpecValue → List LibItem → SpecValue
with_libs s forms = record s { libs = forms }

-- there is room for the next form
room : (xs ys rest all : List LibItem) (x : LibItem) (n m : ℕ) → xs ++ ys ≡ all → ys ≡ x ∷ rest → n + length all < 4294967296 → m ≡ n + length xs → m < 4294967295
room xs ys rest all x n m e f l g =
    let a = ap length e in
    let b = ap length f in
    let c = length-append xs ys in
    omega (arith, a, b, c, l, g)

pub add-requires : goal.add-requires
add-requires c =
    let l = c.loop-form in
    let old = c.args.spec.now.libs in
    let count = ap (λ (s : SpecValue). length s.libs) l.invariant.1 ∙ length-append old l.yielded in
    let all = l.invariant.0 ∙ c.into_iter-form-iterator.ensures.into_iter_gives.0 in
    room l.yielded (into_iter_items l.form-iterator) (into_iter_items c.next.new.self) c.args.forms.items c.in-Some.form (length old) (length l.spec.libs) all c.in-Some.ensures.steps.0 c.requires count

pub loop-form-init : goal.loop-form-init
loop-form-init c = (refl, ap (with_libs c.args.spec.now) (sym (append-nil c.args.spec.now.libs)), let g = c.into_iter-form-iterator.ensures.into_iter_gives in g.1 ∙ c.args.forms.ok.0 ∙ ap length (sym g.0))

pub loop-form-preserved : goal.loop-form-preserved
loop-form-preserved c =
    let l = c.loop-form in
    let x = c.in-Some.form in
    let old = c.args.spec.now in
    let steps : into_iter_items l.form-iterator ≡ x ∷ into_iter_items c.next.new.self = c.in-Some.ensures.steps.0 in (
      append_assoc l.yielded (x ∷ []) _ ∙ rw (← steps) l.invariant.0,
      c.in_ok-add.ensures.ok ∙ ap (λ (s : SpecValue). with_item s (item.Lib x)) l.invariant.1 ∙ ap (with_libs old) (append_assoc old.libs l.yielded (x ∷ [])),
      let was = l.invariant.2 in
          let gone = c.in-Some.ensures.steps.1 in
          let short = ap length steps in
          omega (arith, was, gone, short),
    )

pub returns : goal.returns
returns c =
    let l = c.loop-form in
    let none = c.in-None.ensures.steps in
    let empty : into_iter_items l.form-iterator ≡ [] = nothing_left _ (sym l.invariant.2 ∙ none.0) in
    let all = sym (append-nil l.yielded) ∙ rw empty at l.invariant.0 ∙ c.into_iter-form-iterator.ensures.into_iter_gives.0 in
    l.invariant.1 ∙ ap (λ forms. with_libs c.args.spec.now (c.args.spec.now.libs ++ forms)) all
