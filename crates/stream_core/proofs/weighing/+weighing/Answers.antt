use Rattle.std.proofs.Common.{◌≡◌, ⊎_elim, ◌<◌, ◌≤◌, min, length, slice_get, get_or, nat_lt, ℕ, ◌+◌, true, false, List, Some, None, ◌∙◌, refl, sym, ap, subst, arith}
use Rattle.std.proofs.lemmas.Bool.Decides.{nat_tests}
use Rattle.std.proofs.lemmas.Option.{slice_get_read, slice_get_past, slice_get-get_or}
use Rattle.std.specs.List.{AllByRecursion}
use Rattle.stream_core.specs.Parts.{parts}
use Rattle.stream_core.specs.Weights.{heavy, heavy_at, lib_weight, node_weight}
use Rattle.stream_core.specs.declared.node.Node.TheVariants as node
use Rattle.stream_core.specs.Term.{expr_at}
use Rattle.stream_core.proofs.NodeSizes.{node_size, all_sizes, heavy_is, size_is, size_at, all_at, parts_there, def_size, lib_size, array_size}
use Rattle.stream_core.proofs.Capped.{agreed_capped, majority_capped}
use Rattle.stream_core.proofs.GoodNodes.{good_node, good_item}
use Rattle.stream_core.proofs.weighing.+weighing.Goals as goal

pub weigh-weigh_node-requires : goal.weigh-weigh_node-requires
weigh-weigh_node-requires t c =
    let s = c.args.spec.now in
    let w = c.requires.founded in
    (omega (arith, size_is s c.args.id c.node.result.now (c.node.ensures.closed w)), (w, (c.requires.typed, (good_node s c.requires.typed c.args.id c.node.result.now c.node.ensures.node, (parts_there s c.args.id c.node.result.now c.requires.there (c.node.ensures.below w), (omega arith, c.requires.small))))))

pub weigh-returns : goal.weigh-returns
weigh-returns t c = c.weigh_node.ensures ∙ ap (λ x. min x c.args.most) (sym (heavy_is c.args.spec.now c.args.id c.node.result.now (c.node.ensures.closed c.requires.founded)))

found : (is : List ℕ) (at x : ℕ) → true ≡ nat_lt at (length is) → x ≡ get_or is at x → slice_get is at ≡ Some x
found is at x b e = let h : at < length is = grind (arith, nat_tests) in slice_get_read is (length is) at x refl h e

past : (is : List ℕ) (at : ℕ) → false ≡ nat_lt at (length is) → slice_get is at ≡ None
past is at b = let h : length is ≤ at = grind (arith, nat_tests) in slice_get_past is at h

pub weigh_at-weigh-requires : goal.weigh_at-weigh-requires
weigh_at-weigh-requires t c =
    let s = c.args.spec.now in
    let e = found c.args.ids.now c.args.at c.in-Some.id.now c.in-Some.ensures.lookup.0 c.in-Some.ensures.lookup.1 in
    (omega (arith, size_at s c.args.ids.now c.args.at c.in-Some.id.now e), (c.requires.founded, (c.requires.typed, (all_at (λ j. j < length s.nodes) c.args.ids.now c.args.at c.in-Some.id.now c.requires.there e, c.requires.small))))

pub weigh_at-returns-in-Some : goal.weigh_at-returns-in-Some
weigh_at-returns-in-Some t c =
    let s = c.args.spec.now in
    let e = found c.args.ids.now c.args.at c.in-Some.id.now c.in-Some.ensures.lookup.0 c.in-Some.ensures.lookup.1 in
    c.weigh.ensures ∙ ap (λ o. min (heavy_at s o) c.args.most) (sym e)

pub weigh_at-returns-in-None : goal.weigh_at-returns-in-None
weigh_at-returns-in-None t c =
    let s = c.args.spec.now in
    let e = past c.args.ids.now c.args.at c.in-None.ensures.lookup.0 in
    let none : 0 ≡ min (heavy_at s None) c.args.most = omega arith in
    none ∙ ap (λ o. min (heavy_at s o) c.args.most) (sym e)

pub weigh_agreed-returns : goal.weigh_agreed-returns
weigh_agreed-returns t c = c.min.ensures ∙ ap (λ x. min x c.args.most) c.agreed_weight.ensures ∙ agreed_capped c.args.spec.now c.args.votes.now c.args.most c.weigh_all-all.result c.requires.one c.requires.some c.weigh_all-all.ensures

pub weigh_majority-returns : goal.weigh_majority-returns
weigh_majority-returns t c = c.min.ensures ∙ ap (λ x. min x c.args.most) c.majority_weight.ensures ∙ majority_capped c.args.spec.now c.args.votes.now c.args.most c.weigh_at-first.result c.weigh_all-others.result c.requires.one c.weigh_at-first.ensures c.weigh_all-others.ensures c.requires.some

-- def d is there
pub weigh_node-weigh-requires : goal.weigh_node-weigh-requires
weigh_node-weigh-requires t c =
    let s = c.args.spec.now in
    let d = c.in-Def.d in
    let x = get_or c.defs.result.now d c.index-defs-d.result in
    let g : d < length s.defs = rw c.in-Def.is at c.requires.good in
    let e : slice_get s.defs d ≡ Some x = ap (λ xs. slice_get xs d) (sym c.defs.ensures) ∙ slice_get-get_or c.defs.result.now d c.index-defs-d.result (omega (arith, g, ap length c.defs.ensures)) in
    let z = ap (node_size s) c.in-Def.is ∙ def_size s d x e in
    (omega (arith, z), (c.requires.founded, (c.requires.typed, (c.requires.founded.exprs d x e, omega arith))))

pub weigh_node-returns-in-Def : goal.weigh_node-returns-in-Def
weigh_node-returns-in-Def t c =
    let s = c.args.spec.now in
    let d = c.in-Def.d in
    let x = get_or c.defs.result.now d c.index-defs-d.result in
    let g : d < length s.defs = rw c.in-Def.is at c.requires.good in
    let e : slice_get s.defs d ≡ Some x = ap (λ xs. slice_get xs d) (sym c.defs.ensures) ∙ slice_get-get_or c.defs.result.now d c.index-defs-d.result (omega (arith, g, ap length c.defs.ensures)) in
    c.weigh.ensures ∙ ap (λ o. min (heavy s (expr_at o)) c.args.most) (sym e) ∙ ap (λ n. min (node_weight s n) c.args.most) (sym c.in-Def.is)

pub weigh_node-weigh_majority-requires : goal.weigh_node-weigh_majority-requires
weigh_node-weigh_majority-requires t c =
    let s = c.args.spec.now in
    let es = c.in-Majority.es in
    let e = c.as_slice.ensures in
    let z = ap (node_size s) c.in-Majority.is ∙ array_size s (node.Majority c.in-Majority.field-0 es) es refl in
    let y = ap (all_sizes s) e in
    let g = rw c.in-Majority.is at c.requires.good in
    let p = rw c.in-Majority.is at c.requires.parts in
    let l = ap length e in
    (omega (arith, z, y), (c.requires.founded, (c.requires.typed, (subst (AllByRecursion (λ j. j < length s.nodes)) (sym e) p, (omega (arith, g.1, l), (omega (arith, g.0, l), (c.requires.some, c.requires.small)))))))

pub weigh_node-weigh_agreed-requires : goal.weigh_node-weigh_agreed-requires
weigh_node-weigh_agreed-requires t c =
    let s = c.args.spec.now in
    let es = c.in-Agreed.es in
    let e = c.as_slice-in-Agreed.ensures in
    let z = ap (node_size s) c.in-Agreed.is ∙ array_size s (node.Agreed c.in-Agreed.field-0 es) es refl in
    let y = ap (all_sizes s) e in
    let g = rw c.in-Agreed.is at c.requires.good in
    let p = rw c.in-Agreed.is at c.requires.parts in
    let l = ap length e in
    (omega (arith, z, y), (c.requires.founded, (c.requires.typed, (subst (AllByRecursion (λ j. j < length s.nodes)) (sym e) p, (omega (arith, g.1, l), (omega (arith, g.0, l), (c.requires.some, c.requires.small)))))))

pub weigh_node-weigh_form-requires : goal.weigh_node-weigh_form-requires
weigh_node-weigh_form-requires t c =
    let s = c.args.spec.now in
    let k = c.in-Lib.k in
    let x = c.index-libs-k.result in
    let g : k < length s.libs = rw c.in-Lib.is at c.requires.good in
    let e : slice_get s.libs k ≡ Some x = ap (λ xs. slice_get xs k) (sym c.libs.ensures) ∙ slice_get_read c.libs.result.now (length c.libs.result.now) k x refl (omega (arith, g, ap length c.libs.ensures)) c.index-libs-k.is in
    let z = ap (node_size s) c.in-Lib.is ∙ lib_size s k x e in
    (omega (arith, z), (c.requires.founded, (c.requires.typed, (good_item s c.requires.typed k x e, c.requires.small))))

pub weigh_node-returns-in-Lib : goal.weigh_node-returns-in-Lib
weigh_node-returns-in-Lib t c =
    let s = c.args.spec.now in
    let k = c.in-Lib.k in
    let x = c.index-libs-k.result in
    let g : k < length s.libs = rw c.in-Lib.is at c.requires.good in
    let e : slice_get s.libs k ≡ Some x = ap (λ xs. slice_get xs k) (sym c.libs.ensures) ∙ slice_get_read c.libs.result.now (length c.libs.result.now) k x refl (omega (arith, g, ap length c.libs.ensures)) c.index-libs-k.is in
    c.weigh_form.ensures ∙ ap (λ o. min (lib_weight s o) c.args.most) (sym e) ∙ ap (λ n. min (node_weight s n) c.args.most) (sym c.in-Lib.is)

pub weigh_node-weigh_all-requires-in-Array : goal.weigh_node-weigh_all-requires-in-Array
weigh_node-weigh_all-requires-in-Array t c =
    let s = c.args.spec.now in
    let es = c.in-Array.es in
    let e = c.as_slice-in-Array.ensures in
    let z : node_size s c.args.node.now ≡ 1 + all_sizes s es = ⊎_elim (λ h. ap (node_size s) h.1 ∙ array_size s (node.Array h.0 es) es refl) (λ h. ap (node_size s) h.1 ∙ array_size s (node.Record h.0 es) es refl) c.in-Array.is in
    let y = ap (all_sizes s) e in
    let p : AllByRecursion (λ j. j < length s.nodes) es = ⊎_elim (λ h. subst (λ n. AllByRecursion (λ j. j < length s.nodes) (parts n)) h.1 c.requires.parts) (λ h. subst (λ n. AllByRecursion (λ j. j < length s.nodes) (parts n)) h.1 c.requires.parts) c.in-Array.is in
    (omega (arith, z, y), (c.requires.founded, (c.requires.typed, (subst (AllByRecursion (λ j. j < length s.nodes)) (sym e) p, omega arith))))
