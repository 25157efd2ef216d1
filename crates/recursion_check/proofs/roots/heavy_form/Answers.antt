use Rattle.std.proofs.Common.{◌≡◌, ◌+◌, ◌<◌, ◌≤◌, min, suc, true, false, length, map, drop, Some, refl, ◌∙◌, sym, ap, subst, arith}
use Rattle.std.specs.Prelude.{slice_get, nat_lt, if◌then◌else◌, IfSome}
use Rattle.std.proofs.lemmas.Bool.Decides.{nat_tests}
use Rattle.std.proofs.lemmas.Option.{slice_get_read}
use Rattle.stream_core.specs.declared.spec.LibItem.{LibItem}
use Rattle.stream_core.specs.Weights.{heavy, heaviest_buffer}
use Rattle.recursion_check.specs.Loads.{first_form}
use Rattle.recursion_check.proofs.FormsKnown.{args_known}
use Rattle.recursion_check.proofs.ListElements.{drop_get}
use Rattle.recursion_check.proofs.roots.heavy_form.Goals as goal

pub heaviest_buffer_by-requires-clause-known : goal.heaviest_buffer_by-requires-clause-known
heaviest_buffer_by-requires-clause-known c = args_known c.args.spec.now c.requires.typed c.args.weights.now c.requires.weights c.loop-k.k (omega (arith, c.loop-k-test.true, ap length c.libs-libs.ensures))

pub returns-then-heaviest_buffer_by-gt-MOST : goal.returns-then-heaviest_buffer_by-gt-MOST
returns-then-heaviest_buffer_by-gt-MOST c =
    let s = c.args.spec.now in
    let k = c.loop-k.k in
    let x = c.index-libs-k.result in
    let e : slice_get s.libs k ≡ Some x = ap (λ xs. slice_get xs k) (sym c.libs-libs.ensures) ∙ slice_get_read c.libs-libs.result.now (length c.libs-libs.result.now) k x refl c.loop-k-test.true c.index-libs-k.is in
    let w : c.heaviest_buffer_by.result ≡ min (heaviest_buffer x.form (map (heavy s) x.args)) 262145 = subst (λ o. IfSome o (λ (y : LibItem). c.heaviest_buffer_by.result ≡ min (heaviest_buffer y.form (map (heavy s) y.args)) 262145)) e c.heaviest_buffer_by.ensures in
    let big : 2048 < heaviest_buffer x.form (map (heavy s) x.args) = omega (arith, w, c.if-heaviest_buffer_by-gt-MOST.true) in
    let t : nat_lt 2048 (heaviest_buffer x.form (map (heavy s) x.args)) ≡ true = grind (arith, nat_tests) in
    sym (sym c.loop-k.invariant ∙ ap (first_form s) (drop_get k s.libs x e) ∙ ap (λ b. if b then Some x.at else first_form s (drop (suc k) s.libs)) t)

pub loop-k-preserved : goal.loop-k-preserved
loop-k-preserved c =
    let s = c.args.spec.now in
    let k = c.loop-k.k in
    let x = c.index-libs-k.result in
    let e : slice_get s.libs k ≡ Some x = ap (λ xs. slice_get xs k) (sym c.libs-libs.ensures) ∙ slice_get_read c.libs-libs.result.now (length c.libs-libs.result.now) k x refl c.loop-k-test.true c.index-libs-k.is in
    let w : c.heaviest_buffer_by.result ≡ min (heaviest_buffer x.form (map (heavy s) x.args)) 262145 = subst (λ o. IfSome o (λ (y : LibItem). c.heaviest_buffer_by.result ≡ min (heaviest_buffer y.form (map (heavy s) y.args)) 262145)) e c.heaviest_buffer_by.ensures in
    let small : heaviest_buffer x.form (map (heavy s) x.args) ≤ 2048 = omega (arith, w, c.if-heaviest_buffer_by-gt-MOST.false) in
    let t : nat_lt 2048 (heaviest_buffer x.form (map (heavy s) x.args)) ≡ false = grind (arith, nat_tests) in
    ap (λ n. first_form s (drop n s.libs)) (let q : k + 1 ≡ suc k = omega arith in q) ∙ sym (sym c.loop-k.invariant ∙ ap (first_form s) (drop_get k s.libs x e) ∙ ap (λ b. if b then Some x.at else first_form s (drop (suc k) s.libs)) t)
