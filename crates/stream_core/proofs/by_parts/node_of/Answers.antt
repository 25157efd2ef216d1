use Rattle.std.proofs.Common.{◌≡◌, ◌<◌, min, length, Some, refl, ◌∙◌, sym, ap, subst, arith}
use Rattle.std.specs.Prelude.{slice_get}
use Rattle.std.proofs.lemmas.Option.{slice_get_read}
use Rattle.stream_core.specs.Ordered.{args_of}
use Rattle.stream_core.specs.KnownWeights.{AreKnown, made_of}
use Rattle.stream_core.specs.Weights.{lib_weight, node_weight}
use Rattle.stream_core.proofs.GoodNodes.{good_item}
use Rattle.stream_core.proofs.by_parts.node_of.Goals as goal

pub form_of-requires-clause-good : goal.form_of-requires-clause-good
form_of-requires-clause-good c =
    let s = c.args.spec.now in
    let k = c.in-Lib.k in
    let x = c.index-libs-k.result in
    let g : k < length s.libs = rw c.in-Lib.is at c.requires.good in
    let e : slice_get s.libs k ≡ Some x = ap (λ xs. slice_get xs k) (sym c.libs.ensures) ∙ slice_get_read c.libs.result.now (length c.libs.result.now) k x refl (omega (arith, g, ap length c.libs.ensures)) c.index-libs-k.is in
    good_item s c.requires.typed k x e

pub form_of-requires-clause-known : goal.form_of-requires-clause-known
form_of-requires-clause-known c =
    let s = c.args.spec.now in
    let k = c.in-Lib.k in
    let x = c.index-libs-k.result in
    let g : k < length s.libs = rw c.in-Lib.is at c.requires.good in
    let e : slice_get s.libs k ≡ Some x = ap (λ xs. slice_get xs k) (sym c.libs.ensures) ∙ slice_get_read c.libs.result.now (length c.libs.result.now) k x refl (omega (arith, g, ap length c.libs.ensures)) c.index-libs-k.is in
    subst (λ o. AreKnown s c.args.weights.now (args_of o)) e (subst (λ n. AreKnown s c.args.weights.now (made_of s n)) c.in-Lib.is c.requires.known)

pub returns-in-Lib : goal.returns-in-Lib
returns-in-Lib c =
    let s = c.args.spec.now in
    let k = c.in-Lib.k in
    let x = c.index-libs-k.result in
    let g : k < length s.libs = rw c.in-Lib.is at c.requires.good in
    let e : slice_get s.libs k ≡ Some x = ap (λ xs. slice_get xs k) (sym c.libs.ensures) ∙ slice_get_read c.libs.result.now (length c.libs.result.now) k x refl (omega (arith, g, ap length c.libs.ensures)) c.index-libs-k.is in
    c.form_of.ensures ∙ ap (λ o. min (lib_weight s o) 262145) (sym e) ∙ ap (λ n. min (node_weight s n) 262145) (sym c.in-Lib.is)
