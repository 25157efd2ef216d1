use Rattle.std.proofs.Common.{◌≡◌, min, length, map, Some, refl, ◌∙◌, sym, ap, subst, arith}
use Rattle.std.specs.Prelude.{slice_get, IfSome}
use Rattle.std.proofs.lemmas.Option.{slice_get_read}
use Rattle.stream_core.specs.declared.spec.LibItem.{LibItem}
use Rattle.stream_core.specs.Ordered.{args_of}
use Rattle.stream_core.specs.Weights.{heavy, heaviest_buffer}
use Rattle.stream_core.specs.KnownWeights.{AreKnown}
use Rattle.stream_core.proofs.GoodNodes.{good_item}
use Rattle.stream_core.proofs.spec.Spec.heaviest_buffer_by.Goals as goal

pub heaviest_of-requires-clause-good : goal.heaviest_of-requires-clause-good
heaviest_of-requires-clause-good c =
    let s = c.args.self.now in
    let k = c.args.k in
    let x = c.index-libs-k.result in
    let e : slice_get s.libs k ≡ Some x = ap (λ xs. slice_get xs k) (sym c.libs.ensures) ∙ slice_get_read c.libs.result.now (length c.libs.result.now) k x refl (omega (arith, c.requires.there, ap length c.libs.ensures)) c.index-libs-k.is in
    good_item s c.requires.typed k x e

pub heaviest_of-requires-clause-known : goal.heaviest_of-requires-clause-known
heaviest_of-requires-clause-known c =
    let s = c.args.self.now in
    let k = c.args.k in
    let x = c.index-libs-k.result in
    let e : slice_get s.libs k ≡ Some x = ap (λ xs. slice_get xs k) (sym c.libs.ensures) ∙ slice_get_read c.libs.result.now (length c.libs.result.now) k x refl (omega (arith, c.requires.there, ap length c.libs.ensures)) c.index-libs-k.is in
    subst (λ o. AreKnown s c.args.weights.now (args_of o)) e c.requires.known

pub returns : goal.returns
returns c =
    let s = c.args.self.now in
    let k = c.args.k in
    let x = c.index-libs-k.result in
    let e : slice_get s.libs k ≡ Some x = ap (λ xs. slice_get xs k) (sym c.libs.ensures) ∙ slice_get_read c.libs.result.now (length c.libs.result.now) k x refl (omega (arith, c.requires.there, ap length c.libs.ensures)) c.index-libs-k.is in
    subst (λ o. IfSome o (λ (y : LibItem). c.heaviest_of.result ≡ min (heaviest_buffer y.form (map (heavy s) y.args)) 262145)) (sym e) c.heaviest_of.ensures
