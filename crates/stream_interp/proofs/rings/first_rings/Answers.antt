use Rattle.std.proofs.Common.{◌≡◌, length, sym, ap, ◌∙◌, subst, arith}
use Rattle.std.specs.Prelude.{IfOk}
use Rattle.ring_bank.specs.RingRows.{rings_of, words_of}
use Rattle.stream_interp.specs.Buffers.{first_words}
use Rattle.stream_interp.proofs.FirstRows.{few_words, first_rings_are, words_fit}
use Rattle.stream_interp.proofs.rings.first_rings.Goals as goal

pub new-requires-clause-words : goal.new-requires-clause-words
new-requires-clause-words c =
    let s = c.args.spec.now in
    let e : c.deref-2.result.now ≡ first_words s.streams = c.deref-2.ensures.value ∙ c.in_ok-words.ensures in
    ap length e ∙ words_fit s c.requires c.in_ok-shapes.shapes.items c.in_ok-shapes.ensures ∙ ap words_of (sym c.deref.ensures.value)

pub new-requires-clause-few : goal.new-requires-clause-few
new-requires-clause-few c =
    let s = c.args.spec.now in
    let e : c.deref-2.result.now ≡ first_words s.streams = c.deref-2.ensures.value ∙ c.in_ok-words.ensures in
    omega (arith, ap length e, few_words s c.requires)

pub returns : goal.returns
returns c =
    let s = c.args.spec.now in
    let e : c.deref-2.result.now ≡ first_words s.streams = c.deref-2.ensures.value ∙ c.in_ok-words.ensures in
    subst (λ v. IfOk c.new.result (λ rings. rings ≡ v))
    (ap (λ ss. rings_of ss c.deref-2.result.now) c.deref.ensures.value ∙ ap (rings_of c.in_ok-shapes.shapes.items) e ∙ first_rings_are s c.requires c.in_ok-shapes.shapes.items c.in_ok-shapes.ensures) c.new.ensures
