use Rattle.std.proofs.Common.{◌≡◌, ◌+◌, Bool, true, false, not, length, drop, get_or, refl, sym, ap, ◌∙◌, arith}
use Rattle.std.specs.Prelude.{◌&&◌, None}
use Rattle.stream_types.specs.declared.scalar.Scalar.TheVariants as s_
use Rattle.type_check.specs.declared.known.Known.TheVariants as known
use Rattle.type_check.specs.declared.known.Element.TheVariants as element
use Rattle.type_check.specs.contracts.known.KnownPartialEq.TheImpl.{ghosts as known_eq}
use Rattle.std.specs.Option.{option_map_or}
use Rattle.std.proofs.lemmas.Bool.Decides.{nat_tests}
use Rattle.type_check.specs.Standing.{agree_known}
use Rattle.type_check.proofs.Declared.{unequal, agree_from}
use Rattle.type_check.proofs.known.agree.Goals as goal

not_false : (a b : Bool) → a ≡ not b → a ≡ false → b ≡ true
not_false a true e f = refl
not_false a false e f = absurd (cc)

pub returns-then-some-others : goal.returns-then-some-others
returns-then-some-others c = sym (unequal c.args.some.now c.args.others.now (λ e. grind (arith, nat_tests, e, c.if-some-others.true)))

pub loop-i-preserved : goal.loop-i-preserved
loop-i-preserved c =
    let ks = c.args.some.now in
    let js = c.args.others.now in
    let i = c.loop-i.i in
    let e : option_map_or (λ l. known_eq.eq l (get_or js i (known.Element (element.Scalar s_.Bool)))) (get_or ks i None) true ≡ true = not_false c.differs.result _ c.differs.ensures c.if-differs.false in
    let same : length ks ≡ length js = grind (arith, nat_tests, c.if-some-others.false) in
    sym (agree_from ks js i None (known.Element (element.Scalar s_.Bool)) c.loop-i-test.true (omega (arith, c.loop-i-test.true, same)) ∙ ap (λ b. b && agree_known (drop (i + 1) ks) (drop (i + 1) js)) e) ∙ c.loop-i.invariant
