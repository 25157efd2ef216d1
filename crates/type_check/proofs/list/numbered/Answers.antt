use Rattle.std.proofs.Common.{◌≡◌, ◌<◌, ◌+◌, ℕ, length, get_or, refl, sym, ◌∙◌, subst, arith}
use Rattle.stream_types.specs.declared.scalar.Scalar.TheVariants as s_
use Rattle.type_check.specs.declared.known.Known.TheVariants as known
use Rattle.type_check.specs.declared.known.Element.TheVariants as element
use Rattle.type_check.proofs.Numbering.{AreFirstNumbers, no_numbers, number_more, number_same, numbers_whole}
use Rattle.type_check.proofs.list.numbered.Goals.{then-not-contains_key+in_ok-insert, else-not-contains_key}
use Rattle.type_check.proofs.list.numbered.Goals as goal

pub loop-i-init : goal.loop-i-init
loop-i-init c = no_numbers c.args.placed.now c.new-by_type.result.entries c.new-by_type.ensures.empty

pub loop-i-preserved : goal.loop-i-preserved
loop-i-preserved c =
    let placed = c.args.placed.now in
    let i = c.loop-i.i in
    let out = known.Element (element.Scalar s_.Bool) in
    let t = get_or placed i out in
    let count : c.in-Ok.count ≡ length placed = c.in-Ok.ensures.1 in
    let low : i < length placed = omega (arith, c.loop-i-test.true, count) in
    let old = c.loop-i.by_type.entries in
    elim c.if-not-contains_key.branch [
      | then-not-contains_key+in_ok-insert w ↦ subst (λ m. AreFirstNumbers placed (i + 1) m.entries) (sym w.by_type-is)
          (number_more placed i t out old w.insert.new.self.entries low refl c.loop-i.invariant (sym c.contains_key.ensures ∙ w.if-not-contains_key.true) (λ q. w.in_ok-insert.ensures.updates.0 q))
      | else-not-contains_key w ↦ subst (λ m. AreFirstNumbers placed (i + 1) m.entries) (sym w.by_type-is)
          (number_same placed i t out old low refl c.loop-i.invariant (sym c.contains_key.ensures ∙ w.if-not-contains_key.false))
    ]

pub returns-clause-ok : goal.returns-clause-ok
returns-clause-ok c =
    let placed = c.args.placed.now in
    let count : c.in-Ok.count ≡ length placed = c.in-Ok.ensures.1 in
    let last : c.loop-i.i ≡ c.in-Ok.count = omega (arith, c.loop-i-test.false, c.loop-i.auto.i-end) in
    numbers_whole placed c.in-Ok.count c.loop-i.by_type.entries count (subst (λ (n : ℕ). AreFirstNumbers placed n c.loop-i.by_type.entries) last c.loop-i.invariant)
