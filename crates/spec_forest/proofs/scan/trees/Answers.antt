use Rattle.std.proofs.Common.{ℕ, List, sym, subst, arith}
use Rattle.spec_forest.specs.Tokens.{Token}
use Rattle.spec_forest.specs.Scanning.{IsScanned, held}
use Rattle.spec_forest.proofs.ScanSteps.{scanned-start}
use Rattle.spec_forest.proofs.Faults.{too-long}
use Rattle.spec_forest.proofs.Answered.{Answered, finished-at}
use Rattle.spec_forest.proofs.scan.trees.Goals as goal

pub returns-then-text-gt-LONGEST_TEXT-clause-fault : goal.returns-then-text-gt-LONGEST_TEXT-clause-fault
returns-then-text-gt-LONGEST_TEXT-clause-fault c = too-long c.args.text.now c.if-text-gt-LONGEST_TEXT.true

pub loop-at-init : goal.loop-at-init
loop-at-init c =
    let P : ℕ → Type 0 = λ d. IsScanned c.args.text.now 0 d (held c.new-scanner.result) in
    let Q : List Token → Type 0 = λ ts. IsScanned c.args.text.now 0 0 ts in (
      c.if-text-gt-LONGEST_TEXT.false,
      omega (arith, c.new-scanner.ensures.levels),
      subst P (sym c.new-scanner.ensures.levels) (subst Q (sym c.new-scanner.ensures.held) (scanned-start c.args.text.now)),
    )

answered : (c : goal.After-finish) → Answered c.args.text.now c.finish.result
answered c = finished-at c.args.text.now c.loop-at.at c.loop-at.scanner c.finish.result c.loop-at-test.false c.loop-at.invariant.2 c.loop-at.invariant.0 c.finish.ensures

pub returns-clause-fault : goal.returns-clause-fault
returns-clause-fault c = (answered c).fault

pub returns-clause-forest : goal.returns-clause-forest
returns-clause-forest c = (answered c).forest

pub returns-clause-nesting : goal.returns-clause-nesting
returns-clause-nesting c = (answered c).nesting

pub returns-clause-lists : goal.returns-clause-lists
returns-clause-lists c = (answered c).lists

pub returns-clause-items : goal.returns-clause-items
returns-clause-items c = (answered c).items

pub returns-clause-places : goal.returns-clause-places
returns-clause-places c = (answered c).places
