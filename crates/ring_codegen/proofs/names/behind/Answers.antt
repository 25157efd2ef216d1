use Rattle.std.proofs.Common.{◌≡◌, ◌<◌, length, refl, ◌∙◌, arith}
use Rattle.ring_codegen.proofs.names.behind.Goals as goal

pub chain-init : goal.chain-init
chain-init c = (c.requires.there, refl, omega arith)

pub named_by-requires-clause-there : goal.named_by-requires-clause-there
named_by-requires-clause-there c = c.chain.invariant.0

pub chain-preserved : goal.chain-preserved
chain-preserved c =
    let a = c.in-Some.ensures.smaller in
    let b = c.chain.invariant.2 in
    (c.in-Some.ensures.there, c.in-Some.ensures.same ∙ c.chain.invariant.1, omega (arith, a, b))

pub chain-smaller : goal.chain-smaller
chain-smaller c = omega (arith, c.in-Some.ensures.smaller)

pub returns-in-None : goal.returns-in-None
returns-in-None c = record { there = c.chain.invariant.0; no_def = c.in-None.ensures.none; same = c.chain.invariant.1; smaller = c.chain.invariant.2 }
