use Rattle.std.proofs.Common.{◌+◌, List, [], take, refl, sym, ap, ◌∙◌, subst, arith}
use Rattle.std.proofs.lemmas.List.{take_all}
use Rattle.std.proofs.lemmas.Bool.Decides.{nat_tests}
use Rattle.spec_text.specs.declared.surface.Expr.{Expr}
use Rattle.stream_core.specs.declared.spec.Root.{Root}
use Rattle.stream_core.specs.Value.{SpecValue}
use Rattle.typed_spec.specs.Added.{MakesRoots}
use Rattle.typed_spec.proofs.Joining.{roots_none, roots_next}
use Rattle.typed_spec.proofs.declarations.roots.Goals as goal

pub loop-e-init : goal.loop-e-init
loop-e-init c =
    let a = c.args.arena.now in
    (refl, λ names s n h. subst (λ (rs : List Root). MakesRoots n s a a rs []) (sym c.new-roots.ensures.items) (roots_none n s a))

pub loop-e-preserved : goal.loop-e-preserved
loop-e-preserved c =
    let l = c.loop-e in
    let new = c.root.new.arena in
    let r = c.in_ok-next.next in
    let call = c.in_ok-next.ensures in
    let xs = c.args.all.now in (
      call.others ∙ ap (λ (x : SpecValue). record x { nodes = new.spec.nodes }) l.invariant.0,
      λ names s n h. subst (λ (rs : List Root). MakesRoots n s c.args.arena.now new rs (take (l.e-index + 1) xs)) (sym c.in_ok-push.ensures.items)
          (roots_next xs l.e-index r c.e-item.result _ c.loop-e-test.true c.e-item.is (l.invariant.1 names s n h) (call.made names s n h)),
    )

pub returns-clause-made : goal.returns-clause-made
returns-clause-made c = λ names s n h.
    let l = c.loop-e in
    subst (λ (es : List Expr). MakesRoots n s c.args.arena.now l.arena l.roots.items es) (take_all l.e-index c.args.all.now (grind (arith, nat_tests, c.loop-e-test.false))) (l.invariant.1 names s n h)
