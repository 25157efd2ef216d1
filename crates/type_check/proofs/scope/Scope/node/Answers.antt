use Rattle.std.proofs.Common.{subst}
use Rattle.std.specs.Prelude.{Result}
use Rattle.type_check.specs.declared.fault.TypeFault.{TypeFault}
use Rattle.type_check.specs.declared.known.Known.{Known}
use Rattle.type_check.specs.Standing.{IsVerdict}
use Rattle.type_check.proofs.Nodes.{node_typed}
use Rattle.type_check.proofs.scope.Scope.node.Goals as goal

pub returns : goal.returns
returns c = λ names start ps v d p h.
    node_typed names c.args.self.now.closed start c.args.order.now c.meet.new.self ps v c.in_ok-ty.ty p
    (subst (λ (r : Result Known TypeFault). IsVerdict names v r) c.in_ok-ty.was h)
    (λ t m. c.in_ok-meet.ensures.grows names t d m)
