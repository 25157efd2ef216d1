use Rattle.type_check.proofs.Nodes.{written_typed}
use Rattle.type_check.proofs.Meeting.{meets_plains}
use Rattle.type_check.proofs.scope.Scope.written.Goals as goal

pub returns : goal.returns
returns c = λ names before d h.
    let g = c.in_ok-ty.ensures names before h in
    written_typed names c.args.self.now.closed c.args.order.now c.meet.new.self _ c.in_ok-ty.ty g.0 (meets_plains names c.args.self.now.closed c.args.order.now g.0.inner g.0.plain) (c.in_ok-meet.ensures.grows names g.0.ty d g.0.means)
