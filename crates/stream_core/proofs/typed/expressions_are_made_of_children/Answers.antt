use Rattle.std.specs.Prelude.{IsTrue}
use Rattle.stream_core.proofs.ByChildren.{by_children, of_parts, in_parts}
use Rattle.stream_core.proofs.typed.expressions_are_made_of_children.Goals as goal

pub returns-clause-induction : goal.returns-clause-induction
returns-clause-induction c = λ test step e. by_children (λ a. IsTrue (test a)) step e

pub returns-clause-parts : goal.returns-clause-parts
returns-clause-parts c = λ test e. (of_parts (λ a. IsTrue (test a)) e, λ h. in_parts (λ a. IsTrue (test a)) e h.0 h.1)
