use Rattle.std.proofs.Common.{subst}
use Rattle.type_check.specs.Standing.{IsVerdict}
use Rattle.typed_spec.proofs.TypedRows.{told_type, told_none}
use Rattle.typed_spec.proofs.types.told.Goals as goal

pub returns-in-Ok : goal.returns-in-Ok
returns-in-Ok c = λ names ps v h i. told_type names ps v c.in-Ok.ty h (subst (IsVerdict names v) c.in-Ok.is i)

pub returns-in-Err : goal.returns-in-Err
returns-in-Err c = λ names ps v h i. told_none names ps v c.in-Err.field-0 h (subst (IsVerdict names v) c.in-Err.is i)
