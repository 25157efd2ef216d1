use Rattle.std.proofs.Common.{sym, subst}
use Rattle.std.specs.Prelude.{Option, Some, None}
use Rattle.type_check.specs.NamedType.{NamedType}
use Rattle.type_check.specs.Judged.{judge_form}
use Rattle.type_check.specs.Standing.{MeansOption, both_none, both_some, GivesForm}
use Rattle.typed_spec.proofs.text.Text.written.Goals as goal

pub returns-in-Ok : goal.returns-in-Ok
returns-in-Ok c = λ names s n h.
    let j = judge_form s.before c.args.ty.now in
    let w = (subst (λ r. GivesForm names c.args.self.now.scope.structs.all.items s.before j r) c.in-Ok.is (c.form.ensures names s.before h.scope.behind)).0 in
    subst (λ (o : Option NamedType). MeansOption names (Some c.in-Ok.ty) o) (sym w.ty_is) (both_some w.means)

pub returns-in-Err : goal.returns-in-Err
returns-in-Err c = λ names s n h.
    let j = judge_form s.before c.args.ty.now in
    let w = subst (λ r. GivesForm names c.args.self.now.scope.structs.all.items s.before j r) c.in-Err.is (c.form.ensures names s.before h.scope.behind) in
    subst (λ (o : Option NamedType). MeansOption names None o) (sym w.1) both_none
