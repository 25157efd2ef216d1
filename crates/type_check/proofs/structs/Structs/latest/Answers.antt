use Rattle.std.proofs.Common.{ℕ, sym, ◌∙◌, subst}
use Rattle.std.specs.Prelude.{Option, Some, None}
use Rattle.type_check.specs.NamedType.{NamedType}
use Rattle.type_check.specs.Standing.{MeansOption, both_none, both_some, AreFirst}
use Rattle.type_check.proofs.Tables.{table_first}
use Rattle.type_check.proofs.structs.Structs.latest.Goals as goal

pub returns-in-Ok : goal.returns-in-Ok
returns-in-Ok c = λ names ds h.
    let f = subst (λ (n : ℕ). AreFirst names ds c.args.self.now n) (sym (c.len.ensures ∙ c.args.self.now.all.ok.0)) (table_first names ds c.args.self.now h) in
    let g = c.in-Ok.ensures names ds f in
    subst (λ (o : Option NamedType). MeansOption names (Some c.in-Ok.ty) o) (sym g.0.ty_is) (both_some g.0.means)

pub returns-in-Err : goal.returns-in-Err
returns-in-Err c = λ names ds h.
    let f = subst (λ (n : ℕ). AreFirst names ds c.args.self.now n) (sym (c.len.ensures ∙ c.args.self.now.all.ok.0)) (table_first names ds c.args.self.now h) in
    let g = c.in-Err.ensures names ds f in
    subst (λ (o : Option NamedType). MeansOption names None o) (sym g.1) both_none
