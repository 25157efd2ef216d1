use Rattle.std.proofs.Common.{◌≡◌, ◌<◌, length, get_or, Some, ap, sym, ◌∙◌, subst, arith}
use Rattle.std.specs.Prelude.{slice_get, IfSome}
use Rattle.std.proofs.lemmas.Option.{slice_get-get_or}
use Rattle.stream_core.specs.Ordered.{DefsThere}
use Rattle.stream_core.specs.Term.{build, closed, closed_def, def, tree}
use Rattle.stream_interp.specs.Reading.{IsNoDef}
use Rattle.stream_interp.proofs.NamedNodes.{def_behind, no_def_of}
use Rattle.stream_interp.proofs.names.named_by.Goals as goal

pub bounds-defs-d : goal.bounds-defs-d
bounds-defs-d c =
    let s = c.args.spec.now in
    let g : c.in-Def.d < length s.defs = subst (DefsThere s.defs) c.in-Def.is (c.node.ensures.defs c.requires.founded) in
    omega (arith, g, ap length c.defs.ensures)

pub returns-in-Def : goal.returns-in-Def
returns-in-Def c =
    let s = c.args.spec.now in
    let d = c.in-Def.d in
    let x = get_or c.defs.result.now d c.index-defs-d.result in
    let g : d < length s.defs = subst (DefsThere s.defs) c.in-Def.is (c.node.ensures.defs c.requires.founded) in
    let e : slice_get s.defs d ≡ Some x = ap (λ xs. slice_get xs d) (sym c.defs.ensures) ∙ slice_get-get_or c.defs.result.now d c.index-defs-d.result (omega (arith, g, ap length c.defs.ensures)) in
    let h = def_behind s c.requires.typed c.args.id d x e (c.requires.founded.exprs d x e)
    (c.node.ensures.closed c.requires.founded ∙ ap (build s.libs (closed_def s) (closed s)) c.in-Def.is)
    (c.node.ensures.tree c.requires.founded.ordered ∙ ap (build s.libs def (tree s.nodes s.libs)) c.in-Def.is) in
    record { none = tt; some = h.0; smaller = h.1 }

pub returns-in_default-clause-none : goal.returns-in_default-clause-none
returns-in_default-clause-none c = subst (λ o. IfSome o IsNoDef) (sym c.node.ensures.node) (no_def_of c.node.result.now c.in_default.not-Def)
