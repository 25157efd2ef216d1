use Rattle.std.proofs.Common.{◌≡◌, ◌<◌, length, get_or, Some, ap, sym, ◌∙◌, subst, arith}
use Rattle.std.specs.Prelude.{slice_get, IfSome}
use Rattle.std.proofs.lemmas.Option.{slice_get-get_or}
use Rattle.stream_core.specs.Ordered.{DefsThere}
use Rattle.stream_core.specs.Term.{build, closed, closed_def}
use Rattle.ring_codegen.specs.Items.{IsNoDef}
use Rattle.ring_codegen.proofs.NamedNodes.{def_same, def_smaller, no_def_of}
use Rattle.ring_codegen.proofs.names.named_by.Goals as goal

pub bounds-defs-d : goal.bounds-defs-d
bounds-defs-d c =
    let s = c.args.spec.now in
    let g : c.in-Def.d < length s.defs = subst (DefsThere s.defs) c.in-Def.is (c.node.ensures.defs c.requires.founded) in
    omega (arith, g, ap length c.defs.ensures)

pub returns-in-Def : goal.returns-in-Def
returns-in-Def c =
    let s = c.args.spec.now in
    let d = c.in-Def.d in
    let x = get_or c.defs.result.now d c.index-defs-d.result in
    let g : d < length s.defs = subst (DefsThere s.defs) c.in-Def.is (c.node.ensures.defs c.requires.founded) in
    let e : slice_get s.defs d ≡ Some x = ap (λ xs. slice_get xs d) (sym c.defs.ensures) ∙ slice_get-get_or c.defs.result.now d c.index-defs-d.result (omega (arith, g, ap length c.defs.ensures)) in
    let is = c.node.ensures.closed c.requires.founded ∙ ap (build s.libs (closed_def s) (closed s)) c.in-Def.is in
    record { none = tt; there = c.requires.founded.exprs d x e; same = def_same s c.args.id d x e is; smaller = def_smaller s c.args.id d x e is }

pub returns-in_default-clause-none : goal.returns-in_default-clause-none
returns-in_default-clause-none c = subst (λ o. IfSome o IsNoDef) (sym c.node.ensures.node) (no_def_of c.node.result.now c.in_default.not-Def)
