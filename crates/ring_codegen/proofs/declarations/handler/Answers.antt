use Rattle.std.proofs.Common.{◌≡◌, List, map, sym, ap, ◌∙◌, subst}
use Rattle.std.specs.Prelude.{All}
use Rattle.stream_types.specs.declared.types.TypeEntry.{TypeEntry}
use Rattle.stream_types.specs.TypeList.{Stands}
use Rattle.stream_core.specs.declared.spec.Root.{Root}
use Rattle.ring_codegen.specs.CTypes.{c_type}
use Rattle.ring_codegen.proofs.declarations.handler.Goals as goal

pub parameters-requires : goal.parameters-requires
parameters-requires c =
    subst (λ (types : List TypeEntry). All (λ (r : Root). Stands types r.ty) c.as_slice.result.now) (sym c.types.ensures)
    (subst (All (λ (r : Root). Stands c.args.spec.now.types r.ty)) (sym c.as_slice.ensures) c.requires)

pub returns : goal.returns
returns c =
    let s = c.args.spec.now in
    let params = c.in_ok-params.ensures ∙ ap (λ (types : List TypeEntry). map (λ (r : Root). c_type types r.ty) c.as_slice.result.now) c.types.ensures ∙ ap (map (λ (r : Root). c_type s.types r.ty)) c.as_slice.ensures in
    λ j. record { name = c.in_ok-name.ensures j; params = params j }
