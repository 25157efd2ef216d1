use Rattle.std.proofs.Common.{List, ◌≡◌, map, sym, ap, ◌∙◌, subst}
use Rattle.std.specs.Prelude.{All}
use Rattle.stream_types.specs.declared.types.TypeEntry.{TypeEntry}
use Rattle.stream_types.specs.TypeList.{Stands}
use Rattle.stream_core.specs.declared.spec.ExternItem.{ExternItem}
use Rattle.ring_codegen.specs.CTypes.{c_def, c_extern}
use Rattle.ring_codegen.proofs.ItemTrees.{rings_are}
use Rattle.ring_codegen.proofs.SoundItems.{ring_items}
use Rattle.ring_codegen.proofs.SoundUnits.{all_args_stand}
use Rattle.ring_codegen.proofs.program.without_totals.Goals as goal

pub extern_vars-requires : goal.extern_vars-requires
extern_vars-requires c =
    let s = c.args.spec.now in
    subst (λ (types : List TypeEntry). All (λ (x : ExternItem). Stands types x.ty) c.externs.result.now) (sym c.types-types.ensures)
    (subst (All (λ (x : ExternItem). Stands s.types x.ty)) (sym c.externs.ensures) c.requires.typed.externs)

pub handler_protos-requires-clause-stand : goal.handler_protos-requires-clause-stand
handler_protos-requires-clause-stand c = all_args_stand c.args.spec.now c.requires

pub rings-requires : goal.rings-requires
rings-requires c = ring_items c.args.spec.now c.requires

pub returns : goal.returns
returns c =
    let s = c.args.spec.now in
    let types = c.in_ok-defs.ensures ∙ ap (λ (ts : List TypeEntry). map (c_def ts) ts) c.types-types.ensures in
    let externs = c.in_ok-externs.ensures ∙ ap (λ (ts : List TypeEntry). map (c_extern ts) c.externs.result.now) c.types-types.ensures ∙ ap (map (c_extern s.types)) c.externs.ensures in
    let rings = c.in_ok-rings.ensures ∙ rings_are s in
    λ j. record {
      name = c.in_ok-name.ensures j;
      types = types j;
      storage = 0;
      need = 0;
      externs = externs j;
      handlers = c.in_ok-handlers.ensures j;
      rings = rings j;
      step = c.in_ok-step.ensures j;
    }
