use Rattle.std.proofs.Common.{refl}
use Rattle.stream_core.specs.declared.spec.Root.{Root}
use Rattle.typed_text.specs.ReadSpec.{read_expr}
use Rattle.typed_spec.proofs.Lists.{type_made}
use Rattle.typed_spec.proofs.Joining.{root_made}
use Rattle.typed_spec.proofs.declarations.root.Goals as goal

pub returns-clause-made : goal.returns-clause-made
returns-clause-made c = λ names s n h.
    let o = c.in_ok-value.value in
    let r : Root = record { expr = o.id; ty = c.ty.result; at = c.place.result } in
    let m = c.in_ok-value.ensures.made names s n h in
    root_made n s o r c.args.e.now m refl (c.ty.ensures names s n (read_expr n s c.args.e.now).judged h (type_made m)) c.place.ensures
