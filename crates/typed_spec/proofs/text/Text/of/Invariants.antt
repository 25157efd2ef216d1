use Rattle.std.proofs.Common.{◌≡◌, ◌≤◌, take}
use Rattle.typed_text.specs.ReadSpec.{extern_names, stream_names, def_names}
use Rattle.typed_spec.specs.Texts.{AreNumbered}
use Rattle.typed_spec.proofs.text.Text.of.Given as goal

abbrev pub invariant-loop-decl : goal.invariant-loop-decl
invariant-loop-decl l =
    (l.text.scope ≡ l.fn.scope)
    × (l.text.types ≡ l.fn.types)
    × AreNumbered (extern_names (take l.decl-index l.decls)) l.text.externs
    × AreNumbered (stream_names (take l.decl-index l.decls)) l.text.streams
    × AreNumbered (def_names (take l.decl-index l.decls)) l.text.defs
    × (l.text.externs.count ≤ l.decl-index)
    × (l.text.streams.count ≤ l.decl-index)
    × (l.text.defs.count ≤ l.decl-index)
