use Rattle.std.proofs.Common.{◌<◌, ◌≤◌, List, length, refl, sym, subst}
use Rattle.spec_text.specs.declared.surface.Decl.{Decl}
use Rattle.type_check.specs.declared.known.Known.{Known}
use Rattle.type_check.specs.Listed.{AreNumbers}
use Rattle.std.specs.Prelude.{IfOk}
use Rattle.typed_text.specs.ReadSpec.{extern_names, stream_names, def_names}
use Rattle.typed_spec.specs.Texts.{AreNumbered}
use Rattle.typed_spec.proofs.FormCounts.{text_decls}
use Rattle.typed_spec.proofs.TextNames.{few_placed, text_told}
use Rattle.typed_spec.proofs.reading.text_of.Goals as goal

pub numbered-requires : goal.numbered-requires
numbered-requires c = record {
  few =
      subst (λ (ks : List Known). length ks < 4294967295) (sym c.as_slice.ensures)
      (few_placed c.args.surface.now c.in-Ok.text c.requires.kept c.requires.items c.requires.faultless c.in-Ok.ensures);
}

pub of-requires : goal.of-requires
of-requires c = record { few = subst (λ (xs : List Decl). length xs ≤ 524288) (sym c.as_slice-2.ensures) (text_decls c.args.surface.now c.requires.lists) }

pub returns : goal.returns
returns c =
    let s = c.args.surface.now in
    let k = c.requires.kept in
    let i = c.in-Ok.ensures in
    let n = subst (λ (ks : List Known). AreNumbers ks c.in-Ok-numbered.types.by_type.entries c.in-Ok-numbered.types.count) c.as_slice.ensures c.in-Ok-numbered.ensures.ok in
    let m = c.of.ensures in
    let e = c.as_slice-2.ensures in
    text_told s c.in-Ok.text c.in-Ok-numbered.types _ c.of.result k i n refl m.scope m.types
    (subst (λ (xs : List Decl). IfOk c.of.result (λ t. AreNumbered (extern_names xs) t.externs)) e m.externs)
    (subst (λ (xs : List Decl). IfOk c.of.result (λ t. AreNumbered (stream_names xs) t.streams)) e m.streams)
    (subst (λ (xs : List Decl). IfOk c.of.result (λ t. AreNumbered (def_names xs) t.defs)) e m.defs)
