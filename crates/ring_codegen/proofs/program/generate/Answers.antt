use Rattle.std.proofs.Common.{◌≡◌, ◌≤◌, sym, ap, ◌∙◌, subst}
use Rattle.std.specs.Prelude.{IsTrue}
use Rattle.stream_core.specs.Value.{SpecValue}
use Rattle.stream_core.specs.Meaning.{closed_spec}
use Rattle.stream_lib.specs.PlainSpecs.{IsSoundPlain}
use Rattle.c99_tree.specs.declared.unit.Unit.{Unit as CUnit}
use Rattle.c99_tree.specs.Storage.{storage_of}
use Rattle.c99_tree.specs.Weight.{unit_weight_of}
use Rattle.c99_tree.specs.WellFormed.{IsWellFormed, types_come_first}
use Rattle.ring_codegen.specs.Simulation.{Simulates}
use Rattle.ring_codegen.specs.Translation.{translation, with_totals}
use Rattle.ring_codegen.proofs.SoundUnits.{light, simulates, storage_small, types_first, well_formed}
use Rattle.ring_codegen.proofs.program.generate.Goals as goal

pub with_totals-requires : goal.with_totals-requires
with_totals-requires c =
    let s = c.spec.result.now in
    let name = c.args.name.now in
    let sound = c.spec.ensures.plain in
    let is = sym c.in_ok-unit.ensures in
    record {
      types = subst (λ (u : CUnit). IsTrue (types_come_first u)) is (types_first s name c.requires.named sound);
      storage = subst (λ (u : CUnit). storage_of u ≤ 2147483647) is (storage_small s name c.requires.named sound);
      weight = subst (λ (u : CUnit). unit_weight_of u ≤ 2147483647) is (light s name c.requires.named sound);
    }

pub returns : goal.returns
returns c =
    let s = c.args.plain.now in
    let name = c.args.name.now in
    let sound = subst IsSoundPlain c.spec.ensures.spec c.spec.ensures.plain in
    let is : c.with_totals.result ≡ translation (closed_spec s) name = c.with_totals.ensures ∙ ap with_totals c.in_ok-unit.ensures ∙ ap (λ (v : SpecValue). translation (closed_spec v) name) c.spec.ensures.spec in
    record {
      unit = is;
      formed = subst IsWellFormed (sym is) (well_formed s name c.requires.named sound);
      simulates = subst (Simulates s name) (sym is) (simulates s name c.requires.named sound);
    }
