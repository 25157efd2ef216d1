use Rattle.std.proofs.Common.{ℕ, ◌+◌, sym, ap, ◌∙◌, subst}
use Rattle.migration.specs.Migration.{IsMigrated, old_indices}
use Rattle.migration.proofs.NewRuns.{runs_alike}
use Rattle.migration.proofs.NewRules.{new_types_first, new_formed}
use Rattle.migration.proofs.Totals.{migrated, storage_fits, weight_fits, storage_told}
use Rattle.migration.proofs.program.renewed_program.Goals as goal

pub with_totals-requires : goal.with_totals-requires
with_totals-requires c =
    let u = c.args.unit.now in
    let name = c.args.name.now in
    let is = c.in_ok-renewed.ensures in
    record {
      types = new_types_first u _ name is c.requires.formed c.requires.used;
      storage = storage_fits u _ name is c.requires.formed;
      weight = weight_fits u _ name is c.requires.formed;
    }

pub returns : goal.returns
returns c =
    let u = c.args.unit.now in
    let name = c.args.name.now in
    let v = c.with_totals.result in
    let is : IsMigrated u name v = subst (IsMigrated u name) (sym c.with_totals.ensures) (migrated u _ name c.in_ok-renewed.ensures) in
    record {
      unit = is;
      formed = new_formed u v name is c.requires.formed c.requires.named c.requires.used;
      runs = runs_alike u v name is.renewed c.requires.formed c.requires.used;
      storage = ap (λ (n : ℕ). n + old_indices u) is.storage ∙ storage_told u v name is.renewed c.requires.formed;
    }
