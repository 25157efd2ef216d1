-- The worked specifications have the worked programs as translations.
use Rattle.std.proofs.Common.{◌≡◌, codes}
use Rattle.c99_tree.specs.declared.unit.Unit.{Unit as CUnit}
use Rattle.c99_tree.specs.Storage.{storage_of}
use Rattle.c99_tree.specs.Weight.{unit_weight_of}
use Rattle.c99_tree.specs.Programs.{heater, empty, door, counter, pair, square, least, constants, picker}
use Rattle.c99_tree.proofs.WorkedPrograms.{heater-works, empty-works, door-works, counter-works, pair-works, square-works, least-works, constants-works, picker-works}
use Rattle.ring_codegen.specs.Translation.{with_totals, translation}
use Rattle.ring_codegen.specs.TranslationRows as spec

-- a program whose header has its storage and weight
pub totals-stand : (unit : CUnit) → storage_of unit ≡ unit.storage → unit_weight_of unit ≡ unit.need → with_totals unit ≡ unit
totals-stand unit storage weight = λ j. record unit { storage = storage j; need = weight j }

pub heater-is : translation spec.heater (codes "heater") ≡ heater
unfolding heater
heater-is = totals-stand heater heater-works.storage_is heater-works.weight_is

pub empty-is : translation spec.empty (codes "a") ≡ empty
unfolding empty
empty-is = totals-stand empty empty-works.storage_is empty-works.weight_is

pub door-is : translation spec.door (codes "door") ≡ door
unfolding door
door-is = totals-stand door door-works.storage_is door-works.weight_is

pub counter-is : translation spec.counter (codes "c") ≡ counter
unfolding counter
counter-is = totals-stand counter counter-works.storage_is counter-works.weight_is

pub pair-is : translation spec.pair (codes "pair") ≡ pair
unfolding pair
pair-is = totals-stand pair pair-works.storage_is pair-works.weight_is

pub square-is : translation spec.square (codes "w") ≡ square
unfolding square
square-is = totals-stand square square-works.storage_is square-works.weight_is

pub least-is : translation spec.least (codes "m") ≡ least
unfolding least
least-is = totals-stand least least-works.storage_is least-works.weight_is

pub constants-is : translation spec.constants (codes "n") ≡ constants
unfolding constants
constants-is = totals-stand constants constants-works.storage_is constants-works.weight_is

pub picker-is : translation spec.picker (codes "g") ≡ picker
unfolding picker
picker-is = totals-stand picker picker-works.storage_is picker-works.weight_is
