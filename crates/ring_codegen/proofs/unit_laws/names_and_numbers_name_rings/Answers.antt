use Rattle.ring_codegen.proofs.UnitNames.{name_named, number_named}
use Rattle.ring_codegen.proofs.unit_laws.names_and_numbers_name_rings.Goals as goal

pub returns-clause-name : goal.returns-clause-name
returns-clause-name c = name_named

pub returns-clause-number : goal.returns-clause-number
returns-clause-number c = number_named
