use Rattle.std.proofs.Common.{refl}
use Rattle.stream_types.proofs.LeafEntries.{leaves-array, leaves-struct}
use Rattle.stream_types.proofs.laws.leaves_follow_entries.Goals as goal

pub returns-clause-scalar : goal.returns-clause-scalar
returns-clause-scalar c = λ types s. refl

pub returns-clause-array : goal.returns-clause-array
returns-clause-array c = leaves-array

pub returns-clause-members : goal.returns-clause-members
returns-clause-members c = leaves-struct
