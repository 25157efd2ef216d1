use Rattle.std.proofs.Common.{◌≡◌, ◌+◌, ◌*◌, ◌-◌, List, ℕ, Some, drop}
use Rattle.c99_tree.specs.Words.{elem_type}
use Rattle.c99_tree.specs.Values.{Value, Values}
use Rattle.c99_print.specs.Given.{members_in, values_in}
use Rattle.sm_print.specs.Prints.{Prints}
use Rattle.c99_print.proofs.Giving.{MembersLeft, ValuesLeft}
use Rattle.c99_print.proofs.constants.+filling.Given as goal

abbrev pub decreases-constant : goal.decreases-constant
decreases-constant g l = 6 * l.depth + 4

abbrev pub decreases-array : goal.decreases-array
decreases-array g l = 6 * l.depth + 3

abbrev pub decreases-elements : goal.decreases-elements
decreases-elements g l = 6 * l.depth + 2

abbrev pub decreases-element : goal.decreases-element
decreases-element g l = 6 * l.depth + 1

abbrev pub decreases-structure : goal.decreases-structure
decreases-structure g l = 6 * l.depth + 0

abbrev pub decreases-members : goal.decreases-members
decreases-members g l = 6 * l.depth + 5

abbrev pub invariant-members-loop-field : goal.invariant-members-loop-field
invariant-members-loop-field g l = (a : Values × List ℕ) → members_in l.depth l.types l.fields l.given ≡ Some a → (done : List ℕ) × Prints g.K.Sink.taken g.K.Sink.faults l.initial.out done l.out × MembersLeft l.depth l.types (drop l.field-index l.fields) l.left l.before done a

abbrev pub invariant-elements-loop-i : goal.invariant-elements-loop-i
invariant-elements-loop-i g l = (a : List Value × List ℕ) → values_in l.n l.depth l.types (elem_type l.x) l.given ≡ Some a → (done : List ℕ) × Prints g.K.Sink.taken g.K.Sink.faults l.initial.out done l.out × ValuesLeft (l.n - l.i) l.depth l.types (elem_type l.x) l.left l.before done a
