use Rattle.std.proofs.Common.{◌≡◌, ◌+◌, ◌*◌, take}
use Rattle.std.specs.List.{sum_by}
use Rattle.c_exec.specs.Layout.{width_within}
use Rattle.c_exec.proofs.layout.+measuring.Given as goal

abbrev pub decreases-width_within : goal.decreases-width_within
decreases-width_within l = 4 * l.depth

abbrev pub decreases-width_of_element : goal.decreases-width_of_element
decreases-width_of_element l = 4 * l.inner + 3

abbrev pub decreases-width_of_struct : goal.decreases-width_of_struct
decreases-width_of_struct l = 4 * l.inner + 2

abbrev pub decreases-width_of_fields : goal.decreases-width_of_fields
decreases-width_of_fields l = 4 * l.inner + 1

abbrev pub invariant-width_of_fields-loop-field : goal.invariant-width_of_fields-loop-field
invariant-width_of_fields-loop-field l = l.total ≡ sum_by (λ v. width_within l.inner l.types v.ty) (take l.field-index l.fields)
