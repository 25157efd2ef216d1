use Rattle.std.proofs.Common.{◌≡◌, ◌++◌, [], ◌+◌, ◌-◌, ◌*◌, length, drop}
use Rattle.stream_types.specs.declared.scalar.Ty.TheVariants as ty
use Rattle.extern_rows.specs.Leaves.{under, of_elements, of_members, tails_at, all_tails, leaf_columns}
use Rattle.extern_rows.proofs.LeafNames.{rank}
use Rattle.extern_rows.proofs.leaves.+leaves.Given as goal

abbrev pub decreases-push_elements : goal.decreases-push_elements
decreases-push_elements l = l.place * 2 + 1

abbrev pub decreases-push_members : goal.decreases-push_members
decreases-push_members l = l.place * 2 + 1

abbrev pub decreases-push_value : goal.decreases-push_value
decreases-push_value l = rank l.ty

abbrev pub invariant-push_elements-loop-k : goal.invariant-push_elements-loop-k
invariant-push_elements-loop-k l = (l.name.items ≡ l.fn.name.items) × (l.length ≡ length l.fn.name.items)
    × (l.out.items ++ under l.fn.name.items (of_elements l.k (l.k-end - l.k) (tails_at (all_tails [] l.types) l.elem)) ≡ l.fn.out.items ++ leaf_columns l.types l.fn.name.items (ty.Array l.place))

abbrev pub invariant-push_members-loop-field : goal.invariant-push_members-loop-field
invariant-push_members-loop-field l = (l.name.items ≡ l.fn.name.items) × (l.length ≡ length l.fn.name.items)
    × (l.out.items ++ under l.fn.name.items (of_members (all_tails [] l.types) (drop l.field-index l.field-items)) ≡ l.fn.out.items ++ leaf_columns l.types l.fn.name.items (ty.Struct l.place))
