use Rattle.std.proofs.Common.{◌≡◌, ◌++◌, ◌∷◌, ◌+◌, ◌*◌, map, take, replicate}
use Rattle.stream_types.specs.declared.types.Field.{Field}
use Rattle.extern_rows.specs.declared.event.Piece.TheVariants.{Open, Comma}
use Rattle.extern_rows.specs.ValueTexts.{parted, pieces_of}
use Rattle.extern_rows.proofs.LeafNames.{rank}
use Rattle.extern_rows.proofs.shape.+pieces.Given as goal

abbrev pub decreases-push_elements : goal.decreases-push_elements
decreases-push_elements l = l.place * 2 + 1

abbrev pub decreases-push_members : goal.decreases-push_members
decreases-push_members l = l.place * 2 + 1

abbrev pub decreases-push_value : goal.decreases-push_value
decreases-push_value l = rank l.ty

abbrev pub invariant-push_elements-loop-k : goal.invariant-push_elements-loop-k
invariant-push_elements-loop-k l = l.out.items ≡ l.fn.out.items ++ Open 91 ∷ parted Comma (replicate l.k (pieces_of l.types l.elem))

abbrev pub invariant-push_members-loop-number : goal.invariant-push_members-loop-number
invariant-push_members-loop-number l = l.out.items ≡ l.fn.out.items ++ Open 123 ∷ parted Comma (map (λ (f : Field). pieces_of l.types f.ty) (take l.number l.field-items))
