use Rattle.std.proofs.Common.{◌≡◌, ◌+◌, ◌*◌, ◌-◌, ◌<◌, true, [], drop}
use Rattle.std.specs.Prelude.{is_some}
use Rattle.c99_tree.specs.Words.{elem_type}
use Rattle.c99_tree.specs.Values.{shape_within, shapes_of_fields}
use Rattle.c99_read.specs.Front.{after_all}
use Rattle.c99_read.specs.WordsAt.{all_shaped, times_shaped}
use Rattle.c99_read.proofs.values.+reading_values.Given as goal

abbrev pub decreases-value_words : goal.decreases-value_words
decreases-value_words l = 8 * l.depth + 4

abbrev pub decreases-array_words : goal.decreases-array_words
decreases-array_words l = 8 * l.depth + 3

abbrev pub decreases-elements_words : goal.decreases-elements_words
decreases-elements_words l = 8 * l.depth + 2

abbrev pub decreases-element_words : goal.decreases-element_words
decreases-element_words l = 8 * l.depth + 1

abbrev pub decreases-struct_words : goal.decreases-struct_words
decreases-struct_words l = 8 * l.depth

abbrev pub decreases-braced_words : goal.decreases-braced_words
decreases-braced_words l = 8 * l.depth + 6

abbrev pub decreases-fields_words : goal.decreases-fields_words
decreases-fields_words l = 8 * l.depth + 5

abbrev pub invariant-fields_words-loop-field : goal.invariant-fields_words-loop-field
invariant-fields_words-loop-field l =
    after_all l.fn.given (all_shaped l.most (shapes_of_fields (shape_within l.depth l.types) l.fields) [] l.bytes)
    ≡ after_all l.all (all_shaped l.most (shapes_of_fields (shape_within l.depth l.types) (drop l.field-index l.fields)) l.before l.rest)

abbrev pub invariant-elements_words-loop-i : goal.invariant-elements_words-loop-i
invariant-elements_words-loop-i l = record {
  same : after_all l.fn.given (times_shaped l.most l.n (shape_within l.depth l.types (elem_type l.x)) [] l.bytes)
      ≡ after_all l.all (times_shaped l.most (l.n - l.i) (shape_within l.depth l.types (elem_type l.x)) l.before l.rest);
  shaped : 0 < l.i → is_some (shape_within l.depth l.types (elem_type l.x)) ≡ true;
}
