use Rattle.std.proofs.Common.{◌≡◌, ◌++◌, length}
use Rattle.std.specs.Vec.Iter.{into_iter_items, into_iter_len}
use Rattle.typed_spec.proofs.reading.with_forms.Given as goal

abbrev pub invariant-loop-form : goal.invariant-loop-form
invariant-loop-form l =
    (l.yielded ++ into_iter_items l.form-iterator ≡ into_iter_items l.initial.form-iterator)
    × (l.spec ≡ record l.fn.spec { libs = l.fn.spec.libs ++ l.yielded })
    × (into_iter_len l.form-iterator ≡ length (into_iter_items l.form-iterator))
