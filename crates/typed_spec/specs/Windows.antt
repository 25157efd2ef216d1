-- The forms of a window of samples.
use Rattle.std.specs.Prelude.{ℕ}
use Rattle.stream_types.specs.declared.scalar.Scalar.{Scalar}
use Rattle.stream_core.specs.declared.node.LibForm.{LibForm}
use Rattle.stream_core.specs.declared.node.LibForm.TheVariants as form
use Rattle.typed_spec.specs.declared.forms.Window.{Window}
use Rattle.typed_spec.specs.declared.forms.Window.TheVariants as window

abbrev pub window_form : Window → ℕ → Scalar → LibForm
window_form window.Max n s = form.WindowMax n s
window_form window.Min n s = form.WindowMin n s
window_form window.Sum n s = form.WindowSum n s
