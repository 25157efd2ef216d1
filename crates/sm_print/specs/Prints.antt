-- What a printer does with a text.
use Rattle.std.specs.Prelude.{◌≡◌, ℕ, Bool, true, false, not, List, Option}
use Rattle.sm_io.specs.Written.{WritesText}
use Rattle.sm_print.specs.declared.printer.Printer.{Printer}

-- after a fault nothing; before it all of the text, or a prefix of it and then the fault
abbrev pub GoesBy : Bool → Option (List ℕ) → ℕ → List ℕ → Bool → Option (List ℕ) → ℕ → Type 0
GoesBy true old faults text after new faults' = (after ≡ true) × (new ≡ old) × (faults' ≡ faults)
GoesBy false old faults text after new faults' = WritesText old new faults faults' (not after) text

-- The text went to the printer's sink, by what the sink has taken and how often it failed. The sink is the same.
pub record Prints {K : Type 0} (taken : K → Option (List ℕ)) (faults : K → ℕ) (old : Printer K) (text : List ℕ) (new : Printer K) : Type 0 where
  pub goes : GoesBy old.failed (taken old.sink.now) (faults old.sink.now) text new.failed (taken new.sink.now) (faults new.sink.now)
  pub same : new.sink.ghost_name ≡ old.sink.ghost_name

-- It has printed nothing to this sink.
pub record Starts {K : Type 0} (sink : K) (printer : Printer K) : Type 0 where
  pub now : printer.sink.now ≡ sink
  pub failed : printer.failed ≡ false
