use Rattle.std.proofs.Common.{List, ℕ, sym, subst}
use Rattle.std.specs.Prelude.{IsTrue}
use Rattle.sm_io.specs.Words.{is_name}
use Rattle.stream_core.specs.WellTyped.{WellTyped}
use Rattle.ring_codegen.proofs.Fitting.{empty_asked}
use Rattle.ring_codegen.proofs.tests.nothing_is_sampled_and_called.Goals as goal

pub plain-requires : goal.plain-requires
plain-requires g c = subst WellTyped (sym c.in_ok-empty_spec.ensures) empty_asked.typed

pub generate-requires : goal.generate-requires
generate-requires g c = record { named = subst (λ (n : List ℕ). IsTrue (is_name n)) (sym c.in_ok-name.ensures) empty_asked.named }
