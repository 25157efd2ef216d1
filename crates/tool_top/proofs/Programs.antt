-- Two texts are a program of a specification.
use Rattle.std.specs.Prelude.{◌≡◌, ℕ, List, Result, Ok, Err, IfOk}
use Rattle.std.proofs.Common.{subst}
use Rattle.stream_core.specs.Value.{SpecValue}
use Rattle.c99_tree.specs.declared.unit.Unit.{Unit as CUnit}
use Rattle.c99_tree.specs.Spelling.{Spells}
use Rattle.ring_codegen.specs.Simulation.{Simulates}
use Rattle.tool_top.specs.Compile.{IsProgramOf}

-- two texts spell at most one program
abbrev pub OneUnit : Type 0
OneUnit = (u v : CUnit) (header source : List ℕ) → Spells u header source → Spells v header source → u ≡ v

pub program_of : OneUnit → {T E : Type 0} (header source : T → List ℕ) (means : SpecValue) (name unit_name : List ℕ) (u : CUnit) → unit_name ≡ name → Simulates means unit_name u →
    (r : Result T E) → IfOk r (λ t. Spells u (header t) (source t)) → IfOk r (λ t. IsProgramOf means name (header t) (source t))
program_of one header source means name unit_name u is simulates (Ok t) spelled = record {
  program = u;
  simulates = subst (λ n. Simulates means n u) is simulates;
  spelled = spelled;
  only = λ v other. one v u (header t) (source t) other spelled;
}
program_of one header source means name unit_name u is simulates (Err e) spelled = tt
