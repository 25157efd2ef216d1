-- What a demonstration tells.
use Rattle.std.specs.Prelude.{ℕ, List, [], ◌∷◌, codes, decimal, length, map, replicate, sum}
use Rattle.std.specs.List.{flat_map}
use Rattle.stream_core.specs.Handlers.{Call, calls}
use Rattle.stream_core.specs.Limits.{storage}
use Rattle.stream_core.specs.Lower.{lowered_spec}
use Rattle.stream_core.specs.Term.{without_defs}
use Rattle.c99_tree.specs.Weight.{unit_weight_of}
use Rattle.ring_codegen.specs.Translation.{translation}
use Rattle.demo.specs.declared.run.Figures.{Figures}
use Rattle.demo.specs.Demonstration.{demo_spec}

-- rows of a specification without externs
abbrev pub empty_rows : ℕ → List (List ℕ)
empty_rows n = replicate n []

-- how many calls the first n of t steps make
abbrev pub calls_below : ℕ → ℕ → ℕ → ℕ
calls_below k t n = sum (map (λ (cs : List Call). length cs) (calls (without_defs (demo_spec k)) (empty_rows t) n))

-- the static storage of the specification
abbrev pub demo_storage : ℕ → ℕ
demo_storage k = storage (demo_spec k)

-- the greatest number of operators that a step of its program can meet
abbrev pub demo_need : ℕ → ℕ
demo_need k = unit_weight_of (translation (without_defs (lowered_spec (demo_spec k))) (codes "demo"))

abbrev pub figures_of : ℕ → ℕ → Figures
figures_of k t = record { events = calls_below k t t; storage = demo_storage k; need = demo_need k }

-- `demo: K streams, T steps, E events, storage B, need N`
abbrev pub demo_line : ℕ → ℕ → Figures → List ℕ
demo_line k t f =
    flat_map (λ (piece : List ℕ). piece)
    (codes "demo: " ∷ decimal k ∷ codes " streams, " ∷ decimal t ∷ codes " steps, " ∷ decimal f.events ∷ codes " events, storage " ∷ decimal f.storage ∷ codes ", need "
    ∷ decimal f.need ∷ codes "\n" ∷ [])
