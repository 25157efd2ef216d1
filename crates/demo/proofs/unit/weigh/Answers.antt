use Rattle.std.proofs.Common.{◌≡◌, ℕ, List, codes, refl, sym, ap, ◌∙◌, subst}
use Rattle.std.specs.Prelude.{IsTrue}
use Rattle.sm_io.specs.Words.{is_name, reserved, limit_fronts, limit_ends}
use Rattle.stream_core.specs.Value.{SpecValue}
use Rattle.stream_core.specs.Term.{trees, without_defs}
use Rattle.stream_core.specs.Lower.{lowered_spec}
use Rattle.stream_core.specs.Limits as limits
use Rattle.stream_core.specs.Meaning.{closed_spec}
use Rattle.c99_tree.specs.declared.unit.Unit.{Unit as CUnit}
use Rattle.c99_tree.specs.Storage.{storage_of}
use Rattle.c99_tree.specs.Weight.{unit_weight_of}
use Rattle.ring_codegen.specs.Simulation.{Simulates}
use Rattle.ring_codegen.specs.Translation.{translation}
use Rattle.demo.specs.Demonstration.{demo_spec}
use Rattle.demo.specs.Figures.{demo_need, demo_storage}
use Rattle.demo.proofs.Fine.{lowered_is}
use Rattle.demo.proofs.unit.weigh.Goals as goal

-- the program's storage is that of the specification
bytes : (k : ℕ) (s : SpecValue) (name : List ℕ) (u : CUnit) → trees s ≡ lowered_spec (demo_spec k) → u ≡ translation (closed_spec s) name → Simulates s name u → u.storage ≡ demo_storage k
bytes k s name u e is simulates = ap (λ (v : CUnit). v.storage) is ∙ (sym (ap storage_of is) ∙ (simulates.storage_is ∙ ap limits.storage (e ∙ lowered_is k)))

-- and its need that of the translation
operators : (k : ℕ) (s : SpecValue) (name : List ℕ) (u : CUnit) → trees s ≡ lowered_spec (demo_spec k) → name ≡ codes "demo" → u ≡ translation (closed_spec s) name → u.need ≡ demo_need k
operators k s name u e n is = ap (λ (v : CUnit). v.need) is ∙ (λ j. unit_weight_of (translation (without_defs (e j)) (n j)))

name_is_free : IsTrue (is_name (codes "demo"))
unfolding reserved limit_fronts limit_ends
name_is_free = refl

pub generate-requires : goal.generate-requires
generate-requires c = record { named = subst (λ (n : List ℕ). IsTrue (is_name n)) (sym (c.new-name.ensures ∙ c.in_ok-from_slice.ensures.items)) name_is_free }

pub returns : goal.returns
returns c =
    let k = c.args.streams in
    let s = c.args.plain.now in
    let name = c.new-name.result in
    let u = c.in_ok-unit.unit in
    let named : name ≡ codes "demo" = c.new-name.ensures ∙ c.in_ok-from_slice.ensures.items in
    let storage = bytes k s name u c.requires c.in_ok-unit.ensures.unit c.in_ok-unit.ensures.simulates in
    let need = operators k s name u c.requires named c.in_ok-unit.ensures.unit in
    (c.from.ensures ∙ storage, c.from-2.ensures ∙ need)
