-- A demonstration's specification has no fault.
use Rattle.std.proofs.Common.{◌≡◌, ℕ, zero, suc, ◌+◌, ◌*◌, ◌%◌, ◌≤◌, List, [], ◌∷◌, length, map, None, refl, sym, ap, ◌∙◌, subst, arith}
use Rattle.std.specs.Prelude.{sum}
use Rattle.std.specs.List.{AllByRecursion, range_with_len}
use Rattle.std.proofs.lemmas.List.{append-nil}
use Rattle.std.proofs.lemmas.List.FromFn.{length-range_with_len, length-map-range_with_len}
use Rattle.std.proofs.lemmas.List.Sums.{sum_by-cons}
use Rattle.std.proofs.lemmas.Option.{none-some}
use Rattle.sm_io.proofs.Elements.{all_by_place}
use Rattle.stream_core.specs.Value.{SpecValue}
use Rattle.stream_core.specs.Term.{Term, stream, TreeStream, TreeTrigger, TreeObserver, root_with, trees, written_out, without_defs}
use Rattle.stream_core.specs.Lower.{lowered, buffer_of, lowered_spec}
use Rattle.stream_core.specs.Limits.{Leads, plain_weight, trigger_weights}
use Rattle.stream_core.specs.Meaning.{IsFirstFault}
use Rattle.stream_core.specs.Soundness as soundness
use Rattle.stream_core.specs.Soundness.{HasNoCycle, declarations}
use Rattle.stream_core.specs.KeptLimits.{plain_form, IsLight, IsLightTrigger, KeepsLimits}
use Rattle.stream_core.proofs.Limited.{without}
use Rattle.recursion_check.specs.declared.fault.SoundFault.{SoundFault}
use Rattle.recursion_check.specs.declared.fault.SoundFault.TheVariants as fault
use Rattle.recursion_check.specs.Judged.{Blames}
use Rattle.demo.specs.Demonstration.{demo_stream, demo_guard, demo_argument, demo_trigger, demo_spec}

-- ---- what leaves the expressions alone leaves the specification alone

module _ (f : Term → Term) where
  abbrev stream_by : TreeStream → TreeStream
  stream_by x = record x { expr = f x.expr }

  abbrev trigger_by : TreeTrigger → TreeTrigger
  trigger_by x = record x { guard = root_with f x.guard; args = map (root_with f) x.args }

  abbrev streams_from : ℕ → ℕ → List TreeStream
  streams_from a n = map demo_stream (range_with_len a n)

  abbrev triggers_from : ℕ → ℕ → List TreeTrigger
  triggers_from a n = map demo_trigger (range_with_len a n)

  streams_stay : ((i : ℕ) → f (demo_stream i).expr ≡ (demo_stream i).expr) → (a n : ℕ) → map stream_by (streams_from a n) ≡ streams_from a n
  streams_stay e a zero = refl
  streams_stay e a (suc n) = λ j. record (demo_stream a) { expr = e a j } ∷ streams_stay e (a + 1) n j

  triggers_stay : ((i : ℕ) → f (demo_guard i).expr ≡ (demo_guard i).expr) → ((i : ℕ) → f (stream i) ≡ stream i) → (a n : ℕ) → map trigger_by (triggers_from a n) ≡ triggers_from a n
  triggers_stay g v a zero = refl
  triggers_stay g v a (suc n) =
      λ j. record (demo_trigger a) { guard = record (demo_guard a) { expr = g a j }; args = record (demo_argument a) { expr = v a j } ∷ [] } ∷ triggers_stay g v (a + 1) n j

-- lowering and writing the defs out change nothing
pub lowered_is : (k : ℕ) → lowered_spec (demo_spec k) ≡ demo_spec k
lowered_is k =
    let f = lowered (buffer_of (length (demo_spec k).streams) []) in
    let streams = append-nil (map (stream_by f) (demo_spec k).streams) ∙ streams_stay f (λ i. refl) 0 k in
    λ j. record (demo_spec k) { streams = streams j; triggers = triggers_stay f (λ i. refl) (λ i. refl) 0 k j }

pub closed_is : (k : ℕ) → without_defs (demo_spec k) ≡ demo_spec k
closed_is k = let f = written_out [] in λ j. record (demo_spec k) { streams = streams_stay f (λ i. refl) 0 k j; triggers = triggers_stay f (λ i. refl) (λ i. refl) 0 k j }

pub plain_is : (k : ℕ) → plain_form (demo_spec k) ≡ demo_spec k
plain_is k = ap without_defs (lowered_is k) ∙ closed_is k

-- ---- the limits

few_words : (a n : ℕ) → sum (map (λ (x : TreeStream). length x.init) (map demo_stream (range_with_len a n))) ≤ 8 * n
few_words a zero = omega arith
few_words a (suc n) =
    let first = length-range_with_len a (a % 8 + 1) in
    let step = sum_by-cons (λ (k : ℕ). k) (length (demo_stream a).init) (map (λ (x : TreeStream). length x.init) (map demo_stream (range_with_len (a + 1) n))) in
    omega (arith, first, step, few_words (a + 1) n)

stream_weights : (a n : ℕ) → sum (map (λ (x : TreeStream). plain_weight x.expr) (map demo_stream (range_with_len a n))) ≡ 3 * n
stream_weights a zero = omega arith
stream_weights a (suc n) =
    let step = sum_by-cons (λ (k : ℕ). k) 3 (map (λ (x : TreeStream). plain_weight x.expr) (map demo_stream (range_with_len (a + 1) n))) in
    omega (arith, step, stream_weights (a + 1) n)

guard_weights : (a n : ℕ) → sum (trigger_weights (map demo_trigger (range_with_len a n))) ≡ 6 * n
guard_weights a zero = omega arith
guard_weights a (suc n) =
    let rest = trigger_weights (map demo_trigger (range_with_len (a + 1) n)) in
    let guard = sum_by-cons (λ (k : ℕ). k) 5 (1 ∷ rest) in
    let argument = sum_by-cons (λ (k : ℕ). k) 1 rest in
    omega (arith, guard, argument, guard_weights (a + 1) n)

light_streams : (a n : ℕ) → AllByRecursion (λ (x : TreeStream). plain_weight x.expr ≤ 2048) (map demo_stream (range_with_len a n))
light_streams a zero = tt
light_streams a (suc n) = (omega arith, light_streams (a + 1) n)

light_triggers : (a n : ℕ) → AllByRecursion IsLightTrigger (map demo_trigger (range_with_len a n))
light_triggers a zero = tt
light_triggers a (suc n) = (record { guard = omega arith; args = all_by_place IsLight (demo_argument a ∷ []) (omega arith, tt) }, light_triggers (a + 1) n)

keeps : (k : ℕ) → k ≤ 1000 → KeepsLimits (demo_spec k)
keeps k le = record {
  words = omega (arith, le, few_words 0 k);
  streams = all_by_place (λ (x : TreeStream). plain_weight x.expr ≤ 2048) (demo_spec k).streams (light_streams 0 k);
  triggers = all_by_place IsLightTrigger (demo_spec k).triggers (light_triggers 0 k);
  observers = all_by_place (λ (x : TreeObserver). IsLight x.root) [] tt;
  whole = omega (arith, le, guard_weights 0 k, stream_weights 0 k);
}

few : (k : ℕ) → k ≤ 1000 → declarations (demo_spec k) ≤ 4096
few k le = omega (arith, le, length-map-range_with_len demo_stream 0 k, length-map-range_with_len demo_trigger 0 k)

-- ---- no fault

none_leads : (n a b : ℕ) → Leads [] n a b → ⊥
none_leads zero a b m = none-some m.from m.is
none_leads (suc n) a b l = none-some l.1.from l.1.is

faultless : (k : ℕ) → k ≤ 1000 → soundness.IsFirstFault (demo_spec k) None
faultless k le = ((λ d on. none_leads on.0 d d on.1), without (demo_spec k) (few k le) (subst KeepsLimits (sym (plain_is k)) (keeps k le)))

pub no_fault : (k : ℕ) → k ≤ 1000 → (s : SpecValue) → trees s ≡ demo_spec k → IsFirstFault s None
no_fault k le s e = subst (λ t. soundness.IsFirstFault t None) (sym e) (faultless k le)

-- nothing but want of memory is told
pub memory_alone : (k : ℕ) → k ≤ 1000 → (s : SpecValue) → trees s ≡ demo_spec k → (f : SoundFault) → Blames s f → f ≡ fault.Memory
memory_alone k le s e (fault.Cycle at) b = absurd ((no_fault k le s e).0 b.d b.on_cycle)
memory_alone k le s e fault.TooManyDecls b = let none = (no_fault k le s e).1 in let some = b.1 in absurd (cc)
memory_alone k le s e fault.TooManyWords b = let none = (no_fault k le s e).1 in let some = b.1 in absurd (cc)
memory_alone k le s e (fault.RootTooHeavy at) b = let none = (no_fault k le s e).1 in let some = b.1 in absurd (cc)
memory_alone k le s e fault.SpecTooHeavy b = let none = (no_fault k le s e).1 in let some = b.1 in absurd (cc)
memory_alone k le s e fault.Memory b = refl
