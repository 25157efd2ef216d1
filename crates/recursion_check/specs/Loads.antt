-- The roots of a specification, over its items.
use Rattle.std.specs.Prelude.{ℕ, List, [], ◌∷◌, ◌++◌, ◌+◌, map, min, Option, Some, None, nat_lt, if◌then◌else◌}
use Rattle.stream_core.specs.declared.spec.Root.{Root}
use Rattle.stream_core.specs.declared.spec.StreamItem.{StreamItem}
use Rattle.stream_core.specs.declared.spec.TriggerItem.{TriggerItem}
use Rattle.stream_core.specs.declared.spec.ObserverItem.{ObserverItem}
use Rattle.stream_core.specs.declared.spec.LibItem.{LibItem}
use Rattle.stream_core.specs.Value.{SpecValue}
use Rattle.stream_core.specs.Soundness.{Load}
use Rattle.stream_core.specs.Weights.{heavy, heaviest_buffer}
use Rattle.recursion_check.specs.declared.roots.Tally.{Tally}
use Rattle.recursion_check.specs.Walked.{lesser}

abbrev pub load : SpecValue → ℕ → ℕ → Load
load s i at = record { at = at; heavy = heavy s i }

abbrev pub root_of : SpecValue → Root → Load
root_of s r = load s r.expr r.at

abbrev pub roots_of : SpecValue → List Root → List Load
roots_of s [] = []
roots_of s (r ∷ rs) = root_of s r ∷ roots_of s rs

abbrev pub triggers_of : SpecValue → List TriggerItem → List Load
triggers_of s [] = []
triggers_of s (x ∷ xs) = root_of s x.guard ∷ (roots_of s x.args ++ triggers_of s xs)

abbrev pub observers_of : SpecValue → List ObserverItem → List Load
observers_of s [] = []
observers_of s (x ∷ xs) = root_of s x.root ∷ observers_of s xs

abbrev pub streams_of : SpecValue → List StreamItem → List Load
streams_of s [] = []
streams_of s (x ∷ xs) = load s x.expr x.at ∷ streams_of s xs

-- the least place of a load above 2,048, of these and of one that is known
abbrev pub least_heavy : Option ℕ → List Load → Option ℕ
least_heavy first [] = first
least_heavy first (x ∷ xs) = least_heavy (if nat_lt 2048 x.heavy then lesser first x.at else first) xs

-- one more root: what all weigh up to 262,145, and the least place of one above 2,048
abbrev pub with_load : Tally → Load → Tally
with_load t x = record { total = min (t.total + x.heavy) 262145; first = if nat_lt 2048 x.heavy then lesser t.first x.at else t.first }

abbrev pub with_loads : Tally → List Load → Tally
with_loads t [] = t
with_loads t (x ∷ xs) = with_loads (with_load t x) xs

abbrev pub no_roots : Tally
no_roots = record { total = 0; first = None }

-- the roots of the declarations
abbrev pub declared_of : SpecValue → List Load
declared_of s = triggers_of s s.triggers ++ observers_of s s.observers ++ streams_of s s.streams

-- the first form that has a buffer above 2,048
abbrev pub first_form : SpecValue → List LibItem → Option ℕ
first_form s [] = None
first_form s (x ∷ xs) = if nat_lt 2048 (heaviest_buffer x.form (map (heavy s) x.args)) then Some x.at else first_form s xs

-- this place, and else that of a form
abbrev pub or_form : Option ℕ → Option ℕ → Option ℕ
or_form None b = b
or_form (Some a) b = Some a

-- the place of the first root above 2,048
abbrev pub first_heavy : SpecValue → Option ℕ
first_heavy s = or_form (least_heavy None (declared_of s)) (first_form s s.libs)
