-- The objects in memory, as contracts see them.
use Rattle.std.specs.Prelude.{ℕ, ◌+◌, ◌-◌, ◌^◌, ◌==◌, ◌&&◌, ◌||◌, Bool, min, nat_lt, List, ◌++◌, length, take, drop, refl}
use Rattle.std.specs.List.{list_any}
use Rattle.std.specs.Ordering.{nat_cmp}
use Rattle.std.specs.Cmp.Lexicographic.{slice_cmp}
use Rattle.std.specs.FinMap.{FinMap, code, insert}
use Rattle.std.specs.Coded.{Coded, code_by, coded×, coded_list, coded_ℕ}

-- one more, up to the last value of a `u64`
abbrev pub next : ℕ → ℕ
next n = min (n + 1) (2 ^ 64 - 1)

-- this call's number is among those that fail
abbrev pub is_failing : List ℕ → ℕ → Bool
is_failing fails call = list_any (λ n. n == call) fails

-- a source: what is left, the most that a read gives, the numbers of the reads that fail, and the reads and faults so far
pub record Reading : Type 0 where
  pub left : List ℕ
  pub piece : ℕ
  pub fails : List ℕ
  pub calls : ℕ
  pub faults : ℕ

-- how many bytes a read into so much room gives
abbrev pub given : Reading → ℕ → ℕ
given s room = min (min s.piece room) (length s.left)

abbrev pub after_read : Reading → ℕ → Reading
after_read s room = record s { left = drop (given s room) s.left; calls = next s.calls }

abbrev pub after_failed_read : Reading → Reading
after_failed_read s = record s { calls = next s.calls; faults = next s.faults }

-- a sink that grows: what it took, and how often it found no memory
pub record Growing : Type 0 where
  pub taken : List ℕ
  pub starved : ℕ

-- a sink with room for so many bytes
pub record Filling : Type 0 where
  pub taken : List ℕ
  pub room : ℕ
  pub fails : List ℕ
  pub calls : ℕ
  pub faults : ℕ

-- how many bytes it can still take
abbrev pub has_room : Filling → ℕ
has_room s = s.room - length s.taken

-- this write fails: its number is among those that fail, or nothing is left of the room for its bytes
abbrev pub is_refused : Filling → List ℕ → Bool
is_refused s piece = is_failing s.fails s.calls || (nat_lt 0 (length piece) && (has_room s == 0))

abbrev pub after_write : Filling → List ℕ → Filling
after_write s piece = record s { taken = s.taken ++ take (has_room s) piece; calls = next s.calls }

abbrev pub after_failed_write : Filling → Filling
after_failed_write s = record s { calls = next s.calls; faults = next s.faults }

-- a shelf: its files, the numbers of the calls that fail, the calls so far, those of them that failed by their numbers,
-- and the puts that found no memory
pub record Shelved : Type 0 where
  pub files : FinMap (slice_cmp nat_cmp) (List ℕ)
  pub fails : List ℕ
  pub calls : ℕ
  pub failed : ℕ
  pub starved : ℕ

abbrev pub shelved_code : Coded Shelved
shelved_code =
    code_by (FinMap (slice_cmp nat_cmp) (List ℕ) × (List ℕ × (ℕ × (ℕ × ℕ))))
    (coded× (code (coded_list coded_ℕ) (coded_list coded_ℕ)) (coded× (coded_list coded_ℕ) (coded× coded_ℕ (coded× coded_ℕ coded_ℕ))))
    (λ s. (s.files, (s.fails, (s.calls, (s.failed, s.starved)))))
    (λ p. record { files = p.0; fails = p.1.0; calls = p.1.1.0; failed = p.1.1.1.0; starved = p.1.1.1.1 })
    (λ _. refl)

-- how often a call failed, by its number or for want of memory
abbrev pub faults_of : Shelved → ℕ
faults_of s = min (s.failed + s.starved) (2 ^ 64 - 1)

abbrev pub after_call : Shelved → Shelved
after_call s = record s { calls = next s.calls }

abbrev pub after_failed_call : Shelved → Shelved
after_failed_call s = record s { calls = next s.calls; failed = next s.failed }

abbrev pub after_put : Shelved → List ℕ → List ℕ → Shelved
after_put s name bytes = record (after_call s) { files = insert s.files name bytes }

abbrev pub after_starved_put : Shelved → Shelved
after_starved_put s = record s { calls = next s.calls; starved = next s.starved }
