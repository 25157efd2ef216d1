-- Where a walk begins, and what it has found when no place is open.
use Rattle.std.proofs.Common.{◌≡◌, ℕ, zero, suc, ◌<◌, ◌≤◌, List, [], length, replicate, Option, Some, None, refl, ap, ◌∙◌, arith}
use Rattle.std.specs.Prelude.{slice_get, MatchOption}
use Rattle.std.proofs.lemmas.List.{length-map}
use Rattle.stream_core.specs.Value.{SpecValue}
use Rattle.stream_core.specs.Term.{tree, tree_def, defs_of}
use Rattle.stream_core.specs.Soundness.{HasNoCycle}
use Rattle.stream_core.specs.WellTyped.{WellTyped}
use Rattle.recursion_check.specs.declared.walk.Mark.{Mark}
use Rattle.recursion_check.specs.declared.walk.Mark.TheVariants as mark
use Rattle.recursion_check.specs.declared.edges.Edge.{Edge}
use Rattle.recursion_check.specs.Graph.{IsFirstOnCycle, places}
use Rattle.recursion_check.specs.Walked.{IsLeast, IsWalk}
use Rattle.recursion_check.proofs.Places.{cycle_forth, cycle_there, cycle_back}
use Rattle.sm_io.proofs.Elements.{get_within}

replicate_length : (n : ℕ) (m : Mark) → length (replicate n m) ≡ n
replicate_length zero m = refl
replicate_length (suc n) m = ap suc (replicate_length n m)

all_new : (n v : ℕ) (m : Mark) → slice_get (replicate n mark.New) v ≡ Some m → mark.New ≡ m
all_new zero v m e = absurd (cc)
all_new (suc n) zero m e = cc
all_new (suc n) (suc v) m e = all_new n v m e

not_open : (i : ℕ) → mark.New ≡ mark.Open i → ⊥
not_open i e = cc

not_done : mark.New ≡ mark.Done → ⊥
not_done e = cc

nowhere : (i v : ℕ) → slice_get [] i ≡ Some v → ⊥
nowhere i v e = cc

none_found : (f : ℕ) → None ≡ Some f → ⊥
none_found f e = cc

pub start_walk : (s : SpecValue) (n : ℕ) → n ≡ places s → IsWalk s (replicate n mark.New) [] [] [] None
start_walk s n e = record {
  size = replicate_length n mark.New ∙ e;
  placed = λ i v q. absurd (nowhere i v q);
  found = λ v i q. absurd (not_open i (all_new n v (mark.Open i) q));
  closed = λ v x q j. absurd (not_done (all_new n v mark.Done q));
  seen = λ i v x q j. absurd (nowhere i v q);
  near = λ i j v x q r nr. absurd (nowhere i v q);
  within = λ b h. absurd h;
  begins = λ i v q. absurd (nowhere i v q);
  rising = tt;
  waiting = λ i x h. absurd h;
  ordered = tt;
  least = record { on_cycle = λ f q. absurd (none_found f q); below = λ d b q r. absurd (not_done (all_new n d mark.Done q)) };
}

-- a place that was entered is done where no place is open
pub all_done : (s : SpecValue) (marks : List Mark) (starts : List ℕ) (todo : List Edge) (first : Option ℕ) → IsWalk s marks [] starts todo first → (v : ℕ) → v < places s → (slice_get marks v ≡ Some mark.New → ⊥) → slice_get marks v ≡ Some mark.Done
all_done s marks starts todo first w v b old = let size = w.size in let m = get_within marks v (omega (arith, b, size)) in by m.0 m.1
  where
    by : (m : Mark) → slice_get marks v ≡ Some m → slice_get marks v ≡ Some mark.Done
    by mark.New e = absurd (old e)
    by (mark.Open i) e = absurd (nowhere i v (w.found v i e))
    by mark.Done e = e

module _ (s : SpecValue) (w : WellTyped s) where
  defs_length : length (defs_of s) ≡ length s.defs
  defs_length = length-map s.defs (tree_def (tree s.nodes s.libs))

  pub found_first : (marks : List Mark) (first : Option ℕ) → IsLeast s marks first → ((d : ℕ) → d < length s.defs → slice_get marks d ≡ Some mark.Done) → MatchOption first (HasNoCycle (defs_of s)) (λ d. IsFirstOnCycle (defs_of s) d)
  found_first marks None l all = λ d way. let b = cycle_there s w d way in none_found _ (l.below d b (all d b) (cycle_forth s w d way)).1
  found_first marks (Some f) l all =
      let r = l.on_cycle f refl in
      let n = defs_length in
      let b = r.0 in
      record {
        there = omega (arith, b, n);
        on_cycle = cycle_back s w f r.0 r.1;
        first = λ c way. let b = cycle_there s w c way in let q = l.below c b (all c b) (cycle_forth s w c way) in at_most f c q.0 q.1 q.2;
      }
    where
      at_most : (f c g : ℕ) → Some f ≡ Some g → g ≤ c → f ≤ c
      at_most f c g e le = let same : f ≡ g = cc in omega (arith, same, le)
