-- The last step still to be taken, and what a new place changes.
use Rattle.std.proofs.Common.{◌≡◌, ⊎_elim, ℕ, ◌-◌, ◌<◌, ◌≤◌, Bool, true, false, List, [], ◌∷◌, length, take, set, Option, Some, None, refl, sym, ap, ◌∙◌, subst, arith}
use Rattle.std.specs.Prelude.{slice_get, nat_le, if◌then◌else◌}
use Rattle.std.proofs.lemmas.Bool.{cases_eq}
use Rattle.std.proofs.lemmas.Bool.Decides.{nat_tests}
use Rattle.std.proofs.lemmas.Option.{slice_get_within}
use Rattle.stream_core.specs.Value.{SpecValue}
use Rattle.recursion_check.specs.declared.walk.Mark.{Mark}
use Rattle.recursion_check.specs.declared.walk.Mark.TheVariants as mark
use Rattle.recursion_check.specs.declared.edges.Edge.{Edge}
use Rattle.recursion_check.specs.Graph.{Has}
use Rattle.recursion_check.specs.Walked.{HasEdge, NotFalling, IsWalk, IsReached, StaysOld, edge_from}
use Rattle.recursion_check.proofs.ListElements.{edge_push, edge_pushed, ordered_last, split_last, empty_last, set_same, set_other}
use Rattle.recursion_check.proofs.Walking.{way_on, step_then}

-- ---- the last step

from_by : (start : ℕ) (e f : Edge) (t : Bool) → nat_le start e.from ≡ t → (if t then Some e else None) ≡ Some f → (e ≡ f) × (start ≤ e.from)
from_by start e f true t is = (cc, grind (arith, nat_tests))
from_by start e f false t is = absurd (cc)

from_some : (start : ℕ) (o : Option Edge) (f : Edge) → edge_from start o ≡ Some f → (o ≡ Some f) × (start ≤ f.from)
from_some start None f is = absurd (cc)
from_some start (Some e) f is = let r = from_by start e f (nat_le start e.from) refl is in (ap Some r.0, subst (λ (x : Edge). start ≤ x.from) r.0 r.1)

not_by : (start : ℕ) (e : Edge) (t : Bool) → nat_le start e.from ≡ t → (if t then Some e else None) ≡ None → e.from < start
not_by start e true t is = absurd (cc)
not_by start e false t is = grind (arith, nat_tests)

-- the last step begins in the group from this number on
pub one_left : (todo : List Edge) (start : ℕ) (e : Edge) → edge_from start (slice_get todo (length todo - 1)) ≡ Some e → (slice_get todo (length todo - 1) ≡ Some e) × (start ≤ e.from) × HasEdge todo e.from e.to
one_left todo start e is =
    let r = from_some start (slice_get todo (length todo - 1)) e is in
    (r.0, r.1, subst (λ xs. HasEdge xs e.from e.to) (sym (split_last todo e r.0)) (edge_push (take (length todo - 1) todo) e))

all_before : (todo : List Edge) (start : ℕ) → NotFalling todo → (o : Option Edge) → slice_get todo (length todo - 1) ≡ o → edge_from start o ≡ None → (i w : ℕ) → HasEdge todo i w → i < start
all_before todo start ord None is none i w h = absurd (subst (λ xs. HasEdge xs i w) (empty_last todo is) h)
all_before todo start ord (Some e) is none i w h =
    let split = split_last todo e is in
    let less = not_by start e (nat_le start e.from) refl none in
    ⊎_elim
    (λ q. let le = ordered_last (take (length todo - 1) todo) e (subst NotFalling split ord) i w q in omega (arith, le, less))
    (λ q. let same = q.0 in omega (arith, same, less))
    (edge_pushed (take (length todo - 1) todo) e i w (subst (λ xs. HasEdge xs i w) split h))

-- no step is left from the group from this number on
pub none_left : (todo : List Edge) (start : ℕ) → NotFalling todo → edge_from start (slice_get todo (length todo - 1)) ≡ None → (i w : ℕ) → HasEdge todo i w → i < start
none_left todo start ord none = all_before todo start ord (slice_get todo (length todo - 1)) refl none

-- ---- the path

pub path_empty : (s : SpecValue) (marks : List Mark) (path starts : List ℕ) (todo : List Edge) (first : Option ℕ) → IsWalk s marks path starts todo first → starts ≡ [] → path ≡ []
path_empty s marks [] starts todo first w e = refl
path_empty s marks (x ∷ path) starts todo first w e = absurd (subst (λ xs. Has xs 0) e (w.begins 0 x refl))

-- the last group's step leads where all open places lead
pub reached_by : (s : SpecValue) (marks : List Mark) (path starts : List ℕ) (todo : List Edge) (first : Option ℕ) (e : Edge) → IsWalk s marks path starts todo first → HasEdge todo e.from e.to → ((b : ℕ) → Has starts b → b ≤ e.from) → IsReached s path e.to
reached_by s marks path starts todo first e w h group i u p =
    let q = w.waiting e.from e.to h in
    way_on s u q.0 e.to (w.near i e.from u q.0 p q.1 (λ b m le. group b m)) (step_then s q.0 e.to e.to q.2 (0, refl))

-- ---- a new place

pub enter_old : (marks : List Mark) (v n : ℕ) → slice_get marks v ≡ Some mark.New → StaysOld marks (set marks v (mark.Open n))
enter_old marks v n e x f =
    ⊎_elim
    (λ same. subst (λ k. slice_get marks k ≡ Some mark.New) same e)
    (λ ne. sym (set_other marks v x (mark.Open n) ne) ∙ f)
    (cases_eq v x)

pub entered : (marks : List Mark) (v n : ℕ) → slice_get marks v ≡ Some mark.New → slice_get (set marks v (mark.Open n)) v ≡ Some mark.New → ⊥
entered marks v n e f = let here = set_same marks v (mark.Open n) (slice_get_within marks v mark.New e) in cc
