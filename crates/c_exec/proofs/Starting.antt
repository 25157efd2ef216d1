-- What a machine holds before the first call.
use Rattle.std.proofs.Common.{◌≡◌, ℕ, List, [], None, ap, ◌∙◌}
use Rattle.std.specs.List.{sum_by}
use Rattle.c99_tree.specs.declared.unit.Unit.{Unit as CUnit}
use Rattle.c99_tree.specs.Run.{first_statics}
use Rattle.c99_tree.specs.WellFormed.{IsWellFormed}
use Rattle.c99_tree.proofs.TypedRuns.{first_statics_are}
use Rattle.c_exec.specs.declared.calls.Log.{Log}
use Rattle.c_exec.specs.Called.{calls_in}
use Rattle.c_exec.specs.Codes.{Act}
use Rattle.c_exec.specs.Going.{Rooms}
use Rattle.c_exec.specs.Inside.{AreStatics}
use Rattle.c_exec.specs.Logs.{rooms_of}
use Rattle.c_exec.specs.Machine.{Kept, Begins, statics_in, first_words}
use Rattle.c_exec.specs.Needs.{most_need, call_count, call_words, rooms_for}
use Rattle.c_exec.specs.PileOf.{PileOf}
use Rattle.c_exec.proofs.FirstStatics.{first_words_are, first_words_back}

abbrev pub empty : ℕ → PileOf
empty room = record { items = []; room = room }

abbrev pub no_calls : ℕ → ℕ → Log
no_calls calls words = record { handlers = empty calls; ends = empty calls; words = empty words }

abbrev made : ℕ → ℕ → ℕ → Rooms
made p c w = record { pile = p; handlers = c; ends = c; words = w }

-- the rooms that were asked for
pub rooms_made : (acts bs : List Act) (pile : PileOf) (log : Log) (p c w : ℕ) → acts ≡ bs → pile ≡ empty p → log ≡ no_calls c w
    → p ≡ most_need acts → c ≡ sum_by call_count acts → w ≡ sum_by call_words acts → rooms_of pile log ≡ rooms_for bs
rooms_made acts bs pile log p c w e pile_is log_is p_is c_is w_is =
    ap (λ (q : PileOf). rooms_of q log) pile_is ∙ ap (λ (l : Log). rooms_of (empty p) l) log_is
    ∙ ap (λ (n : ℕ). made n c w) p_is ∙ ap (λ (n : ℕ). made (most_need acts) n w) c_is
    ∙ ap (λ (n : ℕ). made (most_need acts) (sum_by call_count acts) n) w_is ∙ ap rooms_for e

pub first_are : (u : CUnit) (ws : List ℕ) → IsWellFormed u → ws ≡ first_words u → AreStatics u ws
first_are u ws w e = (first_statics u, first_statics_are u w, e ∙ first_words_are u w)

pub begins_with : (u : CUnit) (m : Kept) → IsWellFormed u → m.unit ≡ u → m.statics ≡ first_words u → m.handlers ≡ [] → m.met ≡ None
    → Begins u (first_statics u) m
begins_with u m w e s h n = record {
  unit = e;
  statics = ap (λ (v : CUnit). statics_in v m.statics) e ∙ ap (λ (ws : List ℕ). statics_in u ws) s ∙ first_words_back u w;
  called = ap (λ (hs : List ℕ). calls_in 0 hs m.ends m.words) h;
  met = n;
}
