-- What a machine keeps once its statements were carried out, and what that answers.
use Rattle.std.proofs.Common.{◌≡◌, ℕ, ◌+◌, ◌≤◌, List, [], length, Option, Some, None, Result, Ok, Err, refl, sym, ap, ◌∙◌, subst, arith}
use Rattle.std.specs.Prelude.{IsTrue, IfOk}
use Rattle.std.specs.Option.{option_map_or}
use Rattle.c99_tree.specs.declared.undefined.Undefined.{Undefined}
use Rattle.c99_tree.specs.declared.unit.Unit.{Unit as CUnit}
use Rattle.c99_tree.specs.Tree.{Stmt, statements}
use Rattle.c99_tree.specs.Evaluation.{Met, done, Statics}
use Rattle.c99_tree.specs.Step.{Progress, step}
use Rattle.c99_tree.specs.Typed.{IsRow, IsStepOf}
use Rattle.c99_tree.specs.Weight.{unit_weight_of}
use Rattle.c99_tree.specs.WellFormed.{types_come_first, IsWellFormed}
use Rattle.c99_tree.proofs.Counts.{step-count}
use Rattle.c99_tree.proofs.TypedRuns.{step_is}
use Rattle.c_exec.specs.declared.calls.Log.{Log}
use Rattle.c_exec.specs.declared.machine.Machine.TheInside.{Inside}
use Rattle.c_exec.specs.Called.{calls_in}
use Rattle.c_exec.specs.Codes.{Act}
use Rattle.c_exec.specs.Going.{Memory, Rooms, left_by, act_all}
use Rattle.c_exec.specs.Inside.{AreStatics, IsMachine}
use Rattle.c_exec.specs.Layout.{locals_width}
use Rattle.c_exec.specs.Logs.{memory_of, rooms_of}
use Rattle.c_exec.specs.Machine.{Kept, statics_in, statics_of, called_of, outcome, Answers}
use Rattle.c_exec.specs.Needs.{rooms_for}
use Rattle.c_exec.specs.PileOf.{PileOf}
use Rattle.c_exec.specs.Resolving.{acts_for}
use Rattle.c_exec.proofs.Follows.{Agrees, AgreesBy}
use Rattle.c_exec.proofs.StaticsBack.{statics_back}
use Rattle.c_exec.proofs.StepGoes.{step_goes}

-- no calls, in the same rooms
pub cleared_rooms : (pile : PileOf) (old new : Log) → new.handlers ≡ record { items = []; room = old.handlers.room }
    → new.ends ≡ record { items = []; room = old.ends.room } → new.words ≡ record { items = []; room = old.words.room }
    → rooms_of pile new ≡ rooms_of pile old
cleared_rooms pile old new a b c =
    ap (λ (n : ℕ). made n new.ends.room new.words.room) (ap (λ (p : PileOf). p.room) a)
    ∙ ap (λ (n : ℕ). made old.handlers.room n new.words.room) (ap (λ (p : PileOf). p.room) b)
    ∙ ap (λ (n : ℕ). made old.handlers.room old.ends.room n) (ap (λ (p : PileOf). p.room) c)
  where
    made : ℕ → ℕ → ℕ → Rooms
    made h e w = record { pile = pile.room; handlers = h; ends = e; words = w }

-- the statements by another name
pub same_acts : (rs : Rooms) (row : List ℕ) (bs cs : List Act) (m : Memory) → bs ≡ cs → act_all rs row bs m ≡ act_all rs row cs m
same_acts rs row bs cs m e = ap (λ (all : List Act). act_all rs row all m) e

-- what the statements gave, by that name
pub done_is : (u : CUnit) (row : List ℕ) (rs : Rooms) (bs : List Act) (m after : Memory) (r : Result (Unit {0}) Undefined) (d : Unit {0})
    → bs ≡ acts_for u → (act_all rs row bs m).value ≡ left_by r after → r ≡ Ok d → (act_all rs row (acts_for u) m).value ≡ Ok after
done_is u row rs bs m after r d e v k =
    sym (ap (λ (z : Met Memory). z.value) (same_acts rs row bs (acts_for u) m e)) ∙ v ∙ ap (λ (z : Result (Unit {0}) Undefined). left_by z after) k

pub stopped_is : (u : CUnit) (row : List ℕ) (rs : Rooms) (bs : List Act) (m after : Memory) (r : Result (Unit {0}) Undefined) (why : Undefined)
    → bs ≡ acts_for u → (act_all rs row bs m).value ≡ left_by r after → r ≡ Err why → (act_all rs row (acts_for u) m).value ≡ Err why
stopped_is u row rs bs m after r why e v k =
    sym (ap (λ (z : Met Memory). z.value) (same_acts rs row bs (acts_for u) m e)) ∙ v ∙ ap (λ (z : Result (Unit {0}) Undefined). left_by z after) k

pub count_is : (u : CUnit) (row : List ℕ) (rs : Rooms) (bs : List Act) (m : Memory) (before after : ℕ) → bs ≡ acts_for u
    → after ≡ before + (act_all rs row bs m).count → after ≡ before + (act_all rs row (acts_for u) m).count
count_is u row rs bs m before after e h = h ∙ ap (λ (z : Met Memory). before + z.count) (same_acts rs row bs (acts_for u) m e)

-- a program, and words as they lie before a call
pub record Ready (u : CUnit) (row : List ℕ) (rs : Rooms) (m : Memory) : Type 0 where
  pub well_formed : IsWellFormed u
  pub given : IsRow u row
  pub rooms : rs ≡ rooms_for (acts_for u)
  pub statics : AreStatics u m.statics
  pub locals : length m.locals ≡ locals_width u
  pub handlers : m.handlers ≡ []
  pub ends : m.ends ≡ []
  pub words : m.words ≡ []

-- a machine whose calls were taken away
pub ready_of : (m : Inside) (cleared : Log) (row statics locals : List ℕ) → IsMachine m → IsRow m.unit.now row → m.met ≡ None
    → cleared.handlers ≡ record { items = []; room = m.log.handlers.room } → cleared.ends ≡ record { items = []; room = m.log.ends.room }
    → cleared.words ≡ record { items = []; room = m.log.words.room } → statics ≡ m.statics.items → locals ≡ m.locals.items
    → Ready m.unit.now row (rooms_of m.pile cleared) (memory_of statics locals cleared)
ready_of m cleared row statics locals i g n a b c s l = record {
  well_formed = i.well_formed;
  given = g;
  rooms = cleared_rooms m.pile m.log cleared a b c ∙ i.rooms;
  statics = subst (λ (ws : List ℕ). AreStatics m.unit.now ws) (sym s) (i.statics n);
  locals = ap (λ (ws : List ℕ). length ws) l ∙ i.locals;
  handlers = ap (λ (p : PileOf). p.items) a;
  ends = ap (λ (p : PileOf). p.items) b;
  words = ap (λ (p : PileOf). p.items) c;
}

-- the same, and what the machine's value says of it
pub record Enters (old : Kept) (u : CUnit) (row : List ℕ) (rs : Rooms) (m : Memory) : Type 0 where
  pub ready : Ready u row rs m
  pub unit : old.unit ≡ u
  pub met : old.met ≡ None
  pub statics : old.statics ≡ m.statics

pub enters_of : (m : Inside) (old : Kept) (cleared : Log) (row statics locals : List ℕ) → m.unit.now ≡ old.unit → m.statics.items ≡ old.statics
    → m.met ≡ old.met → IsMachine m → IsRow old.unit row → old.met ≡ None
    → cleared.handlers ≡ record { items = []; room = m.log.handlers.room } → cleared.ends ≡ record { items = []; room = m.log.ends.room }
    → cleared.words ≡ record { items = []; room = m.log.words.room } → statics ≡ m.statics.items → locals ≡ m.locals.items
    → Enters old m.unit.now row (rooms_of m.pile cleared) (memory_of statics locals cleared)
enters_of m old cleared row statics locals u ws o i g n a b c s l = record {
  ready = ready_of m cleared row statics locals i (subst (λ (v : CUnit). IsRow v row) (sym u) g) (o ∙ n) a b c s l;
  unit = sym u;
  met = n;
  statics = sym (s ∙ ws);
}

pub ready_agrees : (u : CUnit) (row : List ℕ) (rs : Rooms) (m : Memory) (r : Ready u row rs m)
    → Agrees u (statements u) (act_all rs row (acts_for u) m) (step u r.statics.0 row)
ready_agrees u row rs m r =
    step_goes u r.statics.0 row rs m r.well_formed r.statics.1 r.given r.rooms r.statics.2 r.locals r.handlers r.ends r.words

pub ready_typed : (u : CUnit) (row : List ℕ) (rs : Rooms) (m : Memory) (r : Ready u row rs m) → IfOk (step u r.statics.0 row).value (IsStepOf u)
ready_typed u row rs m r = step_is u r.statics.0 row (record { well_formed = r.well_formed; statics = r.statics.1; given = r.given })

-- what a machine that has met nothing undefined is asked to answer
pub outcome_is : (u : CUnit) (row : List ℕ) (rs : Rooms) (m : Memory) (r : Ready u row rs m) (old : Kept) → old.unit ≡ u → old.met ≡ None
    → old.statics ≡ m.statics → outcome old row ≡ step u r.statics.0 row
outcome_is u row rs m r old e n s =
    ap (λ (o : Option Undefined). option_map_or (λ (w : Undefined). done (Err w)) o (step old.unit (statics_of old) row)) n
    ∙ ap (λ (v : CUnit). step v (statics_in v old.statics) row) e
    ∙ ap (λ (ws : List ℕ). step u (statics_in u ws) row) (s ∙ r.statics.2)
    ∙ ap (λ (z : Statics). step u z row) (statics_back u r.statics.0 r.well_formed.types_first r.statics.1)

-- ---- the count

pub counted_as : (u : CUnit) (row : List ℕ) (rs : Rooms) (m : Memory) (r : Ready u row rs m) (old : Kept) (before after : ℕ) → old.unit ≡ u
    → old.met ≡ None → old.statics ≡ m.statics → after ≡ before + (act_all rs row (acts_for u) m).count
    → after ≡ before + (outcome old row).count
counted_as u row rs m r old before after e n s h =
    h ∙ ap (λ (k : ℕ). before + k) ((ready_agrees u row rs m r).count ∙ ap (λ (z : Met Progress). z.count) (sym (outcome_is u row rs m r old e n s)))

pub counted_within : (u : CUnit) (row : List ℕ) (rs : Rooms) (m : Memory) (r : Ready u row rs m) (before after : ℕ)
    → after ≡ before + (act_all rs row (acts_for u) m).count → after ≤ before + unit_weight_of u
counted_within u row rs m r before after h =
    let same = (ready_agrees u row rs m r).count in
    let most = step-count u r.statics.0 row in
    omega (arith, h, same, most)

-- ---- what was done

-- the machine has these words, and has met nothing undefined
pub record Holds (u : CUnit) (m : Memory) (old new : Kept) : Type 0 where
  pub unit : new.unit ≡ old.unit
  pub is : new.unit ≡ u
  pub statics : new.statics ≡ m.statics
  pub handlers : new.handlers ≡ m.handlers
  pub ends : new.ends ≡ m.ends
  pub words : new.words ≡ m.words
  pub met : new.met ≡ None

done_by : (u : CUnit) (all : List Stmt) (m : Memory) (old new : Kept) (o : Result Progress Undefined) → IsTrue (types_come_first u)
    → AgreesBy u all (Ok m) o → IfOk o (IsStepOf u) → Holds u m old new → Answers o old new (Ok tt)
done_by u all m old new (Err e) first f g h = absurd f
done_by u all m old new (Ok p) first f g h =
    let statics : statics_of new ≡ p.statics =
    ap (λ (v : CUnit). statics_in v new.statics) h.is ∙ ap (λ (ws : List ℕ). statics_in u ws) (h.statics ∙ f.statics) ∙ statics_back u p.statics first g.0 in
    let called : called_of new ≡ p.called =
    ap (λ (hs : List ℕ). calls_in 0 hs new.ends new.words) h.handlers ∙ ap (λ (es : List ℕ). calls_in 0 m.handlers es new.words) h.ends
    ∙ ap (λ (ws : List ℕ). calls_in 0 m.handlers m.ends ws) h.words ∙ f.calls in
    (refl, h.unit, statics, called, h.met)

pub done_answers : (u : CUnit) (row : List ℕ) (rs : Rooms) (m after : Memory) (r : Ready u row rs m) (old new : Kept) → old.unit ≡ u → old.met ≡ None
    → old.statics ≡ m.statics → (act_all rs row (acts_for u) m).value ≡ Ok after → Holds u after old new
    → Answers (outcome old row).value old new (Ok tt)
done_answers u row rs m after r old new e n s h g =
    let same : (step u r.statics.0 row).value ≡ (outcome old row).value = sym (ap (λ (z : Met Progress). z.value) (outcome_is u row rs m r old e n s)) in
    let agrees : AgreesBy u (statements u) (Ok after) (step u r.statics.0 row).value =
    subst (λ (z : Result Memory Undefined). AgreesBy u (statements u) z (step u r.statics.0 row).value) h (ready_agrees u row rs m r).value in
    subst (λ (o : Result Progress Undefined). Answers o old new (Ok tt)) same
    (done_by u (statements u) after old new (step u r.statics.0 row).value r.well_formed.types_first agrees (ready_typed u row rs m r) g)

left_statics : (u : CUnit) (all : List Stmt) (m : Memory) (o : Result Progress Undefined) → AgreesBy u all (Ok m) o → IfOk o (IsStepOf u)
    → AreStatics u m.statics
left_statics u all m (Err e) f g = absurd f
left_statics u all m (Ok p) f g = (p.statics, g.0, f.statics)

-- the words are again those of statics
pub done_statics : (u : CUnit) (row : List ℕ) (rs : Rooms) (m after : Memory) → Ready u row rs m
    → (act_all rs row (acts_for u) m).value ≡ Ok after → AreStatics u after.statics
done_statics u row rs m after r h =
    left_statics u (statements u) after (step u r.statics.0 row).value
    (subst (λ (z : Result Memory Undefined). AgreesBy u (statements u) z (step u r.statics.0 row).value) h (ready_agrees u row rs m r).value)
    (ready_typed u row rs m r)

-- ---- what is undefined

stopped_by : (u : CUnit) (all : List Stmt) (why : Undefined) (old new : Kept) (o : Result Progress Undefined) → AgreesBy u all (Err why) o
    → new.unit ≡ old.unit → new.handlers ≡ [] → new.met ≡ Some why → Answers o old new (Err why)
stopped_by u all why old new (Ok p) f e c m = absurd f
stopped_by u all why old new (Err w) f e c m =
    (ap (λ (x : Undefined). Err x) f, e, ap (λ (hs : List ℕ). calls_in 0 hs new.ends new.words) c, m ∙ ap (λ (x : Undefined). Some x) f)

pub stopped_answers : (u : CUnit) (row : List ℕ) (rs : Rooms) (m : Memory) (why : Undefined) (r : Ready u row rs m) (old new : Kept) → old.unit ≡ u
    → old.met ≡ None → old.statics ≡ m.statics → (act_all rs row (acts_for u) m).value ≡ Err why
    → new.unit ≡ old.unit → new.handlers ≡ [] → new.met ≡ Some why
    → Answers (outcome old row).value old new (Err why)
stopped_answers u row rs m why r old new e n s h a b c =
    let same : (step u r.statics.0 row).value ≡ (outcome old row).value = sym (ap (λ (z : Met Progress). z.value) (outcome_is u row rs m r old e n s)) in
    let agrees : AgreesBy u (statements u) (Err why) (step u r.statics.0 row).value =
    subst (λ (z : Result Memory Undefined). AgreesBy u (statements u) z (step u r.statics.0 row).value) h (ready_agrees u row rs m r).value in
    subst (λ (o : Result Progress Undefined). Answers o old new (Err why)) same
    (stopped_by u (statements u) why old new (step u r.statics.0 row).value agrees a b c)
