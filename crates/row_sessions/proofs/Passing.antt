-- What is held is written: the session goes on, or ends, by what the output took.
use Rattle.std.proofs.Common.{◌≡◌, inl, inr, ℕ, suc, ◌+◌, ◌<◌, ◌≤◌, Bool, true, false, List, [], ◌∷◌, ◌++◌, length, take, Option, Some, None, Result, ap, sym, ◌∙◌, subst, arith, append_assoc, append-nil, length-append}
use Rattle.std.specs.Prelude.{slice_get}
use Rattle.std.proofs.Math.Seq.{take-append-add}
use Rattle.std.proofs.lemmas.Grind.{common_steps, flat_map-append}
use Rattle.sm_io.specs.Known.{after_known}
use Rattle.sm_io.proofs.Written.{after_known_append}
use Rattle.extern_rows.specs.declared.header.Leaf.{Leaf}
use Rattle.extern_rows.specs.SampleRows.{Rows, rows_from}
use Rattle.extern_rows.specs.Lines.{parts}
use Rattle.row_sessions.specs.Session.{SessionStep, Session, Sessions, session_text, text_of_steps, machine_sessions, EndsSession, FailsIn, piece}
use Rattle.row_sessions.specs.Standing.{session_behind, then_session, Stands, MayGoOn, Holds, MayHold, Fronts}
use Rattle.row_sessions.specs.declared.ending.Ending.{Ending}
use Rattle.row_sessions.specs.declared.ending.Ending.TheVariants.{Done, Stopped, BadRow, ReadFault, WriteFault, NoMemory}
use Rattle.row_sessions.specs.declared.lines.Lines.{Lines}
use Rattle.row_sessions.proofs.Beyond.{Cut, find_cut, rows_behind_line, steps_beyond}

-- ---- nothing is held

pub holds_none : {F : Type 0} (answers : List (List ℕ) → Result (List ℕ) F) (leaves : List Leaf) (first : Option (List ℕ)) (lines : Lines) (stands : List (List ℕ) → Type 0) (taken : Option (List ℕ)) (text held : List ℕ)
    → (s : Stands answers leaves first lines stands taken text) → held ≡ [] → Holds answers leaves lines stands (text_of_steps s.steps) held text
holds_none answers leaves first lines stands taken text held s none = record {
  rows = s.rows;
  steps = s.steps;
  front = s.front;
  is = s.is;
  feed = s.feed;
  goes_on = s.goes_on;
  wrote = ap (λ (h : List ℕ). Some (text_of_steps s.steps ++ h)) none ∙ ap Some (append-nil (text_of_steps s.steps));
  stood = s.stood;
  counted = s.counted;
  few = s.few;
}

pub may_hold : {F : Type 0} (answers : List (List ℕ) → Result (List ℕ) F) (leaves : List Leaf) (lines : Lines) (stands : List (List ℕ) → Type 0) (taken : Option (List ℕ)) (held : List ℕ)
    → MayGoOn answers leaves lines stands taken → held ≡ [] → MayHold answers leaves lines stands held
may_hold answers leaves lines stands taken held m none =
    record { sent = text_of_steps m.there.steps; text = m.text; there = holds_none answers leaves m.first lines stands taken m.text held m.there none; fits = m.fits }

-- ---- all is written

abbrev or_none : Option (List ℕ) → List ℕ
or_none None = []
or_none (Some x) = x

pub all_sent : (first taken taken' : Option (List ℕ)) (sent held : List ℕ) → taken ≡ after_known first sent → taken' ≡ after_known taken held → taken' ≡ after_known first (sent ++ held)
all_sent first taken taken' sent held before after = after ∙ ap (λ (k : Option (List ℕ)). after_known k held) before ∙ after_known_append first sent held

pub goes_on_sent : {F : Type 0} (answers : List (List ℕ) → Result (List ℕ) F) (leaves : List Leaf) (first : Option (List ℕ)) (lines : Lines) (stands : List (List ℕ) → Type 0) (taken taken' : Option (List ℕ)) (sent held text : List ℕ)
    → Holds answers leaves lines stands sent held text → taken ≡ after_known first sent → taken' ≡ after_known taken held → Stands answers leaves first lines stands taken' text
goes_on_sent answers leaves first lines stands taken taken' sent held text s before after = record {
  rows = s.rows;
  steps = s.steps;
  front = s.front;
  is = s.is;
  feed = s.feed;
  goes_on = s.goes_on;
  wrote = all_sent first taken taken' sent held before after ∙ ap (λ (k : Option (List ℕ)). after_known first (or_none k)) s.wrote;
  stood = s.stood;
  counted = s.counted;
  few = s.few;
}

-- an ending by what is held is one by what the output took
pub ends_sent : {F : Type 0} (sessions : Sessions F) (whole bytes : List ℕ) (first taken' : Option (List ℕ)) (all : List ℕ) (ending : Ending F)
    → taken' ≡ after_known first all → EndsSession sessions whole bytes (Some []) (Some all) ending → EndsSession sessions whole bytes first taken' ending
ends_sent {F = F} sessions whole bytes first taken' all ending out = at ending where
  wrote : (text : List ℕ) → Some all ≡ after_known (Some []) text → taken' ≡ after_known first text
  wrote text e = out ∙ ap (λ (k : Option (List ℕ)). after_known first (or_none k)) e

  fails : (session : Session F) → FailsIn session bytes (Some []) (Some all) → FailsIn session bytes first taken'
  fails session h = (h.0, h.1, (h.2.0, wrote (take h.0 (session_text session)) h.2.1), h.3, h.4)

  at : (ending : Ending F) → EndsSession sessions whole bytes (Some []) (Some all) ending → EndsSession sessions whole bytes first taken' ending
  at Done h = (h.0, h.1, wrote (session_text (sessions whole true)) h.2)
  at ReadFault h = (h.0, wrote (session_text (sessions bytes false)) h.1)
  at WriteFault (inl h) = inl (fails (sessions bytes false) h)
  at WriteFault (inr h) = inr (h.0, fails (sessions whole true) h.1)
  at NoMemory (n, inl h) = (n, inl (h.0, wrote (take n (session_text (sessions bytes false))) h.1))
  at NoMemory (n, inr h) = (n, inr (h.0, (h.1.0, wrote (take n (session_text (sessions whole true))) h.1.1)))
  at (BadRow line fault) h = (h.0, h.1, h.2, wrote (session_text (sessions whole true)) h.3, h.4)
  at (Stopped step fault) h = (h.0, h.1, h.2, wrote (session_text (sessions whole true)) h.3, h.4)

-- ---- not all is written

get_behind : {X : Type 0} (xs ys : List X) (k : ℕ) → slice_get (xs ++ ys) (length xs + k) ≡ slice_get ys k
get_behind [] ys k = ap (slice_get ys) (omega arith)
get_behind (x ∷ xs) ys k = let e : length (x ∷ xs) + k ≡ suc (length xs + k) = omega arith in ap (slice_get (x ∷ xs ++ ys)) e ∙ get_behind xs ys k

take_take : (m n : ℕ) (xs : List ℕ) → m ≤ n → take m (take n xs) ≡ take m xs
take_take m n xs low = grind (arith, common_steps)

take_short : (n : ℕ) (xs : List ℕ) → n ≤ length xs → length (take n xs) ≡ n
take_short n xs low = grind (arith, common_steps)

texts-append : (a b : List SessionStep) → text_of_steps (a ++ b) ≡ text_of_steps a ++ text_of_steps b
texts-append a b = flat_map-append (λ (s : SessionStep). s.text) a b

-- The output took a part of what is held behind the steps so far: the step in which it ends came with the last bytes.
pub cut_in : {F : Type 0} (answers : List (List ℕ) → Result (List ℕ) F) (leaves : List Leaf) (first : Option (List ℕ)) (lines : Lines) (stands : List (List ℕ) → Type 0) (taken taken' : Option (List ℕ)) (text bytes held : List ℕ) (ended : Bool) (count : ℕ)
    → (s : Stands answers leaves first lines stands taken text) → length bytes ≤ piece
    → Fronts (machine_sessions answers leaves (text ++ bytes) ended) (Some []) (Some (text_of_steps s.steps ++ held))
    → count < length held → taken' ≡ after_known taken (take count held)
    → FailsIn (machine_sessions answers leaves (text ++ bytes) ended) (text ++ bytes) first taken'
cut_in {F = F} answers leaves first lines stands taken taken' text bytes held ended count s small front less wrote =
    let session : Session F = machine_sessions answers leaves (text ++ bytes) ended in
    let rows : Rows = rows_from leaves ended lines.feed.number (length s.front) (parts (lines.feed.line ++ bytes)) lines.header in
    let later : Session F = session_behind answers s.rows rows in
    let a : List ℕ = text_of_steps s.steps in
    let b : List ℕ = text_of_steps later.steps in
    let whole : text ++ bytes ≡ s.front ++ (lines.feed.line ++ bytes) = ap (λ (t : List ℕ). t ++ bytes) s.is ∙ append_assoc s.front lines.feed.line bytes in
    let is : session ≡ then_session s.steps later = ap (λ (t : List ℕ). machine_sessions answers leaves t ended) whole ∙ s.goes_on ended (lines.feed.line ++ bytes) in
    let steps_are : session.steps ≡ s.steps ++ later.steps = ap (λ (x : Session F). x.steps) is in
    let all : session_text session ≡ a ++ b = ap text_of_steps steps_are ∙ texts-append s.steps later.steps in
    let n : ℕ = front.0 in
    let m : ℕ = length a + count in
    let held_is : a ++ held ≡ take n (session_text session) = ap or_none front.1.1 in
    let long : length a + length held ≡ n = sym (length-append a held) ∙ ap length held_is ∙ take_short n (session_text session) front.1.0 in
    let size : length (session_text session) ≡ length a + length b = ap length all ∙ length-append a b in
    let cut : Cut later.steps count = find_cut later.steps count (omega (arith, long, size, front.1.0, less)) in
    let front_is : take m (session_text session) ≡ a ++ take count held =
    sym (take_take m n (session_text session) (omega (arith, long, less))) ∙ ap (take m) (sym held_is) ∙ take-append-add a held count in
    let here : take (length s.steps + cut.k) session.steps ≡ s.steps ++ take cut.k later.steps = ap (take (length s.steps + cut.k)) steps_are ∙ take-append-add s.steps later.steps cut.k in
    let one : suc (length s.steps + cut.k) ≡ length s.steps + suc cut.k = omega arith in
    let there : take (suc (length s.steps + cut.k)) session.steps ≡ s.steps ++ take (suc cut.k) later.steps =
    ap (λ (k : ℕ). take k session.steps) one ∙ ap (take (length s.steps + suc cut.k)) steps_are ∙ take-append-add s.steps later.steps (suc cut.k) in
    let here_text : length (text_of_steps (take (length s.steps + cut.k) session.steps)) ≡ length a + length (text_of_steps (take cut.k later.steps)) =
    ap (λ (xs : List SessionStep). length (text_of_steps xs)) here ∙ ap length (texts-append s.steps (take cut.k later.steps)) ∙ length-append a (text_of_steps (take cut.k later.steps)) in
    let there_text : length (text_of_steps (take (suc (length s.steps + cut.k)) session.steps)) ≡ length a + length (text_of_steps (take (suc cut.k) later.steps)) =
    ap (λ (xs : List SessionStep). length (text_of_steps xs)) there ∙ ap length (texts-append s.steps (take (suc cut.k) later.steps)) ∙ length-append a (text_of_steps (take (suc cut.k) later.steps)) in
    let end : length s.front + length lines.feed.line ≤ cut.step.end =
    steps_beyond answers s.rows (length s.front + length lines.feed.line) rows.rows rows.fault
    (rows_behind_line leaves ended lines.feed.number (length s.front) lines.feed.line bytes lines.header s.feed.unbroken) cut.k cut.step cut.is in
    let taken_size : length (text ++ bytes) ≡ length s.front + length lines.feed.line + length bytes =
    ap length whole ∙ length-append s.front (lines.feed.line ++ bytes) ∙ (let e = length-append lines.feed.line bytes in omega (arith, e)) in (
      m,
      cut.step,
      (
        omega (arith, size, long, front.1.0, less),
        wrote ∙ ap (λ (k : Option (List ℕ)). after_known k (take count held)) s.wrote ∙ after_known_append first a (take count held) ∙ ap (after_known first) (sym front_is),
      ),
      record {
        k = length s.steps + cut.k;
        is = ap (λ (xs : List SessionStep). slice_get xs (length s.steps + cut.k)) steps_are ∙ get_behind s.steps later.steps cut.k ∙ cut.is;
        before = omega (arith, here_text, cut.before);
        cut = omega (arith, there_text, cut.cut);
      },
      omega (arith, taken_size, end, small),
    )

pub cut_last : {F : Type 0} (answers : List (List ℕ) → Result (List ℕ) F) (leaves : List Leaf) (first : Option (List ℕ)) (lines : Lines) (stands : List (List ℕ) → Type 0) (taken taken' : Option (List ℕ)) (text held : List ℕ) (count : ℕ)
    → (s : Stands answers leaves first lines stands taken text) → Fronts (machine_sessions answers leaves text true) (Some []) (Some (text_of_steps s.steps ++ held))
    → count < length held → taken' ≡ after_known taken (take count held) → FailsIn (machine_sessions answers leaves text true) text first taken'
cut_last {F = F} answers leaves first lines stands taken taken' text held count s front less wrote =
    subst (λ (t : List ℕ). FailsIn (machine_sessions answers leaves t true) t first taken') (append-nil text)
    (cut_in answers leaves first lines stands taken taken' text [] held true count s (omega arith)
    (subst (λ (t : List ℕ). Fronts (machine_sessions answers leaves t true) (Some []) (Some (text_of_steps s.steps ++ held))) (sym (append-nil text)) front) less wrote)
