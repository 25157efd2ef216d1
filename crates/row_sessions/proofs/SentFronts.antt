-- What is held is written a front at a time.
use Rattle.std.proofs.Common.{◌≡◌, inl, ℕ, ◌+◌, ◌<◌, ◌≤◌, false, List, [], ◌++◌, length, take, drop, take_all, Option, Some, Result, Ok, Err, ap, sym, ◌∙◌, subst, arith, append_assoc, append-nil, length-append}
use Rattle.std.proofs.Math.Seq.{take-append-add}
use Rattle.sm_io.specs.Known.{after_known}
use Rattle.sm_io.proofs.Written.{after_known_append}
use Rattle.extern_rows.specs.declared.header.Leaf.{Leaf}
use Rattle.extern_rows.specs.Lines.{first_line}
use Rattle.row_sessions.specs.Session.{text_of_steps, machine_sessions, FailsIn, piece}
use Rattle.row_sessions.specs.Standing.{FitsLeaves, Stands, Holds, MayHold, HoldsAtEnd, Fronts, Ends, IsLineEnding, Went, Ended, Missed, PartPassed, PassesOn}
use Rattle.row_sessions.specs.declared.ending.Ending.{Ending}
use Rattle.row_sessions.specs.declared.ending.Ending.TheVariants.{Done, Stopped, BadRow, ReadFault, WriteFault, NoMemory}
use Rattle.row_sessions.specs.declared.lines.Lines.{Lines}
use Rattle.row_sessions.proofs.Parts.{first_bytes, stands_front, there_front}
use Rattle.row_sessions.proofs.PieceParts.{rest_of, rest_all, rest_more}
use Rattle.row_sessions.proofs.ReadPieces.{none_after}
use Rattle.row_sessions.proofs.Passing.{holds_none, all_sent, goes_on_sent, ends_sent, cut_in}

-- ---- a part

pub went : {F : Type 0} (answers : List (List ℕ) → Result (List ℕ) F) (leaves : List Leaf) (lines : Lines) (stands : List (List ℕ) → Type 0) (text sent gone held held' : List ℕ) (taken taken' : Option (List ℕ))
    → Holds answers leaves lines stands sent held text → held ≡ gone ++ held' → taken' ≡ after_known taken gone → Went answers leaves lines stands text sent taken taken' held'
went answers leaves lines stands text sent gone held held' taken taken' s split wrote =
    let e : Some ((sent ++ gone) ++ held') ≡ Some (sent ++ held) = ap Some (append_assoc sent gone held' ∙ ap (λ (t : List ℕ). sent ++ t) (sym split)) in
    record { gone = gone; wrote = wrote; there = subst (λ (k : Option (List ℕ)). Stands answers leaves (Some []) lines stands k text) (sym e) s }

pub part_ended : {F : Type 0} (answers : List (List ℕ) → Result (List ℕ) F) (leaves : List Leaf) (lines : Lines) (stands : List (List ℕ) → Type 0) (text taken_text sent held held' : List ℕ) (taken taken' : Option (List ℕ)) (ending : Ending F)
    → IsLineEnding ending → HoldsAtEnd answers leaves text sent held ending → taken' ≡ after_known taken held → PartPassed {T = ℕ} answers leaves lines stands text taken_text sent taken taken' held' (Err ending)
part_ended answers leaves lines stands text taken_text sent held held' taken taken' NoMemory kind h wrote = record { gone = held; wrote = wrote; ends = h.0 }
part_ended answers leaves lines stands text taken_text sent held held' taken taken' (BadRow line fault) kind h wrote = record { gone = held; wrote = wrote; ends = h.0 }
part_ended answers leaves lines stands text taken_text sent held held' taken taken' (Stopped step fault) kind h wrote = record { gone = held; wrote = wrote; ends = h.0 }
part_ended answers leaves lines stands text taken_text sent held held' taken taken' Done kind h wrote = absurd kind
part_ended answers leaves lines stands text taken_text sent held held' taken taken' ReadFault kind h wrote = absurd kind
part_ended answers leaves lines stands text taken_text sent held held' taken taken' WriteFault kind h wrote = absurd kind

pub missed_there : {F : Type 0} (answers : List (List ℕ) → Result (List ℕ) F) (leaves : List Leaf) (lines : Lines) (stands : List (List ℕ) → Type 0) (text part sent held : List ℕ) (taken taken' : Option (List ℕ)) (count : ℕ)
    → Holds answers leaves lines stands sent held (text ++ first_line part) → count < length held → taken' ≡ after_known taken (take count held) → Missed answers leaves (text ++ part) sent taken taken'
missed_there {F = F} answers leaves lines stands text part sent held taken taken' count s less wrote =
    let rest : List ℕ = drop (length (first_line part)) part in
    let is : (text ++ first_line part) ++ rest ≡ text ++ part = append_assoc text (first_line part) rest ∙ ap (λ (t : List ℕ). text ++ t) (sym (first_bytes part)) in
    record {
      all = held;
      count = count;
      less = less;
      wrote = wrote;
      front = subst (λ (t : List ℕ). Fronts (machine_sessions answers leaves t false) (Some []) (Some (sent ++ held))) is
          (stands_front answers leaves (Some []) lines stands (Some (sent ++ held)) (text ++ first_line part) rest false s);
    }

-- ---- the parts of a piece

pub went_none : {F : Type 0} (answers : List (List ℕ) → Result (List ℕ) F) (leaves : List Leaf) (first : Option (List ℕ)) (lines : Lines) (stands : List (List ℕ) → Type 0) (taken : Option (List ℕ)) (text held : List ℕ)
    → (s : Stands answers leaves first lines stands taken text) → held ≡ [] → Went answers leaves lines stands (text ++ []) (text_of_steps s.steps) taken taken held
went_none {F = F} answers leaves first lines stands taken text held s none =
    let sent : List ℕ = text_of_steps s.steps in
    record {
      gone = [];
      wrote = none_after taken;
      there = subst (λ (t : List ℕ). Holds answers leaves lines stands (sent ++ []) held t) (sym (append-nil text))
          (subst (λ (z : List ℕ). Holds answers leaves lines stands z held text) (sym (append-nil sent)) (holds_none answers leaves first lines stands taken text held s none));
    }

went_more : {F : Type 0} (answers : List (List ℕ) → Result (List ℕ) F) (leaves : List Leaf) (lines lines' : Lines) (stands stands' : List (List ℕ) → Type 0) (text text' sent held held' : List ℕ) (before taken taken' : Option (List ℕ))
    → (w : Went answers leaves lines stands text sent before taken held) → Went answers leaves lines' stands' text' (sent ++ w.gone) taken taken' held' → Went answers leaves lines' stands' text' sent before taken' held'
went_more answers leaves lines lines' stands stands' text text' sent held held' before taken taken' w v = record {
  gone = w.gone ++ v.gone;
  wrote = all_sent before taken taken' w.gone v.gone w.wrote v.wrote;
  there = subst (λ (z : List ℕ). Holds answers leaves lines' stands' z held' text') (append_assoc sent w.gone v.gone) v.there;
}

on_still : {F : Type 0} (answers answers' : List (List ℕ) → Result (List ℕ) F) (leaves : List Leaf) (lines lines' : Lines) (stands stands' : List (List ℕ) → Type 0) (held held' : List ℕ) (taken taken' : Option (List ℕ)) (part : List ℕ) (result : Result ℕ (Ending F))
    → answers' ≡ answers → PassesOn answers' leaves lines lines' stands stands' held held' taken taken' part result → PassesOn answers leaves lines lines' stands stands' held held' taken taken' part result
on_still {F = F} answers answers' leaves lines lines' stands stands' held held' taken taken' part result same on =
    subst (λ (a : List (List ℕ) → Result (List ℕ) F). PassesOn a leaves lines lines' stands stands' held held' taken taken' part result) same on

pub pass_added : {F : Type 0} (answers answers' : List (List ℕ) → Result (List ℕ) F) (leaves : List Leaf) (lines lines' : Lines) (stands stands' : List (List ℕ) → Type 0) (held held' : List ℕ) (before taken taken' : Option (List ℕ)) (text bytes sent : List ℕ) (done n : ℕ)
    → answers' ≡ answers → n ≡ length (first_line (rest_of done bytes)) → PassesOn answers' leaves lines lines' stands stands' held held' taken taken' (rest_of done bytes) (Ok n)
    → Went answers leaves lines stands (text ++ take done bytes) sent before taken held → Went answers leaves lines' stands' (text ++ take (done + n) bytes) sent before taken' held'
pass_added {F = F} answers answers' leaves lines lines' stands stands' held held' before taken taken' text bytes sent done n same is step w =
    let t : List ℕ = text ++ take done bytes in
    let v = on_still answers answers' leaves lines lines' stands stands' held held' taken taken' (rest_of done bytes) (Ok n) same step (sent ++ w.gone) t w.there in
    subst (λ (z : List ℕ). Went answers leaves lines' stands' z sent before taken' held')
    (append_assoc text (take done bytes) (first_line (rest_of done bytes)) ∙ ap (λ (z : List ℕ). text ++ z) (rest_more done n bytes is))
    (went_more answers leaves lines lines' stands stands' t (t ++ first_line (rest_of done bytes)) sent held held' before taken taken' w v)

pub pass_holds : {F : Type 0} (answers answers' : List (List ℕ) → Result (List ℕ) F) (leaves : List Leaf) (lines lines' : Lines) (stands stands' : List (List ℕ) → Type 0) (held held' : List ℕ) (taken taken' : Option (List ℕ)) (part : List ℕ) (n : ℕ)
    → answers' ≡ answers → PassesOn answers' leaves lines lines' stands stands' held held' taken taken' part (Ok n) → FitsLeaves leaves lines'.header lines'.row.items
    → MayHold answers leaves lines stands held → MayHold answers leaves lines' stands' held'
pass_holds answers answers' leaves lines lines' stands stands' held held' taken taken' part n same step fits m =
    let v = on_still answers answers' leaves lines lines' stands stands' held held' taken taken' part (Ok n) same step m.sent m.text m.there in
    record { sent = m.sent ++ v.gone; text = m.text ++ first_line part; there = v.there; fits = fits }

-- ---- its end

pub missed_cut : {F : Type 0} (answers : List (List ℕ) → Result (List ℕ) F) (leaves : List Leaf) (first : Option (List ℕ)) (lines : Lines) (stands : List (List ℕ) → Type 0) (before taken taken' : Option (List ℕ)) (text bytes gone : List ℕ)
    → (s : Stands answers leaves first lines stands before text) → length bytes ≤ piece → taken ≡ after_known before gone → Missed answers leaves (text ++ bytes) (text_of_steps s.steps ++ gone) taken taken'
    → FailsIn (machine_sessions answers leaves (text ++ bytes) false) (text ++ bytes) first taken'
missed_cut {F = F} answers leaves first lines stands before taken taken' text bytes gone s small wrote m =
    cut_in answers leaves first lines stands before taken' text bytes (gone ++ m.all) false (length gone + m.count) s small
    (subst (λ (z : List ℕ). Fronts (machine_sessions answers leaves (text ++ bytes) false) (Some []) (Some z)) (append_assoc (text_of_steps s.steps) gone m.all) m.front)
    (omega (arith, length-append gone m.all, m.less))
    (m.wrote ∙ ap (λ (k : Option (List ℕ)). after_known k (take m.count m.all)) wrote ∙ after_known_append before gone (take m.count m.all) ∙ ap (after_known before) (sym (take-append-add gone m.all m.count)))

pub pass_ends : {F : Type 0} (answers answers' : List (List ℕ) → Result (List ℕ) F) (leaves : List Leaf) (first : Option (List ℕ)) (start lines lines' : Lines) (stood stands stands' : List (List ℕ) → Type 0) (held held' : List ℕ) (before taken taken' : Option (List ℕ)) (text bytes : List ℕ) (done : ℕ) (ending : Ending F)
    → answers' ≡ answers → PassesOn answers' leaves lines lines' stands stands' held held' taken taken' (rest_of done bytes) (Err ending) → length bytes ≤ piece
    → (s : Stands answers leaves first start stood before text) → Went answers leaves lines stands (text ++ take done bytes) (text_of_steps s.steps) before taken held
    → Ends answers leaves first (text ++ bytes) taken' ending
pass_ends {F = F} answers answers' leaves first start lines lines' stood stands stands' held held' before taken taken' text bytes done ending same step small s w = at ending whole where
  sent : List ℕ
  sent = text_of_steps s.steps

  t : List ℕ
  t = text ++ take done bytes

  whole : PartPassed {T = ℕ} answers leaves lines' stands' (text ++ bytes) (t ++ first_line (rest_of done bytes)) (sent ++ w.gone) taken taken' held' (Err ending)
  whole = subst (λ (z : List ℕ). PartPassed {T = ℕ} answers leaves lines' stands' z (t ++ first_line (rest_of done bytes)) (sent ++ w.gone) taken taken' held' (Err ending))
      (append_assoc text (take done bytes) (rest_of done bytes) ∙ ap (λ (z : List ℕ). text ++ z) (rest_all done bytes))
      (on_still answers answers' leaves lines lines' stands stands' held held' taken taken' (rest_of done bytes) (Err ending) same step (sent ++ w.gone) t w.there)

  out : (gone : List ℕ) → taken' ≡ after_known taken gone → taken' ≡ after_known first ((sent ++ w.gone) ++ gone)
  out gone wrote = all_sent first taken taken' (sent ++ w.gone) gone (all_sent first before taken sent w.gone s.wrote w.wrote) wrote

  ended : (ending : Ending F) → Ended answers leaves (text ++ bytes) (sent ++ w.gone) taken taken' ending → Ends answers leaves first (text ++ bytes) taken' ending
  ended ending e back = ends_sent (machine_sessions answers leaves) ((text ++ bytes) ++ back) (text ++ bytes) first taken' ((sent ++ w.gone) ++ e.gone) ending (out e.gone e.wrote) (e.ends back)

  at : (ending : Ending F) → PartPassed {T = ℕ} answers leaves lines' stands' (text ++ bytes) (t ++ first_line (rest_of done bytes)) (sent ++ w.gone) taken taken' held' (Err ending) → Ends answers leaves first (text ++ bytes) taken' ending
  at WriteFault m = λ back. inl (missed_cut answers leaves first start stood before taken taken' text bytes w.gone s small w.wrote m)
  at NoMemory e = ended NoMemory e
  at Done e = ended Done e
  at ReadFault e = ended ReadFault e
  at (BadRow line fault) e = ended (BadRow line fault) e
  at (Stopped step fault) e = ended (Stopped step fault) e

-- ---- behind it

all_bytes : (text bytes : List ℕ) (done : ℕ) → length bytes ≤ done → text ++ take done bytes ≡ text ++ bytes
all_bytes text bytes done past = ap (λ (z : List ℕ). text ++ z) (take_all done bytes past)

pub piece_written : {F : Type 0} (answers : List (List ℕ) → Result (List ℕ) F) (leaves : List Leaf) (first : Option (List ℕ)) (start lines : Lines) (stood stands : List (List ℕ) → Type 0) (held : List ℕ) (before taken taken' : Option (List ℕ)) (text bytes : List ℕ) (done : ℕ)
    → length bytes ≤ done → (s : Stands answers leaves first start stood before text) → Went answers leaves lines stands (text ++ take done bytes) (text_of_steps s.steps) before taken held
    → taken' ≡ after_known taken held → Stands answers leaves first lines stands taken' (text ++ bytes)
piece_written answers leaves first start lines stood stands held before taken taken' text bytes done past s w wrote =
    subst (λ (z : List ℕ). Stands answers leaves first lines stands taken' z) (all_bytes text bytes done past)
    (goes_on_sent answers leaves first lines stands taken taken' (text_of_steps s.steps ++ w.gone) held (text ++ take done bytes) w.there (all_sent first before taken (text_of_steps s.steps) w.gone s.wrote w.wrote) wrote)

pub piece_missed : {F : Type 0} (answers : List (List ℕ) → Result (List ℕ) F) (leaves : List Leaf) (first : Option (List ℕ)) (start lines : Lines) (stood stands : List (List ℕ) → Type 0) (held : List ℕ) (before taken taken' : Option (List ℕ)) (text bytes : List ℕ) (done count : ℕ)
    → length bytes ≤ done → length bytes ≤ piece → (s : Stands answers leaves first start stood before text) → Went answers leaves lines stands (text ++ take done bytes) (text_of_steps s.steps) before taken held
    → count < length held → taken' ≡ after_known taken (take count held) → Ends answers leaves first (text ++ bytes) taken' WriteFault
piece_missed {F = F} answers leaves first start lines stood stands held before taken taken' text bytes done count past small s w less wrote back =
    let sent : List ℕ = text_of_steps s.steps ++ w.gone in
    inl (missed_cut answers leaves first start stood before taken taken' text bytes w.gone s small w.wrote (record {
      all = held;
      count = count;
      less = less;
      wrote = wrote;
      front = subst (λ (z : List ℕ). Fronts (machine_sessions answers leaves z false) (Some []) (Some (sent ++ held))) (all_bytes text bytes done past)
          (there_front answers leaves (Some []) lines stands (Some (sent ++ held)) (text ++ take done bytes) false w.there);
    }))
