-- A session that stands behind a text goes on with the next part of it.
use Rattle.std.proofs.Common.{◌≡◌, ◌⊎◌, inl, inr, ℕ, zero, suc, ◌+◌, ◌*◌, ◌<◌, ◌≤◌, Bool, true, false, not, nat_lt, List, [], ◌∷◌, ◌++◌, length, take, drop, Option, Some, None, Result, Ok, Err, refl, ap, sym, ◌∙◌, subst, arith, append_assoc, append-nil, length-append}
use Rattle.std.specs.Prelude.{◌&&◌}
use Rattle.std.specs.List.{position_or_len}
use Rattle.std.proofs.lemmas.Bool.Decides.{nat_tests}
use Rattle.extern_rows.specs.declared.fault.RowFault.{RowFault}
use Rattle.extern_rows.specs.declared.fault.RowFault.TheVariants.{LineTooLong, TooManyLines}
use Rattle.extern_rows.specs.declared.header.Leaf.{Leaf}
use Rattle.extern_rows.specs.Feeding.{Feeding, next_line, fed}
use Rattle.extern_rows.specs.Lines.{is_break, first_line, longest_line, last_line, limit_fault, without_cr}
use Rattle.extern_rows.specs.SampleRows.{limit_end}
use Rattle.extern_rows.proofs.Feeds.{text_of}
use Rattle.row_sessions.specs.Session.{machine_sessions, EndsSession, piece}
use Rattle.row_sessions.specs.Stepping.{Output, MayStep}
use Rattle.row_sessions.specs.Standing.{line_read, row_ending, LineTaken, LineKept, rows_with, IsOpen, Stands, Ends, Fronts, reach, ending_of}
use Rattle.row_sessions.specs.declared.ending.Ending.{Ending}
use Rattle.row_sessions.specs.declared.ending.Ending.TheVariants.{Done, ReadFault}
use Rattle.row_sessions.specs.declared.lines.Lines.{Lines}
use Rattle.row_sessions.proofs.Pushes.{NoBreak, both_unbroken, FirstCut, first_cut, within, past_count, past_length, Grew, Pushes, pushes}
use Rattle.row_sessions.proofs.Going.{row_goes, RowGoes, line_stops, limit_stops, read_fails, ends_there, last_line_ends, line_fronts, stood_fronts, last_line_fronts}

-- ---- what a push left

pub first_bytes : (x : List ℕ) → x ≡ first_line x ++ drop (length (first_line x)) x
first_bytes x = take_drop (position_or_len is_break x + 1) x where
  take_drop : (k : ℕ) (y : List ℕ) → y ≡ take k y ++ drop (length (take k y)) y
  take_drop zero y = refl
  take_drop (suc k) [] = refl
  take_drop (suc k) (b ∷ y) = ap (λ (z : List ℕ). b ∷ z) (take_drop k y)

-- a push that refused nothing
pub grew : (f : Feeding) (x : List ℕ) → IsOpen f → 0 < length x → (fed f (first_line x)).refusal ≡ None → Grew f.line f.number x (fed f (first_line x))
grew f x open_line some clear = at (pushes f x open_line some) where
  at : Pushes f.line f.number x (fed f (first_line x)) → Grew f.line f.number x (fed f (first_line x))
  at (inl g) = g
  at (inr (inl c)) = let k : None ≡ Some TooManyLines = sym clear ∙ c.refused.is in absurd (cc)
  at (inr (inr c)) = let k : None ≡ Some LineTooLong = sym clear ∙ c.refused.is in absurd (cc)

-- its line, with the part's bytes before a line feed
pub record Left (f : Feeding) (x : List ℕ) (g : Feeding) (whole : Bool) : Type 0 where
  pub line : g.line ≡ f.line ++ text_of x
  pub number : g.number ≡ f.number
  pub clean : NoBreak g.line
  pub limit : limit_fault g.number g.line ≡ None
  pub low : f.number ≤ last_line
  pub short : length g.line ≤ longest_line
  pub cut : FirstCut x whole

pub left : (f : Feeding) (x : List ℕ) (whole : Bool) → IsOpen f → 0 < length x → (fed f (first_line x)).refusal ≡ None → (fed f (first_line x)).whole ≡ whole → Left f x (fed f (first_line x)) whole
left f x whole open_line some clear is_whole =
    let g = grew f x open_line some clear in
    let line : (fed f (first_line x)).line ≡ f.line ++ text_of x = ap (λ (y : Feeding). y.line) g.is in
    let number : (fed f (first_line x)).number ≡ f.number = ap (λ (y : Feeding). y.number) g.is in
    let v : nat_lt (length (text_of x)) (length x) ≡ whole = sym (ap (λ (y : Feeding). y.whole) g.is) ∙ is_whole in
    let c = first_cut x in
    record {
      line = line;
      number = number;
      clean = subst NoBreak (sym line) (both_unbroken f.line (text_of x) open_line.unbroken c.unbroken);
      limit = ap (λ (k : ℕ). limit_fault k (fed f (first_line x)).line) number ∙ ap (limit_fault f.number) line ∙ within f.number (f.line ++ text_of x) g.low g.short;
      low = g.low;
      short = omega (arith, ap length line, g.short);
      cut = subst (λ (b : Bool). FirstCut x b) v c;
    }

-- ---- a part of a line

pub part_stands : {F : Type 0} (answers : List (List ℕ) → Result (List ℕ) F) (leaves : List Leaf) (first : Option (List ℕ)) (lines lines' : Lines) (stands : List (List ℕ) → Type 0) (taken : Option (List ℕ)) (text x : List ℕ)
    → Stands answers leaves first lines stands taken text → 0 < length x → lines'.feed ≡ fed lines.feed (first_line x) → lines'.header ≡ lines.header → lines'.steps ≡ lines.steps
    → (fed lines.feed (first_line x)).refusal ≡ None → (fed lines.feed (first_line x)).whole ≡ false
    → Stands answers leaves first lines' stands taken (text ++ first_line x)
part_stands answers leaves first lines lines' stands taken text x s some feed header count clear part =
    let g = left lines.feed x false s.feed some clear part in
    let line : lines'.feed.line ≡ lines.feed.line ++ text_of x = ap (λ (y : Feeding). y.line) feed ∙ g.line in
    let number : lines'.feed.number ≡ lines.feed.number = ap (λ (y : Feeding). y.number) feed ∙ g.number in
    let bytes : first_line x ≡ text_of x = g.cut.line ∙ append-nil (text_of x) in
    record {
      rows = s.rows;
      steps = s.steps;
      front = s.front;
      is = ap (λ (t : List ℕ). t ++ first_line x) s.is ∙ append_assoc s.front lines.feed.line (first_line x) ∙ ap (λ (t : List ℕ). s.front ++ (lines.feed.line ++ t)) bytes ∙ ap (λ (t : List ℕ). s.front ++ t) (sym line);
      feed = record {
        clear = ap (λ (y : Feeding). y.refusal) feed ∙ clear;
        part = ap (λ (y : Feeding). y.whole) feed ∙ part;
        unbroken = subst (λ (y : Feeding). NoBreak y.line) (sym feed) g.clean;
        short = omega (arith, ap (λ (y : Feeding). length y.line) feed, g.short);
        low = inl (omega (arith, number, g.low));
      };
      goes_on = rw (number, header) s.goes_on;
      wrote = s.wrote;
      stood = s.stood;
      counted = count ∙ s.counted;
      few = omega (arith, s.few, number);
    }

-- ---- a limit

pub refused_ends : {F : Type 0} (answers : List (List ℕ) → Result (List ℕ) F) (leaves : List Leaf) (first : Option (List ℕ)) (lines : Lines) (stands : List (List ℕ) → Type 0) (taken : Option (List ℕ)) (text x : List ℕ) (fault : RowFault)
    → Stands answers leaves first lines stands taken text → 0 < length x → length x ≤ piece → (fed lines.feed (first_line x)).refusal ≡ Some fault
    → Ends answers leaves first (text ++ x) taken (row_ending (fed lines.feed (first_line x)).number fault)
refused_ends {F = F} answers leaves first lines stands taken text x fault s some small is = at (pushes f x s.feed some) where
  f : Feeding
  f = lines.feed

  stops : (told : RowFault) → ((q : List ℕ) → limit_fault f.number ((f.line ++ text_of x) ++ q) ≡ Some told) → ((begin : ℕ) → begin + length f.line ≤ limit_end begin told)
      → (ending : Ending F) → row_ending f.number told ≡ ending → ((back : List ℕ) → EndsSession (machine_sessions answers leaves) (((s.front ++ f.line) ++ x) ++ back) ((s.front ++ f.line) ++ x) first taken ending)
      → (fed f (first_line x)).refusal ≡ Some told → (fed f (first_line x)).number ≡ f.number → Ends answers leaves first (text ++ x) taken (row_ending (fed f (first_line x)).number fault)
  stops told limit ahead ending row ends refusal number =
      let same : fault ≡ told = let k : Some fault ≡ Some told = sym is ∙ refusal in cc in
      let e : row_ending (fed f (first_line x)).number fault ≡ ending = ap (λ (k : ℕ). let y : Ending F = row_ending k fault in y) number ∙ ap (λ (k : RowFault). let y : Ending F = row_ending f.number k in y) same ∙ row in
      subst (λ (y : Ending F). Ends answers leaves first (text ++ x) taken y) (sym e)
      (subst (λ (t : List ℕ). Ends answers leaves first (t ++ x) taken ending) (sym s.is) ends)

  empty : last_line < f.number → (f.number ≤ last_line) ⊎ ((f.number ≡ last_line + 1) × (f.line ≡ [])) → length f.line ≡ 0
  empty past (inl low) = absurd (omega arith)
  empty past (inr p) = ap length p.1

  at : Pushes f.line f.number x (fed f (first_line x)) → Ends answers leaves first (text ++ x) taken (row_ending (fed f (first_line x)).number fault)
  at (inl g) = let k : None ≡ Some fault = sym (ap (λ (y : Feeding). y.refusal) g.is) ∙ is in absurd (cc)
  at (inr (inl c)) =
      let none : length f.line ≡ 0 = empty c.past s.feed.low in
      let limit : (q : List ℕ) → limit_fault f.number ((f.line ++ text_of x) ++ q) ≡ Some TooManyLines = λ q. past_count f.number ((f.line ++ text_of x) ++ q) c.past in
      let ahead : (begin : ℕ) → begin + length f.line ≤ limit_end begin TooManyLines = λ begin. omega (arith, none) in
      stops TooManyLines limit ahead (row_ending f.number TooManyLines) refl
      (limit_stops answers leaves s.rows s.steps s.front f.line f.number lines.header x TooManyLines first taken s.goes_on s.feed.unbroken s.wrote some small limit ahead)
      c.refused.is c.refused.number
  at (inr (inr c)) =
      let limit : (q : List ℕ) → limit_fault f.number ((f.line ++ text_of x) ++ q) ≡ Some LineTooLong =
      λ q. past_length f.number ((f.line ++ text_of x) ++ q) c.low (omega (arith, c.past, length-append (f.line ++ text_of x) q)) in
      let ahead : (begin : ℕ) → begin + length f.line ≤ limit_end begin LineTooLong = λ begin. omega (arith, s.feed.short) in
      stops LineTooLong limit ahead (row_ending f.number LineTooLong) refl
      (limit_stops answers leaves s.rows s.steps s.front f.line f.number lines.header x LineTooLong first taken s.goes_on s.feed.unbroken s.wrote some small limit ahead)
      c.refused.is c.refused.number

-- ---- a whole line

-- the machine may be stepped over the row of a line at hand
pub may_step : {F : Type 0} (answers : List (List ℕ) → Result (List ℕ) F) (leaves : List Leaf) (first : Option (List ℕ)) (lines : Lines) (stands : List (List ℕ) → Type 0) (taken : Option (List ℕ)) (text : List ℕ)
    → Stands answers leaves first lines stands taken text → lines.feed.number ≤ last_line → MayStep stands × (lines.steps < last_line)
may_step answers leaves first lines stands taken text s low = ((s.rows, s.stood, omega (arith, s.few, low)), omega (arith, s.few, low, s.counted))

pub whole_stands : {F : Type 0} (answers : List (List ℕ) → Result (List ℕ) F) (leaves : List Leaf) (first : Option (List ℕ)) (lines between lines' : Lines) (stands stands' : List (List ℕ) → Type 0) (before after : Output) (text x : List ℕ)
    → Stands answers leaves first lines stands before.taken text → 0 < length x → (fed lines.feed (first_line x)).refusal ≡ None → (fed lines.feed (first_line x)).whole ≡ true
    → between.header ≡ lines.header → between.steps ≡ lines.steps
    → LineKept (line_read leaves lines.header (without_cr (fed lines.feed (first_line x)).line)) between lines' stands stands'
    → ((rows : List (List ℕ)) → stands rows → LineTaken answers rows (fed lines.feed (first_line x)).number lines.steps (line_read leaves lines.header (without_cr (fed lines.feed (first_line x)).line)) before after (Ok tt))
    → (behind : Lines) → behind.feed ≡ next_line (fed lines.feed (first_line x)) → behind.header ≡ lines'.header → behind.steps ≡ lines'.steps
    → Stands answers leaves first behind stands' after.taken (text ++ first_line x)
whole_stands {F = F} answers leaves first lines between lines' stands stands' before after text x s some clear whole old_header old_steps kept taken behind feed header count =
    let g : Feeding = fed lines.feed (first_line x) in
    let l = left lines.feed x true s.feed some clear whole in
    let up : behind.feed.number ≡ lines.feed.number + 1 = ap (λ (y : Feeding). y.number) feed ∙ (let n : g.number ≡ lines.feed.number = l.number in omega (arith, n, l.low)) in
    let empty : behind.feed.line ≡ [] = ap (λ (y : Feeding). y.line) feed in
    let step = taken s.rows s.stood in
    let read_is = rw kept.is at step in
    let goes : RowGoes answers leaves s.rows s.steps (s.front ++ g.line ++ 10 ∷ []) (g.number + 1) (record { header = lines'.header; row = kept.row }) first after =
    row_goes answers leaves s.rows s.steps s.front g.line g.number lines.header lines'.header kept.row lines.steps first before after
    (rw l.number s.goes_on) l.clean l.limit kept.is s.wrote read_is in
    let number : g.number + 1 ≡ behind.feed.number = omega (arith, up, l.number) in
    let counted : behind.steps ≡ length (rows_with s.rows kept.row) = count ∙ kept.counted s.rows (old_steps ∙ s.counted) in
    record {
      rows = rows_with s.rows kept.row;
      steps = goes.steps';
      front = s.front ++ g.line ++ 10 ∷ [];
      is =
          ap (λ (t : List ℕ). t ++ first_line x) s.is ∙ append_assoc s.front lines.feed.line (first_line x) ∙ ap (λ (t : List ℕ). s.front ++ (lines.feed.line ++ t)) l.cut.line
          ∙ ap (λ (t : List ℕ). s.front ++ t) (sym (append_assoc lines.feed.line (text_of x) (10 ∷ [])) ∙ ap (λ (t : List ℕ). t ++ 10 ∷ []) (sym l.line))
          ∙ sym (append_assoc s.front g.line (10 ∷ [])) ∙ sym (append-nil (s.front ++ g.line ++ 10 ∷ [])) ∙ ap (λ (t : List ℕ). (s.front ++ g.line ++ 10 ∷ []) ++ t) (sym empty);
      feed = record {
        clear = ap (λ (y : Feeding). y.refusal) feed ∙ clear;
        part = ap (λ (y : Feeding). y.whole) feed;
        unbroken = subst NoBreak (sym empty) (λ k d h. absurd (omega arith));
        short = omega (arith, ap length empty);
        low = low (nat_lt last_line behind.feed.number) refl up l.low empty;
      };
      goes_on = rw (← number, header) goes.goes;
      wrote = goes.wrote;
      stood = kept.stood s.rows s.stood;
      counted = counted;
      few = one_more kept.row s.few up;
    } where
      low : (v : Bool) → nat_lt last_line behind.feed.number ≡ v → behind.feed.number ≡ lines.feed.number + 1 → lines.feed.number ≤ last_line → behind.feed.line ≡ [] → (behind.feed.number ≤ last_line) ⊎ ((behind.feed.number ≡ last_line + 1) × (behind.feed.line ≡ []))
      low true e up old empty = inr (let past : last_line < behind.feed.number = grind (arith, nat_tests) in omega arith, empty)
      low false e up old empty = inl (grind (arith, nat_tests))

      one_more : (row : Option (List ℕ)) → length s.rows < lines.feed.number → behind.feed.number ≡ lines.feed.number + 1 → length (rows_with s.rows row) < behind.feed.number
      one_more None few up = omega arith
      one_more (Some row) few up = omega (arith, length-append s.rows (row ∷ []))

pub whole_ends : {F : Type 0} (answers : List (List ℕ) → Result (List ℕ) F) (leaves : List Leaf) (first : Option (List ℕ)) (lines : Lines) (stands : List (List ℕ) → Type 0) (before after : Output) (text x : List ℕ) (ending : Ending F)
    → Stands answers leaves first lines stands before.taken text → 0 < length x → length x ≤ piece → (fed lines.feed (first_line x)).refusal ≡ None → (fed lines.feed (first_line x)).whole ≡ true
    → ((rows : List (List ℕ)) → stands rows → LineTaken answers rows (fed lines.feed (first_line x)).number lines.steps (line_read leaves lines.header (without_cr (fed lines.feed (first_line x)).line)) before after (Err ending))
    → Ends answers leaves first (text ++ x) after.taken ending × Fronts (machine_sessions answers leaves (text ++ x) false) first after.taken
whole_ends {F = F} answers leaves first lines stands before after text x ending s some small clear whole taken =
    let g : Feeding = fed lines.feed (first_line x) in
    let l = left lines.feed x true s.feed some clear whole in
    let t : List ℕ = drop (length (first_line x)) x in
    let split : x ≡ first_line x ++ t = first_bytes x in
    let size : length t ≤ length x = omega (arith, ap length split, length-append (first_line x) t) in
    let is : text ++ x ≡ (s.front ++ g.line ++ 10 ∷ []) ++ t =
    ap (λ (y : List ℕ). y ++ x) s.is ∙ ap (λ (y : List ℕ). (s.front ++ lines.feed.line) ++ y) (split ∙ ap (λ (y : List ℕ). y ++ t) l.cut.line)
    ∙ sym (append_assoc (s.front ++ lines.feed.line) (text_of x ++ 10 ∷ []) t)
    ∙ ap (λ (y : List ℕ). y ++ t)
    (append_assoc s.front lines.feed.line (text_of x ++ 10 ∷ []) ∙ ap (λ (y : List ℕ). s.front ++ y) (sym (append_assoc lines.feed.line (text_of x) (10 ∷ [])) ∙ ap (λ (y : List ℕ). y ++ 10 ∷ []) (sym l.line))
    ∙ sym (append_assoc s.front g.line (10 ∷ []))) in
    subst (λ (y : List ℕ). Ends answers leaves first y after.taken ending × Fronts (machine_sessions answers leaves y false) first after.taken) (sym is) (
      line_stops answers leaves s.rows s.steps s.front g.line g.number lines.header lines.steps t first before after ending
          (rw l.number s.goes_on) l.clean l.limit s.wrote s.counted (omega (arith, size, small)) (taken s.rows s.stood),
      line_fronts answers leaves s.rows s.steps s.front g.line g.number lines.header lines.steps t first before after ending
          (rw l.number s.goes_on) l.clean l.limit s.wrote s.counted (taken s.rows s.stood),
    )

-- ---- how far a part leads

pub part_reach : (f : Feeding) (x : List ℕ) → IsOpen f → 0 < length x → (fed f (first_line x)).refusal ≡ None → (fed f (first_line x)).whole ≡ false → reach f + length (first_line x) ≤ reach (fed f (first_line x))
part_reach f x open_line some clear part =
    let l = left f x false open_line some clear part in
    let size : length (fed f (first_line x)).line ≡ length f.line + length (text_of x) = ap length l.line ∙ length-append f.line (text_of x) in
    let bytes : length (first_line x) ≡ length (text_of x) = ap length (l.cut.line ∙ append-nil (text_of x)) in
    let number : (fed f (first_line x)).number * (longest_line + 1) ≡ f.number * (longest_line + 1) = ap (λ (k : ℕ). k * (longest_line + 1)) l.number in
    omega (arith, size, bytes, number)

pub whole_reach : (f : Feeding) (x : List ℕ) → IsOpen f → 0 < length x → (fed f (first_line x)).refusal ≡ None → (fed f (first_line x)).whole ≡ true → reach f + length (first_line x) ≤ reach (next_line (fed f (first_line x)))
whole_reach f x open_line some clear whole =
    let g : Feeding = fed f (first_line x) in
    let l = left f x true open_line some clear whole in
    let size : length g.line ≡ length f.line + length (text_of x) = ap length l.line ∙ length-append f.line (text_of x) in
    let bytes : length (first_line x) ≡ length (text_of x) + 1 = ap length l.cut.line ∙ length-append (text_of x) (10 ∷ []) in
    let up : (next_line g).number ≡ f.number + 1 = let n : g.number ≡ f.number = l.number in omega (arith, n, l.low) in
    let number : (next_line g).number * (longest_line + 1) ≡ (f.number + 1) * (longest_line + 1) = ap (λ (k : ℕ). k * (longest_line + 1)) up in
    omega (arith, size, bytes, number, l.short)

-- ---- failures and ends

pub stands_front : {F : Type 0} (answers : List (List ℕ) → Result (List ℕ) F) (leaves : List Leaf) (first : Option (List ℕ)) (lines : Lines) (stands : List (List ℕ) → Type 0) (taken : Option (List ℕ)) (text x : List ℕ) (ended : Bool)
    → Stands answers leaves first lines stands taken text → Fronts (machine_sessions answers leaves (text ++ x) ended) first taken
stands_front answers leaves first lines stands taken text x ended s =
    subst (λ (t : List ℕ). Fronts (machine_sessions answers leaves (t ++ x) ended) first taken) (sym s.is)
    (stood_fronts answers leaves s.rows s.steps s.front lines.feed.line lines.feed.number lines.header x ended first taken s.goes_on s.wrote)

pub there_front : {F : Type 0} (answers : List (List ℕ) → Result (List ℕ) F) (leaves : List Leaf) (first : Option (List ℕ)) (lines : Lines) (stands : List (List ℕ) → Type 0) (taken : Option (List ℕ)) (text : List ℕ) (ended : Bool)
    → Stands answers leaves first lines stands taken text → Fronts (machine_sessions answers leaves text ended) first taken
there_front answers leaves first lines stands taken text ended s =
    subst (λ (t : List ℕ). Fronts (machine_sessions answers leaves t ended) first taken) (append-nil text) (stands_front answers leaves first lines stands taken text [] ended s)

pub input_fails : {F : Type 0} (answers : List (List ℕ) → Result (List ℕ) F) (leaves : List Leaf) (first : Option (List ℕ)) (lines : Lines) (stands : List (List ℕ) → Type 0) (taken : Option (List ℕ)) (text : List ℕ)
    → Stands answers leaves first lines stands taken text → Ends answers leaves first text taken ReadFault
input_fails answers leaves first lines stands taken text s =
    subst (λ (t : List ℕ). Ends answers leaves first t taken ReadFault) (sym s.is)
    (read_fails answers leaves s.rows s.steps s.front lines.feed lines.header first taken s.goes_on s.feed s.wrote)

no_bytes : (l : List ℕ) → nat_lt 0 (length l) ≡ false → l ≡ []
no_bytes [] h = refl
no_bytes (b ∷ l) h = let k : nat_lt 0 (length (b ∷ l)) ≡ true = grind (arith, nat_tests) in absurd (cc)

pub done_there : {F : Type 0} (answers : List (List ℕ) → Result (List ℕ) F) (leaves : List Leaf) (first : Option (List ℕ)) (lines : Lines) (stands : List (List ℕ) → Type 0) (taken : Option (List ℕ)) (text : List ℕ)
    → Stands answers leaves first lines stands taken text → false ≡ (not lines.feed.whole && nat_lt 0 (length lines.feed.line)) → EndsSession (machine_sessions answers leaves) text text first taken Done
done_there answers leaves first lines stands taken text s none =
    let e : nat_lt 0 (length lines.feed.line) ≡ false = sym (rw s.feed.part at none) in
    subst (λ (t : List ℕ). EndsSession (machine_sessions answers leaves) t t first taken Done) (sym s.is)
    (ends_there answers leaves s.rows s.steps s.front lines.feed.line lines.feed.number lines.header first taken s.goes_on (no_bytes lines.feed.line e) s.wrote)

-- a last line is within the limits
pub last_low : (f : Feeding) → IsOpen f → true ≡ (not f.whole && nat_lt 0 (length f.line)) → (0 < length f.line) × (f.number ≤ last_line)
last_low f open_line is =
    let e : nat_lt 0 (length f.line) ≡ true = sym (rw open_line.part at is) in
    let some : 0 < length f.line = grind (arith, nat_tests) in (some, by open_line.low some) where
      by : (f.number ≤ last_line) ⊎ ((f.number ≡ last_line + 1) × (f.line ≡ [])) → 0 < length f.line → f.number ≤ last_line
      by (inl low) some = low
      by (inr p) some = absurd (omega (arith, ap length p.1))

pub finished : {F : Type 0} (answers : List (List ℕ) → Result (List ℕ) F) (leaves : List Leaf) (first : Option (List ℕ)) (lines : Lines) (stands : List (List ℕ) → Type 0) (before after : Output) (text : List ℕ) (result : Result (Unit {0}) (Ending F))
    → Stands answers leaves first lines stands before.taken text → true ≡ (not lines.feed.whole && nat_lt 0 (length lines.feed.line))
    → ((rows : List (List ℕ)) → stands rows → LineTaken answers rows lines.feed.number lines.steps (line_read leaves lines.header (without_cr lines.feed.line)) before after result)
    → EndsSession (machine_sessions answers leaves) text text first after.taken (ending_of result)
finished answers leaves first lines stands before after text result s is taken =
    let p = last_low lines.feed s.feed is in
    subst (λ (t : List ℕ). EndsSession (machine_sessions answers leaves) t t first after.taken (ending_of result)) (sym s.is)
    (last_line_ends answers leaves s.rows s.steps s.front lines.feed.line lines.feed.number lines.header lines.steps first before after result
    s.goes_on s.feed.unbroken p.0 (within lines.feed.number lines.feed.line p.1 s.feed.short) s.wrote s.counted (taken s.rows s.stood))

pub finished_front : {F : Type 0} (answers : List (List ℕ) → Result (List ℕ) F) (leaves : List Leaf) (first : Option (List ℕ)) (lines : Lines) (stands : List (List ℕ) → Type 0) (before after : Output) (text : List ℕ) (result : Result (Unit {0}) (Ending F))
    → Stands answers leaves first lines stands before.taken text → true ≡ (not lines.feed.whole && nat_lt 0 (length lines.feed.line))
    → ((rows : List (List ℕ)) → stands rows → LineTaken answers rows lines.feed.number lines.steps (line_read leaves lines.header (without_cr lines.feed.line)) before after result)
    → Fronts (machine_sessions answers leaves text true) first after.taken
finished_front answers leaves first lines stands before after text result s is taken =
    let p = last_low lines.feed s.feed is in
    subst (λ (t : List ℕ). Fronts (machine_sessions answers leaves t true) first after.taken) (sym s.is)
    (last_line_fronts answers leaves s.rows s.steps s.front lines.feed.line lines.feed.number lines.header lines.steps first before after result
    s.goes_on s.feed.unbroken p.0 (within lines.feed.number lines.feed.line p.1 s.feed.short) s.wrote s.counted (taken s.rows s.stood))
