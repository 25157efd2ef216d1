-- The pieces of an input, one after another.
use Rattle.std.proofs.Common.{◌≡◌, inl, ℕ, List, [], ◌++◌, take, Option, Some, None, IfSome, Result, refl, ap, sym, ◌∙◌, subst, arith, append_assoc, append-nil}
use Rattle.sm_io.specs.Known.{before_known, after_known}
use Rattle.extern_rows.specs.declared.header.Leaf.{Leaf}
use Rattle.extern_rows.specs.Feeding.{start}
use Rattle.row_sessions.specs.Session.{Sessions, EndsSession, RunsSession, streams, machine_sessions}
use Rattle.row_sessions.specs.Standing.{Stands, MayGoOn, FitsLeaves, Ends, StandsOn}
use Rattle.row_sessions.specs.declared.ending.Ending.{Ending}
use Rattle.row_sessions.specs.declared.ending.Ending.TheVariants.{NoMemory}
use Rattle.row_sessions.specs.declared.lines.Lines.{Lines}
use Rattle.row_sessions.proofs.Going.{goes_first}

-- ---- what was left

joined : (x y : List ℕ) (k : Option (List ℕ)) → before_known x (before_known y k) ≡ before_known (x ++ y) k
joined x y None = refl
joined x y (Some z) = ap Some (sym (append_assoc x y z))

pub two_reads : (k k' k'' : Option (List ℕ)) (x y : List ℕ) → k ≡ before_known x k' → k' ≡ before_known y k'' → k ≡ before_known (x ++ y) k''
two_reads k k' k'' x y first second = first ∙ ap (before_known x) second ∙ joined x y k''

none_before : (k : Option (List ℕ)) → before_known [] k ≡ k
none_before None = refl
none_before (Some z) = refl

pub no_read : (k k' k'' : Option (List ℕ)) (x : List ℕ) (n : ℕ) (buf : List ℕ) → k ≡ before_known x k' → n ≡ 0 → k' ≡ before_known (take n buf) k'' → k ≡ before_known x k''
no_read k k' k'' x n buf first none second =
    first ∙ ap (before_known x) (second ∙ ap (λ (m : ℕ). before_known (take m buf) k'') none ∙ none_before k'')

-- ---- a piece more

pub still_goes : {F : Type 0} (answers answers' : List (List ℕ) → Result (List ℕ) F) (leaves : List Leaf) (lines lines' : Lines) (stands stands' : List (List ℕ) → Type 0) (taken taken' : Option (List ℕ)) (bytes : List ℕ)
    → answers' ≡ answers → StandsOn answers' leaves lines lines' stands stands' taken taken' bytes → FitsLeaves leaves lines'.header lines'.row.items
    → MayGoOn answers leaves lines stands taken → MayGoOn answers leaves lines' stands' taken'
still_goes {F = F} answers answers' leaves lines lines' stands stands' taken taken' bytes same step fits m =
    let on : StandsOn answers leaves lines lines' stands stands' taken taken' bytes =
    subst (λ (a : List (List ℕ) → Result (List ℕ) F). StandsOn a leaves lines lines' stands stands' taken taken' bytes) same step in
    record { first = m.first; text = m.text ++ bytes; there = on m.first m.text m.there; fits = fits }

pub piece_goes : {F : Type 0} (answers answers' : List (List ℕ) → Result (List ℕ) F) (leaves : List Leaf) (lines lines' : Lines) (stands stands' : List (List ℕ) → Type 0) (taken taken' first : Option (List ℕ)) (text x bytes : List ℕ)
    → answers' ≡ answers → StandsOn answers' leaves lines lines' stands stands' taken taken' bytes
    → Stands answers leaves first lines stands taken (text ++ x) → Stands answers leaves first lines' stands' taken' (text ++ (x ++ bytes))
piece_goes {F = F} answers answers' leaves lines lines' stands stands' taken taken' first text x bytes same step s =
    let on : StandsOn answers leaves lines lines' stands stands' taken taken' bytes =
    subst (λ (a : List (List ℕ) → Result (List ℕ) F). StandsOn a leaves lines lines' stands stands' taken taken' bytes) same step in
    subst (λ (t : List ℕ). Stands answers leaves first lines' stands' taken' t) (append_assoc text x bytes) (on first (text ++ x) s)

pub piece_ends : {F : Type 0} (answers answers' : List (List ℕ) → Result (List ℕ) F) (leaves : List Leaf) (lines : Lines) (stands : List (List ℕ) → Type 0) (taken first after : Option (List ℕ)) (text x bytes : List ℕ) (ending : Ending F)
    → answers' ≡ answers → ((first : Option (List ℕ)) (text : List ℕ) → Stands answers' leaves first lines stands taken text → Ends answers' leaves first (text ++ bytes) after ending)
    → Stands answers leaves first lines stands taken (text ++ x) → Ends answers leaves first (text ++ (x ++ bytes)) after ending
piece_ends {F = F} answers answers' leaves lines stands taken first after text x bytes ending same ends s =
    let on : Ends answers leaves first ((text ++ x) ++ bytes) after ending =
    subst (λ (a : List (List ℕ) → Result (List ℕ) F). (f : Option (List ℕ)) (t : List ℕ) → Stands a leaves f lines stands taken t → Ends a leaves f (t ++ bytes) after ending) same ends
    first (text ++ x) s in
    subst (λ (t : List ℕ). Ends answers leaves first t after ending) (append_assoc text x bytes) on

-- ---- before any byte

pub none_after : (k : Option (List ℕ)) → k ≡ after_known k []
none_after None = refl
none_after (Some z) = ap Some (sym (append-nil z))

pub stands_first : {F : Type 0} (answers : List (List ℕ) → Result (List ℕ) F) (leaves : List Leaf) (lines : Lines) (stands : List (List ℕ) → Type 0) (taken : Option (List ℕ))
    → lines.feed ≡ start → lines.header ≡ None → lines.steps ≡ 0 → stands [] → Stands answers leaves taken lines stands taken []
stands_first answers leaves lines stands taken feed header steps stood = rw (feed, header, steps) (record {
  rows = [];
  steps = [];
  front = [];
  is = refl;
  feed = record { clear = refl; part = refl; unbroken = λ k d low. absurd (omega arith); short = omega arith; low = inl (omega arith) };
  goes_on = goes_first answers leaves;
  wrote = none_after taken;
  stood = stood;
  counted = refl;
  few = omega arith;
})

-- ---- the whole run

some_none : {X : Type 0} (whole : X) → Some whole ≡ None → ⊥
some_none whole h = absurd (cc)

pub run_ends : {F : Type 0} (sessions : Sessions F) (left left' : Option (List ℕ)) (faults faults' : ℕ) (taken taken' : Option (List ℕ)) (out_faults out_faults' : ℕ) (x : List ℕ) (ending : Ending F)
    → left ≡ before_known x left' → ((back : List ℕ) → EndsSession sessions (x ++ back) x taken taken' ending)
    → RunsSession sessions (streams left faults taken out_faults) (streams left' faults' taken' out_faults') ending
run_ends sessions None left' faults faults' taken taken' out_faults out_faults' x ending is ends = tt
run_ends sessions (Some whole) None faults faults' taken taken' out_faults out_faults' x ending is ends = absurd (some_none whole is)
run_ends sessions (Some whole) (Some rest) faults faults' taken taken' out_faults out_faults' x ending is ends =
    let split : whole ≡ x ++ rest = cc in
    (x, record { rest = rest; left = refl; split = split }, subst (λ (w : List ℕ). EndsSession sessions w x taken taken' ending) (sym split) (ends rest))

pub run_done : {F : Type 0} (sessions : Sessions F) (left left' : Option (List ℕ)) (faults faults' : ℕ) (taken taken' : Option (List ℕ)) (out_faults out_faults' : ℕ) (x : List ℕ) (ending : Ending F)
    → left ≡ before_known x left' → IfSome left' (λ rest. rest ≡ []) → EndsSession sessions x x taken taken' ending
    → RunsSession sessions (streams left faults taken out_faults) (streams left' faults' taken' out_faults') ending
run_done sessions None left' faults faults' taken taken' out_faults out_faults' x ending is none ends = tt
run_done sessions (Some whole) None faults faults' taken taken' out_faults out_faults' x ending is none ends = absurd (some_none whole is)
run_done sessions (Some whole) (Some rest) faults faults' taken taken' out_faults out_faults' x ending is none ends =
    let split : whole ≡ x ++ rest = cc in
    let all : whole ≡ x = split ∙ ap (λ (r : List ℕ). x ++ r) none ∙ append-nil x in
    (x, record { rest = rest; left = refl; split = split }, subst (λ (w : List ℕ). EndsSession sessions w x taken taken' ending) (sym all) ends)

-- No memory was there before any byte was read.
pub nothing_read : {F : Type 0} (answers : List (List ℕ) → Result (List ℕ) F) (leaves : List Leaf) (left : Option (List ℕ)) (faults : ℕ) (taken : Option (List ℕ)) (out_faults : ℕ)
    → RunsSession (machine_sessions answers leaves) (streams left faults taken out_faults) (streams left faults taken out_faults) NoMemory
nothing_read answers leaves left faults taken out_faults =
    run_ends (machine_sessions answers leaves) left left faults faults taken taken out_faults out_faults [] NoMemory (sym (none_before left)) (λ back. (0, inl (omega arith, none_after taken)))

-- the answers of a machine stay
pub there_still : {F : Type 0} (answers answers' : List (List ℕ) → Result (List ℕ) F) (leaves : List Leaf) (first : Option (List ℕ)) (lines : Lines) (stands : List (List ℕ) → Type 0) (taken : Option (List ℕ)) (text : List ℕ)
    → answers' ≡ answers → Stands answers leaves first lines stands taken text → Stands answers' leaves first lines stands taken text
there_still {F = F} answers answers' leaves first lines stands taken text same s =
    subst (λ (a : List (List ℕ) → Result (List ℕ) F). Stands a leaves first lines stands taken text) (sym same) s

pub last_ends : {F : Type 0} (answers answers' : List (List ℕ) → Result (List ℕ) F) (leaves : List Leaf) (first : Option (List ℕ)) (lines : Lines) (stands : List (List ℕ) → Type 0) (taken after : Option (List ℕ)) (text : List ℕ) (ending : Ending F)
    → answers' ≡ answers → ((first : Option (List ℕ)) (text : List ℕ) → Stands answers' leaves first lines stands taken text → EndsSession (machine_sessions answers' leaves) text text first after ending)
    → Stands answers leaves first lines stands taken text → EndsSession (machine_sessions answers leaves) text text first after ending
last_ends {F = F} answers answers' leaves first lines stands taken after text ending same ends s =
    subst (λ (a : List (List ℕ) → Result (List ℕ) F). (f : Option (List ℕ)) (t : List ℕ) → Stands a leaves f lines stands taken t → EndsSession (machine_sessions a leaves) t t f after ending) same ends first text s
