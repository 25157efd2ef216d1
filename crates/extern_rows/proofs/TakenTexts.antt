-- The text that a feed took, a byte more at a time.
use Rattle.std.proofs.Common.{◌≡◌, inl, inr, ℕ, ◌+◌, ◌-◌, ◌<◌, ◌≤◌, Bool, true, false, not, nat_lt, List, [], ◌∷◌, ◌++◌, length, Some, None, refl, ap, sym, ◌∙◌, subst, arith, All, append_assoc, append-nil, length-append}
use Rattle.std.specs.Prelude.{◌&&◌, slice_get, unwrap_or, Option}
use Rattle.std.specs.List.{count_by}
use Rattle.std.proofs.lemmas.Bool.Decides.{nat_tests}
use Rattle.std.proofs.lemmas.List.Elements.{All-push}
use Rattle.std.proofs.lemmas.List.Splits.{slice_split_none, slice_split_at, length-slice_split}
use Rattle.sm_io.specs.Memory.{next}
use Rattle.extern_rows.specs.declared.fault.RowFault.{RowFault}
use Rattle.extern_rows.specs.declared.fault.RowFault.TheVariants.{LineTooLong, TooManyLines}
use Rattle.extern_rows.specs.Lines.{is_break, parts, longest_line, last_line}
use Rattle.extern_rows.specs.Feeding.{Feeding, start, next_line, fed_byte, fed}
use Rattle.extern_rows.specs.FeedStanding.{StandsAfter}
use Rattle.extern_rows.specs.TextRows.{EndsLine}
use Rattle.extern_rows.specs.FeedTexts.{TookText, rest_of, TookNothing, TakesMore, RefusesMore, NextTakesNothing, FinishesText}
use Rattle.extern_rows.proofs.Feeds.{at_line, is_at, kept, past_count, break_byte, other_byte, past_length}
use Rattle.extern_rows.proofs.FeedStanding.{stands_in_texts, moves_on}
use Rattle.extern_rows.proofs.BehindRows.{whole, is_ten}

pub took_nothing : TookNothing
took_nothing = record {
  clear = refl;
  before = [];
  is = refl;
  lines = inl refl;
  number = refl;
  unbroken = λ k d low. absurd (omega arith);
  short = omega arith;
  numbered = λ h. absurd (omega arith);
  goes_on = λ b more. refl;
}

-- ---- the line feeds of a text

-- one more behind a line
one_break : (before line : List ℕ) → EndsLine before → All (λ b. is_break b ≡ false) line → count_by is_break (before ++ line ++ 10 ∷ []) ≡ count_by is_break before + 1
one_break before line e clean =
    let w = whole before e in
    let own : parts before ≡ w.lines ++ [] ∷ [] = ap parts (sym (append-nil before)) ∙ w.split [] in
    let all : parts (before ++ line ++ 10 ∷ []) ≡ w.lines ++ line ∷ [] ∷ [] =
    ap parts (append_assoc before line (10 ∷ [])) ∙ w.split (line ++ 10 ∷ []) ∙ ap (λ (ps : List (List ℕ)). w.lines ++ ps) (slice_split_at is_break line 10 [] clean refl) in
    omega (arith, length-slice_split is_break before, length-slice_split is_break (before ++ line ++ 10 ∷ []), ap length own, ap length all, length-append w.lines ([] ∷ []), length-append w.lines (line ∷ [] ∷ []))

-- ---- the next line

pub next_takes_nothing : NextTakesNothing
next_takes_nothing f text t w =
    let is : text ≡ t.before ++ f.line ++ 10 ∷ [] = rw w at t.is in
    let low : f.number ≤ last_line = t.numbered (rw w (omega arith)) in
    let up : next f.number ≡ f.number + 1 = omega arith in
    record {
      clear = t.clear;
      before = text;
      is = sym (append-nil (text ++ []) ∙ append-nil text);
      lines = inr (t.before ++ f.line, is);
      number = up ∙ ap (λ (k : ℕ). k + 1) (t.number ∙ sym (one_break t.before f.line t.lines t.unbroken) ∙ ap (count_by is_break) (sym is));
      unbroken = λ k d h. absurd (omega arith);
      short = omega arith;
      numbered = λ h. absurd (omega arith);
      goes_on = λ b more. moves_on f b more w t.clear ∙ t.goes_on b more;
    }

-- ---- one byte more

more_goes_on : (f : Feeding) (text : List ℕ) (b : ℕ) → TookText f text → (c : ℕ) (more : List ℕ) → fed (fed_byte f b) (c ∷ more) ≡ fed start ((text ++ b ∷ []) ++ c ∷ more)
more_goes_on f text b t c more = t.goes_on b (c ∷ more) ∙ ap (fed start) (sym (append_assoc text (b ∷ []) (c ∷ more)))

byte_more : (l : List ℕ) (n : ℕ) (text : List ℕ) (b : ℕ) → TookText (at_line l n) text → (fed_byte (at_line l n) b).refusal ≡ None → TookText (fed_byte (at_line l n) b) (text ++ b ∷ [])
byte_more l n text b t clear = count (nat_lt last_line n) refl where
  f : Feeding
  f = at_line l n

  text_is : text ≡ t.before ++ l
  text_is = t.is ∙ append-nil (t.before ++ l)

  as_is : (g : Feeding) → fed_byte f b ≡ g → TookText g (text ++ b ∷ []) → TookText (fed_byte f b) (text ++ b ∷ [])
  as_is g e h = subst (λ (x : Feeding). TookText x (text ++ b ∷ [])) (sym e) h

  refused : (g : Feeding) (fault : RowFault) → fed_byte f b ≡ g → g.refusal ≡ Some fault → TookText (fed_byte f b) (text ++ b ∷ [])
  refused g fault e h = let k : None ≡ Some fault = sym clear ∙ ap (λ (x : Feeding). x.refusal) e ∙ h in absurd (cc)

  goes : (g : Feeding) → fed_byte f b ≡ g → (c : ℕ) (more : List ℕ) → fed g (c ∷ more) ≡ fed start ((text ++ b ∷ []) ++ c ∷ more)
  goes g e c more = ap (λ (x : Feeding). fed x (c ∷ more)) (sym e) ∙ more_goes_on f text b t c more

  ended : n ≤ last_line → is_break b ≡ true → TookText (fed_byte f b) (text ++ b ∷ [])
  ended low e =
      let is : fed_byte f b ≡ record f { whole = true } = break_byte l n b low e in
      as_is (record f { whole = true }) is (record {
        clear = refl;
        before = t.before;
        is = rw (is_ten b e, text_is) refl;
        lines = t.lines;
        number = t.number;
        unbroken = t.unbroken;
        short = t.short;
        numbered = λ h. low;
        goes_on = goes (record f { whole = true }) is;
      })

  longer : n ≤ last_line → is_break b ≡ false → length l < longest_line → TookText (fed_byte f b) (text ++ b ∷ [])
  longer low e room =
      let is : fed_byte f b ≡ at_line (l ++ b ∷ []) n = other_byte l n b low e room in
      as_is (at_line (l ++ b ∷ []) n) is (record {
        clear = refl;
        before = t.before;
        is = ap (λ (xs : List ℕ). xs ++ b ∷ []) text_is ∙ append_assoc t.before l (b ∷ []) ∙ sym (append-nil (t.before ++ (l ++ b ∷ [])));
        lines = t.lines;
        number = t.number;
        unbroken = All-push (λ c. is_break c ≡ false) l b t.unbroken e;
        short = omega (arith, length-append l (b ∷ []));
        numbered = λ h. low;
        goes_on = goes (at_line (l ++ b ∷ []) n) is;
      })

  room : (v : Bool) → nat_lt (length l) longest_line ≡ v → n ≤ last_line → is_break b ≡ false → TookText (fed_byte f b) (text ++ b ∷ [])
  room true r low e = longer low e (grind (arith, nat_tests))
  room false r low e = let full : longest_line ≤ length l = grind (arith, nat_tests) in refused (record f { refusal = Some LineTooLong }) LineTooLong (past_length l n b low e full) refl

  kind : (v : Bool) → is_break b ≡ v → n ≤ last_line → TookText (fed_byte f b) (text ++ b ∷ [])
  kind true e low = ended low e
  kind false e low = room (nat_lt (length l) longest_line) refl low e

  count : (v : Bool) → nat_lt last_line n ≡ v → TookText (fed_byte f b) (text ++ b ∷ [])
  count true e = let past : last_line < n = grind (arith, nat_tests) in refused (record f { refusal = Some TooManyLines }) TooManyLines (past_count l n b past) refl
  count false e = kind (is_break b) refl (grind (arith, nat_tests))

one_more : (f : Feeding) (text : List ℕ) (b : ℕ) → TookText f text → (fed_byte f b).refusal ≡ None → TookText (fed_byte f b) (text ++ b ∷ [])
one_more f text b t clear = at f.whole refl where
  in_line : (g : Feeding) → g.whole ≡ false → TookText g text → (fed_byte g b).refusal ≡ None → TookText (fed_byte g b) (text ++ b ∷ [])
  in_line g w s c =
      let e : g ≡ at_line g.line g.number = is_at g w s.clear in
      subst (λ (x : Feeding). TookText (fed_byte x b) (text ++ b ∷ [])) (sym e)
      (byte_more g.line g.number text b (subst (λ (x : Feeding). TookText x text) e s) (ap (λ (x : Feeding). (fed_byte x b).refusal) (sym e) ∙ c))

  at : (v : Bool) → f.whole ≡ v → TookText (fed_byte f b) (text ++ b ∷ [])
  at false w = in_line f w t clear
  at true w =
      let e : fed_byte (next_line f) b ≡ fed_byte f b = moves_on f b [] w t.clear in
      subst (λ (x : Feeding). TookText x (text ++ b ∷ [])) e
      (in_line (next_line f) refl (next_takes_nothing f text t w) (ap (λ (x : Feeding). x.refusal) e ∙ clear))

pub takes_more : TakesMore
takes_more f text [] t clear = subst (λ (x : List ℕ). TookText f x) (sym (append-nil text)) t
takes_more f text (b ∷ bytes) t clear = at (fed_byte f b).refusal refl (λ s. takes_more (fed_byte f b) (text ++ b ∷ []) bytes s clear) where
  at : (o : Option RowFault) → (fed_byte f b).refusal ≡ o → (TookText (fed_byte f b) (text ++ b ∷ []) → TookText (fed (fed_byte f b) bytes) ((text ++ b ∷ []) ++ bytes)) → TookText (fed f (b ∷ bytes)) (text ++ b ∷ bytes)
  at None e more = subst (λ (x : List ℕ). TookText (fed (fed_byte f b) bytes) x) (append_assoc text (b ∷ []) bytes) (more (one_more f text b t e))
  at (Some fault) e more =
      let k : None ≡ Some fault = sym clear ∙ ap (λ (x : Feeding). x.refusal) (kept (fed_byte f b) fault bytes e) ∙ e in absurd (cc)

pub refuses_more : RefusesMore
refuses_more f text [] fault t h = let k : None ≡ Some fault = sym t.clear ∙ h in absurd (cc)
refuses_more f text (b ∷ bytes) fault t h = subst (λ (x : Feeding). StandsAfter 1 x (text ++ b ∷ bytes)) (sym (t.goes_on b bytes)) (stands_in_texts (text ++ b ∷ bytes))

-- ---- the end of the text

get-last : (ls : List (List ℕ)) (x : List ℕ) → slice_get (ls ++ x ∷ []) (length (ls ++ x ∷ []) - 1) ≡ Some x
get-last ls x = let e : length (ls ++ x ∷ []) - 1 ≡ length ls = omega (arith, length-append ls (x ∷ [])) in rw e (at ls) where
  at : (ks : List (List ℕ)) → slice_get (ks ++ x ∷ []) (length ks) ≡ Some x
  at [] = refl
  at (k ∷ ks) = at ks

rest_is : (text : List ℕ) (ls : List (List ℕ)) (x : List ℕ) → parts text ≡ ls ++ x ∷ [] → rest_of text ≡ x
rest_is text ls x e = ap (λ (ps : List (List ℕ)). unwrap_or (slice_get ps (length ps - 1)) []) e ∙ ap (λ (o : Option (List ℕ)). unwrap_or o []) (get-last ls x)

pub finishes_text : FinishesText
finishes_text f text t = at f.whole refl where
  at : (v : Bool) → f.whole ≡ v → (not v && nat_lt 0 (length f.line)) ≡ nat_lt 0 (length (rest_of text))
  at false w =
      let s = whole t.before t.lines in
      let is : text ≡ t.before ++ f.line = rw w at t.is ∙ append-nil (t.before ++ f.line) in
      let all : parts text ≡ s.lines ++ f.line ∷ [] = ap parts is ∙ s.split f.line ∙ ap (λ (ps : List (List ℕ)). s.lines ++ ps) (slice_split_none is_break f.line t.unbroken) in
      ap (λ (x : List ℕ). nat_lt 0 (length x)) (sym (rest_is text s.lines f.line all))
  at true w =
      let s = whole t.before t.lines in
      let is : text ≡ t.before ++ f.line ++ 10 ∷ [] = rw w at t.is in
      let all : parts text ≡ (s.lines ++ f.line ∷ []) ++ [] ∷ [] =
      ap parts (is ∙ append_assoc t.before f.line (10 ∷ [])) ∙ s.split (f.line ++ 10 ∷ []) ∙ ap (λ (ps : List (List ℕ)). s.lines ++ ps) (slice_split_at is_break f.line 10 [] t.unbroken refl)
      ∙ sym (append_assoc s.lines (f.line ∷ []) ([] ∷ [])) in
      ap (λ (x : List ℕ). nat_lt 0 (length x)) (sym (rest_is text (s.lines ++ f.line ∷ []) [] all))
