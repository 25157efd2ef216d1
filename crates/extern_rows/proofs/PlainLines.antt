-- A line without quotes is cut at its commas.
use Rattle.std.proofs.Common.{◌≡◌, ℕ, ◌+◌, ◌==◌, ◌<◌, ◌≤◌, Bool, true, false, List, [], ◌∷◌, ◌++◌, length, get_or, take, drop, Option, Some, refl, ap, sym, ◌∙◌, arith, get_or-drop, drop-cons, add-one}
use Rattle.std.specs.Prelude.{◌-◌, ◌||◌, ◌&&◌, not, if◌then◌else◌, IsTrue}
use Rattle.std.specs.Option.{option_map}
use Rattle.std.specs.List.{list_any, list_all}
use Rattle.std.proofs.lemmas.List.{take_more, length-drop}
use Rattle.std.proofs.Math.Seq.{drop-length}
use Rattle.std.proofs.lemmas.Bool.{ne_eqb}
use Rattle.csv.specs.Machine.{Read, next_record}
use Rattle.csv.specs.Reading.{default_config, strip_bom}
use Rattle.csv.specs.declared.parser.State.TheVariants as st
use Rattle.extern_rows.specs.Records.{first_record, line_fields, is_plain_byte, is_plain}

-- the parts of a text between its commas, behind these and the bytes of the one at hand
pub cut : List (List ℕ) → List ℕ → List ℕ → List (List ℕ)
cut fields field [] = fields ++ field ∷ []
cut fields field (b ∷ text) = if b == 44 then cut (fields ++ field ∷ []) [] text else cut fields (field ++ b ∷ []) text

-- ---- plain bytes

both : (a b : Bool) → (a && b) ≡ true → (a ≡ true) × (b ≡ true)
both true b e = (refl, e)
both false b e = absurd (cc)

none_of : (p q r s : Bool) → not (p || q || r || s) ≡ true → (p ≡ false) × (q ≡ false) × (r ≡ false) × (s ≡ false)
none_of true q r s e = absurd (cc)
none_of false true r s e = absurd (cc)
none_of false false true s e = absurd (cc)
none_of false false false true e = absurd (cc)
none_of false false false false e = (refl, refl, refl, refl)

plain_byte : (b : ℕ) → is_plain_byte b ≡ true → ((b == 34) ≡ false) × ((b == 13) ≡ false) × ((b == 10) ≡ false) × ((b == 239) ≡ false)
plain_byte b e = none_of (b == 34) (b == 13) (b == 10) (b == 239) e

-- ---- the machine

comma_ends : (fields : List (List ℕ)) (field : List ℕ) (b : ℕ) (text : List ℕ) → (b == 44) ≡ true
    → next_record default_config st.InField fields field (b ∷ text) ≡ next_record default_config st.StartField (fields ++ field ∷ []) [] text
unfolding next_record
comma_ends fields field b text c = rw c refl

plain_joins : (fields : List (List ℕ)) (field : List ℕ) (b : ℕ) (text : List ℕ) → (b == 44) ≡ false → (b == 13) ≡ false → (b == 10) ≡ false
    → next_record default_config st.InField fields field (b ∷ text) ≡ next_record default_config st.InField fields (field ++ b ∷ []) text
unfolding next_record
plain_joins fields field b text c r n = rw (c, r, n) refl

start_same : (fields : List (List ℕ)) (field : List ℕ) (b : ℕ) (text : List ℕ) → (b == 34) ≡ false
    → next_record default_config st.StartField fields field (b ∷ text) ≡ next_record default_config st.InField fields field (b ∷ text)
unfolding next_record
start_same fields field b text q = rw q refl

record_same : (fields : List (List ℕ)) (field : List ℕ) (b : ℕ) (text : List ℕ) → (b == 13) ≡ false → (b == 10) ≡ false
    → next_record default_config st.StartRecord fields field (b ∷ text) ≡ next_record default_config st.StartField fields field (b ∷ text)
unfolding next_record
record_same fields field b text r n = rw (r, n) refl

abbrev whole : List (List ℕ) → Option Read
whole fields = Some (fields, st.StartRecord, [])

-- a plain text from within a field, and from the start of one
plain_text : (fields : List (List ℕ)) (field text : List ℕ) → list_all is_plain_byte text ≡ true
    → (next_record default_config st.InField fields field text ≡ whole (cut fields field text))
    × (next_record default_config st.StartField fields field text ≡ whole (cut fields field text))
unfolding next_record cut
plain_text fields field [] e = (refl, refl)
plain_text fields field (b ∷ text) e =
    let parts = both (is_plain_byte b) (list_all is_plain_byte text) e in
    let plain = plain_byte b parts.0 in
    let within = at (plain_text (fields ++ field ∷ []) [] text parts.1).1 (plain_text fields (field ++ b ∷ []) text parts.1).0 plain.1 plain.2 (b == 44) refl in
    (within, start_same fields field b text plain.0 ∙ within)
  where
    at : next_record default_config st.StartField (fields ++ field ∷ []) [] text ≡ whole (cut (fields ++ field ∷ []) [] text)
        → next_record default_config st.InField fields (field ++ b ∷ []) text ≡ whole (cut fields (field ++ b ∷ []) text)
        → (b == 13) ≡ false → (b == 10) ≡ false → (v : Bool) → (b == 44) ≡ v
        → next_record default_config st.InField fields field (b ∷ text) ≡ whole (if v then cut (fields ++ field ∷ []) [] text else cut fields (field ++ b ∷ []) text)
    at ends joins r n true c = comma_ends fields field b text c ∙ ends
    at ends joins r n false c = plain_joins fields field b text c r n ∙ joins

-- ---- lines

no_mark : (b : ℕ) (text : List ℕ) → (b == 239) ≡ false → strip_bom (b ∷ text) ≡ b ∷ text
unfolding strip_bom
no_mark b [] e = refl
no_mark b (c ∷ []) e = refl
no_mark b (c ∷ d ∷ text) e = rw e refl

no_return : (text : List ℕ) → list_all is_plain_byte text ≡ true → list_any (λ b. b == 13) text ≡ false
no_return [] e = refl
no_return (b ∷ text) e =
    let parts = both (is_plain_byte b) (list_all is_plain_byte text) e in
    rw ((plain_byte b parts.0).1, no_return text parts.1) refl

plain_first : (b : ℕ) (text : List ℕ) → list_all is_plain_byte (b ∷ text) ≡ true → first_record (b ∷ text) ≡ Some (cut [] [] (b ∷ text))
plain_first b text e =
    let plain = plain_byte b (both (is_plain_byte b) (list_all is_plain_byte text) e).0 in
    ap (λ (xs : List ℕ). option_map (λ (p : Read). p.0) (next_record default_config st.StartRecord [] [] xs)) (no_mark b text plain.3)
    ∙ ap (option_map (λ (p : Read). p.0)) (record_same [] [] b text plain.1 plain.2 ∙ (plain_text [] [] (b ∷ text) e).1)

pub plain_line : (line : List ℕ) → IsTrue (is_plain line) → line_fields line ≡ Some (cut [] [] line)
plain_line [] e = absurd (cc)
plain_line (b ∷ text) e =
    let all = (both _ _ e).1 in
    rw (no_return (b ∷ text) all) (plain_first b text all)

-- ---- one byte more

-- A line is cut up to a place: these fields stand, and one that begins at the start is at hand.
abbrev pub CutTo : List ℕ → List (List ℕ) → ℕ → ℕ → Type 0
CutTo line fields start place = (start ≤ place) × (cut [] [] line ≡ cut fields (take (place - start) (drop start line)) (drop place line))

pub cut_start : (line : List ℕ) → CutTo line [] 0 0
cut_start line = (omega arith, refl)

next_byte : (line : List ℕ) (place : ℕ) → place < length line → drop place line ≡ get_or line place 0 ∷ drop (place + 1) line
next_byte line place low = rw add-one (drop-cons line place 0 low)

none_at : (line : List ℕ) (n : ℕ) → take (n - n) (drop n line) ≡ []
none_at line n = let e : n - n ≡ 0 = omega arith in rw e refl

one_more : (line : List ℕ) (start place : ℕ) → start ≤ place → place < length line
    → take (place + 1 - start) (drop start line) ≡ take (place - start) (drop start line) ++ get_or line place 0 ∷ []
one_more line start place from low =
    let n : place + 1 - start ≡ (place - start) + 1 = omega arith in
    let back : start + (place - start) ≡ place = omega arith in
    let within : place - start < length (drop start line) = rw (length-drop start line) (omega arith) in
    ap (λ (k : ℕ). take k (drop start line)) n
    ∙ take_more (drop start line) (place - start) 0 within
    ∙ ap (λ (b : ℕ). take (place - start) (drop start line) ++ b ∷ []) (get_or-drop start line (place - start) 0 ∙ ap (λ (k : ℕ). get_or line k 0) back)

cut_yes : (fields : List (List ℕ)) (field : List ℕ) (b : ℕ) (text : List ℕ) → (b == 44) ≡ true → cut fields field (b ∷ text) ≡ cut (fields ++ field ∷ []) [] text
unfolding cut
cut_yes fields field b text e = rw e refl

cut_no : (fields : List (List ℕ)) (field : List ℕ) (b : ℕ) (text : List ℕ) → (b == 44) ≡ false → cut fields field (b ∷ text) ≡ cut fields (field ++ b ∷ []) text
unfolding cut
cut_no fields field b text e = rw e refl

pub cut_comma : (line : List ℕ) (fields : List (List ℕ)) (start place : ℕ) → place < length line → get_or line place 0 ≡ 44 → CutTo line fields start place
    → CutTo line (fields ++ take (place - start) (drop start line) ∷ []) (place + 1) (place + 1)
cut_comma line fields start place low comma (from, so_far) = (
  omega arith,
  so_far ∙ ap (cut fields (take (place - start) (drop start line))) (next_byte line place low)
      ∙ cut_yes fields (take (place - start) (drop start line)) (get_or line place 0) (drop (place + 1) line) (ap (λ (b : ℕ). b == 44) comma)
      ∙ ap (λ (f : List ℕ). cut (fields ++ take (place - start) (drop start line) ∷ []) f (drop (place + 1) line)) (sym (none_at line (place + 1))),
)

pub cut_byte : (line : List ℕ) (fields : List (List ℕ)) (start place : ℕ) → place < length line → (get_or line place 0 ≡ 44 → ⊥) → CutTo line fields start place
    → CutTo line fields start (place + 1)
cut_byte line fields start place low other (from, so_far) = (
  omega (arith, from),
  so_far ∙ ap (cut fields (take (place - start) (drop start line))) (next_byte line place low)
      ∙ cut_no fields (take (place - start) (drop start line)) (get_or line place 0) (drop (place + 1) line) (ne_eqb (get_or line place 0) 44 other)
      ∙ ap (λ (f : List ℕ). cut fields f (drop (place + 1) line)) (sym (one_more line start place from low)),
)

-- a field that is put behind others, where none was at hand
pub put : (before after : List (List ℕ)) (partial field : List ℕ) → after ≡ before ++ (partial ++ field) ∷ [] → partial ≡ [] → after ≡ before ++ field ∷ []
put before after partial field is none = is ∙ ap (λ (p : List ℕ). before ++ (p ++ field) ∷ []) none

-- the last field, at the end of a plain line
pub cut_end : (line : List ℕ) (fields : List (List ℕ)) (start place : ℕ) → IsTrue (is_plain line) → place ≡ length line → CutTo line fields start place
    → line_fields line ≡ Some (fields ++ take (length line - start) (drop start line) ∷ [])
unfolding cut
cut_end line fields start place plain end (from, so_far) =
    plain_line line plain
    ∙ ap Some (so_far
    ∙ ap (λ (p : ℕ). cut fields (take (p - start) (drop start line)) (drop p line)) end
    ∙ ap (cut fields (take (length line - start) (drop start line))) (drop-length line))
