-- The lines of a ring are read as they were written.
use Rattle.std.proofs.Common.{◌≡◌, ℕ, ◌<◌, ◌≤◌, Bool, true, false, ◌||◌, leb, eqb, List, [], ◌∷◌, ◌++◌, length, map, Option, Some, None, refl, sym, ap, subst, ◌∙◌, append_assoc, append-nil, codes, arith}
use Rattle.std.specs.Prelude.{if◌then◌else◌}
use Rattle.std.specs.Fmt.{decimal}
use Rattle.std.specs.List.{list_all}
use Rattle.std.specs.Option.{option_map_or, option_and_then}
use Rattle.std.proofs.lemmas.Bool.{and_parts, eqb-true, leb-true, true≢false}
use Rattle.c99_tree.specs.declared.types.CDef.{CDef}
use Rattle.c99_tree.specs.declared.unit.CRing.{CRing}
use Rattle.c99_tree.specs.Words.{is_ring_name}
use Rattle.c99_tree.specs.Values.{Value, values, Shape, filled, repeated, whole, shape_of, first_values}
use Rattle.c99_tree.specs.Spelling.{type_text, constant, constants, constant_height, highest_constant, with_commas, most_height, is_u32, is_spelled_type, is_spelled_ring, line, ring_lines, ring_lines_of}
use Rattle.c99_read.specs.Front.{behind, begins}
use Rattle.c99_read.specs.LineAt.{a_ring, init_at, ring_lines_at}
use Rattle.c99_read.proofs.FrontFinds.{behind_front, ends, number_finds, ring_name_finds, ReadsLines, anything}
use Rattle.c99_read.proofs.TypeFinds.{type_finds}
use Rattle.c99_read.proofs.WordsFind.{times_spent, value_spent, chained, same_some}

-- ---- texts with commas between them

abbrev separated : List ℕ → List (List ℕ) → List ℕ
separated before [] = []
separated before (a ∷ all) = before ++ a ++ separated (codes ", ") all

with_commas-separated : (all : List (List ℕ)) → with_commas all ≡ separated [] all
with_commas-separated [] = refl
with_commas-separated (a ∷ []) = sym (append-nil a)
with_commas-separated (a ∷ b ∷ all) = ap (λ (x : List ℕ). a ++ codes ", " ++ x) (with_commas-separated (b ∷ all)) ∙ simp append_assoc

constants-separated : (before : List ℕ) (vs : List Value) → constants before (values vs) ≡ separated before (map constant vs)
constants-separated before [] = refl
constants-separated before (v ∷ vs) = ap (λ (x : List ℕ). before ++ constant v ++ x) (constants-separated (codes ", ") vs)

pub constants-commas : (vs : List Value) → with_commas (map constant vs) ≡ constants [] (values vs)
constants-commas vs = with_commas-separated (map constant vs) ∙ sym (constants-separated [] vs)

-- ---- the first values

abbrev pub is_low : Value → Bool
is_low v = leb (constant_height v) most_height

low_values : (vs : List Value) → list_all is_low vs ≡ true → highest_constant (values vs) ≤ most_height
low_values [] h = omega arith
low_values (v ∷ vs) h = let p = and_parts (is_low v) (list_all is_low vs) h in let a = leb-true (constant_height v) most_height p.0 in let b = low_values vs p.1 in omega arith

-- a list of values in which no word is left
whole-is : (a : List Value × List ℕ) (vs : List Value) → whole a ≡ Some vs → (a.0 ≡ vs) × (a.1 ≡ [])
whole-is (us, []) vs h = (same_some us vs h, refl)
whole-is (us, w ∷ ws) vs h = absurd (cc h)

pair_is : (a : List Value × List ℕ) (vs : List Value) → a.0 ≡ vs → a.1 ≡ [] → ◌≡◌ {A = Option (List Value × List ℕ)} (Some a) (Some (vs, []))
pair_is (us, ws) vs h g = rw (h, g) refl

init_by : (p : List Value → Bool) (o : Option (List Value)) → option_map_or p o false ≡ true → (vs : List Value) × (o ≡ Some vs) × (p vs ≡ true)
init_by p None h = absurd (true≢false (sym h))
init_by p (Some vs) h = (vs, refl, h)

init_finds : (ds : List CDef) (r : CRing) (vs : List Value) (x : List ℕ) → first_values ds r ≡ Some vs → list_all is_low vs ≡ true → ends x ≡ true
    → init_at ds r.ty r.len (with_commas (map constant vs) ++ x) ≡ Some (r.init, x)
unfolding init_at
init_finds ds r vs x h low e =
    let a = chained (λ (s : Shape). option_and_then whole (repeated r.len (filled s) r.init)) (shape_of ds r.ty) vs h in
    let b = chained whole (repeated r.len (filled a.0) r.init) vs a.2 in
    let w = whole-is b.0 vs b.2 in
    let found : repeated r.len (filled a.0) r.init ≡ Some (vs, []) = b.1 ∙ pair_is b.0 vs w.0 w.1 in
    let s = times_spent r.len most_height a.0 [] r.init vs [] (λ ws v rest g l. value_spent a.0 most_height ws v rest g l) found (low_values vs low) in
    let all : r.init ≡ s.front = s.parts ∙ append-nil s.front in
    rw (a.1, constants-commas vs, s.reads.finds x e, ← all) refl

-- ---- the two forms

abbrev pub indexed_text : CRing → List Value → List ℕ
indexed_text r vs =
    line (codes "static " ++ type_text r.ty ++ codes " cp_b_" ++ r.name ++ codes "[" ++ decimal r.len ++ codes "] = { " ++ with_commas (map constant vs) ++ codes " };")
    ++ line (codes "static uint32_t cp_i_" ++ r.name ++ codes " = 0U;")

abbrev pub single_text : CRing → List Value → List ℕ
single_text r vs = line (codes "static " ++ type_text r.ty ++ codes " cp_b_" ++ r.name ++ codes " = " ++ with_commas (map constant vs) ++ codes ";")

-- the tests that a ring with a spelling has passed
pub record IsSound (ds : List CDef) (r : CRing) : Type 0 where
  pub name : is_ring_name r.name ≡ true
  pub kind : is_spelled_type r.ty ≡ true
  pub len : is_u32 r.len ≡ true
  pub one : (r.indexed || eqb r.len 1) ≡ true
  pub first : option_map_or (list_all is_low) (first_values ds r) false ≡ true

pub sound : (ds : List CDef) (r : CRing) → is_spelled_ring ds r ≡ true → IsSound ds r
sound ds r h =
    let e = and_parts _ (option_map_or (list_all is_low) (first_values ds r) false) h in
    let d = and_parts _ (r.indexed || eqb r.len 1) e.0 in
    let c = and_parts _ (is_u32 r.len) d.0 in
    let b = and_parts (is_ring_name r.name) (is_spelled_type r.ty) c.0 in
    record { name = b.0; kind = b.1; len = c.1; one = d.1; first = e.1 }

pub single_pieces : (a t b n c v d l y : List ℕ) → a ++ t ++ b ++ n ++ c ++ v ++ d ++ l ++ y ≡ a ++ (t ++ (b ++ (n ++ (c ++ (v ++ ((d ++ l) ++ y))))))
single_pieces a t b n c v d l y = simp append_assoc

single_finds : (ds : List CDef) (r : CRing) (vs : List Value) (y : List ℕ) → IsSound ds r → r.indexed ≡ false → r.len ≡ 1 → first_values ds r ≡ Some vs → list_all is_low vs ≡ true
    → ring_lines_at ds (single_text r vs ++ y) ≡ Some (r, y)
unfolding ring_lines_at behind
single_finds ds r vs y s i one h low =
    let v : List ℕ = with_commas (map constant vs) ++ (codes ";\n" ++ y) in
    let rest : List ℕ = codes " = " ++ v in
    let regroup : single_text r vs ++ y ≡ codes "static " ++ (type_text r.ty ++ (codes " cp_b_" ++ (r.name ++ rest))) =
    single_pieces (codes "static ") (type_text r.ty) (codes " cp_b_") r.name (codes " = ") (with_commas (map constant vs)) (codes ";") (codes "\n") y in
    let found : init_at ds r.ty 1 v ≡ Some (r.init, codes ";\n" ++ y) = rw one at (init_finds ds r vs (codes ";\n" ++ y) h low refl) in
    let same : a_ring r.name r.ty 1 false r.init ≡ r = sym (ap (λ (n : ℕ). a_ring r.name r.ty n r.indexed r.init) one ∙ ap (λ (b : Bool). a_ring r.name r.ty 1 b r.init) i) in
    ap (ring_lines_at ds) regroup
    ∙ rw (type_finds r.ty (codes " cp_b_" ++ (r.name ++ rest)) s.kind refl, ring_name_finds r.name rest s.name refl, found) (ap (λ (q : CRing). Some (q, y)) same)

pub indexed_pieces : (a t b n c l d v e k f g y : List ℕ) → a ++ t ++ b ++ n ++ c ++ l ++ d ++ v ++ e ++ k ++ (f ++ n ++ g ++ k) ++ y
    ≡ a ++ (t ++ (b ++ (n ++ (c ++ (l ++ (d ++ (v ++ (((e ++ k ++ f) ++ n ++ (g ++ k)) ++ y))))))))
indexed_pieces a t b n c l d v e k f g y = simp append_assoc

indexed_finds : (ds : List CDef) (r : CRing) (vs : List Value) (y : List ℕ) → IsSound ds r → r.indexed ≡ true → first_values ds r ≡ Some vs → list_all is_low vs ≡ true
    → ring_lines_at ds (indexed_text r vs ++ y) ≡ Some (r, y)
unfolding ring_lines_at behind
indexed_finds ds r vs y s i h low =
    let ending : List ℕ = codes " };\nstatic uint32_t cp_i_" ++ r.name ++ codes " = 0U;\n" in
    let v : List ℕ = with_commas (map constant vs) ++ (ending ++ y) in
    let rest : List ℕ = codes "[" ++ (decimal r.len ++ (codes "] = { " ++ v)) in
    let regroup : indexed_text r vs ++ y ≡ codes "static " ++ (type_text r.ty ++ (codes " cp_b_" ++ (r.name ++ rest))) =
    indexed_pieces (codes "static ") (type_text r.ty) (codes " cp_b_") r.name (codes "[") (decimal r.len) (codes "] = { ") (with_commas (map constant vs)) (codes " };") (codes "\n") (codes "static uint32_t cp_i_") (codes " = 0U;") y in
    let found : init_at ds r.ty r.len v ≡ Some (r.init, ending ++ y) = init_finds ds r vs (ending ++ y) h low refl in
    let same : a_ring r.name r.ty r.len true r.init ≡ r = sym (ap (λ (b : Bool). a_ring r.name r.ty r.len b r.init) i) in
    ap (ring_lines_at ds) regroup
    ∙ rw (type_finds r.ty (codes " cp_b_" ++ (r.name ++ rest)) s.kind refl, ring_name_finds r.name rest s.name refl, number_finds r.len (codes "] = { " ++ v) s.len refl, found, behind_front ending y) (ap (λ (q : CRing). Some (q, y)) same)

-- the lines of a ring whose first values are these
pub lines-are : (ds : List CDef) (r : CRing) (vs : List Value) → first_values ds r ≡ Some vs → ring_lines ds r ≡ (if r.indexed then indexed_text r vs else single_text r vs)
lines-are ds r vs h = ap (λ (o : Option (List Value)). option_map_or (ring_lines_of r) o []) h

choose_lines : (b : Bool) (p q : List ℕ) (P : List ℕ → Type 0) → (b ≡ true → P p) → (b ≡ false → P q) → P (if b then p else q)
choose_lines true p q P f g = f refl
choose_lines false p q P f g = g refl

is_one : (b : Bool) (n : ℕ) → (b || eqb n 1) ≡ true → b ≡ false → n ≡ 1
is_one true n h i = absurd (true≢false i)
is_one false n h i = eqb-true n 1 h

-- what holds of both forms holds of the lines
by_form : (ds : List CDef) (r : CRing) (P : List ℕ → Type 0) → IsSound ds r
    → ((vs : List Value) → first_values ds r ≡ Some vs → list_all is_low vs ≡ true → r.indexed ≡ true → P (indexed_text r vs))
    → ((vs : List Value) → first_values ds r ≡ Some vs → list_all is_low vs ≡ true → r.indexed ≡ false → P (single_text r vs))
    → P (ring_lines ds r)
by_form ds r P s f g =
    let i = init_by (list_all is_low) (first_values ds r) s.first in
    subst P (sym (lines-are ds r i.0 i.1)) (choose_lines r.indexed (indexed_text r i.0) (single_text r i.0) P (f i.0 i.1 i.2) (g i.0 i.1 i.2))

pub rings : (ds : List CDef) → ReadsLines (begins (codes "static ")) anything (ring_lines_at ds) (ring_lines ds) (is_spelled_ring ds)
unfolding behind
rings ds = record {
  starts = λ r y h. by_form ds r (λ t. begins (codes "static ") (t ++ y) ≡ true) (sound ds r h) (λ vs k low i. refl) (λ vs k low i. refl);
  finds = λ r y h e. let s = sound ds r h in by_form ds r (λ t. ring_lines_at ds (t ++ y) ≡ Some (r, y)) s
      (λ vs k low i. indexed_finds ds r vs y s i k low) (λ vs k low i. single_finds ds r vs y s i (is_one r.indexed r.len s.one i) k low);
  goes = λ r y h. refl;
  long = λ r h. by_form ds r (λ t. 0 < length t) (sound ds r h) (λ vs k low i. omega arith) (λ vs k low i. omega arith);
}
