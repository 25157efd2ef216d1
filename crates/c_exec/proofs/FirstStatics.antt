-- The words that a machine begins with are those of the statics before the first call.
use Rattle.std.proofs.Common.{◌≡◌, ℕ, zero, suc, ◌+◌, true, List, [], ◌∷◌, ◌++◌, length, map, Option, Some, None, refl, sym, ap, ◌∙◌, append_assoc, arith}
use Rattle.std.specs.Prelude.{is_some, replicate}
use Rattle.std.specs.List.{list_all, flat_map, sum_by, AllZip}
use Rattle.std.specs.Option.{option_map, option_map_or, option_and_then}
use Rattle.std.proofs.lemmas.List.{length-append, append-nil}
use Rattle.std.proofs.lemmas.List.Sums.{sum_by-cons}
use Rattle.c99_tree.specs.declared.types.CVar.{CVar}
use Rattle.c99_tree.specs.declared.types.CDef.{CDef}
use Rattle.c99_tree.specs.declared.unit.CRing.{CRing}
use Rattle.c99_tree.specs.declared.unit.Unit.{Unit as CUnit}
use Rattle.c99_tree.specs.Values.{Value, Shape, Shapes, scalar, members, elements, no_shape, and_shape, shape_of, filled, repeated, whole, first_values, zero_value, zero_values, copies_of, no_such_value, words_of, words_of_all}
use Rattle.c99_tree.specs.Run.{first_copy, first_ring, first_statics}
use Rattle.c99_tree.specs.WellFormed.{IsWellFormed}
use Rattle.c99_tree.proofs.Shaped.{externs_shaped}
use Rattle.c99_tree.proofs.TypedShapes.{IfSome, map_has, then_has, first_copies_are}
use Rattle.c99_tree.proofs.TypedRuns.{first_statics_are}
use Rattle.sm_io.proofs.Truths.{left_passes, right_passes}
use Rattle.c_exec.specs.Layout.{var_width}
use Rattle.c_exec.specs.Machine.{words_of_ring, words_of_statics, first_words, statics_in}
use Rattle.c_exec.proofs.LaidOut.{copies_long}
use Rattle.c_exec.proofs.StaticsBack.{statics_back}
use Rattle.c_exec.proofs.StepGoes.{filled_all_of_it}

-- ---- zeros

abbrev zeros : ℕ → List ℕ
zeros n = replicate n 0

abbrev AreZeros : List ℕ → Type 0
AreZeros ws = ws ≡ zeros (length ws)

joined : (n m : ℕ) → zeros n ++ zeros m ≡ zeros (n + m)
joined zero m = let e : m ≡ 0 + m = omega arith in ap (λ (k : ℕ). zeros k) e
joined (suc n) m =
    let e : suc (n + m) ≡ suc n + m = omega arith in
    ap (λ (ws : List ℕ). 0 ∷ ws) (joined n m) ∙ ap (λ (k : ℕ). zeros k) e

zeros_behind : (a b : List ℕ) → AreZeros a → AreZeros b → AreZeros (a ++ b)
zeros_behind a b h g =
    ap (λ (ws : List ℕ). ws ++ b) h ∙ ap (λ (ws : List ℕ). zeros (length a) ++ ws) g ∙ joined (length a) (length b)
    ∙ ap (λ (n : ℕ). zeros n) (sym (length-append a b))

copies_zero : (n : ℕ) (v : Value) → AreZeros (words_of v) → AreZeros (words_of_all (copies_of n v))
copies_zero zero v h = refl
copies_zero (suc n) v h = zeros_behind (words_of v) (words_of_all (copies_of n v)) h (copies_zero n v h)

mutual
  zero_words : (s : Shape) → AreZeros (words_of (zero_value s))
  zero_words (scalar t) = refl
  zero_words (members ss) = zeros_words ss
  zero_words (elements n s) = copies_zero n (zero_value s) (zero_words s)

  zeros_words : (ss : Shapes) → AreZeros (words_of_all (zero_values ss))
  zeros_words no_shape = refl
  zeros_words (and_shape s ss) = zeros_behind (words_of (zero_value s)) (words_of_all (zero_values ss)) (zero_words s) (zeros_words ss)

first_zero : (o : Option Shape) → is_some o ≡ true → (w : Value)
    → AreZeros (words_of (option_map_or zero_value o w))
first_zero None h w = absurd (cc h)
first_zero (Some s) h w = zero_words s

-- ---- copies

copies_first : (ds : List CDef) (xs : List CVar) → list_all (λ (x : CVar). is_some (shape_of ds x.ty)) xs ≡ true
    → AllZip (λ (x : CVar) (v : Value). length (words_of v) ≡ var_width ds x) xs (map (first_copy ds) xs)
    → flat_map words_of (map (first_copy ds) xs) ≡ zeros (sum_by (var_width ds) xs)
copies_first ds [] h z = refl
copies_first ds (x ∷ xs) h z =
    let here = left_passes (is_some (shape_of ds x.ty)) (list_all (λ (y : CVar). is_some (shape_of ds y.ty)) xs) h in
    let rest = right_passes (is_some (shape_of ds x.ty)) (list_all (λ (y : CVar). is_some (shape_of ds y.ty)) xs) h in
    let one : words_of (first_copy ds x) ≡ zeros (var_width ds x) =
    first_zero (shape_of ds x.ty) here no_such_value ∙ ap (λ (n : ℕ). zeros n) z.0 in
    ap (λ (ws : List ℕ). ws ++ flat_map words_of (map (first_copy ds) xs)) one
    ∙ ap (λ (ws : List ℕ). zeros (var_width ds x) ++ ws) (copies_first ds xs rest z.1)
    ∙ joined (var_width ds x) (sum_by (var_width ds) xs) ∙ ap (λ (n : ℕ). zeros n) (sym (sum_by-cons (var_width ds) x xs))

-- ---- rings

times_again : (n : ℕ) (s : Shape) (ws : List ℕ) → IfSome (repeated n (filled s) ws) (λ a. flat_map words_of a.0 ++ a.1 ≡ ws)
times_again zero s ws = refl
times_again (suc n) s ws =
    then_has (λ (a : Value × List ℕ). option_map (λ (b : List Value × List ℕ). (a.0 ∷ b.0, b.1)) (repeated n (filled s) a.1)) (filled s ws)
    (λ a. words_of a.0 ++ a.1 ≡ ws) (λ b. flat_map words_of b.0 ++ b.1 ≡ ws) (filled_all_of_it s ws (filled s ws) refl)
    (λ a p. map_has (λ (b : List Value × List ℕ). (a.0 ∷ b.0, b.1)) (repeated n (filled s) a.1) (λ b. flat_map words_of b.0 ++ b.1 ≡ a.1)
    (λ b. flat_map words_of b.0 ++ b.1 ≡ ws) (times_again n s a.1)
    (λ b q. append_assoc (words_of a.0) (flat_map words_of b.0) b.1 ∙ ap (λ (z : List ℕ). words_of a.0 ++ z) q ∙ p))

whole_words : (ws : List ℕ) (vs : List Value) (o : Option (List Value × List ℕ)) → IfSome o (λ a. flat_map words_of a.0 ++ a.1 ≡ ws)
    → option_and_then whole o ≡ Some vs → flat_map words_of vs ≡ ws
whole_words ws vs None h e = absurd (cc e)
whole_words ws vs (Some (xs, [])) h e =
    let same : xs ≡ vs = cc e in
    ap (λ (ys : List Value). flat_map words_of ys) (sym same) ∙ sym (append-nil (flat_map words_of xs)) ∙ h
whole_words ws vs (Some (xs, w ∷ more)) h e = absurd (cc e)

shaped_words : (n : ℕ) (ws : List ℕ) (vs : List Value) (o : Option Shape)
    → option_and_then (λ (s : Shape). option_and_then whole (repeated n (filled s) ws)) o ≡ Some vs → flat_map words_of vs ≡ ws
shaped_words n ws vs None e = absurd (cc e)
shaped_words n ws vs (Some s) e = whole_words ws vs (repeated n (filled s) ws) (times_again n s ws) e

first_values_words : (ds : List CDef) (r : CRing) (o : Option (List Value)) → first_values ds r ≡ o → is_some o ≡ true
    → flat_map words_of (option_map_or (λ (vs : List Value). vs) o []) ≡ r.init
first_values_words ds r None e h = absurd (cc h)
first_values_words ds r (Some vs) e h = shaped_words r.len r.init vs (shape_of ds r.ty) e

abbrev behind_zero : List ℕ → List ℕ
behind_zero ws = 0 ∷ ws

rings_first : (ds : List CDef) (rs : List CRing) → list_all (λ (r : CRing). is_some (first_values ds r)) rs ≡ true
    → flat_map words_of_ring (map (first_ring ds) rs) ≡ flat_map (λ (r : CRing). 0 ∷ r.init) rs
rings_first ds [] h = refl
rings_first ds (r ∷ rs) h =
    let here = left_passes (is_some (first_values ds r)) (list_all (λ (y : CRing). is_some (first_values ds y)) rs) h in
    let rest = right_passes (is_some (first_values ds r)) (list_all (λ (y : CRing). is_some (first_values ds y)) rs) h in
    ap (λ (ws : List ℕ). behind_zero ws ++ flat_map words_of_ring (map (first_ring ds) rs)) (first_values_words ds r (first_values ds r) refl here)
    ∙ ap (λ (ws : List ℕ). behind_zero r.init ++ ws) (rings_first ds rs rest)

-- ---- the statics

pub first_words_are : (u : CUnit) → IsWellFormed u → first_words u ≡ words_of_statics (first_statics u)
first_words_are u w =
    let shaped = externs_shaped u w.types_first in
    let long = copies_long u.types u.externs (map (first_copy u.types) u.externs) shaped (first_copies_are u.types u.externs shaped) in
    sym (ap (λ (ws : List ℕ). ws ++ flat_map words_of_ring (map (first_ring u.types) u.rings)) (copies_first u.types u.externs shaped long)
    ∙ ap (λ (ws : List ℕ). zeros (sum_by (var_width u.types) u.externs) ++ ws) (rings_first u.types u.rings w.constants))

pub first_words_back : (u : CUnit) → IsWellFormed u → statics_in u (first_words u) ≡ first_statics u
first_words_back u w =
    ap (λ (ws : List ℕ). statics_in u ws) (first_words_are u w) ∙ statics_back u (first_statics u) w.types_first (first_statics_are u w)
