-- The words of statics that are as a program declares them give them back.
use Rattle.std.proofs.Common.{◌≡◌, ℕ, zero, suc, true, List, [], ◌∷◌, ◌++◌, length, append_assoc, Option, Some, None, refl, ap, ◌∙◌, arith}
use Rattle.std.specs.Prelude.{IsTrue, is_some, slice_get}
use Rattle.c99_tree.proofs.LookedUp.{all_at}
use Rattle.std.specs.List.{list_all, flat_map, AllZip}
use Rattle.std.specs.Option.{option_map, option_map_or, option_and_then}
use Rattle.c99_tree.specs.declared.types.CTy.{CTy}
use Rattle.c99_tree.specs.declared.types.CVar.{CVar}
use Rattle.c99_tree.specs.declared.types.CDef.{CDef}
use Rattle.c99_tree.specs.declared.unit.CRing.{CRing}
use Rattle.c99_tree.specs.declared.unit.Unit.{Unit as CUnit}
use Rattle.c99_tree.specs.Values.{Value, Shape, shape_of, filled, repeated, row_values, words_of}
use Rattle.c99_tree.specs.Evaluation.{RingState, Statics}
use Rattle.c99_tree.specs.Typed.{IsValueOf, IsRingOf, IsStatics}
use Rattle.c99_tree.specs.WellFormed.{types_come_first}
use Rattle.c99_tree.proofs.WordsBack.{words_back}
use Rattle.c99_tree.proofs.Shaped.{rings_shaped, externs_shaped}
use Rattle.sm_io.proofs.Truths.{left_passes, right_passes}
use Rattle.c_exec.specs.Machine.{values_in, rings_in, copies_in, statics_in, words_of_ring, words_of_statics}

-- ---- options

shape_there : {A : Type 0} (o : Option A) → is_some o ≡ true → (a : A) × (o ≡ Some a)
shape_there None h = absurd (cc h)
shape_there (Some a) h = (a, refl)

then_at : {A B : Type 0} (o : Option A) (f : A → Option B) (a : A) (b : Option B) → o ≡ Some a → f a ≡ b → option_and_then f o ≡ b
then_at o f a b e h = rw e h

map_at : {A B : Type 0} (o : Option A) (f : A → B) (a : A) → o ≡ Some a → option_map f o ≡ Some (f a)
map_at o f a e = rw e refl

-- ---- copies

row_back : (ds : List CDef) (xs : List CVar) (vs : List Value) (rest : List ℕ) → list_all (λ x. is_some (shape_of ds x.ty)) xs ≡ true → AllZip (λ (x : CVar) v. IsValueOf ds x.ty v) xs vs
    → row_values ds xs (flat_map words_of vs ++ rest) ≡ Some (vs, rest)
row_back ds [] [] rest h z = refl
row_back ds [] (v ∷ vs) rest h z = absurd z
row_back ds (x ∷ xs) [] rest h z = absurd z
row_back ds (x ∷ xs) (v ∷ vs) rest h z =
    let s = shape_there (shape_of ds x.ty) (left_passes (is_some (shape_of ds x.ty)) (list_all (λ (y : CVar). is_some (shape_of ds y.ty)) xs) h) in
    let more : List ℕ = flat_map words_of vs ++ rest in
    let regroup : (words_of v ++ flat_map words_of vs) ++ rest ≡ words_of v ++ more = append_assoc (words_of v) (flat_map words_of vs) rest in
    let others = row_back ds xs vs rest (right_passes (is_some (shape_of ds x.ty)) (list_all (λ (y : CVar). is_some (shape_of ds y.ty)) xs) h) z.1 in
    ap (row_values ds (x ∷ xs)) regroup
    ∙ then_at (shape_of ds x.ty) (λ (t : Shape). option_and_then (λ (a : Value × List ℕ). option_map (λ (b : List Value × List ℕ). (a.0 ∷ b.0, b.1)) (row_values ds xs a.1)) (filled t (words_of v ++ more))) s.0 (Some (v ∷ vs, rest)) s.1
    (then_at (filled s.0 (words_of v ++ more)) (λ (a : Value × List ℕ). option_map (λ (b : List Value × List ℕ). (a.0 ∷ b.0, b.1)) (row_values ds xs a.1)) (v, more) (Some (v ∷ vs, rest)) (words_back ds x.ty s.0 v more s.1 z.0)
    (map_at (row_values ds xs more) (λ (b : List Value × List ℕ). (v ∷ b.0, b.1)) (vs, rest) others))

-- ---- rings

times_back : (ds : List CDef) (r : CTy) (s : Shape) (n : ℕ) (vs : List Value) (rest : List ℕ) → shape_of ds r ≡ Some s → length vs ≡ n → ((k : ℕ) → (v : Value) → slice_get vs k ≡ Some v → IsValueOf ds r v)
    → repeated n (filled s) (flat_map words_of vs ++ rest) ≡ Some (vs, rest)
times_back ds r s zero [] rest e l h = refl
times_back ds r s zero (v ∷ vs) rest e l h = absurd (omega (arith, l))
times_back ds r s (suc n) [] rest e l h = absurd (omega (arith, l))
times_back ds r s (suc n) (v ∷ vs) rest e l h =
    let more : List ℕ = flat_map words_of vs ++ rest in
    let regroup : (words_of v ++ flat_map words_of vs) ++ rest ≡ words_of v ++ more = append_assoc (words_of v) (flat_map words_of vs) rest in
    let others = times_back ds r s n vs rest e (omega (arith, l)) (λ k w q. h (suc k) w q) in
    ap (repeated (suc n) (filled s)) regroup
    ∙ then_at (filled s (words_of v ++ more)) (λ (a : Value × List ℕ). option_map (λ (b : List Value × List ℕ). (a.0 ∷ b.0, b.1)) (repeated n (filled s) a.1)) (v, more) (Some (v ∷ vs, rest)) (words_back ds r s v more e (h 0 v refl))
    (map_at (repeated n (filled s) more) (λ (b : List Value × List ℕ). (v ∷ b.0, b.1)) (vs, rest) others)

values_back : (ds : List CDef) (r : CRing) (state : RingState) (rest : List ℕ) → is_some (shape_of ds r.ty) ≡ true → IsRingOf ds r state → values_in ds r (flat_map words_of state.values ++ rest) ≡ (state.values, rest)
values_back ds r state rest h z =
    let s = shape_there (shape_of ds r.ty) h in
    let whole : option_and_then (λ (t : Shape). repeated r.len (filled t) (flat_map words_of state.values ++ rest)) (shape_of ds r.ty) ≡ Some (state.values, rest) =
    then_at (shape_of ds r.ty) (λ (t : Shape). repeated r.len (filled t) (flat_map words_of state.values ++ rest)) s.0 (Some (state.values, rest)) s.1
    (times_back ds r.ty s.0 r.len state.values rest s.1 z.long (λ k v q. all_at (IsValueOf ds r.ty) state.values k v z.each q)) in
    ap (λ (o : Option (List Value × List ℕ)). option_map_or (λ (a : List Value × List ℕ). a) o ([], flat_map words_of state.values ++ rest)) whole

rings_back : (ds : List CDef) (rs : List CRing) (ss : List RingState) → list_all (λ r. is_some (shape_of ds r.ty)) rs ≡ true → AllZip (IsRingOf ds) rs ss → rings_in ds rs (flat_map words_of_ring ss) ≡ ss
rings_back ds [] [] h z = refl
rings_back ds [] (s ∷ ss) h z = absurd z
rings_back ds (r ∷ rs) [] h z = absurd z
rings_back ds (r ∷ rs) (s ∷ ss) h z =
    let v = values_back ds r s (flat_map words_of_ring ss) (left_passes (is_some (shape_of ds r.ty)) (list_all (λ (y : CRing). is_some (shape_of ds y.ty)) rs) h) z.0 in
    let others = rings_back ds rs ss (right_passes (is_some (shape_of ds r.ty)) (list_all (λ (y : CRing). is_some (shape_of ds y.ty)) rs) h) z.1 in
    ap (λ (a : List Value × List ℕ). record { values = a.0; index = s.index } ∷ rings_in ds rs a.1) v
    ∙ ap (λ (all : List RingState). s ∷ all) others

-- ---- statics

pub statics_back : (u : CUnit) (s : Statics) → IsTrue (types_come_first u) → IsStatics u s → statics_in u (words_of_statics s) ≡ s
statics_back u s t h =
    let row = row_back u.types u.externs s.copies (flat_map words_of_ring s.rings) (externs_shaped u t) h.copies in
    let copies : copies_in u (words_of_statics s) ≡ (s.copies, flat_map words_of_ring s.rings) =
    ap (λ (o : Option (List Value × List ℕ)). option_map_or (λ (a : List Value × List ℕ). a) o ([], words_of_statics s)) row in
    let rings = rings_back u.types u.rings s.rings (rings_shaped u t) h.rings in
    ap (λ (a : List Value × List ℕ). both a.0 (rings_in u.types u.rings a.1)) copies ∙ ap (both s.copies) rings
  where
    both : List Value → List RingState → Statics
    both vs rs = record { copies = vs; rings = rs }
