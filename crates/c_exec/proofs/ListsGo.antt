-- Values one after another on the pile, and values as objects of a type get them.
use Rattle.std.proofs.Common.{◌≡◌, ℕ, zero, suc, ◌+◌, ◌≤◌, Bool, true, false, List, [], ◌∷◌, ◌++◌, length, Option, Some, None, Result, Ok, Err, refl, sym, ap, ◌∙◌, subst, append_assoc, arith}
use Rattle.std.specs.Prelude.{IfOk, replicate, if◌then◌else◌}
use Rattle.std.proofs.lemmas.List.{length-append, append-nil}
use Rattle.c99_tree.specs.declared.types.CScalar.{CScalar}
use Rattle.c99_tree.specs.declared.types.CTy.{CTy}
use Rattle.c99_tree.specs.declared.types.CTy.TheVariants as ty
use Rattle.c99_tree.specs.declared.types.CDef.{CDef}
use Rattle.c99_tree.specs.declared.undefined.Undefined.{Undefined}
use Rattle.c99_tree.specs.declared.unit.Unit.{Unit as CUnit}
use Rattle.c99_tree.specs.Tree.{Exprs, none, more}
use Rattle.c99_tree.specs.Values.{Value, Values, struct_of, array_of, no_value, and_value, words_of, words_of_all}
use Rattle.c99_tree.specs.Evaluation.{Met, done, after, meets, ◌>>=◌, converted_to, settled, Statics, evaluate, evaluate_all}
use Rattle.c99_tree.specs.Typed.{IsValueOf}
use Rattle.c99_tree.proofs.TypedValues.{then_gives}
use Rattle.c_exec.specs.Codes.{Op, met, chain, nothing}
use Rattle.c_exec.specs.Going.{go}
use Rattle.c_exec.specs.Needs.{need, wide}
use Rattle.c_exec.specs.Resolving.{scalar_of, as_type, as_settled, code_of, code_of_elements, code_of_values}
use Rattle.c_exec.proofs.Simulates.{pushed, onto}
use Rattle.c_exec.proofs.ExpressionsGo.{Sims, left_room, right_room, conv_sims}

-- ---- one evaluation and then another

abbrev pub met_of : {A : Type 0} → Result A Undefined → ℕ → Met A
met_of r n = record { value = r; count = n }

pub same_met : {A : Type 0} (r s : Result A Undefined) (n m : ℕ) → r ≡ s → n ≡ m → met_of r n ≡ met_of s m
same_met r s n m e h = rw (e, h) refl

same_after : {A B : Type 0} (r : Result A Undefined) (n : ℕ) (f g : A → Met B) → ((x : A) → f x ≡ g x) → after r n f ≡ after r n g
same_after (Ok x) n f g h = ap (meets n) (h x)
same_after (Err e) n f g h = refl

-- what follows is the same at each value
pub then_same : {A B : Type 0} (m : Met A) (f g : A → Met B) → ((x : A) → f x ≡ g x) → (m >>= f) ≡ (m >>= g)
then_same m f g h = same_after m.value m.count f g h

after_done : {A : Type 0} (r : Result A Undefined) (n : ℕ) → after r n (λ x. done (Ok x)) ≡ met_of r n
after_done (Ok x) n = let z : n + 0 ≡ n = omega arith in ap (λ (k : ℕ). met_of (Ok x) k) z
after_done (Err e) n = refl

pub then_done : {A : Type 0} (m : Met A) → (m >>= λ x. done (Ok x)) ≡ m
then_done m = after_done m.value m.count

-- one of two, and then the same
pub either_then : {A B : Type 0} (c : Bool) (r l : Met A) (f : A → Met B) → ((if c then r else l) >>= f) ≡ (if c then (r >>= f) else (l >>= f))
either_then true r l f = refl
either_then false r l f = refl

-- ---- a value as an object of a type gets it

pub as_sims : (ds : List CDef) (room : ℕ) (ws : List ℕ) (to : CTy) (s : CScalar) (a : Op) (m : Met Value)
    → ((t : CScalar) → to ≡ ty.Scalar t → IfOk m.value (IsValueOf ds (ty.Scalar s))) → Sims room ws a m
    → Sims room ws (as_type to s a) (m >>= λ x. done (converted_to to x))
as_sims ds room ws (ty.Scalar t) s a m p h = conv_sims ds room ws s t a m (p t refl) h
as_sims ds room ws (ty.Struct x) s a m p h = subst (λ (z : Met Value). Sims room ws a z) (sym (then_done m)) h
as_sims ds room ws (ty.Array x n) s a m p h = subst (λ (z : Met Value). Sims room ws a z) (sym (then_done m)) h

pub settled_sims : (ds : List CDef) (room : ℕ) (ws : List ℕ) (to : Option CTy) (s : CScalar) (a : Op) (m : Met Value)
    → ((t : CScalar) → to ≡ Some (ty.Scalar t) → IfOk m.value (IsValueOf ds (ty.Scalar s))) → Sims room ws a m
    → Sims room ws (as_settled to s a) (m >>= λ x. done (settled to x))
settled_sims ds room ws None s a m p h = subst (λ (z : Met Value). Sims room ws a z) (sym (then_done m)) h
settled_sims ds room ws (Some to) s a m p h = as_sims ds room ws to s a m (λ t e. p t (ap (λ (z : CTy). Some z) e)) h

-- ---- values one after another

abbrev pub spread : List ℕ → Result (List ℕ) Undefined → Result (List ℕ) Undefined
spread st (Ok xs) = Ok (st ++ xs)
spread st (Err e) = Err e

-- the words of a result on a pile
abbrev pub onto_all : List ℕ → Met (List ℕ) → Met (List ℕ)
onto_all st m = record { value = spread st m.value; count = m.count }

after_spread : (r : Result (List ℕ) Undefined) (n : ℕ) (f g : List ℕ → Met (List ℕ)) (st : List ℕ) (P : List ℕ → Type 0) → IfOk r P
    → ((xs : List ℕ) → P xs → g (st ++ xs) ≡ onto_all st (f xs))
    → after (spread st r) n g ≡ onto_all st (after r n f)
after_spread (Ok xs) n f g st P p h = ap (meets n) (h xs p)
after_spread (Err e) n f g st P p h = refl

-- where there is the room that it needs, it puts these words on any pile, at most as many as it says
pub record Lays (room : ℕ) (ws : List ℕ) (a : Op) (m : Met (List ℕ)) : Type 0 where
  pub goes : (st : List ℕ) → length st + need a ≤ room → go room ws a st ≡ onto_all st m
  pub long : IfOk m.value (λ xs. length xs ≤ wide a)

pub nothing_lays : (room : ℕ) (ws : List ℕ) → Lays room ws nothing (done (Ok []))
unfolding go
nothing_lays room ws = record { goes = λ st h. ap (λ (z : List ℕ). done (Ok z)) (sym (append-nil st)); long = omega arith }

behind_go : (st xs : List ℕ) (r : Result Value Undefined) (n : ℕ)
    → met_of (pushed (st ++ xs) r) n ≡ onto_all st (after r n (λ v. done (Ok (xs ++ words_of v))))
behind_go st xs (Ok v) n =
    let z : n ≡ n + 0 = omega arith in
    same_met (Ok ((st ++ xs) ++ words_of v)) (Ok (st ++ (xs ++ words_of v))) n (n + 0) (ap (λ (y : List ℕ). Ok y) (append_assoc st xs (words_of v))) z
behind_go st xs (Err e) n = refl

behind_long : (k : ℕ) (xs : List ℕ) (n : ℕ) (r : Result Value Undefined) (c : ℕ) → length xs ≤ k → IfOk r (λ v. length (words_of v) ≤ n)
    → IfOk (after r c (λ v. done (Ok (xs ++ words_of v)))).value (λ ys. length ys ≤ k + n)
behind_long k xs n (Ok v) c e h = let j = length-append xs (words_of v) in omega (arith, j, e, h)
behind_long k xs n (Err f) c e h = tt

-- the one and then the words of a value
pub chain_lays : (room : ℕ) (ws : List ℕ) (a b : Op) (m : Met (List ℕ)) (r : Met Value) → Lays room ws a m → Sims room ws b r
    → Lays room ws (chain a b) (m >>= λ xs. r >>= λ v. done (Ok (xs ++ words_of v)))
unfolding go
chain_lays room ws a b m r h g = record {
  goes = λ st k.
      let more : length st + (wide a + need b) ≤ room = right_room (length st) (need a) (wide a + need b) room k in
      ap (λ (z : Met (List ℕ)). z >>= go room ws b) (h.goes st (left_room (length st) (need a) (wide a + need b) room k))
      ∙ after_spread m.value m.count (λ xs. r >>= λ v. done (Ok (xs ++ words_of v))) (go room ws b) st (λ xs. length xs ≤ wide a) h.long
      (λ xs e. g.goes (st ++ xs) (let j = length-append st xs in omega (arith, j, e, more)) ∙ behind_go st xs r.value r.count);
  long = then_gives m (λ xs. r >>= λ v. done (Ok (xs ++ words_of v))) (λ xs. length xs ≤ wide a) (λ ys. length ys ≤ wide a + wide b) h.long
      (λ xs e. behind_long (wide a) xs (wide b) r.value r.count e g.long);
}

-- ---- lists of values

-- each code puts on a pile what the expression gives, as an object of the type at its place gets it
abbrev pub AllSim : CUnit → Statics → ℕ → List ℕ → List CTy → Exprs → Type 0
AllSim u s room ws ts none = Unit {0}
AllSim u s room ws [] (more e es) = ⊥
AllSim u s room ws (to ∷ ts) (more e es) = Sims room ws (as_type to (scalar_of u e) (code_of u e)) (evaluate u s e >>= λ x. done (converted_to to x)) × AllSim u s room ws ts es

-- the words of a value, and of values, behind others
abbrev pub put_behind : Met Value → List ℕ → Met (List ℕ)
put_behind r xs = r >>= λ v. done (Ok (xs ++ words_of v))

abbrev pub put_all_behind : Met Values → List ℕ → Met (List ℕ)
put_all_behind r xs = r >>= λ vs. done (Ok (xs ++ words_of_all vs))

-- a value, and those of a list behind it
abbrev first_of : Result Value Undefined → Met Values → Met Values
first_of f r = done f >>= λ v. r >>= λ vs. done (Ok (and_value v vs))

none_more : (r : Result (List ℕ) Undefined) (n : ℕ) → met_of r n ≡ after r n (put_all_behind (done (Ok no_value)))
none_more (Ok xs) n =
    let z : n ≡ n + (0 + 0) = omega arith in
    same_met (Ok xs) (Ok (xs ++ [])) n (n + (0 + 0)) (ap (λ (y : List ℕ). Ok y) (sym (append-nil xs))) z
none_more (Err e) n = refl

one_converted : (xs : List ℕ) (k n j : ℕ) (f : Result Value Undefined) (r : Result Values Undefined)
    → ((met_of (Ok xs) k >>= put_behind (met_of f (n + 0))) >>= put_all_behind (met_of r j)) ≡ (met_of (Ok xs) k >>= put_all_behind (meets n (first_of f (met_of r j))))
one_converted xs k n j (Err e) r = refl
one_converted xs k n j (Ok v) (Err e) =
    let z : (k + ((n + 0) + 0)) + j ≡ k + (n + (0 + j)) = omega arith in
    ap (λ (i : ℕ). met_of (Err e) i) z
one_converted xs k n j (Ok v) (Ok vs) =
    let z : (k + ((n + 0) + 0)) + (j + 0) ≡ k + ((n + (0 + (j + 0))) + 0) = omega arith in
    same_met (Ok ((xs ++ words_of v) ++ words_of_all vs)) (Ok (xs ++ (words_of v ++ words_of_all vs))) ((k + ((n + 0) + 0)) + (j + 0)) (k + ((n + (0 + (j + 0))) + 0))
    (ap (λ (y : List ℕ). Ok y) (append_assoc xs (words_of v) (words_of_all vs))) z

one_more : (m : Result (List ℕ) Undefined) (k : ℕ) (a : Result Value Undefined) (n : ℕ) (f : Value → Result Value Undefined) (r : Met Values)
    → ((met_of m k >>= put_behind (met_of a n >>= λ x. done (f x))) >>= put_all_behind r) ≡ (met_of m k >>= put_all_behind (met_of a n >>= λ x. first_of (f x) r))
one_more (Err e) k a n f r = refl
one_more (Ok xs) k (Err e) n f r = refl
one_more (Ok xs) k (Ok x) n f r = one_converted xs k n r.count (f x) r.value

pub values_lay : (u : CUnit) (s : Statics) (room : ℕ) (ws : List ℕ) (ts : List CTy) (before : Op) (m : Met (List ℕ)) (es : Exprs) → AllSim u s room ws ts es
    → Lays room ws before m
    → Lays room ws (code_of_values u ts before es) (m >>= put_all_behind (evaluate_all u s ts es))
unfolding evaluate_all
values_lay u s room ws [] before m none h p = subst (λ (z : Met (List ℕ)). Lays room ws before z) (none_more m.value m.count) p
values_lay u s room ws (to ∷ ts) before m none h p = subst (λ (z : Met (List ℕ)). Lays room ws before z) (none_more m.value m.count) p
values_lay u s room ws [] before m (more e es) h p = absurd h
values_lay u s room ws (to ∷ ts) before m (more e es) h p =
    let c : Op = as_type to (scalar_of u e) (code_of u e) in
    let r : Met Value = evaluate u s e >>= λ x. done (converted_to to x) in
    subst (λ (z : Met (List ℕ)). Lays room ws (code_of_values u ts (chain before c) es) z)
    (one_more m.value m.count (evaluate u s e).value (evaluate u s e).count (converted_to to) (evaluate_all u s ts es))
    (values_lay u s room ws ts (chain before c) (m >>= put_behind r) es h.1 (chain_lays room ws before c m r p h.0))

pub elements_lay : (u : CUnit) (s : Statics) (room : ℕ) (ws : List ℕ) (to : CTy) (n : ℕ) (before : Op) (m : Met (List ℕ)) (es : Exprs)
    → AllSim u s room ws (replicate n to) es → Lays room ws before m
    → Lays room ws (code_of_elements u to before es) (m >>= put_all_behind (evaluate_all u s (replicate n to) es))
unfolding evaluate_all
elements_lay u s room ws to zero before m none h p = subst (λ (z : Met (List ℕ)). Lays room ws before z) (none_more m.value m.count) p
elements_lay u s room ws to (suc n) before m none h p = subst (λ (z : Met (List ℕ)). Lays room ws before z) (none_more m.value m.count) p
elements_lay u s room ws to zero before m (more e es) h p = absurd h
elements_lay u s room ws to (suc n) before m (more e es) h p =
    let c : Op = as_type to (scalar_of u e) (code_of u e) in
    let r : Met Value = evaluate u s e >>= λ x. done (converted_to to x) in
    subst (λ (z : Met (List ℕ)). Lays room ws (code_of_elements u to (chain before c) es) z)
    (one_more m.value m.count (evaluate u s e).value (evaluate u s e).count (converted_to to) (evaluate_all u s (replicate n to) es))
    (elements_lay u s room ws to n (chain before c) (m >>= put_behind r) es h.1 (chain_lays room ws before c m r p h.0))

-- ---- a value that is made of a list's

gathered : (f : Values → Value) → ((vs : Values) → words_of (f vs) ≡ words_of_all vs) → (st : List ℕ) (r : Result Values Undefined) (n : ℕ)
    → onto_all st (done (Ok []) >>= put_all_behind (met_of r n)) ≡ onto st (met_of r n >>= λ vs. done (Ok (f vs)))
gathered f g st (Ok vs) n =
    let z : 0 + (n + 0) ≡ n + 0 = omega arith in
    same_met (Ok (st ++ words_of_all vs)) (Ok (st ++ words_of (f vs))) (0 + (n + 0)) (n + 0) (ap (λ (y : List ℕ). Ok (st ++ y)) (sym (g vs))) z
gathered f g st (Err e) n = let z : 0 + n ≡ n = omega arith in ap (λ (k : ℕ). met_of (Err e) k) z

gathered_long : (f : Values → Value) → ((vs : Values) → words_of (f vs) ≡ words_of_all vs) → (k : ℕ) (r : Result Values Undefined) (n : ℕ)
    → IfOk (done (Ok []) >>= put_all_behind (met_of r n)).value (λ xs. length xs ≤ k)
    → IfOk (met_of r n >>= λ vs. done (Ok (f vs))).value (λ v. length (words_of v) ≤ k)
gathered_long f g k (Ok vs) n h = subst (λ (y : List ℕ). length y ≤ k) (sym (g vs)) h
gathered_long f g k (Err e) n h = tt

pub gathers : (room : ℕ) (ws : List ℕ) (a : Op) (f : Values → Value) (m : Met Values) → ((vs : Values) → words_of (f vs) ≡ words_of_all vs)
    → Lays room ws a (done (Ok []) >>= put_all_behind m)
    → Sims room ws (met a) (meets 1 (m >>= λ vs. done (Ok (f vs))))
unfolding go
gathers room ws a f m g h = record {
  goes = λ st k. ap (meets 1) (h.goes st k ∙ gathered f g st m.value m.count);
  long = gathered_long f g (wide a) m.value m.count h.long;
}

pub array_sims : (u : CUnit) (s : Statics) (room : ℕ) (ws : List ℕ) (to : CTy) (n : ℕ) (es : Exprs) → AllSim u s room ws (replicate n to) es
    → Sims room ws (met (code_of_elements u to nothing es)) (meets 1 (evaluate_all u s (replicate n to) es >>= λ vs. done (Ok (array_of vs))))
array_sims u s room ws to n es h =
    gathers room ws (code_of_elements u to nothing es) array_of (evaluate_all u s (replicate n to) es) (λ vs. refl)
    (elements_lay u s room ws to n nothing (done (Ok [])) es h (nothing_lays room ws))

pub struct_sims : (u : CUnit) (s : Statics) (room : ℕ) (ws : List ℕ) (ts : List CTy) (es : Exprs) → AllSim u s room ws ts es
    → Sims room ws (met (code_of_values u ts nothing es)) (meets 1 (evaluate_all u s ts es >>= λ vs. done (Ok (struct_of vs))))
struct_sims u s room ws ts es h =
    gathers room ws (code_of_values u ts nothing es) struct_of (evaluate_all u s ts es) (λ vs. refl)
    (values_lay u s room ws ts nothing (done (Ok [])) es h (nothing_lays room ws))
