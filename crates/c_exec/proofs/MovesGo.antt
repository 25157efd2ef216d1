-- A Move, on what a machine keeps.
use Rattle.std.proofs.Common.{◌≡◌, ℕ, ◌%◌, ◌^◌, ◌<◌, ◌≤◌, true, false, List, [], ◌∷◌, ◌++◌, Result, Ok, Err, refl, ap, ◌∙◌, subst, arith}
use Rattle.std.specs.Prelude.{ℤ, pos, negsuc, IsTrue, unsigned_abs}
use Rattle.std.specs.Int.{int_rem_euclid}
use Rattle.std.proofs.lemmas.Bool.Decides.{nat_tests}
use Rattle.c99_tree.specs.declared.types.CScalar.TheVariants as t
use Rattle.c99_tree.specs.declared.types.CTy.TheVariants as ty
use Rattle.c99_tree.specs.declared.types.CDef.{CDef}
use Rattle.c99_tree.specs.declared.undefined.Undefined.{Undefined}
use Rattle.c99_tree.specs.declared.unit.Unit.{Unit as CUnit}
use Rattle.c99_tree.specs.Tree.{Expr, Stmt, moves}
use Rattle.c99_tree.specs.CTypes.{Num, converted}
use Rattle.c99_tree.specs.Lookup.{ring_of}
use Rattle.c99_tree.specs.Values.{Value, number, struct_of, array_of, number_in, words_of}
use Rattle.c99_tree.specs.Typing.{type_of}
use Rattle.c99_tree.specs.Evaluation.{Met, done, meets, ◌>>=◌, number_result, converted_to, values_in, evaluate}
use Rattle.c99_tree.specs.Step.{Progress, with_statics, with_ring, carry_out}
use Rattle.c99_tree.specs.Typed.{IsValueOf}
use Rattle.c99_tree.specs.WellFormed.{types_come_first}
use Rattle.c99_tree.proofs.LookedUp.{found}
use Rattle.c99_tree.proofs.NumberRanges.{within, range_within}
use Rattle.c99_tree.proofs.TypedStatements.{IsProgress, premises}
use Rattle.c_exec.specs.Codes as codes
use Rattle.c_exec.specs.Codes.{Op}
use Rattle.c_exec.specs.Going.{Memory, Rooms, go, act}
use Rattle.c_exec.specs.Layout.{index_start}
use Rattle.c_exec.specs.Machine.{words_of_statics}
use Rattle.c_exec.specs.Needs.{need}
use Rattle.c_exec.specs.Resolving.{scalar_of, code_of, act_for}
use Rattle.c_exec.specs.Runs.{written}
use Rattle.c_exec.proofs.ExpressionsGo.{conv_sims}
use Rattle.c_exec.proofs.ListsGo.{then_same}
use Rattle.c_exec.proofs.CodeGoes.{fit_there, fit_scalar, scalar_given, index_given, then_then}
use Rattle.c_exec.proofs.StaticsLaid.{expression_goes}
use Rattle.c_exec.proofs.StaticsWrites.{ring_split, index_written}
use Rattle.c_exec.proofs.Follows.{Follows, Agrees, follows_statics, sims_agree}
use Rattle.c_exec.proofs.Known.{Known, one_good}

natural_small : (z : ℤ) → within 32 false z ≡ true → unsigned_abs z < 2 ^ 32
natural_small (pos n) h = grind (arith, nat_tests)
natural_small (negsuc n) h = absurd (cc h)

natural_word : (n : ℕ) → n < 2 ^ 32 → n % 2 ^ 64 ≡ n
natural_word n h = omega (arith, h)

index_word : (z : ℤ) → within 32 false z ≡ true → unsigned_abs (int_rem_euclid z (pos (2 ^ 64))) ≡ unsigned_abs z
index_word (pos n) h = natural_word n (natural_small (pos n) h)
index_word (negsuc n) h = absurd (cc h)

-- the word of an index
pub index_words : (ds : List CDef) (v : Value) → IsValueOf ds (ty.Scalar t.U32) v → words_of v ≡ unsigned_abs (number_in v).n ∷ []
index_words ds (number x) h = ap (λ (w : ℕ). w ∷ []) (index_word x.n (range_within t.U32 x.n h.ranged))
index_words ds (struct_of vs) h = absurd h
index_words ds (array_of vs) h = absurd h

-- a number, and then the same
pub number_then : {B : Type 0} (r : Result Num Undefined) (f : Value → Met B) (g : Num → Met B) → ((k : Num) → f (number k) ≡ g k)
    → (done (number_result r) >>= f) ≡ (done r >>= g)
number_then (Ok k) f g h = ap (meets 0) (h k)
number_then (Err e) f g h = refl

pub move_goes : (u : CUnit) (rs : Rooms) (before : List Stmt) (r : List ℕ) (e : Expr) (p : Progress) (m : Memory) (row : List ℕ) (xs : List Value)
    → IsTrue (types_come_first u) → Known u before (moves r e) → IsProgress u before p → Follows u before p m
    → need (codes.conv (scalar_of u e) t.U32 (code_of u e)) ≤ rs.pile
    → Agrees u (before ++ moves r e ∷ []) (act rs row (act_for u (moves r e)) m) (carry_out u xs (moves r e) p)
move_goes u rs before r e p m row xs first k h f room =
    let c = premises u before (moves r e) p k.ruled h in
    let ring = found (ring_of u r) k.ruled.there in
    let a = fit_there (type_of u e) (ty.Scalar t.U32) k.ruled.fitting in
    let scalar = fit_scalar a.0 t.U32 a.2 in
    let good = one_good u e k.ruled.ranged k.there in
    let given = scalar_given u p.statics c e good.ranges (scalar.0, a.1 ∙ scalar.1) in
    let v : Met Value = evaluate u p.statics e in
    let as_index : Value → Met Value = λ x. done (converted_to (ty.Scalar t.U32) x) in
    let moved : Num → Met Progress = λ i. done (Ok (with_statics p (with_ring u r (values_in u p.statics r) (unsigned_abs i.n) p.statics))) in
    let last : Value → Met Progress = λ x. moved (number_in x) in
    let writes : List ℕ → Met Memory = λ ws. done (Ok (record m { statics = written (index_start u r) ws m.statics })) in
    let code : Op = codes.conv (scalar_of u e) t.U32 (code_of u e) in
    let split = ring_split u p.statics r ring.0 first h.statics ring.1 in
    let same : (v >>= as_index >>= last) ≡ (v >>= λ x. done (converted t.U32 (number_in x)) >>= moved) =
    then_then v as_index last ∙ then_same v (λ x. as_index x >>= last) (λ x. done (converted t.U32 (number_in x)) >>= moved)
    (λ x. number_then (converted t.U32 (number_in x)) last moved (λ i. refl)) in
    subst (λ (z : Met Progress). Agrees u (before ++ moves r e ∷ []) (go rs.pile m.statics code [] >>= writes) z) same
    (sims_agree u (before ++ moves r e ∷ []) rs.pile m.statics (words_of_statics p.statics) code (v >>= as_index) last writes
    (IsValueOf u.types (ty.Scalar t.U32)) f.statics
    (conv_sims u.types rs.pile (words_of_statics p.statics) (scalar_of u e) t.U32 (code_of u e) v given (expression_goes u p.statics rs.pile e a.0 first c good a.1))
    room (index_given u.types (scalar_of u e) v given)
    (λ x q. record {
      value = follows_statics u before (moves r e) p m (with_ring u r (values_in u p.statics r) (unsigned_abs (number_in x).n) p.statics)
          (written (index_start u r) (words_of x) m.statics) (λ z. refl) f
          (ap (λ (ws : List ℕ). written (index_start u r) ws m.statics) (index_words u.types x q)
          ∙ ap (λ (ws : List ℕ). written (index_start u r) (unsigned_abs (number_in x).n ∷ []) ws) f.statics
          ∙ index_written u p.statics r (unsigned_abs (number_in x).n) split);
      count = refl;
    }))
