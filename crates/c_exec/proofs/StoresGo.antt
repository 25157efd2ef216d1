-- A Store, on what a machine keeps.
use Rattle.std.proofs.Common.{◌≡◌, ℕ, ◌+◌, ◌*◌, ◌≤◌, true, false, List, [], ◌∷◌, ◌++◌, length, take, drop, Option, Some, None, Result, Ok, Err, refl, sym, ap, ◌∙◌, subst, arith}
use Rattle.std.specs.Prelude.{ℤ, pos, negsuc, IsTrue, nat_lt, unsigned_abs, slice_get, slice_set, if◌then◌else◌}
use Rattle.std.specs.List.{list_any}
use Rattle.std.specs.Option.{option_map_or}
use Rattle.std.proofs.lemmas.Bool.Decides.{nat_tests}
use Rattle.std.proofs.lemmas.Option.{slice_get_within}
use Rattle.c99_tree.specs.declared.types.CScalar.{CScalar}
use Rattle.c99_tree.specs.declared.types.CTy.TheVariants as ty
use Rattle.c99_tree.specs.declared.undefined.Undefined.{Undefined}
use Rattle.c99_tree.specs.declared.undefined.Undefined.TheVariants as why
use Rattle.c99_tree.specs.declared.unit.CRing.{CRing}
use Rattle.c99_tree.specs.declared.unit.Unit.{Unit as CUnit}
use Rattle.c99_tree.specs.Tree.{Expr, Stmt, stores}
use Rattle.c99_tree.specs.CTypes.{Num}
use Rattle.c99_tree.specs.Lookup.{ring_of}
use Rattle.c99_tree.specs.Values.{Value, number, struct_of, array_of, number_in, word_of_number, words_of}
use Rattle.c99_tree.specs.Evaluation.{Met, done, ◌>>=◌, Statics, values_in, index_in, element, evaluate}
use Rattle.c99_tree.specs.Step.{Progress, with_statics, with_ring, local_in, stored, carry_out}
use Rattle.c99_tree.specs.Typed.{IsValueOf}
use Rattle.c99_tree.specs.WellFormed.{types_come_first, is_next_of}
use Rattle.c99_tree.proofs.LookedUp.{found}
use Rattle.c99_tree.proofs.WordsBack.{number_back}
use Rattle.c99_tree.proofs.TypedExpressions.{ring_values}
use Rattle.c99_tree.proofs.TypedStatements.{IsProgress, premises}
use Rattle.c_exec.specs.Going.{Memory, Rooms, go, act, store_at}
use Rattle.c_exec.specs.Layout.{index_start, local_start, value_width, ring_length}
use Rattle.c_exec.specs.Machine.{words_of_statics}
use Rattle.c_exec.specs.Needs.{need}
use Rattle.c_exec.specs.Piles.{top}
use Rattle.c_exec.specs.Resolving.{scalar_of, code_of, act_for}
use Rattle.c_exec.specs.Runs.{written}
use Rattle.c_exec.specs.WordNumbers.{place, subscript}
use Rattle.c_exec.proofs.Simulates.{top-one}
use Rattle.c_exec.proofs.ElementsGo.{none_past}
use Rattle.c_exec.proofs.CodeGoes.{scalar_given}
use Rattle.c_exec.proofs.StaticsLaid.{expression_goes}
use Rattle.c_exec.proofs.StaticsWrites.{RingSplit, ring_split, element_written}
use Rattle.c_exec.proofs.Follows.{Follows, Agrees, follows_statics, sims_agree, meets_agree}
use Rattle.c_exec.proofs.Known.{Known, one_good, scalar_expr, value_wide, values_wide}

-- what a Store needs of a ring: the words of the statics, those of the ring's values and those of its local
record Storable (u : CUnit) (r : List ℕ) (p : Progress) (m : Memory) : Type 0 where
  pub split : RingSplit u p.statics r
  pub each : (k : ℕ) (v : Value) → slice_get (values_in u p.statics r) k ≡ Some v → length (words_of v) ≡ value_width u r
  pub local : take (value_width u r) (drop (local_start u r) m.locals) ≡ words_of (local_in u p r)
  pub wide : length (words_of (local_in u p r)) ≡ value_width u r

-- the statics with the local as element k
abbrev stored_at : CUnit → List ℕ → Progress → ℕ → Statics
stored_at u r p k = with_ring u r (slice_set (values_in u p.statics r) k (local_in u p r)) (index_in u p.statics r) p.statics

abbrev stores_at : CUnit → List ℕ → Memory → Result ℕ Undefined → Met Memory
stores_at u r m k = done (store_at (index_start u r + 1) (value_width u r) (local_start u r) m k)

found_agrees : (u : CUnit) (before : List Stmt) (r : List ℕ) (e : Expr) (p : Progress) (m : Memory) (len k : ℕ) → Storable u r p m
    → Follows u before p m → length (values_in u p.statics r) ≡ len → (o : Option Value) → slice_get (values_in u p.statics r) k ≡ o
    → Agrees u (before ++ stores r e ∷ []) (stores_at u r m (if nat_lt k len then Ok k else Err why.BadIndex))
    (done (option_map_or Ok o (Err why.BadIndex)) >>= λ old. done (Ok (with_statics p (stored_at u r p k))))
found_agrees u before r e p m len k g f long None q =
    let past = none_past (values_in u p.statics r) k q in
    let t : nat_lt k len ≡ false = grind (arith, nat_tests, past, long) in
    rw t (record { value = refl; count = refl })
found_agrees u before r e p m len k g f long (Some y) q =
    let within = slice_get_within (values_in u p.statics r) k y q in
    let t : nat_lt k len ≡ true = grind (arith, nat_tests, within, long) in
    let local : List ℕ = take (value_width u r) (drop (local_start u r) m.locals) in
    let start : ℕ = (index_start u r + 1) + k * value_width u r in
    rw t (record {
      value = follows_statics u before (stores r e) p m (stored_at u r p k) (written start local m.statics) (λ z. refl) f
          (ap (λ (ws : List ℕ). written start local ws) f.statics ∙ ap (λ (ws : List ℕ). written start ws (words_of_statics p.statics)) g.local
          ∙ element_written u p.statics r (value_width u r) k y (local_in u p r) g.split g.each q g.wide);
      count = refl;
    })

place_agrees : (u : CUnit) (before : List Stmt) (r : List ℕ) (e : Expr) (p : Progress) (m : Memory) (len : ℕ) (z : ℤ) → Storable u r p m
    → Follows u before p m → length (values_in u p.statics r) ≡ len
    → Agrees u (before ++ stores r e ∷ []) (stores_at u r m (place z len))
    (done (element (values_in u p.statics r) z) >>= λ old. done (Ok (with_statics p (stored_at u r p (unsigned_abs z)))))
place_agrees u before r e p m len (pos k) g f long = found_agrees u before r e p m len k g f long (slice_get (values_in u p.statics r) k) refl
place_agrees u before r e p m len (negsuc k) g f long = record { value = refl; count = refl }

stored_agrees : (u : CUnit) (before : List Stmt) (r : List ℕ) (e : Expr) (s : CScalar) (p : Progress) (m : Memory) (len : ℕ) (v : Value)
    → IsValueOf u.types (ty.Scalar s) v → Storable u r p m → Follows u before p m → length (values_in u p.statics r) ≡ len
    → Agrees u (before ++ stores r e ∷ []) (stores_at u r m (subscript s (top (words_of v)) len)) (stored u r p (number_in v))
stored_agrees u before r e s p m len (number x) h g f long =
    let w : ℕ = word_of_number x in
    let back : subscript s (top (w ∷ [])) len ≡ place x.n len =
    ap (λ (j : ℕ). subscript s j len) (top-one [] w) ∙ ap (λ (y : Num). place y.n len) (number_back s x h).1 in
    subst (λ (k : Result ℕ Undefined). Agrees u (before ++ stores r e ∷ []) (stores_at u r m k) (stored u r p x)) (sym back)
    (place_agrees u before r e p m len x.n g f long)
stored_agrees u before r e s p m len (struct_of vs) h g f long = absurd h
stored_agrees u before r e s p m len (array_of vs) h g f long = absurd h

ring_storable : (u : CUnit) (before : List Stmt) (r : List ℕ) (ring : CRing) (p : Progress) (m : Memory) → IsTrue (types_come_first u)
    → ring_of u r ≡ Some ring → list_any (is_next_of r) before ≡ true → IsProgress u before p → Follows u before p m → Storable u r p m
ring_storable u before r ring p m first e next h f = record {
  split = ring_split u p.statics r ring first h.statics e;
  each = values_wide u p.statics r ring first h.statics e;
  local = f.held r ring e next;
  wide = value_wide u r ring (local_in u p r) first e (h.locals r ring e next);
}

pub store_goes : (u : CUnit) (rs : Rooms) (before : List Stmt) (r : List ℕ) (e : Expr) (p : Progress) (m : Memory) (row : List ℕ) (xs : List Value)
    → IsTrue (types_come_first u) → Known u before (stores r e) → IsProgress u before p → Follows u before p m → need (code_of u e) ≤ rs.pile
    → Agrees u (before ++ stores r e ∷ []) (act rs row (act_for u (stores r e)) m) (carry_out u xs (stores r e) p)
store_goes u rs before r e p m row xs first k h f room =
    let c = premises u before (stores r e) p k.ruled h in
    let ring = found (ring_of u r) k.ruled.there in
    let scalar = scalar_expr u e k.ruled.scalar in
    let good = one_good u e k.ruled.ranged k.there in
    let g = ring_storable u before r ring.0 p m first ring.1 k.ruled.after_next h f in
    let long : length (values_in u p.statics r) ≡ ring_length u r =
    (ring_values u p.statics r ring.0 h.statics ring.1).0 ∙ sym (ap (λ (o : Option CRing). option_map_or (λ (z : CRing). z.len) o 0) ring.1) in
    let writes : List ℕ → Met Memory = λ x. stores_at u r m (subscript (scalar_of u e) (top x) (ring_length u r)) in
    meets_agree u (before ++ stores r e ∷ []) 1 (go rs.pile m.statics (code_of u e) [] >>= writes) (evaluate u p.statics e >>= λ v. stored u r p (number_in v))
    (sims_agree u (before ++ stores r e ∷ []) rs.pile m.statics (words_of_statics p.statics) (code_of u e) (evaluate u p.statics e)
    (λ v. stored u r p (number_in v)) writes (IsValueOf u.types (ty.Scalar (scalar_of u e))) f.statics
    (expression_goes u p.statics rs.pile e (ty.Scalar scalar.0) first c good scalar.1) room (scalar_given u p.statics c e good.ranges scalar)
    (λ v q. stored_agrees u before r e (scalar_of u e) p m (ring_length u r) v q g f long))
