-- The values of the new program's expressions, while each ring of one value with an index stands at its only place.
use Rattle.std.proofs.Common.{◌≡◌, ℕ, ◌<◌, Bool, true, false, List, [], ◌∷◌, map, Option, Some, Ok, refl, sym, ap, ap₂, ◌∙◌, arith}
use Rattle.std.specs.Prelude.{slice_get, replicate, unsigned_abs, if◌then◌else◌, ℤ, pos, negsuc, int_rem, ◌+ℤ◌}
use Rattle.std.specs.Option.{option_map_or}
use Rattle.std.proofs.lemmas.Int.{rem_below}
use Rattle.c99_tree.specs.declared.types.CScalar.TheVariants as t
use Rattle.c99_tree.specs.declared.types.CTy.{CTy}
use Rattle.c99_tree.specs.declared.types.CVar.{CVar}
use Rattle.c99_tree.specs.declared.unit.CStmt.{CStmt}
use Rattle.c99_tree.specs.declared.unit.Unit.{Unit as CUnit}
use Rattle.c99_tree.specs.Tree.{Expr, Exprs, lit, yes, no, copy, head, cell, ring_at, un, bin, choose, cast, field, pick, arr, rec, none, more}
use Rattle.c99_tree.specs.CTypes.{num, widened, wrapped, converted}
use Rattle.c99_tree.specs.Words.{elem_type}
use Rattle.c99_tree.specs.Lookup.{fields_of, place_of_var, place_of_ring}
use Rattle.c99_tree.specs.Values.{Value, Values, number, struct_of, array_of, and_value, parts, number_in}
use Rattle.c99_tree.specs.Typing.{type_of, arms_type_of, fields_in}
use Rattle.c99_tree.specs.Evaluation.{Met, done, ◌>>=◌, number_result, unary, RingState, Statics, value_at, values_in, index_in, element, decided_at, picked, converted_first, rest_of, evaluate, evaluate_all}
use Rattle.migration.specs.Migration.{names_old, is_old_place, renewed, renewed_all}
use Rattle.migration.proofs.Places.{place_is, old_place}
use Rattle.migration.proofs.Alike.{then_alike, after_known, both_alike, chosen_alike}
use Rattle.migration.proofs.AsOfOld.{ReadsOfOld, AllReadOfOld, subscript_reads, subscript_is, left_reads, right_reads, asked_reads, then_reads, else_reads, here_reads, others_read}
use Rattle.migration.proofs.NewTypes.{made, new_place, new_type}

-- ---- such a ring is one value at index 0

pub record AtOne (u : CUnit) (s : Statics) (x : List ℕ) : Type 0 where
  pub value : Value
  pub there : slice_get s.rings (place_of_ring u x) ≡ Some (record { values = value ∷ []; index = 0 })

abbrev pub Idle : CUnit → Statics → Type 0
Idle u s = (x : List ℕ) → names_old u x ≡ true → AtOne u s x

pub one_value : (u : CUnit) (s : Statics) (x : List ℕ) (a : AtOne u s x) → values_in u s x ≡ a.value ∷ []
one_value u s x a = ap (λ (o : Option RingState). option_map_or (λ (ring : RingState). ring.values) o []) a.there

pub at_zero : (u : CUnit) (s : Statics) (x : List ℕ) (a : AtOne u s x) → index_in u s x ≡ 0
at_zero u s x a = ap (λ (o : Option RingState). option_map_or (λ (ring : RingState). ring.index) o 0) a.there

-- ---- its place

below_one : (z : ℤ) → unsigned_abs z < 1 → z ≡ pos 0
below_one (pos n) h = let e : n ≡ 0 = omega (arith, h) in ap pos e
below_one (negsuc n) h = absurd (omega (arith, h))

rem_one : (z : ℤ) → int_rem z (pos 1) ≡ pos 0
rem_one z = below_one (int_rem z (pos 1)) (rem_below z (pos 1) (omega arith))

-- `((cp_i_r + kU) % 1U)` is 0
place_value : (u : CUnit) (s : Statics) (r : List ℕ) (n : ℕ) → (evaluate u s (old_place r n)).value ≡ Ok (number (num t.U32 (pos 0)))
unfolding evaluate
place_value u s r n =
    ap (λ (z : ℤ). Ok (number (num t.U32 z)))
    (rem_one (widened t.U32 (num t.U32 (wrapped t.U32 (widened t.U32 (num t.U32 (pos (index_in u s r))) +ℤ widened t.U32 (num t.U32 (pos n)))))))

pub place_is_zero : (u : CUnit) (s : Statics) (r : List ℕ) (a : Expr) → is_old_place r a ≡ true → (evaluate u s a).value ≡ Ok (number (num t.U32 (pos 0)))
place_is_zero u s r a h = let p = place_is r a h in ap (λ (e : Expr). (evaluate u s e).value) p.1 ∙ place_value u s r p.0

-- ---- the values

module _ (u : CUnit) (name : List ℕ) (bytes need : ℕ) (step : List CStmt) (s : Statics) where
  pub same_values : (x : List ℕ) → values_in (made u name bytes need step) s x ≡ values_in u s x
  same_values x = ap (λ (k : ℕ). option_map_or (λ (ring : RingState). ring.values) (slice_get s.rings k) []) (new_place u name bytes need step x)

  pub same_index : (x : List ℕ) → index_in (made u name bytes need step) s x ≡ index_in u s x
  same_index x = ap (λ (k : ℕ). option_map_or (λ (ring : RingState). ring.index) (slice_get s.rings k) 0) (new_place u name bytes need step x)

  element_value : (r : List ℕ) (a : Expr) (b : Bool) → names_old u r ≡ b → Idle u s → ReadsOfOld u (ring_at r a)
      → (ReadsOfOld u a → (evaluate (made u name bytes need step) s (renewed u a)).value ≡ (evaluate u s a).value)
      → (evaluate (made u name bytes need step) s (if b then cell r else ring_at r (renewed u a))).value ≡ (evaluate u s (ring_at r a)).value
  unfolding evaluate
  element_value r a true e i h inner =
      let one = i r e in
      let known = after_known (evaluate u s a) (number (num t.U32 (pos 0))) (λ (j : Value). done (element (values_in u s r) (number_in j).n))
      (place_is_zero u s r a (subscript_is u r a e h)) in
      ap (λ (vs : List Value). Ok (value_at vs 0)) (same_values r ∙ one_value u s r one)
      ∙ sym (known ∙ ap (λ (vs : List Value). element vs (pos 0)) (one_value u s r one))
  element_value r a false e i h inner =
      then_alike (evaluate (made u name bytes need step) s (renewed u a)) (evaluate u s a)
      (λ (j : Value). done (element (values_in (made u name bytes need step) s r) (number_in j).n)) (λ (j : Value). done (element (values_in u s r)
      (number_in j).n))
      (inner (subscript_reads u r a e h)) (λ j. ap (λ (vs : List Value). element vs (number_in j).n) (same_values r))

  mutual
    unfolding evaluate evaluate_all

    pub new_value : (e : Expr) → Idle u s → ReadsOfOld u e → (evaluate (made u name bytes need step) s (renewed u e)).value ≡ (evaluate u s e).value
    new_value (lit k n) i h = refl
    new_value yes i h = refl
    new_value no i h = refl
    new_value (copy x) i h = refl
    new_value (head r) i h = ap (λ (k : ℕ). Ok (number (num t.U32 (pos k)))) (same_index r)
    new_value (cell r) i h = ap (λ (vs : List Value). Ok (value_at vs 0)) (same_values r)
    new_value (ring_at r a) i h = element_value r a (names_old u r) refl i h (λ g. new_value a i g)
    new_value (un op a) i h =
        then_alike (evaluate (made u name bytes need step) s (renewed u a)) (evaluate u s a) (λ (x : Value). done (number_result (unary op (number_in x))))
        (λ (x : Value). done (number_result (unary op (number_in x)))) (new_value a i h) (λ x. refl)
    new_value (bin op a b) i h =
        both_alike (decided_at op) op (evaluate (made u name bytes need step) s (renewed u a)) (evaluate u s a)
        (evaluate (made u name bytes need step) s (renewed u b)) (evaluate u s b) (new_value a i (left_reads u a b h)) (new_value b i (right_reads u a b h))
    new_value (choose c a b) i h =
        chosen_alike (arms_type_of (type_of (made u name bytes need step) (renewed u a)) (type_of (made u name bytes need step) (renewed u b)))
        (arms_type_of (type_of u a) (type_of u b))
        (evaluate (made u name bytes need step) s (renewed u c)) (evaluate u s c) (evaluate (made u name bytes need step) s (renewed u a)) (evaluate u s a)
        (evaluate (made u name bytes need step) s (renewed u b)) (evaluate u s b)
        (ap₂ arms_type_of (new_type u name bytes need step a (then_reads u c a b h)) (new_type u name bytes need step b (else_reads u c a b h)))
        (new_value c i (asked_reads u c a b h)) (new_value a i (then_reads u c a b h)) (new_value b i (else_reads u c a b h))
    new_value (cast ty a) i h =
        then_alike (evaluate (made u name bytes need step) s (renewed u a)) (evaluate u s a) (λ (x : Value). done (number_result (converted ty (number_in x))))
        (λ (x : Value). done (number_result (converted ty (number_in x)))) (new_value a i h) (λ x. refl)
    new_value (field a x) i h =
        then_alike (evaluate (made u name bytes need step) s (renewed u a)) (evaluate u s a)
        (λ (v : Value). done (Ok (value_at (parts v) (place_of_var (fields_in u.types (type_of (made u name bytes need step) (renewed u a))) x))))
        (λ (v : Value). done (Ok (value_at (parts v) (place_of_var (fields_in u.types (type_of u a)) x)))) (new_value a i h)
        (λ v. ap (λ (o : Option CTy). Ok (value_at (parts v) (place_of_var (fields_in u.types o) x))) (new_type u name bytes need step a h))
    new_value (pick x n a j) i h =
        then_alike (evaluate (made u name bytes need step) s (renewed u a)) (evaluate u s a)
        (λ (v : Value). evaluate (made u name bytes need step) s (renewed u j) >>= λ (k : Value). picked v k) (λ (v : Value). evaluate u s j >>=
        λ (k : Value). picked v k)
        (new_value a i (left_reads u a j h))
        (λ v. then_alike (evaluate (made u name bytes need step) s (renewed u j)) (evaluate u s j) (λ (k : Value). picked v k) (λ (k : Value). picked v k)
        (new_value j i (right_reads u a j h)) (λ k. refl))
    new_value (arr x n all) i h =
        then_alike (evaluate_all (made u name bytes need step) s (replicate n (elem_type x)) (renewed_all u all))
        (evaluate_all u s (replicate n (elem_type x)) all)
        (λ (vs : Values). done (Ok (array_of vs))) (λ (vs : Values). done (Ok (array_of vs))) (new_values (replicate n (elem_type x)) all i h) (λ vs. refl)
    new_value (rec x all) i h =
        let ts : List CTy = map (λ (v : CVar). v.ty) (option_map_or (λ (fields : List CVar). fields) (fields_of u.types x) []) in
        then_alike (evaluate_all (made u name bytes need step) s ts (renewed_all u all)) (evaluate_all u s ts all)
        (λ (vs : Values). done (Ok (struct_of vs))) (λ (vs : Values). done (Ok (struct_of vs))) (new_values ts all i h) (λ vs. refl)

    pub new_values : (ts : List CTy) (es : Exprs) → Idle u s → AllReadOfOld u es → (evaluate_all (made u name bytes need step) s ts (renewed_all u es)).value
        ≡ (evaluate_all u s ts es).value
    new_values ts none i h = refl
    new_values ts (more e es) i h =
        let new : Value → Met Values = λ v. evaluate_all (made u name bytes need step) s (rest_of ts) (renewed_all u es) >>= λ (vs : Values). done
        (Ok (and_value v vs)) in
        let old : Value → Met Values = λ v. evaluate_all u s (rest_of ts) es >>= λ (vs : Values). done (Ok (and_value v vs)) in
        then_alike (evaluate (made u name bytes need step) s (renewed u e)) (evaluate u s e) (λ (x : Value). done (converted_first ts x) >>= new)
        (λ (x : Value). done (converted_first ts x) >>= old)
        (new_value e i (here_reads u e es h))
        (λ x. then_alike (done (converted_first ts x)) (done (converted_first ts x)) new old refl
        (λ v. then_alike (evaluate_all (made u name bytes need step) s (rest_of ts) (renewed_all u es)) (evaluate_all u s (rest_of ts) es)
        (λ (vs : Values). done (Ok (and_value v vs)))
        (λ (vs : Values). done (Ok (and_value v vs))) (new_values (rest_of ts) es i (others_read u e es h)) (λ vs. refl)))
