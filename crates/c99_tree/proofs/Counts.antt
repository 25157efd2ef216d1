-- The operators that an evaluation meets are at most those that stand there.
use Rattle.std.proofs.Common.{ℕ, ◌+◌, ◌≤◌, List, [], ◌∷◌, map, Bool, true, false, Option, Some, None, Result, Ok, Err, arith}
use Rattle.std.specs.Prelude.{replicate, slice_set, unsigned_abs, if◌then◌else◌}
use Rattle.std.specs.Option.{option_map, option_map_or}
use Rattle.std.specs.List.{sum_by}
use Rattle.std.proofs.lemmas.List.Sums.{sum_by-cons}
use Rattle.c99_tree.specs.declared.expr.CBin.{CBin}
use Rattle.c99_tree.specs.declared.types.CScalar.TheVariants as t
use Rattle.c99_tree.specs.declared.types.CTy.{CTy}
use Rattle.c99_tree.specs.declared.types.CVar.{CVar}
use Rattle.c99_tree.specs.declared.undefined.Undefined.{Undefined}
use Rattle.c99_tree.specs.declared.unit.CRing.{CRing}
use Rattle.c99_tree.specs.declared.unit.Unit.{Unit as CUnit}
use Rattle.c99_tree.specs.Tree.{Expr, Exprs, lit, yes, no, copy, head, cell, ring_at, un, bin, choose, cast, field, pick, arr, rec, none, more, Stmt, copies, calls, nexts, stores, moves, puts, statements}
use Rattle.c99_tree.specs.CTypes.{Num, truth, is_zero, converted}
use Rattle.c99_tree.specs.Words.{elem_type}
use Rattle.c99_tree.specs.Lookup.{fields_of, place_of_var, ring_of, place_of_handler}
use Rattle.c99_tree.specs.Values.{Value, Values, number, number_in, parts, array_of, struct_of, and_value, words_of_all}
use Rattle.c99_tree.specs.Typing.{type_of, arms_type_of, fields_in}
use Rattle.c99_tree.specs.Evaluation.{Met, done, after, ◌>>=◌, number_result, Statics, element, value_at, values_in, index_in, settled, decides, decided_at, both, chosen, picked, binary, unary, converted_first, rest_of, evaluate, evaluate_all}
use Rattle.c99_tree.specs.Step.{Progress, with_statics, with_ring, with_local, with_call, local_in, carry_out, carry_out_all, called_if, stored, params_of, step, extern_values, at_entry}
use Rattle.c99_tree.specs.Weight.{weight, weights, statement_weight, unit_weight_of}

after-count : {A B : Type 0} (r : Result A Undefined) (n : ℕ) (f : A → Met B) (a b : ℕ) → n ≤ a → ((x : A) → (f x).count ≤ b) → (after r n f).count ≤ a + b
after-count (Ok x) n f a b h g = let k = g x in omega (arith, k)
after-count (Err e) n f a b h g = omega arith

-- the one and then the other
then-count : {A B : Type 0} (m : Met A) (f : A → Met B) (a b : ℕ) → m.count ≤ a → ((x : A) → (f x).count ≤ b) → (m >>= f).count ≤ a + b
then-count m f a b h g = after-count m.value m.count f a b h g

-- the one and then nothing that counts
then-free : {A B : Type 0} (m : Met A) (f : A → Met B) (a : ℕ) → m.count ≤ a → ((x : A) → (f x).count ≤ 0) → (m >>= f).count ≤ a
then-free m f a h g = let k = then-count m f a 0 h g in omega (arith, k)

-- nothing that counts and then the other
free-then : {A B : Type 0} (r : Result A Undefined) (f : A → Met B) (b : ℕ) → ((x : A) → (f x).count ≤ b) → (done r >>= f).count ≤ b
free-then r f b g = let k = then-count (done r) f 0 b (omega arith) g in omega (arith, k)

if-count : {A : Type 0} (b : Bool) (x y : Met A) (n : ℕ) → x.count ≤ n → y.count ≤ n → (if b then x else y).count ≤ n
if-count true x y n h g = h
if-count false x y n h g = g

both-count : (o : Option Bool) (op : CBin) (l r : Met Value) (a b : ℕ) → l.count ≤ a → r.count ≤ b → (both o op l r).count ≤ a + b
both-count (Some t) op l r a b h g =
    then-count l (λ (x : Value). if decides t (number_in x) then done (Ok (number (truth t))) else (r >>= λ (y : Value). done (number_result (binary op (number_in x) (number_in y))))) a b h
    (λ x. if-count (decides t (number_in x)) (done (Ok (number (truth t)))) (r >>= λ (y : Value). done (number_result (binary op (number_in x) (number_in y)))) b (omega arith)
    (then-free r (λ (y : Value). done (number_result (binary op (number_in x) (number_in y)))) b g (λ y. omega arith)))
both-count None op l r a b h g =
    then-count l (λ (x : Value). r >>= λ (y : Value). done (number_result (binary op (number_in x) (number_in y)))) a b h
    (λ x. then-free r (λ (y : Value). done (number_result (binary op (number_in x) (number_in y)))) b g (λ y. omega arith))

chosen-count : (o : Option CTy) (c a b : Met Value) (k l m : ℕ) → c.count ≤ k → a.count ≤ l → b.count ≤ m → (chosen o c a b).count ≤ k + (l + m)
chosen-count o c a b k l m hc ha hb =
    then-count c (λ (x : Value). (if is_zero (number_in x) then b else a) >>= λ (y : Value). done (settled o y)) k (l + m) hc
    (λ x. then-free (if is_zero (number_in x) then b else a) (λ (y : Value). done (settled o y)) (l + m)
    (if-count (is_zero (number_in x)) b a (l + m) (omega arith) (omega arith)) (λ y. omega arith))

picked-count : (a i : Value) → (picked a i).count ≤ 0
picked-count a i = then-free (done (number_result (converted t.U32 (number_in i)))) (λ (k : Value). done (element (parts a) (number_in k).n)) 0 (omega arith) (λ k. omega arith)

mutual
  unfolding evaluate evaluate_all

  evaluate-count : (u : CUnit) (s : Statics) (e : Expr) → (evaluate u s e).count ≤ weight e
  evaluate-count u s (lit k n) = omega arith
  evaluate-count u s yes = omega arith
  evaluate-count u s no = omega arith
  evaluate-count u s (copy x) = omega arith
  evaluate-count u s (head r) = omega arith
  evaluate-count u s (cell r) = omega arith
  evaluate-count u s (ring_at r a) =
      let k = then-free (evaluate u s a) (λ (i : Value). done (element (values_in u s r) (number_in i).n)) (weight a) (evaluate-count u s a) (λ i. omega arith) in omega (arith, k)
  evaluate-count u s (un op a) =
      let k = then-free (evaluate u s a) (λ (x : Value). done (number_result (unary op (number_in x)))) (weight a) (evaluate-count u s a) (λ x. omega arith) in omega (arith, k)
  evaluate-count u s (bin op a b) =
      let k = both-count (decided_at op) op (evaluate u s a) (evaluate u s b) (weight a) (weight b) (evaluate-count u s a) (evaluate-count u s b) in omega (arith, k)
  evaluate-count u s (choose c a b) =
      let k = chosen-count (arms_type_of (type_of u a) (type_of u b)) (evaluate u s c) (evaluate u s a) (evaluate u s b) (weight c) (weight a) (weight b) (evaluate-count u s c) (evaluate-count u s a) (evaluate-count u s b) in omega (arith, k)
  evaluate-count u s (cast ty a) =
      let k = then-free (evaluate u s a) (λ (x : Value). done (number_result (converted ty (number_in x)))) (weight a) (evaluate-count u s a) (λ x. omega arith) in omega (arith, k)
  evaluate-count u s (field a x) =
      let k = then-free (evaluate u s a) (λ (v : Value). done (Ok (value_at (parts v) (place_of_var (fields_in u.types (type_of u a)) x)))) (weight a) (evaluate-count u s a) (λ v. omega arith) in omega (arith, k)
  evaluate-count u s (pick x n a i) =
      let k = then-count (evaluate u s a) (λ (v : Value). evaluate u s i >>= λ (j : Value). picked v j) (weight a) (weight i) (evaluate-count u s a)
      (λ v. then-free (evaluate u s i) (λ (j : Value). picked v j) (weight i) (evaluate-count u s i) (λ j. picked-count v j)) in omega (arith, k)
  evaluate-count u s (arr x n all) =
      let k = then-free (evaluate_all u s (replicate n (elem_type x)) all) (λ (vs : Values). done (Ok (array_of vs))) (weights all) (evaluate_all-count u s (replicate n (elem_type x)) all) (λ vs. omega arith) in omega (arith, k)
  evaluate-count u s (rec x all) =
      let ts : List CTy = map (λ (v : CVar). v.ty) (option_map_or (λ (fields : List CVar). fields) (fields_of u.types x) []) in
      let k = then-free (evaluate_all u s ts all) (λ (vs : Values). done (Ok (struct_of vs))) (weights all) (evaluate_all-count u s ts all) (λ vs. omega arith) in omega (arith, k)

  evaluate_all-count : (u : CUnit) (s : Statics) (ts : List CTy) (es : Exprs) → (evaluate_all u s ts es).count ≤ weights es
  evaluate_all-count u s ts none = omega arith
  evaluate_all-count u s ts (more e es) =
      let rest : (v : Value) → (evaluate_all u s (rest_of ts) es >>= λ (vs : Values). done (Ok (and_value v vs))).count ≤ weights es =
      λ v. then-free (evaluate_all u s (rest_of ts) es) (λ (vs : Values). done (Ok (and_value v vs))) (weights es) (evaluate_all-count u s (rest_of ts) es) (λ vs. omega arith) in
      let tail : (x : Value) → (done (converted_first ts x) >>= λ (v : Value). evaluate_all u s (rest_of ts) es >>= λ (vs : Values). done (Ok (and_value v vs))).count ≤ weights es =
      λ x. free-then (converted_first ts x) (λ (v : Value). evaluate_all u s (rest_of ts) es >>= λ (vs : Values). done (Ok (and_value v vs))) (weights es) rest in
      then-count (evaluate u s e) (λ (x : Value). done (converted_first ts x) >>= λ (v : Value). evaluate_all u s (rest_of ts) es >>= λ (vs : Values). done (Ok (and_value v vs))) (weight e) (weights es) (evaluate-count u s e) tail

called-count : (u : CUnit) (h : List ℕ) (args : Exprs) (p : Progress) (guard : Num) → (called_if u h args p guard).count ≤ weights args
called-count u h args p guard =
    let f : Values → Met Progress = λ vs. done (Ok (with_call (record { handler = place_of_handler u h; words = words_of_all vs }) p)) in
    if-count (is_zero guard) (done (Ok p)) (evaluate_all u p.statics (params_of u h) args >>= f) (weights args) (omega arith)
    (then-free (evaluate_all u p.statics (params_of u h) args) f (weights args) (evaluate_all-count u p.statics (params_of u h) args) (λ vs. omega arith))

stored-count : (u : CUnit) (r : List ℕ) (p : Progress) (i : Num) → (stored u r p i).count ≤ 0
stored-count u r p i =
    free-then (element (values_in u p.statics r) i.n) (λ (old : Value). done (Ok (with_statics p (with_ring u r (slice_set (values_in u p.statics r) (unsigned_abs i.n) (local_in u p r)) (index_in u p.statics r) p.statics)))) 0 (λ old. omega arith)

statement-count : (u : CUnit) (xs : List Value) (s : Stmt) (p : Progress) → (carry_out u xs s p).count ≤ statement_weight s
statement-count u xs (copies x) p = omega arith
statement-count u xs (calls h guard args) p =
    then-count (evaluate u p.statics guard) (λ (v : Value). called_if u h args p (number_in v)) (weight guard) (weights args)
    (evaluate-count u p.statics guard) (λ v. called-count u h args p (number_in v))
statement-count u xs (nexts r e) p =
    let f : Value → Met Progress = λ v. done (settled (option_map (λ (ring : CRing). ring.ty) (ring_of u r)) v) >>= λ (x : Value). done (Ok (with_local u r x p)) in
    then-free (evaluate u p.statics e) f (weight e) (evaluate-count u p.statics e)
    (λ v. free-then (settled (option_map (λ (ring : CRing). ring.ty) (ring_of u r)) v) (λ (x : Value). done (Ok (with_local u r x p))) 0 (λ x. omega arith))
statement-count u xs (stores r e) p =
    let k = then-free (evaluate u p.statics e) (λ (v : Value). stored u r p (number_in v)) (weight e) (evaluate-count u p.statics e) (λ v. stored-count u r p (number_in v)) in
    omega (arith, k)
statement-count u xs (moves r e) p =
    let g : Num → Met Progress = λ k. done (Ok (with_statics p (with_ring u r (values_in u p.statics r) (unsigned_abs k.n) p.statics))) in
    then-free (evaluate u p.statics e) (λ (v : Value). done (converted t.U32 (number_in v)) >>= g) (weight e) (evaluate-count u p.statics e)
    (λ v. free-then (converted t.U32 (number_in v)) g 0 (λ k. omega arith))
statement-count u xs (puts r) p = omega arith

statements-count : (u : CUnit) (xs : List Value) (ss : List Stmt) (p : Progress) → (carry_out_all u xs ss p).count ≤ sum_by statement_weight ss
unfolding carry_out_all
statements-count u xs [] p = omega arith
statements-count u xs (s ∷ ss) p =
    rw (sum_by-cons statement_weight s ss)
    (then-count (carry_out u xs s p) (carry_out_all u xs ss) (statement_weight s) (sum_by statement_weight ss) (statement-count u xs s p) (statements-count u xs ss))

-- the operators that a call of `step` meets are at most the unit's weight
pub step-count : (u : CUnit) (s : Statics) (row : List ℕ) → (step u s row).count ≤ unit_weight_of u
step-count u s row = statements-count u (extern_values u row) (statements u) (at_entry u s)
