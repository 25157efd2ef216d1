-- A value depends on what it reads.
use Rattle.std.proofs.Common.{◌≡◌, ℕ, ◌+◌, ◌<◌, List, Option, Ok, refl, ap, ◌∙◌, arith, Bool, true, false, nat_lt}
use Rattle.std.specs.Prelude.{if◌then◌else◌, slice_index, Result}
use Rattle.std.proofs.lemmas.Bool.Decides.{nat_tests}
use Rattle.stream_core.specs.Term.{Term, Terms, lit, extern, stream, def, named, missing, dropped, un, bin, shift, cast, and, or, implies, choose, index, field, array, struct, abs, sign, majority, agreed, lib, end, more}
use Rattle.stream_core.specs.Eval.{Moment, Table, entry_at, value, all_values, operand_word, first_word, one, on_word, on_test, element, Value}
use Rattle.stream_types.specs.Types.{entry_of}
use Rattle.stream_types.specs.declared.scalar.Hazard.{Hazard}
use Rattle.stream_types.specs.declared.types.TypeEntry.{TypeEntry}
use Rattle.stream_core.specs.declared.node.LibForm.{LibForm}
use Rattle.stream_core.specs.Library.{bind, form_value}
use Rattle.stream_core.specs.Equations.{ReadsWithin, AllRead}

pointwise : {A B : Type 0} (f g : A → B) → ((x : A) → f x ≡ g x) → f ≡ g
pointwise f g h = λ i x. h x i

cond_same : (b : Bool) (x y z : ℕ) → (b ≡ true → x ≡ y) → (if b then x else z) ≡ (if b then y else z)
cond_same true x y z h = h refl
cond_same false x y z h = refl

pub test_same : (a a' b b' c c' : Value) → a ≡ a' → b ≡ b' → c ≡ c' → on_test a b c ≡ on_test a' b' c'
test_same a a' b b' c c' p q r = cc

-- an element of an array
pub index_same : (types : List TypeEntry) (entry : Option TypeEntry) (a a' b b' : Result (List ℕ) Hazard) → a ≡ a' → b ≡ b' → bind a (λ x. on_word b (element types entry x)) ≡ bind a' (λ x. on_word b' (element types entry x))
index_same types entry a a' b b' p q = ap (λ v. bind v (λ x. on_word b (element types entry x))) p ∙ ap (λ u. bind a' (λ x. on_word u (element types entry x))) q

module _ (m : Moment) (T X : Table) (bound : ℕ → ℕ) (agree : (k i : ℕ) → i < bound k + m.time → entry_at T k i ≡ entry_at X k i) where
  word_same : (k : ℕ) (now : List ℕ) (j i : ℕ) → operand_word (record m { table = T }) k now j i ≡ operand_word (record m { table = X }) k now j i
  word_same k now j i =
      cond_same (nat_lt i m.time) (first_word (entry_at T (m.place k + j) i)) (first_word (entry_at X (m.place k + j) i)) (slice_index now j)
      (λ e. let below : i < m.time = grind (arith, nat_tests, e) in ap first_word (agree (m.place k + j) i (omega arith)))

  words_same : (k : ℕ) (now : List ℕ) → operand_word (record m { table = T }) k now ≡ operand_word (record m { table = X }) k now
  words_same k now = pointwise _ _ (λ j. pointwise _ _ (λ i. word_same k now j i))

  lib_same : (k : ℕ) (form : LibForm) (es : Terms) → all_values (record m { table = T }) es ≡ all_values (record m { table = X }) es → value (record m { table = T }) (lib k form es) ≡ value (record m { table = X }) (lib k form es)
  lib_same k form es h =
      ap (λ v. bind v (λ now. one (form_value form m.time (operand_word (record m { table = T }) k now)))) h
      ∙ ap (λ (f : List ℕ → ℕ → ℕ → ℕ). bind (all_values (record m { table = X }) es) (λ now. one (form_value form m.time (f now)))) (pointwise _ _ (words_same k))

  mutual
    pub value_same : (e : Term) → ReadsWithin bound e → value (record m { table = T }) e ≡ value (record m { table = X }) e
    value_same (lit s w) h = refl
    value_same (extern x) h = refl
    value_same (def d) h = refl
    value_same (missing) h = refl
    value_same (stream s) h = ap Ok (agree s m.time (omega (arith, h)))
    value_same (dropped s k) h = ap Ok (agree s (m.time + k) (omega (arith, h)))
    value_same (un o s a) h = let p = value_same a h in cc
    value_same (cast x t a) h = let p = value_same a h in cc
    value_same (field t k a) h = let p = value_same a h in cc
    value_same (abs s a) h = let p = value_same a h in cc
    value_same (sign s a) h = let p = value_same a h in cc
    value_same (named d a) h = let p = value_same a h in cc
    value_same (bin o s a b) h = let p = value_same a h.0 in let q = value_same b h.1 in cc
    value_same (shift w s a cs b) h = let p = value_same a h.0 in let q = value_same b h.1 in cc
    value_same (and a b) h = let p = value_same a h.0 in let q = value_same b h.1 in cc
    value_same (or a b) h = let p = value_same a h.0 in let q = value_same b h.1 in cc
    value_same (implies a b) h = let p = value_same a h.0 in let q = value_same b h.1 in cc
    value_same (index t a b) h = index_same m.types (entry_of m.types t) _ _ _ _ (value_same a h.0) (value_same b h.1)
    value_same (choose c a b) h = test_same _ _ _ _ _ _ (value_same c h.0) (value_same a h.1) (value_same b h.2)
    value_same (array t es) h = let p = all_same es h in cc
    value_same (struct t es) h = let p = all_same es h in cc
    value_same (majority s es) h = let p = all_same es h in cc
    value_same (agreed s es) h = let p = all_same es h in cc
    value_same (lib k form es) h = lib_same k form es (all_same es h)

    pub all_same : (es : Terms) → AllRead bound es → all_values (record m { table = T }) es ≡ all_values (record m { table = X }) es
    all_same end h = refl
    all_same (more a es) h = let p = value_same a h.0 in let q = all_same es h.1 in cc
