-- The translation of a typed expression gives the words that the expression has, over statics that stand for the moment.
use Rattle.std.proofs.Common.{◌≡◌, ℕ, zero, suc, ◌+◌, ◌*◌, ◌%◌, ◌^◌, ◌<◌, Bool, true, false, List, [], ◌∷◌, ◌++◌, take, drop, map, replicate, Option, Some, Result, Ok, Err, refl, sym, ap, ◌∙◌, subst, arith}
use Rattle.std.specs.Prelude.{slice_get, nat_lt, nat_le, pos, IsTrue, IfOk, if◌then◌else◌}
use Rattle.std.specs.Option.{option_map, option_map_or}
use Rattle.std.specs.Ordering.{int_eq}
use Rattle.std.proofs.lemmas.Bool.Decides.{nat_tests}
use Rattle.std.proofs.Math.Nat.{mod-eq_of_lt}
use Rattle.stream_types.specs.declared.scalar.Scalar.{Scalar}
use Rattle.stream_types.specs.declared.scalar.Scalar.TheVariants as scalar
use Rattle.stream_types.specs.declared.scalar.Hazard.{Hazard}
use Rattle.stream_types.specs.declared.scalar.Hazard.TheVariants.{BadIndex}
use Rattle.stream_types.specs.declared.scalar.Ty.{Ty}
use Rattle.stream_types.specs.declared.scalar.Ty.TheVariants as ty
use Rattle.stream_types.specs.declared.types.Field.{Field}
use Rattle.stream_types.specs.declared.types.TypeEntry.{TypeEntry}
use Rattle.stream_types.specs.declared.types.TypeEntry.TheVariants as entry
use Rattle.stream_types.specs.Scalars.{op2_gives}
use Rattle.stream_types.specs.Numbers as of
use Rattle.stream_types.specs.Types as types_of
use Rattle.stream_types.specs.Types.{words}
use Rattle.stream_types.specs.TypeList.{IsTypeList}
use Rattle.stream_types.proofs.Ranges.{op2_answer}
use Rattle.stream_types.proofs.AnsweredWords.{op1_answer, shift_answer, cast_answer}
use Rattle.stream_core.specs.declared.spec.ExternItem.{ExternItem}
use Rattle.stream_core.specs.Library.{bind, is_true_word}
use Rattle.stream_core.specs.Term.{Term, Terms, lit, extern, stream, def, named, missing, dropped, un, bin, shift, cast, and, or, implies, choose, index, field, array, struct, abs, sign, majority, agreed, lib, end, more, TreeSpec, TreeStream, initial_count}
use Rattle.stream_core.specs.Eval as eval
use Rattle.stream_core.specs.Eval.{Moment, value, all_values, part_of, entry_at, one, on_word, on_two, on_test, cons, member, first_word}
use Rattle.stream_core.specs.Signature.{Signature, StreamSignature, signature_of, stream_signature}
use Rattle.stream_core.specs.WellTyped.{HasType, HaveTypes, HasMember, field_types, bool, word32}
use Rattle.stream_core.specs.WrittenOut.{IsWrittenOut, AreWritten}
use Rattle.stream_core.specs.Plain.{IsPlain, ArePlain}
use Rattle.c99_tree.specs.declared.expr.CBin.TheVariants as o
use Rattle.c99_tree.specs.declared.expr.CUn.TheVariants as un_op
use Rattle.c99_tree.specs.declared.expr.CExpr.{CExpr}
use Rattle.c99_tree.specs.declared.expr.CExpr.TheVariants as e
use Rattle.c99_tree.specs.declared.types.CScalar.TheVariants as c
use Rattle.c99_tree.specs.declared.types.CTy.{CTy}
use Rattle.c99_tree.specs.declared.types.CTy.TheVariants as cty
use Rattle.c99_tree.specs.declared.types.CVar.{CVar}
use Rattle.c99_tree.specs.declared.undefined.Undefined.TheVariants as why
use Rattle.c99_tree.specs.declared.unit.Unit.{Unit as CUnit}
use Rattle.c99_tree.specs.Tree.{tree, exprs}
use Rattle.c99_tree.specs.TreeLaws.{tree-Copy, tree-Cell, tree-Cond, tree-Field, tree-Pick, tree-Arr, tree-Rec}
use Rattle.c99_tree.specs.CTypes.{Num, num, is_zero}
use Rattle.c99_tree.specs.Words.{elem_type}
use Rattle.c99_tree.specs.Lookup.{place_of_var, place_of_ring}
use Rattle.c99_tree.specs.Values.{Value, Values, number, struct_of, array_of, no_value, and_value, value_list, parts, no_such_value}
use Rattle.c99_tree.specs.Typing.{type_of, is_scalar_type, arms_type_of, fields_in}
use Rattle.c99_tree.specs.Evaluation.{Statics, RingState, value_at, values_in, index_in, converted_to, settled, evaluate, evaluate_all, number_result}
use Rattle.c99_tree.specs.Evaluation as c_eval
use Rattle.ring_codegen.specs.CTypes.{c_scalar, c_type, array_type, struct_name, c_field, element_word}
use Rattle.ring_codegen.specs.Translation.{translated, all_translated, extern_value, is_indexed, place_behind, stream_value, picked, array_value, struct_value, member_name}
use Rattle.ring_codegen.specs.Translation as to
use Rattle.ring_codegen.specs.Carried.{IsCarrier, HasCarrier, GivesWord}
use Rattle.ring_codegen.specs.Standing.{HasWords, HaveWords, HoldsAt, HoldsRing, StandsFor, GivesScalar, GivesValue, Gives, IsMomentOf}
use Rattle.ring_codegen.proofs.WordNumbers.{own_carrier, word_kept}
use Rattle.ring_codegen.proofs.Worded.{element_at, member_at}
use Rattle.ring_codegen.proofs.Evaluated.{copy_value, cell_value, ring_value, place_value, choice_true, choice_false, field_value, pick_value, arr_value, rec_value, none_value, more_value}
use Rattle.ring_codegen.proofs.NamedOnce.{LooksUp, from_map}
use Rattle.ring_codegen.proofs.OperatorPremises.{OperatorTypes, OperatorWords}
use Rattle.ring_codegen.proofs.TypesGiven.{HasTypeFor, HaveTypesFor, whole_array, arms_whole, tree_ring, stream_typed, index_typed, member_typed, member_named, array_typed, struct_typed, has_type, have_types}

-- ---- values of expressions, taken apart

record Then (v : eval.Value) (f : List ℕ → eval.Value) (ws : List ℕ) : Type 0 where
  first : List ℕ
  is : v ≡ Ok first
  rest : f first ≡ Ok ws

then_parts : (v : eval.Value) (f : List ℕ → eval.Value) (ws : List ℕ) → bind v f ≡ Ok ws → Then v f ws
then_parts (Ok x) f ws e = record { first = x; is = refl; rest = e }
then_parts (Err h) f ws e = absurd (cc e)

record OneWord (r : Result ℕ Hazard) (ws : List ℕ) : Type 0 where
  word : ℕ
  is : r ≡ Ok word
  words : ws ≡ word ∷ []

one_parts : (r : Result ℕ Hazard) (ws : List ℕ) → one r ≡ Ok ws → OneWord r ws
one_parts (Ok w) ws e = record { word = w; is = refl; words = cc e }
one_parts (Err h) ws e = absurd (cc e)

answered : (P : ℕ → Type 0) (r : Result ℕ Hazard) (w : ℕ) → IfOk r P → r ≡ Ok w → P w
answered P r w h e = subst (λ (x : Result ℕ Hazard). IfOk x P) e h

abbrev okay : List ℕ → eval.Value
okay v = Ok v

same_words : (v w : List ℕ) → okay v ≡ Ok w → w ≡ v
same_words v w e = cc e

-- an operand, and what is made of its word
record Operand (u : CUnit) (s : Statics) (a : CExpr) (t : Scalar) (f : ℕ → eval.Value) (ws : List ℕ) : Type 0 where
  word : ℕ
  good : IsTrue (of.is_word t word)
  gives : GivesWord u s a t word
  rest : f word ≡ Ok ws

operand : (u : CUnit) (s : Statics) (a : CExpr) (t : Scalar) (v : eval.Value) (f : ℕ → eval.Value) (ws : List ℕ) → on_word v f ≡ Ok ws → ((x : List ℕ) → v ≡ Ok x → GivesScalar u s a t x) → Operand u s a t f ws
operand u s a t v f ws e ih =
    let p = then_parts v (λ (x : List ℕ). f (first_word x)) ws e in
    let g = ih p.first p.is in
    record { word = g.word; good = g.good; gives = g.gives; rest = ap (λ (x : List ℕ). f (first_word x)) (sym g.words) ∙ p.rest }

-- ---- C values

converted_whole : (t : CTy) (v : Value) → is_scalar_type t ≡ false → converted_to t v ≡ Ok v
converted_whole (cty.Scalar s) v h = absurd (cc h)
converted_whole (cty.Struct x) v h = refl
converted_whole (cty.Array x n) v h = refl

-- the value that an expression gives, and what it is converted to
pub record Converts (types : List TypeEntry) (u : CUnit) (s : Statics) (a : CExpr) (t : Ty) (ws : List ℕ) : Type 0 where
  pub value : Value
  pub is : (evaluate u s (tree a)).value ≡ Ok value
  pub kept : Value
  pub to : converted_to (c_type types t) value ≡ Ok kept
  pub words : HasWords types t kept ws

pub converts : (types : List TypeEntry) (u : CUnit) (s : Statics) (a : CExpr) (t : Ty) (ws : List ℕ) → Gives types u s a t ws → Converts types u s a t ws
converts types u s a (ty.Scalar t) ws g = record {
  value = number g.gives.value;
  is = g.gives.is;
  kept = number (num (c_scalar t) (of.number t g.word));
  to = ap number_result (word_kept t g.word g.gives.value g.good g.gives.carries.is);
  words = record { word = g.word; words = g.words; good = g.good; is = refl };
}
converts types u s a (ty.Array i) ws g = record { value = g.value; is = g.is; kept = g.value; to = converted_whole (c_type types (ty.Array i)) g.value (whole_array types (slice_get types i)); words = g.words }
converts types u s a (ty.Struct i) ws g = record { value = g.value; is = g.is; kept = g.value; to = refl; words = g.words }

-- a value of exactly the type
settle_number : (types : List TypeEntry) (u : CUnit) (s : Statics) (a : CExpr) (t : Scalar) (ws : List ℕ) (v : Value) → (evaluate u s (tree a)).value ≡ Ok v → HasWords types (ty.Scalar t) v ws
    → type_of u (tree a) ≡ Some (cty.Scalar (c_scalar t)) → GivesScalar u s a t ws
settle_number types u s a t ws (number x) is h typed = record {
  word = h.word;
  words = h.words;
  good = h.good;
  gives = record {
    value = x;
    is = is;
    carries = record { is = ap (λ (y : Num). y.n) h.is; carrier = subst (IsCarrier t) (sym (ap (λ (y : Num). y.ty) h.is)) (own_carrier t) };
    typed = typed ∙ ap (λ (y : Num). Some (cty.Scalar y.ty)) (sym h.is);
  };
}
settle_number types u s a t ws (struct_of vs) is h typed = absurd h
settle_number types u s a t ws (array_of vs) is h typed = absurd h

pub settle : (types : List TypeEntry) (u : CUnit) (s : Statics) (a : CExpr) (t : Ty) (ws : List ℕ) → GivesValue types u s a t ws → Gives types u s a t ws
settle types u s a (ty.Scalar t) ws g = settle_number types u s a t ws g.value g.is g.words g.typed
settle types u s a (ty.Array i) ws g = g
settle types u s a (ty.Struct i) ws g = g

-- the elements of an array's value, and the members of a struct's
record Elements (types : List TypeEntry) (ts : List Ty) (v : Value) (ws : List ℕ) : Type 0 where
  all : Values
  are : parts v ≡ value_list all
  words : HaveWords types ts all ws

elements_of : (types : List TypeEntry) (i n : ℕ) (elem : Ty) (v : Value) (ws : List ℕ) → slice_get types i ≡ Some (entry.Array elem n) → HasWords types (ty.Array i) v ws → Elements types (replicate n elem) v ws
elements_of types i n elem (number x) ws is h = absurd h
elements_of types i n elem (struct_of vs) ws is h = absurd h
elements_of types i n elem (array_of vs) ws is h =
    let both : Some (entry.Array h.0 h.1) ≡ Some (entry.Array elem n) = sym h.2 ∙ is in
    let p : h.0 ≡ elem = cc both in
    let q : h.1 ≡ n = cc both in
    record { all = vs; are = refl; words = subst (λ (k : ℕ). HaveWords types (replicate k elem) vs ws) q (subst (λ (t : Ty). HaveWords types (replicate h.1 t) vs ws) p h.3) }

members_of : (types : List TypeEntry) (i : ℕ) (name : List ℕ) (fields : List Field) (v : Value) (ws : List ℕ) → slice_get types i ≡ Some (entry.Struct name fields) → HasWords types (ty.Struct i) v ws → Elements types (field_types fields) v ws
members_of types i name fields (number x) ws is h = absurd h
members_of types i name fields (array_of vs) ws is h = absurd h
members_of types i name fields (struct_of vs) ws is h =
    let both : Some (entry.Struct h.0 h.1) ≡ Some (entry.Struct name fields) = sym h.2 ∙ is in
    let q : h.1 ≡ fields = cc both in
    record { all = vs; are = refl; words = subst (λ (fs : List Field). HaveWords types (field_types fs) vs ws) q h.3 }

types_replicate : (types : List TypeEntry) (n : ℕ) (t : Ty) → map (c_type types) (replicate n t) ≡ replicate n (c_type types t)
types_replicate types zero t = refl
types_replicate types (suc n) t = ap (λ (r : List CTy). c_type types t ∷ r) (types_replicate types n t)

types_fields : (types : List TypeEntry) (fields : List Field) → map (c_type types) (field_types fields) ≡ map (λ (v : CVar). v.ty) (map (c_field types) fields)
types_fields types [] = refl
types_fields types (f ∷ fields) = ap (λ (r : List CTy). c_type types f.ty ∷ r) (types_fields types fields)

pub record GivesAll (types : List TypeEntry) (u : CUnit) (s : Statics) (es : List CExpr) (ts : List Ty) (ws : List ℕ) : Type 0 where
  pub all : Values
  pub are : (evaluate_all u s (map (c_type types) ts) (exprs (map tree es))).value ≡ Ok all
  pub words : HaveWords types ts all ws

pub more_given : (types : List TypeEntry) (u : CUnit) (s : Statics) (a : CExpr) (es : List CExpr) (t : Ty) (ts : List Ty) (ws front rest : List ℕ) → ws ≡ front ++ rest → Gives types u s a t front → GivesAll types u s es ts rest
    → GivesAll types u s (a ∷ es) (t ∷ ts) ws
more_given types u s a es t ts ws front rest is g h =
    let k = converts types u s a t front g in
    record {
      all = and_value k.kept h.all;
      are = more_value u s (c_type types t) (map (c_type types) ts) (tree a) (exprs (map tree es)) k.value k.kept h.all k.is k.to h.are;
      words = (front, rest, is, k.words, h.words);
    }

pub none_given : (types : List TypeEntry) (u : CUnit) (s : Statics) (ws : List ℕ) → ws ≡ [] → GivesAll types u s [] [] ws
none_given types u s ws e = record { all = no_value; are = none_value u s []; words = e }

-- ---- expressions

module _ (spec : TreeSpec) (u : CUnit) (m : Moment) (s : Statics) (types : OperatorTypes) (ops : OperatorWords) (good : IsTypeList spec.types) (looks : LooksUp spec u) (now : IsMomentOf spec m) (stand : StandsFor spec m s) where
  abbrev sig : Signature
  sig = signature_of spec

  abbrev For : CExpr → Ty → List ℕ → Type 0
  For a t ws = Gives spec.types u s a t ws

  as_type : (a : CExpr) (t r : Ty) (ws : List ℕ) → t ≡ r → For a r ws → For a t ws
  as_type a t r ws same h = subst (λ x. For a x ws) (sym same) h

  copy_given : (k : ℕ) (x : ExternItem) → slice_get spec.externs k ≡ Some x → GivesValue spec.types u s (e.Copy x.name) x.ty (part_of m.types m.externs m.row k)
  copy_given k x h =
      let hold = stand.copies k x h in
      record {
        value = hold.value;
        is = ap (λ a. (evaluate u s a).value) (tree-Copy x.name) ∙ copy_value u s x.name
            ∙ ap (λ (n : ℕ). Ok (value_at s.copies n)) (looks.var_place k x h) ∙ ap (λ (o : Option Value). Ok (option_map_or (λ (v : Value). v) o no_such_value)) hold.is;
        words = hold.words;
        typed = ap (type_of u) (tree-Copy x.name) ∙ ap (λ (v : Option CVar). option_map (λ (z : CVar). z.ty) v) (looks.var k x h);
      }

  extern_given : (x : ℕ) (t : Ty) (ws : List ℕ) → slice_get sig.externs x ≡ Some t → ws ≡ part_of m.types m.externs m.row x → For (translated spec (extern x)) t ws
  extern_given x t ws h q =
      let at = from_map (λ (y : ExternItem). y.ty) spec.externs x t h in
      let g = settle spec.types u s (e.Copy at.origin.name) at.origin.ty (part_of m.types m.externs m.row x) (copy_given x at.origin at.there) in
      subst (λ (v : Option ExternItem). For (extern_value v) t ws) (sym at.there)
      (subst (λ (v : List ℕ). For (e.Copy at.origin.name) t v) (sym q) (as_type (e.Copy at.origin.name) t at.origin.ty (part_of m.types m.externs m.row x) (sym at.is) g))

  -- ---- rings

  module _ (k n : ℕ) (x : TreeStream) (h : slice_get spec.streams k ≡ Some x) (b : n < initial_count spec.types x) where
    hold : HoldsRing spec m s.rings k x
    hold = stand.rings k x h

    held : HoldsAt spec.types x.ty hold.state.values ((hold.state.index + n) % initial_count spec.types x) (entry_at m.table k (m.time + n))
    held = hold.stands.entries n b

    state_is : slice_get s.rings (place_of_ring u x.name) ≡ Some hold.state
    state_is = ap (λ (p : ℕ). slice_get s.rings p) (looks.ring_place k x h) ∙ hold.is

    values_are : values_in u s x.name ≡ hold.state.values
    values_are = ap (λ (o : Option RingState). option_map_or (λ (r : RingState). r.values) o []) state_is

    index_is : index_in u s x.name ≡ hold.state.index
    index_is = ap (λ (o : Option RingState). option_map_or (λ (r : RingState). r.index) o 0) state_is

    at_place : (evaluate u s (tree (e.RingAt x.name (place_behind spec.types x n)))).value ≡ Ok held.value
    at_place =
        let len = initial_count spec.types x in
        let long = (looks.long k x h).most in
        let low = hold.stands.index in
        let small : index_in u s x.name + n < 2 ^ 32 = subst (λ (i : ℕ). i + n < 2 ^ 32) (sym index_is) (omega (arith, low, long, b)) in
        ap (λ a. (evaluate u s a).value) (tree_ring x.name n len)
        ∙ ring_value u s x.name _ (number (num c.U32 (pos ((index_in u s x.name + n) % len)))) (place_value u s x.name n len (omega (arith, b)) small (omega (arith, long)))
        ∙ (λ j. c_eval.element (values_are j) (pos ((index_is j + n) % len)))
        ∙ ap (λ (v : Option Value). option_map_or Ok v (Err why.BadIndex)) held.is

    in_cell : nat_le 2 (initial_count spec.types x) ≡ false → (evaluate u s (tree (e.Cell x.name))).value ≡ Ok held.value
    in_cell one =
        let len = initial_count spec.types x in
        let low = hold.stands.index in
        let few : len < 2 = grind (arith, nat_tests, one) in
        let sum : hold.state.index + n < len = omega (arith, few, low, b) in
        let none : hold.state.index + n ≡ 0 = omega (arith, few, low, b) in
        let place : (hold.state.index + n) % len ≡ 0 = mod-eq_of_lt sum ∙ none in
        ap (λ a. (evaluate u s a).value) (tree-Cell x.name)
        ∙ cell_value u s x.name
        ∙ ap (λ (vs : List Value). Ok (value_at vs 0)) values_are
        ∙ ap (λ (o : Option Value). Ok (option_map_or (λ (v : Value). v) o no_such_value)) (subst (λ (p : ℕ). slice_get hold.state.values p ≡ Some held.value) place held.is)

    pub stream_given : GivesValue spec.types u s (stream_value spec.types n (Some x)) x.ty (entry_at m.table k (m.time + n))
    stream_given = by (is_indexed spec.types x) refl (stream_typed spec u types looks n k x h)
      where
        by : (d : Bool) → is_indexed spec.types x ≡ d → type_of u (tree (if d then e.RingAt x.name (place_behind spec.types x n) else e.Cell x.name)) ≡ Some (c_type spec.types x.ty)
            → GivesValue spec.types u s (if d then e.RingAt x.name (place_behind spec.types x n) else e.Cell x.name) x.ty (entry_at m.table k (m.time + n))
        by true q typed = record { value = held.value; is = at_place; words = held.words; typed = typed }
        by false q typed = record { value = held.value; is = in_cell q; words = held.words; typed = typed }

  read_given : (n x : ℕ) (t : Ty) (z : StreamSignature) (ws : List ℕ) → slice_get sig.streams x ≡ Some z → z.ty ≡ t → n < z.count → ws ≡ entry_at m.table x (m.time + n) → For (stream_value spec.types n (slice_get spec.streams x)) t ws
  read_given n x t z ws h is b w =
      let at = from_map (stream_signature spec.types) spec.streams x z h in
      let same : at.origin.ty ≡ t = ap (λ (w : StreamSignature). w.ty) at.is ∙ is in
      let count : initial_count spec.types at.origin ≡ z.count = ap (λ (w : StreamSignature). w.count) at.is in
      let within : n < initial_count spec.types at.origin = subst (λ (l : ℕ). n < l) (sym count) b in
      let a = stream_value spec.types n (Some at.origin) in
      let g = settle spec.types u s a at.origin.ty (entry_at m.table x (m.time + n)) (stream_given x n at.origin at.there within) in
      subst (λ (v : Option TreeStream). For (stream_value spec.types n v) t ws) (sym at.there)
      (subst (λ (v : List ℕ). For a t v) (sym w) (as_type a t at.origin.ty (entry_at m.table x (m.time + n)) (sym same) g))

  some_count : (x : ℕ) (z : StreamSignature) → slice_get sig.streams x ≡ Some z → 0 < z.count
  some_count x z h =
      let at = from_map (stream_signature spec.types) spec.streams x z h in
      let count : initial_count spec.types at.origin ≡ z.count = ap (λ (w : StreamSignature). w.count) at.is in
      let some = (looks.long x at.origin at.there).some in
      omega (arith, count, some)

  -- ---- truth values

  abbrev Truth : CExpr → List ℕ → Type 0
  Truth a ws = GivesScalar u s a scalar.Bool ws

  no_truth : (w : ℕ) → IsTrue (nat_lt (suc (suc w)) 2) → ⊥
  no_truth w h = let q : suc (suc w) < 2 = grind (arith, nat_tests, h) in omega (arith, q)

  truth_is : (w : ℕ) (ws : List ℕ) → IsTrue (of.is_word scalar.Bool w) → okay (w ∷ []) ≡ Ok ws → (a : CExpr) → GivesWord u s a scalar.Bool w → Truth a ws
  truth_is w ws good e a g = record { word = w; words = same_words (w ∷ []) ws e; good = good; gives = g }

  and_given : (a b : CExpr) (v : eval.Value) (ws : List ℕ) (w : ℕ) → IsTrue (of.is_word scalar.Bool w) → GivesWord u s a scalar.Bool w → (if is_true_word w then v else Ok (0 ∷ [])) ≡ Ok ws
      → HasCarrier u b scalar.Bool → ((x : List ℕ) → v ≡ Ok x → Truth b x) → Truth (e.Bin o.And a b) ws
  and_given a b v ws zero i g r hb ih = truth_is 0 ws refl r (e.Bin o.And a b) (ops.and_false u s a b g hb)
  and_given a b v ws (suc zero) i g r hb ih = let y = ih ws r in record { word = y.word; words = y.words; good = y.good; gives = ops.and_true u s a b y.word y.good g y.gives }
  and_given a b v ws (suc (suc w)) i g r hb ih = absurd (no_truth w i)

  or_given : (a b : CExpr) (v : eval.Value) (ws : List ℕ) (w : ℕ) → IsTrue (of.is_word scalar.Bool w) → GivesWord u s a scalar.Bool w → (if is_true_word w then Ok (1 ∷ []) else v) ≡ Ok ws
      → HasCarrier u b scalar.Bool → ((x : List ℕ) → v ≡ Ok x → Truth b x) → Truth (e.Bin o.Or a b) ws
  or_given a b v ws zero i g r hb ih = let y = ih ws r in record { word = y.word; words = y.words; good = y.good; gives = ops.or_false u s a b y.word y.good g y.gives }
  or_given a b v ws (suc zero) i g r hb ih = truth_is 1 ws refl r (e.Bin o.Or a b) (ops.or_true u s a b g hb)
  or_given a b v ws (suc (suc w)) i g r hb ih = absurd (no_truth w i)

  implies_given : (a b : CExpr) (v : eval.Value) (ws : List ℕ) (w : ℕ) → IsTrue (of.is_word scalar.Bool w) → GivesWord u s a scalar.Bool w → (if is_true_word w then v else Ok (1 ∷ [])) ≡ Ok ws
      → HasCarrier u b scalar.Bool → ((x : List ℕ) → v ≡ Ok x → Truth b x) → Truth (e.Bin o.Or (e.Un un_op.Not a) b) ws
  implies_given a b v ws zero i g r hb ih = truth_is 1 ws refl r (e.Bin o.Or (e.Un un_op.Not a) b) (ops.implies_false u s a b g hb)
  implies_given a b v ws (suc zero) i g r hb ih = let y = ih ws r in record { word = y.word; words = y.words; good = y.good; gives = ops.implies_true u s a b y.word y.good g y.gives }
  implies_given a b v ws (suc (suc w)) i g r hb ih = absurd (no_truth w i)

  -- ---- choices

  one_is_true : (x : Num) → x.n ≡ pos 1 → is_zero x ≡ false
  one_is_true x e = ap (λ n. int_eq n (pos 0)) e

  zero_is_false : (x : Num) → x.n ≡ pos 0 → is_zero x ≡ true
  zero_is_false x e = ap (λ n. int_eq n (pos 0)) e

  settled_whole : (t : CTy) (a b : Option CTy) (v : Value) → is_scalar_type t ≡ false → a ≡ Some t → b ≡ Some t → settled (arms_type_of a b) v ≡ Ok v
  settled_whole t a b v w f g = (λ j. settled (arms_type_of (f j) (g j)) v) ∙ ap (λ (r : Option CTy). settled r v) (arms_whole t w) ∙ converted_whole t v w

  first_arm : (t : Ty) (p a b : CExpr) (ws : List ℕ) → GivesWord u s p scalar.Bool 1 → For a t ws → HasTypeFor spec.types u b t → HasTypeFor spec.types u (e.Cond p a b) t → For (e.Cond p a b) t ws
  first_arm (ty.Scalar r) p a b ws gp ga hb h = record { word = ga.word; words = ga.words; good = ga.good; gives = ops.choice_true u s r p a b ga.word ga.good gp ga.gives hb }
  first_arm (ty.Array i) p a b ws gp ga hb h = record {
    value = ga.value;
    is = ap (λ x. (evaluate u s x).value) (tree-Cond p a b) ∙ choice_true u s (tree p) (tree a) (tree b) (number gp.value) ga.value gp.is (one_is_true gp.value gp.carries.is) ga.is
        ∙ settled_whole (c_type spec.types (ty.Array i)) (type_of u (tree a)) (type_of u (tree b)) ga.value (whole_array spec.types (slice_get spec.types i)) ga.typed hb;
    words = ga.words;
    typed = h;
  }
  first_arm (ty.Struct i) p a b ws gp ga hb h = record {
    value = ga.value;
    is = ap (λ x. (evaluate u s x).value) (tree-Cond p a b) ∙ choice_true u s (tree p) (tree a) (tree b) (number gp.value) ga.value gp.is (one_is_true gp.value gp.carries.is) ga.is
        ∙ settled_whole (c_type spec.types (ty.Struct i)) (type_of u (tree a)) (type_of u (tree b)) ga.value refl ga.typed hb;
    words = ga.words;
    typed = h;
  }

  second_arm : (t : Ty) (p a b : CExpr) (ws : List ℕ) → GivesWord u s p scalar.Bool 0 → HasTypeFor spec.types u a t → For b t ws → HasTypeFor spec.types u (e.Cond p a b) t → For (e.Cond p a b) t ws
  second_arm (ty.Scalar r) p a b ws gp ha gb h = record { word = gb.word; words = gb.words; good = gb.good; gives = ops.choice_false u s r p a b gb.word gb.good gp ha gb.gives }
  second_arm (ty.Array i) p a b ws gp ha gb h = record {
    value = gb.value;
    is = ap (λ x. (evaluate u s x).value) (tree-Cond p a b) ∙ choice_false u s (tree p) (tree a) (tree b) (number gp.value) gb.value gp.is (zero_is_false gp.value gp.carries.is) gb.is
        ∙ settled_whole (c_type spec.types (ty.Array i)) (type_of u (tree a)) (type_of u (tree b)) gb.value (whole_array spec.types (slice_get spec.types i)) ha gb.typed;
    words = gb.words;
    typed = h;
  }
  second_arm (ty.Struct i) p a b ws gp ha gb h = record {
    value = gb.value;
    is = ap (λ x. (evaluate u s x).value) (tree-Cond p a b) ∙ choice_false u s (tree p) (tree a) (tree b) (number gp.value) gb.value gp.is (zero_is_false gp.value gp.carries.is) gb.is
        ∙ settled_whole (c_type spec.types (ty.Struct i)) (type_of u (tree a)) (type_of u (tree b)) gb.value refl ha gb.typed;
    words = gb.words;
    typed = h;
  }

  choice_given : (t : Ty) (p a b : CExpr) (v w : eval.Value) (ws : List ℕ) (q : ℕ) → IsTrue (of.is_word scalar.Bool q) → GivesWord u s p scalar.Bool q → (if is_true_word q then v else w) ≡ Ok ws
      → HasTypeFor spec.types u a t → HasTypeFor spec.types u b t → HasTypeFor spec.types u (e.Cond p a b) t
      → ((x : List ℕ) → v ≡ Ok x → For a t x) → ((x : List ℕ) → w ≡ Ok x → For b t x) → For (e.Cond p a b) t ws
  choice_given t p a b v w ws zero i g r ha hb h iha ihb = second_arm t p a b ws g ha (ihb ws r) h
  choice_given t p a b v w ws (suc zero) i g r ha hb h iha ihb = first_arm t p a b ws g (iha ws r) hb h
  choice_given t p a b v w ws (suc (suc q)) i g r ha hb h iha ihb = absurd (no_truth q i)

  -- ---- arrays and structs

  within_test : (b : Bool) (v ws : List ℕ) → (if b then Ok v else Err BadIndex) ≡ Ok ws → (b ≡ true) × (ws ≡ v)
  within_test true v ws h = (refl, same_words v ws h)
  within_test false v ws h = absurd (cc h)

  index_given : (i n : ℕ) (elem : Ty) (a j : CExpr) (v ws : List ℕ) (w : ℕ) → slice_get spec.types i ≡ Some (entry.Array elem n) → GivesValue spec.types u s a (ty.Array i) v
      → GivesWord u s j scalar.Word32 w → IsTrue (of.is_word scalar.Word32 w) → HasCarrier u j scalar.Word32 → eval.element m.types (types_of.entry_of m.types (ty.Array i)) v w ≡ Ok ws
      → GivesValue spec.types u s (picked (c_type spec.types (ty.Array i)) a j) elem ws
  index_given i n elem a j v ws w is ga gj iw hj h =
      let same : c_type spec.types (ty.Array i) ≡ cty.Array (element_word spec.types elem) n = ap (array_type spec.types) is in
      let read : (if nat_lt w n then Ok (take (words spec.types elem) (drop (w * words spec.types elem) v)) else Err BadIndex) ≡ Ok ws =
      ap (λ (o : Option TypeEntry). eval.element spec.types o v w) (sym is) ∙ ap (λ (ts : List TypeEntry). eval.element ts (types_of.entry_of ts (ty.Array i)) v w) (sym now.types) ∙ h in
      let test = within_test (nat_lt w n) (take (words spec.types elem) (drop (w * words spec.types elem) v)) ws read in
      let b : w < n = grind (arith, nat_tests, test.0) in
      let all = elements_of spec.types i n elem ga.value v is ga.words in
      let at = element_at spec.types good elem n w all.all v b all.words in
      record {
        value = at.value;
        is = ap (λ (t : CTy). (evaluate u s (tree (picked t a j))).value) same
            ∙ ap (λ x. (evaluate u s x).value) (tree-Pick (element_word spec.types elem) n a j)
            ∙ pick_value u s (element_word spec.types elem) n (tree a) (tree j) ga.value (number gj.value) (num c.U32 (pos w)) ga.is gj.is (word_kept scalar.Word32 w gj.value iw gj.carries.is)
            ∙ ap (λ (vs : List Value). c_eval.element vs (pos w)) all.are
            ∙ ap (λ (o : Option Value). option_map_or Ok o (Err why.BadIndex)) at.is;
        words = subst (HasWords spec.types elem at.value) (sym test.1) at.words;
        typed = index_typed spec u types looks i n elem a j is ga.typed hj;
      }

  member_given : (i k : ℕ) (name : List ℕ) (fields : List Field) (f : Field) (a : CExpr) (v ws : List ℕ) → slice_get spec.types i ≡ Some (entry.Struct name fields) → slice_get fields k ≡ Some f
      → GivesValue spec.types u s a (ty.Struct i) v → ws ≡ member m.types (types_of.entry_of m.types (ty.Struct i)) v k → GivesValue spec.types u s (e.Field a f.name) f.ty ws
  member_given i k name fields f a v ws is at ga h =
      let all = members_of spec.types i name fields ga.value v is ga.words in
      let held = member_at spec.types good fields k f all.all v at all.words in
      let read : ws ≡ member spec.types (Some (entry.Struct name fields)) v k =
      h ∙ ap (λ (ts : List TypeEntry). member ts (types_of.entry_of ts (ty.Struct i)) v k) now.types ∙ ap (λ (o : Option TypeEntry). member spec.types o v k) is in
      let struct_is : type_of u (tree a) ≡ Some (cty.Struct name) = ga.typed ∙ ap (λ (x : Option TypeEntry). Some (cty.Struct (struct_name x))) is in
      let place : place_of_var (fields_in u.types (type_of u (tree a))) f.name ≡ k =
      ap (λ (t : Option CTy). place_of_var (fields_in u.types t) f.name) struct_is
      ∙ ap (λ (fs : Option (List CVar)). place_of_var (option_map_or (λ (y : List CVar). y) fs []) f.name) (looks.struct i name fields is)
      ∙ looks.member_place i k name fields f is at in
      record {
        value = held.value;
        is = ap (λ x. (evaluate u s x).value) (tree-Field a f.name)
            ∙ field_value u s (tree a) f.name ga.value ga.is
            ∙ (λ j. Ok (value_at (all.are j) (place j)))
            ∙ ap (λ (o : Option Value). Ok (option_map_or (λ (y : Value). y) o no_such_value)) held.is;
        words = subst (HasWords spec.types f.ty held.value) (sym read) held.words;
        typed = member_typed spec u types looks i k name fields f a is at ga.typed;
      }

  field_given : (of t : Ty) (k : ℕ) (a : CExpr) (v ws : List ℕ) → HasMember spec.types of k t → For a of v → ws ≡ member m.types (types_of.entry_of m.types of) v k
      → For (e.Field a (member_name (to.entry_of spec.types of) k)) t ws
  field_given (ty.Scalar r) t k a v ws h g q = absurd h.struct_is
  field_given (ty.Array i) t k a v ws h g q = absurd h.struct_is
  field_given (ty.Struct i) t k a v ws h g q =
      let name = h.struct_is.0 in
      let one = settle spec.types u s (e.Field a h.member.name) h.member.ty ws (member_given i k name h.fields h.member a v ws h.struct_is.1 h.is g q) in
      subst (λ (x : List ℕ). For (e.Field a x) t ws) (sym (member_named spec u types looks i k name h.fields h.member h.struct_is.1 h.is)) (as_type (e.Field a h.member.name) t h.member.ty ws (sym h.type_is) one)

  array_given : (i n : ℕ) (elem : Ty) (es : List CExpr) (ws : List ℕ) → slice_get spec.types i ≡ Some (entry.Array elem n) → HaveTypesFor spec.types u es (replicate n elem)
      → GivesAll spec.types u s es (replicate n elem) ws → GivesValue spec.types u s (array_value (c_type spec.types (ty.Array i)) es) (ty.Array i) ws
  array_given i n elem es ws is h g =
      let same : c_type spec.types (ty.Array i) ≡ cty.Array (element_word spec.types elem) n = ap (array_type spec.types) is in
      let elems : map (c_type spec.types) (replicate n elem) ≡ replicate n (elem_type (element_word spec.types elem)) = types_replicate spec.types n elem ∙ ap (λ (t : CTy). replicate n t) (sym (looks.element i n elem is)) in
      record {
        value = array_of g.all;
        is = ap (λ (t : CTy). (evaluate u s (tree (array_value t es))).value) same
            ∙ ap (λ x. (evaluate u s x).value) (tree-Arr (element_word spec.types elem) n es)
            ∙ arr_value u s (element_word spec.types elem) n (exprs (map tree es)) g.all (subst (λ (ts : List CTy). (evaluate_all u s ts (exprs (map tree es))).value ≡ Ok g.all) elems g.are);
        words = (elem, n, is, g.words);
        typed = array_typed spec u types looks i n elem es is h;
      }

  struct_given : (i : ℕ) (name : List ℕ) (fields : List Field) (es : List CExpr) (ws : List ℕ) → slice_get spec.types i ≡ Some (entry.Struct name fields) → HaveTypesFor spec.types u es (field_types fields)
      → GivesAll spec.types u s es (field_types fields) ws → GivesValue spec.types u s (struct_value (c_type spec.types (ty.Struct i)) es) (ty.Struct i) ws
  struct_given i name fields es ws is h g =
      let same : c_type spec.types (ty.Struct i) ≡ cty.Struct name = ap (λ (x : Option TypeEntry). cty.Struct (struct_name x)) is in
      record {
        value = struct_of g.all;
        is = ap (λ (t : CTy). (evaluate u s (tree (struct_value t es))).value) same
            ∙ ap (λ x. (evaluate u s x).value) (tree-Rec name es)
            ∙ rec_value u s name (exprs (map tree es)) (map (c_field spec.types) fields) g.all (looks.struct i name fields is)
            (subst (λ (ts : List CTy). (evaluate_all u s ts (exprs (map tree es))).value ≡ Ok g.all) (types_fields spec.types fields) g.are);
        words = (name, fields, is, g.words);
        typed = struct_typed spec u types looks i name fields es is h;
      }

  -- ---- all

  abbrev has : (a : Term) (t : Ty) → HasType sig a t → IsPlain a → IsWrittenOut [] a → HasTypeFor spec.types u (translated spec a) t
  has a t h p o = has_type spec u types looks a t h p o

  mutual
    pub gives : (a : Term) (t : Ty) (ws : List ℕ) → HasType sig a t → IsPlain a → IsWrittenOut [] a → value m a ≡ Ok ws → For (translated spec a) t ws
    gives (lit r w) t ws h p o v = as_type _ t (ty.Scalar r) ws h.1 (record { word = w; words = same_words (w ∷ []) ws v; good = h.0; gives = ops.literal u s r w h.0 })
    gives (extern x) t ws h p o v = extern_given x t ws h (same_words _ ws v)
    gives (stream x) t ws h p o v =
        let z : m.time ≡ m.time + 0 = omega arith in
        read_given 0 x t h.stream ws h.is h.type_is (some_count x h.stream h.is) (same_words _ ws v ∙ ap (entry_at m.table x) z)
    gives (def d) t ws h p o v = absurd o
    gives (named d a) t ws h p o v = gives a t ws h.1 p o v
    gives missing t ws h p o v = absurd h
    gives (dropped x n) t ws h p o v = read_given n x t h.stream ws h.is h.type_is h.within (same_words _ ws v)
    gives (un op r a) t ws h p o v =
        let x = operand u s (translated spec a) r (value m a) (λ (k : ℕ). Ok (of.op1_word op r k ∷ [])) ws v (λ y q. gives a (ty.Scalar r) y h.1 p o q) in
        as_type _ t (ty.Scalar r) ws h.2 (record { word = of.op1_word op r x.word; words = same_words _ ws x.rest; good = op1_answer op r x.word h.0 x.good; gives = ops.unary u s op r (translated spec a) x.word h.0 x.good x.gives })
    gives (bin op r a b) t ws h p o v =
        let x = operand u s (translated spec a) r (value m a) (λ (k : ℕ). on_word (value m b) (λ (l : ℕ). one (of.op2_word op r k l))) ws v (λ y q. gives a (ty.Scalar r) y h.1 p.0 o.0 q) in
        let y = operand u s (translated spec b) r (value m b) (λ (l : ℕ). one (of.op2_word op r x.word l)) ws x.rest (λ z q. gives b (ty.Scalar r) z h.2 p.1 o.1 q) in
        let w = one_parts (of.op2_word op r x.word y.word) ws y.rest in
        as_type _ t (ty.Scalar (op2_gives op r)) ws h.3 (record {
          word = w.word;
          words = w.words;
          good = answered (λ (k : ℕ). IsTrue (of.is_word (op2_gives op r) k)) (of.op2_word op r x.word y.word) w.word (op2_answer op r x.word y.word h.0 x.good y.good) w.is;
          gives = ops.binary u s op r (translated spec a) (translated spec b) x.word y.word w.word h.0 x.good y.good x.gives y.gives w.is;
        })
    gives (shift d r a cs n) t ws h p o v =
        let x = operand u s (translated spec a) r (value m a) (λ (k : ℕ). on_word (value m n) (λ (l : ℕ). one (of.shift_word d r k cs l))) ws v (λ y q. gives a (ty.Scalar r) y h.1 p.0 o.0 q) in
        let y = operand u s (translated spec n) cs (value m n) (λ (l : ℕ). one (of.shift_word d r x.word cs l)) ws x.rest (λ z q. gives n (ty.Scalar cs) z h.2 p.1 o.1 q) in
        let w = one_parts (of.shift_word d r x.word cs y.word) ws y.rest in
        as_type _ t (ty.Scalar r) ws h.3 (record {
          word = w.word;
          words = w.words;
          good = answered (λ (k : ℕ). IsTrue (of.is_word r k)) (of.shift_word d r x.word cs y.word) w.word (shift_answer d r x.word cs y.word h.0 x.good) w.is;
          gives = ops.shift u s d r cs (translated spec a) (translated spec n) x.word y.word w.word h.0 x.good y.good x.gives y.gives w.is;
        })
    gives (cast f r a) t ws h p o v =
        let x = operand u s (translated spec a) f (value m a) (λ (k : ℕ). one (of.cast_word f r k)) ws v (λ y q. gives a (ty.Scalar f) y h.1 p o q) in
        let w = one_parts (of.cast_word f r x.word) ws x.rest in
        as_type _ t (ty.Scalar r) ws h.2 (record {
          word = w.word;
          words = w.words;
          good = answered (λ (k : ℕ). IsTrue (of.is_word r k)) (of.cast_word f r x.word) w.word (cast_answer f r x.word h.0) w.is;
          gives = ops.cast u s f r (translated spec a) x.word w.word h.0 x.good x.gives w.is;
        })
    gives (and a b) t ws h p o v =
        let x = operand u s (translated spec a) scalar.Bool (value m a) (λ (k : ℕ). if is_true_word k then value m b else Ok (0 ∷ [])) ws v (λ y q. gives a bool y h.0 p.0 o.0 q) in
        as_type _ t bool ws h.2 (and_given (translated spec a) (translated spec b) (value m b) ws x.word x.good x.gives x.rest (has b bool h.1 p.1 o.1) (λ y q. gives b bool y h.1 p.1 o.1 q))
    gives (or a b) t ws h p o v =
        let x = operand u s (translated spec a) scalar.Bool (value m a) (λ (k : ℕ). if is_true_word k then Ok (1 ∷ []) else value m b) ws v (λ y q. gives a bool y h.0 p.0 o.0 q) in
        as_type _ t bool ws h.2 (or_given (translated spec a) (translated spec b) (value m b) ws x.word x.good x.gives x.rest (has b bool h.1 p.1 o.1) (λ y q. gives b bool y h.1 p.1 o.1 q))
    gives (implies a b) t ws h p o v =
        let x = operand u s (translated spec a) scalar.Bool (value m a) (λ (k : ℕ). if is_true_word k then value m b else Ok (1 ∷ [])) ws v (λ y q. gives a bool y h.0 p.0 o.0 q) in
        as_type _ t bool ws h.2 (implies_given (translated spec a) (translated spec b) (value m b) ws x.word x.good x.gives x.rest (has b bool h.1 p.1 o.1) (λ y q. gives b bool y h.1 p.1 o.1 q))
    gives (choose q a b) t ws h p o v =
        let x = operand u s (translated spec q) scalar.Bool (value m q) (λ (k : ℕ). if is_true_word k then value m a else value m b) ws v (λ y r. gives q bool y h.0 p.0 o.0 r) in
        choice_given t (translated spec q) (translated spec a) (translated spec b) (value m a) (value m b) ws x.word x.good x.gives x.rest
        (has a t h.1 p.1 o.1) (has b t h.2 p.2 o.2) (has (choose q a b) t h p o) (λ y r. gives a t y h.1 p.1 o.1 r) (λ y r. gives b t y h.2 p.2 o.2 r)
    gives (index (ty.Scalar r) a i) t ws h p o v = absurd h.1
    gives (index (ty.Struct r) a i) t ws h p o v = absurd h.1
    gives (index (ty.Array r) a i) t ws h p o v =
        let f = then_parts (value m a) (λ (y : List ℕ). on_word (value m i) (eval.element m.types (types_of.entry_of m.types (ty.Array r)) y)) ws v in
        let x = operand u s (translated spec i) scalar.Word32 (value m i) (eval.element m.types (types_of.entry_of m.types (ty.Array r)) f.first) ws f.rest (λ y q. gives i word32 y h.3 p.1 o.1 q) in
        settle spec.types u s _ t ws
        (index_given r h.0 t (translated spec a) (translated spec i) f.first ws x.word h.1 (gives a (ty.Array r) f.first h.2 p.0 o.0 f.is) x.gives x.good (has i word32 h.3 p.1 o.1) x.rest)
    gives (field of_ k a) t ws h p o v =
        let f = then_parts (value m a) (λ (y : List ℕ). Ok (member m.types (types_of.entry_of m.types of_) y k)) ws v in
        field_given of_ t k (translated spec a) f.first ws h.0 (gives a of_ f.first h.1 p o f.is) (same_words _ ws f.rest)
    gives (array (ty.Scalar r) es) t ws h p o v = absurd h.2
    gives (array (ty.Struct r) es) t ws h p o v = absurd h.2
    gives (array (ty.Array r) es) t ws h p o v =
        as_type _ t (ty.Array r) ws h.4 (array_given r h.1 h.0 (all_translated spec es) ws h.2 (have_types spec u types looks es (replicate h.1 h.0) h.3 p o) (all_give es (replicate h.1 h.0) ws h.3 p o v))
    gives (struct (ty.Scalar r) es) t ws h p o v = absurd h.1
    gives (struct (ty.Array r) es) t ws h p o v = absurd h.1
    gives (struct (ty.Struct r) es) t ws h p o v =
        as_type _ t (ty.Struct r) ws h.3 (struct_given r h.1.0 h.0 (all_translated spec es) ws h.1.1 (have_types spec u types looks es (field_types h.0) h.2 p o) (all_give es (field_types h.0) ws h.2 p o v))
    gives (abs r a) t ws h p o v = absurd p
    gives (sign r a) t ws h p o v = absurd p
    gives (majority r es) t ws h p o v = absurd p
    gives (agreed r es) t ws h p o v = absurd p
    gives (lib n form es) t ws h p o v = absurd p

    pub all_give : (es : Terms) (ts : List Ty) (ws : List ℕ) → HaveTypes sig es ts → ArePlain es → AreWritten (λ d. ⊥) [] es → all_values m es ≡ Ok ws → GivesAll spec.types u s (all_translated spec es) ts ws
    all_give end [] ws h p o v = none_given spec.types u s ws (same_words [] ws v)
    all_give end (t ∷ ts) ws h p o v = absurd h
    all_give (more a es) [] ws h p o v = absurd h
    all_give (more a es) (t ∷ ts) ws h p o v =
        let f = then_parts (value m a) (λ (x : List ℕ). bind (all_values m es) (λ (xs : List ℕ). Ok (x ++ xs))) ws v in
        let g = then_parts (all_values m es) (λ (xs : List ℕ). Ok (f.first ++ xs)) ws f.rest in
        more_given spec.types u s (translated spec a) (all_translated spec es) t ts ws f.first g.first (same_words _ ws g.rest) (gives a t f.first h.0 p.0 o.0 f.is) (all_give es ts g.first h.1 p.1 o.1 g.is)
