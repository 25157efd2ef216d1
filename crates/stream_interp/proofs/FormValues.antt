-- The value of a form from the values of its parts.
use Rattle.std.proofs.Common.{◌≡◌, ℕ, List, [], ◌∷◌, ◌++◌, Result, Ok, Err, refl, sym, ap, ◌∙◌, zero-add}
use Rattle.stream_types.specs.declared.scalar.Dir.{Dir}
use Rattle.stream_types.specs.declared.scalar.Hazard.{Hazard}
use Rattle.stream_types.specs.declared.scalar.Op1.{Op1}
use Rattle.stream_types.specs.declared.scalar.Op2.{Op2}
use Rattle.stream_types.specs.declared.scalar.Scalar.{Scalar}
use Rattle.stream_types.specs.declared.scalar.Ty.{Ty}
use Rattle.stream_types.specs.Numbers.{cast_word, op1_word, op2_word, shift_word}
use Rattle.stream_types.specs.Types.{entry_of}
use Rattle.stream_core.specs.declared.node.Node.{Node}
use Rattle.stream_core.specs.declared.node.Node.TheVariants as node
use Rattle.stream_core.specs.Eval.{Moment, Table, Value, all_values, cons, element, entry_at, member, on_two, on_word, one, part_of, value}
use Rattle.stream_core.specs.Library.{bind}
use Rattle.stream_core.specs.Term.{build, closed, closed_def, dropped, extern, field, index, stream, terms_of}
use Rattle.stream_core.specs.Value.{SpecValue}
use Rattle.stream_interp.specs.Seen.{now_moment}

module _ (m : Moment) (s : SpecValue) where
  abbrev pub form_value : Node → Value
  form_value form = value m (build s.libs (closed_def s) (closed s) form)

  abbrev at : ℕ → Value
  at i = value m (closed s i)

  pub un_value : (form : Node) (o : Op1) (c : Scalar) (a x r : ℕ) → form ≡ node.Un o c a → at a ≡ Ok (x ∷ []) → r ≡ op1_word o c x → form_value form ≡ one (Ok r)
  un_value form o c a x r e v w = ap form_value e ∙ ap (λ y. on_word y (λ z. Ok (op1_word o c z ∷ []))) v ∙ ap (λ z. Ok (z ∷ [])) (sym w)

  pub un_err : (form : Node) (o : Op1) (c : Scalar) (a : ℕ) (h : Hazard) → form ≡ node.Un o c a → at a ≡ Err h → form_value form ≡ Err h
  un_err form o c a h e v = ap form_value e ∙ ap (λ y. on_word y (λ z. Ok (op1_word o c z ∷ []))) v

  pub cast_value : (form : Node) (f t : Scalar) (a x : ℕ) (r : Result ℕ Hazard) → form ≡ node.Cast f t a → at a ≡ Ok (x ∷ []) → r ≡ cast_word f t x → form_value form ≡ one r
  cast_value form f t a x r e v w = ap form_value e ∙ ap (λ y. on_word y (λ z. one (cast_word f t z))) v ∙ ap one (sym w)

  pub cast_err : (form : Node) (f t : Scalar) (a : ℕ) (h : Hazard) → form ≡ node.Cast f t a → at a ≡ Err h → form_value form ≡ Err h
  cast_err form f t a h e v = ap form_value e ∙ ap (λ y. on_word y (λ z. one (cast_word f t z))) v

  pub bin_value : (form : Node) (o : Op2) (c : Scalar) (a b x y : ℕ) (r : Result ℕ Hazard) → form ≡ node.Bin o c a b → at a ≡ Ok (x ∷ []) → at b ≡ Ok (y ∷ []) → r ≡ op2_word o c x y → form_value form ≡ one r
  bin_value form o c a b x y r e v w is =
      ap form_value e ∙ ap (λ p. on_two p (at b) (λ k l. one (op2_word o c k l))) v ∙ ap (λ p. on_word p (λ l. one (op2_word o c x l))) w ∙ ap one (sym is)

  pub bin_first : (form : Node) (o : Op2) (c : Scalar) (a b : ℕ) (h : Hazard) → form ≡ node.Bin o c a b → at a ≡ Err h → form_value form ≡ Err h
  bin_first form o c a b h e v = ap form_value e ∙ ap (λ p. on_two p (at b) (λ k l. one (op2_word o c k l))) v

  pub bin_second : (form : Node) (o : Op2) (c : Scalar) (a b x : ℕ) (h : Hazard) → form ≡ node.Bin o c a b → at a ≡ Ok (x ∷ []) → at b ≡ Err h → form_value form ≡ Err h
  bin_second form o c a b x h e v w =
      ap form_value e ∙ ap (λ p. on_two p (at b) (λ k l. one (op2_word o c k l))) v ∙ ap (λ p. on_word p (λ l. one (op2_word o c x l))) w

  pub shift_value : (form : Node) (d : Dir) (c : Scalar) (a : ℕ) (cs : Scalar) (b x y : ℕ) (r : Result ℕ Hazard) → form ≡ node.Shift d c a cs b → at a ≡ Ok (x ∷ []) → at b ≡ Ok (y ∷ []) → r ≡ shift_word d c x cs y → form_value form ≡ one r
  shift_value form d c a cs b x y r e v w is =
      ap form_value e ∙ ap (λ p. on_two p (at b) (λ k l. one (shift_word d c k cs l))) v ∙ ap (λ p. on_word p (λ l. one (shift_word d c x cs l))) w ∙ ap one (sym is)

  pub shift_first : (form : Node) (d : Dir) (c : Scalar) (a : ℕ) (cs : Scalar) (b : ℕ) (h : Hazard) → form ≡ node.Shift d c a cs b → at a ≡ Err h → form_value form ≡ Err h
  shift_first form d c a cs b h e v = ap form_value e ∙ ap (λ p. on_two p (at b) (λ k l. one (shift_word d c k cs l))) v

  pub shift_second : (form : Node) (d : Dir) (c : Scalar) (a : ℕ) (cs : Scalar) (b x : ℕ) (h : Hazard) → form ≡ node.Shift d c a cs b → at a ≡ Ok (x ∷ []) → at b ≡ Err h → form_value form ≡ Err h
  shift_second form d c a cs b x h e v w =
      ap form_value e ∙ ap (λ p. on_two p (at b) (λ k l. one (shift_word d c k cs l))) v ∙ ap (λ p. on_word p (λ l. one (shift_word d c x cs l))) w

  pub index_value : (of : Ty) (a i k : ℕ) (v : List ℕ) → at a ≡ Ok v → at i ≡ Ok (k ∷ []) → value m (index of (closed s a) (closed s i)) ≡ element m.types (entry_of m.types of) v k
  index_value of a i k v e g =
      ap (λ p. bind p (λ u. on_word (at i) (element m.types (entry_of m.types of) u))) e ∙ ap (λ p. on_word p (element m.types (entry_of m.types of) v)) g

  pub index_first : (of : Ty) (a i : ℕ) (h : Hazard) → at a ≡ Err h → value m (index of (closed s a) (closed s i)) ≡ Err h
  index_first of a i h e = ap (λ p. bind p (λ u. on_word (at i) (element m.types (entry_of m.types of) u))) e

  pub index_second : (of : Ty) (a i : ℕ) (v : List ℕ) (h : Hazard) → at a ≡ Ok v → at i ≡ Err h → value m (index of (closed s a) (closed s i)) ≡ Err h
  index_second of a i v h e g =
      ap (λ p. bind p (λ u. on_word (at i) (element m.types (entry_of m.types of) u))) e ∙ ap (λ p. on_word p (element m.types (entry_of m.types of) v)) g

  pub field_value : (of : Ty) (k a : ℕ) (v : List ℕ) → at a ≡ Ok v → value m (field of k (closed s a)) ≡ Ok (member m.types (entry_of m.types of) v k)
  field_value of k a v e = ap (λ p. bind p (λ u. Ok (member m.types (entry_of m.types of) u k))) e

  pub field_err : (of : Ty) (k a : ℕ) (h : Hazard) → at a ≡ Err h → value m (field of k (closed s a)) ≡ Err h
  field_err of k a h e = ap (λ p. bind p (λ u. Ok (member m.types (entry_of m.types of) u k))) e

  pub cons_value : (first : ℕ) (rest : List ℕ) (x xs : List ℕ) → at first ≡ Ok x → all_values m (terms_of (closed s) rest) ≡ Ok xs → all_values m (terms_of (closed s) (first ∷ rest)) ≡ Ok (x ++ xs)
  cons_value first rest x xs e g = ap (λ p. cons p (all_values m (terms_of (closed s) rest))) e ∙ ap (λ p. bind p (λ ys. Ok (x ++ ys))) g

  pub cons_first : (first : ℕ) (rest : List ℕ) (h : Hazard) → at first ≡ Err h → all_values m (terms_of (closed s) (first ∷ rest)) ≡ Err h
  cons_first first rest h e = ap (λ p. cons p (all_values m (terms_of (closed s) rest))) e

  pub cons_second : (first : ℕ) (rest : List ℕ) (x : List ℕ) (h : Hazard) → at first ≡ Ok x → all_values m (terms_of (closed s) rest) ≡ Err h → all_values m (terms_of (closed s) (first ∷ rest)) ≡ Err h
  cons_second first rest x h e g = ap (λ p. cons p (all_values m (terms_of (closed s) rest))) e ∙ ap (λ p. bind p (λ ys. Ok (x ++ ys))) g

-- ---- what is read

module _ (s : SpecValue) (rings : Table) (row : List ℕ) where
  pub types_now : (now_moment s rings row).types ≡ s.types
  unfolding now_moment
  types_now = refl

  pub extern_now : (x : ℕ) → value (now_moment s rings row) (extern x) ≡ Ok (part_of s.types s.externs row x)
  unfolding now_moment
  extern_now x = refl

  pub stream_now : (x : ℕ) → value (now_moment s rings row) (stream x) ≡ Ok (entry_at rings x 0)
  unfolding now_moment
  stream_now x = refl

  pub dropped_now : (x k : ℕ) → value (now_moment s rings row) (dropped x k) ≡ Ok (entry_at rings x k)
  unfolding now_moment
  dropped_now x k = ap (λ n. Ok (entry_at rings x n)) (zero-add k)

  -- an element, and a member
  pub element_now : (of : Ty) (a i k : ℕ) (v : List ℕ) → value (now_moment s rings row) (closed s a) ≡ Ok v → value (now_moment s rings row) (closed s i) ≡ Ok (k ∷ [])
      → value (now_moment s rings row) (index of (closed s a) (closed s i)) ≡ element s.types (entry_of s.types of) v k
  element_now of a i k v e g = index_value (now_moment s rings row) s of a i k v e g ∙ ap (λ ts. element ts (entry_of ts of) v k) types_now

  pub member_now : (of : Ty) (k a : ℕ) (v : List ℕ) → value (now_moment s rings row) (closed s a) ≡ Ok v
      → value (now_moment s rings row) (field of k (closed s a)) ≡ Ok (member s.types (entry_of s.types of) v k)
  member_now of k a v e = field_value (now_moment s rings row) s of k a v e ∙ ap (λ ts. Ok (member ts (entry_of ts of) v k)) types_now
