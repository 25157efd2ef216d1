-- Constants without a fault are the words of their type, and nest as deep as it.
use Rattle.std.proofs.Common.{◌≡◌, ℕ, zero, suc, ◌+◌, ◌≤◌, Bool, true, false, nat_le, List, [], ◌∷◌, ◌++◌, map, length, refl, sym, ap, ◌∙◌, subst, arith}
use Rattle.std.specs.Prelude.{◌&&◌, is_some, max, Option, Some, None, IsTrue}
use Rattle.std.specs.List.{list_all, list_any, flat_map, AllByRecursion}
use Rattle.std.proofs.lemmas.Bool.{and_parts}
use Rattle.std.proofs.lemmas.Bool.Decides.{nat_tests}
use Rattle.std.proofs.lemmas.List.{length-append}
use Rattle.stream_types.specs.declared.scalar.Scalar.{Scalar}
use Rattle.stream_types.specs.declared.scalar.Ty.{Ty}
use Rattle.stream_types.specs.declared.types.Field.{Field}
use Rattle.stream_types.specs.declared.types.TypeEntry.{TypeEntry}
use Rattle.stream_types.specs.Numbers.{is_word}
use Rattle.stream_types.specs.Types.{leaves, repeated, AreWords}
use Rattle.stream_types.specs.TypeList.{IsTypeList}
use Rattle.stream_types.proofs.LeafEntries.{leaves-array, leaves-struct}
use Rattle.stream_types.proofs.LeafParts.{AreWords-append}
use Rattle.stream_core.specs.WellTyped.{nestings, nesting}
use Rattle.stream_core.specs.WellTyped.{deepest as deepest_fields}
use Rattle.spec_text.specs.declared.surface.FieldForm.{FieldForm}
use Rattle.spec_text.specs.declared.surface.NameAt.{NameAt}
use Rattle.spec_text.specs.declared.surface.ConstForm.{ConstForm, map-ConstForm, roll-ConstForm}
use Rattle.spec_text.specs.declared.surface.ConstForm.TheOpen.{ConstForm-F}
use Rattle.spec_text.specs.declared.surface.ConstForm.TheFolds.{fold-roll-ConstForm, ind-ConstForm}
use Rattle.spec_text.specs.Form.{Form, forms, form_of_const, const_step}
use Rattle.spec_text.specs.Extent.{deepest}
use Rattle.spec_text.specs.Extent.{nesting as form_nesting}
use Rattle.spec_text.specs.KeepsTable.{between, all_kept, kept_from, keeps_name, keeps_const, keeps_const_step}
use Rattle.type_check.specs.NamedType.{NamedType, scalar, struct, array, same_type, Declarations, Struct, struct_in}
use Rattle.type_check.specs.Judged.{Verdict, has, lacks, Judged, first_of, all_types, have_types, judged, type_of, types_of, Scope, judge_form, judge_const, on_items, on_record, are_fields}
use Rattle.type_check.specs.Judged.{const_step as judge_step}
use Rattle.type_check.specs.TypeOrder.{Event, is_met, number_of, ty_of, field_of, fields_of}
use Rattle.type_check.specs.declared.fault.TypeFault.TheVariants.{TypeClash}
use Rattle.type_check.proofs.Meaning.{same_true}
use Rattle.typed_text.specs.ReadSpec.{const_words, words_step}
use Rattle.typed_text.proofs.Sound.{WellNamed, IsEntered, AllMet, both_none, all_split, IsNode, node_of}
use Rattle.typed_text.proofs.Verdicts.{if_has, AreItems, items_has}
use Rattle.typed_text.proofs.Nestings.{nesting-array, nesting-struct}

-- what is known where a constant stands
pub record IsConstPlace (es : List Event) (order : List NamedType) (types : List TypeEntry) (scope : Scope) : Type 0 where
  pub list : IsTypeList types
  pub entered : (u : NamedType) → WellNamed scope.all u → IsTrue (list_any (is_met u) es) → IsEntered scope.all order types u
  pub structs : (x : List ℕ) (st : Struct) → struct_in scope.before x ≡ Some st → struct_in scope.all x ≡ Some st

-- a constant that has a type: it has the words of that type, one at least, and nests as deep as that
pub record IsSoundConst (order : List NamedType) (types : List TypeEntry) (scope : Scope) (c : ConstForm) : Type 0 where
  pub there : IsTrue (is_some (judge_const scope c).ty)
  pub well : WellNamed scope.all (type_of (judge_const scope c))
  pub words : AreWords (leaves types (ty_of order (type_of (judge_const scope c)))) (const_words c)
  pub some : 1 ≤ length (const_words c)
  pub nests : nesting types (ty_of order (type_of (judge_const scope c))) ≤ form_nesting (form_of_const c)

max_left : (a b : ℕ) → a ≤ max a b
max_left a b = omega arith

max_right : (a b : ℕ) → b ≤ max a b
max_right a b = omega arith

max_both : (a b c d : ℕ) → a ≤ c → b ≤ d → max a b ≤ max c d
max_both a b c d h k = omega (arith, h, k)

both_true : (a b : Bool) → a ≡ true → b ≡ true → (a && b) ≡ true
both_true true b h k = k
both_true false b h k = absurd (cc)

module _ (es : List Event) (order : List NamedType) (types : List TypeEntry) (scope : Scope) (here : IsConstPlace es order types scope) where
  abbrev Sound_ : ConstForm → Type 0
  Sound_ c = IsSoundConst order types scope c

  abbrev Kept : ConstForm → Type 0
  Kept c = keeps_const c ≡ true → (judge_const scope c).fault ≡ None → AllMet es (judge_const scope c).types → Sound_ c

  abbrev own_ty : ConstForm → Ty
  own_ty c = ty_of order (type_of (judge_const scope c))

  -- ---- constants one after another

  pub each_sound : (cs : List ConstForm) → AllByRecursion Kept cs → all_kept (map keeps_const cs) ≡ true → first_of (map (judge_const scope) cs) ≡ None → AllMet es (all_types (map (judge_const scope) cs))
      → AllByRecursion Sound_ cs × (have_types (map (judge_const scope) cs) ≡ true)
  each_sound [] h k f m = (tt, refl)
  each_sound (c ∷ cs) h k f m =
      let q = and_parts (keeps_const c) (all_kept (map keeps_const cs)) k in
      let e = both_none (judge_const scope c).fault (first_of (map (judge_const scope) cs)) f in
      let s = all_split _ (judge_const scope c).types (all_types (map (judge_const scope) cs)) m in
      let own = h.0 q.0 e.0 s.0 in
      let rest = each_sound cs h.1 q.1 e.1 s.1 in
      ((own, rest.0), both_true (is_some (judge_const scope c).ty) (have_types (map (judge_const scope) cs)) own.there rest.1)

  abbrev words_of : List ConstForm → List ℕ
  words_of cs = flat_map (λ ws. ws) (map const_words cs)

  -- constants of one type
  pub alike_words : (u : NamedType) (cs : List ConstForm) → AllByRecursion Sound_ cs → list_all (same_type u) (types_of (map (judge_const scope) cs)) ≡ true → AreWords (repeated (length (types_of (map (judge_const scope) cs))) (leaves types (ty_of order u))) (words_of cs)
  alike_words u [] h e = tt
  alike_words u (c ∷ cs) h e =
      let q = and_parts (same_type u (type_of (judge_const scope c))) (list_all (same_type u) (types_of (map (judge_const scope) cs))) e in
      let own : AreWords (leaves types (ty_of order u)) (const_words c) = subst (λ v. AreWords (leaves types (ty_of order v)) (const_words c)) (sym (same_true u (type_of (judge_const scope c)) q.0)) h.0.words in
      AreWords-append (leaves types (ty_of order u)) (repeated (length (types_of (map (judge_const scope) cs))) (leaves types (ty_of order u))) (const_words c) (words_of cs) own (alike_words u cs h.1 q.1)

  -- constants of the fields' types
  field_words : (before : Declarations) (fs : List FieldForm) (cs : List ConstForm) → AllByRecursion Sound_ cs → are_fields before fs (types_of (map (judge_const scope) cs)) ≡ true
      → AreWords (flat_map (λ (f : Field). leaves types f.ty) (map (field_of order before) fs)) (words_of cs)
  field_words before [] [] h e = tt
  field_words before [] (c ∷ cs) h e = absurd (cc)
  field_words before (f ∷ fs) [] h e = absurd (cc)
  field_words before (f ∷ fs) (c ∷ cs) h e =
      let u = type_of (judge_form before f.ty) in
      let q = and_parts (same_type u (type_of (judge_const scope c))) (are_fields before fs (types_of (map (judge_const scope) cs))) e in
      let own : AreWords (leaves types (ty_of order u)) (const_words c) = subst (λ v. AreWords (leaves types (ty_of order v)) (const_words c)) (sym (same_true u (type_of (judge_const scope c)) q.0)) h.0.words in
      AreWords-append (leaves types (ty_of order u)) (flat_map (λ (g : Field). leaves types g.ty) (map (field_of order before) fs)) (const_words c) (words_of cs) own (field_words before fs cs h.1 q.1)

  field_nests : (before : Declarations) (fs : List FieldForm) (cs : List ConstForm) → AllByRecursion Sound_ cs → are_fields before fs (types_of (map (judge_const scope) cs)) ≡ true
      → deepest_fields (nestings [] types) (map (field_of order before) fs) ≤ deepest (forms (map form_of_const cs))
  field_nests before [] [] h e = omega arith
  field_nests before [] (c ∷ cs) h e = absurd (cc)
  field_nests before (f ∷ fs) [] h e = absurd (cc)
  field_nests before (f ∷ fs) (c ∷ cs) h e =
      let u = type_of (judge_form before f.ty) in
      let q = and_parts (same_type u (type_of (judge_const scope c))) (are_fields before fs (types_of (map (judge_const scope) cs))) e in
      let own : nesting types (ty_of order u) ≤ form_nesting (form_of_const c) = subst (λ v. nesting types (ty_of order v) ≤ form_nesting (form_of_const c)) (sym (same_true u (type_of (judge_const scope c)) q.0)) h.0.nests in
      max_both (nesting types (ty_of order u)) (deepest_fields (nestings [] types) (map (field_of order before) fs)) (form_nesting (form_of_const c)) (deepest (forms (map form_of_const cs))) own (field_nests before fs cs h.1 q.1)

  words_some : (cs : List ConstForm) → AllByRecursion Sound_ cs → 1 ≤ length (map keeps_const cs) → 1 ≤ length (words_of cs)
  words_some [] h n = absurd (omega (arith, n))
  words_some (c ∷ cs) h n = let e = length-append (const_words c) (words_of cs) in let f = h.0.some in omega (arith, e, f)

  -- ---- each kind of constant

  -- what is judged, its words and its form
  record IsMade (j : Judged) (ws : List ℕ) (shape : Form) : Type 0 where
    there : IsTrue (is_some j.ty)
    well : WellNamed scope.all (type_of j)
    words : AreWords (leaves types (ty_of order (type_of j))) ws
    some : 1 ≤ length ws
    nests : nesting types (ty_of order (type_of j)) ≤ form_nesting shape

  made : (A : Type 0) (v : Verdict) (j : Judged) (n : IsNode es A v j) (ws : List ℕ) (shape : Form) → WellNamed scope.all n.ty → AreWords (leaves types (ty_of order n.ty)) ws → 1 ≤ length ws → nesting types (ty_of order n.ty) ≤ form_nesting shape → IsMade j ws shape
  made A v j n ws shape h w o d = record {
    there = n.there;
    well = subst (WellNamed scope.all) (sym n.type_is) h;
    words = subst (λ u. AreWords (leaves types (ty_of order u)) ws) (sym n.type_is) w;
    some = o;
    nests = subst (λ u. nesting types (ty_of order u) ≤ form_nesting shape) (sym n.type_is) d;
  }

  abbrev MadeIf : Judged → List ℕ → Form → Type 0
  MadeIf j ws shape = j.fault ≡ None → AllMet es j.types → IsMade j ws shape

  lit_made : (at : ℕ) (s : Scalar) (w : ℕ) → is_word s w ≡ true → MadeIf (judge_step scope (ConstForm-F.Lit at s w)) (w ∷ []) (const_step (ConstForm-F.Lit at s w))
  lit_made at s w k h m = record { there = refl; well = tt; words = (k, tt); some = omega arith; nests = omega arith }

  array_made : (at : ℕ) (cs : List ConstForm) → AllByRecursion Kept cs → kept_from 1 1024 (map keeps_const cs) ≡ true
      → MadeIf (judge_step scope (ConstForm-F.Array at (map (judge_const scope) cs))) (words_of cs) (const_step (ConstForm-F.Array at (map form_of_const cs)))
  array_made at [] g k h m = absurd (cc)
  array_made at (c ∷ cs) g k h m =
      let q = and_parts (between 1 1024 (length (map keeps_const (c ∷ cs)))) (all_kept (map keeps_const (c ∷ cs))) k in
      let js = map (judge_const scope) (c ∷ cs) in
      let ts = types_of (map (judge_const scope) cs) in
      let u = type_of (judge_const scope c) in
      let v = on_items scope.all at (u ∷ ts) in
      let node = node_of es (AllByRecursion Sound_ (c ∷ cs)) js v (each_sound (c ∷ cs) g q.1) h m in
      let i = items_has scope.all at (u ∷ ts) node.ty node.v_is in
      let own = first_is i.first i.rest u ts node.ty i.ts_are i.alike i.ty_is in
      let parts = node.parts in
      let good : WellNamed scope.all node.ty = subst (WellNamed scope.all) own.1 parts.0.well in
      let entered : IsEntered scope.all order types (array u (suc (length ts))) = subst (IsEntered scope.all order types) (sym own.1) (here.entered node.ty good node.is_met) in
      let leaf = leaves-array types (number_of order (array u (suc (length ts)))) (suc (length ts)) (ty_of order u) here.list entered in
      let deep = nesting-array types (number_of order (array u (suc (length ts)))) (suc (length ts)) (ty_of order u) here.list entered in
      let each : AreWords (repeated (suc (length ts)) (leaves types (ty_of order u))) (words_of (c ∷ cs)) =
      AreWords-append (leaves types (ty_of order u)) (repeated (length ts) (leaves types (ty_of order u))) (const_words c) (words_of cs) parts.0.words (alike_words u cs parts.1 own.0) in
      let whole : AreWords (leaves types (ty_of order (array u (suc (length ts))))) (words_of (c ∷ cs)) = subst (λ ss. AreWords ss (words_of (c ∷ cs))) (sym leaf) each in
      let first = parts.0.nests in
      let low : nesting types (ty_of order (array u (suc (length ts)))) ≤ 1 + max 0 (max (form_nesting (form_of_const c)) (deepest (forms (map form_of_const cs)))) = omega (arith, deep, first) in
      made (AllByRecursion Sound_ (c ∷ cs)) v (judged js v) node (words_of (c ∷ cs)) (const_step (ConstForm-F.Array at (map form_of_const (c ∷ cs)))) good
      (subst (λ w. AreWords (leaves types (ty_of order w)) (words_of (c ∷ cs))) own.1 whole)
      (words_some (c ∷ cs) parts (omega arith))
      (subst (λ w. nesting types (ty_of order w) ≤ 1 + max 0 (max (form_nesting (form_of_const c)) (deepest (forms (map form_of_const cs))))) own.1 low)
    where
      first_is : (a : NamedType) (as_ : List NamedType) (b : NamedType) (bs : List NamedType) (w : NamedType) → b ∷ bs ≡ a ∷ as_ → list_all (same_type a) as_ ≡ true → array a (suc (length as_)) ≡ w
          → (list_all (same_type b) bs ≡ true) × (array b (suc (length bs)) ≡ w)
      first_is a as_ b bs w e f p =
          let x : a ≡ b = cc in
          let y : as_ ≡ bs = cc in
          (subst (λ z. list_all (same_type b) z ≡ true) y (subst (λ z. list_all (same_type z) as_ ≡ true) x f), sym (ap (λ z. array z (suc (length as_))) x ∙ ap (λ z. array b (suc (length z))) y) ∙ p)

  record_by : (at : ℕ) (x : NameAt) (cs : List ConstForm) → AllByRecursion Kept cs → (nat_le 1 (length (map keeps_const cs)) && all_kept (map keeps_const cs)) ≡ true → (o : Option Struct) → struct_in scope.before x.name ≡ o
      → MadeIf (judged (map (judge_const scope) cs) (on_record o at x (types_of (map (judge_const scope) cs)))) (words_of cs) (const_step (ConstForm-F.Record at x (map form_of_const cs)))
  record_by at x cs g k None e h m =
      let q = and_parts (nat_le 1 (length (map keeps_const cs))) (all_kept (map keeps_const cs)) k in
      let ts = types_of (map (judge_const scope) cs) in
      let node = node_of es (AllByRecursion Sound_ cs) (map (judge_const scope) cs) (on_record None at x ts) (each_sound cs g q.1) h m in
      absurd (let no = node.v_is in cc)
  record_by at x cs g k (Some st) e h m =
      let q = and_parts (nat_le 1 (length (map keeps_const cs))) (all_kept (map keeps_const cs)) k in
      let js = map (judge_const scope) cs in
      let ts = types_of js in
      let v = on_record (Some st) at x ts in
      let node = node_of es (AllByRecursion Sound_ cs) js v (each_sound cs g q.1) h m in
      let p = if_has (are_fields st.before st.fields ts) (struct x.name) node.ty (TypeClash at) node.v_is in
      let found = here.structs x.name st e in
      let good : WellNamed scope.all (struct x.name) = ap is_some found in
      let entered : IsEntered scope.all order types (struct x.name) = subst (IsEntered scope.all order types) (sym p.1) (here.entered node.ty (subst (WellNamed scope.all) p.1 good) node.is_met) in
      let fs = fields_of order (struct_in scope.all x.name) in
      let fields_are : fs ≡ map (field_of order st.before) st.fields = ap (fields_of order) found in
      let leaf = leaves-struct types (number_of order (struct x.name)) x.name fs here.list entered in
      let deep = nesting-struct types (number_of order (struct x.name)) x.name fs here.list entered in
      let each = field_words st.before st.fields cs node.parts p.0 in
      let nests = field_nests st.before st.fields cs node.parts p.0 in
      let whole : AreWords (leaves types (ty_of order (struct x.name))) (words_of cs) = subst (λ ss. AreWords ss (words_of cs)) (sym (leaf ∙ ap (flat_map (λ (f : Field). leaves types f.ty)) fields_are)) each in
      let depth : nesting types (ty_of order (struct x.name)) ≡ 1 + deepest_fields (nestings [] types) (map (field_of order st.before) st.fields) = deep ∙ ap (λ gs. 1 + deepest_fields (nestings [] types) gs) fields_are in
      let low : nesting types (ty_of order (struct x.name)) ≤ 1 + max 0 (max 0 (deepest (forms (map form_of_const cs)))) = omega (arith, depth, nests) in
      made (AllByRecursion Sound_ cs) v (judged js v) node (words_of cs) (const_step (ConstForm-F.Record at x (map form_of_const cs))) (subst (WellNamed scope.all) p.1 good)
      (subst (λ w. AreWords (leaves types (ty_of order w)) (words_of cs)) p.1 whole)
      (words_some cs node.parts (grind (arith, nat_tests, q.0)))
      (subst (λ w. nesting types (ty_of order w) ≤ 1 + max 0 (max 0 (deepest (forms (map form_of_const cs))))) p.1 low)

  -- ---- all constants

  abbrev KeptConst : Type 0
  KeptConst = (c : ConstForm) × Kept c

  abbrev const_of : ConstForm-F KeptConst → ConstForm-F ConstForm
  const_of y = map-ConstForm KeptConst ConstForm (λ e. e.0) y

  abbrev firsts : List KeptConst → List ConstForm
  firsts cs = map (λ (e : KeptConst). e.0) cs

  all_kept_by : (cs : List KeptConst) → AllByRecursion Kept (firsts cs)
  all_kept_by [] = tt
  all_kept_by (c ∷ cs) = (c.1, all_kept_by cs)

  step_made : (y : ConstForm-F KeptConst) → keeps_const_step (map-ConstForm ConstForm Bool keeps_const (const_of y)) ≡ true
      → MadeIf (judge_step scope (map-ConstForm ConstForm Judged (judge_const scope) (const_of y))) (words_step (map-ConstForm ConstForm (List ℕ) const_words (const_of y))) (const_step (map-ConstForm ConstForm Form form_of_const (const_of y)))
  step_made (ConstForm-F.Lit at s w) k = lit_made at s w k
  step_made (ConstForm-F.Array at cs) k = array_made at (firsts cs) (all_kept_by cs) k
  step_made (ConstForm-F.Record at x cs) k =
      let q = and_parts (keeps_name x) (nat_le 1 (length (map keeps_const (firsts cs))) && all_kept (map keeps_const (firsts cs))) k in
      record_by at x (firsts cs) (all_kept_by cs) q.1 (struct_in scope.before x.name) refl

  const_rolled : (x : ConstForm-F ConstForm)
      → (keeps_const_step (map-ConstForm ConstForm Bool keeps_const x) ≡ true → MadeIf (judge_step scope (map-ConstForm ConstForm Judged (judge_const scope) x)) (words_step (map-ConstForm ConstForm (List ℕ) const_words x)) (const_step (map-ConstForm ConstForm Form form_of_const x)))
      → Kept (roll-ConstForm x)
  unfolding keeps_const judge_const const_words form_of_const
  const_rolled x g = λ k h m.
      let made_ = subst (λ j. MadeIf j (const_words (roll-ConstForm x)) (form_of_const (roll-ConstForm x))) (sym (fold-roll-ConstForm Judged (judge_step scope) x))
      (subst (λ ws. MadeIf (judge_step scope (map-ConstForm ConstForm Judged (judge_const scope) x)) ws (form_of_const (roll-ConstForm x))) (sym (fold-roll-ConstForm (List ℕ) words_step x))
      (subst (λ f. MadeIf (judge_step scope (map-ConstForm ConstForm Judged (judge_const scope) x)) (words_step (map-ConstForm ConstForm (List ℕ) const_words x)) f) (sym (fold-roll-ConstForm Form const_step x))
      (g (sym (fold-roll-ConstForm Bool keeps_const_step x) ∙ k)))) h m in
      record { there = made_.there; well = made_.well; words = made_.words; some = made_.some; nests = made_.nests }

  pub const_sound : (c : ConstForm) → Kept c
  const_sound = ind-ConstForm Kept (λ x y is. subst (λ z. Kept (roll-ConstForm z)) is (const_rolled (const_of y) (step_made y)))
