-- Expressions without a fault are read as well typed trees.
use Rattle.std.proofs.Common.{◌≡◌, ℕ, zero, suc, ◌+◌, ◌≤◌, ◌<◌, ◌^◌, Bool, true, false, nat_le, nat_lt, List, [], ◌∷◌, map, length, refl, sym, ap, ◌∙◌, subst, arith}
use Rattle.std.specs.Prelude.{◌&&◌, if◌then◌else◌, is_some, slice_get, Option, Some, None, IsTrue}
use Rattle.std.specs.List.{list_all, list_any, position_or_len, AllByRecursion}
use Rattle.std.specs.Option.{option_map_or}
use Rattle.std.proofs.lemmas.Bool.{and_parts}
use Rattle.std.proofs.lemmas.Bool.Decides.{nat_tests}
use Rattle.stream_types.specs.declared.scalar.Scalar.{Scalar}
use Rattle.stream_types.specs.Numbers.{is_word}
use Rattle.stream_core.specs.declared.node.LibForm.{LibForm}
use Rattle.stream_core.specs.declared.node.LibForm.TheVariants as form
use Rattle.stream_core.specs.Term as t
use Rattle.stream_core.specs.Term.{Term, Terms}
use Rattle.stream_core.specs.Signature.{Signature}
use Rattle.stream_core.specs.WellTyped.{HasType, ListHasTypes, IsGoodForm, operand_types, form_gives}
use Rattle.stream_core.specs.WellTyped.{bool as ty_bool}
use Rattle.spec_text.specs.declared.surface.NameAt.{NameAt}
use Rattle.spec_text.specs.declared.surface.TypeForm.{TypeForm}
use Rattle.spec_text.specs.declared.surface.Expr.{Expr, map-Expr, roll-Expr}
use Rattle.spec_text.specs.declared.surface.Expr.TheOpen.{Expr-F}
use Rattle.spec_text.specs.declared.surface.Expr.TheFolds.{fold-roll-Expr, ind-Expr}
use Rattle.spec_text.specs.KeepsTable.{between, all_kept, kept_from, keeps_name, keeps_type, keeps_expr, keeps_expr_step}
use Rattle.type_check.specs.declared.fault.TypeFault.{TypeFault}
use Rattle.type_check.specs.declared.fault.TypeFault.TheVariants.{Unknown, DropOfNoBuffer, DropTooFar, TypeClash}
use Rattle.type_check.specs.NamedType.{NamedType, scalar, struct, array, bool, Declarations, Struct, struct_in}
use Rattle.type_check.specs.Judged.{Verdict, has, lacks, if_so, Judged, first_of, all_types, have_types, judged, type_of, types_of, judge_form, elsewhere, member_of, member_in, before_struct, over_member, over_field, over_part, Scope, Named, extern_of, stream_of, def_of, named_in, declared, over_name, on_drop, over_drop, on_one, on_two, on_shift, on_cast, on_truths, on_choice, on_integer, on_index, on_items, on_record, on_votes, expr_step}
use Rattle.type_check.specs.TypeOrder.{Event, number_of, ty_of, field_of, fields_of}
use Rattle.typed_text.specs.ReadSpec.{Numbers, Read, plain, library, operand, scalar_of, scalar_in, first_scalar, name_term, number_in, member_number, struct_name, terms, terms_from, read_step, read_expr}
use Rattle.typed_text.proofs.Sound.{WellNamed, IsEntered, AllMet, IsTypedForm, IsNamed, kept_values, IsPlace, judged_of, IsSound, AllSound, SoundIf, both_none, all_split, IsNode, node_of, parts_sound, each_typed, Gives, sound_plain, GivesForm, sound_library}
use Rattle.typed_text.proofs.Verdicts.{if_has, un_gives, bin_gives, shift_gives, cast_gives, truths_typed, AreTruths, truths_has, choice_gives, IsInteger, integer_of, integer_named, integer_typed, index_gives, array_gives, record_gives, IsFound, member_found, HaveVotes, votes_typed}
use Rattle.typed_text.proofs.FormTypes.{AreIn, form_typed}

-- ---- names

-- parts that are known to have types
known_part : (es : List Event) (p : Judged) → IsTrue (is_some p.ty) → first_of (p ∷ []) ≡ None → AllMet es (all_types (p ∷ [])) → Unit {0} × (have_types (p ∷ []) ≡ true)
known_part es p there h m = (tt, ap (λ b. b && true) there)

abbrev no_reads : List Read
no_reads = []

pub name_sound : (numbers : Numbers) (scope : Scope) (es : List Event) (sig : Signature) → IsPlace numbers scope es sig → (x : NameAt) (o : Option Named) → named_in scope.all x.name ≡ o
    → SoundIf es numbers.order scope.all sig (plain (over_name x o) [] (λ as_. name_term numbers x.name))
name_sound numbers scope es sig here x None e h m = absurd (cc)
name_sound numbers scope es sig here x (Some n) e h m =
    let i = here.names x.name n e in
    let node = node_of es (Unit {0}) (declared n ∷ []) (has (type_of (declared n))) (known_part es (declared n) i.there) h m in
    let same : type_of (declared n) ≡ node.ty = (let q = node.v_is in cc) in
    sound_plain numbers scope es sig here (Unit {0}) (has (type_of (declared n))) (over_name x (Some n)) [] (λ as_. name_term numbers x.name) node tt
    (λ k. subst (λ u. Gives numbers.order scope.all sig u (name_term numbers x.name)) same (i.well, i.name))

-- a drop of a stream
record IsDrop (n : Named) (k : ℕ) (u w : NamedType) : Type 0 where
  within : k < kept_values n
  same : u ≡ w

drop_has : (at k : ℕ) (n : Named) (u w : NamedType) → on_drop at k n u ≡ has w → IsDrop n k u w
drop_has at k (extern_of ds ty) u w e = absurd (cc)
drop_has at k (stream_of ds ty n) u w e = let p = if_has (nat_lt k n) u w (DropTooFar at) e in record { within = grind (arith, nat_tests, p.0); same = p.1 }
drop_has at k (def_of ds ty) u w e = absurd (cc)

pub drop_sound : (numbers : Numbers) (scope : Scope) (es : List Event) (sig : Signature) → IsPlace numbers scope es sig → (at k : ℕ) (x : NameAt) (o : Option Named) → named_in scope.all x.name ≡ o
    → SoundIf es numbers.order scope.all sig (plain (over_drop at k x o) [] (λ as_. t.dropped (number_in numbers.streams x.name) k))
drop_sound numbers scope es sig here at k x None e h m = absurd (cc)
drop_sound numbers scope es sig here at k x (Some n) e h m =
    let i = here.names x.name n e in
    let v = on_drop at k n (type_of (declared n)) in
    let node = node_of es (Unit {0}) (declared n ∷ []) v (known_part es (declared n) i.there) h m in
    let r = drop_has at k n (type_of (declared n)) node.ty node.v_is in
    sound_plain numbers scope es sig here (Unit {0}) v (over_drop at k x (Some n)) [] (λ as_. t.dropped (number_in numbers.streams x.name) k) node tt
    (λ j. subst (λ u. Gives numbers.order scope.all sig u (t.dropped (number_in numbers.streams x.name) k)) r.same (i.well, i.drops k r.within))

-- ---- casts

within_all : (numbers : Numbers) (scope : Scope) (es : List Event) (sig : Signature) → IsPlace numbers scope es sig → AreIn scope.before scope.all
within_all numbers scope es sig here x h = found (struct_in scope.before x) refl h
  where
    found : (o : Option Struct) → struct_in scope.before x ≡ o → IsTrue (is_some o) → IsTrue (is_some (struct_in scope.all x))
    found None e b = absurd (cc)
    found (Some st) e b = ap is_some (here.structs x st e)

cast_parts : (numbers : Numbers) (scope : Scope) (es : List Event) (sig : Signature) → IsPlace numbers scope es sig → (to : TypeForm) (a : Read) → SoundIf es numbers.order scope.all sig a → first_of (judge_form scope.before to ∷ a.judged ∷ []) ≡ None
    → AllMet es (all_types (judge_form scope.before to ∷ a.judged ∷ [])) → IsSound numbers.order scope.all sig a × (have_types (judge_form scope.before to ∷ a.judged ∷ []) ≡ true)
cast_parts numbers scope es sig here to a g h m =
    let e = both_none (judge_form scope.before to).fault (first_of (a.judged ∷ [])) h in
    let s = all_split _ (judge_form scope.before to).types (all_types (a.judged ∷ [])) m in
    let r = parts_sound es numbers.order scope.all sig (a ∷ []) (g, tt) e.1 s.1 in
    (r.0.0, ap (λ b. b && have_types (a.judged ∷ [])) (form_typed es scope.before scope.all (within_all numbers scope es sig here) to e.0 s.0).there ∙ r.1)

pub cast_sound : (numbers : Numbers) (scope : Scope) (es : List Event) (sig : Signature) → IsPlace numbers scope es sig → (at : ℕ) (to : TypeForm) (a : Read) → SoundIf es numbers.order scope.all sig a
    → SoundIf es numbers.order scope.all sig (read_step numbers scope (Expr-F.Cast at to a))
cast_sound numbers scope es sig here at to a g h m =
    let qs = judge_form scope.before to ∷ a.judged ∷ [] in
    let v = on_cast at (type_of (judge_form scope.before to)) (type_of a.judged) in
    let node = node_of es (IsSound numbers.order scope.all sig a) qs v (cast_parts numbers scope es sig here to a g) h m in
    sound_plain numbers scope es sig here (IsSound numbers.order scope.all sig a) v (judged qs v) (a ∷ []) (λ as_. t.cast (scalar_of a) (scalar_in (type_of (judged qs v))) (operand as_ 0)) node (node.parts, tt)
    (λ k. cast_gives numbers.order scope.all sig at (type_of (judge_form scope.before to)) (type_of a.judged) node.ty (type_of (judged qs v)) (a.term k) node.v_is node.type_is (node.parts.typed k))

-- ---- members

member_parts : (numbers : Numbers) (scope : Scope) (es : List Event) (sig : Signature) (a : Read) (p : Judged) → SoundIf es numbers.order scope.all sig a → IsTrue (is_some p.ty) → first_of (a.judged ∷ p ∷ []) ≡ None
    → AllMet es (all_types (a.judged ∷ p ∷ [])) → IsSound numbers.order scope.all sig a × (have_types (a.judged ∷ p ∷ []) ≡ true)
member_parts numbers scope es sig a p g there h m =
    let e = both_none a.judged.fault (first_of (p ∷ [])) h in
    let s = all_split _ a.judged.types (all_types (p ∷ [])) m in
    let own = g e.0 s.0 in
    (own, ap (λ b. b && have_types (p ∷ [])) own.there ∙ ap (λ b. b && true) there)

-- the read of a member, judged like this
abbrev field_read : Numbers → Scope → Judged → Read → NamedType → NameAt → Read
field_read numbers scope j a of x = plain j (a ∷ []) (λ as_. t.field (ty_of numbers.order of) (member_number (struct_in scope.all (struct_name of)) x.name) (operand as_ 0))

mapped : {X Y : Type 0} (f : X → Y) (xs : List X) (i : ℕ) (x : X) → slice_get xs i ≡ Some x → slice_get (map f xs) i ≡ Some (f x)
mapped f [] i x h = absurd (cc)
mapped f (y ∷ xs) zero x h = let e : y ≡ x = cc in ap (λ z. Some (f z)) e
mapped f (y ∷ xs) (suc i) x h = mapped f xs i x h

member_gives : (numbers : Numbers) (scope : Scope) (es : List Event) (sig : Signature) → IsPlace numbers scope es sig → (a : Read) (y : List ℕ) (x : NameAt) (st : Struct) (form : TypeForm) (k : ℕ)
    → struct_in scope.all y ≡ Some st → member_in st.fields x.name ≡ Some form → IsSound numbers.order scope.all sig a → type_of a.judged ≡ struct y
    → Gives numbers.order scope.all sig (type_of (judge_form st.before form)) (t.field (ty_of numbers.order (struct y)) (member_number (struct_in scope.all y) x.name) (a.term k))
member_gives numbers scope es sig here a y x st form k e f own of =
    let found = member_found st.before scope.all st.fields x.name form (here.members y st e) f in
    let entered : IsEntered scope.all numbers.order sig.types (struct y) = subst (IsEntered scope.all numbers.order sig.types) of own.entered in
    let same : type_of (judge_form st.before found.field.ty) ≡ type_of (judge_form st.before form) = ap (λ z. type_of (judge_form st.before z)) found.form_is in (
      subst (WellNamed scope.all) same found.typed.well,
      (
        record {
          fields = fields_of numbers.order (struct_in scope.all y);
          struct_is = (y, entered);
          member = field_of numbers.order st.before found.field;
          is = ap (λ o. slice_get (fields_of numbers.order o) (member_number o x.name)) e ∙ mapped (field_of numbers.order st.before) st.fields (member_number (Some st) x.name) found.field found.is;
          type_is = ap (ty_of numbers.order) same;
        },
        subst (λ u. HasType sig (a.term k) (ty_of numbers.order u)) of (own.typed k),
      ),
    )

member_sound : (numbers : Numbers) (scope : Scope) (es : List Event) (sig : Signature) → IsPlace numbers scope es sig → (a : Read) → SoundIf es numbers.order scope.all sig a → (y : List ℕ) (x : NameAt) → type_of a.judged ≡ struct y → (o : Option Struct) → struct_in scope.all y ≡ o
    → (p : Option TypeForm) → member_of o x.name ≡ p → SoundIf es numbers.order scope.all sig (field_read numbers scope (over_member a.judged (before_struct o) x p) a (struct y) x)
member_sound numbers scope es sig here a g y x of o e None f h m = absurd (let n = node_of es (AllSound numbers.order scope.all sig (a ∷ [])) (a.judged ∷ []) (lacks (Unknown x.at)) (parts_sound es numbers.order scope.all sig (a ∷ []) (g, tt)) h m in let q = n.v_is in cc)
member_sound numbers scope es sig here a g y x of None e (Some form) f h m = absurd (cc)
member_sound numbers scope es sig here a g y x of (Some st) e (Some form) f h m =
    let p = elsewhere st.before form in
    let found = member_found st.before scope.all st.fields x.name form (here.members y st e) f in
    let there : IsTrue (is_some p.ty) = subst (λ z. IsTrue (is_some (judge_form st.before z).ty)) found.form_is found.typed.there in
    let node = node_of es (IsSound numbers.order scope.all sig a) (a.judged ∷ p ∷ []) (has (type_of p)) (member_parts numbers scope es sig a p g there) h m in
    let same : type_of p ≡ node.ty = (let q = node.v_is in cc) in
    sound_plain numbers scope es sig here (IsSound numbers.order scope.all sig a) (has (type_of p)) (judged (a.judged ∷ p ∷ []) (has (type_of p))) (a ∷ []) (λ as_. t.field (ty_of numbers.order (struct y)) (member_number (struct_in scope.all y) x.name) (operand as_ 0)) node (node.parts, tt)
    (λ k. subst (λ u. Gives numbers.order scope.all sig u (t.field (ty_of numbers.order (struct y)) (member_number (struct_in scope.all y) x.name) (a.term k))) same (member_gives numbers scope es sig here a y x st form k e f node.parts of))

field_of_type : (numbers : Numbers) (scope : Scope) (es : List Event) (sig : Signature) → IsPlace numbers scope es sig → (at : ℕ) (a : Read) → SoundIf es numbers.order scope.all sig a → (x : NameAt) (u : NamedType) → type_of a.judged ≡ u
    → SoundIf es numbers.order scope.all sig (field_read numbers scope (over_field scope.all at a.judged x u) a u x)
field_of_type numbers scope es sig here at a g x (scalar s) of h m = absurd (let n = node_of es (AllSound numbers.order scope.all sig (a ∷ [])) (a.judged ∷ []) (lacks (TypeClash at)) (parts_sound es numbers.order scope.all sig (a ∷ []) (g, tt)) h m in let q = n.v_is in cc)
field_of_type numbers scope es sig here at a g x (array u n) of h m = absurd (let n = node_of es (AllSound numbers.order scope.all sig (a ∷ [])) (a.judged ∷ []) (lacks (TypeClash at)) (parts_sound es numbers.order scope.all sig (a ∷ []) (g, tt)) h m in let q = n.v_is in cc)
field_of_type numbers scope es sig here at a g x (struct y) of h m = member_sound numbers scope es sig here a g y x of (struct_in scope.all y) refl (member_of (struct_in scope.all y) x.name) refl h m

field_if : (numbers : Numbers) (scope : Scope) (es : List Event) (sig : Signature) → IsPlace numbers scope es sig → (at : ℕ) (a : Read) → SoundIf es numbers.order scope.all sig a → (x : NameAt) (b : Bool) → is_some a.judged.ty ≡ b
    → SoundIf es numbers.order scope.all sig (field_read numbers scope (if b then over_field scope.all at a.judged x (type_of a.judged) else a.judged) a (type_of a.judged) x)
field_if numbers scope es sig here at a g x true e h m = field_of_type numbers scope es sig here at a g x (type_of a.judged) refl h m
field_if numbers scope es sig here at a g x false e h m = absurd (let own = g h m in let no : true ≡ false = sym own.there ∙ e in cc)

pub field_sound : (numbers : Numbers) (scope : Scope) (es : List Event) (sig : Signature) → IsPlace numbers scope es sig → (at : ℕ) (a : Read) → SoundIf es numbers.order scope.all sig a → (x : NameAt)
    → SoundIf es numbers.order scope.all sig (read_step numbers scope (Expr-F.Field at a x))
field_sound numbers scope es sig here at a g x = field_if numbers scope es sig here at a g x (is_some a.judged.ty) refl
