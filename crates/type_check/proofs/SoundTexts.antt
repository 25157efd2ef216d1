-- The names and the members of a text stand for sound types.
use Rattle.std.proofs.Common.{◌≡◌, ℕ, Bool, true, false, List, [], ◌∷◌, map, length, sym, subst}
use Rattle.std.specs.Prelude.{◌&&◌, if◌then◌else◌, bytes_eq, Some}
use Rattle.spec_text.specs.declared.surface.NameAt.{NameAt}
use Rattle.spec_text.specs.declared.surface.FieldForm.{FieldForm}
use Rattle.spec_text.specs.declared.surface.TypeForm.{TypeForm}
use Rattle.spec_text.specs.declared.surface.Decl.{Decl}
use Rattle.spec_text.specs.declared.surface.Decl.TheVariants as d
use Rattle.spec_text.specs.Form.{form_of_type}
use Rattle.spec_text.specs.Extent.{item_count}
use Rattle.spec_text.specs.Shape.{most_initial}
use Rattle.spec_text.specs.KeepsTable.{between, all_kept, kept_from, keeps_name, keeps_type, keeps_const, keeps_expr, keeps_field, keeps_decl}
use Rattle.type_check.specs.NamedType.{Declarations, Struct, struct_in}
use Rattle.type_check.specs.Judged.{judge_form, elsewhere, Named, extern_of, stream_of, def_of, named_in, declared, member_in}
use Rattle.type_check.specs.Untyped.{reversed}
use Rattle.type_check.specs.Standing.{IsDistinct}
use Rattle.type_check.specs.Table.{struct_names}
use Rattle.type_check.proofs.SameNames.{left_true, right_true}
use Rattle.type_check.proofs.SoundTypes.{IsBehind}
use Rattle.type_check.proofs.SoundNodes.{IsSound, sound_behind, elsewhere_sound}
use Rattle.type_check.proofs.SoundForms.{form_sound}
use Rattle.type_check.proofs.SoundExprs.{IsSoundText}
use Rattle.type_check.proofs.Behind.{behind}

-- what is told of the declarations so far
record IsSoundSoFar (all ds : Declarations) : Type 0 where
  names_are : (x : List ℕ) (n : Named) → named_in ds x ≡ Some n → IsSound all (declared n) 0
  members_are : (x y : List ℕ) (s : Struct) (ty : TypeForm) → struct_in ds x ≡ Some s → member_in s.fields y ≡ Some ty → IsSound all (elsewhere s.before ty) 0

-- a type that is written behind some declarations
written_sound : (all before : Declarations) (ty : TypeForm) → IsBehind before all → keeps_type ty ≡ true → IsSound all (elsewhere before ty) 0
written_sound all before ty b k = elsewhere_sound all before ty (item_count (form_of_type ty)) (sound_behind before all (judge_form before ty) (item_count (form_of_type ty)) b (form_sound before ty k))

one_named : (all ds : Declarations) (x : List ℕ) (m n : Named) (b : Bool) → IsSound all (declared m) 0 → IsSoundSoFar all ds → (if b then Some m else named_in ds x) ≡ Some n → IsSound all (declared n) 0
one_named all ds x m n true h g e = let f : m ≡ n = cc in subst (λ (k : Named). IsSound all (declared k) 0) f h
one_named all ds x m n false h g e = g.names_are x n e

field_if : (all before : Declarations) (fs : List FieldForm) (f : FieldForm) (y : List ℕ) (ty : TypeForm) (b : Bool) → IsBehind before all → keeps_type f.ty ≡ true → (member_in fs y ≡ Some ty → IsSound all (elsewhere before ty) 0)
    → (if b then Some f.ty else member_in fs y) ≡ Some ty → IsSound all (elsewhere before ty) 0
field_if all before fs f y ty true b k g e = let h : f.ty ≡ ty = cc in subst (λ (t : TypeForm). IsSound all (elsewhere before t) 0) h (written_sound all before f.ty b k)
field_if all before fs f y ty false b k g e = g e

fields_sound : (all before : Declarations) (fs : List FieldForm) (y : List ℕ) (ty : TypeForm) → IsBehind before all → all_kept (map keeps_field fs) ≡ true → member_in fs y ≡ Some ty → IsSound all (elsewhere before ty) 0
fields_sound all before [] y ty b k e = absurd (cc)
fields_sound all before (f ∷ fs) y ty b k e =
    field_if all before fs f y ty (bytes_eq f.name.name y) b (right_true (keeps_name f.name) (keeps_type f.ty) (left_true (keeps_field f) (all_kept (map keeps_field fs)) k))
    (λ g. fields_sound all before fs y ty b (right_true (keeps_field f) (all_kept (map keeps_field fs)) k) g) e

one_struct : (all ds : Declarations) (fs : List FieldForm) (x y : List ℕ) (s : Struct) (ty : TypeForm) (b : Bool) → IsBehind ds all → all_kept (map keeps_field fs) ≡ true → IsSoundSoFar all ds → (if b then Some (record { fields = fs; before = ds }) else struct_in ds x) ≡ Some s
    → member_in s.fields y ≡ Some ty → IsSound all (elsewhere s.before ty) 0
one_struct all ds fs x y s ty true b k g e m =
    let own : Struct = record { fields = fs; before = ds } in
    let f : own ≡ s = cc in
    subst (λ (t : Struct). IsSound all (elsewhere t.before ty) 0) f (fields_sound all ds fs y ty b k (subst (λ (t : Struct). member_in t.fields y ≡ Some ty) (sym f) m))
one_struct all ds fs x y s ty false b k g e m = g.members_are x y s ty e m

-- the parts of a declaration that is kept
pub struct_kept : (v at : ℕ) (x : NameAt) (fs : List FieldForm) → keeps_decl v (d.Struct at x fs) ≡ true → all_kept (map keeps_field fs) ≡ true
struct_kept v at x fs k = right_true (between 1 64 (length (map keeps_field fs))) (all_kept (map keeps_field fs)) (right_true (keeps_name x) (kept_from 1 64 (map keeps_field fs)) k)

sound_from : (v : ℕ) (names : List (List ℕ)) → IsDistinct names → (ds : Declarations) (xs : List Decl) → names ≡ struct_names (reversed ds xs) → all_kept (map (keeps_decl v) xs) ≡ true → IsSoundSoFar (reversed ds xs) ds → IsSoundText (reversed ds xs)
sound_from v names n ds [] e k g = record { names_are = g.names_are; members_are = g.members_are }
sound_from v names n ds (d.Struct at x fs ∷ xs) e k g =
    let own = left_true (keeps_decl v (d.Struct at x fs)) (all_kept (map (keeps_decl v) xs)) k in
    let all = reversed ds (d.Struct at x fs ∷ xs) in
    sound_from v names n (d.Struct at x fs ∷ ds) xs e (right_true (keeps_decl v (d.Struct at x fs)) (all_kept (map (keeps_decl v) xs)) k) (record {
      names_are = λ q m h. g.names_are q m h;
      members_are = λ q y s ty h m. one_struct all ds fs q y s ty (bytes_eq x.name q) (behind names n ds (d.Struct at x fs ∷ xs) e) (struct_kept v at x fs own) g h m;
    })
sound_from v names n ds (d.Extern at x ty ∷ xs) e k g =
    let own = left_true (keeps_decl v (d.Extern at x ty)) (all_kept (map (keeps_decl v) xs)) k in
    let all = reversed ds (d.Extern at x ty ∷ xs) in
    sound_from v names n (d.Extern at x ty ∷ ds) xs e (right_true (keeps_decl v (d.Extern at x ty)) (all_kept (map (keeps_decl v) xs)) k) (record {
      names_are = λ q m h. one_named all ds q (extern_of ds ty) m (bytes_eq x.name q) (written_sound all ds ty (behind names n ds (d.Extern at x ty ∷ xs) e) (right_true (keeps_name x) (keeps_type ty) own)) g h;
      members_are = λ q y s u h m. g.members_are q y s u h m;
    })
sound_from v names n ds (d.Stream at x ty init f ∷ xs) e k g =
    let own = left_true (keeps_decl v (d.Stream at x ty init f)) (all_kept (map (keeps_decl v) xs)) k in
    let all = reversed ds (d.Stream at x ty init f ∷ xs) in
    let front = left_true (keeps_name x && keeps_type ty) (kept_from 1 (most_initial v) (map keeps_const init)) (left_true (keeps_name x && keeps_type ty && kept_from 1 (most_initial v) (map keeps_const init)) (keeps_expr f) own) in
    sound_from v names n (d.Stream at x ty init f ∷ ds) xs e (right_true (keeps_decl v (d.Stream at x ty init f)) (all_kept (map (keeps_decl v) xs)) k) (record {
      names_are = λ q m h. one_named all ds q (stream_of ds ty (length init)) m (bytes_eq x.name q) (written_sound all ds ty (behind names n ds (d.Stream at x ty init f ∷ xs) e) (right_true (keeps_name x) (keeps_type ty) front)) g h;
      members_are = λ q y s u h m. g.members_are q y s u h m;
    })
sound_from v names n ds (d.Def at x ty f ∷ xs) e k g =
    let own = left_true (keeps_decl v (d.Def at x ty f)) (all_kept (map (keeps_decl v) xs)) k in
    let all = reversed ds (d.Def at x ty f ∷ xs) in
    let front = left_true (keeps_name x && keeps_type ty) (keeps_expr f) own in
    sound_from v names n (d.Def at x ty f ∷ ds) xs e (right_true (keeps_decl v (d.Def at x ty f)) (all_kept (map (keeps_decl v) xs)) k) (record {
      names_are = λ q m h. one_named all ds q (def_of ds ty) m (bytes_eq x.name q) (written_sound all ds ty (behind names n ds (d.Def at x ty f ∷ xs) e) (right_true (keeps_name x) (keeps_type ty) front)) g h;
      members_are = λ q y s u h m. g.members_are q y s u h m;
    })
sound_from v names n ds (d.Trigger at x guard args ∷ xs) e k g =
    sound_from v names n (d.Trigger at x guard args ∷ ds) xs e (right_true (keeps_decl v (d.Trigger at x guard args)) (all_kept (map (keeps_decl v) xs)) k)
    (record { names_are = λ q m h. g.names_are q m h; members_are = λ q y s u h m. g.members_are q y s u h m })
sound_from v names n ds (d.Observer at x f ∷ xs) e k g =
    sound_from v names n (d.Observer at x f ∷ ds) xs e (right_true (keeps_decl v (d.Observer at x f)) (all_kept (map (keeps_decl v) xs)) k)
    (record { names_are = λ q m h. g.names_are q m h; members_are = λ q y s u h m. g.members_are q y s u h m })

pub sound_text : (v : ℕ) (names : List (List ℕ)) → IsDistinct names → (xs : List Decl) → names ≡ struct_names (reversed [] xs) → all_kept (map (keeps_decl v) xs) ≡ true → IsSoundText (reversed [] xs)
sound_text v names n xs e k = sound_from v names n [] xs e k (record { names_are = λ x m h. absurd (cc); members_are = λ x y s ty h m. absurd (cc) })
