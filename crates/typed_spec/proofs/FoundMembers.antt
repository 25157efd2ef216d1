-- The members of structs by their names.
use Rattle.std.proofs.Common.{◌≡◌, ◌<◌, ◌≤◌, ℕ, suc, ◌+◌, Bool, true, false, not, List, [], ◌∷◌, length, get_or, Bor, refl, sym, ap, ap₂, ◌∙◌, subst, arith}
use Rattle.std.specs.Prelude.{◌&&◌, if◌then◌else◌, is_some, nat_lt, slice_get, bytes_eq, Option, Some, None, IfSome, option_copied}
use Rattle.std.proofs.lemmas.Option.{slice_get_past, slice_get_read}
use Rattle.std.proofs.lemmas.Bool.Decides.{nat_tests}
use Rattle.std.specs.List.{position_or_len}
use Rattle.std.specs.Option.{option_map, option_map_or}
use Rattle.spec_text.specs.declared.surface.NameAt.{NameAt}
use Rattle.spec_text.specs.declared.surface.FieldForm.{FieldForm}
use Rattle.spec_text.specs.declared.surface.TypeForm.{TypeForm}
use Rattle.type_check.specs.declared.fault.TypeFault.{TypeFault}
use Rattle.type_check.specs.declared.known.Known.{Known}
use Rattle.type_check.specs.declared.known.Known.TheVariants as known
use Rattle.type_check.specs.declared.known.Element.TheVariants as element
use Rattle.type_check.specs.declared.structs.Struct.{Struct as CodeStruct}
use Rattle.type_check.specs.declared.structs.Member.{Member}
use Rattle.type_check.specs.NamedType.{NamedType, scalar, struct, array, bool, Declarations, Struct, struct_in}
use Rattle.type_check.specs.Judged.{Judged, Scope, has, lacks, judged, over_parts, have_types, type_of, elsewhere, judge_form, member_in, member_of, before_struct, over_member, over_field, over_part}
use Rattle.type_check.specs.Standing.{MeansOption, both_none, both_some, AreMembers, no_members, more_members, IsStructAt, is_type, named_element}
use Rattle.type_check.proofs.Meaning.{some_struct}
use Rattle.typed_text.specs.ReadSpec.{is_member, member_number, struct_name}
use Rattle.typed_spec.specs.Texts.{IsKept}
use Rattle.typed_spec.proofs.TypedRows.{part_means, have_one, untyped_two, told_type}

-- ---- the struct that a type is

struct_type : (names : List (List ℕ)) (i : ℕ) (o : Option NamedType) → MeansOption names (Some (known.Element (element.Struct i))) o → (y : List ℕ) × (o ≡ Some (struct y)) × (slice_get names i ≡ Some y)
struct_type names i None h = elim h [ ]
struct_type names i (Some t) (both_some m) = let p = some_struct (slice_get names i) t m.is in (p.0, ap Some p.2, p.1)

pub struct_kept : (names : List (List ℕ)) (s : Scope) (j : Judged) (all : List CodeStruct) (i : ℕ) (t : Option Known) (o : Option CodeStruct)
    → ((k : ℕ) (y : List ℕ) → slice_get names k ≡ Some y → IsStructAt names s.all all y k) → ((k : ℕ) (x : CodeStruct) → slice_get all k ≡ Some x → length x.members < 4294967296)
    → MeansOption names t j.ty → t ≡ Some (known.Element (element.Struct i)) → o ≡ slice_get all i → IsKept names (struct_in s.all (struct_name (type_of j))) o
struct_kept names s j all i t o f few m ty_is e =
    let y = struct_type names i j.ty (subst (λ (k : Option Known). MeansOption names k j.ty) ty_is m) in
    let h = f i y.0 y.2 in
    let is : struct_in s.all (struct_name (type_of j)) ≡ Some h.declared = ap (λ (p : Option NamedType). struct_in s.all (struct_name (option_map_or (λ u. u) p bool))) y.1 ∙ h.is in
    subst (λ (p : Option Struct). IsKept names p o) (sym is)
    (subst (λ (q : Option CodeStruct). IsKept names (Some h.declared) q) (sym (e ∙ h.kept_is)) (h.members, few i h.kept h.kept_is))

not_struct : (o : Option NamedType) (k : ℕ) (t : NamedType) → option_map (λ u. array u k) o ≡ Some t → struct_name t ≡ []
not_struct None k t h = absurd (cc)
not_struct (Some u) k t h = let e : array u k ≡ t = cc in ap struct_name (sym e)

nameless : (names : List (List ℕ)) (t : Option Known) (o : Option NamedType) → MeansOption names t o → ((i : ℕ) → t ≡ Some (known.Element (element.Struct i)) → ⊥) → struct_name (option_map_or (λ u. u) o bool) ≡ []
nameless names None None h n = refl
nameless names None (Some t) h n = elim h [ ]
nameless names (Some k) None h n = elim h [ ]
nameless names (Some (known.Element (element.Scalar s))) (Some t) (both_some m) n = let e : scalar s ≡ t = (let q = m.is in cc) in ap struct_name (sym e)
nameless names (Some (known.Element (element.Struct i))) (Some t) h n = absurd (n i refl)
nameless names (Some (known.Array e k)) (Some t) (both_some m) n = not_struct (named_element names e) k t m.is

pub no_struct : (names : List (List ℕ)) (s : Scope) (j : Judged) (t : Option Known) → struct_in s.all [] ≡ None → MeansOption names t j.ty → ((i : ℕ) → t ≡ Some (known.Element (element.Struct i)) → ⊥)
    → IsKept names (struct_in s.all (struct_name (type_of j))) None
no_struct names s j t none m n = subst (λ (o : Option Struct). IsKept names o None) (sym (ap (struct_in s.all) (nameless names t j.ty m n) ∙ none)) tt

-- ---- numbers of members

abbrev pub named : List ℕ → Member → Bool
named x m = bytes_eq m.name x

places_are : {names : List (List ℕ)} {before : Declarations} {fs : List FieldForm} {ms : List Member} (x : List ℕ) → AreMembers names before fs ms → position_or_len (named x) ms ≡ position_or_len (is_member x) fs
places_are x no_members = refl
places_are x (more_members {fs = fs} {ms = ms} n t h) = ap₂ (λ b i. if not b then 1 + i else 0) (ap (λ y. bytes_eq y x) n) (places_are x h)

pub number_kept : (names : List (List ℕ)) (o : Option Struct) (q : Option CodeStruct) (y : CodeStruct) (x : List ℕ) (at n : ℕ) → IsKept names o q → q ≡ Some y → at ≡ position_or_len (named x) y.members → at ≤ length y.members → (at < 4294967296 → n ≡ at)
    → n ≡ member_number o x
number_kept names None q y x at n h e p l f = absurd (subst (λ (r : Option CodeStruct). IsKept names None r) e h)
number_kept names (Some s) q y x at n h e p l f =
    let k : IsKept names (Some s) (Some y) = subst (λ (r : Option CodeStruct). IsKept names (Some s) r) e h in
    f (let few = k.1 in omega (arith, l, few)) ∙ p ∙ places_are x k.0

pub number_none : (names : List (List ℕ)) (o : Option Struct) (q : Option CodeStruct) (x : List ℕ) → IsKept names o q → q ≡ None → 0 ≡ member_number o x
number_none names None q x h e = refl
number_none names (Some s) q x h e = absurd (subst (λ (r : Option CodeStruct). IsKept names (Some s) r) e h)

-- ---- the types of members

over_lacks : (b : Bool) (ps : List Judged) (e : TypeFault) → (over_parts b ps (lacks e)).ty ≡ None
over_lacks true ps e = refl
over_lacks false ps e = refl

field_none : (all : Declarations) (at : ℕ) (j : Judged) (x : NameAt) (t : NamedType) → struct_in all (struct_name t) ≡ None → (over_field all at j x t).ty ≡ None
field_none all at j x (scalar s) e = over_lacks (have_types (j ∷ [])) (j ∷ []) _
field_none all at j x (struct y) e = ap (λ (o : Option Struct). (over_member j (before_struct o) x (member_of o x.name)).ty) e ∙ over_lacks (have_types (j ∷ [])) (j ∷ []) _
field_none all at j x (array t k) e = over_lacks (have_types (j ∷ [])) (j ∷ []) _

chosen_none : (j f : Judged) (o : Option NamedType) → j.ty ≡ o → f.ty ≡ None → (if is_some o then f else j).ty ≡ None
chosen_none j f None e h = e
chosen_none j f (Some t) e h = h

kept_none : (names : List (List ℕ)) (o : Option Struct) → IsKept names o None → o ≡ None
kept_none names None h = refl
kept_none names (Some s) h = absurd h

-- a member of what is no struct
pub part_none : (names : List (List ℕ)) (s : Scope) (at : ℕ) (j : Judged) (x : NameAt) (q : Option CodeStruct) → IsKept names (struct_in s.all (struct_name (type_of j))) q → q ≡ None → MeansOption names None (over_part s.all at j x).ty
part_none names s at j x q h e =
    let none = kept_none names (struct_in s.all (struct_name (type_of j))) (subst (λ (r : Option CodeStruct). IsKept names (struct_in s.all (struct_name (type_of j))) r) e h) in
    subst (λ (o : Option NamedType). MeansOption names None o) (sym (chosen_none j (over_field s.all at j x (type_of j)) j.ty refl (field_none s.all at j x (type_of j) none))) both_none

struct_operand : (all : Declarations) (d : Struct) (o : Option NamedType) → struct_in all [] ≡ None → struct_in all (struct_name (option_map_or (λ t. t) o bool)) ≡ Some d → (y : List ℕ) × (o ≡ Some (struct y)) × (struct_in all y ≡ Some d)
struct_operand all d None n e = absurd (let q = sym n ∙ e in cc)
struct_operand all d (Some (scalar s)) n e = absurd (let q = sym n ∙ e in cc)
struct_operand all d (Some (struct y)) n e = (y, refl, e)
struct_operand all d (Some (array t k)) n e = absurd (let q = sym n ∙ e in cc)

-- a member of a struct
record IsPart (names : List (List ℕ)) (s : Scope) (at : ℕ) (j : Judged) (x : NameAt) (y : CodeStruct) : Type 0 where
  pub declared : Struct
  pub members : AreMembers names declared.before declared.fields y.members
  pub typed : is_some j.ty ≡ true
  pub is : over_part s.all at j x ≡ over_member j declared.before x (member_in declared.fields x.name)

part_by : (names : List (List ℕ)) (s : Scope) (at : ℕ) (j : Judged) (x : NameAt) (y : CodeStruct) (o : Option Struct) → struct_in s.all [] ≡ None → struct_in s.all (struct_name (type_of j)) ≡ o → IsKept names o (Some y) → IsPart names s at j x y
part_by names s at j x y None n e h = absurd h
part_by names s at j x y (Some d) n e h =
    let p = struct_operand s.all d j.ty n e in
    let is : type_of j ≡ struct p.0 = ap (λ (o : Option NamedType). option_map_or (λ u. u) o bool) p.1 in
    record {
      declared = d;
      members = h.0;
      typed = ap is_some p.1;
      is = ap (λ b. if b then over_field s.all at j x (type_of j) else j) (ap is_some p.1)
          ∙ ap (over_field s.all at j x) is
          ∙ ap (λ (o : Option Struct). over_member j (before_struct o) x (member_of o x.name)) p.2;
    }

part_of : (names : List (List ℕ)) (s : Scope) (at : ℕ) (j : Judged) (x : NameAt) (q : Option CodeStruct) (y : CodeStruct) → struct_in s.all [] ≡ None → IsKept names (struct_in s.all (struct_name (type_of j))) q → q ≡ Some y → IsPart names s at j x y
part_of names s at j x q y n h e = part_by names s at j x y (struct_in s.all (struct_name (type_of j))) n refl (subst (λ (r : Option CodeStruct). IsKept names (struct_in s.all (struct_name (type_of j))) r) e h)

-- no member has the name
no_member : {names : List (List ℕ)} {before : Declarations} {fs : List FieldForm} {ms : List Member} (x : List ℕ) → AreMembers names before fs ms → slice_get ms (position_or_len (named x) ms) ≡ None → member_in fs x ≡ None
no_member x no_members e = refl
no_member x (more_members {f = f} {m = k} {fs = fs} {ms = ms} n t h) e = subst (λ b. (if b then Some f.ty else member_in fs x) ≡ None) (ap (λ y. bytes_eq y x) n) (by (bytes_eq k.name x) (no_member x h) e)
  where
    by : (b : Bool) → (slice_get ms (position_or_len (named x) ms) ≡ None → member_in fs x ≡ None) → slice_get (k ∷ ms) (if not b then 1 + position_or_len (named x) ms else 0) ≡ None → (if b then Some f.ty else member_in fs x) ≡ None
    by true r g = absurd (cc)
    by false r g = let i : 1 + position_or_len (named x) ms ≡ suc (position_or_len (named x) ms) = omega arith in r (ap (slice_get (k ∷ ms)) (sym i) ∙ g)

-- the first member of the name
record IsFound (names : List (List ℕ)) (before : Declarations) (o : Option TypeForm) (m : Member) : Type 0 where
  pub ty : TypeForm
  pub is : o ≡ Some ty
  pub means : MeansOption names m.ty (judge_form before ty).ty

a_member : {names : List (List ℕ)} {before : Declarations} {fs : List FieldForm} {ms : List Member} (x : List ℕ) (m : Member) → AreMembers names before fs ms → slice_get ms (position_or_len (named x) ms) ≡ Some m → IsFound names before (member_in fs x) m
a_member x m no_members e = absurd (cc)
a_member {names} {before} x m (more_members {f = f} {m = k} {fs = fs} {ms = ms} n t h) e = subst (λ b. IsFound names before (if b then Some f.ty else member_in fs x) m) (ap (λ y. bytes_eq y x) n) (by (bytes_eq k.name x) (a_member x m h) e)
  where
    by : (b : Bool) → (slice_get ms (position_or_len (named x) ms) ≡ Some m → IsFound names before (member_in fs x) m) → slice_get (k ∷ ms) (if not b then 1 + position_or_len (named x) ms else 0) ≡ Some m
        → IsFound names before (if b then Some f.ty else member_in fs x) m
    by true r g = let q : k ≡ m = cc in record { ty = f.ty; is = refl; means = subst (λ (z : Member). MeansOption names z.ty (judge_form before f.ty).ty) q t }
    by false r g = let i : 1 + position_or_len (named x) ms ≡ suc (position_or_len (named x) ms) = omega arith in r (ap (slice_get (k ∷ ms)) (sym i) ∙ g)

pub part_unknown : (names : List (List ℕ)) (s : Scope) (at : ℕ) (j : Judged) (x : NameAt) (q : Option CodeStruct) (y : CodeStruct) → struct_in s.all [] ≡ None → IsKept names (struct_in s.all (struct_name (type_of j))) q → q ≡ Some y
    → slice_get y.members (position_or_len (named x.name) y.members) ≡ None → MeansOption names None (over_part s.all at j x).ty
part_unknown names s at j x q y n h e g =
    let p = part_of names s at j x q y n h e in
    let none : (over_part s.all at j x).ty ≡ None = ap (λ (r : Judged). r.ty) p.is ∙ ap (λ (o : Option TypeForm). (over_member j p.declared.before x o).ty) (no_member x.name p.members g) ∙ over_lacks (have_types (j ∷ [])) (j ∷ []) _ in
    subst (λ (o : Option NamedType). MeansOption names None o) (sym none) both_none

member_type : (names : List (List ℕ)) (j w : Judged) (k : Option Known) → is_some j.ty ≡ true → MeansOption names k w.ty → MeansOption names k (judged (j ∷ w ∷ []) (has (type_of w))).ty
member_type names j w None t m = untyped_two names j w [] (has (type_of w)) m
member_type names j w (Some k) t m = told_type names (j ∷ w ∷ []) (has (type_of w)) k (ap (λ b. b && have_types (w ∷ [])) t ∙ have_one names k w m) (is_type (part_means names k w m))

pub part_typed : (names : List (List ℕ)) (s : Scope) (at : ℕ) (j : Judged) (x : NameAt) (q : Option CodeStruct) (y : CodeStruct) (m : Member) → struct_in s.all [] ≡ None → IsKept names (struct_in s.all (struct_name (type_of j))) q → q ≡ Some y
    → slice_get y.members (position_or_len (named x.name) y.members) ≡ Some m → MeansOption names m.ty (over_part s.all at j x).ty
part_typed names s at j x q y m n h e g =
    let p = part_of names s at j x q y n h e in
    let f = a_member x.name m p.members g in
    subst (λ (r : Judged). MeansOption names m.ty r.ty) (sym (p.is ∙ ap (over_member j p.declared.before x) f.is)) (member_type names j (elsewhere p.declared.before f.ty) m.ty p.typed f.means)

-- what stands at the place of the first member of the name
pub at_place : (ms ns : List Member) (x y : List ℕ) (i : ℕ) (o : Option Member) → i ≡ position_or_len (named y) ns → ns ≡ ms → x ≡ y → o ≡ slice_get ns i → slice_get ms (position_or_len (named x) ms) ≡ o
at_place ms ns x y i o p e f g = sym (g ∙ ap₂ (λ ks j. slice_get ks j) e (p ∙ ap₂ (λ z ks. position_or_len (named z) ks) (sym f) e))

-- the member at a place, if there is one
pub member_at : (ms : List Member) (i : ℕ) (r : Option (Bor Member)) → is_some r ≡ nat_lt i (length ms) → IfSome r (λ m. m.now ≡ get_or ms i m.now) → option_copied r ≡ slice_get ms i
member_at ms i None e f = sym (slice_get_past ms i (grind (arith, nat_tests, e)))
member_at ms i (Some m) e f = sym (slice_get_read ms (length ms) i m.now refl (grind (arith, nat_tests, e)) f)
