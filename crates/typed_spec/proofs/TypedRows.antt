-- The type of a node by those of its parts.
use Rattle.std.proofs.Common.{◌≡◌, ℕ, Bool, true, false, List, [], ◌∷◌, refl, sym, ap, ◌∙◌, subst}
use Rattle.std.specs.Prelude.{◌&&◌, is_some, Option, Some, None, Ok, Err}
use Rattle.std.specs.Option.{option_map_or}
use Rattle.type_check.specs.declared.fault.TypeFault.{TypeFault}
use Rattle.type_check.specs.declared.known.Known.{Known}
use Rattle.type_check.specs.NamedType.{NamedType, bool}
use Rattle.type_check.specs.Judged.{Verdict, has, lacks, Judged, over_parts, judged, type_of, have_types}
use Rattle.type_check.specs.Standing.{Means, MeansOption, both_none, both_some, IsVerdict, is_type}

means_of : (names : List (List ℕ)) (k : Known) (o : Option NamedType) → MeansOption names (Some k) o → Means names k (option_map_or (λ t. t) o bool)
means_of names k (Some t) (both_some m) = m
means_of names k None h = elim h [ ]

-- a part that has a type
pub part_means : (names : List (List ℕ)) (k : Known) (j : Judged) → MeansOption names (Some k) j.ty → Means names k (type_of j)
part_means names k j h = means_of names k j.ty h

there_of : (names : List (List ℕ)) (k : Known) (o : Option NamedType) → MeansOption names (Some k) o → is_some o ≡ true
there_of names k (Some t) h = refl
there_of names k None h = elim h [ ]

none_of : (names : List (List ℕ)) (o : Option NamedType) → MeansOption names None o → is_some o ≡ false
none_of names None h = refl
none_of names (Some t) h = elim h [ ]

and_false : (b : Bool) → (b && false) ≡ false
and_false true = refl
and_false false = refl

pub have_one : (names : List (List ℕ)) (k : Known) (p : Judged) → MeansOption names (Some k) p.ty → have_types (p ∷ []) ≡ true
have_one names k p h = ap (λ b. b && true) (there_of names k p.ty h)

pub have_two : (names : List (List ℕ)) (k l : Known) (p q : Judged) → MeansOption names (Some k) p.ty → MeansOption names (Some l) q.ty → have_types (p ∷ q ∷ []) ≡ true
have_two names k l p q h i = ap (λ b. b && have_types (q ∷ [])) (there_of names k p.ty h) ∙ have_one names l q i

pub have_three : (names : List (List ℕ)) (k l m : Known) (p q r : Judged) → MeansOption names (Some k) p.ty → MeansOption names (Some l) q.ty → MeansOption names (Some m) r.ty → have_types (p ∷ q ∷ r ∷ []) ≡ true
have_three names k l m p q r h i j = ap (λ b. b && have_types (q ∷ r ∷ [])) (there_of names k p.ty h) ∙ have_two names l m q r i j

-- a node with a part that has no type has none
pub untyped : (names : List (List ℕ)) (b : Bool) (ps : List Judged) (v : Verdict) → b ≡ false → MeansOption names None (over_parts b ps v).ty
untyped names b ps v h = subst (λ c. MeansOption names None (over_parts c ps v).ty) (sym h) both_none

pub untyped_one : (names : List (List ℕ)) (p : Judged) (ps : List Judged) (v : Verdict) → MeansOption names None p.ty → MeansOption names None (judged (p ∷ ps) v).ty
untyped_one names p ps v h = untyped names (have_types (p ∷ ps)) (p ∷ ps) v (ap (λ b. b && have_types ps) (none_of names p.ty h))

pub untyped_two : (names : List (List ℕ)) (p q : Judged) (ps : List Judged) (v : Verdict) → MeansOption names None q.ty → MeansOption names None (judged (p ∷ q ∷ ps) v).ty
untyped_two names p q ps v h = untyped names (have_types (p ∷ q ∷ ps)) (p ∷ q ∷ ps) v (ap (λ b. is_some p.ty && (b && have_types ps)) (none_of names q.ty h) ∙ and_false (is_some p.ty))

pub untyped_three : (names : List (List ℕ)) (p q r : Judged) (ps : List Judged) (v : Verdict) → MeansOption names None r.ty → MeansOption names None (judged (p ∷ q ∷ r ∷ ps) v).ty
untyped_three names p q r ps v h = untyped names (have_types (p ∷ q ∷ r ∷ ps)) (p ∷ q ∷ r ∷ ps) v
    (ap (λ b. is_some p.ty && (is_some q.ty && (b && have_types ps))) (none_of names r.ty h) ∙ ap (λ b. is_some p.ty && b) (and_false (is_some q.ty)) ∙ and_false (is_some p.ty))

-- the type that a verdict on typed parts tells
pub told_type : (names : List (List ℕ)) (ps : List Judged) (v : Verdict) (k : Known) → have_types ps ≡ true → IsVerdict names v (Ok k) → MeansOption names (Some k) (judged ps v).ty
told_type names ps (has t) k h (is_type m) = subst (λ b. MeansOption names (Some k) (over_parts b ps (has t)).ty) (sym h) (both_some m)
told_type names ps (lacks e) k h v = elim v [ ]

pub told_none : (names : List (List ℕ)) (ps : List Judged) (v : Verdict) (e : TypeFault) → have_types ps ≡ true → IsVerdict names v (Err e) → MeansOption names None (judged ps v).ty
told_none names ps (has t) e h v = elim v [ ]
told_none names ps (lacks f) e h v = subst (λ b. MeansOption names None (over_parts b ps (lacks f)).ty) (sym h) both_none
