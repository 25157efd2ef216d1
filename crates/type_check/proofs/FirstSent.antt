-- What the first trigger of each name sends.
use Rattle.std.proofs.Common.{◌≡◌, ℕ, Bool, true, false, cond, nat_eq, List, [], ◌∷◌, map, refl, sym, ap, ◌∙◌, subst, arith}
use Rattle.std.specs.Prelude.{◌&&◌, bytes_eq, is_some, if◌then◌else◌, Option, Some, None}
use Rattle.std.specs.Map.{lookup}
use Rattle.std.specs.Option.{option_map_or}
use Rattle.std.specs.Cmp.Lexicographic.{nat_list_eq_equiv}
use Rattle.std.proofs.lemmas.Bool.Decides.{nat_tests}
use Rattle.spec_text.specs.declared.surface.NameAt.{NameAt}
use Rattle.spec_text.specs.declared.surface.Expr.{Expr}
use Rattle.spec_text.specs.declared.surface.Decl.TheVariants as d
use Rattle.stream_types.specs.declared.scalar.Scalar.TheVariants as s_
use Rattle.type_check.specs.declared.known.Known.{Known}
use Rattle.type_check.specs.declared.known.Known.TheVariants as known
use Rattle.type_check.specs.declared.known.Element.TheVariants as element
use Rattle.type_check.specs.contracts.known.KnownPartialEq.TheImpl.{ghosts as known_eq}
use Rattle.type_check.specs.NamedType.{NamedType, scalar, struct, array, bool, same_type, Declarations}
use Rattle.type_check.specs.Judged.{Judged, types_of, is_bool}
use Rattle.type_check.specs.Untyped.{Sent, first_sent, sent_types, agree}
use Rattle.type_check.specs.Standing.{IsDistinct, Means, AllMean, AllMeanOption, agree_known, ty_of_part}
use Rattle.type_check.specs.Table.{IsSent, not_sent, is_sent, HasSent}
use Rattle.type_check.proofs.SameNames.{list_same}
use Rattle.type_check.proofs.Meaning.{same_scalar_refl, same_means}
use Rattle.type_check.proofs.Declared.{all_agree}

pub agrees_is : (names : List (List ℕ)) → IsDistinct names → (all : Declarations) (o : Option Sent) (l : Option (List (Option Known))) (js : List Known) (ts : List NamedType) → IsSent names all o l → AllMean names js ts
    → option_map_or (λ ks. agree_known ks js) l true ≡ option_map_or (λ (s : Sent). agree (sent_types all (Some s)) ts) o true
agrees_is names d all None None js ts h m = refl
agrees_is names d all None (Some ks) js ts h m = elim h [ ]
agrees_is names d all (Some s) None js ts h m = elim h [ ]
agrees_is names d all (Some s) (Some ks) js ts (is_sent g) m = all_agree names d ks (sent_types all (Some s)) js ts g m

-- ---- the first trigger of a name agrees with itself

same_refl : (t : NamedType) → same_type t t ≡ true
same_refl (scalar s) = same_scalar_refl s
same_refl (struct x) = nat_list_eq_equiv.refl x
same_refl (array t n) = ap (λ b. b && nat_eq n n) (same_refl t) ∙ (grind (arith, nat_tests))

own_part : (o : Option NamedType) → option_map_or (λ u. same_type u (option_map_or (λ v. v) o bool)) o true ≡ true
own_part None = refl
own_part (Some t) = same_refl t

pub own_agree : (ps : List Judged) → agree (map ty_of_part ps) (types_of ps) ≡ true
own_agree [] = refl
own_agree (p ∷ ps) = ap (λ b. b && agree (map ty_of_part ps) (types_of ps)) (own_part p.ty) ∙ own_agree ps

first_agrees : (all : Declarations) (o : Option Sent) (own : Sent) (b : Bool) (ts : List NamedType) → b ≡ true → agree (sent_types all (Some own)) ts ≡ true
    → agree (sent_types all (option_map_or (λ s. Some s) o (if b then Some own else None))) ts ≡ option_map_or (λ (s : Sent). agree (sent_types all (Some s)) ts) o true
first_agrees all None own true ts e h = h
first_agrees all None own false ts e h = absurd (cc)
first_agrees all (Some s) own b ts e h = refl

-- A trigger's types agree with those of the first of its name, which may be itself.
pub trigger_agrees : (all before : Declarations) (at : ℕ) (x : NameAt) (guard : Expr) (args : List Expr) (ts : List NamedType) → agree (sent_types all (Some (record { before = before; args = args }))) ts ≡ true
    → agree (sent_types all (first_sent (d.Trigger at x guard args ∷ before) x.name)) ts ≡ option_map_or (λ (s : Sent). agree (sent_types all (Some s)) ts) (first_sent before x.name) true
trigger_agrees all before at x guard args ts h = first_agrees all (first_sent before x.name) (record { before = before; args = args }) (bytes_eq x.name x.name) ts (nat_list_eq_equiv.refl x.name) h

-- whether a trigger fits
pub trigger_fits : (names : List (List ℕ)) → IsDistinct names → (all before : Declarations) (at : ℕ) (x : NameAt) (guard : Expr) (args : List Expr) (g : NamedType) (k : Known) → Means names k g → (ps : List Judged) (both one other : Bool)
    → map ty_of_part ps ≡ sent_types all (Some (record { before = before; args = args })) → both ≡ (one && other) → one ≡ known_eq.eq k (known.Element (element.Scalar s_.Bool))
    → other ≡ option_map_or (λ (s : Sent). agree (sent_types all (Some s)) (types_of ps)) (first_sent before x.name) true
    → both ≡ (is_bool g && agree (sent_types all (first_sent (d.Trigger at x guard args ∷ before) x.name)) (types_of ps))
trigger_fits names k all before at x guard args g j m ps both one other own e f h =
    e ∙ ap (λ b. b && other) (f ∙ sym (same_means names k j (known.Element (element.Scalar s_.Bool)) g bool m (record { is = refl })))
    ∙ ap (λ b. is_bool g && b) (h ∙ sym (trigger_agrees all before at x guard args (types_of ps) (ap (λ ts. agree ts (types_of ps)) (sym own) ∙ own_agree ps)))

-- ---- a trigger more

kept_if : (names : List (List ℕ)) (all : Declarations) (o : Option Sent) (l : Option (List (Option Known))) (own : Sent) (b : Bool) → IsSent names all o l → (b ≡ true → is_some l ≡ true) → IsSent names all (option_map_or (λ s. Some s) o (if b then Some own else None)) l
kept_if names all None None own true h f = let e = f refl in absurd (cc)
kept_if names all None None own false h f = h
kept_if names all None (Some ks) own b h f = elim h [ ]
kept_if names all (Some s) None own b h f = elim h [ ]
kept_if names all (Some s) (Some ks) own b h f = h

more_if : (names : List (List ℕ)) (all : Declarations) (o : Option Sent) (l : Option (List (Option Known))) (own : Sent) (ks : List (Option Known)) (b : Bool) → IsSent names all o l → AllMeanOption names ks (sent_types all (Some own))
    → (b ≡ true → is_some l ≡ false) → IsSent names all (option_map_or (λ s. Some s) o (if b then Some own else None)) (cond b (Some ks) l)
more_if names all None None own ks true h m f = is_sent m
more_if names all None None own ks false h m f = h
more_if names all None (Some js) own ks b h m f = elim h [ ]
more_if names all (Some s) None own ks b h m f = elim h [ ]
more_if names all (Some s) (Some js) own ks true h m f = let e = f refl in absurd (cc)
more_if names all (Some s) (Some js) own ks false h m f = h

-- a name that was sent before
pub sent_kept : (names : List (List ℕ)) (all ds : Declarations) (at : ℕ) (x : NameAt) (guard : Expr) (es : List Expr) (sent : List (List ℕ × List (Option Known))) → HasSent names all ds sent
    → is_some (lookup (bytes_eq x.name) sent) ≡ true → HasSent names all (d.Trigger at x guard es ∷ ds) sent
sent_kept names all ds at x guard es sent h there = record {
  sent_are = λ q. kept_if names all (first_sent ds q) (lookup (bytes_eq q) sent) (record { before = ds; args = es }) (bytes_eq x.name q) (h.sent_are q)
      (λ b. subst (λ (y : List ℕ). is_some (lookup (bytes_eq y) sent) ≡ true) (list_same x.name q b) there);
}

-- a name that is sent for the first time
pub sent_more : (names : List (List ℕ)) (all ds : Declarations) (at : ℕ) (x : NameAt) (guard : Expr) (es : List Expr) (ks : List (Option Known)) (old new : List (List ℕ × List (Option Known))) → HasSent names all ds old
    → AllMeanOption names ks (sent_types all (Some (record { before = ds; args = es }))) → is_some (lookup (bytes_eq x.name) old) ≡ false
    → ((q : List ℕ) → lookup (bytes_eq q) new ≡ cond (bytes_eq x.name q) (Some ks) (lookup (bytes_eq q) old)) → HasSent names all (d.Trigger at x guard es ∷ ds) new
sent_more names all ds at x guard es ks old new h m none l = record {
  sent_are = λ q. subst (λ (o : Option (List (Option Known))). IsSent names all (first_sent (d.Trigger at x guard es ∷ ds) q) o) (sym (l q))
      (more_if names all (first_sent ds q) (lookup (bytes_eq q) old) (record { before = ds; args = es }) ks (bytes_eq x.name q) (h.sent_are q) m
      (λ b. subst (λ (y : List ℕ). is_some (lookup (bytes_eq y) old) ≡ false) (list_same x.name q b) none));
}

pub none_sent : (names : List (List ℕ)) (all : Declarations) (sent : List (List ℕ × List (Option Known))) → sent ≡ [] → HasSent names all [] sent
none_sent names all sent e = record { sent_are = λ x. subst (λ es. IsSent names all None (lookup (bytes_eq x) es)) (sym e) not_sent }
