-- An expression keeps its type as declarations are added, and as its defs are written out.
use Rattle.std.proofs.Common.{◌≡◌, ℕ, zero, suc, ◌≤◌, List, [], ◌∷◌, ◌++◌, length, map, replicate, Option, Some, None, refl, sym, ap, ◌∙◌, subst, arith}
use Rattle.std.specs.Prelude.{slice_get, All}
use Rattle.std.specs.Option.{option_map}
use Rattle.std.proofs.lemmas.List.{length-map}
use Rattle.std.proofs.lemmas.List.Elements.{All-nil, All-cons}
use Rattle.std.proofs.lemmas.Option.{slice_get-map, slice_get_within, get_or_from_slice_get}
use Rattle.sm_io.proofs.Elements.{get_front}
use Rattle.stream_types.specs.declared.scalar.Ty.{Ty}
use Rattle.stream_types.specs.declared.scalar.Ty.TheVariants as ty
use Rattle.stream_types.specs.declared.types.Field.{Field}
use Rattle.stream_types.specs.declared.types.TypeEntry.{TypeEntry}
use Rattle.stream_core.specs.Value.{SpecValue}
use Rattle.stream_core.specs.Term.{Term, Terms, lit, extern, stream, def, named, missing, dropped, un, bin, shift, cast, and, or, implies, choose, index, field, array, struct, abs, sign, majority, agreed, lib, end, more, TreeSpec, TreeRoot, TreeStream, TreeDef, TreeTrigger, TreeObserver, TreeLib, root_with, trees, with_defs, all_with_defs, def_at, def_to, written_out, without_defs}
use Rattle.stream_core.specs.Signature.{Signature, StreamSignature, stream_signature, def_types, signature_of}
use Rattle.stream_core.specs.WellTyped.{HasType, HaveTypes, ListHasTypes, RootHasType, IsArrayOf, IsStructOf, IsGoodStream, IsGoodDef, IsGoodTrigger, IsGoodLib, WellTyped, operand_types, terms_length}
use Rattle.stream_core.specs.TypeOf.{Extends}
use Rattle.stream_core.specs.TypedParts.{HasTypedParts}

-- ---- longer lists

-- what stands at a place of a list stands there in a longer one
stays : {X : Type 0} (xs ys rest : List X) (i : ℕ) (x : X) → ys ≡ xs ++ rest → slice_get xs i ≡ Some x → slice_get ys i ≡ Some x
stays xs ys rest i x e h = ap (λ zs. slice_get zs i) e ∙ get_front xs rest i x h

module _ (old new : Signature) (grown : Extends old new) where
  array_stays : (of elem : Ty) (n : ℕ) → IsArrayOf old.types of elem n → IsArrayOf new.types of elem n
  array_stays (ty.Array i) elem n h = stays old.types new.types grown.more_types i _ grown.types h
  array_stays (ty.Scalar s) elem n h = absurd h
  array_stays (ty.Struct i) elem n h = absurd h

  struct_stays : (of : Ty) (fields : List Field) → IsStructOf old.types of fields → IsStructOf new.types of fields
  struct_stays (ty.Struct i) fields h = (h.0, stays old.types new.types grown.more_types i _ grown.types h.1)
  struct_stays (ty.Scalar s) fields h = absurd h
  struct_stays (ty.Array i) fields h = absurd h

  mutual
    pub type_stays : (e : Term) (t : Ty) → HasType old e t → HasType new e t
    type_stays (lit c w) t h = h
    type_stays (extern x) t h = stays old.externs new.externs grown.more_externs x t grown.externs h
    type_stays (stream x) t h = record { stream = h.stream; is = stays old.streams new.streams grown.more_streams x h.stream grown.streams h.is; type_is = h.type_is }
    type_stays (def d) t h = stays old.defs new.defs grown.more_defs d t grown.defs h
    type_stays (named d a) t h = (stays old.defs new.defs grown.more_defs d t grown.defs h.0, type_stays a t h.1)
    type_stays missing t h = h
    type_stays (dropped x k) t h = record { stream = h.stream; is = stays old.streams new.streams grown.more_streams x h.stream grown.streams h.is; type_is = h.type_is; within = h.within }
    type_stays (un o c a) t h = (h.0, type_stays a _ h.1, h.2)
    type_stays (bin o c a b) t h = (h.0, type_stays a _ h.1, type_stays b _ h.2, h.3)
    type_stays (shift d c a cs b) t h = (h.0, type_stays a _ h.1, type_stays b _ h.2, h.3)
    type_stays (cast from to a) t h = (h.0, type_stays a _ h.1, h.2)
    type_stays (and a b) t h = (type_stays a _ h.0, type_stays b _ h.1, h.2)
    type_stays (or a b) t h = (type_stays a _ h.0, type_stays b _ h.1, h.2)
    type_stays (implies a b) t h = (type_stays a _ h.0, type_stays b _ h.1, h.2)
    type_stays (choose c a b) t h = (type_stays c _ h.0, type_stays a t h.1, type_stays b t h.2)
    type_stays (index of a i) t h = (h.0, array_stays of t h.0 h.1, type_stays a of h.2, type_stays i _ h.3)
    type_stays (field of k a) t h = (record { fields = h.0.fields; struct_is = struct_stays of h.0.fields h.0.struct_is; member = h.0.member; is = h.0.is; type_is = h.0.type_is }, type_stays a of h.1)
    type_stays (array of es) t h = (h.0, h.1, array_stays of h.0 h.1 h.2, types_stay es _ h.3, h.4)
    type_stays (struct of es) t h = (h.0, struct_stays of h.0 h.1, types_stay es _ h.2, h.3)
    type_stays (abs c a) t h = (h.0, type_stays a _ h.1, h.2)
    type_stays (sign c a) t h = (h.0, type_stays a _ h.1, h.2)
    type_stays (majority c es) t h = (h.0, types_stay es _ h.1, h.2)
    type_stays (agreed c es) t h = (h.0, types_stay es _ h.1, h.2)
    type_stays (lib k form es) t h = (h.0, types_stay es _ h.1, h.2)

    types_stay : (es : Terms) (ts : List Ty) → HaveTypes old es ts → HaveTypes new es ts
    types_stay end [] h = h
    types_stay end (t ∷ ts) h = h
    types_stay (more a es) [] h = h
    types_stay (more a es) (t ∷ ts) h = (type_stays a t h.0, types_stay es ts h.1)

-- ---- defs written out

terms_as_many : (f : ℕ → Term) (es : Terms) → terms_length (all_with_defs f es) ≡ terms_length es
terms_as_many f end = refl
terms_as_many f (more a es) = ap suc (terms_as_many f es)

module _ (sig : Signature) where
  module _ (f : ℕ → Term) (fits : (d : ℕ) (t : Ty) → slice_get sig.defs d ≡ Some t → HasType sig (f d) t) where
    mutual
      out_types : (e : Term) (t : Ty) → HasType sig e t → HasType sig (with_defs f e) t
      out_types (lit c w) t h = h
      out_types (extern x) t h = h
      out_types (stream x) t h = h
      out_types (def d) t h = (h, fits d t h)
      out_types (named d a) t h = (h.0, out_types a t h.1)
      out_types missing t h = h
      out_types (dropped x k) t h = h
      out_types (un o c a) t h = (h.0, out_types a _ h.1, h.2)
      out_types (bin o c a b) t h = (h.0, out_types a _ h.1, out_types b _ h.2, h.3)
      out_types (shift d c a cs b) t h = (h.0, out_types a _ h.1, out_types b _ h.2, h.3)
      out_types (cast from to a) t h = (h.0, out_types a _ h.1, h.2)
      out_types (and a b) t h = (out_types a _ h.0, out_types b _ h.1, h.2)
      out_types (or a b) t h = (out_types a _ h.0, out_types b _ h.1, h.2)
      out_types (implies a b) t h = (out_types a _ h.0, out_types b _ h.1, h.2)
      out_types (choose c a b) t h = (out_types c _ h.0, out_types a t h.1, out_types b t h.2)
      out_types (index of a i) t h = (h.0, h.1, out_types a of h.2, out_types i _ h.3)
      out_types (field of k a) t h = (h.0, out_types a of h.1)
      out_types (array of es) t h = (h.0, h.1, h.2, all_out_types es _ h.3, h.4)
      out_types (struct of es) t h = (h.0, h.1, all_out_types es _ h.2, h.3)
      out_types (abs c a) t h = (h.0, out_types a _ h.1, h.2)
      out_types (sign c a) t h = (h.0, out_types a _ h.1, h.2)
      out_types (majority c es) t h =
          let n = sym (terms_as_many f es) in
          let ts = all_out_types es (replicate (terms_length es) (ty.Scalar c)) h.1 in
          (subst (λ k. (1 ≤ k) × (k ≤ 9)) n h.0, subst (λ k. HaveTypes sig (all_with_defs f es) (replicate k (ty.Scalar c))) n ts, h.2)
      out_types (agreed c es) t h =
          let n = sym (terms_as_many f es) in
          let ts = all_out_types es (replicate (terms_length es) (ty.Scalar c)) h.1 in
          (subst (λ k. (1 ≤ k) × (k ≤ 9)) n h.0, subst (λ k. HaveTypes sig (all_with_defs f es) (replicate k (ty.Scalar c))) n ts, h.2)
      out_types (lib k form es) t h = (h.0, all_out_types es _ h.1, h.2)

      all_out_types : (es : Terms) (ts : List Ty) → HaveTypes sig es ts → HaveTypes sig (all_with_defs f es) ts
      all_out_types end [] h = h
      all_out_types end (t ∷ ts) h = h
      all_out_types (more a es) [] h = h
      all_out_types (more a es) (t ∷ ts) h = (out_types a t h.0, all_out_types es ts h.1)

  module _ (defs : List TreeDef) (are : sig.defs ≡ def_types defs) (good : All (IsGoodDef sig) defs) where
    def_fits : (f : ℕ → Term) → ((d : ℕ) (t : Ty) → slice_get sig.defs d ≡ Some t → HasType sig (f d) t) → (d : ℕ) (o : Option TreeDef) → slice_get defs d ≡ o → (t : Ty) → slice_get sig.defs d ≡ Some t → HasType sig (def_at f o) t
    def_fits f fits d None e t h =
        let there : slice_get (def_types defs) d ≡ Some t = ap (λ (ts : List Ty). slice_get ts d) (sym are) ∙ h in
        let absent : slice_get (def_types defs) d ≡ None = slice_get-map (λ (x : TreeDef). x.ty) defs d ∙ ap (option_map (λ (x : TreeDef). x.ty)) e in
        absurd (cc)
    def_fits f fits d (Some x) e t h =
        let there : slice_get (def_types defs) d ≡ Some t = ap (λ (ts : List Ty). slice_get ts d) (sym are) ∙ h in
        let own : slice_get (def_types defs) d ≡ Some x.ty = slice_get-map (λ (y : TreeDef). y.ty) defs d ∙ ap (option_map (λ (y : TreeDef). y.ty)) e in
        let same : x.ty ≡ t = cc in
        let g : IsGoodDef sig x = subst (IsGoodDef sig) (get_or_from_slice_get defs d x x e) (good d x (slice_get_within defs d x e)) in
        out_types f fits x.expr t (subst (HasType sig x.expr) same g.expr)

    fits_to : (n d : ℕ) (t : Ty) → slice_get sig.defs d ≡ Some t → HasType sig (def_to defs n d) t
    fits_to zero d t h = h
    fits_to (suc n) d t h = def_fits (def_to defs n) (λ c u k. fits_to n c u k) d (slice_get defs d) refl t h

    pub written_out_has : (e : Term) (t : Ty) → HasType sig e t → HasType sig (written_out defs e) t
    written_out_has e t h = out_types (def_to defs (length defs)) (λ c u k. fits_to (length defs) c u k) e t h

-- ---- the specification with its defs written out

same_streams : (types : List TypeEntry) (out : Term → Term) (xs : List TreeStream) → map (stream_signature types) (map (λ (x : TreeStream). record x { expr = out x.expr }) xs) ≡ map (stream_signature types) xs
same_streams types out [] = refl
same_streams types out (x ∷ xs) = ap (λ ys. stream_signature types x ∷ ys) (same_streams types out xs)

pub signature_stays : (s : TreeSpec) → signature_of (without_defs s) ≡ signature_of s
signature_stays s = ap (λ (ys : List StreamSignature). record (signature_of s) { streams = ys }) (same_streams s.types (written_out s.defs) s.streams)

-- what holds of each element, as changed, holds of the changed list
pub all_changed : {X : Type 0} (P Q : X → Type 0) (f : X → X) → ((x : X) → P x → Q (f x)) → (xs : List X) → All P xs → All Q (map f xs)
all_changed P Q f step [] h = All-nil Q
all_changed P Q f step (x ∷ xs) h = All-cons Q (f x) (map f xs) (step x (h 0 x (omega arith))) (all_changed P Q f step xs (λ k d b. h (suc k) d (omega (arith, b))))

module _ (s : TreeSpec) (good : All (IsGoodDef (signature_of s)) s.defs) where
  abbrev out : Term → Term
  out e = written_out s.defs e

  abbrev new : Signature
  new = signature_of (without_defs s)

  pub out_has : (e : Term) (t : Ty) → HasType (signature_of s) e t → HasType new (out e) t
  out_has e t h = subst (λ sig. HasType sig (out e) t) (sym (signature_stays s)) (written_out_has (signature_of s) s.defs refl good e t h)

  list_out : (es : List Term) (ts : List Ty) → ListHasTypes (signature_of s) es ts → ListHasTypes new (map out es) ts
  list_out [] [] h = h
  list_out [] (t ∷ ts) h = h
  list_out (e ∷ es) [] h = h
  list_out (e ∷ es) (t ∷ ts) h = (out_has e t h.0, list_out es ts h.1)

  stream_stays : (x : TreeStream) → IsGoodStream (signature_of s) x → IsGoodStream new (record x { expr = out x.expr })
  stream_stays x h = record { stands = h.stands; initial = h.initial; expr = out_has x.expr x.ty h.expr }

  root_stays : (r : TreeRoot) → RootHasType (signature_of s) r → RootHasType new (root_with out r)
  root_stays r h = out_has r.expr r.ty h

  trigger_stays : (x : TreeTrigger) → IsGoodTrigger (signature_of s) x → IsGoodTrigger new (record x { guard = root_with out x.guard; args = map (root_with out) x.args })
  trigger_stays x h = record {
    guard = root_stays x.guard h.guard;
    truth = h.truth;
    args = all_changed (RootHasType (signature_of s)) (RootHasType new) (root_with out) root_stays x.args h.args;
    few = let l = length-map x.args (root_with out) in let b = h.few in omega (arith, l, b);
  }

  lib_stays : (x : TreeLib) → IsGoodLib (signature_of s) x → IsGoodLib new (record x { args = map out x.args })
  lib_stays x h = record { form = h.form; args = list_out x.args (operand_types x.form) h.args }

pub parts_stay : (s : TreeSpec) → HasTypedParts s → HasTypedParts (without_defs s)
parts_stay s h =
    let good = h.defs in
    let old = signature_of s in
    let late = signature_of (without_defs s) in
    record {
      types = h.types;
      externs = h.externs;
      streams = all_changed (IsGoodStream old) (IsGoodStream late) (λ (x : TreeStream). record x { expr = written_out s.defs x.expr }) (stream_stays s good) s.streams h.streams;
      defs = subst (λ sig. All (IsGoodDef sig) s.defs) (sym (signature_stays s)) h.defs;
      triggers = all_changed (IsGoodTrigger old) (IsGoodTrigger late) (λ (x : TreeTrigger). record x { guard = root_with (written_out s.defs) x.guard; args = map (root_with (written_out s.defs)) x.args }) (trigger_stays s good) s.triggers h.triggers;
      observers = all_changed (λ (x : TreeObserver). RootHasType old x.root) (λ (x : TreeObserver). RootHasType late x.root) (λ (x : TreeObserver). record x { root = root_with (written_out s.defs) x.root }) (λ x r. root_stays s good x.root r) s.observers h.observers;
      libs = all_changed (IsGoodLib old) (IsGoodLib late) (λ (x : TreeLib). record x { args = map (written_out s.defs) x.args }) (lib_stays s good) s.libs h.libs;
    }

pub typed_parts : (s : SpecValue) → WellTyped s → HasTypedParts (trees s)
typed_parts s w = record { types = w.types; externs = w.externs; streams = w.streams; defs = w.defs; triggers = w.triggers; observers = w.observers; libs = w.libs }
