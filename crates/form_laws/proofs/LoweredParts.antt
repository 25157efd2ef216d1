-- A specification whose parts have their types keeps them as it is lowered.
use Rattle.std.proofs.Common.{◌≡◌, ℕ, zero, suc, ◌+◌, ◌<◌, ◌≤◌, List, [], ◌∷◌, ◌++◌, length, map, replicate, refl, sym, ap, ◌∙◌, subst, arith, Some}
use Rattle.std.specs.Prelude.{slice_get}
use Rattle.std.specs.Option.{option_map}
use Rattle.std.specs.List.{AllByRecursion}
use Rattle.std.proofs.lemmas.Option.{slice_get-map}
use Rattle.std.proofs.lemmas.List.Elements.{All-nil}
use Rattle.stream_types.specs.declared.scalar.Scalar.{Scalar}
use Rattle.stream_types.specs.declared.scalar.Ty.{Ty}
use Rattle.stream_types.specs.declared.scalar.Ty.TheVariants as ty
use Rattle.stream_types.specs.declared.types.Field.{Field}
use Rattle.stream_core.specs.declared.node.LibForm.{LibForm}
use Rattle.stream_core.specs.declared.spec.LibItem.{LibItem}
use Rattle.stream_core.specs.Value.{SpecValue}
use Rattle.stream_core.specs.Term.{Term, Terms, lit, extern, stream, def, named, missing, dropped, un, bin, shift, cast, and, or, implies, choose, index, field, array, struct, abs, sign, majority, agreed, lib, end, more, TreeSpec, TreeStream, TreeDef, TreeTrigger, TreeObserver, TreeLib, TreeRoot, root_with, tree, trees, tree_root}
use Rattle.stream_core.specs.Signature.{Signature, StreamSignature, stream_signature, signature_of}
use Rattle.stream_core.specs.WellTyped.{HasType, HaveTypes, ListHasTypes, RootHasType, IsGoodStream, IsGoodDef, IsGoodTrigger, IsGoodLib, IsArrayOf, IsStructOf, HasMember, operand_types, terms_length, WellTyped}
use Rattle.stream_core.specs.WrittenOut.{IsFormOf, IsWritten, AreWritten}
use Rattle.stream_core.specs.TypedParts.{HasTypedParts}
use Rattle.stream_core.specs.KeptLimits.{plain_form}
use Rattle.stream_core.specs.Meaning.{closed_spec}
use Rattle.stream_core.specs.Lower.{lowered, lowered_terms, lowered_all, lowered_spec, buffers, buffer_of, buffers_of, all_buffers}
use Rattle.stream_core.proofs.Extended.{parts_stay, typed_parts}
use Rattle.stream_core.proofs.ClosedTypes.{Any, tree_written}
use Rattle.form_laws.proofs.OutOfSpecs.{map_twice, map_append, map_length, lowered_def, commutes}
use Rattle.form_laws.proofs.PlainForms.{each_of, all_of_each, each_mapped, each_append}
use Rattle.form_laws.proofs.LoweredTypes.{HasBuffers, form_has, abs_has, sign_has, majority_has, agreed_has}
use Rattle.form_laws.proofs.BufferLists as listed
use Rattle.form_laws.proofs.BufferStreams.{IsBuffer, are_buffers, signature_is, buffers_good, AsMany, buffer_at}

-- ---- expressions

module _ (old new : Signature) (D : ℕ → Type 0) (libs : List TreeLib) (at : ℕ → ℕ)
    (types : old.types ≡ new.types) (externs : old.externs ≡ new.externs) (defs : old.defs ≡ new.defs)
    (streams : (x : ℕ) (y : StreamSignature) → slice_get old.streams x ≡ Some y → slice_get new.streams x ≡ Some y)
    (there : (k : ℕ) (f : LibForm) → IsFormOf libs k f → HasBuffers new f (at k))
  where
    array_of : (of t : Ty) (n : ℕ) → IsArrayOf old.types of t n → IsArrayOf new.types of t n
    array_of of t n a = subst (λ ts. IsArrayOf ts of t n) types a

    struct_of : (of : Ty) (fs : List Field) → IsStructOf old.types of fs → IsStructOf new.types of fs
    struct_of of fs a = subst (λ ts. IsStructOf ts of fs) types a

    member_of : (of : Ty) (k : ℕ) (t : Ty) → HasMember old.types of k t → HasMember new.types of k t
    member_of of k t a = subst (λ ts. HasMember ts of k t) types a

    count_all : (es : Terms) → length (lowered_all at es) ≡ terms_length es
    count_all end = refl
    count_all (more a es) = ap suc (count_all es)

    same_types : (c : Scalar) (es : List Term) (n : ℕ) → ListHasTypes new es (replicate n (ty.Scalar c)) → AllByRecursion (λ e. HasType new e (ty.Scalar c)) es
    same_types c [] n h = tt
    same_types c (e ∷ es) zero h = absurd h
    same_types c (e ∷ es) (suc n) h = (h.0, same_types c es n h.1)

    mutual
      pub has : (e : Term) (t : Ty) → HasType old e t → IsWritten D libs e → HasType new (lowered at e) t
      has (lit c w) t h o = h
      has (extern x) t h o = ap (λ (ts : List Ty). slice_get ts x) (sym externs) ∙ h
      has (stream x) t h o = record { stream = h.stream; is = streams x h.stream h.is; type_is = h.type_is }
      has (def d) t h o = ap (λ (ts : List Ty). slice_get ts d) (sym defs) ∙ h
      has (named d a) t h o = (ap (λ (ts : List Ty). slice_get ts d) (sym defs) ∙ h.0, has a t h.1 o)
      has missing t h o = h
      has (dropped x k) t h o = record { stream = h.stream; is = streams x h.stream h.is; type_is = h.type_is; within = h.within }
      has (un p c a) t h o = (h.0, has a _ h.1 o, h.2)
      has (bin p c a b) t h o = (h.0, has a _ h.1 o.0, has b _ h.2 o.1, h.3)
      has (shift d c a cs b) t h o = (h.0, has a _ h.1 o.0, has b _ h.2 o.1, h.3)
      has (cast from to a) t h o = (h.0, has a _ h.1 o, h.2)
      has (and a b) t h o = (has a _ h.0 o.0, has b _ h.1 o.1, h.2)
      has (or a b) t h o = (has a _ h.0 o.0, has b _ h.1 o.1, h.2)
      has (implies a b) t h o = (has a _ h.0 o.0, has b _ h.1 o.1, h.2)
      has (choose c a b) t h o = (has c _ h.0 o.0, has a t h.1 o.1, has b t h.2 o.2)
      has (index of a i) t h o = (h.0, array_of of t h.0 h.1, has a of h.2 o.0, has i _ h.3 o.1)
      has (field of k a) t h o = (member_of of k t h.0, has a of h.1 o)
      has (array of es) t h o = (h.0, h.1, array_of of h.0 h.1 h.2, have es _ h.3 o, h.4)
      has (struct of es) t h o = (h.0, struct_of of h.0 h.1, have es _ h.2 o, h.3)
      has (abs c a) t h o = subst (HasType new (lowered at (abs c a))) (sym h.2) (abs_has new c (lowered at a) h.0 (has a _ h.1 o))
      has (sign c a) t h o = subst (HasType new (lowered at (sign c a))) (sym h.2) (sign_has new c (lowered at a) h.0 (has a _ h.1 o))
      has (majority c es) t h o =
          let few : length (lowered_all at es) ≤ 9 = let n = count_all es in let b = h.0.1 in omega (arith, n, b) in
          subst (HasType new (lowered at (majority c es))) (sym h.2) (majority_has new c (lowered_all at es) few (same_types c (lowered_all at es) (terms_length es) (list_has es _ h.1 o)))
      has (agreed c es) t h o =
          let few : length (lowered_all at es) ≤ 9 = let n = count_all es in let b = h.0.1 in omega (arith, n, b) in
          subst (HasType new (lowered at (agreed c es))) (sym h.2) (agreed_has new c (lowered_all at es) few (same_types c (lowered_all at es) (terms_length es) (list_has es _ h.1 o)))
      has (lib k form es) t h o =
          subst (HasType new (lowered at (lib k form es))) (sym h.2) (form_has new form (at k) (lowered_all at es) h.0 (list_has es _ h.1 o.1) (there k form o.0))

      have : (es : Terms) (ts : List Ty) → HaveTypes old es ts → AreWritten D libs es → HaveTypes new (lowered_terms at es) ts
      have end [] h o = h
      have end (t ∷ ts) h o = h
      have (more a es) [] h o = h
      have (more a es) (t ∷ ts) h o = (has a t h.0 o.0, have es ts h.1 o.1)

      pub list_has : (es : Terms) (ts : List Ty) → HaveTypes old es ts → AreWritten D libs es → ListHasTypes new (lowered_all at es) ts
      list_has end [] h o = h
      list_has end (t ∷ ts) h o = h
      list_has (more a es) [] h o = h
      list_has (more a es) (t ∷ ts) h o = (has a t h.0 o.0, list_has es ts h.1 o.1)

    pub args_have : (es : List Term) (ts : List Ty) → ListHasTypes old es ts → AllByRecursion (IsWritten D libs) es → ListHasTypes new (map (lowered at) es) ts
    args_have [] [] h o = h
    args_have [] (t ∷ ts) h o = h
    args_have (e ∷ es) [] h o = h
    args_have (e ∷ es) (t ∷ ts) h o = (has e t h.0 o.0, args_have es ts h.1 o.1)

-- ---- lists

pub each_at : {X : Type 0} (P : X → Type 0) (xs : List X) (i : ℕ) (x : X) → AllByRecursion P xs → slice_get xs i ≡ Some x → P x
each_at P [] i x h e = absurd (cc)
each_at P (y ∷ ys) zero x h e = let is : y ≡ x = cc in subst P is h.0
each_at P (y ∷ ys) (suc i) x h e = each_at P ys i x h.1 e

pub get_there : {X : Type 0} (xs : List X) (i : ℕ) → i < length xs → (x : X) × (slice_get xs i ≡ Some x)
get_there [] i h = absurd (omega (arith, h))
get_there (x ∷ xs) zero h = (x, refl)
get_there (x ∷ xs) (suc i) h = get_there xs i (omega (arith, h))

both_changed : {X Y : Type 0} (P W : X → Type 0) (Q : Y → Type 0) (f : X → Y) → ((x : X) → P x → W x → Q (f x)) → (xs : List X) → AllByRecursion P xs → AllByRecursion W xs → AllByRecursion Q (map f xs)
both_changed P W Q f step [] h g = tt
both_changed P W Q f step (x ∷ xs) h g = (step x h.0 g.0, both_changed P W Q f step xs h.1 g.1)

pub get_earlier : {X : Type 0} (xs ys : List X) (i : ℕ) (x : X) → slice_get xs i ≡ Some x → slice_get (xs ++ ys) i ≡ Some x
get_earlier [] ys i x e = absurd (cc)
get_earlier (z ∷ zs) ys zero x e = e
get_earlier (z ∷ zs) ys (suc i) x e = get_earlier zs ys i x e

as_many : (sig : Signature) (es : List Term) (ts : List Ty) → ListHasTypes sig es ts → length es ≡ length ts
as_many sig [] [] h = refl
as_many sig [] (t ∷ ts) h = absurd h
as_many sig (e ∷ es) [] h = absurd h
as_many sig (e ∷ es) (t ∷ ts) h = ap suc (as_many sig es ts h.1)

all_many : (sig : Signature) (xs : List TreeLib) → AllByRecursion (IsGoodLib sig) xs → AllByRecursion AsMany xs
all_many sig [] h = tt
all_many sig (x ∷ xs) h = (as_many sig x.args (operand_types x.form) h.0.args, all_many sig xs h.1)

-- ---- specifications

-- the forms in each expression are the specification's
pub record FormsStand (s : TreeSpec) : Type 0 where
  pub streams : AllByRecursion (λ (x : TreeStream). IsWritten Any s.libs x.expr) s.streams
  pub defs : AllByRecursion (λ (x : TreeDef). IsWritten Any s.libs x.expr) s.defs
  pub triggers : AllByRecursion (λ (x : TreeTrigger). IsWritten Any s.libs x.guard.expr × AllByRecursion (λ (r : TreeRoot). IsWritten Any s.libs r.expr) x.args) s.triggers
  pub observers : AllByRecursion (λ (x : TreeObserver). IsWritten Any s.libs x.root.expr) s.observers
  pub libs : AllByRecursion (λ (x : TreeLib). AllByRecursion (IsWritten Any s.libs) x.args) s.libs

module _ (s : TreeSpec) (parts : HasTypedParts s) where
  abbrev at : ℕ → ℕ
  at = buffer_of (length s.streams) s.libs

  abbrev low : Term → Term
  low e = lowered at e

  abbrev old : Signature
  old = signature_of s

  abbrev new : Signature
  new = signature_of (lowered_spec s)

  abbrev own : List TreeStream
  own = map (λ (x : TreeStream). record x { expr = low x.expr }) s.streams

  defs_same : old.defs ≡ new.defs
  defs_same = sym (map_twice (λ (x : TreeDef). x.ty) (lowered_def at) s.defs)

  streams_same : (x : ℕ) (y : StreamSignature) → slice_get old.streams x ≡ Some y → slice_get new.streams x ≡ Some y
  streams_same x y e =
      ap (λ zs. slice_get zs x) (map_append (stream_signature s.types) own (all_buffers low 1 (length s.streams) s.libs) ∙ ap (λ zs. zs ++ map (stream_signature s.types) (all_buffers low 1 (length s.streams) s.libs)) (map_twice (stream_signature s.types) (λ (x : TreeStream). record x { expr = low x.expr }) s.streams))
      ∙ get_earlier (map (stream_signature s.types) s.streams) (map (stream_signature s.types) (all_buffers low 1 (length s.streams) s.libs)) x y e

  good_libs : AllByRecursion (IsGoodLib old) s.libs
  good_libs = each_of (IsGoodLib old) s.libs parts.libs

  pub many : AllByRecursion AsMany s.libs
  many = all_many old s.libs good_libs

  pub good_lib : (k : ℕ) (x : TreeLib) → slice_get s.libs k ≡ Some x → IsGoodLib old x
  good_lib k x e = each_at (IsGoodLib old) s.libs k x good_libs e

  item_buffers : (k : ℕ) (x : TreeLib) → slice_get s.libs k ≡ Some x → HasBuffers new x.form (at k)
  item_buffers k x e j less =
      let number = buffer_of 1 s.libs k in
      let mine = buffers_of x.form number (at k) x.at (map low x.args) in
      let count : length mine ≡ buffers x.form = listed.as_many x.form number (at k) x.at (map low x.args) (map_length low x.args ∙ as_many old x.args (operand_types x.form) (good_lib k x e).args) in
      let found = get_there mine j (omega (arith, less, count)) in
      let is = each_at (IsBuffer x.form) mine j found.0 (are_buffers x.form number (at k) x.at (map low x.args) (good_lib k x e).form) found.1 in
      slice_get-map (stream_signature s.types) (lowered_spec s).streams (at k + j)
      ∙ ap (option_map (stream_signature s.types)) (buffer_at low own 1 (length s.streams) s.libs many (map_length _ s.streams) k j x e less ∙ found.1)
      ∙ ap Some (signature_is x.form s.types found.0 is)

  pub form_buffers : (k : ℕ) (f : LibForm) → IsFormOf s.libs k f → HasBuffers new f (at k)
  form_buffers k f is = subst (λ g. HasBuffers new g (at k)) is.form_is (item_buffers k is.item is.is)

  pub expr_has : (D : ℕ → Type 0) (e : Term) (t : Ty) → HasType old e t → IsWritten D s.libs e → HasType new (low e) t
  expr_has D e t h o = has old new D s.libs at refl refl defs_same streams_same form_buffers e t h o

  module _ (forms : FormsStand s) where
    stream_good : (x : TreeStream) → IsGoodStream old x → IsWritten Any s.libs x.expr → IsGoodStream new (record x { expr = low x.expr })
    stream_good x h o = record { stands = h.stands; initial = h.initial; expr = expr_has Any x.expr x.ty h.expr o }

    def_good : (x : TreeDef) → IsGoodDef old x → IsWritten Any s.libs x.expr → IsGoodDef new (record x { expr = low x.expr })
    def_good x h o = record { stands = h.stands; expr = expr_has Any x.expr x.ty h.expr o }

    trigger_good : (x : TreeTrigger) → IsGoodTrigger old x → IsWritten Any s.libs x.guard.expr × AllByRecursion (λ (r : TreeRoot). IsWritten Any s.libs r.expr) x.args → IsGoodTrigger new (record x { guard = root_with low x.guard; args = map (root_with low) x.args })
    trigger_good x h o = record {
      guard = expr_has Any x.guard.expr x.guard.ty h.guard o.0;
      truth = h.truth;
      args = all_of_each (RootHasType new) (map (root_with low) x.args) (both_changed (RootHasType old) (λ (r : TreeRoot). IsWritten Any s.libs r.expr) (RootHasType new) (root_with low) (λ r g w. expr_has Any r.expr r.ty g w) x.args (each_of (RootHasType old) x.args h.args) o.1);
      few = let l = map_length (root_with low) x.args in let b = h.few in omega (arith, l, b);
    }

    lib_buffers : (number : ℕ) (k : ℕ) (x : TreeLib) → slice_get s.libs k ≡ Some x → AllByRecursion (IsGoodStream new) (buffers_of x.form number (at k) x.at (map low x.args))
    lib_buffers number k x e =
        buffers_good new x.form number (at k) x.at (map low x.args) (good_lib k x e).form
        (args_have old new Any s.libs at refl refl defs_same streams_same form_buffers x.args (operand_types x.form) (good_lib k x e).args (each_at (λ (x : TreeLib). AllByRecursion (IsWritten Any s.libs) x.args) s.libs k x forms.libs e))
        (item_buffers k x e)

    -- of the forms from one on
    all_good : (number b : ℕ) (xs : List TreeLib) → ((number k : ℕ) (x : TreeLib) → slice_get xs k ≡ Some x → AllByRecursion (IsGoodStream new) (buffers_of x.form number (buffer_of b xs k) x.at (map low x.args))) → AllByRecursion (IsGoodStream new) (all_buffers low number b xs)
    all_good number b [] h = tt
    all_good number b (x ∷ xs) h =
        each_append (IsGoodStream new) (buffers_of x.form number b x.at (map low x.args)) (all_buffers low (number + buffers x.form) (b + buffers x.form) xs)
        (h number 0 x refl) (all_good (number + buffers x.form) (b + buffers x.form) xs (λ n k y e. h n (suc k) y e))

    pub lowered_parts : HasTypedParts (lowered_spec s)
    lowered_parts = record {
      types = parts.types;
      externs = parts.externs;
      streams = all_of_each (IsGoodStream new) (lowered_spec s).streams
          (each_append (IsGoodStream new) own (all_buffers low 1 (length s.streams) s.libs)
          (both_changed (IsGoodStream old) (λ (x : TreeStream). IsWritten Any s.libs x.expr) (IsGoodStream new) (λ (x : TreeStream). record x { expr = low x.expr }) stream_good s.streams (each_of (IsGoodStream old) s.streams parts.streams) forms.streams)
          (all_good 1 (length s.streams) s.libs lib_buffers));
      defs = all_of_each (IsGoodDef new) (lowered_spec s).defs (both_changed (IsGoodDef old) (λ (x : TreeDef). IsWritten Any s.libs x.expr) (IsGoodDef new) (λ (x : TreeDef). record x { expr = low x.expr }) def_good s.defs (each_of (IsGoodDef old) s.defs parts.defs) forms.defs);
      triggers = all_of_each (IsGoodTrigger new) (lowered_spec s).triggers (both_changed (IsGoodTrigger old) _ (IsGoodTrigger new) _ trigger_good s.triggers (each_of (IsGoodTrigger old) s.triggers parts.triggers) forms.triggers);
      observers = all_of_each (λ (x : TreeObserver). RootHasType new x.root) (lowered_spec s).observers (both_changed (λ (x : TreeObserver). RootHasType old x.root) (λ (x : TreeObserver). IsWritten Any s.libs x.root.expr) (λ (x : TreeObserver). RootHasType new x.root) (λ (x : TreeObserver). record x { root = root_with low x.root }) (λ x g w. expr_has Any x.root.expr x.root.ty g w) s.observers (each_of (λ (x : TreeObserver). RootHasType old x.root) s.observers parts.observers) forms.observers);
      libs = All-nil (IsGoodLib new);
    }

-- ---- the trees of a well typed specification

module _ (s : SpecValue) where
  abbrev node_tree : ℕ → Term
  node_tree i = tree s.nodes s.libs i

  form_there : (k : ℕ) (x : LibItem) → slice_get s.libs k ≡ Some x → IsFormOf (trees s).libs k x.form
  form_there k x e = record {
    item = record { form = x.form; args = map node_tree x.args; at = x.at };
    is = slice_get-map (λ (y : LibItem). record { form = y.form; args = map node_tree y.args; at = y.at }) s.libs k ∙ ap (option_map (λ (y : LibItem). record { form = y.form; args = map node_tree y.args; at = y.at })) e;
    form_is = refl;
  }

  node_written : (i : ℕ) → IsWritten Any (trees s).libs (node_tree i)
  node_written i = tree_written (trees s).libs s.nodes s.libs form_there i

  forms_stand : FormsStand (trees s)
  forms_stand = record {
    streams = each_mapped (λ (x : TreeStream). IsWritten Any (trees s).libs x.expr) _ s.streams (λ x. node_written x.expr);
    defs = each_mapped (λ (x : TreeDef). IsWritten Any (trees s).libs x.expr) _ s.defs (λ x. node_written x.expr);
    triggers = each_mapped (λ (x : TreeTrigger). IsWritten Any (trees s).libs x.guard.expr × AllByRecursion (λ (r : TreeRoot). IsWritten Any (trees s).libs r.expr) x.args) _ s.triggers (λ x. (node_written x.guard.expr, each_mapped (λ (r : TreeRoot). IsWritten Any (trees s).libs r.expr) (tree_root node_tree) x.args (λ r. node_written r.expr)));
    observers = each_mapped (λ (x : TreeObserver). IsWritten Any (trees s).libs x.root.expr) _ s.observers (λ x. node_written x.root.expr);
    libs = each_mapped (λ (x : TreeLib). AllByRecursion (IsWritten Any (trees s).libs) x.args) _ s.libs (λ x. each_mapped (IsWritten Any (trees s).libs) node_tree x.args node_written);
  }

  -- the tree of a node keeps its type as it is lowered
  pub node_has : WellTyped s → (i : ℕ) (t : Ty) → HasType (signature_of (trees s)) (node_tree i) t → HasType (signature_of (lowered_spec (trees s))) (lowered (buffer_of (length (trees s).streams) (trees s).libs) (node_tree i)) t
  node_has w i t h = expr_has (trees s) (typed_parts s w) Any (node_tree i) t h (node_written i)

  pub trees_lowered : WellTyped s → HasTypedParts (lowered_spec (trees s))
  trees_lowered w = lowered_parts (trees s) (typed_parts s w) forms_stand

  pub plain_parts : WellTyped s → HasTypedParts (plain_form (trees s))
  plain_parts w = parts_stay (lowered_spec (trees s)) (trees_lowered w)

  pub closed_lowered : WellTyped s → HasTypedParts (lowered_spec (closed_spec s))
  closed_lowered w = subst HasTypedParts (sym (commutes (trees s))) (plain_parts w)

  pub closed_parts : WellTyped s → HasTypedParts (closed_spec s)
  closed_parts w = parts_stay (trees s) (typed_parts s w)
