-- What is evaluated of arrays and structs, and which forms are left.
use Rattle.std.proofs.Common.{◌≡◌, ℕ, zero, suc, ◌+◌, ◌≤◌, List, [], ◌∷◌, length, drop, max, Option, Some, None, Ok, ◌⊎◌, inl, inr, refl, sym, ap, ◌∙◌, subst, arith}
use Rattle.std.proofs.lemmas.List.{length-map, length-replicate, nil_from_length}
use Rattle.std.specs.Prelude.{slice_get}
use Rattle.stream_types.specs.declared.scalar.Dir.{Dir}
use Rattle.stream_types.specs.declared.scalar.Op1.{Op1}
use Rattle.stream_types.specs.declared.scalar.Op2.{Op2}
use Rattle.stream_types.specs.declared.scalar.Scalar.{Scalar}
use Rattle.stream_types.specs.declared.scalar.Scalar.TheVariants as scalar
use Rattle.stream_types.specs.declared.types.Field.{Field}
use Rattle.stream_types.specs.Scalars.{op2_gives}
use Rattle.stream_types.specs.declared.scalar.Ty.{Ty}
use Rattle.stream_types.specs.declared.scalar.Ty.TheVariants as ty
use Rattle.stream_types.specs.TypeList.{IsTypeList, Stands}
use Rattle.stream_types.specs.Types.{words}
use Rattle.stream_core.specs.declared.node.Node.{Node}
use Rattle.stream_core.specs.declared.node.Node.TheVariants as node
use Rattle.stream_core.specs.declared.spec.LibItem.{LibItem}
use Rattle.stream_core.specs.Plain.{IsPlain}
use Rattle.stream_core.specs.Signature.{Signature, signature_of}
use Rattle.stream_core.specs.Value.{SpecValue}
use Rattle.stream_core.specs.Eval.{Moment, all_values}
use Rattle.stream_core.specs.Term.{Term, end, closed, lib_of, terms_of, tree, trees}
use Rattle.stream_core.specs.WellTyped.{HasType, HaveTypes, IsArrayOf, IsStructOf}
use Rattle.stream_interp.specs.Reading.{AreReady, IsNoDef, IsReady, IsReadyElement, IsReadyForm, IsReadyMember, part_types, types_words}
use Rattle.stream_interp.specs.Room.{room}
use Rattle.stream_interp.proofs.PartWidths.{array_parts, array_stands, struct_parts, struct_stands}

-- from place k on there is nothing, or the element there and what follows
after : {X : Type 0} (xs : List X) (k : ℕ) → (drop k xs ≡ []) ⊎ ((x : X) × (slice_get xs k ≡ Some x) × (drop k xs ≡ x ∷ drop (k + 1) xs))
after [] zero = inl refl
after [] (suc k) = inl refl
after (x ∷ xs) zero = inr (x, refl, refl)
after (x ∷ xs) (suc k) =
    let e : suc (k + 1) ≡ suc k + 1 = omega arith in
    elim (after xs k) [ inl e ↦ inl e | inr h ↦ inr (h.0, h.1, h.2 ∙ ap (λ i. h.0 ∷ drop i (x ∷ xs)) e) ]

module _ (s : SpecValue) (n : ℕ) where
  -- the first of several nodes, and the others
  pub record IsReadyFirst (of : Ty) (at first : ℕ) (rest : List ℕ) : Type 0 where
    pub type_is : Ty
    pub part_is : slice_get (part_types s.types of) at ≡ Some type_is
    pub one : IsReady s n first type_is
    pub others : AreReady s n rest (drop (at + 1) (part_types s.types of))
    pub wide : types_words s.types (drop at (part_types s.types of)) ≡ words s.types type_is + types_words s.types (drop (at + 1) (part_types s.types of))

  first_of : (of : Ty) (at first : ℕ) (rest : List ℕ) → AreReady s n (first ∷ rest) (drop at (part_types s.types of))
      → (drop at (part_types s.types of) ≡ []) ⊎ ((t : Ty) × (slice_get (part_types s.types of) at ≡ Some t) × (drop at (part_types s.types of) ≡ t ∷ drop (at + 1) (part_types s.types of)))
      → IsReadyFirst of at first rest
  first_of of at first rest r (inl e) = absurd (subst (HaveTypes (signature_of (trees s)) (terms_of (tree s.nodes s.libs) (first ∷ rest))) e r.typed)
  first_of of at first rest r (inr h) =
      let typed = subst (HaveTypes (signature_of (trees s)) (terms_of (tree s.nodes s.libs) (first ∷ rest))) h.2 r.typed in
      let enough = r.enough in
      record {
        type_is = h.0;
        part_is = h.1;
        one = record { there = r.there.0; typed = typed.0; plain = r.plain.0; enough = omega (arith, enough) };
        others = record { there = r.there.1; typed = typed.1; plain = r.plain.1; enough = omega (arith, enough) };
        wide = ap (types_words s.types) h.2;
      }

  pub first_ready : (of : Ty) (at : ℕ) (ids : List ℕ) (first : ℕ) (rest : List ℕ) → ids ≡ first ∷ rest → AreReady s n ids (drop at (part_types s.types of)) → IsReadyFirst of at first rest
  first_ready of at ids first rest e r = first_of of at first rest (subst (λ is. AreReady s n is (drop at (part_types s.types of))) e r) (after (part_types s.types of) at)

  -- the elements of an array or the members of a struct
  pub record AreReadyParts (of : Ty) (ids : List ℕ) (wide : ℕ) : Type 0 where
    pub stands : Stands s.types of
    pub ready : AreReady s n ids (part_types s.types of)
    pub wide_is : types_words s.types (part_types s.types of) ≡ wide
    pub few : length ids ≤ 1024

  as_many : (sig : Signature) (at : ℕ → Term) (ids : List ℕ) (ts : List Ty) → HaveTypes sig (terms_of at ids) ts → length ids ≡ length ts
  as_many sig at [] [] h = refl
  as_many sig at [] (t ∷ ts) h = absurd h
  as_many sig at (i ∷ ids) [] h = absurd h
  as_many sig at (i ∷ ids) (t ∷ ts) h = ap suc (as_many sig at ids ts h.1)

module _ (s : SpecValue) (list : IsTypeList s.types) (n : ℕ) (t : Ty) where
  pub array_ready : (form : Node) (of : Ty) (ids : List ℕ) (wide : ℕ) → form ≡ node.Array of ids → IsReadyForm s n form t → words s.types t ≡ wide → AreReadyParts s n of ids wide
  array_ready form of ids wide e r w =
      let q = subst (λ f. IsReadyForm s n f t) e r in
      let p = array_parts s.types of q.typed.0 q.typed.1 list q.typed.2 in
      let many = as_many s n (signature_of (trees s)) (tree s.nodes s.libs) ids _ q.typed.3 in
      let long = length-replicate q.typed.1 q.typed.0 in
      let few = p.2 in
      record {
        stands = array_stands s.types of q.typed.0 q.typed.1 q.typed.2;
        ready = record { there = q.there; typed = subst (HaveTypes (signature_of (trees s)) (terms_of (tree s.nodes s.libs) ids)) (sym p.0) q.typed.3; plain = q.plain; enough = q.enough };
        wide_is = p.1 ∙ ap (words s.types) (sym q.typed.4) ∙ w;
        few = omega (arith, many, long, few);
      }

  pub struct_ready : (form : Node) (of : Ty) (ids : List ℕ) (wide : ℕ) → form ≡ node.Record of ids → IsReadyForm s n form t → words s.types t ≡ wide → AreReadyParts s n of ids wide
  struct_ready form of ids wide e r w =
      let q = subst (λ f. IsReadyForm s n f t) e r in
      let p = struct_parts s.types of q.typed.0 list q.typed.1 in
      let many = as_many s n (signature_of (trees s)) (tree s.nodes s.libs) ids _ q.typed.2 in
      let long = length-map q.typed.0 (λ (f : Field). f.ty) in
      let few = p.2 in
      record {
        stands = struct_stands s.types of q.typed.0 q.typed.1;
        ready = record { there = q.there; typed = subst (HaveTypes (signature_of (trees s)) (terms_of (tree s.nodes s.libs) ids)) (sym p.0) q.typed.2; plain = q.plain; enough = q.enough };
        wide_is = p.1 ∙ ap (words s.types) (sym q.typed.3) ∙ w;
        few = omega (arith, many, long, few);
      }

  pub index_ready : (form : Node) (of : Ty) (a i wide : ℕ) → form ≡ node.Index of a i → IsReadyForm s n form t → words s.types t ≡ wide → IsReadyElement s n wide of a i
  index_ready form of a i wide e r w =
      let q = subst (λ f. IsReadyForm s n f t) e r in
      record {
        elem = t;
        count = q.typed.0;
        array_is = q.typed.1;
        wide_is = w;
        rest = max (room s.types (closed s a)) (room s.types (closed s i));
        array = record { there = q.there.0; typed = q.typed.2; plain = q.plain.0; enough = omega arith };
        at = record { there = q.there.1.0; typed = q.typed.3; plain = q.plain.1; enough = omega arith };
        enough = q.enough;
      }

  pub field_ready : (form : Node) (of : Ty) (k a wide : ℕ) → form ≡ node.Field of k a → IsReadyForm s n form t → words s.types t ≡ wide → IsReadyMember s n wide of k a
  field_ready form of k a wide e r w =
      let q = subst (λ f. IsReadyForm s n f t) e r in
      record { type_is = t; member_is = q.typed.0; wide_is = w; rest = room s.types (closed s a); whole = record { there = q.there.0; typed = q.typed.1; plain = q.plain; enough = omega arith }; enough = q.enough }

no_lib : (s : SpecValue) (k : ℕ) (o : Option LibItem) (t : Ty) → HasType (signature_of (trees s)) (lib_of (tree s.nodes s.libs) k o) t → IsPlain (lib_of (closed s) k o) → ⊥
no_lib s k None t typed plain = absurd typed
no_lib s k (Some x) t typed plain = absurd plain

-- the forms that have a word
pub no_other : (s : SpecValue) (n : ℕ) (c : Scalar) (form : Node) → IsReadyForm s n form (ty.Scalar c) → IsNoDef form
    → ((c : Scalar) (w : ℕ) → form ≡ node.Lit c w → ⊥)
    → ((x : ℕ) → form ≡ node.Extern x → ⊥)
    → ((x : ℕ) → form ≡ node.Stream x → ⊥)
    → ((x k : ℕ) → form ≡ node.Drop x k → ⊥)
    → ((o : Op1) (c : Scalar) (a : ℕ) → form ≡ node.Un o c a → ⊥)
    → ((o : Op2) (c : Scalar) (a b : ℕ) → form ≡ node.Bin o c a b → ⊥)
    → ((d : Dir) (c : Scalar) (a : ℕ) (cs : Scalar) (b : ℕ) → form ≡ node.Shift d c a cs b → ⊥)
    → ((from to : Scalar) (a : ℕ) → form ≡ node.Cast from to a → ⊥)
    → ((a b : ℕ) → form ≡ node.And a b → ⊥)
    → ((a b : ℕ) → form ≡ node.Or a b → ⊥)
    → ((a b : ℕ) → form ≡ node.Implies a b → ⊥)
    → ((c a b : ℕ) → form ≡ node.If c a b → ⊥)
    → ((of : Ty) (a i : ℕ) → form ≡ node.Index of a i → ⊥)
    → ((of : Ty) (k a : ℕ) → form ≡ node.Field of k a → ⊥)
    → ⊥
no_other s n c (node.Lit c_ w_) r no_def n_lit n_extern n_stream n_drop n_un n_bin n_shift n_cast n_and n_or n_implies n_if n_index n_field = n_lit c_ w_ refl
no_other s n c (node.Extern x_) r no_def n_lit n_extern n_stream n_drop n_un n_bin n_shift n_cast n_and n_or n_implies n_if n_index n_field = n_extern x_ refl
no_other s n c (node.Stream x_) r no_def n_lit n_extern n_stream n_drop n_un n_bin n_shift n_cast n_and n_or n_implies n_if n_index n_field = n_stream x_ refl
no_other s n c (node.Def d_) r no_def n_lit n_extern n_stream n_drop n_un n_bin n_shift n_cast n_and n_or n_implies n_if n_index n_field = absurd no_def
no_other s n c (node.Drop x_ k_) r no_def n_lit n_extern n_stream n_drop n_un n_bin n_shift n_cast n_and n_or n_implies n_if n_index n_field = n_drop x_ k_ refl
no_other s n c (node.Un o_ c_ a_) r no_def n_lit n_extern n_stream n_drop n_un n_bin n_shift n_cast n_and n_or n_implies n_if n_index n_field = n_un o_ c_ a_ refl
no_other s n c (node.Bin o_ c_ a_ b_) r no_def n_lit n_extern n_stream n_drop n_un n_bin n_shift n_cast n_and n_or n_implies n_if n_index n_field = n_bin o_ c_ a_ b_ refl
no_other s n c (node.Shift d_ c_ a_ cs_ b_) r no_def n_lit n_extern n_stream n_drop n_un n_bin n_shift n_cast n_and n_or n_implies n_if n_index n_field = n_shift d_ c_ a_ cs_ b_ refl
no_other s n c (node.Cast from_ to_ a_) r no_def n_lit n_extern n_stream n_drop n_un n_bin n_shift n_cast n_and n_or n_implies n_if n_index n_field = n_cast from_ to_ a_ refl
no_other s n c (node.And a_ b_) r no_def n_lit n_extern n_stream n_drop n_un n_bin n_shift n_cast n_and n_or n_implies n_if n_index n_field = n_and a_ b_ refl
no_other s n c (node.Or a_ b_) r no_def n_lit n_extern n_stream n_drop n_un n_bin n_shift n_cast n_and n_or n_implies n_if n_index n_field = n_or a_ b_ refl
no_other s n c (node.Implies a_ b_) r no_def n_lit n_extern n_stream n_drop n_un n_bin n_shift n_cast n_and n_or n_implies n_if n_index n_field = n_implies a_ b_ refl
no_other s n c (node.If c_ a_ b_) r no_def n_lit n_extern n_stream n_drop n_un n_bin n_shift n_cast n_and n_or n_implies n_if n_index n_field = n_if c_ a_ b_ refl
no_other s n c (node.Index of_ a_ i_) r no_def n_lit n_extern n_stream n_drop n_un n_bin n_shift n_cast n_and n_or n_implies n_if n_index n_field = n_index of_ a_ i_ refl
no_other s n c (node.Field of_ k_ a_) r no_def n_lit n_extern n_stream n_drop n_un n_bin n_shift n_cast n_and n_or n_implies n_if n_index n_field = n_field of_ k_ a_ refl
no_other s n c (node.Array of_ es_) r no_def n_lit n_extern n_stream n_drop n_un n_bin n_shift n_cast n_and n_or n_implies n_if n_index n_field = absurd (subst (λ u. IsArrayOf s.types u r.typed.0 r.typed.1) (sym r.typed.4) r.typed.2)
no_other s n c (node.Record of_ es_) r no_def n_lit n_extern n_stream n_drop n_un n_bin n_shift n_cast n_and n_or n_implies n_if n_index n_field = absurd (subst (λ u. IsStructOf s.types u r.typed.0) (sym r.typed.3) r.typed.1)
no_other s n c (node.Abs c_ a_) r no_def n_lit n_extern n_stream n_drop n_un n_bin n_shift n_cast n_and n_or n_implies n_if n_index n_field = absurd r.plain
no_other s n c (node.Sign c_ a_) r no_def n_lit n_extern n_stream n_drop n_un n_bin n_shift n_cast n_and n_or n_implies n_if n_index n_field = absurd r.plain
no_other s n c (node.Majority c_ es_) r no_def n_lit n_extern n_stream n_drop n_un n_bin n_shift n_cast n_and n_or n_implies n_if n_index n_field = absurd r.plain
no_other s n c (node.Agreed c_ es_) r no_def n_lit n_extern n_stream n_drop n_un n_bin n_shift n_cast n_and n_or n_implies n_if n_index n_field = absurd r.plain
no_other s n c (node.Lib k_) r no_def n_lit n_extern n_stream n_drop n_un n_bin n_shift n_cast n_and n_or n_implies n_if n_index n_field = no_lib s k_ (slice_get s.libs k_) (ty.Scalar c) r.typed r.plain

as_scalar : (s : SpecValue) (n : ℕ) (t : Ty) (form : Node) (c : Scalar) → t ≡ ty.Scalar c → IsReadyForm s n form t → (d : Scalar) × IsReadyForm s n form (ty.Scalar d) × (t ≡ ty.Scalar d)
as_scalar s n t form c e r = (c, subst (IsReadyForm s n form) e r, e)

-- the forms that have a word alone
pub narrow : (s : SpecValue) (n : ℕ) (t : Ty) (form : Node) → IsReadyForm s n form t → IsNoDef form
    → ((x : ℕ) → form ≡ node.Extern x → ⊥)
    → ((x : ℕ) → form ≡ node.Stream x → ⊥)
    → ((x k : ℕ) → form ≡ node.Drop x k → ⊥)
    → ((c a b : ℕ) → form ≡ node.If c a b → ⊥)
    → ((of : Ty) (a i : ℕ) → form ≡ node.Index of a i → ⊥)
    → ((of : Ty) (k a : ℕ) → form ≡ node.Field of k a → ⊥)
    → ((of : Ty) (es : List ℕ) → form ≡ node.Array of es → ⊥)
    → ((of : Ty) (es : List ℕ) → form ≡ node.Record of es → ⊥)
    → (c : Scalar) × IsReadyForm s n form (ty.Scalar c) × (t ≡ ty.Scalar c)
narrow s n t (node.Lit c_ w_) r no_def n_extern n_stream n_drop n_if n_index n_field n_array n_record = as_scalar s n t (node.Lit c_ w_) c_ r.typed.1 r
narrow s n t (node.Extern x_) r no_def n_extern n_stream n_drop n_if n_index n_field n_array n_record = absurd (n_extern x_ refl)
narrow s n t (node.Stream x_) r no_def n_extern n_stream n_drop n_if n_index n_field n_array n_record = absurd (n_stream x_ refl)
narrow s n t (node.Def d_) r no_def n_extern n_stream n_drop n_if n_index n_field n_array n_record = absurd no_def
narrow s n t (node.Drop x_ k_) r no_def n_extern n_stream n_drop n_if n_index n_field n_array n_record = absurd (n_drop x_ k_ refl)
narrow s n t (node.Un o_ c_ a_) r no_def n_extern n_stream n_drop n_if n_index n_field n_array n_record = as_scalar s n t (node.Un o_ c_ a_) c_ r.typed.2 r
narrow s n t (node.Bin o_ c_ a_ b_) r no_def n_extern n_stream n_drop n_if n_index n_field n_array n_record = as_scalar s n t (node.Bin o_ c_ a_ b_) (op2_gives o_ c_) r.typed.3 r
narrow s n t (node.Shift d_ c_ a_ cs_ b_) r no_def n_extern n_stream n_drop n_if n_index n_field n_array n_record = as_scalar s n t (node.Shift d_ c_ a_ cs_ b_) c_ r.typed.3 r
narrow s n t (node.Cast from_ to_ a_) r no_def n_extern n_stream n_drop n_if n_index n_field n_array n_record = as_scalar s n t (node.Cast from_ to_ a_) to_ r.typed.2 r
narrow s n t (node.And a_ b_) r no_def n_extern n_stream n_drop n_if n_index n_field n_array n_record = as_scalar s n t (node.And a_ b_) scalar.Bool r.typed.2 r
narrow s n t (node.Or a_ b_) r no_def n_extern n_stream n_drop n_if n_index n_field n_array n_record = as_scalar s n t (node.Or a_ b_) scalar.Bool r.typed.2 r
narrow s n t (node.Implies a_ b_) r no_def n_extern n_stream n_drop n_if n_index n_field n_array n_record = as_scalar s n t (node.Implies a_ b_) scalar.Bool r.typed.2 r
narrow s n t (node.If c_ a_ b_) r no_def n_extern n_stream n_drop n_if n_index n_field n_array n_record = absurd (n_if c_ a_ b_ refl)
narrow s n t (node.Index of_ a_ i_) r no_def n_extern n_stream n_drop n_if n_index n_field n_array n_record = absurd (n_index of_ a_ i_ refl)
narrow s n t (node.Field of_ k_ a_) r no_def n_extern n_stream n_drop n_if n_index n_field n_array n_record = absurd (n_field of_ k_ a_ refl)
narrow s n t (node.Array of_ es_) r no_def n_extern n_stream n_drop n_if n_index n_field n_array n_record = absurd (n_array of_ es_ refl)
narrow s n t (node.Record of_ es_) r no_def n_extern n_stream n_drop n_if n_index n_field n_array n_record = absurd (n_record of_ es_ refl)
narrow s n t (node.Abs c_ a_) r no_def n_extern n_stream n_drop n_if n_index n_field n_array n_record = absurd r.plain
narrow s n t (node.Sign c_ a_) r no_def n_extern n_stream n_drop n_if n_index n_field n_array n_record = absurd r.plain
narrow s n t (node.Majority c_ es_) r no_def n_extern n_stream n_drop n_if n_index n_field n_array n_record = absurd r.plain
narrow s n t (node.Agreed c_ es_) r no_def n_extern n_stream n_drop n_if n_index n_field n_array n_record = absurd r.plain
narrow s n t (node.Lib k_) r no_def n_extern n_stream n_drop n_if n_index n_field n_array n_record = absurd (no_lib s k_ (slice_get s.libs k_) t r.typed r.plain)

-- nothing is left to evaluate, and no words to write
no_types : (sig : Signature) (ts : List Ty) → HaveTypes sig end ts → ts ≡ []
no_types sig [] h = refl
no_types sig (t ∷ ts) h = absurd h

pub none_left : (s : SpecValue) (n : ℕ) (ids : List ℕ) (ts : List Ty) (out : List ℕ) (m : Moment) → ids ≡ [] → AreReady s n ids ts → types_words s.types ts ≡ length out → all_values m (terms_of (closed s) ids) ≡ Ok out
none_left s n ids ts out m e r wide =
    let none = no_types (signature_of (trees s)) ts (subst (λ is. HaveTypes (signature_of (trees s)) (terms_of (tree s.nodes s.libs) is) ts) e r.typed) in
    let empty : length out ≡ 0 = sym wide ∙ ap (types_words s.types) none in
    ap (λ is. all_values m (terms_of (closed s) is)) e ∙ ap (λ (ws : List ℕ). Ok ws) (sym (nil_from_length out empty))
