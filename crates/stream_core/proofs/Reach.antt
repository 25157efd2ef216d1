-- A well typed specification reads each stream within its initial values.
use Rattle.std.proofs.Common.{◌≡◌, ℕ, zero, suc, ◌<◌, List, [], ◌∷◌, ◌++◌, length, map, Option, Some, None, refl, ap, ◌∙◌, subst, arith}
use Rattle.std.specs.Prelude.{slice_get, All}
use Rattle.std.specs.List.{AllByRecursion}
use Rattle.std.proofs.lemmas.Option.{slice_get_within, get_or_from_slice_get}
use Rattle.stream_types.specs.declared.scalar.Ty.{Ty}
use Rattle.stream_types.specs.declared.types.TypeEntry.{TypeEntry}
use Rattle.stream_core.specs.Value.{SpecValue}
use Rattle.stream_core.specs.Term.{Term, Terms, lit, extern, stream, def, named, missing, dropped, un, bin, shift, cast, and, or, implies, choose, index, field, array, struct, abs, sign, majority, agreed, lib, end, more, TreeStream, TreeDef, TreeLib, initial_count, with_defs, all_with_defs, def_at, def_to, written_out, trees}
use Rattle.stream_core.specs.Eval.{Line, lines, chunks, stream_line, operand_lines}
use Rattle.stream_core.specs.Equations.{ReadsWithin, AllRead, bound_of}
use Rattle.stream_core.specs.Signature.{Signature, StreamSignature, stream_signature, signature_of}
use Rattle.stream_core.specs.WellTyped.{HasType, HaveTypes, ListHasTypes, IsGoodStream, IsGoodDef, IsGoodLib, WellTyped, operand_types}
use Rattle.stream_core.specs.Meaning.{closed_spec, Bounded}
use Rattle.stream_core.proofs.Signatures.{from_mapped}

-- ---- expressions

module _ (sig : Signature) (bound : ℕ → ℕ) (streams : (x : ℕ) (y : StreamSignature) → slice_get sig.streams x ≡ Some y → (bound x ≡ y.count) × (0 < bound x)) where
  drop_reads : (x k : ℕ) (y : StreamSignature) → slice_get sig.streams x ≡ Some y → k < y.count → k < bound x
  drop_reads x k y is h = let e = (streams x y is).0 in omega (arith, e, h)

  module _ (F : ℕ → Term) (defs : (d : ℕ) → ReadsWithin bound (F d)) where
    mutual
      reads : (e : Term) (t : Ty) → HasType sig e t → ReadsWithin bound (with_defs F e)
      reads (lit c w) t h = tt
      reads (extern x) t h = tt
      reads (stream x) t h = (streams x h.stream h.is).1
      reads (def d) t h = defs d
      reads (named d a) t h = reads a t h.1
      reads missing t h = tt
      reads (dropped x k) t h = drop_reads x k h.stream h.is h.within
      reads (un o c a) t h = reads a _ h.1
      reads (bin o c a b) t h = (reads a _ h.1, reads b _ h.2)
      reads (shift d c a cs b) t h = (reads a _ h.1, reads b _ h.2)
      reads (cast f g a) t h = reads a _ h.1
      reads (and a b) t h = (reads a _ h.0, reads b _ h.1)
      reads (or a b) t h = (reads a _ h.0, reads b _ h.1)
      reads (implies a b) t h = (reads a _ h.0, reads b _ h.1)
      reads (choose c a b) t h = (reads c _ h.0, reads a t h.1, reads b t h.2)
      reads (index of a b) t h = (reads a _ h.2, reads b _ h.3)
      reads (field of k a) t h = reads a _ h.1
      reads (array of es) t h = all_read es _ h.3
      reads (struct of es) t h = all_read es _ h.2
      reads (abs c a) t h = reads a _ h.1
      reads (sign c a) t h = reads a _ h.1
      reads (majority c es) t h = all_read es _ h.1
      reads (agreed c es) t h = all_read es _ h.1
      reads (lib k form es) t h = all_read es _ h.1

      all_read : (es : Terms) (ts : List Ty) → HaveTypes sig es ts → AllRead bound (all_with_defs F es)
      all_read end ts h = tt
      all_read (more a es) [] h = absurd h
      all_read (more a es) (t ∷ ts) h = (reads a t h.0, all_read es ts h.1)

  module _ (defs : List TreeDef) (good : All (IsGoodDef sig) defs) where
    def_reads : (F : ℕ → Term) → ((d : ℕ) → ReadsWithin bound (F d)) → (d : ℕ) (o : Option TreeDef) → slice_get defs d ≡ o → ReadsWithin bound (def_at F o)
    def_reads F h d None e = tt
    def_reads F h d (Some x) e =
        let g : IsGoodDef sig x = subst (IsGoodDef sig) (get_or_from_slice_get defs d x x e) (good d x (slice_get_within defs d x e)) in
        reads F h x.expr x.ty g.expr

    defs_read : (n d : ℕ) → ReadsWithin bound (def_to defs n d)
    defs_read zero d = tt
    defs_read (suc n) d = def_reads (def_to defs n) (λ c. defs_read n c) d (slice_get defs d) refl

    out_reads : (e : Term) (t : Ty) → HasType sig e t → ReadsWithin bound (written_out defs e)
    out_reads e t h = reads (def_to defs (length defs)) (λ d. defs_read (length defs) d) e t h

    -- ---- lines

    abbrev Reading : Line → Type 0
    Reading l = ReadsWithin bound l.expr

    abbrev stream_out : TreeStream → TreeStream
    stream_out x = record x { expr = written_out defs x.expr }

    abbrev lib_out : TreeLib → TreeLib
    lib_out x = record x { args = map (written_out defs) x.args }

    args_read : (es : List Term) (ts : List Ty) → ListHasTypes sig es ts → (ls : List Line) → AllByRecursion Reading ls → AllByRecursion Reading (map (λ e. record { init = []; expr = e }) (map (written_out defs) es) ++ ls)
    args_read [] ts h ls r = r
    args_read (e ∷ es) [] h ls r = absurd h
    args_read (e ∷ es) (t ∷ ts) h ls r = (out_reads e t h.0, args_read es ts h.1 ls r)

    libs_read : (xs : List TreeLib) → All (IsGoodLib sig) xs → AllByRecursion Reading (operand_lines (map lib_out xs))
    libs_read [] h = tt
    libs_read (x ∷ xs) h = args_read x.args (operand_types x.form) (h 0 x (omega arith)).args (operand_lines (map lib_out xs)) (libs_read xs (λ k d b. h (suc k) d (omega (arith, b))))

    streams_read : (xs : List TreeStream) → All (IsGoodStream sig) xs → (ls : List Line) → AllByRecursion Reading ls → AllByRecursion Reading (map (stream_line sig.types) (map stream_out xs) ++ ls)
    streams_read [] h ls r = r
    streams_read (x ∷ xs) h ls r = (out_reads x.expr x.ty (h 0 x (omega arith)).expr, streams_read xs (λ k d b. h (suc k) d (omega (arith, b))) ls r)

-- ---- bounds

pub length_chunks : (n w : ℕ) (xs : List ℕ) → length (chunks n w xs) ≡ n
length_chunks zero w xs = refl
length_chunks (suc n) w xs = ap suc (length_chunks n w _)

bound_at : (types : List TypeEntry) (out : Term → Term) (xs : List TreeStream) (ls : List Line) (k : ℕ) (x : TreeStream) → slice_get xs k ≡ Some x → bound_of (map (stream_line types) (map (λ (y : TreeStream). record y { expr = out y.expr }) xs) ++ ls) k ≡ initial_count types x
bound_at types out [] ls k x e = absurd (cc)
bound_at types out (y ∷ ys) ls zero x e = let is : y ≡ x = cc in length_chunks (initial_count types y) _ y.init ∙ ap (initial_count types) is
bound_at types out (y ∷ ys) ls (suc k) x e = bound_at types out ys ls k x e

-- each stream has an initial value
some_initial : (s : SpecValue) → WellTyped s → (k : ℕ) (x : TreeStream) → slice_get (trees s).streams k ≡ Some x → 0 < initial_count (trees s).types x
some_initial s w k x e =
    let good : IsGoodStream (signature_of (trees s)) x = subst (IsGoodStream (signature_of (trees s))) (get_or_from_slice_get (trees s).streams k x x e) (w.streams k x (slice_get_within (trees s).streams k x e)) in
    let b = good.initial.some in
    omega (arith, b)

-- the bound of a stream is the number of its initial values
streams_within : (s : SpecValue) → WellTyped s → (k : ℕ) (y : StreamSignature) → slice_get (signature_of (trees s)).streams k ≡ Some y → (bound_of (lines (closed_spec s)) k ≡ y.count) × (0 < bound_of (lines (closed_spec s)) k)
streams_within s w k y e =
    let t = trees s in
    let x = from_mapped (stream_signature t.types) t.streams k y e in
    let is : initial_count t.types x.0 ≡ y.count = ap (λ (z : StreamSignature). z.count) x.2 in
    let b : bound_of (lines (closed_spec s)) k ≡ initial_count t.types x.0 = bound_at t.types (written_out t.defs) t.streams (operand_lines (closed_spec s).libs) k x.0 x.1 in
    let p = some_initial s w k x.0 x.1 in
    (b ∙ is, omega (arith, b, p))

pub bounded : (s : SpecValue) → WellTyped s → Bounded s
bounded s w =
    let t = trees s in
    let sig = signature_of t in
    let bound = bound_of (lines (closed_spec s)) in
    let libs = operand_lines (closed_spec s).libs in
    record { each = streams_read sig bound (streams_within s w) t.defs w.defs t.streams w.streams libs (libs_read sig bound (streams_within s w) t.defs w.defs t.libs w.libs) }

-- a typed expression, its defs written out
pub typed_reads : (s : SpecValue) → WellTyped s → (e : Term) (t : Ty) → HasType (signature_of (trees s)) e t → ReadsWithin (bound_of (lines (closed_spec s))) (written_out (trees s).defs e)
typed_reads s w e t h = out_reads (signature_of (trees s)) (bound_of (lines (closed_spec s))) (streams_within s w) (trees s).defs w.defs e t h
