-- What lowering makes of a sound specification is sound and plain.
use Rattle.std.proofs.Common.{◌≡◌, ⊎_elim, ℕ, zero, suc, ◌<◌, ◌≤◌, ◌+◌, List, [], ◌∷◌, ◌++◌, length, map, Some, None, refl, sym, ap, ◌∙◌, subst, arith}
use Rattle.std.specs.Prelude.{slice_get, sum, ◌/◌}
use Rattle.std.specs.List.{AllByRecursion}
use Rattle.std.proofs.lemmas.Nat.{div_below}
use Rattle.std.proofs.lemmas.List.Sums.{sum_by-cons}
use Rattle.stream_types.specs.declared.scalar.Ty.{Ty}
use Rattle.stream_types.specs.declared.types.TypeEntry.{TypeEntry}
use Rattle.stream_types.specs.Types.{words}
use Rattle.stream_core.specs.declared.spec.LibItem.{LibItem}
use Rattle.stream_core.specs.Value.{SpecValue}
use Rattle.stream_core.specs.Parts.{IsNodeList}
use Rattle.stream_core.specs.Ordered.{Ordered}
use Rattle.stream_core.specs.Term.{Term, TreeSpec, TreeStream, tree, trees, without_defs}
use Rattle.stream_core.specs.Lower.{all_buffers, buffer_of, lowered, lowered_spec}
use Rattle.stream_core.specs.Signature.{Signature, signature_of}
use Rattle.stream_core.specs.WellTyped.{AreInitial, HasType, IsGoodStream, WellTyped}
use Rattle.stream_core.specs.Plain.{IsPlainSpec}
use Rattle.stream_core.specs.KeptLimits.{KeepsLimits, plain_form}
use Rattle.stream_core.specs.TypedParts.{HasTypedParts}
use Rattle.stream_core.specs.Meaning.{IsFirstFault}
use Rattle.stream_core.specs.Acyclic.{Acyclic}
use Rattle.stream_core.proofs.Cycles.{no_cycle}
use Rattle.stream_core.proofs.Extended.{typed_parts}
use Rattle.stream_core.proofs.Limited.{within}
use Rattle.stream_core.proofs.PartTypes.{part_typed}
use Rattle.stream_core.proofs.Roots.{acyclic}
use Rattle.form_laws.proofs.LoweredParts.{many, node_has, plain_parts, trees_lowered}
use Rattle.form_laws.proofs.OutOfSpecs.{map_length}
use Rattle.form_laws.proofs.PlainForms.{each_of, spec_plain, spec_still}
use Rattle.stream_lib.specs.Built.{IsPartOfOne, tree_at}
use Rattle.stream_lib.specs.PlainSpecs.{IsSoundPlain}
use Rattle.stream_lib.specs.Renamed.{IsOfLowered, IsPartOfLowered, starts_of}
use Rattle.stream_lib.proofs.BufferNames.{all_told, buffer_names, names, numbers_length}
use Rattle.stream_lib.proofs.LoweredMentions.{still_acyclic}
use Rattle.stream_lib.proofs.LoweredNames.{names_good}
use Rattle.stream_lib.proofs.MadeStreams.{exprs}
use Rattle.stream_lib.proofs.PlacedTrees.{ordered}
use Rattle.stream_lib.proofs.TypedNumbers.{no_libs}

-- ---- how many streams there are

no_part : (w : ℕ) → 1 ≤ 0 / w → ⊥
no_part zero h = absurd (omega (arith, h))
no_part (suc w) h = let b = div_below 0 (suc w) 1 (omega arith) (omega arith) in absurd (omega (arith, b, h))

some_words : (types : List TypeEntry) (t : Ty) (init : List ℕ) → AreInitial types t init → 1 ≤ length init
some_words types t [] h = absurd (no_part (words types t) h.some)
some_words types t (x ∷ xs) h = omega arith

fewer : (sig : Signature) (xs : List TreeStream) → AllByRecursion (IsGoodStream sig) xs → length xs ≤ sum (map (λ (x : TreeStream). length x.init) xs)
fewer sig [] h = omega arith
fewer sig (x ∷ xs) h =
    let a = some_words sig.types x.ty x.init h.0.initial in
    let r = fewer sig xs h.1 in
    let e = sum_by-cons (λ (k : ℕ). k) (length x.init) (map (λ (y : TreeStream). length y.init) xs) in
    omega (arith, a, r, e)

streams_few : (p : TreeSpec) → HasTypedParts p → KeepsLimits p → length p.streams ≤ 262144
streams_few p parts kept = let a = fewer (signature_of p) p.streams (each_of (IsGoodStream (signature_of p)) p.streams parts.streams) in let b = kept.words in omega (arith, a, b)

length_both : (xs ys : List TreeStream) → length (xs ++ ys) ≡ length xs + length ys
length_both [] ys = let e : 0 + length ys ≡ length ys = omega arith in sym e
length_both (x ∷ xs) ys = let r = length_both xs ys in omega (arith, r)

-- ---- the types of nodes

each_at : {X : Type 0} (P : X → Type 0) (xs : List X) (i : ℕ) (x : X) → AllByRecursion P xs → slice_get xs i ≡ Some x → P x
each_at P [] i x h e = absurd (cc)
each_at P (y ∷ ys) zero x h e = let is : y ≡ x = cc in subst P is h.0
each_at P (y ∷ ys) (suc i) x h e = each_at P ys i x h.1 e

stream_of : (xs : List TreeStream) (i : ℕ) (e : Term) → slice_get (exprs xs) i ≡ Some e → (x : TreeStream) × (slice_get xs i ≡ Some x) × (x.expr ≡ e)
stream_of [] i e h = absurd (cc)
stream_of (x ∷ xs) zero e h = (x, refl, (cc))
stream_of (x ∷ xs) (suc i) e h = stream_of xs i e h

module _ (s x : SpecValue) (w : WellTyped s) (sound : IsFirstFault s None) (is : trees x ≡ lowered_spec (trees s)) (list : IsNodeList x.nodes) (made : IsOfLowered s x) where
  none : x.libs ≡ []
  none = no_libs s x is

  abbrev new : Signature
  new = signature_of (lowered_spec (trees s))

  parts : HasTypedParts (lowered_spec (trees s))
  parts = trees_lowered s w

  abbrev Typed : Term → Type 0
  Typed e = (t : Ty) × HasType new e t

  starts_are : starts_of s ≡ buffer_of (length (trees s).streams) (trees s).libs
  starts_are = ap (λ n. buffer_of n (trees s).libs) (sym (map_length _ s.streams))

  of_node : (e : Term) → IsPartOfLowered s (length s.nodes) e → Typed e
  of_node e h =
      let typed = w.nodes h.node h.there in
      let has = subst (λ (at : ℕ → ℕ). HasType new (lowered at (tree s.nodes s.libs h.node)) typed.0) (sym starts_are) (node_has s w h.node typed.0 typed.1) in
      part_typed new e (lowered (starts_of s) (tree s.nodes s.libs h.node)) typed.0 h.part has

  of_stream : (e : Term) → IsPartOfOne e (exprs (lowered_spec (trees s)).streams) → Typed e
  of_stream e h =
      let y = stream_of (lowered_spec (trees s)).streams h.place h.whole h.is in
      let good = each_at (IsGoodStream new) (lowered_spec (trees s)).streams h.place y.0 (each_of (IsGoodStream new) (lowered_spec (trees s)).streams parts.streams) y.1 in
      part_typed new e h.whole y.0.ty h.part (subst (λ f. HasType new f y.0.ty) y.2 good.expr)

  node_typed : (i : ℕ) → i < length x.nodes → (t : Ty) × HasType (signature_of (trees x)) (tree x.nodes x.libs i) t
  unfolding tree_at
  node_typed i h = subst (λ (p : TreeSpec). (t : Ty) × HasType (signature_of p) (tree x.nodes x.libs i) t) (sym is)
      (subst (λ (libs : List LibItem). Typed (tree x.nodes libs i)) (sym none) (⊎_elim (of_node (tree_at x i)) (of_stream (tree_at x i)) (made.parts i h)))

  kept : KeepsLimits (plain_form (trees s))
  kept = (within (trees s) sound.1).1

  abbrev low : Term → Term
  low = lowered (buffer_of (length (trees s).streams) (trees s).libs)

  abbrev old_streams : List TreeStream
  old_streams = map (λ (y : TreeStream). record y { expr = low y.expr }) (trees s).streams

  abbrev buffers_ : List TreeStream
  buffers_ = all_buffers low 1 (length (trees s).streams) (trees s).libs

  few : 1 + all_told (trees s).libs < 1048576
  few =
      let a = streams_few (plain_form (trees s)) (plain_parts s w) kept in
      let b : length (plain_form (trees s)).streams ≡ length (lowered_spec (trees s)).streams = map_length _ (lowered_spec (trees s)).streams in
      let c : length (lowered_spec (trees s)).streams ≡ length old_streams + length buffers_ = length_both old_streams buffers_ in
      let d : length (names buffers_) ≡ length buffers_ = map_length (λ (y : TreeStream). y.name) buffers_ in
      let e : length (names buffers_) ≡ all_told (trees s).libs = ap (λ (ns : List (List ℕ)). length ns) (buffer_names low 1 (length (trees s).streams) (trees s).libs (many (trees s) (typed_parts s w))) ∙ numbers_length 1 (all_told (trees s).libs) in
      omega (arith, a, b, c, d, e)

  new_parts : HasTypedParts (trees x)
  new_parts = subst HasTypedParts (sym is) parts

  typed : WellTyped x
  typed = record {
    types = new_parts.types;
    ordered = subst (Ordered x.nodes) (sym none) (ordered x.nodes list);
    nodes = node_typed;
    externs = new_parts.externs;
    streams = new_parts.streams;
    defs = new_parts.defs;
    triggers = new_parts.triggers;
    observers = new_parts.observers;
    libs = new_parts.libs;
    names = names_good s x is none w.names (many (trees s) (typed_parts s w)) few;
  }

  still_plain : plain_form (trees x) ≡ plain_form (trees s)
  still_plain = ap plain_form is ∙ ap without_defs (spec_still (lowered_spec (trees s)) (spec_plain (trees s)))

  defs_acyclic : Acyclic (trees x).defs
  defs_acyclic = subst (λ (p : TreeSpec). Acyclic p.defs) (sym is) (still_acyclic (buffer_of (length (trees s).streams) (trees s).libs) (trees s).defs (acyclic s w sound.0))

  pub sound_plain : IsSoundPlain x
  sound_plain = record {
    typed = typed;
    no_forms = none;
    plain = subst IsPlainSpec (sym is) (spec_plain (trees s));
    no_cycle = no_cycle (trees x).defs defs_acyclic;
    limits = subst KeepsLimits (sym still_plain) kept;
  }
