-- A text has one first fault, and none where it stands for a specification.
use Rattle.std.specs.Prelude.{◌≡◌, ◌≤◌, ◌⊎◌, ℕ, List, slice_get, Option, Some, None, option_and_then}
use Rattle.std.proofs.Common.{sym, subst, refl, ap, ◌∙◌, arith, inl, inr}
use Rattle.stream_core.specs.Value.{SpecValue}
use Rattle.stream_core.specs.Term.{TreeSpec, TreeDef, trees}
use Rattle.stream_core.specs.Soundness.{SoundnessFault, cycle, too_many_decls, too_many_words, root_too_heavy, spec_too_heavy, CycleAt, HasNoCycle, limit_fault, IsFirstFault}
use Rattle.spec_forest.specs.Node.{Nodes, forest_nodes}
use Rattle.spec_forest.specs.Tokens.{IsForestOf}
use Rattle.spec_forest.specs.Scan.{scan_fault}
use Rattle.spec_forest.specs.declared.tree.Forest.{Forest}
use Rattle.spec_text.specs.Form.{IsSurfaceOf, AllMatch, form_of, more, none}
use Rattle.spec_text.specs.KeepsTable.{KeepsTable}
use Rattle.spec_text.specs.Shape.{shape_fault, shape_fault_of}
use Rattle.spec_text.specs.declared.surface.Surface.{Surface}
use Rattle.type_check.specs.Checked.{type_fault}
use Rattle.typed_text.specs.ReadSpec.{spec_of}
use Rattle.typing.specs.Typing.{typing_fault, first_typing_fault}
use Rattle.tool_top.specs.declared.outcome.Refusal.{Refusal}
use Rattle.tool_top.specs.Analysis.{of_scan, of_shape, of_types, of_soundness, Scans, Shapes, IsTypedText, Means, HasScanFault, HasShapeFault, HasTypeFault, HasSoundnessFault, HasFirstFault}
use Rattle.std.proofs.lemmas.Option.{same_Some}

-- ---- what the crates below state

abbrev pub OneForest : Type 0
OneForest = (text : List ℕ) (f g : Nodes) → IsForestOf text f → IsForestOf text g → f ≡ g

abbrev pub OneSurface : Type 0
OneSurface = (forest : Forest) (s t : Surface) → IsSurfaceOf forest s → IsSurfaceOf forest t → KeepsTable s → KeepsTable t → s ≡ t

-- ---- a specification has one first fault of soundness

one_cycle : (defs : List TreeDef) (a b : ℕ) → CycleAt defs a → CycleAt defs b → a ≡ b
one_cycle defs a b x y =
    let low : x.d ≤ y.d = x.first y.d y.on_cycle in
    let high : y.d ≤ x.d = y.first x.d x.on_cycle in
    let same : x.d ≡ y.d = omega arith in
    let def_is : Some x.def ≡ Some y.def = sym x.is ∙ ap (slice_get defs) same ∙ y.is in
    x.place ∙ ap (λ (o : Option TreeDef). place_in o) def_is ∙ sym y.place
  where
    place_in : Option TreeDef → ℕ
    place_in (Some def) = def.at
    place_in None = 0

-- either a cycle, or none and the first limit that is exceeded
data Kind (s : TreeSpec) : Option SoundnessFault → Type 0 where
  on_cycle : (at : ℕ) → CycleAt s.defs at → Kind s (Some (cycle at))
  limit : (fault : Option SoundnessFault) → HasNoCycle s.defs → limit_fault s ≡ fault → Kind s fault

kind_of : (s : TreeSpec) (fault : Option SoundnessFault) → IsFirstFault s fault → Kind s fault
kind_of s (Some (cycle at)) h = on_cycle at h
kind_of s (Some too_many_decls) h = limit (Some too_many_decls) h.0 h.1
kind_of s (Some too_many_words) h = limit (Some too_many_words) h.0 h.1
kind_of s (Some (root_too_heavy at)) h = limit (Some (root_too_heavy at)) h.0 h.1
kind_of s (Some spec_too_heavy) h = limit (Some spec_too_heavy) h.0 h.1
kind_of s None h = limit None h.0 h.1

one_kind : (s : TreeSpec) (a b : Option SoundnessFault) → Kind s a → Kind s b → a ≡ b
one_kind s a b (on_cycle at x) (on_cycle at' y) = ap (λ n. Some (cycle n)) (one_cycle s.defs at at' x y)
one_kind s a b (on_cycle at x) (limit fault free is) = absurd (free x.d x.on_cycle)
one_kind s a b (limit fault free is) (on_cycle at x) = absurd (free x.d x.on_cycle)
one_kind s a b (limit fault free is) (limit fault' free' is') = sym is ∙ is'

pub one_unsound : (s : TreeSpec) (a b : Option SoundnessFault) → IsFirstFault s a → IsFirstFault s b → a ≡ b
one_unsound s a b h k = one_kind s a b (kind_of s a h) (kind_of s b k)

-- ---- each stage has one value

one_scan : OneForest → (text : List ℕ) (f g : Forest) → Scans text f → Scans text g → forest_nodes f ≡ forest_nodes g
one_scan forests text f g a b = forests text (forest_nodes f) (forest_nodes g) a.is b.is

same_fault : (f g : Forest) → forest_nodes f ≡ forest_nodes g → shape_fault f ≡ shape_fault g
unfolding shape_fault
same_fault f g is = ap shape_fault_of is

one_shape : OneForest → OneSurface → (text : List ℕ) (s t : Surface) → Shapes text s → Shapes text t → s ≡ t
one_shape forests surfaces text s t a b =
    surfaces b.forest s t (subst (λ ns. AllMatch (more (form_of s) none) ns) (one_scan forests text a.forest b.forest a.scanned b.scanned) a.is) b.is a.kept b.kept

pub one_typed : OneForest → OneSurface → (text : List ℕ) (s t : SpecValue) → IsTypedText text s → IsTypedText text t → trees s ≡ trees t
one_typed forests surfaces text s t a b =
    a.trees_are ∙ ap spec_of (one_shape forests surfaces text a.surface b.surface a.shaped b.shaped) ∙ sym b.trees_are

-- ---- each stage has one fault, and none where it has a value

no_fault : {E : Type 0} (o : Option E) (e : E) → o ≡ None → o ≡ Some e → ⊥
no_fault o e h k = cc

-- a fault and its refusal
abbrev Told : {E : Type 0} → (E → Refusal) → Option E → Refusal → Type 0
Told {E} of o refusal = (e : E) × (o ≡ Some e) × (refusal ≡ of e)

told_once : {E : Type 0} (of : E → Refusal) (o : Option E) (a b : Refusal) → Told of o a → Told of o b → a ≡ b
told_once of o a b h k = h.2 ∙ ap of (same_Some h.0 k.0 (sym h.1 ∙ k.1)) ∙ sym k.2

not_told : {E : Type 0} (of : E → Refusal) (o : Option E) (a : Refusal) → o ≡ None → Told of o a → ⊥
not_told of o a none_is h = no_fault o h.0 none_is h.1

-- the fault of scanning, and what comes after it

scan_scan : (text : List ℕ) (a b : Refusal) → HasScanFault text a → HasScanFault text b → a ≡ b
scan_scan text a b h k = told_once of_scan (scan_fault text) a b h k

scan_scans : (text : List ℕ) (a : Refusal) (f : Forest) → HasScanFault text a → Scans text f → ⊥
scan_scans text a f h s = not_told of_scan (scan_fault text) a s.fault h

-- the fault of shape

shape_shape : OneForest → (text : List ℕ) (a b : Refusal) → HasShapeFault text a → HasShapeFault text b → a ≡ b
shape_shape forests text a b h k =
    told_once of_shape (shape_fault k.0) a b (subst (λ o. Told of_shape o a) (same_fault h.0 k.0 (one_scan forests text h.0 k.0 h.1 k.1)) (h.2, h.3, h.4)) (k.2, k.3, k.4)

shape_shapes : OneForest → (text : List ℕ) (a : Refusal) (s : Surface) → HasShapeFault text a → Shapes text s → ⊥
shape_shapes forests text a s h k =
    not_told of_shape (shape_fault h.0) a (same_fault h.0 k.forest (one_scan forests text h.0 k.forest h.1 k.scanned) ∙ k.fault) (h.2, h.3, h.4)

-- the fault of names and types

no_typing_fault : (s : Surface) → type_fault s ≡ None → first_typing_fault s ≡ None
no_typing_fault s faultless = ap (option_and_then typing_fault) faultless

type_type : OneForest → OneSurface → (text : List ℕ) (a b : Refusal) → HasTypeFault text a → HasTypeFault text b → a ≡ b
type_type forests surfaces text a b h k =
    told_once of_types (first_typing_fault k.0) a b (subst (λ s. Told of_types (first_typing_fault s) a) (one_shape forests surfaces text h.0 k.0 h.1 k.1) (h.2, h.3, h.4)) (k.2, k.3, k.4)

type_types : OneForest → OneSurface → (text : List ℕ) (a : Refusal) (s : SpecValue) → HasTypeFault text a → IsTypedText text s → ⊥
type_types forests surfaces text a s h k =
    not_told of_types (first_typing_fault h.0) a (no_typing_fault h.0 (ap type_fault (one_shape forests surfaces text h.0 k.surface h.1 k.shaped) ∙ k.fault)) (h.2, h.3, h.4)

-- the fault of soundness

sound_sound : OneForest → OneSurface → (text : List ℕ) (a b : Refusal) → HasSoundnessFault text a → HasSoundnessFault text b → a ≡ b
sound_sound forests surfaces text a b h k =
    let same : trees h.0 ≡ trees k.0 = one_typed forests surfaces text h.0 k.0 h.1 k.1 in
    let fault = one_unsound (trees k.0) (Some h.2) (Some k.2) (subst (λ t. IsFirstFault t (Some h.2)) same h.3) k.3 in
    h.4 ∙ ap of_soundness (same_Some h.2 k.2 fault) ∙ sym k.4

sound_means : OneForest → OneSurface → (text : List ℕ) (a : Refusal) (s : SpecValue) → HasSoundnessFault text a → Means text s → ⊥
sound_means forests surfaces text a s h k =
    let same : trees h.0 ≡ trees s = one_typed forests surfaces text h.0 s h.1 k.typed in
    no_fault (Some h.2) h.2 (one_unsound (trees s) (Some h.2) None (subst (λ t. IsFirstFault t (Some h.2)) same h.3) k.sound) refl

-- ---- the whole

scan_shaped : (text : List ℕ) (a : Refusal) (s : Surface) → HasScanFault text a → Shapes text s → ⊥
scan_shaped text a s h k = scan_scans text a k.forest h k.scanned

scan_after : (text : List ℕ) (a b : Refusal) → HasScanFault text a → HasShapeFault text b ⊎ HasTypeFault text b ⊎ HasSoundnessFault text b → ⊥
scan_after text a b h (inl k) = scan_scans text a k.0 h k.1
scan_after text a b h (inr (inl k)) = scan_shaped text a k.0 h k.1
scan_after text a b h (inr (inr k)) = scan_shaped text a k.1.surface h k.1.shaped

shape_after : OneForest → (text : List ℕ) (a b : Refusal) → HasShapeFault text a → HasTypeFault text b ⊎ HasSoundnessFault text b → ⊥
shape_after forests text a b h (inl k) = shape_shapes forests text a k.0 h k.1
shape_after forests text a b h (inr k) = shape_shapes forests text a k.1.surface h k.1.shaped

pub sound_texts : OneForest → OneSurface → (text : List ℕ) (s : SpecValue) (a : Refusal) → Means text s → HasFirstFault text a → ⊥
sound_texts forests surfaces text s a m (inl h) = scan_shaped text a m.typed.surface h m.typed.shaped
sound_texts forests surfaces text s a m (inr (inl h)) = shape_shapes forests text a m.typed.surface h m.typed.shaped
sound_texts forests surfaces text s a m (inr (inr (inl h))) = type_types forests surfaces text a s h m.typed
sound_texts forests surfaces text s a m (inr (inr (inr h))) = sound_means forests surfaces text a s h m

pub one_fault : OneForest → OneSurface → (text : List ℕ) (a b : Refusal) → HasFirstFault text a → HasFirstFault text b → a ≡ b
one_fault forests surfaces text a b (inl h) (inl k) = scan_scan text a b h k
one_fault forests surfaces text a b (inl h) (inr k) = absurd (scan_after text a b h k)
one_fault forests surfaces text a b (inr h) (inl k) = absurd (scan_after text b a k h)
one_fault forests surfaces text a b (inr (inl h)) (inr (inl k)) = shape_shape forests text a b h k
one_fault forests surfaces text a b (inr (inl h)) (inr (inr k)) = absurd (shape_after forests text a b h k)
one_fault forests surfaces text a b (inr (inr h)) (inr (inl k)) = absurd (shape_after forests text b a k h)
one_fault forests surfaces text a b (inr (inr (inl h))) (inr (inr (inl k))) = type_type forests surfaces text a b h k
one_fault forests surfaces text a b (inr (inr (inl h))) (inr (inr (inr k))) = absurd (type_types forests surfaces text a k.0 h k.1)
one_fault forests surfaces text a b (inr (inr (inr h))) (inr (inr (inl k))) = absurd (type_types forests surfaces text b h.0 k h.1)
one_fault forests surfaces text a b (inr (inr (inr h))) (inr (inr (inr k))) = sound_sound forests surfaces text a b h k
