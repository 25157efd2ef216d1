-- Lowering leaves a plain specification as it is.
use Rattle.std.proofs.Common.{◌≡◌, ℕ, List, [], ◌∷◌, ◌++◌, length, map, append-nil, refl, sym, ap, ◌∙◌}
use Rattle.std.specs.List.{AllByRecursion}
use Rattle.stream_core.specs.Term.{Term, Terms, lit, extern, stream, def, named, missing, dropped, un, bin, shift, cast, and, or, implies, choose, index, field, array, struct, abs, sign, majority, agreed, lib, end, more, TreeSpec, TreeStream, TreeDef, TreeTrigger, TreeObserver, TreeLib, TreeRoot, root_with, without_defs}
use Rattle.stream_core.specs.Plain.{IsPlain, ArePlain, IsPlainTrigger, IsPlainSpec}
use Rattle.stream_core.specs.Lower.{lowered, lowered_terms, buffer_of, all_buffers, lowered_spec}
use Rattle.stream_core.specs.KeptLimits.{plain_form}
use Rattle.ring_codegen.proofs.Listing.{by_recursion}

module _ (at : ℕ → ℕ) where
  mutual
    plain_same : (a : Term) → IsPlain a → lowered at a ≡ a
    plain_same (lit s w) h = refl
    plain_same (extern x) h = refl
    plain_same (stream s) h = refl
    plain_same (def d) h = refl
    plain_same (named d a) h = ap (named d) (plain_same a h)
    plain_same missing h = refl
    plain_same (dropped s n) h = refl
    plain_same (un o s a) h = ap (un o s) (plain_same a h)
    plain_same (bin o s a b) h = λ j. bin o s (plain_same a h.0 j) (plain_same b h.1 j)
    plain_same (shift d s a cs b) h = λ j. shift d s (plain_same a h.0 j) cs (plain_same b h.1 j)
    plain_same (cast f t a) h = ap (cast f t) (plain_same a h)
    plain_same (and a b) h = λ j. and (plain_same a h.0 j) (plain_same b h.1 j)
    plain_same (or a b) h = λ j. or (plain_same a h.0 j) (plain_same b h.1 j)
    plain_same (implies a b) h = λ j. implies (plain_same a h.0 j) (plain_same b h.1 j)
    plain_same (choose c a b) h = λ j. choose (plain_same c h.0 j) (plain_same a h.1 j) (plain_same b h.2 j)
    plain_same (index t a b) h = λ j. index t (plain_same a h.0 j) (plain_same b h.1 j)
    plain_same (field t m a) h = ap (field t m) (plain_same a h)
    plain_same (array t es) h = ap (array t) (terms_same es h)
    plain_same (struct t es) h = ap (struct t) (terms_same es h)
    plain_same (abs s a) h = absurd h
    plain_same (sign s a) h = absurd h
    plain_same (majority s es) h = absurd h
    plain_same (agreed s es) h = absurd h
    plain_same (lib n form es) h = absurd h

    terms_same : (es : Terms) → ArePlain es → lowered_terms at es ≡ es
    terms_same end h = refl
    terms_same (more a es) h = λ j. more (plain_same a h.0 j) (terms_same es h.1 j)

map_still : {X : Type 0} (P : X → Type 0) (f : X → X) (xs : List X) → ((x : X) → P x → f x ≡ x) → AllByRecursion P xs → map f xs ≡ xs
map_still P f [] h g = refl
map_still P f (x ∷ xs) h g = λ j. h x g.0 j ∷ map_still P f xs h g.1 j

module _ (s : TreeSpec) (h : IsPlainSpec s) where
  abbrev low : Term → Term
  low a = lowered (buffer_of (length s.streams) s.libs) a

  abbrev low_stream : TreeStream → TreeStream
  low_stream x = record x { expr = low x.expr }

  abbrev low_def : TreeDef → TreeDef
  low_def x = record x { expr = low x.expr }

  abbrev low_trigger : TreeTrigger → TreeTrigger
  low_trigger x = record x { guard = root_with low x.guard; args = map (root_with low) x.args }

  abbrev low_observer : TreeObserver → TreeObserver
  low_observer x = record x { root = root_with low x.root }

  streams_still : map low_stream s.streams ++ all_buffers low 1 (length s.streams) s.libs ≡ s.streams
  streams_still =
      ap (λ (ls : List TreeLib). map low_stream s.streams ++ all_buffers low 1 (length s.streams) ls) h.libs
      ∙ append-nil (map low_stream s.streams)
      ∙ map_still (λ (x : TreeStream). IsPlain x.expr) low_stream s.streams (λ x p. ap (λ (a : Term). record x { expr = a }) (plain_same (buffer_of (length s.streams) s.libs) x.expr p)) (by_recursion (λ (x : TreeStream). IsPlain x.expr) s.streams h.streams)

  defs_still : map low_def s.defs ≡ s.defs
  defs_still = map_still (λ (x : TreeDef). IsPlain x.expr) low_def s.defs (λ x p. ap (λ (a : Term). record x { expr = a }) (plain_same (buffer_of (length s.streams) s.libs) x.expr p)) (by_recursion (λ (x : TreeDef). IsPlain x.expr) s.defs h.defs)

  root_still : (r : TreeRoot) → IsPlain r.expr → root_with low r ≡ r
  root_still r p = ap (λ (a : Term). record r { expr = a }) (plain_same (buffer_of (length s.streams) s.libs) r.expr p)

  trigger_still : (x : TreeTrigger) → IsPlainTrigger x → low_trigger x ≡ x
  trigger_still x p =
      let args = map_still (λ (r : TreeRoot). IsPlain r.expr) (root_with low) x.args root_still (by_recursion (λ (r : TreeRoot). IsPlain r.expr) x.args p.1) in
      λ j. record x { guard = root_still x.guard p.0 j; args = args j }

  triggers_still : map low_trigger s.triggers ≡ s.triggers
  triggers_still = map_still IsPlainTrigger low_trigger s.triggers trigger_still (by_recursion IsPlainTrigger s.triggers h.triggers)

  observers_still : map low_observer s.observers ≡ s.observers
  observers_still = map_still (λ (x : TreeObserver). IsPlain x.root.expr) low_observer s.observers (λ x p. ap (λ (r : TreeRoot). record x { root = r }) (root_still x.root p)) (by_recursion (λ (x : TreeObserver). IsPlain x.root.expr) s.observers h.observers)

  pub spec_still : lowered_spec s ≡ s
  spec_still = λ j. record {
    name = s.name;
    types = s.types;
    externs = s.externs;
    streams = streams_still j;
    defs = defs_still j;
    triggers = triggers_still j;
    observers = observers_still j;
    libs = sym h.libs j;
  }

  pub plain_form-is : plain_form s ≡ without_defs s
  plain_form-is = ap without_defs spec_still
