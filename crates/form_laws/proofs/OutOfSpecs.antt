-- Defs are written out of what a specification is lowered to as out of the specification.
use Rattle.std.proofs.Common.{◌≡◌, ℕ, zero, suc, ◌+◌, List, [], ◌∷◌, ◌++◌, length, map, refl, sym, ap, ◌∙◌}
use Rattle.std.specs.Prelude.{slice_get}
use Rattle.stream_core.specs.Term.{Term, Terms, lit, extern, stream, def, named, missing, dropped, un, bin, shift, cast, and, or, implies, choose, index, field, array, struct, abs, sign, majority, agreed, lib, end, more, TreeSpec, TreeStream, TreeDef, TreeTrigger, TreeObserver, TreeLib, TreeRoot, with_defs, all_with_defs, def_at, def_to, written_out, root_with, without_defs}
use Rattle.stream_core.specs.Lower.{lowered, lowered_terms, lowered_all, lowered_spec, buffer_of, buffers, buffers_of, all_buffers, majority_term, agreed_term, form_term}
use Rattle.form_laws.proofs.OutOfForms.{sign_out, majority_out, agreed_out, form_out, buffers_out}

pub pointwise : {A B : Type 0} (f g : A → B) → ((x : A) → f x ≡ g x) → f ≡ g
pointwise f g h = λ i x. h x i

pub map_twice : {A B C : Type 0} (f : B → C) (g : A → B) (xs : List A) → map f (map g xs) ≡ map (λ x. f (g x)) xs
map_twice f g [] = refl
map_twice f g (x ∷ xs) = ap (λ r. f (g x) ∷ r) (map_twice f g xs)

pub map_append : {A B : Type 0} (f : A → B) (xs ys : List A) → map f (xs ++ ys) ≡ map f xs ++ map f ys
map_append f [] ys = refl
map_append f (x ∷ xs) ys = ap (λ r. f x ∷ r) (map_append f xs ys)

pub map_length : {A B : Type 0} (f : A → B) (xs : List A) → length (map f xs) ≡ length xs
map_length f [] = refl
map_length f (x ∷ xs) = ap suc (map_length f xs)

pub map_alike : {A B : Type 0} (f g : A → B) (xs : List A) → ((x : A) → f x ≡ g x) → map f xs ≡ map g xs
map_alike f g xs h = ap (λ k. map k xs) (pointwise f g h)

-- ---- expressions

module _ (at : ℕ → ℕ) (F G : ℕ → Term) (same : (d : ℕ) → lowered at (F d) ≡ G d) where
  mutual
    pub lowered_out : (e : Term) → lowered at (with_defs F e) ≡ with_defs G (lowered at e)
    lowered_out (lit s w) = refl
    lowered_out (extern x) = refl
    lowered_out (stream s) = refl
    lowered_out (def d) = ap (named d) (same d)
    lowered_out (named d a) = ap (named d) (lowered_out a)
    lowered_out missing = refl
    lowered_out (dropped s k) = refl
    lowered_out (un o s a) = let p = lowered_out a in cc
    lowered_out (bin o s a b) = let p = lowered_out a in let q = lowered_out b in cc
    lowered_out (shift d s a cs b) = let p = lowered_out a in let q = lowered_out b in cc
    lowered_out (cast f t a) = let p = lowered_out a in cc
    lowered_out (and a b) = let p = lowered_out a in let q = lowered_out b in cc
    lowered_out (or a b) = let p = lowered_out a in let q = lowered_out b in cc
    lowered_out (implies a b) = let p = lowered_out a in let q = lowered_out b in cc
    lowered_out (choose c a b) = let p = lowered_out a in let q = lowered_out b in let r = lowered_out c in cc
    lowered_out (index t a b) = let p = lowered_out a in let q = lowered_out b in cc
    lowered_out (field t m a) = let p = lowered_out a in cc
    lowered_out (array t es) = let p = terms_out es in cc
    lowered_out (struct t es) = let p = terms_out es in cc
    lowered_out (abs s a) = let p = lowered_out a in cc
    lowered_out (sign s a) = let p = lowered_out a in let q = sign_out G s (lowered at a) in cc
    lowered_out (majority s es) = ap (majority_term s) (list_out es) ∙ sym (majority_out G s (lowered_all at es))
    lowered_out (agreed s es) = ap (agreed_term s) (list_out es) ∙ sym (agreed_out G s (lowered_all at es))
    lowered_out (lib k form es) = ap (form_term form (at k)) (list_out es) ∙ sym (form_out G form (at k) (lowered_all at es))

    terms_out : (es : Terms) → lowered_terms at (all_with_defs F es) ≡ all_with_defs G (lowered_terms at es)
    terms_out end = refl
    terms_out (more a es) = let p = lowered_out a in let q = terms_out es in cc

    list_out : (es : Terms) → lowered_all at (all_with_defs F es) ≡ map (with_defs G) (lowered_all at es)
    list_out end = refl
    list_out (more a es) = let p = lowered_out a in let q = list_out es in cc

-- ---- defs

abbrev pub lowered_def : (ℕ → ℕ) → TreeDef → TreeDef
lowered_def at x = record x { expr = lowered at x.expr }

module _ (at : ℕ → ℕ) (defs : List TreeDef) where
  def_at_out : (F G : ℕ → Term) → ((d : ℕ) → lowered at (F d) ≡ G d) → (xs : List TreeDef) (d : ℕ) → lowered at (def_at F (slice_get xs d)) ≡ def_at G (slice_get (map (lowered_def at) xs) d)
  def_at_out F G same [] d = refl
  def_at_out F G same (x ∷ xs) zero = lowered_out at F G same x.expr
  def_at_out F G same (x ∷ xs) (suc d) = def_at_out F G same xs d

  def_to_out : (n d : ℕ) → lowered at (def_to defs n d) ≡ def_to (map (lowered_def at) defs) n d
  def_to_out zero d = refl
  def_to_out (suc n) d = def_at_out (def_to defs n) (def_to (map (lowered_def at) defs) n) (λ c. def_to_out n c) defs d

  pub written_lowered : (e : Term) → lowered at (written_out defs e) ≡ written_out (map (lowered_def at) defs) (lowered at e)
  written_lowered e =
      lowered_out at (def_to defs (length defs)) (def_to (map (lowered_def at) defs) (length defs)) (def_to_out (length defs)) e
      ∙ ap (λ n. with_defs (def_to (map (lowered_def at) defs) n) (lowered at e)) (sym (map_length (lowered_def at) defs))

-- ---- specifications

abbrev pub lib_out : (Term → Term) → TreeLib → TreeLib
lib_out f x = record x { args = map f x.args }

buffer_same : (f : Term → Term) (n : ℕ) (xs : List TreeLib) (k : ℕ) → buffer_of n (map (lib_out f) xs) k ≡ buffer_of n xs k
buffer_same f n [] k = refl
buffer_same f n (x ∷ xs) zero = refl
buffer_same f n (x ∷ xs) (suc k) = buffer_same f (n + buffers x.form) xs k

module _ (s : TreeSpec) where
  abbrev at : ℕ → ℕ
  at = buffer_of (length s.streams) s.libs

  abbrev first : Term → Term
  first e = written_out s.defs e

  abbrev then : Term → Term
  then e = written_out (map (lowered_def at) s.defs) e

  streams_length : length (map (λ (x : TreeStream). record x { expr = first x.expr }) s.streams) ≡ length s.streams
  streams_length = map_length _ s.streams

  at_same : buffer_of (length (without_defs s).streams) (without_defs s).libs ≡ at
  at_same = ap (λ n. buffer_of n (without_defs s).libs) streams_length ∙ pointwise _ _ (buffer_same first (length s.streams) s.libs)

  each : (e : Term) → lowered at (first e) ≡ then (lowered at e)
  each e = written_lowered at s.defs e

  root_each : (r : TreeRoot) → root_with (lowered at) (root_with first r) ≡ root_with then (root_with (lowered at) r)
  root_each r = ap (λ e. root_with (λ x. e) r) (each r.expr)

  roots_each : (rs : List TreeRoot) → map (root_with (lowered at)) (map (root_with first) rs) ≡ map (root_with then) (map (root_with (lowered at)) rs)
  roots_each rs = map_twice (root_with (lowered at)) (root_with first) rs ∙ map_alike _ _ rs root_each ∙ sym (map_twice (root_with then) (root_with (lowered at)) rs)

  abbrev stream_with : (Term → Term) → TreeStream → TreeStream
  stream_with f x = record x { expr = f x.expr }

  abbrev trigger_with : (Term → Term) → TreeTrigger → TreeTrigger
  trigger_with f x = record x { guard = root_with f x.guard; args = map (root_with f) x.args }

  abbrev observer_with : (Term → Term) → TreeObserver → TreeObserver
  observer_with f x = record x { root = root_with f x.root }

  streams_each : (xs : List TreeStream) → map (stream_with (lowered at)) (map (stream_with first) xs) ≡ map (stream_with then) (map (stream_with (lowered at)) xs)
  streams_each xs = map_twice _ _ xs ∙ map_alike _ _ xs (λ x. ap (λ e. stream_with (λ y. e) x) (each x.expr)) ∙ sym (map_twice _ _ xs)

  trigger_each : (x : TreeTrigger) → trigger_with (lowered at) (trigger_with first x) ≡ trigger_with then (trigger_with (lowered at) x)
  trigger_each x = ap (λ g. record x { guard = g; args = map (root_with (lowered at)) (map (root_with first) x.args) }) (root_each x.guard) ∙ ap (λ rs. record x { guard = root_with then (root_with (lowered at) x.guard); args = rs }) (roots_each x.args)

  triggers_each : (xs : List TreeTrigger) → map (trigger_with (lowered at)) (map (trigger_with first) xs) ≡ map (trigger_with then) (map (trigger_with (lowered at)) xs)
  triggers_each xs = map_twice _ _ xs ∙ map_alike _ _ xs trigger_each ∙ sym (map_twice _ _ xs)

  observers_each : (xs : List TreeObserver) → map (observer_with (lowered at)) (map (observer_with first) xs) ≡ map (observer_with then) (map (observer_with (lowered at)) xs)
  observers_each xs = map_twice _ _ xs ∙ map_alike _ _ xs (λ x. ap (λ r. record x { root = r }) (root_each x.root)) ∙ sym (map_twice _ _ xs)

  args_each : (es : List Term) → map (lowered at) (map first es) ≡ map then (map (lowered at) es)
  args_each es = map_twice _ _ es ∙ map_alike _ _ es each ∙ sym (map_twice _ _ es)

  buffers_each : (number b : ℕ) (xs : List TreeLib) → all_buffers (lowered at) number b (map (lib_out first) xs) ≡ map (stream_with then) (all_buffers (lowered at) number b xs)
  buffers_each number b [] = refl
  buffers_each number b (x ∷ xs) =
      ap (λ es. buffers_of x.form number b x.at es ++ all_buffers (lowered at) (number + buffers x.form) (b + buffers x.form) (map (lib_out first) xs)) (args_each x.args)
      ∙ ap (λ ys. ys ++ all_buffers (lowered at) (number + buffers x.form) (b + buffers x.form) (map (lib_out first) xs)) (buffers_out (def_to (map (lowered_def at) s.defs) (length (map (lowered_def at) s.defs))) x.form number b x.at (map (lowered at) x.args))
      ∙ ap (λ ys. map (stream_with then) (buffers_of x.form number b x.at (map (lowered at) x.args)) ++ ys) (buffers_each (number + buffers x.form) (b + buffers x.form) xs)
      ∙ sym (map_append (stream_with then) (buffers_of x.form number b x.at (map (lowered at) x.args)) (all_buffers (lowered at) (number + buffers x.form) (b + buffers x.form) xs))

  abbrev spec_by : (ℕ → ℕ) → ℕ → TreeSpec
  spec_by a n = record {
    name = s.name;
    types = s.types;
    externs = s.externs;
    streams = map (stream_with (lowered a)) (map (stream_with first) s.streams) ++ all_buffers (lowered a) 1 n (map (lib_out first) s.libs);
    defs = map (lowered_def a) s.defs;
    triggers = map (trigger_with (lowered a)) (map (trigger_with first) s.triggers);
    observers = map (observer_with (lowered a)) (map (observer_with first) s.observers);
    libs = [];
  }

  abbrev parts : List TreeStream → List TreeTrigger → List TreeObserver → TreeSpec
  parts ss ts os = record { name = s.name; types = s.types; externs = s.externs; streams = ss; defs = map (lowered_def at) s.defs; triggers = ts; observers = os; libs = [] }

  streams_all : map (stream_with (lowered at)) (map (stream_with first) s.streams) ++ all_buffers (lowered at) 1 (length s.streams) (map (lib_out first) s.libs) ≡ map (stream_with then) (map (stream_with (lowered at)) s.streams ++ all_buffers (lowered at) 1 (length s.streams) s.libs)
  streams_all =
      ap (λ xs. xs ++ all_buffers (lowered at) 1 (length s.streams) (map (lib_out first) s.libs)) (streams_each s.streams)
      ∙ ap (λ xs. map (stream_with then) (map (stream_with (lowered at)) s.streams) ++ xs) (buffers_each 1 (length s.streams) s.libs)
      ∙ sym (map_append (stream_with then) (map (stream_with (lowered at)) s.streams) (all_buffers (lowered at) 1 (length s.streams) s.libs))

  pub commutes : lowered_spec (without_defs s) ≡ without_defs (lowered_spec s)
  commutes =
      ap (λ a. spec_by a (length (without_defs s).streams)) at_same
      ∙ ap (spec_by at) streams_length
      ∙ ap (λ xs. parts xs (map (trigger_with (lowered at)) (map (trigger_with first) s.triggers)) (map (observer_with (lowered at)) (map (observer_with first) s.observers))) streams_all
      ∙ ap (λ xs. parts (map (stream_with then) (map (stream_with (lowered at)) s.streams ++ all_buffers (lowered at) 1 (length s.streams) s.libs)) xs (map (observer_with (lowered at)) (map (observer_with first) s.observers))) (triggers_each s.triggers)
      ∙ ap (λ xs. parts (map (stream_with then) (map (stream_with (lowered at)) s.streams ++ all_buffers (lowered at) 1 (length s.streams) s.libs)) (map (trigger_with then) (map (trigger_with (lowered at)) s.triggers)) xs) (observers_each s.observers)
