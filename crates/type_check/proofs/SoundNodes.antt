-- Nodes over sound parts are sound, and have no more types than items.
use Rattle.std.proofs.Common.{◌≤◌, ◌+◌, ℕ, Bool, true, false, List, [], ◌∷◌, ◌++◌, length, length-append, sym, ap, ◌∙◌, subst, arith}
use Rattle.std.proofs.lemmas.List.Concat.{flat_map-cons}
use Rattle.spec_text.specs.declared.surface.TypeForm.{TypeForm}
use Rattle.type_check.specs.NamedType.{NamedType, Declarations}
use Rattle.type_check.specs.Judged.{Verdict, has, lacks, Judged, have_types, all_types, over_parts, judged, type_of, types_of, judge_form, elsewhere}
use Rattle.type_check.proofs.SoundTypes.{Sound, AllSound, IsBehind, sound_on, all_sound_on, Fits}

-- its type is sound, if it has one, as are the types that it adds, of which there are no more than so many
pub record IsSound (ds : Declarations) (j : Judged) (n : ℕ) : Type 0 where
  pub ty_is : Sound ds (type_of j)
  pub types_are : AllSound ds j.types
  pub few : length j.types ≤ n

pub record AreSound (ds : Declarations) (ps : List Judged) (n : ℕ) : Type 0 where
  pub tys_are : AllSound ds (types_of ps)
  pub types_are : AllSound ds (all_types ps)
  pub few : length (all_types ps) ≤ n

pub all_sound_append : (ds : Declarations) (ts us : List NamedType) → AllSound ds ts → AllSound ds us → AllSound ds (ts ++ us)
all_sound_append ds [] us h g = g
all_sound_append ds (t ∷ ts) us h g = (h.0, all_sound_append ds ts us h.1 g)

pub no_parts : (ds : Declarations) → AreSound ds [] 0
no_parts ds = record { tys_are = tt; types_are = tt; few = omega arith }

pub more_parts : (ds : Declarations) (p : Judged) (ps : List Judged) (m n : ℕ) → IsSound ds p m → AreSound ds ps n → AreSound ds (p ∷ ps) (m + n)
more_parts ds p ps m n h g = record {
  tys_are = (h.ty_is, g.tys_are);
  types_are = subst (AllSound ds) (sym (flat_map-cons (λ (q : Judged). q.types) p ps)) (all_sound_append ds p.types (all_types ps) h.types_are g.types_are);
  few = let e = ap length (flat_map-cons (λ (q : Judged). q.types) p ps) ∙ length-append p.types (all_types ps) in omega (arith, e, h.few, g.few);
}

node_if : (ds : Declarations) (ps : List Judged) (v : Verdict) (n k : ℕ) (b : Bool) → AreSound ds ps n → Fits ds v → n + 1 ≤ k → IsSound ds (over_parts b ps v) k
node_if ds ps v n k false h f e = record { ty_is = tt; types_are = h.types_are; few = omega (arith, h.few) }
node_if ds ps (has t) n k true h f e = record {
  ty_is = f;
  types_are = all_sound_append ds (all_types ps) (t ∷ []) h.types_are (f, tt);
  few = omega (arith, h.few, length-append (all_types ps) (t ∷ []));
}
node_if ds ps (lacks x) n k true h f e = record { ty_is = tt; types_are = h.types_are; few = omega (arith, h.few) }

pub node_sound : (ds : Declarations) (ps : List Judged) (v : Verdict) (n k : ℕ) → AreSound ds ps n → Fits ds v → n + 1 ≤ k → IsSound ds (judged ps v) k
node_sound ds ps v n k h f e = node_if ds ps v n k (have_types ps) h f e

pub leaf_sound : (ds : Declarations) (v : Verdict) (k : ℕ) → Fits ds v → 1 ≤ k → IsSound ds (judged [] v) k
leaf_sound ds v k f e = node_sound ds [] v 0 k (no_parts ds) f (omega arith)

pub over_one : (ds : Declarations) (a : Judged) (v : Verdict) (m k : ℕ) → IsSound ds a m → Fits ds v → m + 1 ≤ k → IsSound ds (judged (a ∷ []) v) k
over_one ds a v m k h f e = node_sound ds (a ∷ []) v (m + 0) k (more_parts ds a [] m 0 h (no_parts ds)) f (omega arith)

pub over_two : (ds : Declarations) (a b : Judged) (v : Verdict) (m n k : ℕ) → IsSound ds a m → IsSound ds b n → Fits ds v → m + n + 1 ≤ k → IsSound ds (judged (a ∷ b ∷ []) v) k
over_two ds a b v m n k h g f e = node_sound ds (a ∷ b ∷ []) v (m + (n + 0)) k (more_parts ds a (b ∷ []) m (n + 0) h (more_parts ds b [] n 0 g (no_parts ds))) f (omega arith)

pub over_three : (ds : Declarations) (a b c : Judged) (v : Verdict) (m n l k : ℕ) → IsSound ds a m → IsSound ds b n → IsSound ds c l → Fits ds v → m + n + l + 1 ≤ k → IsSound ds (judged (a ∷ b ∷ c ∷ []) v) k
over_three ds a b c v m n l k h g i f e =
    node_sound ds (a ∷ b ∷ c ∷ []) v (m + (n + (l + 0))) k (more_parts ds a (b ∷ c ∷ []) m (n + (l + 0)) h (more_parts ds b (c ∷ []) n (l + 0) g (more_parts ds c [] l 0 i (no_parts ds)))) f (omega arith)

-- behind other declarations
pub sound_behind : (ds all : Declarations) (j : Judged) (n : ℕ) → IsBehind ds all → IsSound ds j n → IsSound all j n
sound_behind ds all j n b h = record { ty_is = sound_on ds all b (type_of j) h.ty_is; types_are = all_sound_on ds all b j.types h.types_are; few = h.few }

-- a type that is written elsewhere adds none
pub elsewhere_sound : (ds : Declarations) (before : Declarations) (ty : TypeForm) (n : ℕ) → IsSound ds (judge_form before ty) n → IsSound ds (elsewhere before ty) 0
elsewhere_sound ds before ty n h = record { ty_is = h.ty_is; types_are = tt; few = omega arith }

pub sound_within : (ds : Declarations) (j : Judged) (n m : ℕ) → n ≤ m → IsSound ds j n → IsSound ds j m
sound_within ds j n m e h = record { ty_is = h.ty_is; types_are = h.types_are; few = omega (arith, h.few) }
