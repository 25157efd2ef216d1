-- No first fault: no cycle, few declarations, and the limits of the plain form.
use Rattle.std.proofs.Common.{◌≡◌, ◌⊎◌, ⊎_elim, inl, inr, ℕ, suc, ◌+◌, ◌≤◌, Bool, true, false, if◌then◌else◌, List, [], ◌∷◌, ◌++◌, length, map, take, drop, Option, Some, None, refl, sym, ap, ◌∙◌, subst, arith}
use Rattle.std.specs.Prelude.{nat_lt, sum, All}
use Rattle.std.specs.List.{AllByRecursion}
use Rattle.std.proofs.lemmas.Bool.{cases_lt, ltb-true, lt-ltb}
use Rattle.std.proofs.lemmas.List.{take-append-drop}
use Rattle.sm_io.proofs.Elements.{all_by_place}
use Rattle.stream_types.specs.Types.{words}
use Rattle.stream_core.specs.declared.spec.ExternItem.{ExternItem}
use Rattle.stream_core.specs.Term.{Term, TreeSpec, TreeStream, TreeTrigger, TreeObserver, written_out}
use Rattle.stream_core.specs.Lower.{lowered_spec}
use Rattle.stream_core.specs.Limits.{plain_weight, weight}
use Rattle.stream_core.specs.Soundness.{too_many_decls, too_many_words, spec_too_heavy, declarations, total_words, Load, root_load, stream_load, trigger_loads, declared_loads, buffer_loads, heavy_places, first_of_heavy, heavy_root, weight_fault, limit_fault}
use Rattle.stream_core.specs.KeptLimits.{plain_form, words_of_plain, IsLight, IsLightTrigger, KeepsLimits}

-- ---- tests

at_most : (n k : ℕ) → nat_lt n k ≡ false → k ≤ n
at_most n k h = ⊎_elim (λ lt. let t = lt-ltb n k lt in absurd (cc)) (λ le. le) (cases_lt n k)

not_below : (n k : ℕ) → k ≤ n → nat_lt n k ≡ false
not_below n k le = ⊎_elim (λ (t : nat_lt n k ≡ true). let lt = ltb-true n k t in absurd (omega (arith, lt, le))) (λ f. f) (either (nat_lt n k))
  where
    either : (b : Bool) → (b ≡ true) ⊎ (b ≡ false)
    either true = inl refl
    either false = inr refl

if_none : {X : Type 0} (b : Bool) (x : X) (o : Option X) → (if b then Some x else o) ≡ None → (b ≡ false) × (o ≡ None)
if_none true x o e = absurd (cc)
if_none false x o e = (refl, e)

none_if : {X : Type 0} (b : Bool) (x : X) (o : Option X) → b ≡ false → o ≡ None → (if b then Some x else o) ≡ None
none_if true x o p e = absurd (cc)
none_if false x o p e = e

-- ---- lists

by_each : {X : Type 0} (P : X → Type 0) (xs : List X) → All P xs → AllByRecursion P xs
by_each P [] h = tt
by_each P (x ∷ xs) h = (h 0 x (omega arith), by_each P xs (λ k d b. h (suc k) d (omega (arith, b))))

of_both : {X : Type 0} (P : X → Type 0) (xs ys : List X) → AllByRecursion P (xs ++ ys) → AllByRecursion P xs × AllByRecursion P ys
of_both P [] ys h = (tt, h)
of_both P (x ∷ xs) ys h = let r = of_both P xs ys h.1 in ((h.0, r.0), r.1)

in_both : {X : Type 0} (P : X → Type 0) (xs ys : List X) → AllByRecursion P xs → AllByRecursion P ys → AllByRecursion P (xs ++ ys)
in_both P [] ys p q = q
in_both P (x ∷ xs) ys p q = (p.0, in_both P xs ys p.1 q)

of_map : {X Y : Type 0} (P : Y → Type 0) (f : X → Y) (xs : List X) → AllByRecursion P (map f xs) → AllByRecursion (λ x. P (f x)) xs
of_map P f [] h = tt
of_map P f (x ∷ xs) h = (h.0, of_map P f xs h.1)

in_map : {X Y : Type 0} (P : Y → Type 0) (f : X → Y) (xs : List X) → AllByRecursion (λ x. P (f x)) xs → AllByRecursion P (map f xs)
in_map P f [] h = tt
in_map P f (x ∷ xs) h = (h.0, in_map P f xs h.1)

-- ---- heavy roots

abbrev Fits : Load → Type 0
Fits l = l.heavy ≤ 2048

none_heavy : (ls : List Load) → heavy_places ls ≡ [] → AllByRecursion Fits ls
none_heavy [] h = tt
none_heavy (l ∷ ls) h = by (λ q. none_heavy ls q) (nat_lt 2048 l.heavy) refl h
  where
    by : (heavy_places ls ≡ [] → AllByRecursion Fits ls) → (b : Bool) → nat_lt 2048 l.heavy ≡ b → (if b then l.at ∷ heavy_places ls else heavy_places ls) ≡ [] → AllByRecursion Fits (l ∷ ls)
    by rest true e q = absurd (cc)
    by rest false e q = (at_most 2048 l.heavy e, rest q)

heavy_none : (ls : List Load) → AllByRecursion Fits ls → heavy_places ls ≡ []
heavy_none [] h = refl
heavy_none (l ∷ ls) h = ap (λ b. if b then l.at ∷ heavy_places ls else heavy_places ls) (not_below 2048 l.heavy h.0) ∙ heavy_none ls h.1

no_first : (as_ bs : List ℕ) → first_of_heavy as_ bs ≡ None → (as_ ≡ []) × (bs ≡ [])
no_first [] [] h = (refl, refl)
no_first [] (b ∷ bs) h = absurd (cc)
no_first (a ∷ as_) bs h = absurd (cc)

of_triggers : (xs : List TreeTrigger) → AllByRecursion Fits (trigger_loads xs) → AllByRecursion IsLightTrigger xs
of_triggers [] h = tt
of_triggers (x ∷ xs) h =
    let r = of_both Fits (map root_load x.args) (trigger_loads xs) h.1 in
    (record { guard = h.0; args = all_by_place IsLight x.args (of_map Fits root_load x.args r.0) }, of_triggers xs r.1)

in_triggers : (xs : List TreeTrigger) → AllByRecursion IsLightTrigger xs → AllByRecursion Fits (trigger_loads xs)
in_triggers [] h = tt
in_triggers (x ∷ xs) h = (h.0.guard, in_both Fits (map root_load x.args) (trigger_loads xs) (in_map Fits root_load x.args (by_each IsLight x.args h.0.args)) (in_triggers xs h.1))

-- ---- the words of the plain form

same_words : (out : Term → Term) (xs : List TreeStream) → map (λ (x : TreeStream). length x.init) (map (λ (x : TreeStream). record x { expr = out x.expr }) xs) ≡ map (λ (x : TreeStream). length x.init) xs
same_words out [] = refl
same_words out (x ∷ xs) = ap (λ ns. length x.init ∷ ns) (same_words out xs)

plain_words : (s : TreeSpec) → words_of_plain (plain_form s) ≡ total_words s
plain_words s = ap (λ ns. sum ns + sum (map (λ (x : ExternItem). words s.types x.ty) s.externs)) (same_words (written_out (lowered_spec s).defs) (lowered_spec s).streams)

-- ---- the limits

module _ (s : TreeSpec) where
  abbrev p : TreeSpec
  p = plain_form s

  abbrev n : ℕ
  n = length s.streams

  abbrev Stream : TreeStream → Type 0
  Stream x = plain_weight x.expr ≤ 2048

  abbrev Observer : TreeObserver → Type 0
  Observer x = IsLight x.root

  abbrev observer_load : TreeObserver → Load
  observer_load x = root_load x.root

  light : heavy_root s ≡ None → All IsLightTrigger p.triggers × All Observer p.observers × All Stream p.streams
  light h =
      let e = no_first (heavy_places (declared_loads n p)) (heavy_places (buffer_loads n p)) h in
      let a = of_both Fits (trigger_loads p.triggers ++ map observer_load p.observers) (map stream_load (take n p.streams)) (none_heavy (declared_loads n p) e.0) in
      let b = of_both Fits (trigger_loads p.triggers) (map observer_load p.observers) a.0 in
      let own = of_map Fits stream_load (take n p.streams) a.1 in
      let buffers = of_map Fits stream_load (drop n p.streams) (none_heavy (buffer_loads n p) e.1) in
      let all = subst (AllByRecursion Stream) (take-append-drop n p.streams) (in_both Stream (take n p.streams) (drop n p.streams) own buffers) in
      (all_by_place IsLightTrigger p.triggers (of_triggers p.triggers b.0), all_by_place Observer p.observers (of_map Fits observer_load p.observers b.1), all_by_place Stream p.streams all)

  not_heavy : All IsLightTrigger p.triggers → All Observer p.observers → All Stream p.streams → heavy_root s ≡ None
  not_heavy triggers observers streams =
      let all = subst (AllByRecursion Stream) (sym (take-append-drop n p.streams)) (by_each Stream p.streams streams) in
      let parts = of_both Stream (take n p.streams) (drop n p.streams) all in
      let own = in_map Fits stream_load (take n p.streams) parts.0 in
      let seen = in_map Fits observer_load p.observers (by_each Observer p.observers observers) in
      let called = in_triggers p.triggers (by_each IsLightTrigger p.triggers triggers) in
      let declared = in_both Fits (trigger_loads p.triggers ++ map observer_load p.observers) (map stream_load (take n p.streams)) (in_both Fits (trigger_loads p.triggers) (map observer_load p.observers) called seen) own in
      ap (λ as_. first_of_heavy as_ (heavy_places (buffer_loads n p))) (heavy_none (declared_loads n p) declared)
      ∙ ap (first_of_heavy []) (heavy_none (buffer_loads n p) (in_map Fits stream_load (drop n p.streams) parts.1))

  no_weight : (o : Option ℕ) → heavy_root s ≡ o → weight_fault s o ≡ None → (heavy_root s ≡ None) × (weight s ≤ 262144)
  no_weight None e h = let q = if_none (nat_lt 262144 (weight s)) spec_too_heavy None h in (e, at_most 262144 (weight s) q.0)
  no_weight (Some at) e h = absurd (cc)

  pub within : limit_fault s ≡ None → (declarations s ≤ 4096) × KeepsLimits p
  within h =
      let a = if_none (nat_lt 4096 (declarations s)) too_many_decls (if nat_lt 262144 (total_words s) then Some too_many_words else weight_fault s (heavy_root s)) h in
      let b = if_none (nat_lt 262144 (total_words s)) too_many_words (weight_fault s (heavy_root s)) a.1 in
      let c = no_weight (heavy_root s) refl b.1 in
      let l = light c.0 in
      let w = at_most 262144 (total_words s) b.0 in
      (at_most 4096 (declarations s) a.0, record { words = subst (λ k. k ≤ 262144) (sym (plain_words s)) w; streams = l.2; triggers = l.0; observers = l.1; whole = c.1 })

  pub without : declarations s ≤ 4096 → KeepsLimits p → limit_fault s ≡ None
  without few k =
      let e = not_heavy k.triggers k.observers k.streams in
      let light_ = ap (weight_fault s) e ∙ none_if (nat_lt 262144 (weight s)) spec_too_heavy None (not_below 262144 (weight s) k.whole) refl in
      none_if (nat_lt 4096 (declarations s)) too_many_decls (if nat_lt 262144 (total_words s) then Some too_many_words else weight_fault s (heavy_root s)) (not_below 4096 (declarations s) few)
      (none_if (nat_lt 262144 (total_words s)) too_many_words (weight_fault s (heavy_root s)) (not_below 262144 (total_words s) (subst (λ w. w ≤ 262144) (plain_words s) k.words)) light_)
