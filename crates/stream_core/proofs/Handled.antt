-- Each handler stands once, and each trigger's name is its handler's.
use Rattle.std.proofs.Common.{◌≡◌, ◌⊎◌, ⊎_elim, inl, inr, append-nil, append_assoc, ℕ, zero, suc, ◌+◌, Bool, true, false, List, [], ◌∷◌, ◌++◌, Some, refl, sym, ap, ◌∙◌, subst, arith}
use Rattle.std.specs.Prelude.{slice_get, nat_eq, not, ◌||◌, if◌then◌else◌}
use Rattle.std.specs.List.{list_any, position_or_len}
use Rattle.std.specs.Cmp.Lexicographic.{pointwise, nat_list_eq_equiv}
use Rattle.stream_types.proofs.GrownLists.{get_push}
use Rattle.stream_core.specs.Term.{TreeSpec, TreeTrigger}
use Rattle.stream_core.specs.Handlers.{handlers_after, handlers, trigger_name, handler_of}
use Rattle.stream_core.proofs.NodesOnce.{none_passes}
use Rattle.stream_core.proofs.SameNode.{list_same}
use Rattle.sm_io.proofs.Truths.{or_passes}

-- a name that is written so
abbrev is_name : List ℕ → List ℕ → Bool
is_name name = pointwise nat_eq name

-- the names after a trigger
abbrev with_name : List (List ℕ) → List ℕ → List (List ℕ)
with_name seen name = if list_any (is_name name) seen then seen else seen ++ name ∷ []

-- ---- once

abbrev Once : List (List ℕ) → Type 0
Once names = (i j : ℕ) (name : List ℕ) → slice_get names i ≡ Some name → slice_get names j ≡ Some name → i ≡ j

once_more : (seen : List (List ℕ)) (name : List ℕ) → Once seen → ((i : ℕ) → slice_get seen i ≡ Some name → ⊥) → Once (seen ++ name ∷ [])
once_more seen name once new i j m e f = ⊎_elim
    (λ front. ⊎_elim (λ other. once i j m front.1 other.1) (λ last. absurd (new i (front.1 ∙ ap Some (sym last.1)))) (get_push seen name m j f))
    (λ last. ⊎_elim (λ other. absurd (new j (other.1 ∙ ap Some (sym last.1)))) (λ again. last.0 ∙ sym again.0) (get_push seen name m j f))
    (get_push seen name m i e)

once_with : (seen : List (List ℕ)) (name : List ℕ) → Once seen → Once (with_name seen name)
once_with seen name once = by (list_any (is_name name) seen) refl
  where
    by : (b : Bool) → list_any (is_name name) seen ≡ b → Once (if b then seen else seen ++ name ∷ [])
    by true e = once
    by false e = once_more seen name once (λ i f. let n = none_passes (is_name name) seen e i name f in let t = nat_list_eq_equiv.refl name in absurd (cc))

once_after : (seen : List (List ℕ)) (xs : List TreeTrigger) → Once seen → Once (handlers_after seen xs)
once_after seen [] once = once
once_after seen (x ∷ xs) once = once_after (with_name seen x.name) xs (once_with seen x.name once)

-- no two handlers have one name
pub handlers_once : (s : TreeSpec) → Once (handlers s)
handlers_once s = once_after [] s.triggers (λ i j m e f. absurd (cc))

-- ---- each there

front_any : (p : List ℕ → Bool) (xs ys : List (List ℕ)) → list_any p xs ≡ true → list_any p (xs ++ ys) ≡ true
front_any p [] ys h = absurd (cc)
front_any p (x ∷ xs) ys h = by (λ h. front_any p xs ys h) (p x) h
  where
    by : (list_any p xs ≡ true → list_any p (xs ++ ys) ≡ true) → (b : Bool) → (b || list_any p xs) ≡ true → (b || list_any p (xs ++ ys)) ≡ true
    by rest true h = refl
    by rest false h = rest h

last_any : (p : List ℕ → Bool) (xs : List (List ℕ)) (y : List ℕ) → p y ≡ true → list_any p (xs ++ y ∷ []) ≡ true
last_any p [] y h = ap (λ b. b || false) h
last_any p (x ∷ xs) y h = or_passes (p x) (list_any p (xs ++ y ∷ [])) (last_any p xs y h)

with_any : (p : List ℕ → Bool) (seen : List (List ℕ)) (name : List ℕ) → list_any p seen ≡ true → list_any p (with_name seen name) ≡ true
with_any p seen name h = by (list_any (is_name name) seen)
  where
    by : (b : Bool) → list_any p (if b then seen else seen ++ name ∷ []) ≡ true
    by true = h
    by false = front_any p seen (name ∷ []) h

own_any : (seen : List (List ℕ)) (name : List ℕ) → list_any (is_name name) (with_name seen name) ≡ true
own_any seen name = by (list_any (is_name name) seen) refl
  where
    by : (b : Bool) → list_any (is_name name) seen ≡ b → list_any (is_name name) (if b then seen else seen ++ name ∷ []) ≡ true
    by true e = e
    by false e = last_any (is_name name) seen name (nat_list_eq_equiv.refl name)

stays_any : (p : List ℕ → Bool) (seen : List (List ℕ)) (xs : List TreeTrigger) → list_any p seen ≡ true → list_any p (handlers_after seen xs) ≡ true
stays_any p seen [] h = h
stays_any p seen (x ∷ xs) h = stays_any p (with_name seen x.name) xs (with_any p seen x.name h)

each_any : (seen : List (List ℕ)) (xs : List TreeTrigger) (i : ℕ) (x : TreeTrigger) → slice_get xs i ≡ Some x → list_any (is_name x.name) (handlers_after seen xs) ≡ true
each_any seen [] i x e = absurd (cc)
each_any seen (y ∷ xs) zero x e =
    let is : y ≡ x = cc in
    subst (λ (z : TreeTrigger). list_any (is_name z.name) (handlers_after (with_name seen y.name) xs) ≡ true) is (stays_any (is_name y.name) (with_name seen y.name) xs (own_any seen y.name))
each_any seen (y ∷ xs) (suc i) x e = each_any (with_name seen y.name) xs i x e

-- the first that passes is there and passes
first_passes : (p : List ℕ → Bool) (xs : List (List ℕ)) → list_any p xs ≡ true → (y : List ℕ) × (slice_get xs (position_or_len p xs) ≡ Some y) × (p y ≡ true)
first_passes p [] h = absurd (cc)
first_passes p (x ∷ xs) h = by (λ h. first_passes p xs h) (p x) refl h
  where
    by : (list_any p xs ≡ true → (y : List ℕ) × (slice_get xs (position_or_len p xs) ≡ Some y) × (p y ≡ true)) → (b : Bool) → p x ≡ b → (b || list_any p xs) ≡ true → (y : List ℕ) × (slice_get (x ∷ xs) (if not b then 1 + position_or_len p xs else 0) ≡ Some y) × (p y ≡ true)
    by rest true e h = (x, refl, e)
    by rest false e h =
        let r = rest h in
        let at : 1 + position_or_len p xs ≡ suc (position_or_len p xs) = omega arith in
        (r.0, ap (slice_get (x ∷ xs)) at ∙ r.1, r.2)

-- the handler of a trigger has the trigger's name
pub handler_named : (s : TreeSpec) (i : ℕ) (x : TreeTrigger) → slice_get s.triggers i ≡ Some x → slice_get (handlers s) (handler_of s i) ≡ Some x.name
handler_named s i x e =
    let p = first_passes (is_name x.name) (handlers s) (each_any [] s.triggers i x e) in
    ap (λ o. slice_get (handlers s) (position_or_len (is_name (trigger_name o)) (handlers s))) e ∙ p.1 ∙ ap Some (sym (list_same x.name p.0 p.2))

-- ---- each a trigger's

-- a trigger of this name
pub record IsTriggerOf (xs : List TreeTrigger) (name : List ℕ) : Type 0 where
  pub place : ℕ
  pub item : TreeTrigger
  pub is : slice_get xs place ≡ Some item
  pub named : item.name ≡ name

seen_or_named : (seen : List (List ℕ)) (xs : List TreeTrigger) (i : ℕ) (name : List ℕ) → slice_get (handlers_after seen xs) i ≡ Some name
    → ((j : ℕ) × (slice_get seen j ≡ Some name)) ⊎ IsTriggerOf xs name
seen_or_named seen [] i name e = inl (i, e)
seen_or_named seen (x ∷ xs) i name e =
    ⊎_elim
    (λ old. by (list_any (is_name x.name) seen) old.0 old.1)
    (λ (y : IsTriggerOf xs name). inr (record { place = suc y.place; item = y.item; is = y.is; named = y.named }))
    (seen_or_named (with_name seen x.name) xs i name e)
  where
    by : (b : Bool) (j : ℕ) → slice_get (if b then seen else seen ++ x.name ∷ []) j ≡ Some name → ((k : ℕ) × (slice_get seen k ≡ Some name)) ⊎ IsTriggerOf (x ∷ xs) name
    by true j f = inl (j, f)
    by false j f = ⊎_elim (λ front. inl (j, front.1)) (λ last. inr (record { place = 0; item = x; is = refl; named = last.1 })) (get_push seen x.name name j f)

-- each handler is some trigger's name
pub handler_from : (s : TreeSpec) (i : ℕ) (name : List ℕ) → slice_get (handlers s) i ≡ Some name → IsTriggerOf s.triggers name
handler_from s i name e = ⊎_elim (λ old. absurd (cc)) (λ (y : IsTriggerOf s.triggers name). y) (seen_or_named [] s.triggers i name e)

-- ---- in order

grown_seen : (seen : List (List ℕ)) (name : List ℕ) → (more : List (List ℕ)) × (with_name seen name ≡ seen ++ more)
grown_seen seen name = by (list_any (is_name name) seen)
  where
    by : (b : Bool) → (more : List (List ℕ)) × ((if b then seen else seen ++ name ∷ []) ≡ seen ++ more)
    by true = ([], sym (append-nil seen))
    by false = (name ∷ [], refl)

grown_after : (seen : List (List ℕ)) (xs : List TreeTrigger) → (more : List (List ℕ)) × (handlers_after seen xs ≡ seen ++ more)
grown_after seen [] = ([], sym (append-nil seen))
grown_after seen (x ∷ xs) =
    let first = grown_seen seen x.name in
    let rest = grown_after (with_name seen x.name) xs in
    (first.0 ++ rest.0, rest.1 ∙ ap (λ names. names ++ rest.0) first.1 ∙ append_assoc seen first.0 rest.0)

after_front : (seen : List (List ℕ)) (front back : List TreeTrigger) → handlers_after seen (front ++ back) ≡ handlers_after (handlers_after seen front) back
after_front seen [] back = refl
after_front seen (x ∷ front) back = after_front (with_name seen x.name) front back

-- the handlers of the first triggers begin those of all
pub handlers_in_order : (front back : List TreeTrigger) → (more : List (List ℕ)) × (handlers_after [] (front ++ back) ≡ handlers_after [] front ++ more)
handlers_in_order front back = let rest = grown_after (handlers_after [] front) back in (rest.0, after_front [] front back ∙ rest.1)
