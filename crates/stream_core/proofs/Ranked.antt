-- Without a cycle of defs there are ranks: the longest way from a def along mentions is shorter than the list.
use Rattle.std.proofs.Common.{◌≡◌, ◌≢◌, ◌⊎◌, inl, inr, ⊎_elim, ℕ, zero, suc, ◌<◌, ◌≤◌, max, List, [], ◌∷◌, length, Option, Some, None, refl, sym, ap, ◌∙◌, subst, arith, if◌then◌else◌, nat_eq, true, false}
use Rattle.std.specs.Prelude.{slice_get, Contains}
use Rattle.std.specs.List.{AllByRecursion}
use Rattle.std.proofs.lemmas.Bool.{cases_eq}
use Rattle.std.proofs.lemmas.Bool.Decides.{nat_tests}
use Rattle.std.proofs.lemmas.Option.{slice_get_within}
use Rattle.stream_core.specs.Term.{TreeDef}
use Rattle.stream_core.specs.Limits.{Mentions, Leads, mentions}
use Rattle.stream_core.specs.Acyclic.{Acyclic}
use Rattle.stream_core.specs.Soundness.{HasNoCycle}
use Rattle.stream_core.proofs.Trees.{all_map}

-- ---- lists of numbers as sets

abbrev In : ℕ → List ℕ → Type 0
In x [] = ⊥
In x (y ∷ ys) = (x ≡ y) ⊎ In x ys

abbrev without : ℕ → List ℕ → List ℕ
without d [] = []
without d (y ∷ ys) = if nat_eq y d then without d ys else y ∷ without d ys

abbrev upto : ℕ → List ℕ
upto zero = []
upto (suc n) = n ∷ upto n

in_upto : (n d : ℕ) → d < n → In d (upto n)
in_upto zero d h = absurd (omega (arith, h))
in_upto (suc n) d h = ⊎_elim (λ e. inl e) (λ ne. inr (in_upto n d (omega (arith, h, ne)))) (cases_eq d n)

length_upto : (n : ℕ) → length (upto n) ≡ n
length_upto zero = refl
length_upto (suc n) = ap suc (length_upto n)

kept : (d : ℕ) (xs : List ℕ) → length (without d xs) ≤ length xs
kept d [] = omega arith
kept d (y ∷ ys) = let h = kept d ys in ⊎_elim (λ (e : y ≡ d). grind (arith, nat_tests)) (λ (ne : y ≢ d). grind (arith, nat_tests)) (cases_eq y d)

-- ---- the longest way from a def

abbrev top : (ℕ → ℕ) → List ℕ → ℕ
top f [] = 0
top f (c ∷ cs) = max (suc (f c)) (top f cs)

nonempty : (x : ℕ) (xs : List ℕ) → In x xs → 0 < length xs
nonempty x [] h = absurd h
nonempty x (y ∷ ys) h = omega arith

in_without : (x d : ℕ) (xs : List ℕ) → In x xs → x ≢ d → In x (without d xs)
in_without x d [] h ne = absurd h
in_without x d (y ∷ ys) h ne =
    ⊎_elim
    (λ (same : y ≡ d).
    let e : nat_eq y d ≡ true = grind (arith, nat_tests) in
    let rest : In x ys = ⊎_elim (λ (i : x ≡ y). absurd (ne (i ∙ same))) (λ (r : In x ys). r) h in
    subst (λ b. In x (if b then without d ys else y ∷ without d ys)) (sym e) (in_without x d ys rest ne))
    (λ (other : y ≢ d).
    let e : nat_eq y d ≡ false = grind (arith, nat_tests) in
    let there : In x (y ∷ without d ys) = ⊎_elim (λ (i : x ≡ y). inl i) (λ (r : In x ys). inr (in_without x d ys r ne)) h in
    subst (λ b. In x (if b then without d ys else y ∷ without d ys)) (sym e) there)
    (cases_eq y d)

lost : (d : ℕ) (xs : List ℕ) → In d xs → length (without d xs) < length xs
lost d [] h = absurd h
lost d (y ∷ ys) h =
    ⊎_elim
    (λ (same : y ≡ d). let k = kept d ys in grind (arith, nat_tests))
    (λ (other : y ≢ d).
    let r : length (without d ys) < length ys = ⊎_elim (λ (i : d ≡ y). absurd (other (sym i))) (λ (r : In d ys). lost d ys r) h in
    grind (arith, nat_tests))
    (cases_eq y d)

top_below : (f : ℕ → ℕ) (b : ℕ) (cs : List ℕ) → AllByRecursion (λ c. f c < b) cs → top f cs ≤ b
top_below f b [] h = omega arith
top_below f b (c ∷ cs) h = let p = h.0 in let q = top_below f b cs h.1 in omega (arith, p, q)

top_above : (f : ℕ → ℕ) (cs : List ℕ) → AllByRecursion (λ c. f c < top f cs) cs
top_above f [] = tt
top_above f (c ∷ cs) = (omega arith, all_map cs (λ d p. omega (arith, p)) (top_above f cs))

top_same : (f g : ℕ → ℕ) (b : ℕ) → ((c : ℕ) → f c < b → g c ≡ f c) → (cs : List ℕ) → top f cs < suc b → top g cs ≡ top f cs
top_same f g b same [] h = refl
top_same f g b same (c ∷ cs) h = let p = same c (omega (arith, h)) in let q = top_same f g b same cs (omega (arith, h)) in cc

-- each element is in the list
members : (xs : List ℕ) → AllByRecursion (Contains xs) xs
members [] = tt
members (x ∷ xs) = ((0, omega arith, refl), all_map xs (λ c h. (suc h.0, (let b = h.1 in omega (arith, b)), h.2)) (members xs))

abbrev deep_at : (ℕ → ℕ) → Option TreeDef → ℕ
deep_at f None = 0
deep_at f (Some x) = top f (mentions x.expr)

abbrev deep : List TreeDef → ℕ → ℕ → ℕ
deep defs zero d = 0
deep defs (suc n) d = deep_at (deep defs n) (slice_get defs d)

steady_at : (f g : ℕ → ℕ) (b : ℕ) → ((c : ℕ) → f c < b → g c ≡ f c) → (o : Option TreeDef) → deep_at f o < suc b → deep_at g o ≡ deep_at f o
steady_at f g b same None h = refl
steady_at f g b same (Some x) h = top_same f g b same (mentions x.expr) h

steady : (defs : List TreeDef) (n d : ℕ) → deep defs n d < n → deep defs (suc n) d ≡ deep defs n d
steady defs zero d h = absurd (omega (arith, h))
steady defs (suc n) d h = steady_at (deep defs n) (deep defs (suc n)) n (λ c below. steady defs n c below) (slice_get defs d) h

module _ (defs : List TreeDef) (none : HasNoCycle defs) where
  step : (n d : ℕ) (xs : List ℕ) → In d xs → ((e m : ℕ) → Leads defs m d e → In e xs) → ((c : ℕ) (ys : List ℕ) → In c ys → ((e m : ℕ) → Leads defs m c e → In e ys) → deep defs n c < length ys) → (o : Option TreeDef) → slice_get defs d ≡ o → deep_at (deep defs n) o < length xs
  step n d xs here all rec None e = nonempty d xs here
  step n d xs here all rec (Some x) e =
      let each = all_map (mentions x.expr)
      (λ (c : ℕ) (to : Contains (mentions x.expr) c).
      let m : Mentions defs d c = record { from = x; is = e; to = to } in
      rec c (without d xs)
      (in_without c d xs (all c 0 m) (λ (same : c ≡ d). none d (0, subst (λ y. Mentions defs d y) same m)))
      (λ (y n : ℕ) (l : Leads defs n c y). in_without y d xs (all y (suc n) (c, m, l)) (λ (same : y ≡ d). none d (suc n, (c, m, subst (λ z. Leads defs n c z) same l)))))
      (members (mentions x.expr)) in
      let t = top_below (deep defs n) (length (without d xs)) (mentions x.expr) each in
      let l = lost d xs here in
      omega (arith, t, l)

  -- a way stays in any list that holds all that it leads to
  short : (n d : ℕ) (xs : List ℕ) → In d xs → ((e m : ℕ) → Leads defs m d e → In e xs) → deep defs n d < length xs
  short zero d xs here all = nonempty d xs here
  short (suc n) d xs here all = step n d xs here all (λ c ys h a. short n c ys h a) (slice_get defs d) refl

  module _ (inside : (a b : ℕ) → Mentions defs a b → b < length defs) where
    leads_in : (n a b : ℕ) → Leads defs n a b → b < length defs
    leads_in zero a b l = inside a b l
    leads_in (suc n) a b l = leads_in n l.0 b l.2

    below : (d : ℕ) → d < length defs → deep defs (length defs) d < length defs
    below d h =
        let s = short (length defs) d (upto (length defs)) (in_upto (length defs) d h) (λ e m l. in_upto (length defs) e (leads_in m d e l)) in
        let l = length_upto (length defs) in
        omega (arith, s, l)

    falls : (d : ℕ) (x : TreeDef) → slice_get defs d ≡ Some x → AllByRecursion (λ c. deep defs (length defs) c < deep defs (length defs) d) (mentions x.expr)
    falls d x e =
        let f = deep defs (length defs) in
        let is : top f (mentions x.expr) ≡ f d = sym (ap (deep_at f) e) ∙ steady defs (length defs) d (below d (slice_get_within defs d x e)) in
        subst (λ n. AllByRecursion (λ c. f c < n) (mentions x.expr)) is (top_above f (mentions x.expr))

    pub ranked : Acyclic defs
    ranked = record { rank = deep defs (length defs); ranks = record { falls = falls; below = below } }
