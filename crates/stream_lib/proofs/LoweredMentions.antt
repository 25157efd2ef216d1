-- A lowered expression mentions no other defs than before, so that lowering makes no cycle of defs.
use Rattle.std.proofs.Common.{◌≡◌, ℕ, zero, suc, ◌<◌, List, [], ◌∷◌, ◌++◌, Bool, true, false, if◌then◌else◌, nat_lt, refl, sym, ap, ◌∙◌, subst, arith}
use Rattle.std.specs.Prelude.{slice_get, Some, map}
use Rattle.std.specs.List.{AllByRecursion}
use Rattle.std.proofs.lemmas.Bool.Decides.{nat_tests}
use Rattle.stream_types.specs.declared.scalar.Scalar.TheVariants as scalar
use Rattle.stream_core.specs.Term.{Term, Terms, lit, extern, stream, def, named, missing, dropped, un, bin, shift, cast, and, or, implies, choose, index, field, array, struct, abs, sign, majority, agreed, lib, end, more, TreeDef, with_defs, all_with_defs}
use Rattle.stream_core.specs.Lower.{lowered}
use Rattle.stream_core.specs.Limits.{mentions, all_mentions}
use Rattle.stream_core.specs.Acyclic.{Acyclic}
use Rattle.form_laws.proofs.OutOfSpecs.{lowered_def, lowered_out, map_length}

-- ---- what is written for defs tells which ones are mentioned

module _ (f g : ℕ → Term) where
  abbrev Agree : List ℕ → Type 0
  Agree ds = AllByRecursion (λ d. f d ≡ g d) ds

  front : (a b : List ℕ) → Agree (a ++ b) → Agree a
  front [] b h = tt
  front (x ∷ a) b h = (h.0, front a b h.1)

  back : (a b : List ℕ) → Agree (a ++ b) → Agree b
  back [] b h = h
  back (x ∷ a) b h = back a b h.1

  both : (a b : List ℕ) → Agree a → Agree b → Agree (a ++ b)
  both [] b p q = q
  both (x ∷ a) b p q = (p.0, both a b p.1 q)

  mutual
    same : (e : Term) → Agree (mentions e) → with_defs f e ≡ with_defs g e
    same (lit s w) h = refl
    same (extern x) h = refl
    same (stream s) h = refl
    same (def d) h = ap (named d) h.0
    same (named d a) h = ap (named d) (same a h)
    same missing h = refl
    same (dropped s k) h = refl
    same (un o s a) h = ap (un o s) (same a h)
    same (bin o s a b) h = let p = same a (front (mentions a) (mentions b) h) in let q = same b (back (mentions a) (mentions b) h) in cc
    same (shift w s a cs b) h = let p = same a (front (mentions a) (mentions b) h) in let q = same b (back (mentions a) (mentions b) h) in cc
    same (cast x t a) h = ap (cast x t) (same a h)
    same (and a b) h = let p = same a (front (mentions a) (mentions b) h) in let q = same b (back (mentions a) (mentions b) h) in cc
    same (or a b) h = let p = same a (front (mentions a) (mentions b) h) in let q = same b (back (mentions a) (mentions b) h) in cc
    same (implies a b) h = let p = same a (front (mentions a) (mentions b) h) in let q = same b (back (mentions a) (mentions b) h) in cc
    same (choose c a b) h =
        let p = same c (front (mentions c) (mentions a ++ mentions b) h) in
        let r = back (mentions c) (mentions a ++ mentions b) h in
        let q = same a (front (mentions a) (mentions b) r) in
        let s = same b (back (mentions a) (mentions b) r) in
        cc
    same (index t a b) h = let p = same a (front (mentions a) (mentions b) h) in let q = same b (back (mentions a) (mentions b) h) in cc
    same (field t k a) h = ap (field t k) (same a h)
    same (array t es) h = ap (array t) (all_same es h)
    same (struct t es) h = ap (struct t) (all_same es h)
    same (abs s a) h = ap (abs s) (same a h)
    same (sign s a) h = ap (sign s) (same a h)
    same (majority s es) h = ap (majority s) (all_same es h)
    same (agreed s es) h = ap (agreed s) (all_same es h)
    same (lib k form es) h = ap (lib k form) (all_same es h)

    all_same : (es : Terms) → Agree (all_mentions es) → all_with_defs f es ≡ all_with_defs g es
    all_same end h = refl
    all_same (more a es) h = let p = same a (front (mentions a) (all_mentions es) h) in let q = all_same es (back (mentions a) (all_mentions es) h) in cc

  mutual
    told : (e : Term) → with_defs f e ≡ with_defs g e → Agree (mentions e)
    told (lit s w) h = tt
    told (extern x) h = tt
    told (stream s) h = tt
    told (def d) h = (cc, tt)
    told (named d a) h = told a cc
    told missing h = tt
    told (dropped s k) h = tt
    told (un o s a) h = told a cc
    told (bin o s a b) h = both (mentions a) (mentions b) (told a cc) (told b cc)
    told (shift w s a cs b) h = both (mentions a) (mentions b) (told a cc) (told b cc)
    told (cast x t a) h = told a cc
    told (and a b) h = both (mentions a) (mentions b) (told a cc) (told b cc)
    told (or a b) h = both (mentions a) (mentions b) (told a cc) (told b cc)
    told (implies a b) h = both (mentions a) (mentions b) (told a cc) (told b cc)
    told (choose c a b) h = both (mentions c) (mentions a ++ mentions b) (told c cc) (both (mentions a) (mentions b) (told a cc) (told b cc))
    told (index t a b) h = both (mentions a) (mentions b) (told a cc) (told b cc)
    told (field t k a) h = told a cc
    told (array t es) h = all_told es cc
    told (struct t es) h = all_told es cc
    told (abs s a) h = told a cc
    told (sign s a) h = told a cc
    told (majority s es) h = all_told es cc
    told (agreed s es) h = all_told es cc
    told (lib k form es) h = all_told es cc

    all_told : (es : Terms) → all_with_defs f es ≡ all_with_defs g es → Agree (all_mentions es)
    all_told end h = tt
    all_told (more a es) h = both (mentions a) (all_mentions es) (told a cc) (all_told es cc)

-- ---- the mentions of a lowered expression

abbrev marked : (ℕ → Bool) → ℕ → Term
marked p d = lit scalar.Bool (if p d then 0 else 1)

abbrev unmarked : ℕ → Term
unmarked d = lit scalar.Bool 0

module _ (at : ℕ → ℕ) (p : ℕ → Bool) where
  agreed_on : (ds : List ℕ) → AllByRecursion (λ c. p c ≡ true) ds → Agree (marked p) unmarked ds
  agreed_on [] h = tt
  agreed_on (d ∷ ds) h = (ap (λ b. lit scalar.Bool (if b then 0 else 1)) h.0, agreed_on ds h.1)

  one_of : (b : Bool) → lit scalar.Bool (if b then 0 else 1) ≡ lit scalar.Bool 0 → b ≡ true
  one_of true e = refl
  one_of false e = absurd (cc)

  told_by : (ds : List ℕ) → Agree (marked p) unmarked ds → AllByRecursion (λ c. p c ≡ true) ds
  told_by [] h = tt
  told_by (d ∷ ds) h = (one_of (p d) h.0, told_by ds h.1)

  -- a test that passes on each def that an expression mentions passes on each that the lowered one mentions
  pub mentions_pass : (e : Term) → AllByRecursion (λ c. p c ≡ true) (mentions e) → AllByRecursion (λ c. p c ≡ true) (mentions (lowered at e))
  mentions_pass e h =
      let same_before = same (marked p) unmarked e (agreed_on (mentions e) h) in
      let same_after = sym (lowered_out at (marked p) (marked p) (λ d. refl) e) ∙ ap (lowered at) same_before ∙ lowered_out at unmarked unmarked (λ d. refl) e in
      told_by (mentions (lowered at e)) (told (marked p) unmarked (lowered at e) same_after)

-- ---- no cycle

module _ (at : ℕ → ℕ) (defs : List TreeDef) where
  before : (xs : List TreeDef) (d : ℕ) (y : TreeDef) → slice_get (map (lowered_def at) xs) d ≡ Some y → (x : TreeDef) × (slice_get xs d ≡ Some x) × (mentions y.expr ≡ mentions (lowered at x.expr))
  before [] d y e = absurd (cc)
  before (x ∷ xs) zero y e = (x, refl, let is : lowered_def at x ≡ y = cc in ap (λ (z : TreeDef). mentions z.expr) (sym is))
  before (x ∷ xs) (suc d) y e = before xs d y e

  passed : (rank : ℕ → ℕ) (n : ℕ) (ds : List ℕ) → AllByRecursion (λ c. rank c < n) ds → AllByRecursion (λ c. nat_lt (rank c) n ≡ true) ds
  passed rank n [] h = tt
  passed rank n (d ∷ ds) h = (let b = h.0 in grind (arith, nat_tests, b), passed rank n ds h.1)

  lower : (rank : ℕ → ℕ) (n : ℕ) (ds : List ℕ) → AllByRecursion (λ c. nat_lt (rank c) n ≡ true) ds → AllByRecursion (λ c. rank c < n) ds
  lower rank n [] h = tt
  lower rank n (d ∷ ds) h = (let b = h.0 in grind (arith, nat_tests, b), lower rank n ds h.1)

  pub still_acyclic : Acyclic defs → Acyclic (map (lowered_def at) defs)
  still_acyclic a = record {
    rank = a.rank;
    ranks = record {
      falls = λ d y e.
          let x = before defs d y e in
          subst (AllByRecursion (λ c. a.rank c < a.rank d)) (sym x.2)
          (lower a.rank (a.rank d) (mentions (lowered at x.0.expr))
          (mentions_pass at (λ c. nat_lt (a.rank c) (a.rank d)) x.0.expr (passed a.rank (a.rank d) (mentions x.0.expr) (a.ranks.falls d x.0 x.1))));
      below = λ d h. let l = map_length (lowered_def at) defs in let b = a.ranks.below d (omega (arith, h, l)) in omega (arith, b, l);
    };
  }
