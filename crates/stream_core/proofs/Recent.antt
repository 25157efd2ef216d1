-- A plain value is that over the last entries alone, as rings hold them.
use Rattle.std.proofs.Common.{◌≡◌, ℕ, zero, suc, ◌+◌, ◌<◌, List, [], ◌∷◌, ◌++◌, length, drop, Ok, refl, sym, ap, ◌∙◌, arith}
use Rattle.std.specs.List.{AllByRecursion}
use Rattle.std.proofs.lemmas.List.{get_or-drop}
use Rattle.stream_types.specs.Types.{entry_of}
use Rattle.stream_core.specs.Term.{Term, Terms, lit, extern, stream, def, named, missing, dropped, un, bin, shift, cast, and, or, implies, choose, index, field, array, struct, abs, sign, majority, agreed, lib, end, more}
use Rattle.stream_core.specs.Eval.{Moment, Table, entry_at, value, all_values, extend}
use Rattle.stream_core.specs.Equations.{ReadsWithin}
use Rattle.stream_core.specs.Plain.{IsPlain, ArePlain, at_table, lists_from, AgreeFrom, moved}
use Rattle.stream_core.proofs.Values.{test_same, index_same, value_same}

-- ---- lists from an entry on

entry_from : (t : ℕ) (T : Table) (k i : ℕ) → entry_at (lists_from t T) k i ≡ entry_at T k (t + i)
entry_from t [] k i = refl
entry_from t (xs ∷ T) zero i = get_or-drop t xs i []
entry_from t (xs ∷ T) (suc k) i = entry_from t T k i

module _ (m : Moment) (T : Table) (t : ℕ) where
  read_from : (s k : ℕ) → entry_at T s (t + k) ≡ entry_at (lists_from t T) s (0 + k)
  read_from s k = sym (entry_from t T s k) ∙ ap (entry_at (lists_from t T) s) (let e : k ≡ 0 + k = omega arith in e)

  stream_from : (s : ℕ) → entry_at T s t ≡ entry_at (lists_from t T) s 0
  stream_from s = ap (entry_at T s) (let e : t ≡ t + 0 = omega arith in e) ∙ sym (entry_from t T s 0)

  mutual
    -- the value at time t is that over the lists from t on, at time 0
    pub from_here : (e : Term) → IsPlain e → value (at_table m T t) e ≡ value (at_table m (lists_from t T) 0) e
    from_here (lit s w) h = refl
    from_here (extern x) h = refl
    from_here (def d) h = refl
    from_here (missing) h = refl
    from_here (stream s) h = ap Ok (stream_from s)
    from_here (dropped s k) h = ap Ok (read_from s k)
    from_here (un o s a) h = let p = from_here a h in cc
    from_here (cast x u a) h = let p = from_here a h in cc
    from_here (field u k a) h = let p = from_here a h in cc
    from_here (abs s a) h = absurd h
    from_here (sign s a) h = absurd h
    from_here (named d a) h = let p = from_here a h in cc
    from_here (bin o s a b) h = let p = from_here a h.0 in let q = from_here b h.1 in cc
    from_here (shift w s a cs b) h = let p = from_here a h.0 in let q = from_here b h.1 in cc
    from_here (and a b) h = let p = from_here a h.0 in let q = from_here b h.1 in cc
    from_here (or a b) h = let p = from_here a h.0 in let q = from_here b h.1 in cc
    from_here (implies a b) h = let p = from_here a h.0 in let q = from_here b h.1 in cc
    from_here (index u a b) h = index_same m.types (entry_of m.types u) _ _ _ _ (from_here a h.0) (from_here b h.1)
    from_here (choose c a b) h = test_same _ _ _ _ _ _ (from_here c h.0) (from_here a h.1) (from_here b h.2)
    from_here (array u es) h = let p = all_from_here es h in cc
    from_here (struct u es) h = let p = all_from_here es h in cc
    from_here (majority s es) h = absurd h
    from_here (agreed s es) h = absurd h
    from_here (lib k form es) h = absurd h

    all_from_here : (es : Terms) → ArePlain es → all_values (at_table m T t) es ≡ all_values (at_table m (lists_from t T) 0) es
    all_from_here end h = refl
    all_from_here (more a es) h = let p = from_here a h.0 in let q = all_from_here es h.1 in cc

  -- over any table that agrees with it on the entries that are read
  pub recent : (R : Table) (bound : ℕ → ℕ) (e : Term) → IsPlain e → ReadsWithin bound e → AgreeFrom bound t T R → value (at_table m T t) e ≡ value (at_table m R 0) e
  recent R bound e h reads agree =
      from_here e h
      ∙ value_same (at_table m T 0) (lists_from t T) R bound (λ k i b. entry_from t T k i ∙ agree k i (omega (arith, b))) e reads

-- ---- one step on

drop_next : (t : ℕ) (xs : List (List ℕ)) (y : List ℕ) → t < length xs → drop (t + 1) (xs ++ y ∷ []) ≡ drop 1 (drop t xs) ++ y ∷ []
drop_next t [] y b = absurd (omega (arith, b))
drop_next zero (x ∷ xs) y b = refl
drop_next (suc t) (x ∷ xs) y b =
    ap (λ n. drop n ((x ∷ xs) ++ y ∷ [])) (let e : suc t + 1 ≡ suc (t + 1) = omega arith in e) ∙ drop_next t xs y (omega (arith, b))

pub next_from : (t : ℕ) (T : Table) (ns : List (List ℕ)) → AllByRecursion (λ (xs : List (List ℕ)). t < length xs) T → length ns ≡ length T → lists_from (t + 1) (extend T ns) ≡ moved (lists_from t T) ns
next_from t [] ns h e = refl
next_from t (xs ∷ T) [] h e = absurd (omega (arith, e))
next_from t (xs ∷ T) (y ∷ ns) h e =
    let p = drop_next t xs y h.0 in
    let q = next_from t T ns h.1 (omega (arith, e)) in
    cc
