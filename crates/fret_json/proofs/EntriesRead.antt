-- Entries that are read one after another.
use Rattle.std.proofs.Common.{◌≡◌, ℕ, ◌+◌, ◌<◌, ◌≤◌, List, [], ◌∷◌, ◌++◌, length, refl, sym, ap, ◌∙◌, subst}
use Rattle.std.specs.Prelude.{drop, get_or, Option, Some, None, Result, Ok, Err}
use Rattle.std.proofs.lemmas.List.{at_drop_more, at_drop_all}
use Rattle.serde_json.specs.Data.{Data, Items}
use Rattle.serde_json.specs.View.{view, items_view}
use Rattle.serde_json.specs.declared.value.Value.{Value}
use Rattle.fret_json.specs.Requirements.{entry_then, entries}

-- entries behind those that were read
abbrev pub behind : {A : Type 0} → List A → Result (List A) ℕ → Result (List A) ℕ
behind xs (Ok ys) = Ok (xs ++ ys)
behind xs (Err n) = Err n

pub none_read : {A : Type 0} (r : Result (List A) ℕ) → r ≡ behind [] r
none_read (Ok ys) = refl
none_read (Err n) = refl

assoc : {A : Type 0} (xs : List A) (x : A) (ys : List A) → xs ++ (x ∷ ys) ≡ (xs ++ x ∷ []) ++ ys
assoc [] x ys = refl
assoc (z ∷ xs) x ys = ap (λ r. z ∷ r) (assoc xs x ys)

one_more : {A : Type 0} (xs : List A) (x : A) (n : ℕ) (r : Result (List A) ℕ) → behind xs (entry_then (Some x) n r) ≡ behind (xs ++ x ∷ []) r
one_more xs x n (Ok ys) = ap Ok (assoc xs x ys)
one_more xs x n (Err m) = refl

module _ {A : Type 0} (of : Data → Option A) (vs : List Value) where
  abbrev rest : ℕ → Result (List A) ℕ
  rest i = entries of (i + 1) (items_view (drop i vs))

  at_entry : (i : ℕ) (d : Value) → i < length vs → rest i ≡ entry_then (of (view (get_or vs i d))) (i + 1) (rest (i + 1))
  at_entry i d h = at_drop_more (λ ws. entries of (i + 1) (items_view ws)) vs i d h

  pub entry_read : (xs : List A) (x : A) (i : ℕ) (d : Value) → i < length vs → Some x ≡ of (view (get_or vs i d)) → (r : Result (List A) ℕ) → r ≡ behind xs (rest i) → r ≡ behind (xs ++ x ∷ []) (rest (i + 1))
  entry_read xs x i d h is r e = e ∙ ap (behind xs) (at_entry i d h ∙ ap (λ o. entry_then o (i + 1) (rest (i + 1))) (sym is)) ∙ one_more xs x (i + 1) (rest (i + 1))

  pub no_entry : (xs : List A) (i : ℕ) (d : Value) → i < length vs → None ≡ of (view (get_or vs i d)) → (r : Result (List A) ℕ) → r ≡ behind xs (rest i) → r ≡ Err (i + 1)
  no_entry xs i d h is r e = e ∙ ap (behind xs) (at_entry i d h ∙ ap (λ o. entry_then o (i + 1) (rest (i + 1))) (sym is))

  none_left : (xs : List A) → xs ++ [] ≡ xs
  none_left [] = refl
  none_left (x ∷ xs) = ap (λ r. x ∷ r) (none_left xs)

  pub all_read : (xs : List A) (i : ℕ) → length vs ≤ i → (r : Result (List A) ℕ) → r ≡ behind xs (rest i) → r ≡ Ok xs
  all_read xs i h r e = e ∙ ap (behind xs) (at_drop_all (λ ws. entries of (i + 1) (items_view ws)) vs i h) ∙ ap Ok (none_left xs)
