-- Fixed bytes one after another.
use Rattle.std.proofs.Common.{◌≡◌, ℕ, eqb, List, [], ◌∷◌, ◌++◌, Option, Some, None, inl, inr, refl, ap, ◌∙◌, append_assoc, codes}
use Rattle.std.proofs.lemmas.Bool.{cases_Bool}
use Rattle.c99_read.specs.declared.fault.ReadFault.{ReadFault}
use Rattle.c99_read.specs.declared.fault.ReadFault.TheVariants.{Memory, NotRead}
use Rattle.c99_read.specs.Gives.{Fails}
use Rattle.std.specs.Fmt.{decimal}
use Rattle.std.specs.List.{flat_map}
use Rattle.c99_tree.specs.declared.types.CVar.{CVar}
use Rattle.c99_tree.specs.declared.types.CDef.{CDef}
use Rattle.c99_tree.specs.declared.types.CDef.TheVariants as def
use Rattle.c99_tree.specs.Words.{elem_type}
use Rattle.c99_tree.specs.Lookup.{arrays_in}
use Rattle.c99_tree.specs.Spelling.{array_text, type_text, pick_line, copy_line}
use Rattle.c99_read.specs.Front.{◌>>=◌, behind}
use Rattle.c99_read.specs.LineAt.{array_at, pick_name_at, pick_at, pick_of, copy_of}

pub behind_both : (p q s r : List ℕ) → behind p s ≡ Some r → behind (p ++ q) s ≡ behind q r
unfolding behind
behind_both [] q s r h = let e : s ≡ r = cc h in ap (behind q) e
behind_both (a ∷ p) q [] r h = absurd (cc h)
behind_both (a ∷ p) q (b ∷ s) r h = elim (cases_Bool (eqb a b)) [ inl y ↦ rw y (behind_both p q s r (rw y at h)) | inr n ↦ absurd (cc (rw n at h)) ]

behind_first : (p q s : List ℕ) → behind p s ≡ None → behind (p ++ q) s ≡ None
unfolding behind
behind_first [] q s h = absurd (cc h)
behind_first (a ∷ p) q [] h = refl
behind_first (a ∷ p) q (b ∷ s) h = elim (cases_Bool (eqb a b)) [ inl y ↦ rw y (behind_first p q s (rw y at h)) | inr n ↦ rw n refl ]

pub behind_fail : (e : ReadFault) (p q s : List ℕ) → Fails e (behind p s) → Fails e (behind (p ++ q) s)
behind_fail Memory p q s h = tt
behind_fail NotRead p q s h = behind_first p q s h

-- ---- the lines that follow from the header

pub behind_then : (p q s : List ℕ) → behind (p ++ q) s ≡ (behind p s >>= behind q)
behind_then p q s = by (behind p s) refl
  where
    by : (o : Option (List ℕ)) → behind p s ≡ o → behind (p ++ q) s ≡ (o >>= behind q)
    by None h = behind_first p q s h
    by (Some r) h = behind_both p q s r h

four : (a x u d s : List ℕ) → behind (a ++ x ++ u ++ d) s ≡ (behind a s >>= behind x >>= behind u >>= behind d)
four a x u d s = rw (behind_then (a ++ x ++ u) d s, behind_then (a ++ x) u s, behind_then a x s) refl

pub array_goes : (x : List ℕ) (n : ℕ) (s : List ℕ) → behind (array_text x n) s ≡ array_at x n s
array_goes x n s = four (codes "struct cp_arr_") x (codes "_") (decimal n) s

five : (a t b x e s : List ℕ) → behind (a ++ t ++ b ++ x ++ e) s ≡ (behind a s >>= behind t >>= behind b >>= behind x >>= behind e)
five a t b x e s = rw (behind_then (a ++ t ++ b ++ x) e s, four a t b x s) refl

copy_pieces : (a t b x e l : List ℕ) → a ++ t ++ b ++ x ++ e ++ l ≡ a ++ t ++ b ++ x ++ (e ++ l)
copy_pieces a t b x e l = simp append_assoc

pub copy_goes : (x : CVar) (s : List ℕ) → behind (copy_line x) s ≡ copy_of x s
copy_goes x s = ap (λ (p : List ℕ). behind p s) (copy_pieces (codes "static ") (type_text x.ty) (codes " cp_c_") x.name (codes ";") (codes "\n"))
    ∙ five (codes "static ") (type_text x.ty) (codes " cp_c_") x.name (codes ";\n") s

six : (a t b x u d s : List ℕ) → behind (a ++ t ++ b ++ x ++ u ++ d) s ≡ (behind a s >>= behind t >>= behind b >>= behind x >>= behind u >>= behind d)
six a t b x u d s = rw (behind_then (a ++ t ++ b ++ x ++ u) d s, five a t b x u s) refl

pick_pieces : (h c a e l : List ℕ) → h ++ c ++ a ++ e ++ l ≡ h ++ c ++ a ++ (e ++ l)
pick_pieces h c a e l = simp append_assoc

pick_by : (h c a e s : List ℕ) → behind (h ++ c ++ a ++ e) s ≡ (behind h s >>= behind c >>= behind a >>= behind e)
pick_by h c a e s = four h c a e s

same_bind : (o p : Option (List ℕ)) (c e : List ℕ) (f g : List ℕ → Option (List ℕ)) → o ≡ p → ((r : List ℕ) → f r ≡ g r) → (o >>= behind c >>= f >>= behind e) ≡ (p >>= behind c >>= g >>= behind e)
same_bind o p c e f g h k = ap (λ (q : Option (List ℕ)). q >>= behind c >>= f >>= behind e) h ∙ by (p >>= behind c)
  where
    by : (q : Option (List ℕ)) → (q >>= f >>= behind e) ≡ (q >>= g >>= behind e)
    by None = refl
    by (Some r) = ap (λ (z : Option (List ℕ)). z >>= behind e) (k r)

pub pick_goes : (x : List ℕ) (n : ℕ) (s : List ℕ) → behind (pick_line (x, n)) s ≡ pick_at x n s
pick_goes x n s =
    let name : List ℕ = codes "static " ++ type_text (elem_type x) ++ codes " cp_ix_" ++ x ++ codes "_" ++ decimal n in
    let end : List ℕ = codes " cp_a, uint32_t cp_k) { return cp_a.e[cp_k]; }" in
    ap (λ (p : List ℕ). behind p s) (pick_pieces name (codes "(") (array_text x n) end (codes "\n"))
    ∙ pick_by name (codes "(") (array_text x n) (end ++ codes "\n") s
    ∙ same_bind (behind name s) (pick_name_at x n s) (codes "(") (end ++ codes "\n") (behind (array_text x n)) (array_at x n)
    (six (codes "static ") (type_text (elem_type x)) (codes " cp_ix_") x (codes "_") (decimal n) s) (array_goes x n)

pub picks_more : (d : CDef) (ds : List CDef) (s : List ℕ) → behind (flat_map pick_line (arrays_in (d ∷ ds))) s ≡ (pick_of d s >>= behind (flat_map pick_line (arrays_in ds)))
picks_more (def.Struct x fields) ds s = refl
picks_more (def.Array x n) ds s = behind_then (pick_line (x, n)) (flat_map pick_line (arrays_in ds)) s ∙ ap (λ (o : Option (List ℕ)). o >>= behind (flat_map pick_line (arrays_in ds))) (pick_goes x n s)

pub copies_more : (x : CVar) (xs : List CVar) (s : List ℕ) → behind (flat_map copy_line (x ∷ xs)) s ≡ (copy_of x s >>= behind (flat_map copy_line xs))
copies_more x xs s = behind_then (copy_line x) (flat_map copy_line xs) s ∙ ap (λ (o : Option (List ℕ)). o >>= behind (flat_map copy_line xs)) (copy_goes x s)

-- the next line of some
module _ (all : List ℕ) (o : Option (List ℕ)) (rest s : List ℕ) (is : behind all s ≡ (o >>= behind rest)) where
  pub line_more : (r : List ℕ) → o ≡ Some r → behind all s ≡ behind rest r
  line_more r h = is ∙ rw h refl

  pub line_fail : (e : ReadFault) → Fails e o → Fails e (behind all s)
  line_fail Memory h = tt
  line_fail NotRead h = is ∙ rw h refl

pub nothing_behind : (s : List ℕ) → behind [] s ≡ Some s
unfolding behind
nothing_behind s = refl
