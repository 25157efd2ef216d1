-- The word that was looked for is that of what was found.
use Rattle.std.proofs.Common.{◌≡◌, ℕ, refl, ap, sym, ◌∙◌, List, [], ◌∷◌, Bool, true, false, Some, None, rules}
use Rattle.std.specs.Prelude.{find, bytes_eq, codes, if◌then◌else◌}
use Rattle.std.proofs.lemmas.Option.{same_Some}
use Rattle.stream_types.specs.declared.scalar.Scalar.{Scalar}
use Rattle.spec_words.specs.declared.head.DeclHead.{DeclHead}
use Rattle.spec_words.specs.declared.head.ConstHead.{ConstHead}
use Rattle.spec_words.specs.declared.head.Head.{Head}
use Rattle.spec_words.specs.Words.{spec_word, version_of, scalar_word, scalar_of, scalars, decl_word, decl_head, decl_heads, const_word, const_head, const_heads, head_word, head_of, heads}

find_step : {T : Type 0} (p : T → Bool) (y x : T) (ys : List T) (b : Bool) → p y ≡ b → (find p ys ≡ Some x → p x ≡ true) → find p (y ∷ ys) ≡ Some x → p x ≡ true
find_step p y x ys true is later h = ap p (sym (same_Some y x (rw is at h))) ∙ is
find_step p y x ys false is later h = later (rw is at h)

find-test : {T : Type 0} (p : T → Bool) (xs : List T) (x : T) → find p xs ≡ Some x → p x ≡ true
find-test p [] x h = absurd (cc)
find-test p (y ∷ ys) x h = find_step p y x ys (p y) refl (find-test p ys x) h

pub same_bytes : (a b : List ℕ) → bytes_eq a b ≡ true → a ≡ b
same_bytes a b h = search rules

found : {T : Type 0} (w : T → List ℕ) (xs : List T) (text : List ℕ) (x : T) → find (λ h. bytes_eq (w h) text) xs ≡ Some x → text ≡ w x
found w xs text x h = sym (same_bytes (w x) text (find-test (λ h. bytes_eq (w h) text) xs x h))

version_case : (text : List ℕ) (v : ℕ) (b c : Bool) → bytes_eq text (codes "spec") ≡ b → bytes_eq text (codes "spec2") ≡ c → (if b then Some 1 else if c then Some 2 else None) ≡ Some v → text ≡ spec_word v
version_case text v true c is other h = rw (← same_Some 1 v h) (same_bytes text (codes "spec") is)
version_case text v false true is other h = rw (← same_Some 2 v h) (same_bytes text (codes "spec2") other)
version_case text v false false is other h = absurd (cc)

pub found_version : (text : List ℕ) (v : ℕ) → version_of text ≡ Some v → text ≡ spec_word v
found_version text v h = version_case text v (bytes_eq text (codes "spec")) (bytes_eq text (codes "spec2")) refl refl h

pub found_scalar : (text : List ℕ) (s : Scalar) → scalar_of text ≡ Some s → text ≡ scalar_word s
unfolding scalar_of
found_scalar text s h = found scalar_word scalars text s h

pub found_decl : (text : List ℕ) (h : DeclHead) → decl_head text ≡ Some h → text ≡ decl_word h
unfolding decl_head
found_decl text s h = found decl_word decl_heads text s h

pub found_const : (text : List ℕ) (h : ConstHead) → const_head text ≡ Some h → text ≡ const_word h
unfolding const_head
found_const text s h = found const_word const_heads text s h

pub found_head : (text : List ℕ) (h : Head) → head_of text ≡ Some h → text ≡ head_word h
unfolding head_of
found_head text s h = found head_word heads text s h

pub ruleset found_words = (found_scalar, found_decl, found_const, found_head)
