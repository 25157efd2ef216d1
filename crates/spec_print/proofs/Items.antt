-- The text of a list by its items.
use Rattle.std.proofs.Common.{◌≡◌, ℕ, List, [], ◌∷◌, ◌++◌, map, codes, Option, None, refl, sym, ap, ◌∙◌, append_assoc, append-nil}
use Rattle.std.proofs.lemmas.List.Concat.{flat_map-cons}
use Rattle.std.specs.List.{flat_map}
use Rattle.sm_print.proofs.Printing.{separated}
use Rattle.spec_text.specs.declared.surface.Surface.{Surface}
use Rattle.spec_words.specs.Words.{spec_word}
use Rattle.spec_text.specs.Form.{Form, Forms, word, none, more, forms, headed}
use Rattle.spec_text.specs.Canonical.{text, texts, decl_line, canonical}

-- each item behind a space
abbrev pub behind : Form → List ℕ
behind f = codes " " ++ text f

abbrev pub behinds : Forms → List ℕ
behinds none = []
behinds (more f fs) = behind f ++ behinds fs

texts-behinds : (f : Form) (fs : Forms) → texts (more f fs) ≡ text f ++ behinds fs
texts-behinds f none = sym (append-nil (text f))
texts-behinds f (more g gs) =
    ap (λ (t : List ℕ). text f ++ codes " " ++ t) (texts-behinds g gs) ∙ append_assoc (text f) (codes " ") (text g ++ behinds gs)

pub behinds-flat : {X : Type 0} (f : X → Form) (xs : List X) → flat_map (λ x. codes " " ++ text (f x)) xs ≡ behinds (forms (map f xs))
behinds-flat f [] = refl
behinds-flat f (x ∷ xs) = flat_map-cons (λ y. codes " " ++ text (f y)) x xs ∙ ap (λ (t : List ℕ). behind (f x) ++ t) (behinds-flat f xs)

-- a list by its first word and the items behind it
pub list-text : (at : Option ℕ) (head : List ℕ) (fs : Forms) → codes "(" ++ head ++ behinds fs ++ codes ")" ≡ text (headed at head fs)
list-text at head fs = ap (λ (t : List ℕ). codes "(" ++ t ++ codes ")") (sym (texts-behinds (word None head) fs))

one : (front a : List ℕ) → front ++ a ≡ front ++ (a ++ [])
one front a = ap (λ (t : List ℕ). front ++ t) (sym (append-nil a))

two : (front a b : List ℕ) → front ++ a ++ b ≡ front ++ (a ++ (b ++ []))
two front a b = one (front ++ a) b ∙ append_assoc front a (b ++ [])

three : (front a b c : List ℕ) → front ++ a ++ b ++ c ≡ front ++ (a ++ (b ++ (c ++ [])))
three front a b c = two (front ++ a) b c ∙ append_assoc front a (b ++ (c ++ []))

four : (front a b c d : List ℕ) → front ++ a ++ b ++ c ++ d ≡ front ++ (a ++ (b ++ (c ++ (d ++ []))))
four front a b c d = three (front ++ a) b c d ∙ append_assoc front a (b ++ (c ++ (d ++ [])))

pub one-text : (head : List ℕ) (a : Form) → codes "(" ++ head ++ behind a ++ codes ")" ≡ text (headed None head (more a none))
one-text head a = ap (λ (t : List ℕ). t ++ codes ")") (one (codes "(" ++ head) (behind a)) ∙ list-text None head (more a none)

pub two-text : (head : List ℕ) (a b : Form) → codes "(" ++ head ++ behind a ++ behind b ++ codes ")" ≡ text (headed None head (more a (more b none)))
two-text head a b = ap (λ (t : List ℕ). t ++ codes ")") (two (codes "(" ++ head) (behind a) (behind b)) ∙ list-text None head (more a (more b none))

pub three-text : (head : List ℕ) (a b c : Form) → codes "(" ++ head ++ behind a ++ behind b ++ behind c ++ codes ")" ≡ text (headed None head (more a (more b (more c none))))
three-text head a b c = ap (λ (t : List ℕ). t ++ codes ")") (three (codes "(" ++ head) (behind a) (behind b) (behind c)) ∙ list-text None head (more a (more b (more c none)))

pub four-text : (head : List ℕ) (a b c d : Form) → codes "(" ++ head ++ behind a ++ behind b ++ behind c ++ behind d ++ codes ")" ≡ text (headed None head (more a (more b (more c (more d none)))))
four-text head a b c d = ap (λ (t : List ℕ). t ++ codes ")") (four (codes "(" ++ head) (behind a) (behind b) (behind c) (behind d)) ∙ list-text None head (more a (more b (more c (more d none))))

-- the last item with its bracket
closed : (front a : List ℕ) → front ++ (a ++ codes ")") ≡ front ++ a ++ codes ")"
closed front a = sym (append_assoc front a (codes ")"))

pub two-closed : (head : List ℕ) (a b : Form) → codes "(" ++ head ++ behind a ++ (behind b ++ codes ")") ≡ text (headed None head (more a (more b none)))
two-closed head a b = closed (codes "(" ++ head ++ behind a) (behind b) ∙ two-text head a b

pub three-closed : (head : List ℕ) (a b c : Form) → codes "(" ++ head ++ behind a ++ behind b ++ (behind c ++ codes ")") ≡ text (headed None head (more a (more b (more c none))))
three-closed head a b c = closed (codes "(" ++ head ++ behind a ++ behind b) (behind c) ∙ three-text head a b c

pub four-closed : (head : List ℕ) (a b c d : Form) → codes "(" ++ head ++ behind a ++ behind b ++ behind c ++ (behind d ++ codes ")") ≡ text (headed None head (more a (more b (more c (more d none)))))
four-closed head a b c d = closed (codes "(" ++ head ++ behind a ++ behind b ++ behind c) (behind d) ∙ four-text head a b c d

-- the whole, with the name behind a space
pub surface-text : (s : Surface) → codes "(" ++ spec_word s.version ++ (codes " " ++ s.name) ++ flat_map decl_line s.decls ++ codes ")\n" ≡ canonical s
unfolding canonical
surface-text s = ap (λ (t : List ℕ). t ++ flat_map decl_line s.decls ++ codes ")\n") (sym (append_assoc (codes "(" ++ spec_word s.version) (codes " ") s.name))

-- with more items behind none, one and two
pub items-text : {X : Type 0} (f : X → Form) (head : List ℕ) (xs : List X) → codes "(" ++ head ++ flat_map (λ x. codes " " ++ text (f x)) xs ++ codes ")" ≡ text (headed None head (forms (map f xs)))
items-text f head xs = ap (λ (t : List ℕ). codes "(" ++ head ++ t ++ codes ")") (behinds-flat f xs) ∙ list-text None head (forms (map f xs))

pub one-items-text : {X : Type 0} (f : X → Form) (head : List ℕ) (a : Form) (xs : List X) → codes "(" ++ head ++ behind a ++ flat_map (λ x. codes " " ++ text (f x)) xs ++ codes ")" ≡ text (headed None head (more a (forms (map f xs))))
one-items-text f head a xs =
    ap (λ (t : List ℕ). codes "(" ++ head ++ behind a ++ t ++ codes ")") (behinds-flat f xs)
    ∙ ap (λ (t : List ℕ). t ++ codes ")") (append_assoc (codes "(" ++ head) (behind a) (behinds (forms (map f xs))))
    ∙ list-text None head (more a (forms (map f xs)))

pub two-items-text : {X : Type 0} (f : X → Form) (head : List ℕ) (a b : Form) (xs : List X) → codes "(" ++ head ++ behind a ++ behind b ++ flat_map (λ x. codes " " ++ text (f x)) xs ++ codes ")" ≡ text (headed None head (more a (more b (forms (map f xs)))))
two-items-text f head a b xs =
    ap (λ (t : List ℕ). codes "(" ++ head ++ behind a ++ behind b ++ t ++ codes ")") (behinds-flat f xs)
    ∙ ap (λ (t : List ℕ). t ++ codes ")") (append_assoc (codes "(" ++ head ++ behind a) (behind b) (behinds (forms (map f xs))) ∙ append_assoc (codes "(" ++ head) (behind a) (behind b ++ behinds (forms (map f xs))))
    ∙ list-text None head (more a (more b (forms (map f xs))))

-- ---- items in a row

pub separated-texts : {X : Type 0} (f : X → Form) (xs : List X) → separated (codes " ") [] (map (λ x. text (f x)) xs) ≡ texts (forms (map f xs))
separated-texts f [] = refl
separated-texts f (x ∷ []) = append-nil (text (f x))
separated-texts f (x ∷ y ∷ ys) =
    ap (λ (t : List ℕ). text (f x) ++ (codes " " ++ t)) (separated-texts f (y ∷ ys)) ∙ sym (append_assoc (text (f x)) (codes " ") (texts (forms (map f (y ∷ ys)))))
