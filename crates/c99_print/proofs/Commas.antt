-- Texts with commas between them.
use Rattle.std.proofs.Common.{◌≡◌, ◌≢◌, ℕ, List, [], ◌∷◌, ◌++◌, map, codes, refl, sym, ap, ◌∙◌, append_assoc, append-nil}
use Rattle.sm_print.proofs.Printing.{separated}
use Rattle.c99_tree.specs.declared.expr.CExpr.{CExpr}
use Rattle.c99_tree.specs.Tree.{tree, exprs}
use Rattle.c99_tree.specs.Values.{Value, values}
use Rattle.c99_tree.specs.Spelling.{text, parted, constant, constants, with_commas, params_text, type_text}
use Rattle.c99_tree.specs.declared.types.CTy.{CTy}

pub with_commas-separated : (all : List (List ℕ)) → with_commas all ≡ separated (codes ", ") [] all
with_commas-separated [] = refl
with_commas-separated (a ∷ []) = sym (append-nil a)
with_commas-separated (a ∷ b ∷ all) =
    ap (λ (x : List ℕ). a ++ codes ", " ++ x) (with_commas-separated (b ∷ all)) ∙ simp append_assoc

pub constants-separated : (before : List ℕ) (vs : List Value) → constants before (values vs) ≡ separated (codes ", ") before (map constant vs)
constants-separated before [] = refl
constants-separated before (v ∷ vs) = ap (λ (x : List ℕ). before ++ constant v ++ x) (constants-separated (codes ", ") vs)

pub constants-with_commas : (vs : List Value) → constants [] (values vs) ≡ with_commas (map constant vs)
constants-with_commas vs = constants-separated [] vs ∙ sym (with_commas-separated (map constant vs))

pub parted-separated : (before : List ℕ) (es : List CExpr) → parted before (exprs (map tree es)) ≡ separated (codes ", ") before (map (λ e. text (tree e)) es)
parted-separated before [] = refl
parted-separated before (e ∷ es) = ap (λ (x : List ℕ). before ++ text (tree e) ++ x) (parted-separated (codes ", ") es)

pub params-listed : (ts : List CTy) → ts ≢ [] → params_text ts ≡ with_commas (map type_text ts)
params-listed [] h = absurd (h refl)
params-listed (t ∷ ts) h = refl
