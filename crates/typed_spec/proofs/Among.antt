-- Where the expressions of new nodes stand.
use Rattle.std.proofs.Common.{◌≡◌, ℕ, suc, ◌+◌, false, List, [], ◌∷◌, ◌++◌, length, map, refl, sym, ap, ◌∙◌, subst, arith}
use Rattle.std.specs.Prelude.{slice_get}
use Rattle.sm_io.proofs.Elements.{get_front}
use Rattle.stream_core.specs.declared.node.Node.{Node}
use Rattle.stream_core.specs.declared.node.Node.TheVariants as node
use Rattle.stream_core.specs.declared.node.LibForm.{LibForm}
use Rattle.stream_core.specs.declared.spec.LibItem.{LibItem}
use Rattle.stream_core.specs.Parts.{parts}
use Rattle.stream_core.specs.Term.{Term, lib, build, def, terms_of, TreeLib}
use Rattle.stream_core.specs.Children.{children, term_list}
use Rattle.stream_core.specs.PartOf.{the_whole, within}
use Rattle.typed_text.specs.ReadSpec.{terms}
use Rattle.typed_spec.specs.Made.{is_form, StandsAmong, in_expression, in_operand}

-- ---- the parts of a node

list_of : (f : ℕ → Term) (is : List ℕ) → term_list (terms_of f is) ≡ map f is
list_of f [] = refl
list_of f (i ∷ is) = ap (λ as_. f i ∷ as_) (list_of f is)

-- a node's tree is made of its parts' trees
pub children_are : (all : List LibItem) (f : ℕ → Term) (n : Node) → is_form n ≡ false → children (build all def f n) ≡ map f (parts n)
children_are all f (node.Lit s w) h = refl
children_are all f (node.Extern x) h = refl
children_are all f (node.Stream s) h = refl
children_are all f (node.Def d) h = refl
children_are all f (node.Drop s k) h = refl
children_are all f (node.Un o s a) h = refl
children_are all f (node.Bin o s a b) h = refl
children_are all f (node.Shift d s a cs c) h = refl
children_are all f (node.Cast x t a) h = refl
children_are all f (node.And a b) h = refl
children_are all f (node.Or a b) h = refl
children_are all f (node.Implies a b) h = refl
children_are all f (node.If c a b) h = refl
children_are all f (node.Index t a i) h = refl
children_are all f (node.Field t m a) h = refl
children_are all f (node.Array t es) h = list_of f es
children_are all f (node.Record t es) h = list_of f es
children_are all f (node.Abs s a) h = refl
children_are all f (node.Sign s a) h = refl
children_are all f (node.Majority s es) h = list_of f es
children_are all f (node.Agreed s es) h = list_of f es
children_are all f (node.Lib k) h = absurd (cc)

listed : (as_ : List Term) → term_list (terms as_) ≡ as_
listed [] = refl
listed (a ∷ as_) = ap (λ bs. a ∷ bs) (listed as_)

-- the operands of a library form are its parts
pub operands_are : (k : ℕ) (form : LibForm) (as_ : List Term) → children (lib k form (terms as_)) ≡ as_
operands_are k form as_ = listed as_

-- ---- longer lists

pub get_behind : {X : Type 0} (xs ys : List X) (i : ℕ) → slice_get (xs ++ ys) (length xs + i) ≡ slice_get ys i
get_behind [] ys i = ap (slice_get ys) (omega arith)
get_behind (x ∷ xs) ys i = let e : length (x ∷ xs) + i ≡ suc (length xs + i) = omega arith in ap (slice_get (x ∷ xs ++ ys)) e ∙ get_behind xs ys i

pub among_front : {es : List Term} {fs : List TreeLib} {e : Term} (as_ : List Term) (gs : List TreeLib) → StandsAmong es fs e → StandsAmong (es ++ as_) (fs ++ gs) e
among_front {es} {fs} {e} as_ gs (in_expression j w h p) = in_expression j w (get_front es as_ j w h) p
among_front {es} {fs} {e} as_ gs (in_operand j k x w h g p) = in_operand j k x w (get_front fs gs j x h) g p

pub among_back : {es : List Term} {fs : List TreeLib} {e : Term} (as_ : List Term) (gs : List TreeLib) → StandsAmong es fs e → StandsAmong (as_ ++ es) (gs ++ fs) e
among_back {es} {fs} {e} as_ gs (in_expression j w h p) = in_expression (length as_ + j) w (get_behind as_ es j ∙ h) p
among_back {es} {fs} {e} as_ gs (in_operand j k x w h g p) = in_operand (length gs + j) k x w (get_behind gs fs j ∙ h) g p

-- ---- an expression over others

-- what stands among an expression's parts stands in it
pub among_parts : {fs : List TreeLib} {e : Term} (as_ : List Term) (whole : Term) → children whole ≡ as_ → StandsAmong as_ fs e → StandsAmong (whole ∷ []) fs e
among_parts as_ whole c (in_expression j w h p) = in_expression 0 whole refl (within j (ap (λ bs. slice_get bs j) c ∙ h) p)
among_parts as_ whole c (in_operand j k x w h g p) = in_operand j k x w h g p

-- what stands among a form's operands stands in one of them
pub among_operands : {as_ : List Term} {fs : List TreeLib} {e : Term} (whole : Term) (x : TreeLib) → x.args ≡ as_ → StandsAmong as_ fs e → StandsAmong (whole ∷ []) (x ∷ fs) e
among_operands whole x c (in_expression j w h p) = in_operand 0 j x w refl (ap (λ bs. slice_get bs j) c ∙ h) p
among_operands whole x c (in_operand j k y w h g p) = in_operand (suc j) k y w h g p

pub among_itself : {fs : List TreeLib} (e whole : Term) → e ≡ whole → StandsAmong (whole ∷ []) fs e
among_itself {fs} e whole h = subst (StandsAmong (whole ∷ []) fs) (sym h) (in_expression 0 whole refl the_whole)
