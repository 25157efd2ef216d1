-- Items that are read one after another.
use Rattle.std.proofs.Common.{◌≡◌, ℕ, suc, ◌+◌, ◌<◌, refl, ap, sym, ◌∙◌, List, [], ◌∷◌, ◌++◌, map, get_or, take, drop, length, Bool, true, None, arith, drop-cons}
use Rattle.std.proofs.lemmas.Grind.{common_steps}
use Rattle.std.proofs.lemmas.List.{take_more}
use Rattle.spec_forest.specs.Node.{Node, nodes, node}
use Rattle.spec_forest.specs.declared.tree.Tree.{Tree}
use Rattle.spec_text.specs.Form.{Form, forms, Matches, AllMatch}
use Rattle.spec_text.specs.KeepsTable.{all_kept}
use Rattle.spec_text.specs.Shape.{Place, count}
use Rattle.spec_text.specs.FirstFault.{or_else, fault_in, fault_among}
use Rattle.spec_text.specs.Holds.{Holds, AllHold}
use Rattle.sm_io.proofs.Elements.{map_push}

-- the first items are read, and have no fault
pub record Along {T : Type 0} (as_form : T → Form) (keeps : T → Bool) (p : Place) (trees : List Tree) (i : ℕ) (vs : List T) : Type 0 where
  pub left : fault_among [] p (nodes (map node trees)) ≡ fault_among [] p (nodes (map node (drop i trees)))
  pub held : AllHold as_form keeps (nodes (map node (take i trees))) vs

match_more : (fs : List Form) (xs : List Node) (f : Form) (x : Node) → AllMatch (forms fs) (nodes xs) → Matches f x → AllMatch (forms (fs ++ f ∷ [])) (nodes (xs ++ x ∷ []))
match_more [] [] f x h m = (m, tt)
match_more [] (y ∷ ys) f x h m = elim h [ ]
match_more (g ∷ gs) [] f x h m = elim h [ ]
match_more (g ∷ gs) (y ∷ ys) f x h m = (h.0, match_more gs ys f x h.1 m)

kept_more : (bs : List Bool) → all_kept bs ≡ true → all_kept (bs ++ true ∷ []) ≡ true
kept_more bs h = grind (arith, common_steps)

count_more : (xs : List Node) (x : Node) → count (nodes (xs ++ x ∷ [])) ≡ count (nodes xs) + 1
count_more [] x = refl
count_more (y ∷ ys) x = ap (λ n. n + 1) (count_more ys x)

length_one : {A : Type 0} (xs : List A) (x : A) → length (xs ++ x ∷ []) ≡ length xs + 1
length_one xs x = grind (arith, common_steps)

hold_more : {T : Type 0} (as_form : T → Form) (keeps : T → Bool) (xs : List Tree) (x : Tree) (vs : List T) (v : T) → AllHold as_form keeps (nodes (map node xs)) vs → Holds as_form keeps (node x) v → AllHold as_form keeps (nodes (map node (xs ++ x ∷ []))) (vs ++ v ∷ [])
hold_more as_form keeps xs x vs v all one =
    rw (map_push node xs x, map_push as_form vs v, map_push keeps vs v) (
      match_more (map as_form vs) (map node xs) (as_form v) (node x) all.0 one.0,
      rw one.1 (kept_more (map keeps vs) all.1),
      length_one (map keeps vs) (keeps v) ∙ ap (λ n. n + 1) all.2 ∙ sym (count_more (map node xs) (node x)),
    )

pub start : {T : Type 0} (as_form : T → Form) (keeps : T → Bool) (p : Place) (trees : List Tree) → Along as_form keeps p trees 0 []
start as_form keeps p trees = record { left = refl; held = (tt, refl, refl) }

here : (p : Place) (trees : List Tree) (i : ℕ) (x d : Tree) → i < length trees → x ≡ get_or trees i d → fault_among [] p (nodes (map node (drop i trees))) ≡ or_else (fault_in p (node x)) (fault_among [] p (nodes (map node (drop (i + 1) trees))))
here p trees i x d low is =
    let next : suc i ≡ i + 1 = omega arith in
    rw is (ap (λ ts. fault_among [] p (nodes (map node ts))) (drop-cons trees i d low ∙ ap (λ k. get_or trees i d ∷ drop k trees) next))

pub step : {T : Type 0} (as_form : T → Form) (keeps : T → Bool) (p : Place) (trees : List Tree) (i : ℕ) (vs : List T) (x d : Tree) (v : T) → i < length trees → x ≡ get_or trees i d → Along as_form keeps p trees i vs → fault_in p (node x) ≡ None → Holds as_form keeps (node x) v → Along as_form keeps p trees (i + 1) (vs ++ v ∷ [])
step as_form keeps p trees i vs x d v low is along fine holds = record {
  left = along.left ∙ here p trees i x d low is ∙ ap (λ f. or_else f (fault_among [] p (nodes (map node (drop (i + 1) trees))))) fine;
  held = rw (take_more trees i d low, ← is) (hold_more as_form keeps (take i trees) x vs v along.held holds);
}
