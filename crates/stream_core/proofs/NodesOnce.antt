-- Nodes that are kept once each.
use Rattle.std.proofs.Common.{◌≡◌, inl, inr, ⊎_elim, ℕ, zero, suc, ◌+◌, ◌<◌, ◌≤◌, Bool, true, false, List, [], ◌∷◌, ◌++◌, length, Some, refl, sym, ap, ◌∙◌, subst, arith}
use Rattle.std.specs.Prelude.{slice_get, not, ◌||◌, if◌then◌else◌}
use Rattle.std.specs.List.{list_any, position_or_len, AllByRecursion}
use Rattle.stream_types.proofs.GrownLists.{get_push}
use Rattle.stream_core.specs.declared.node.Node.{Node}
use Rattle.stream_core.specs.contracts.node.NodePartialEq.TheImpl.{ghosts}
use Rattle.stream_core.specs.contracts.node.NodeEq.TheImpl.Laws.{laws-law}
use Rattle.stream_core.specs.Value.{SpecValue}
use Rattle.stream_core.specs.Parts.{parts, IsNodeList}
use Rattle.stream_core.specs.Stored.{IsNewNode, IsPlaced}
use Rattle.stream_core.proofs.Trees.{all_map}
use Rattle.stream_core.proofs.Grown.{get_front}
use Rattle.std.proofs.lemmas.List.{length-append}
use Rattle.std.proofs.lemmas.Option.{slice_get_within}
use Rattle.sm_io.proofs.Truths.{neither_passes}

pub none_passes : {X : Type 0} (p : X → Bool) (ks : List X) → list_any p ks ≡ false → (i : ℕ) (k : X) → slice_get ks i ≡ Some k → p k ≡ false
none_passes p [] h i k e = absurd (cc)
none_passes p (x ∷ ks) h zero k e = let q = (neither_passes (p x) (list_any p ks) h).0 in let s : x ≡ k = cc in ap p (sym s) ∙ q
none_passes p (x ∷ ks) h (suc i) k e = none_passes p ks (neither_passes (p x) (list_any p ks) h).1 i k e

-- where none passes, the first that passes would stand behind all
behind_all : (p : Node → Bool) (ks : List Node) → list_any p ks ≡ false → position_or_len p ks ≡ length ks
behind_all p [] h = refl
behind_all p (x ∷ ks) h =
    let q = neither_passes (p x) (list_any p ks) h in
    let rest = behind_all p ks q.1 in
    let here : position_or_len p (x ∷ ks) ≡ 1 + position_or_len p ks = ap (λ b. if not b then 1 + position_or_len p ks else 0) q.0 in
    omega (arith, here, rest)

-- a node that no kept node equals is new
new_node : (ks : List Node) (n : Node) → list_any (ghosts.eq n) ks ≡ false → IsNewNode ks n
new_node ks n h i e = let f = none_passes (ghosts.eq n) ks h i n e in let t = laws-law.refl n in absurd (cc)

-- what `insert_full` answers
pub placed_is : (s : SpecValue) (ks' : List Node) (n : Node) (i : ℕ)
    → ks' ≡ (if list_any (ghosts.eq n) s.nodes then s.nodes else s.nodes ++ n ∷ [])
    → i ≡ position_or_len (ghosts.eq n) s.nodes
    → slice_get ks' i ≡ Some n
    → IsPlaced s (record s { nodes = ks' }) n i
placed_is s ks' n i keys at there = by (list_any (ghosts.eq n) s.nodes) refl
  where
    by : (b : Bool) → list_any (ghosts.eq n) s.nodes ≡ b → IsPlaced s (record s { nodes = ks' }) n i
    by true e =
        let old : ks' ≡ s.nodes = keys ∙ ap (λ b. if b then s.nodes else s.nodes ++ n ∷ []) e in
        inl (ap (λ ks. slice_get ks i) (sym old) ∙ there, ap (λ ks. record s { nodes = ks }) old)
    by false e =
        let new : ks' ≡ s.nodes ++ n ∷ [] = keys ∙ ap (λ b. if b then s.nodes else s.nodes ++ n ∷ []) e in
        inr (new_node s.nodes n e, at ∙ behind_all (ghosts.eq n) s.nodes e, ap (λ ks. record s { nodes = ks }) new)

-- a new node whose parts are there may come last
list_more : (ks : List Node) (n : Node) → IsNodeList ks → AllByRecursion (λ j. j < length ks) (parts n) → IsNewNode ks n → IsNodeList (ks ++ n ∷ [])
list_more ks n list below new = record {
  below = λ i m e. ⊎_elim
      (λ front. list.below i m front.1)
      (λ last. subst (λ m. AllByRecursion (λ j. j < i) (parts m)) last.1 (all_map (parts n) (λ j b. omega (arith, b, last.0)) below))
      (get_push ks n m i e);
  once = λ i j m e f. ⊎_elim
      (λ front. ⊎_elim
      (λ other. list.once i j m front.1 other.1)
      (λ last. absurd (new i (front.1 ∙ ap Some (sym last.1))))
      (get_push ks n m j f))
      (λ last. ⊎_elim
      (λ other. absurd (new j (other.1 ∙ ap Some (sym last.1))))
      (λ again. last.0 ∙ sym again.0)
      (get_push ks n m j f))
      (get_push ks n m i e);
}

pub list_placed : (s t : SpecValue) (n : Node) (i : ℕ) → IsNodeList s.nodes → AllByRecursion (λ j. j < length s.nodes) (parts n) → IsPlaced s t n i → IsNodeList t.nodes
list_placed s t n i list below placed =
    let nodes : SpecValue → List Node = λ v. v.nodes in
    ⊎_elim
    (λ old. subst IsNodeList (ap nodes (sym old.1)) list)
    (λ new. subst IsNodeList (ap nodes (sym new.2)) (list_more s.nodes n list below new.0))
    placed

-- the same of a specification that is seen as `now`
pub placed_from : (s now : SpecValue) → s ≡ now → (ks' : List Node) (n : Node) (i : ℕ)
    → ks' ≡ (if list_any (ghosts.eq n) s.nodes then s.nodes else s.nodes ++ n ∷ [])
    → i ≡ position_or_len (ghosts.eq n) s.nodes
    → slice_get ks' i ≡ Some n
    → IsPlaced now (record s { nodes = ks' }) n i
placed_from s now e ks' n i keys at there = subst (λ v. IsPlaced v (record s { nodes = ks' }) n i) e (placed_is s ks' n i keys at there)

pub list_from : (s now : SpecValue) → s ≡ now → (ks' : List Node) (n : Node) (i : ℕ)
    → ks' ≡ (if list_any (ghosts.eq n) s.nodes then s.nodes else s.nodes ++ n ∷ [])
    → i ≡ position_or_len (ghosts.eq n) s.nodes
    → slice_get ks' i ≡ Some n
    → IsNodeList s.nodes → AllByRecursion (λ j. j < length now.nodes) (parts n) → IsNodeList ks'
list_from s now e ks' n i keys at there list below =
    list_placed s (record s { nodes = ks' }) n i list (subst (λ (v : SpecValue). AllByRecursion (λ j. j < length v.nodes) (parts n)) (sym e) below) (placed_is s ks' n i keys at there)

-- earlier numbers keep their nodes
pub nodes_kept : (s t : SpecValue) (n : Node) (i : ℕ) → IsPlaced s t n i → (j : ℕ) (m : Node) → slice_get s.nodes j ≡ Some m → slice_get t.nodes j ≡ Some m
nodes_kept s t n i placed j m e =
    let nodes : SpecValue → List Node = λ v. v.nodes in
    ⊎_elim
    (λ old. ap (λ ks. slice_get ks j) (ap nodes old.1) ∙ e)
    (λ new. ap (λ ks. slice_get ks j) (ap nodes new.2) ∙ get_front s.nodes (n ∷ []) j (slice_get_within s.nodes j m e) ∙ e)
    placed

pub nodes_grow : (s t : SpecValue) (n : Node) (i : ℕ) → IsPlaced s t n i → length s.nodes ≤ length t.nodes
nodes_grow s t n i placed =
    let size : SpecValue → ℕ = λ v. length v.nodes in
    ⊎_elim
    (λ old. let e = ap size old.1 in omega (arith, e))
    (λ new. let e = ap size new.2 in let f = length-append s.nodes (n ∷ []) in omega (arith, e, f))
    placed
