-- Each node of a lowered specification is within a lowered tree of the source, or within a buffer.
use Rattle.std.proofs.Common.{◌≡◌, ◌⊎◌, inl, inr, ⊎_elim, ℕ, ◌<◌, ◌+◌, List, [], ◌++◌, length, map, sym, ap, ◌∙◌, subst, arith}
use Rattle.std.proofs.lemmas.Bool.{cases_lt}
use Rattle.stream_core.specs.declared.node.Node.{Node}
use Rattle.stream_core.specs.declared.spec.StreamItem.{StreamItem}
use Rattle.stream_core.specs.Value.{SpecValue}
use Rattle.stream_core.specs.Term.{Term, TreeStream, tree, trees}
use Rattle.stream_core.specs.Lower.{all_buffers, buffer_of, lowered, lowered_spec}
use Rattle.stream_lib.specs.Built.{IsPartOfOne, Makes, tree_at}
use Rattle.stream_lib.specs.Made.{MakesStreams}
use Rattle.stream_lib.specs.Renamed.{AddsLowered, IsOfLowered, IsPartOfLowered, starts_of}
use Rattle.form_laws.proofs.OutOfSpecs.{map_length}
use Rattle.stream_lib.proofs.AddedParts.{one_back}
use Rattle.stream_lib.proofs.MadeStreams.{exprs, exprs_both}

pub adds_lowered_none : (source s : SpecValue) (n : ℕ) → AddsLowered source s s n
adds_lowered_none source s n = record { parts = λ j low high. absurd (omega (arith, low, high)) }

one_later : (source : SpecValue) (n : ℕ) (e : Term) → IsPartOfLowered source n e → IsPartOfLowered source (n + 1) e
one_later source n e h = record { node = h.node; there = let b = h.there in omega (arith, b); part = h.part }

pub adds_lowered_more : (source s t u : SpecValue) (n id : ℕ) → AddsLowered source s t n → Makes t u id (lowered (starts_of source) (tree source.nodes source.libs n)) → AddsLowered source s u (n + 1)
adds_lowered_more source s t u n id a m = record {
  parts = λ j low high. ⊎_elim
      (λ below. subst (IsPartOfLowered source (n + 1)) (sym (m.grows.trees j below)) (one_later source n _ (a.parts j low below)))
      (λ above. record { node = n; there = omega arith; part = m.adds.parts j above high })
      (cases_lt j (length t.nodes));
}

-- of the lowered specification, its buffers behind n streams
abbrev old_streams : SpecValue → ℕ → List TreeStream
old_streams source n = map (λ (x : TreeStream). record x { expr = lowered (buffer_of n (trees source).libs) x.expr }) (trees source).streams

abbrev new_streams : SpecValue → ℕ → List TreeStream
new_streams source n = all_buffers (lowered (buffer_of n (trees source).libs)) 1 n (trees source).libs

abbrev IsFound : SpecValue → Term → Type 0
IsFound source e = IsPartOfLowered source (length source.nodes) e ⊎ IsPartOfOne e (exprs (lowered_spec (trees source)).streams)

all_streams : (source : SpecValue) → exprs (lowered_spec (trees source)).streams ≡ exprs (old_streams source (length source.streams)) ++ exprs (new_streams source (length source.streams))
all_streams source = ap (λ n. exprs (old_streams source n ++ new_streams source n)) (map_length _ source.streams) ∙ exprs_both (old_streams source (length source.streams)) (new_streams source (length source.streams))

-- the whole, where s has the source's nodes lowered, and t the buffers' besides
pub whole_parts : (source v s t u : SpecValue) (xs : List StreamItem) → v.nodes ≡ [] → AddsLowered source v s (length source.nodes)
    → MakesStreams s t xs (all_buffers (lowered (starts_of source)) 1 (length source.streams) (trees source).libs)
    → u.nodes ≡ t.nodes → IsOfLowered source u
unfolding tree_at
whole_parts source v s t u xs none own made same = record {
  parts = λ j high. subst (IsFound source) (sym (ap (λ (ns : List Node). tree ns [] j) same)) (at j (subst (λ (ns : List Node). j < length ns) same high));
}
  where
    at : (j : ℕ) → j < length t.nodes → IsFound source (tree_at t j)
    at j high = ⊎_elim
        (λ below. inl (subst (IsPartOfLowered source (length source.nodes)) (sym (made.grows.trees j below)) (own.parts j (let l = ap (λ (ns : List Node). length ns) none in omega (arith, l)) below)))
        (λ above. inr (subst (IsPartOfOne (tree_at t j)) (sym (all_streams source)) (one_back (tree_at t j) (exprs (old_streams source (length source.streams))) (exprs (new_streams source (length source.streams))) (made.adds.parts j above high))))
        (cases_lt j (length s.nodes))
