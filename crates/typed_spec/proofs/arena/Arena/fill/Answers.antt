use Rattle.std.proofs.Common.{◌≡◌, ◌⊎◌, ℕ, ◌<◌, ◌≤◌, length, set, refl, sym, ap, ◌∙◌, subst, IfOk}
use Rattle.std.specs.Prelude.{Result, Ok, Err, Some, slice_get}
use Rattle.stream_core.specs.declared.node.Node.TheVariants as node
use Rattle.stream_core.specs.declared.spec.LibItem.{LibItem}
use Rattle.stream_core.specs.Value.{SpecValue}
use Rattle.typed_spec.specs.declared.arena.Arena.{Arena}
use Rattle.typed_spec.specs.Made.{Puts, Fills}
use Rattle.typed_spec.proofs.arena.Arena.fill.Goals as goal

-- the node of a form that took its place was put
fills_put : {E : Type 0} (a m u : Arena) (k s : ℕ) (item : LibItem) (r : Result ℕ E) → m.spec ≡ a.spec → m.forms.items ≡ set a.forms.items k item → u.forms ≡ m.forms → (k < 4294967296 → s ≡ k)
    → IfOk r (λ id. Puts m u (node.Lib s) id) → IfOk r (λ id. Fills a u k item id)
fills_put a m u k s item (Ok id) spec_is forms_are same short p = record {
  others = p.others ∙ ap (λ (x : SpecValue). record x { nodes = u.spec.nodes }) spec_is;
  kept = λ i n e. p.kept i n (subst (λ (x : SpecValue). slice_get x.nodes i ≡ Some n) (sym spec_is) e);
  size = subst (λ (x : SpecValue). length x.nodes ≤ length u.spec.nodes) spec_is p.size;
  forms_are = p.forms_are ∙ forms_are;
  there = λ few. p.there ∙ ap (λ (j : ℕ). Some (node.Lib j)) (short few);
  within = p.within;
  last = λ few i o e. subst (λ (x : SpecValue). (slice_get x.nodes i ≡ Some o) ⊎ ((o ≡ node.Lib k) × (length x.nodes ≤ i))) spec_is
      (subst (λ (j : ℕ). (slice_get m.spec.nodes i ≡ Some o) ⊎ ((o ≡ node.Lib j) × (length m.spec.nodes ≤ i))) (short few) (p.last i o e));
}
fills_put a m u k s item (Err e) spec_is forms_are same short p = tt

pub returns-clause-fills : goal.returns-clause-fills
returns-clause-fills c =
    fills_put c.args.self.now _ c.put.new.self c.args.number c.short.result c.args.item c.put.result refl refl c.put.ensures.forms c.short.ensures c.put.ensures.puts
