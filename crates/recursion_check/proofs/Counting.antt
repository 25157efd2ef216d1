-- The words of a specification are those of its items.
use Rattle.std.proofs.Common.{◌≡◌, ℕ, zero, suc, ◌+◌, ◌-◌, max, List, [], ◌∷◌, ◌++◌, length, map, replicate, refl, sym, ap, ◌∙◌, arith}
use Rattle.std.specs.Prelude.{All}
use Rattle.std.proofs.lemmas.List.{length-map}
use Rattle.stream_types.specs.declared.types.TypeEntry.{TypeEntry}
use Rattle.stream_types.specs.Types.{bits, signed, words}
use Rattle.stream_types.specs.Numbers.{word, least, greatest}
use Rattle.stream_core.specs.declared.node.LibForm.{LibForm}
use Rattle.stream_core.specs.declared.node.LibForm.TheVariants as form
use Rattle.stream_core.specs.declared.spec.ExternItem.{ExternItem}
use Rattle.stream_core.specs.declared.spec.StreamItem.{StreamItem}
use Rattle.stream_core.specs.declared.spec.LibItem.{LibItem}
use Rattle.stream_core.specs.Value.{SpecValue}
use Rattle.stream_core.specs.Term.{Term, TreeStream, tree, trees}
use Rattle.stream_core.specs.Lower.{lowered, buffer_of, buffers, buffers_of, all_buffers}
use Rattle.stream_core.specs.Soundness.{total_words}
use Rattle.stream_core.specs.WellTyped.{WellTyped, operand_types}
use Rattle.stream_core.specs.Weights.{total, heavy, operands, IsGoodItem}
use Rattle.stream_core.proofs.Roots.{items_good}
use Rattle.stream_core.proofs.WholeWeight.{sum_is, stream_with, stream_tree, lib_tree}
use Rattle.recursion_check.specs.Counted.{form_words, streams_words, libs_words, externs_words}

length_replicate : (m w : ℕ) → length (replicate m w) ≡ m
length_replicate zero w = refl
length_replicate (suc m) w = ap suc (length_replicate m w)

-- the words of these streams
abbrev inits : List TreeStream → ℕ
inits xs = total (map (λ (x : TreeStream). length x.init) xs)

inits_append : (xs ys : List TreeStream) → inits (xs ++ ys) ≡ inits xs + inits ys
inits_append [] ys = omega arith
inits_append (x ∷ xs) ys = let h = inits_append xs ys in omega (arith, h)

form_inits : (f : LibForm) (number b at : ℕ) (ps : List Term) → length ps ≡ length (operand_types f) → inits (buffers_of f number b at ps) ≡ form_words f
form_inits form.Once number b at ps e = refl
form_inits form.Historically number b at ps e = refl
form_inits form.Since number b at ps e = refl
form_inits (form.Clock period phase) number b at ps e = refl
form_inits form.Yesterday number b at (p ∷ ps) e = refl
form_inits form.WeaklyYesterday number b at (p ∷ ps) e = refl
form_inits (form.OnceIn low high) number b at (p ∷ ps) e = let l = length_replicate (max high 1) 0 in omega (arith, l)
form_inits (form.HistoricallyIn low high) number b at (p ∷ ps) e = let l = length_replicate (max high 1) 1 in omega (arith, l)
form_inits (form.SinceIn low high) number b at (p ∷ q ∷ ps) e = let l = length_replicate (max high 1) 1 in let m = length_replicate (max high 1) 0 in omega (arith, l, m)
form_inits (form.WindowMax n s) number b at (p ∷ ps) e = let l = length_replicate (max (n - 1) 1) (word (least (bits s) (signed s))) in omega (arith, l)
form_inits (form.WindowMin n s) number b at (p ∷ ps) e = let l = length_replicate (max (n - 1) 1) (word (greatest (bits s) (signed s))) in omega (arith, l)
form_inits (form.WindowSum n s) number b at (p ∷ ps) e = let l = length_replicate (max (n - 1) 1) 0 in omega (arith, l)
form_inits form.Yesterday number b at [] e = absurd (omega (arith, e))
form_inits form.WeaklyYesterday number b at [] e = absurd (omega (arith, e))
form_inits (form.OnceIn low high) number b at [] e = absurd (omega (arith, e))
form_inits (form.HistoricallyIn low high) number b at [] e = absurd (omega (arith, e))
form_inits (form.SinceIn low high) number b at [] e = absurd (omega (arith, e))
form_inits (form.SinceIn low high) number b at (p ∷ []) e = absurd (omega (arith, e))
form_inits (form.WindowMax n s) number b at [] e = absurd (omega (arith, e))
form_inits (form.WindowMin n s) number b at [] e = absurd (omega (arith, e))
form_inits (form.WindowSum n s) number b at [] e = absurd (omega (arith, e))

operand_count : (f : LibForm) (p q : ℕ) → length (operands f p q) ≡ length (operand_types f)
operand_count form.Once p q = refl
operand_count form.Historically p q = refl
operand_count form.Yesterday p q = refl
operand_count form.WeaklyYesterday p q = refl
operand_count form.Since p q = refl
operand_count (form.OnceIn low high) p q = refl
operand_count (form.HistoricallyIn low high) p q = refl
operand_count (form.SinceIn low high) p q = refl
operand_count (form.Clock period phase) p q = refl
operand_count (form.WindowMax n s) p q = refl
operand_count (form.WindowMin n s) p q = refl
operand_count (form.WindowSum n s) p q = refl

-- as many operands as the form wants, also as trees
pub args_count : (s : SpecValue) (x : LibItem) (f g : Term → Term) → IsGoodItem s x → length (map f (map (tree s.nodes s.libs) x.args)) ≡ length (operand_types x.form)
args_count s x f g good = length-map (map (tree s.nodes s.libs) x.args) f ∙ length-map x.args (tree s.nodes s.libs) ∙ sym (length-map x.args (heavy s)) ∙ ap length good.weights ∙ operand_count x.form _ _

module _ (s : SpecValue) where
  abbrev low : Term → Term
  low = lowered (buffer_of (length (trees s).streams) (trees s).libs)

  declared_inits : (xs : List StreamItem) → inits (map (stream_with s low) (map (stream_tree s) xs)) ≡ streams_words xs
  declared_inits [] = refl
  declared_inits (x ∷ xs) = let h = declared_inits xs in omega (arith, h)

  libs_inits : (xs : List LibItem) (number b : ℕ) → All (IsGoodItem s) xs → inits (all_buffers low number b (map (lib_tree s) xs)) ≡ libs_words xs
  libs_inits [] number b all = refl
  libs_inits (x ∷ xs) number b all =
      let own = form_inits x.form number b x.at (map low (map (tree s.nodes s.libs) x.args)) (args_count s x low low (all 0 x (omega arith))) in
      let rest = libs_inits xs (number + buffers x.form) (b + buffers x.form) (λ k d h. all (suc k) d (omega (arith, h))) in
      let a = inits_append (buffers_of x.form number b x.at (map low (map (tree s.nodes s.libs) x.args))) (all_buffers low (number + buffers x.form) (b + buffers x.form) (map (lib_tree s) xs)) in
      omega (arith, own, rest, a)

  externs_total : (types : List TypeEntry) (xs : List ExternItem) → total (map (λ (x : ExternItem). words types x.ty) xs) ≡ externs_words types xs
  externs_total types [] = refl
  externs_total types (x ∷ xs) = ap (λ n. words types x.ty + n) (externs_total types xs)

  pub words_are : WellTyped s → total_words (trees s) ≡ streams_words s.streams + libs_words s.libs + externs_words s.types s.externs
  words_are w =
      let n = length (trees s).streams in
      let declared = map (stream_with s low) (map (stream_tree s) s.streams) in
      let own = all_buffers low 1 n (map (lib_tree s) s.libs) in
      let a = sum_is (map (λ (x : TreeStream). length x.init) (declared ++ own)) ∙ inits_append declared own in
      let d = declared_inits s.streams in
      let l = libs_inits s.libs 1 n (items_good s w) in
      let e = sum_is (map (λ (x : ExternItem). words s.types x.ty) s.externs) ∙ externs_total s.types s.externs in
      omega (arith, a, d, l, e)
