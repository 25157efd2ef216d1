use Rattle.std.proofs.Common.{◌≡◌, ◌*◌, true, false, nat_lt, sym, ap, ◌∙◌, subst, arith}
use Rattle.std.specs.Prelude.{if◌then◌else◌}
use Rattle.std.proofs.lemmas.Bool.Decides.{nat_tests}
use Rattle.type_check.specs.declared.fault.TypeFault.TheVariants.{NestedArray, TypeTooWide}
use Rattle.type_check.specs.NamedType.{array, is_array, words}
use Rattle.type_check.specs.Judged.{has, lacks}
use Rattle.type_check.specs.Standing.{is_type, is_fault, Means, HasWords}
use Rattle.type_check.proofs.Reasons.{verdict_is, is_array_means, means_array, wide}
use Rattle.type_check.proofs.structs.Structs.array.Goals as goal

pub returns-in-Array : goal.returns-in-Array
returns-in-Array c = λ names ds t m w.
    let at = c.args.at in
    let e : is_array t ≡ true = is_array_means names _ t (subst (λ k. Means names k t) c.in-Array.is m) in
    verdict_is names (lacks (NestedArray at)) _ _ is_fault
    (sym (ap (λ b. if b then lacks (NestedArray at) else if nat_lt 1024 (c.args.n * words ds t) then lacks (TypeTooWide at) else has (array t c.args.n)) e))

pub returns-then-saturating_mul-gt-MOST_WORDS : goal.returns-then-saturating_mul-gt-MOST_WORDS
returns-then-saturating_mul-gt-MOST_WORDS c = λ names ds t m w.
    let at = c.args.at in
    let e : is_array t ≡ false = is_array_means names _ t (subst (λ k. Means names k t) c.in-Element.is m) in
    let h = subst (λ k. HasWords c.args.self.now.all.items k ds t) c.in-Element.is w in
    let f = wide c.args.n c.words.result c.saturating_mul.result (words ds t) c.saturating_mul.ensures (c.words.ensures ∙ h) in
    let g : nat_lt 1024 c.saturating_mul.result ≡ true = grind (arith, nat_tests) in
    verdict_is names (lacks (TypeTooWide at)) _ _ is_fault
    (sym (ap (λ b. if b then lacks (NestedArray at) else if nat_lt 1024 (c.args.n * words ds t) then lacks (TypeTooWide at) else has (array t c.args.n)) e
    ∙ ap (λ b. if b then lacks (TypeTooWide at) else has (array t c.args.n)) (sym f ∙ g)))

pub returns-else-saturating_mul-gt-MOST_WORDS : goal.returns-else-saturating_mul-gt-MOST_WORDS
returns-else-saturating_mul-gt-MOST_WORDS c = λ names ds t m w.
    let at = c.args.at in
    let n = subst (λ k. Means names k t) c.in-Element.is m in
    let e : is_array t ≡ false = is_array_means names _ t n in
    let h = subst (λ k. HasWords c.args.self.now.all.items k ds t) c.in-Element.is w in
    let f = wide c.args.n c.words.result c.saturating_mul.result (words ds t) c.saturating_mul.ensures (c.words.ensures ∙ h) in
    let g : nat_lt 1024 c.saturating_mul.result ≡ false = grind (arith, nat_tests) in
    verdict_is names (has (array t c.args.n)) _ _ (is_type (means_array names c.in-Element.elem c.args.n t n))
    (sym (ap (λ b. if b then lacks (NestedArray at) else if nat_lt 1024 (c.args.n * words ds t) then lacks (TypeTooWide at) else has (array t c.args.n)) e
    ∙ ap (λ b. if b then lacks (TypeTooWide at) else has (array t c.args.n)) (sym f ∙ g)))
