-- When an option that is made of options has a value.
use Rattle.std.proofs.Common.{Option, Some, None, refl}
use Rattle.std.specs.Prelude.{IsSome}
use Rattle.std.specs.Option.{option_map, option_and_then}

pub map-some : {A B : Type 0} (f : A → B) (o : Option A) → IsSome (option_map f o) → IsSome o
map-some f None h = absurd (cc h)
map-some f (Some a) h = refl

pub some-map : {A B : Type 0} (f : A → B) (o : Option A) → IsSome o → IsSome (option_map f o)
some-map f None h = absurd (cc h)
some-map f (Some a) h = refl

pub both-some : {A B C : Type 0} (k : A → B → C) (o : Option A) (p : Option B) → IsSome (option_and_then (λ a. option_map (k a) p) o) → IsSome o × IsSome p
both-some k None p h = absurd (cc h)
both-some k (Some a) None h = absurd (cc h)
both-some k (Some a) (Some b) h = (refl, refl)

pub some-both : {A B C : Type 0} (k : A → B → C) (o : Option A) (p : Option B) → IsSome o → IsSome p → IsSome (option_and_then (λ a. option_map (k a) p) o)
some-both k None p h g = absurd (cc h)
some-both k (Some a) None h g = absurd (cc g)
some-both k (Some a) (Some b) h g = refl
