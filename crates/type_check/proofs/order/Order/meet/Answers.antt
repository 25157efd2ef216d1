use Rattle.std.proofs.Common.{◌≡◌, Bool, true, false, List, [], ◌∷◌, ◌++◌, refl, sym, ap, ◌∙◌, subst}
use Rattle.std.specs.Prelude.{not, if◌then◌else◌}
use Rattle.std.specs.List.{list_any}
use Rattle.indexmap.specs.IndexSet.{IndexSet, contains, insert_key}
use Rattle.type_check.specs.declared.order.Order.{Order}
use Rattle.type_check.specs.declared.known.Known.{Known}
use Rattle.type_check.specs.declared.known.Known.TheVariants as known
use Rattle.type_check.specs.contracts.known.KnownPartialEq.TheImpl.{ghosts as known_eq}
use Rattle.type_check.specs.NamedType.{NamedType}
use Rattle.type_check.specs.Standing.{Means, Grows}
use Rattle.type_check.proofs.Answered.{on_then, on_each}
use Rattle.type_check.proofs.Reasons.{is_array_means, array_means}
use Rattle.type_check.proofs.Meeting.{meets_plain, meets_seen, meets_placed, meets_waits}
use Rattle.type_check.proofs.order.Order.meet.Goals as goal

pub returns-in_default-clause-grows : goal.returns-in_default-clause-grows
returns-in_default-clause-grows c = λ names t d m. meets_plain names c.args.closed c.args.self.now t (is_array_means names (known.Element c.in_default.field-0) t (subst (λ k. Means names k t) c.in_default.is m))

-- what was met, where it is new or not
keys_if : (ks : List Known) (k : Known) (b : Bool) → list_any (known_eq.eq k) ks ≡ b → insert_key known_eq.eq ks k ≡ (if b then ks else ks ++ k ∷ [])
keys_if ks k b h = ap (λ c. if c then ks else ks ++ k ∷ []) h

not_true : (a b : Bool) → a ≡ not b → a ≡ false → b ≡ true
not_true a true e f = refl
not_true a false e f = absurd (cc)

not_false : (a b : Bool) → a ≡ not b → a ≡ true → b ≡ false
not_false a true e f = absurd (cc)
not_false a false e f = refl

pub returns-then-not-branch-clause-grows : goal.returns-then-not-branch-clause-grows
returns-then-not-branch-clause-grows c = λ names t d m.
    let o : Order = c.args.self.now in
    let p : Order = record { alloc = o.alloc; met = c.insert.new.self; placed = o.placed; waiting = o.waiting } in
    let k = known.Array c.in-Array.elem c.in-Array.n in
    let u = subst (λ l. Means names l t) c.in-Array.is m in
    let seen : contains known_eq.eq o.met k ≡ true = not_true c.in_ok-insert.field-0 (contains known_eq.eq o.met k) c.in_ok-insert.ensures.added c.if-not-branch.true in
    meets_seen names d c.args.closed o p k t u (is_array_means names k t u) seen (c.in_ok-insert.ensures.keys ∙ keys_if o.met.keys k true seen) refl (λ i. refl)

pub returns-in-Some-clause-grows : goal.returns-in-Some-clause-grows
returns-in-Some-clause-grows c = λ names t d m.
    let o : Order = c.args.self.now in
    let p : Order = c.wait.new.self in
    let k = known.Array c.in-Array.elem c.in-Array.n in
    let a = array_means names c.in-Array.elem c.in-Array.n t (subst (λ l. Means names l t) c.in-Array.is m) in
    let fresh : contains known_eq.eq o.met k ≡ false = not_false c.in_ok-insert.field-0 (contains known_eq.eq o.met k) c.in_ok-insert.ensures.added c.if-not-branch.false in
    on_then c.wait.result (λ w.
    subst (λ (x : NamedType). Grows names c.args.closed o p (x ∷ [])) (sym a.is)
    (meets_waits names d c.args.closed o p c.in-Array.elem c.in-Array.n c.in-Some.number a.elem a.means fresh
    (ap (λ (q : IndexSet Known _). q.keys) c.wait.ensures.met ∙ c.in_ok-insert.ensures.keys ∙ keys_if o.met.keys k false fresh)
    (sym c.waits_for.ensures ∙ c.in-Some.is) c.wait.ensures.placed w))
    (on_each _ c.wait.result c.wait.ensures.waits)

pub returns-in_ok-push-in-None-clause-grows : goal.returns-in_ok-push-in-None-clause-grows
returns-in_ok-push-in-None-clause-grows c = λ names t d m.
    let o : Order = c.args.self.now in
    let p : Order = record { alloc = o.alloc; met = c.insert.new.self; placed = c.push.new.self; waiting = o.waiting } in
    let k = known.Array c.in-Array.elem c.in-Array.n in
    let a = array_means names c.in-Array.elem c.in-Array.n t (subst (λ l. Means names l t) c.in-Array.is m) in
    let fresh : contains known_eq.eq o.met k ≡ false = not_false c.in_ok-insert.field-0 (contains known_eq.eq o.met k) c.in_ok-insert.ensures.added c.if-not-branch.false in
    subst (λ (x : NamedType). Grows names c.args.closed o p (x ∷ [])) (sym a.is)
    (meets_placed names d c.args.closed o p c.in-Array.elem c.in-Array.n a.elem a.means fresh
    (c.in_ok-insert.ensures.keys ∙ keys_if o.met.keys k false fresh)
    (sym c.waits_for.ensures ∙ c.in-None.is)
    c.in_ok-push-in-None.ensures.ok (λ i. refl))
