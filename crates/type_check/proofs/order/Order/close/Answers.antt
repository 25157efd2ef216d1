use Rattle.std.proofs.Common.{◌≡◌, ℕ, List, [], ◌∷◌, ◌++◌, refl, sym, ap, ◌∙◌, append_assoc}
use Rattle.std.specs.Prelude.{Option, option_copied}
use Rattle.std.specs.Option.{option_map_or}
use Rattle.type_check.specs.declared.order.Order.{Order}
use Rattle.type_check.specs.declared.known.Known.TheVariants as known
use Rattle.type_check.specs.declared.known.Element.TheVariants as element
use Rattle.type_check.specs.Standing.{waiting_at, arrays_of}
use Rattle.type_check.proofs.Answered.{on_then}
use Rattle.type_check.proofs.Meeting.{struct_ends}
use Rattle.type_check.proofs.order.Order.close.Goals as goal

pub returns-in-Some-clause-ends : goal.returns-in-Some-clause-ends
returns-in-Some-clause-ends c = λ names x d s.
    let o : Order = c.args.self.now in
    let p : Order = record { alloc = o.alloc; met = o.met; placed = c.place.new.placed; waiting = o.waiting } in
    let n = c.args.number in
    let e = known.Element (element.Struct n) in
    let l : c.in-Some.lengths.now ≡ waiting_at o n = ap (λ (w : Option (List ℕ)). option_map_or (λ ns. ns) w []) (ap option_copied (sym c.in-Some.is) ∙ c.get.ensures.value) in
    on_then c.place.result (λ q. struct_ends names d n o p x s
    (q ∙ ap (λ ks. ks ++ arrays_of n c.as_slice.result.now) c.in_ok-push.ensures.ok ∙ append_assoc o.placed (e ∷ []) (arrays_of n c.as_slice.result.now)
    ∙ ap (λ ns. o.placed ++ e ∷ arrays_of n ns) (c.as_slice.ensures ∙ l))
    refl (λ i. refl)) c.place.ensures.ok

pub returns-in-None-clause-ends : goal.returns-in-None-clause-ends
returns-in-None-clause-ends c = λ names x d s.
    let o : Order = c.args.self.now in
    let p : Order = record { alloc = o.alloc; met = o.met; placed = c.push.new.self; waiting = o.waiting } in
    let n = c.args.number in
    let l : [] ≡ waiting_at o n = ap (λ (w : Option (List ℕ)). option_map_or (λ ns. ns) w []) (ap option_copied (sym c.in-None.is) ∙ c.get.ensures.value) in
    struct_ends names d n o p x s (c.in_ok-push.ensures.ok ∙ ap (λ ns. o.placed ++ known.Element (element.Struct n) ∷ arrays_of n ns) l) refl (λ i. refl)
