use Rattle.std.proofs.Common.{◌≡◌, ◌+◌, ◌<◌, ◌≤◌, ◌++◌, ◌∷◌, [], length, take, set, Ok, refl, sym, ap, ◌∙◌, subst, arith}
use Rattle.std.specs.Vec.{with_items}
use Rattle.std.proofs.lemmas.List.{with_items_is}
use Rattle.stream_core.specs.Library.{bind}
use Rattle.stream_core.specs.Eval.{concat_values}
use Rattle.stream_interp.specs.EventLog.{IsFilled, LogValue, events_in, used, who_of}
use Rattle.stream_interp.specs.Roots.{closed_roots, roots_words}
use Rattle.stream_interp.specs.Seen.{now_moment}
use Rattle.stream_interp.proofs.LogLists.{added_used, added_value, count_events, filled_stays, still_filled}
use Rattle.stream_interp.proofs.events.Log.add.Goals as goal

pub invariant_of-self : goal.invariant_of-self
invariant_of-self g c =
    let s = c.args.sight.now.spec.now in
    let old = c.self.inside.words.items in
    let new = c.write_values.new.words in
    let filled = c.self.invariant in
    let items : (with_items c.self.inside.words new).items ≡ new = with_items_is c.self.inside.words new (c.write_values.auto.words ∙ c.deref_mut.ensures.len) in
    let front : take c.self.inside.end new ≡ take c.self.inside.end old = c.in_err-end.ensures.front ∙ ap (take c.self.inside.end) c.deref_mut.ensures.value in
    let long : length new ≡ length old = c.write_values.auto.words ∙ ap length c.deref_mut.ensures.value in
    subst (λ ws. IsFilled ws c.self.inside.end c.self.inside.marks.items c.self.inside.count) (sym items)
    (filled_stays old new c.self.inside.end c.self.inside.marks.items c.self.inside.count filled long front)

pub invariant_of-self-2 : goal.invariant_of-self-2
invariant_of-self-2 g c =
    let s = c.args.sight.now.spec.now in
    let old = c.self.inside.words.items in
    let new = c.write_values.new.words in
    let filled = c.self.invariant in
    let items : (with_items c.self.inside.words new).items ≡ new = with_items_is c.self.inside.words new (c.write_values.auto.words ∙ c.deref_mut.ensures.len) in
    let front : take c.self.inside.end new ≡ take c.self.inside.end old = c.in_ok-end.ensures.front ∙ ap (take c.self.inside.end) c.deref_mut.ensures.value in
    let long : length new ≡ length old = c.write_values.auto.words ∙ ap length c.deref_mut.ensures.value in
    let e : c.in_ok-end.end ≡ c.self.inside.end + roots_words s.types c.args.roots.now = c.in_ok-end.ensures.end in
    let events : events_in old (take c.self.inside.count c.self.inside.marks.items) ≡ c.args.self.now.events = ap (λ (v : LogValue). v.events) c.self.view_is in
    let u : used c.args.self.now.events ≡ c.self.inside.end = ap used (sym events) ∙ filled.used_are in
    let n : length c.args.self.now.events ≡ c.self.inside.count = ap length (sym events) ∙ count_events old c.self.inside.marks.items c.self.inside.count filled.counted in
    let from : c.self.inside.end ≤ c.in_ok-end.end = omega (arith, e) in
    let to : c.in_ok-end.end ≤ length new = omega (arith, e, u, long, c.requires.words, ap (λ (v : LogValue). v.words) c.self.view_is, ap length c.deref_mut.ensures.value, c.deref_mut.ensures.len) in
    let less : c.self.inside.count < length c.self.inside.marks.items = omega (arith, n, c.requires.mark, ap (λ (v : LogValue). v.marks) c.self.view_is, c.self.inside.marks.ok.0) in
    subst (λ ws. IsFilled ws c.in_ok-end.end (set c.self.inside.marks.items c.self.inside.count (record { who = c.args.who; first = c.self.inside.end; end = c.in_ok-end.end })) (c.self.inside.count + 1)) (sym items)
    (still_filled old new c.self.inside.end c.self.inside.marks.items c.self.inside.count filled (record { who = c.args.who; first = c.self.inside.end; end = c.in_ok-end.end }) refl from to less front)

pub returns-clause-value : goal.returns-clause-value
returns-clause-value g c =
    let s = c.args.sight.now.spec.now in
    let old = c.self.inside.words.items in
    let new = c.write_values.new.words in
    let filled = c.self.invariant in
    let items : (with_items c.self.inside.words new).items ≡ new = with_items_is c.self.inside.words new (c.write_values.auto.words ∙ c.deref_mut.ensures.len) in
    let front : take c.self.inside.end new ≡ take c.self.inside.end old = c.in_ok-end.ensures.front ∙ ap (take c.self.inside.end) c.deref_mut.ensures.value in
    let long : length new ≡ length old = c.write_values.auto.words ∙ ap length c.deref_mut.ensures.value in
    let e : c.in_ok-end.end ≡ c.self.inside.end + roots_words s.types c.args.roots.now = c.in_ok-end.ensures.end in
    let events : events_in old (take c.self.inside.count c.self.inside.marks.items) ≡ c.args.self.now.events = ap (λ (v : LogValue). v.events) c.self.view_is in
    let u : used c.args.self.now.events ≡ c.self.inside.end = ap used (sym events) ∙ filled.used_are in
    let n : length c.args.self.now.events ≡ c.self.inside.count = ap length (sym events) ∙ count_events old c.self.inside.marks.items c.self.inside.count filled.counted in
    let from : c.self.inside.end ≤ c.in_ok-end.end = omega (arith, e) in
    let to : c.in_ok-end.end ≤ length new = omega (arith, e, u, long, c.requires.words, ap (λ (v : LogValue). v.words) c.self.view_is, ap length c.deref_mut.ensures.value, c.deref_mut.ensures.len) in
    let less : c.self.inside.count < length c.self.inside.marks.items = omega (arith, n, c.requires.mark, ap (λ (v : LogValue). v.marks) c.self.view_is, c.self.inside.marks.ok.0) in
    let m = now_moment s c.args.sight.now.rings.now c.args.sight.now.row.now in
    let value = concat_values m (closed_roots s c.args.roots.now) in
    ap (λ es. bind value (λ ws. Ok (es ++ record { who = who_of c.args.who; words = ws } ∷ []))) (sym events)
    ∙ added_value old new c.self.inside.end c.self.inside.marks.items c.self.inside.count filled c.args.who c.in_ok-end.end value from to less front c.in_ok-end.ensures.ok
    ∙ ap (λ ws. Ok (events_in ws (take (c.self.inside.count + 1) (set c.self.inside.marks.items c.self.inside.count (record { who = c.args.who; first = c.self.inside.end; end = c.in_ok-end.end }))))) (sym items)

pub returns-clause-used : goal.returns-clause-used
returns-clause-used g c =
    let s = c.args.sight.now.spec.now in
    let old = c.self.inside.words.items in
    let new = c.write_values.new.words in
    let filled = c.self.invariant in
    let items : (with_items c.self.inside.words new).items ≡ new = with_items_is c.self.inside.words new (c.write_values.auto.words ∙ c.deref_mut.ensures.len) in
    let front : take c.self.inside.end new ≡ take c.self.inside.end old = c.in_ok-end.ensures.front ∙ ap (take c.self.inside.end) c.deref_mut.ensures.value in
    let long : length new ≡ length old = c.write_values.auto.words ∙ ap length c.deref_mut.ensures.value in
    let e : c.in_ok-end.end ≡ c.self.inside.end + roots_words s.types c.args.roots.now = c.in_ok-end.ensures.end in
    let events : events_in old (take c.self.inside.count c.self.inside.marks.items) ≡ c.args.self.now.events = ap (λ (v : LogValue). v.events) c.self.view_is in
    let u : used c.args.self.now.events ≡ c.self.inside.end = ap used (sym events) ∙ filled.used_are in
    let n : length c.args.self.now.events ≡ c.self.inside.count = ap length (sym events) ∙ count_events old c.self.inside.marks.items c.self.inside.count filled.counted in
    let from : c.self.inside.end ≤ c.in_ok-end.end = omega (arith, e) in
    let to : c.in_ok-end.end ≤ length new = omega (arith, e, u, long, c.requires.words, ap (λ (v : LogValue). v.words) c.self.view_is, ap length c.deref_mut.ensures.value, c.deref_mut.ensures.len) in
    let less : c.self.inside.count < length c.self.inside.marks.items = omega (arith, n, c.requires.mark, ap (λ (v : LogValue). v.marks) c.self.view_is, c.self.inside.marks.ok.0) in
    let own = added_used old new c.self.inside.end c.self.inside.marks.items c.self.inside.count filled (record { who = c.args.who; first = c.self.inside.end; end = c.in_ok-end.end }) refl from to less front in
    ap (λ ws. used (events_in ws (take (c.self.inside.count + 1) (set c.self.inside.marks.items c.self.inside.count (record { who = c.args.who; first = c.self.inside.end; end = c.in_ok-end.end }))))) items ∙ own ∙ e ∙ ap (λ n. n + roots_words s.types c.args.roots.now) (sym u)
