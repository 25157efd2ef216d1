use Rattle.std.proofs.Common.{◌≡◌, ◌+◌, ◌-◌, false, min, length, take, None, ap, sym, ◌∙◌, arith, length-take}
use Rattle.std.specs.Option.{option_map}
use Rattle.std.specs.Vec.{with_items}
use Rattle.std.proofs.lemmas.List.{with_items_is}
use Rattle.extern_rows.specs.Lines.{longest_line, first_line}
use Rattle.extern_rows.specs.Feeding.{Feeding}
use Rattle.extern_rows.specs.FeedLimits.{fault_of}
use Rattle.extern_rows.proofs.Feeds.{text_of, some_bytes, kept, push_past_count, push_past_length, push_in_room}
use Rattle.extern_rows.proofs.feed.Feed.push.Goals as goal

pub returns-in-Some-clause-fed : goal.returns-in-Some-clause-fed
returns-in-Some-clause-fed c =
    sym (kept c.args.self.now (fault_of c.in-Some.limit) (first_line c.args.piece.now) (ap (λ (g : Feeding). g.refusal) (sym c.self.view_is) ∙ ap (option_map fault_of) c.in-Some.is))

pub returns-then-self-gt-LAST_LINE-clause-fed : goal.returns-then-self-gt-LAST_LINE-clause-fed
returns-then-self-gt-LAST_LINE-clause-fed c =
    let f : Feeding = record { line = take c.self.inside.at c.self.inside.space.items; number = c.self.inside.number; whole = c.self.inside.whole; refusal = option_map fault_of c.self.inside.refusal } in
    let w : c.self.inside.whole ≡ false = ap (λ (g : Feeding). g.whole) c.self.view_is ∙ c.requires in
    let r : option_map fault_of c.self.inside.refusal ≡ None = ap (option_map fault_of) c.in-None.is in
    rw (← c.self.view_is) (push_past_count f c.args.piece.now w r c.if-self-gt-LAST_LINE.true (some_bytes c.args.piece.now c.if-is_empty.ensures))

pub returns-then-count-text-clause-fed : goal.returns-then-count-text-clause-fed
returns-then-count-text-clause-fed c =
    let f : Feeding = record { line = take c.self.inside.at c.self.inside.space.items; number = c.self.inside.number; whole = c.self.inside.whole; refusal = option_map fault_of c.self.inside.refusal } in
    let w : c.self.inside.whole ≡ false = ap (λ (g : Feeding). g.whole) c.self.view_is ∙ c.requires in
    let r : option_map fault_of c.self.inside.refusal ≡ None = ap (option_map fault_of) c.in-None.is in
    let len : length c.self.inside.space.items ≡ longest_line = ap length (sym c.deref_mut.ensures.value) ∙ c.deref_mut.ensures.len ∙ c.self.invariant.0 in
    let at : length (take c.self.inside.at c.self.inside.space.items) ≡ c.self.inside.at = omega (arith, length-take c.self.inside.at c.self.inside.space.items, len, c.self.invariant.1) in
    let cut = rw c.text_len.ensures at c.if-count-text.true in
    let put = rw (c.text_len.ensures, c.deref_mut.ensures.value) at c.fill-count.ensures.taken in
    let items : (with_items c.self.inside.space c.fill-count.new.space).items ≡ c.fill-count.new.space =
    with_items_is c.self.inside.space c.fill-count.new.space (c.fill-count.ensures.same ∙ c.deref_mut.ensures.len) in
    let is = rw (c.text_len.ensures, c.deref_mut.ensures.value, len) at c.fill-count.ensures.count in
    let count : c.fill-count.result ≡ min (longest_line - length (take c.self.inside.at c.self.inside.space.items)) (length (text_of c.args.piece.now)) = rw at is in
    rw (← c.self.view_is) (push_past_length f c.args.piece.now (take (c.self.inside.at + c.fill-count.result) (with_items c.self.inside.space c.fill-count.new.space).items) c.fill-count.result w r c.if-self-gt-LAST_LINE.false (omega (arith, at, c.self.invariant.1)) count cut (ap (take (c.self.inside.at + c.fill-count.result)) items ∙ put))

pub returns-clause-fed : goal.returns-clause-fed
returns-clause-fed c =
    let f : Feeding = record { line = take c.self.inside.at c.self.inside.space.items; number = c.self.inside.number; whole = c.self.inside.whole; refusal = option_map fault_of c.self.inside.refusal } in
    let w : c.self.inside.whole ≡ false = ap (λ (g : Feeding). g.whole) c.self.view_is ∙ c.requires in
    let r : option_map fault_of c.self.inside.refusal ≡ None = ap (option_map fault_of) c.in-None.is in
    let len : length c.self.inside.space.items ≡ longest_line = ap length (sym c.deref_mut.ensures.value) ∙ c.deref_mut.ensures.len ∙ c.self.invariant.0 in
    let at : length (take c.self.inside.at c.self.inside.space.items) ≡ c.self.inside.at = omega (arith, length-take c.self.inside.at c.self.inside.space.items, len, c.self.invariant.1) in
    let cut = rw c.text_len.ensures at c.if-count-text.false in
    let put = rw (c.text_len.ensures, c.deref_mut.ensures.value) at c.fill-count.ensures.taken in
    let items : (with_items c.self.inside.space c.fill-count.new.space).items ≡ c.fill-count.new.space =
    with_items_is c.self.inside.space c.fill-count.new.space (c.fill-count.ensures.same ∙ c.deref_mut.ensures.len) in
    let is = rw (c.text_len.ensures, c.deref_mut.ensures.value, len) at c.fill-count.ensures.count in
    let count : c.fill-count.result ≡ min (longest_line - length (take c.self.inside.at c.self.inside.space.items)) (length (text_of c.args.piece.now)) = rw at is in
    rw (← c.self.view_is) (push_in_room f c.args.piece.now (take (c.self.inside.at + c.fill-count.result) (with_items c.self.inside.space c.fill-count.new.space).items) c.fill-count.result w r c.if-self-gt-LAST_LINE.false (omega (arith, at, c.self.invariant.1)) count cut (ap (take (c.self.inside.at + c.fill-count.result)) items ∙ put))
