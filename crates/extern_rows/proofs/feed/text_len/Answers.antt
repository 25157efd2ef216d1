use Rattle.std.proofs.Common.{length, ap, ◌∙◌}
use Rattle.std.specs.Option.{unwrap_or}
use Rattle.extern_rows.specs.Lines.{is_break}
use Rattle.extern_rows.proofs.Feeds.{unwrap_or-position}
use Rattle.extern_rows.proofs.feed.text_len.Goals as goal

pub returns : goal.returns
returns c = c.unwrap_or.ensures ∙ ap (λ o. unwrap_or o (length c.args.piece.now)) c.break_at.ensures ∙ unwrap_or-position is_break c.args.piece.now
