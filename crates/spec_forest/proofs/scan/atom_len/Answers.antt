use Rattle.std.proofs.Common.{◌≡◌, ap, ◌∙◌, length, arith}
use Rattle.std.specs.List.{prefix_len}
use Rattle.std.specs.Option.{unwrap_or}
use Rattle.std.proofs.lemmas.List.Sums.{prefix_len-le-length}
use Rattle.spec_forest.specs.Tokens.{is_letter}
use Rattle.spec_forest.proofs.Holding.{front-length}
use Rattle.spec_forest.proofs.scan.atom_len.Goals as goal

count-is : (c : goal.After-unwrap_or) → c.unwrap_or.result ≡ prefix_len is_letter c.args.text.now
count-is c = c.unwrap_or.ensures ∙ ap (λ o. unwrap_or o (length c.args.text.now)) c.first_other.ensures ∙ front-length is_letter c.args.text.now

pub returns : goal.returns
returns c = record { count = count-is c; within = omega (arith, count-is c, prefix_len-le-length is_letter c.args.text.now) }
