use Rattle.std.proofs.Common.{length}
use Rattle.type_check.proofs.names_in.+member_in.Given as goal

abbrev pub decreases-member_in : goal.decreases-member_in
decreases-member_in l = length l.members.now
