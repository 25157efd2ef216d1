use Rattle.std.proofs.lemmas.Nat.{or_lt}
use Rattle.stream_types.proofs.bitwise.or.Goals as goal

pub of_bits-requires : goal.of_bits-requires
of_bits-requires g c = or_lt _ _ _ c.to_bits.ensures.below c.to_bits-2.ensures.below
