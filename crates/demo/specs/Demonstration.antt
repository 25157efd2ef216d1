-- The specification that a demonstration runs.
use Rattle.std.specs.Prelude.{ℕ, ◌+◌, ◌%◌, [], ◌∷◌, ◌++◌, map, codes, decimal}
use Rattle.std.specs.List.{range_with_len}
use Rattle.stream_types.specs.declared.scalar.Scalar.TheVariants as scalar
use Rattle.stream_types.specs.declared.scalar.Op2.TheVariants as op2
use Rattle.stream_core.specs.Term.{TreeRoot, TreeSpec, TreeStream, TreeTrigger, bin, dropped, lit, stream}
use Rattle.stream_core.specs.WellTyped.{bool, word32}

-- how many steps stream i looks ahead
abbrev pub ahead : ℕ → ℕ
ahead i = i % 8

-- Stream i begins with the numbers from i to i + ahead i, and goes on with one more than its value so many steps ahead.
abbrev pub demo_stream : ℕ → TreeStream
demo_stream i = record {
  name = codes "s" ++ decimal i;
  ty = word32;
  init = range_with_len i (ahead i + 1);
  expr = bin op2.Add scalar.Word32 (dropped i (ahead i)) (lit scalar.Word32 1);
  at = 0;
}

-- Trigger i fires with the value of stream i where seven divides it.
abbrev pub demo_guard : ℕ → TreeRoot
demo_guard i = record { expr = bin op2.Eq scalar.Word32 (bin op2.Rem scalar.Word32 (stream i) (lit scalar.Word32 7)) (lit scalar.Word32 0); ty = bool; at = 0 }

abbrev pub demo_argument : ℕ → TreeRoot
demo_argument i = record { expr = stream i; ty = word32; at = 0 }

abbrev pub demo_trigger : ℕ → TreeTrigger
demo_trigger i = record { name = codes "h" ++ decimal i; guard = demo_guard i; args = demo_argument i ∷ [] }

-- the first n streams and the first m triggers
abbrev pub demo_part : ℕ → ℕ → TreeSpec
demo_part n m = record {
  name = codes "demo";
  types = [];
  externs = [];
  streams = map demo_stream (range_with_len 0 n);
  defs = [];
  triggers = map demo_trigger (range_with_len 0 m);
  observers = [];
  libs = [];
}

-- a demonstration of k streams
abbrev pub demo_spec : ℕ → TreeSpec
demo_spec k = demo_part k k
