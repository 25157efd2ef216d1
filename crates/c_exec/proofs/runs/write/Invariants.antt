use Rattle.std.proofs.Common.{◌≡◌, length, drop}
use Rattle.c_exec.specs.Runs.{written}
use Rattle.c_exec.proofs.runs.write.Given as goal

abbrev pub invariant-loop-word : goal.invariant-loop-word
invariant-loop-word l = record {
  rest : written l.to (drop l.word-index l.run) l.words ≡ written l.at l.run l.fn.words;
  long : length l.words ≡ length l.fn.words;
}
