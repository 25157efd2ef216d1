use Rattle.std.proofs.Common.{◌≡◌, ◌++◌, take}
use Rattle.c_exec.proofs.pile.Pile.extend.Given as goal

abbrev pub invariant-loop-word : goal.invariant-loop-word
invariant-loop-word l = record {
  items : l.self.items ≡ take l.fn.self.room (l.fn.self.items ++ take l.word-index l.run);
  room : l.self.room ≡ l.fn.self.room;
}
