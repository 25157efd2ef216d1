-- What the parts of a machine keep of its program.
use Rattle.std.specs.Prelude.{◌≡◌, ℕ, List, length, map, None}
use Rattle.c99_tree.specs.declared.unit.Unit.{Unit as CUnit}
use Rattle.c99_tree.specs.Evaluation.{Statics}
use Rattle.c99_tree.specs.Typed.{IsStatics}
use Rattle.c99_tree.specs.WellFormed.{IsWellFormed}
use Rattle.c_exec.specs.declared.machine.Machine.TheInside.{Inside}
use Rattle.c_exec.specs.Codes.{act_of}
use Rattle.c_exec.specs.Layout.{locals_width}
use Rattle.c_exec.specs.Logs.{rooms_of}
use Rattle.c_exec.specs.Machine.{words_of_statics}
use Rattle.c_exec.specs.Needs.{rooms_for}
use Rattle.c_exec.specs.Resolving.{acts_for}

-- words of statics as a program declares them
abbrev pub AreStatics : CUnit → List ℕ → Type 0
AreStatics u ws = (s : Statics) × IsStatics u s × (ws ≡ words_of_statics s)

-- the program is well formed, the statements are its own, there is room for them, and the words are those of statics unless
-- something undefined was met
pub record IsMachine (m : Inside) : Type 0 where
  pub well_formed : IsWellFormed m.unit.now
  pub lines : map act_of m.lines.items ≡ acts_for m.unit.now
  pub rooms : rooms_of m.pile m.log ≡ rooms_for (acts_for m.unit.now)
  pub locals : length m.locals.items ≡ locals_width m.unit.now
  pub statics : m.met ≡ None → AreStatics m.unit.now m.statics.items
