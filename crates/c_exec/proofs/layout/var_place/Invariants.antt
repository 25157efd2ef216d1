use Rattle.std.proofs.Common.{◌≡◌, ◌+◌, take, drop}
use Rattle.std.specs.List.{sum_by}
use Rattle.c99_tree.specs.Lookup.{place_of_var, var_of}
use Rattle.c_exec.specs.Layout.{var_width}
use Rattle.c_exec.proofs.layout.var_place.Given as goal

abbrev pub invariant-loop-v : goal.invariant-loop-v
invariant-loop-v l = record {
  at_is : l.at ≡ sum_by (var_width l.types) (take l.v-index l.vars);
  place : place_of_var l.vars l.x ≡ l.v-index + place_of_var (drop l.v-index l.vars) l.x;
  found : var_of l.vars l.x ≡ var_of (drop l.v-index l.vars) l.x;
}
