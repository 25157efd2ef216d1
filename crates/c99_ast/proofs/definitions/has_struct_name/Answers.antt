use Rattle.std.proofs.Common.{ℕ, List, sym, ◌∙◌}
use Rattle.c99_tree.specs.declared.types.CVar.{CVar}
use Rattle.c99_tree.specs.Words.{is_same}
use Rattle.c99_tree.specs.Lookup.{structs_in}
use Rattle.c99_ast.proofs.Parting.{any_map}
use Rattle.c99_ast.proofs.definitions.has_struct_name.Goals as goal

pub returns : goal.returns
returns c = c.has_struct.ensures ∙ sym (any_map (is_same c.args.x.now) (λ (s : List ℕ × List CVar). s.0) (structs_in c.args.types.now))
