-- What the translation makes of the nodes and the items of a specification, each with its defs written out.
use Rattle.std.specs.Prelude.{ℕ, ◌<◌, ◌≤◌, List, length, map, All}
use Rattle.stream_types.specs.declared.scalar.Ty.{Ty}
use Rattle.stream_types.specs.declared.types.TypeEntry.{TypeEntry}
use Rattle.stream_types.specs.Types.{fields_of}
use Rattle.stream_types.specs.TypeList.{Stands}
use Rattle.stream_core.specs.declared.node.Node.{Node}
use Rattle.stream_core.specs.declared.node.Node.TheVariants as node
use Rattle.stream_core.specs.declared.spec.Root.{Root}
use Rattle.stream_core.specs.declared.spec.StreamItem.{StreamItem}
use Rattle.stream_core.specs.declared.spec.TriggerItem.{TriggerItem}
use Rattle.stream_core.specs.Value.{SpecValue}
use Rattle.stream_core.specs.Term.{TreeRoot, TreeStream, TreeTrigger, build, closed, closed_def, value_count}
use Rattle.stream_core.specs.Meaning.{closed_spec}
use Rattle.c99_tree.specs.declared.expr.CExpr.{CExpr}
use Rattle.c99_tree.specs.declared.types.CProto.{CProto}
use Rattle.c99_tree.specs.declared.unit.CRing.{CRing}
use Rattle.c99_tree.specs.declared.unit.CStmt.{CStmt}
use Rattle.ring_codegen.specs.CTypes.{c_type}
use Rattle.ring_codegen.specs.Translation.{entry_of, next_statement, ring_of, translated, trigger_statement, write_statements}

-- ---- nodes

abbrev pub expression_of : SpecValue → ℕ → CExpr
expression_of s i = translated (closed_spec s) (closed s i)

abbrev pub form_of : SpecValue → Node → CExpr
form_of s n = translated (closed_spec s) (build s.libs (closed_def s) (closed s) n)

abbrev pub IsNoDef : Node → Type 0
IsNoDef (node.Def d) = ⊥
IsNoDef _ = Unit {0}

-- the type is a struct with a member at this place
abbrev pub HasMemberAt : List TypeEntry → Ty → ℕ → Type 0
HasMemberAt types of k = k < length (fields_of (entry_of types of))

-- what a node names besides other nodes is there, and it is no def
abbrev pub NamesWhatIsThere : SpecValue → Node → Type 0
NamesWhatIsThere s (node.Extern x) = x < length s.externs
NamesWhatIsThere s (node.Stream x) = x < length s.streams
NamesWhatIsThere s (node.Drop x k) = x < length s.streams
NamesWhatIsThere s (node.Def d) = ⊥
NamesWhatIsThere s (node.Index t a i) = Stands s.types t
NamesWhatIsThere s (node.Field t k a) = HasMemberAt s.types t k
NamesWhatIsThere s (node.Array t es) = Stands s.types t
NamesWhatIsThere s (node.Record t es) = Stands s.types t
NamesWhatIsThere s _ = Unit {0}

-- ---- items

abbrev pub closed_root : SpecValue → Root → TreeRoot
closed_root s r = record { expr = closed s r.expr; ty = r.ty; at = r.at }

abbrev pub closed_stream : SpecValue → StreamItem → TreeStream
closed_stream s x = record { name = x.name; ty = x.ty; init = x.init; expr = closed s x.expr; at = x.at }

abbrev pub closed_trigger : SpecValue → TriggerItem → TreeTrigger
closed_trigger s x = record { name = x.name; guard = closed_root s x.guard; args = map (closed_root s) x.args }

-- a stream of 1 to 65,536 initial values of a type of the list
pub record IsRingItem (types : List TypeEntry) (x : StreamItem) : Type 0 where
  pub stands : Stands types x.ty
  pub some : 1 ≤ value_count types x.ty x.init
  pub most : value_count types x.ty x.init ≤ 65536

abbrev pub item_call : SpecValue → TriggerItem → CStmt
item_call s x = trigger_statement (closed_spec s) (closed_trigger s x)

abbrev pub item_next : SpecValue → StreamItem → CStmt
item_next s x = next_statement (closed_spec s) (closed_stream s x)

abbrev pub item_writes : SpecValue → StreamItem → List CStmt
item_writes s x = write_statements s.types (closed_stream s x)

abbrev pub item_ring : SpecValue → StreamItem → CRing
item_ring s x = ring_of s.types (closed_stream s x)

-- the types of a trigger's arguments are of the list
abbrev pub HasStandingArgs : List TypeEntry → TriggerItem → Type 0
HasStandingArgs types x = All (λ (r : Root). Stands types r.ty) x.args

-- a handler with the types of this trigger's arguments
abbrev pub item_handler : SpecValue → TriggerItem → CProto
item_handler s x = record { name = x.name; params = map (λ (r : Root). c_type s.types r.ty) x.args }
