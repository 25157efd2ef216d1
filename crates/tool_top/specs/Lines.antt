-- The line that an outcome has on the error sink.
use Rattle.std.specs.Prelude.{ℕ, List, [], ◌∷◌, ◌++◌, codes, decimal}
use Rattle.std.specs.List.{flat_map}
use Rattle.tool_top.specs.declared.outcome.Tool.{Tool}
use Rattle.tool_top.specs.declared.outcome.Tool.TheVariants.{Copilot, Ogma}
use Rattle.tool_top.specs.declared.outcome.Outcome.{Outcome}
use Rattle.tool_top.specs.declared.outcome.Outcome.TheVariants.{Done, Refused, Usage, Hazard, Undefined, BadRow, ReadFault, WriteFault, Missing, NoMemory}
use Rattle.tool_top.specs.declared.outcome.Refusal.{Refusal}
use Rattle.tool_top.specs.declared.outcome.RefusalKind.{RefusalKind}
use Rattle.tool_top.specs.declared.outcome.RefusalKind.TheVariants as kind
use Rattle.stream_types.specs.declared.scalar.Hazard.{Hazard as HazardKind}
use Rattle.stream_types.specs.declared.scalar.Hazard.TheVariants as hazard
use Rattle.c99_tree.specs.declared.undefined.Undefined.{Undefined as UndefinedKind}
use Rattle.c99_tree.specs.declared.undefined.Undefined.TheVariants as undefined
use Rattle.extern_rows.specs.declared.fault.RowFault.{RowFault}
use Rattle.extern_rows.specs.declared.fault.RowFault.TheVariants as row
use Rattle.tool_top.specs.declared.tell.Place.{Place}
use Rattle.tool_top.specs.declared.tell.Place.TheVariants as place

-- the word of a kind
abbrev pub kind_word : RefusalKind → List ℕ
kind_word kind.TextTooLong = codes "TextTooLong"
kind_word kind.TooManyDecls = codes "TooManyDecls"
kind_word kind.TooManyWords = codes "TooManyWords"
kind_word kind.SpecTooHeavy = codes "SpecTooHeavy"
kind_word kind.NotHeader = codes "NotHeader"
kind_word kind.NotSource = codes "NotSource"
kind_word kind.NotWellFormed = codes "NotWellFormed"
kind_word kind.NotJson = codes "NotJson"
kind_word kind.NoComponent = codes "NoComponent"
kind_word kind.BadByte = codes "BadByte"
kind_word kind.Unbalanced = codes "Unbalanced"
kind_word kind.TooDeep = codes "TooDeep"
kind_word kind.BadForm = codes "BadForm"
kind_word kind.BadName = codes "BadName"
kind_word kind.BadLiteral = codes "BadLiteral"
kind_word kind.Redeclared = codes "Redeclared"
kind_word kind.Unknown = codes "Unknown"
kind_word kind.TypeClash = codes "TypeClash"
kind_word kind.NestedArray = codes "NestedArray"
kind_word kind.TypeTooWide = codes "TypeTooWide"
kind_word kind.DropOfNoBuffer = codes "DropOfNoBuffer"
kind_word kind.DropTooFar = codes "DropTooFar"
kind_word kind.Cycle = codes "Cycle"
kind_word kind.RootTooHeavy = codes "RootTooHeavy"
kind_word kind.BadVariableEntry = codes "BadVariableEntry"
kind_word kind.BadRequirementEntry = codes "BadRequirementEntry"
kind_word kind.BadVariable = codes "BadVariable"
kind_word kind.BadRequirement = codes "BadRequirement"
kind_word kind.NotOldLayout = codes "NotOldLayout"
kind_word kind.BadFormula = codes "BadFormula"
kind_word kind.FormulaTooDeep = codes "FormulaTooDeep"
kind_word kind.NotYet = codes "NotYet"

-- which numbers a kind tells
abbrev pub place_of : RefusalKind → Place
place_of kind.TextTooLong = place.Nowhere
place_of kind.TooManyDecls = place.Nowhere
place_of kind.TooManyWords = place.Nowhere
place_of kind.SpecTooHeavy = place.Nowhere
place_of kind.NotHeader = place.Nowhere
place_of kind.NotSource = place.Nowhere
place_of kind.NotWellFormed = place.Nowhere
place_of kind.NotJson = place.Nowhere
place_of kind.NoComponent = place.Nowhere
place_of kind.BadVariableEntry = place.Item
place_of kind.BadRequirementEntry = place.Item
place_of kind.BadVariable = place.Item
place_of kind.BadRequirement = place.Item
place_of kind.NotOldLayout = place.Item
place_of kind.BadFormula = place.Formula
place_of kind.FormulaTooDeep = place.Requirement
place_of _ = place.Offset

-- the numbers as they are told
abbrev pub place_text : Place → ℕ → ℕ → List ℕ
place_text place.Nowhere item at = codes "\n"
place_text place.Offset item at = flat_map (λ piece. piece) (codes " at " ∷ decimal at ∷ codes "\n" ∷ [])
place_text place.Item item at = flat_map (λ piece. piece) (codes " " ∷ decimal item ∷ codes "\n" ∷ [])
place_text place.Requirement item at = flat_map (λ piece. piece) (codes " in requirement " ∷ decimal item ∷ codes "\n" ∷ [])
place_text place.Formula item at =
    flat_map (λ piece. piece) (codes " in requirement " ∷ decimal item ∷ codes " at " ∷ decimal at ∷ codes "\n" ∷ [])

abbrev pub refusal_line : Refusal → List ℕ
refusal_line refusal =
    flat_map (λ piece. piece) (codes "error: " ∷ kind_word refusal.kind ∷ []) ++ place_text (place_of refusal.kind) refusal.item refusal.at

abbrev pub hazard_word : HazardKind → List ℕ
hazard_word hazard.Overflow = codes "Overflow"
hazard_word hazard.ZeroDivisor = codes "ZeroDivisor"
hazard_word hazard.BadShift = codes "BadShift"
hazard_word hazard.BadIndex = codes "BadIndex"

abbrev pub undefined_word : UndefinedKind → List ℕ
undefined_word undefined.Overflow = codes "Overflow"
undefined_word undefined.ZeroDivisor = codes "ZeroDivisor"
undefined_word undefined.BadShift = codes "BadShift"
undefined_word undefined.BadIndex = codes "BadIndex"
undefined_word undefined.BadConversion = codes "BadConversion"

-- a step at which the run stopped, under a title
abbrev pub step_line : List ℕ → List ℕ → ℕ → List ℕ
step_line title word step = flat_map (λ piece. piece) (title ∷ word ∷ codes " at step " ∷ decimal step ∷ codes "\n" ∷ [])

-- a fault of a row, where the leaf that it speaks of has this name
abbrev pub row_words : RowFault → List ℕ → List (List ℕ)
row_words (row.NoColumn leaf) name = codes "NoColumn " ∷ name ∷ []
row_words (row.TwoColumns leaf) name = codes "TwoColumns " ∷ name ∷ []
row_words row.BadRecord name = codes "BadRecord" ∷ [] ∷ []
row_words (row.BadField leaf) name = codes "BadField " ∷ name ∷ []
row_words row.LineTooLong name = codes "LineTooLong" ∷ [] ∷ []
row_words row.TooManyLines name = codes "TooManyLines" ∷ [] ∷ []
row_words row.Memory name = codes "Memory" ∷ [] ∷ []

abbrev pub row_line : RowFault → List ℕ → ℕ → List ℕ
row_line fault name line =
    flat_map (λ piece. piece) (codes "row: " ∷ []) ++ flat_map (λ piece. piece) (row_words fault name)
    ++ flat_map (λ piece. piece) (codes " at line " ∷ decimal line ∷ codes "\n" ∷ [])

abbrev pub usage_line : Tool → List ℕ
usage_line Copilot = codes "usage: copilot compile SPEC NAME | interpret SPEC | cexec NAME | demo K T | migrate OLD NEW\n"
usage_line Ogma = codes "usage: ogma standalone REQS SPEC | cfs REQS NAME | ros REQS NAME | fprime REQS NAME\n"

-- the line of a tool's outcome, where the missing file or the leaf that it speaks of has this name
abbrev pub line_of : Tool → List ℕ → Outcome → List ℕ
line_of tool name Done = []
line_of tool name (Refused refusal) = refusal_line refusal
line_of tool name Usage = usage_line tool
line_of tool name (Hazard step kind) = step_line (codes "hazard: ") (hazard_word kind) step
line_of tool name (Undefined step kind) = step_line (codes "undefined: ") (undefined_word kind) step
line_of tool name (BadRow line fault) = row_line fault name line
line_of tool name ReadFault = codes "read fault\n"
line_of tool name WriteFault = codes "write fault\n"
line_of tool name Missing = flat_map (λ piece. piece) (codes "missing: " ∷ name ∷ codes "\n" ∷ [])
line_of tool name NoMemory = codes "no memory\n"
