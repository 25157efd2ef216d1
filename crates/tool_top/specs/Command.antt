-- The command table: which words are which command.
use Rattle.std.specs.Prelude.{ℕ, ◌≤◌, Bool, ◌&&◌, ◌||◌, ◌==◌, not, nat_le, nat_eq, if◌then◌else◌, List, [], ◌∷◌, ◌++◌, length, drop, codes, IsTrue}
use Rattle.std.specs.List.{list_all, list_any, starts_with}
use Rattle.std.specs.Cmp.Lexicographic.{pointwise}
use Rattle.sm_io.specs.Names.{is_name_byte}
use Rattle.sm_io.specs.Words.{is_name, has_front}
use Rattle.spec_words.specs.Decimals.{is_decimal_between, value_of}
use Rattle.tool_top.specs.declared.outcome.Tool.{Tool}
use Rattle.tool_top.specs.declared.outcome.Tool.TheVariants.{Copilot, Ogma}
use Rattle.tool_top.specs.declared.command.Command.{Command}
use Rattle.tool_top.specs.declared.command.Command.TheVariants as command

-- the names of a unit's two files
abbrev pub header_file : List ℕ → List ℕ
header_file name = name ++ codes ".h"

abbrev pub source_file : List ℕ → List ℕ
source_file name = name ++ codes ".c"

-- a letter, a digit, `_`, `-` or `.`
abbrev pub is_file_byte : ℕ → Bool
is_file_byte b = is_name_byte b || (b == 45) || (b == 46)

-- 1 to 255 such bytes, the first of them neither `.` nor `-`
abbrev pub is_file : List ℕ → Bool
is_file word = nat_le 1 (length word) && nat_le (length word) 255 && list_all is_file_byte word && not (has_front (codes "." ∷ codes "-" ∷ []) word)

-- a name with an ending
abbrev pub is_file_of : List ℕ → List ℕ → List ℕ → Bool
is_file_of file name end = starts_with nat_eq file name && pointwise nat_eq (drop (length name) file) end

-- a file is none of those with this name and one of these endings
abbrev pub is_apart : List (List ℕ) → List ℕ → List ℕ → Bool
is_apart ends file name = not (list_any (is_file_of file name) ends)

-- one word is the other
abbrev pub is_word : List ℕ → List ℕ → Bool
is_word word wanted = pointwise nat_eq word wanted

-- a row of the command table with its words
pub data CommandValue : Type 0 where
  compile : (spec name : List ℕ) → CommandValue
  interpret : (spec : List ℕ) → CommandValue
  cexec : (name : List ℕ) → CommandValue
  demo : (streams steps : ℕ) → CommandValue
  migrate : (old new : List ℕ) → CommandValue
  standalone : (reqs spec : List ℕ) → CommandValue
  cfs : (reqs name : List ℕ) → CommandValue
  ros : (reqs name : List ℕ) → CommandValue
  fprime : (reqs name : List ℕ) → CommandValue
  -- words of no row
  no_command : CommandValue

-- a command as clauses see it
abbrev pub value_of_command : Command → CommandValue
value_of_command (command.Compile spec name) = compile spec.now name.now
value_of_command (command.Interpret spec) = interpret spec.now
value_of_command (command.Cexec name) = cexec name.now
value_of_command (command.Demo streams steps) = demo streams steps
value_of_command (command.Migrate old new) = migrate old.now new.now
value_of_command (command.Standalone reqs spec) = standalone reqs.now spec.now
value_of_command (command.Cfs reqs name) = cfs reqs.now name.now
value_of_command (command.Ros reqs name) = ros reqs.now name.now
value_of_command (command.Fprime reqs name) = fprime reqs.now name.now
value_of_command command.NoCommand = no_command

-- The unit that a command makes has a name; a demonstration has at most 1,000 streams and 1,000,000 steps.
abbrev pub IsFit : CommandValue → Type 0
IsFit (compile spec name) = IsTrue (is_name name)
IsFit (migrate old new) = IsTrue (is_name new)
IsFit (demo streams steps) = (streams ≤ 1000) × (steps ≤ 1000000)
IsFit _ = Unit {0}

-- ---- the rows of `copilot`

-- `compile SPEC NAME`, where SPEC is neither of the files that are written
abbrev pub compile_ends : List (List ℕ)
compile_ends = codes ".h" ∷ codes ".c" ∷ []

abbrev pub is_compile : List ℕ → List ℕ → List ℕ → Bool
is_compile word spec name = is_word word (codes "compile") && is_file spec && is_name name && is_apart compile_ends spec name

-- `interpret SPEC`
abbrev pub is_interpret : List ℕ → List ℕ → Bool
is_interpret word spec = is_word word (codes "interpret") && is_file spec

-- `cexec NAME`
abbrev pub is_cexec : List ℕ → List ℕ → Bool
is_cexec word name = is_word word (codes "cexec") && is_name name

-- `demo K T`: 1 to 1,000 streams, and at most 1,000,000 steps
abbrev pub is_demo : List ℕ → List ℕ → List ℕ → Bool
is_demo word streams steps = is_word word (codes "demo") && is_decimal_between 1 1000 streams && is_decimal_between 0 1000000 steps

-- `migrate OLD NEW`, two names that differ
abbrev pub is_migrate : List ℕ → List ℕ → List ℕ → Bool
is_migrate word old new = is_word word (codes "migrate") && is_name old && is_name new && not (is_word old new)

abbrev pub copilot_command : List (List ℕ) → CommandValue
copilot_command (word ∷ a ∷ []) =
    if is_interpret word a then interpret a else if is_cexec word a then cexec a else no_command
copilot_command (word ∷ a ∷ b ∷ []) =
    if is_compile word a b then compile a b
    else if is_demo word a b then demo (value_of a) (value_of b)
    else if is_migrate word a b then migrate a b
    else no_command
copilot_command _ = no_command

-- ---- the rows of `ogma`

-- `standalone REQS SPEC`, two files that differ
abbrev pub is_standalone : List ℕ → List ℕ → List ℕ → Bool
is_standalone word reqs spec = is_word word (codes "standalone") && is_file reqs && is_file spec && not (is_word reqs spec)

-- `cfs REQS NAME`, `ros REQS NAME`, `fprime REQS NAME`, where REQS is none of the files that are written
abbrev pub is_frame : List ℕ → List (List ℕ) → List ℕ → List ℕ → List ℕ → Bool
is_frame wanted ends word reqs name = is_word word wanted && is_file reqs && is_name name && is_apart ends reqs name

abbrev pub cfs_ends : List (List ℕ)
cfs_ends = codes ".spec" ∷ codes "_app.c" ∷ []

abbrev pub ros_ends : List (List ℕ)
ros_ends = codes ".spec" ∷ codes "_node.cpp" ∷ []

abbrev pub fprime_ends : List (List ℕ)
fprime_ends = codes ".spec" ∷ codes ".fpp" ∷ codes "_fprime.cpp" ∷ []

abbrev pub application : List ℕ → List ℕ → List ℕ → CommandValue
application word reqs name =
    if is_frame (codes "cfs") cfs_ends word reqs name then cfs reqs name
    else if is_frame (codes "ros") ros_ends word reqs name then ros reqs name
    else if is_frame (codes "fprime") fprime_ends word reqs name then fprime reqs name
    else no_command

abbrev pub ogma_command : List (List ℕ) → CommandValue
ogma_command (word ∷ a ∷ b ∷ []) = if is_standalone word a b then standalone a b else application word a b
ogma_command _ = no_command

-- the command that a tool's words are
abbrev pub command_of : Tool → List (List ℕ) → CommandValue
command_of Copilot words = copilot_command words
command_of Ogma words = ogma_command words
