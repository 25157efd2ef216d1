-- What a value of JSON holds as a requirement file, and its first fault.
use Rattle.std.specs.Prelude.{◌≡◌, ℕ, ◌+◌, List, [], ◌∷◌, codes, Bool, if◌then◌else◌, Option, Some, None, option_map, option_and_then, Result, Ok, Err, IsUtf8}
use Rattle.sm_io.specs.Words.{is_name}
use Rattle.serde_json.specs.Data.{Data, Items, no_items, item}
use Rattle.serde_json.specs.Find.{get, as_str, as_array}
use Rattle.serde_json.specs.Read.{read}
use Rattle.fret_json.specs.declared.file.ReqFile.{ReqFile}
use Rattle.fret_json.specs.declared.file.ReqVar.{ReqVar}
use Rattle.fret_json.specs.declared.file.Req.{Req}
use Rattle.fret_json.specs.declared.fault.ReqFault.{ReqFault}
use Rattle.fret_json.specs.declared.fault.ReqFault.TheVariants as told

-- ---- what a value holds

-- the string at a key
abbrev pub string_at : List ℕ → Data → Option (List ℕ)
string_at key d = option_and_then as_str (get key d)

-- the strings at two keys
abbrev pub strings_at : List ℕ → List ℕ → Data → Option (List ℕ × List ℕ)
strings_at first second d = option_and_then (λ a. option_map (λ b. (a, b)) (string_at second d)) (string_at first d)

abbrev pub variable_of : Data → Option ReqVar
variable_of d = option_map (λ (p : List ℕ × List ℕ). record { name = p.0; ty = p.1 }) (strings_at (codes "name") (codes "type") d)

abbrev pub requirement_of : Data → Option Req
requirement_of d = option_map (λ (p : List ℕ × List ℕ). record { name = p.0; formula = p.1 }) (strings_at (codes "name") (codes "formula") d)

-- the entries of a list in order, or the number of the first that is none; the first one here has number n
abbrev pub entry_then : {A : Type 0} → Option A → ℕ → Result (List A) ℕ → Result (List A) ℕ
entry_then None n rest = Err n
entry_then (Some a) n (Ok as_) = Ok (a ∷ as_)
entry_then (Some a) n (Err m) = Err m

abbrev pub entries : {A : Type 0} → (Data → Option A) → ℕ → Items → Result (List A) ℕ
entries of n no_items = Ok []
entries of n (item d ds) = entry_then (of d) n (entries of (n + 1) ds)

-- a component: a name, and the two lists
pub record Component : Type 0 where
  pub name : List ℕ
  pub variables : Items
  pub requirements : Items

abbrev pub if_name : List ℕ → Option (List ℕ)
if_name bytes = if is_name bytes then Some bytes else None

abbrev pub list_at : List ℕ → Data → Option Items
list_at key d = option_and_then as_array (get key d)

abbrev pub component_of : Data → Option Component
component_of d =
    option_and_then (λ name. option_and_then (λ vs. option_map (λ rs. record { name = name; variables = vs; requirements = rs })
    (list_at (codes "requirements") d)) (list_at (codes "variables") d)) (option_and_then if_name (string_at (codes "name") d))

-- ---- the first fault

-- what is wrong with a file that is one value of JSON
pub data FileFault : Type 0 where
  no_component : FileFault
  bad_variable_entry : ℕ → FileFault
  bad_requirement_entry : ℕ → FileFault

abbrev pub with_requirements : List ℕ → List ReqVar → Result (List Req) ℕ → Result ReqFile FileFault
with_requirements name vs (Ok rs) = Ok (record { name = name; variables = vs; requirements = rs })
with_requirements name vs (Err n) = Err (bad_requirement_entry n)

abbrev pub with_variables : Component → Result (List ReqVar) ℕ → Result ReqFile FileFault
with_variables c (Ok vs) = with_requirements c.name vs (entries requirement_of 1 c.requirements)
with_variables c (Err n) = Err (bad_variable_entry n)

abbrev pub of_component : Option Component → Result ReqFile FileFault
of_component None = Err no_component
of_component (Some c) = with_variables c (entries variable_of 1 c.variables)

-- the file that a value holds, or its first fault: of the component, of the variables, and then of the requirements
abbrev pub file_of : Data → Result ReqFile FileFault
file_of d = of_component (option_and_then component_of (get (codes "component") d))

-- ---- the answer

-- the bytes are the text of a value
pub record IsJson (bytes : List ℕ) (d : Data) : Type 0 where
  pub text : IsUtf8 bytes
  pub value : read bytes ≡ Some d

abbrev pub IsNotJson : List ℕ → Type 0
IsNotJson bytes = IsUtf8 bytes → read bytes ≡ None

-- the bytes are a value, of which this is the file or the first fault
abbrev pub Holds : List ℕ → Result ReqFile FileFault → Type 0
Holds bytes r = (d : Data) × IsJson bytes d × (file_of d ≡ r)

-- The file comes where the bytes hold one, and an error is the first fault. Want of memory is free.
abbrev pub Requires : List ℕ → Result ReqFile ReqFault → Type 0
Requires bytes (Ok file) = Holds bytes (Ok file)
Requires bytes (Err told.NotJson) = IsNotJson bytes
Requires bytes (Err told.NoComponent) = Holds bytes (Err no_component)
Requires bytes (Err (told.BadVariableEntry n)) = Holds bytes (Err (bad_variable_entry n))
Requires bytes (Err (told.BadRequirementEntry n)) = Holds bytes (Err (bad_requirement_entry n))
Requires bytes (Err told.Memory) = Unit {0}

-- the same of a value that was read
abbrev pub GivesFile : Data → Result ReqFile ReqFault → Type 0
GivesFile d (Ok file) = file_of d ≡ Ok file
GivesFile d (Err told.NotJson) = ⊥
GivesFile d (Err told.NoComponent) = file_of d ≡ Err no_component
GivesFile d (Err (told.BadVariableEntry n)) = file_of d ≡ Err (bad_variable_entry n)
GivesFile d (Err (told.BadRequirementEntry n)) = file_of d ≡ Err (bad_requirement_entry n)
GivesFile d (Err told.Memory) = Unit {0}

-- the fault that an error tells is that of the entries; want of memory is free
abbrev pub GivesEntries : {A : Type 0} → (ℕ → ReqFault) → Result (List A) ℕ → ReqFault → Type 0
GivesEntries fault found told.Memory = Unit {0}
GivesEntries fault found e = (n : ℕ) × (e ≡ fault n) × (found ≡ Err n)
