-- The files that a command reads.
use Rattle.std.specs.Prelude.{ℕ, List, [], ◌∷◌, Result, Ok, Err}
use Rattle.sm_io.specs.Files.{Files}
use Rattle.sm_io.specs.Fetch.{fetched}
use Rattle.sm_io.specs.declared.outside.FetchFault.{FetchFault}
use Rattle.tool_top.specs.Command.{CommandValue, compile, interpret, cexec, demo, migrate, standalone, cfs, ros, fprime, no_command, header_file, source_file}

-- the most bytes of a specification or of a requirement file
abbrev pub text_limit : ℕ
text_limit = 1048576

-- the most bytes of a file of C
abbrev pub unit_limit : ℕ
unit_limit = 268435456

-- a file that is read, and the most bytes that it may have
pub record Wanted : Type 0 where
  pub name : List ℕ
  pub limit : ℕ

abbrev pub text_file : List ℕ → List Wanted
text_file name = record { name = name; limit = text_limit } ∷ []

abbrev pub unit_files : List ℕ → List Wanted
unit_files name = record { name = header_file name; limit = unit_limit } ∷ record { name = source_file name; limit = unit_limit } ∷ []

-- the files that a command reads, in order
abbrev pub wanted : CommandValue → List Wanted
wanted (compile spec name) = text_file spec
wanted (interpret spec) = text_file spec
wanted (cexec name) = unit_files name
wanted (demo streams steps) = []
wanted (migrate old new) = unit_files old
wanted (standalone reqs spec) = text_file reqs
wanted (cfs reqs name) = text_file reqs
wanted (ros reqs name) = text_file reqs
wanted (fprime reqs name) = text_file reqs
wanted no_command = []

-- a file that isn't read, and why
pub record Unread : Type 0 where
  pub name : List ℕ
  pub fault : FetchFault

-- a file's bytes before those of the files behind it
abbrev pub before_rest : List ℕ → Result (List ℕ) FetchFault → Result (List (List ℕ)) Unread → Result (List (List ℕ)) Unread
before_rest name (Err fault) rest = Err (record { name = name; fault = fault })
before_rest name (Ok bytes) (Err unread) = Err unread
before_rest name (Ok bytes) (Ok texts) = Ok (bytes ∷ texts)

-- what these files hold, or the first of them that is absent or has more bytes than it may
abbrev pub contents : Files → List Wanted → Result (List (List ℕ)) Unread
contents files [] = Ok []
contents files (w ∷ ws) = before_rest w.name (fetched files w.name w.limit) (contents files ws)
