use Rattle.stream_interp.proofs.tests.a_trigger_has_its_arguments.Given as goal

abbrev pub ghosts-calls : goal.ghosts-calls
ghosts-calls g a = record { name = a.blank.name; parts = a.blank.parts }
