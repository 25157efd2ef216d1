use Rattle.stream_types.proofs.tests.number_tables.Given as goal

abbrev pub ghosts-answers : goal.ghosts-answers
ghosts-answers g a = record { name = a.blank.name; parts = a.blank.parts }
