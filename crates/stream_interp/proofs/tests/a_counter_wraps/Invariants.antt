use Rattle.stream_interp.proofs.tests.a_counter_wraps.Given as goal

abbrev pub ghosts-counts : goal.ghosts-counts
ghosts-counts g a = record { name = a.blank.name; parts = a.blank.parts }
