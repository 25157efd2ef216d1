use Rattle.c_exec.proofs.tests.points_turn_round.Given as goal

abbrev pub ghosts-run_points : goal.ghosts-run_points
ghosts-run_points g a = record { name = a.blank.name; parts = a.blank.parts }
