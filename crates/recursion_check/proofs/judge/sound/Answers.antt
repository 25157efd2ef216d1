use Rattle.recursion_check.proofs.judge.sound.Goals as goal

pub returns-in-None-clause-one_table : goal.returns-in-None-clause-one_table
returns-in-None-clause-one_table c = λ h n lists clean meets. c.equations_have_one_solution.ensures.typed c.args.spec h n lists c.requires clean meets

pub returns-in-Some-clause-one_table : goal.returns-in-Some-clause-one_table
returns-in-Some-clause-one_table c = λ h n lists clean meets. c.equations_have_one_solution.ensures.typed c.args.spec h n lists c.requires clean meets
