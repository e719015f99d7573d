use Rattle.program.proofs.OneProgramLemmas.{one_program, one_program_of_files, one_program_of_strings}
use Rattle.program.proofs.laws.one_program.Goals as goal

pub returns-clause-family : goal.returns-clause-family
returns-clause-family c = one_program

pub returns-clause-files : goal.returns-clause-files
returns-clause-files c = one_program_of_files

pub returns-clause-strings : goal.returns-clause-strings
returns-clause-strings c = one_program_of_strings
