use Rattle.bytecode.proofs.UniquenessLemmas.{same_spelling}
use Rattle.bytecode.proofs.uniqueness.one_instruction.Goals as goal

pub returns : goal.returns
returns c = same_spelling
