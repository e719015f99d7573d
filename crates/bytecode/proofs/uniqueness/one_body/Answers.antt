use Rattle.bytecode.proofs.UniquenessLemmas.{same_body}
use Rattle.bytecode.proofs.uniqueness.one_body.Goals as goal

pub returns : goal.returns
returns c = same_body
