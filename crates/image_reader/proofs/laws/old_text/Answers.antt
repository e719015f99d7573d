use Rattle.image_reader.proofs.OldTextsLemmas.{old_text}
use Rattle.image_reader.proofs.laws.old_text.Goals as goal

pub returns : goal.returns
returns c = old_text
