use Rattle.program.proofs.SignatureLemmas.{same_parts, same_signature}
use Rattle.program.proofs.signature.one_signature.Goals as goal

pub returns : goal.returns
returns c = record { parts = same_parts; signature = same_signature }
