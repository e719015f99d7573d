use Rattle.std.proofs.Common.{arith}
use Rattle.image_parser.proofs.FileLawful.{files_text, files_fault}
use Rattle.image_parser.proofs.halves.read_files_by_several.Goals as goal

pub returns-clause-text : goal.returns-clause-text
returns-clause-text g c =
    files_text c.args.count _ _ c.args.bytes.now (λ i. omega (arith, c.type_inv.bytes i)) c.files_by.ensures

pub returns-clause-fault : goal.returns-clause-fault
returns-clause-fault g c =
    files_fault c.args.count _ _ c.args.bytes.now (λ i. omega (arith, c.type_inv.bytes i)) c.files_by.ensures
