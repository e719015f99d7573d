use Rattle.loading.proofs.FilesParentLemmas.{least_superclass}
use Rattle.loading.proofs.InterfaceFaultsLemmas.{least_for}
use Rattle.loading.proofs.parents.parents_of.Goals as goal

pub parent_fault-requires : goal.parent_fault-requires
parent_fault-requires c =
    least_superclass c.args.files.now c.args.file.now c.in-Err.kind c.requires.named c.in-Err.ensures

pub interface_fault-requires : goal.interface_fault-requires
interface_fault-requires c =
    least_for c.args.files.now c.args.file.now c.in-Ok.superclass c.in-Err-interfaces_of.fault c.requires.named
    c.in-Ok.ensures c.in-Err-interfaces_of.ensures
