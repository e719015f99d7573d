use Rattle.std.proofs.Common.{◌≡◌, Some, sym}
use Rattle.loading.specs.Families.{file_in}
use Rattle.program.proofs.implementing.implement_one.Goals as goal

pub methods_in-requires-clause-pool : goal.methods_in-requires-clause-pool
methods_in-requires-clause-pool c =
    let at : file_in c.args.family.now c.args.number ≡ Some c.in-Some.file.now = sym c.in-Some.ensures in
    (c.requires.ready c.in-Some.file.now at).pool

pub methods_in-requires-clause-signatures : goal.methods_in-requires-clause-signatures
methods_in-requires-clause-signatures c =
    let at : file_in c.args.family.now c.args.number ≡ Some c.in-Some.file.now = sym c.in-Some.ensures in
    (c.requires.ready c.in-Some.file.now at).signatures
