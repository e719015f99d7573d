use Rattle.loading.proofs.LinkingInterfaceLemmas.{are_interfaces, fails_among}
use Rattle.loading.proofs.parents.interfaces_of.Goals as goal

pub returns-in-Ok-interface_numbers : goal.returns-in-Ok-interface_numbers
returns-in-Ok-interface_numbers c =
    are_interfaces c.args.files.now c.args.file.now c.in-Ok.classes.items c.in-Ok-interface_numbers.numbers.items
    c.in-Ok.ensures (rw c.as_slice.ensures.value at c.in-Ok-interface_numbers.ensures)

pub returns : goal.returns
returns c =
    fails_among c.args.files.now c.args.file.now c.in-Ok.classes.items c.in-Err-interface_numbers.fault c.in-Ok.ensures
    (rw c.as_slice.ensures.value at c.in-Err-interface_numbers.ensures)
