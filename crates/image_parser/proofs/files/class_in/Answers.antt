use Rattle.std.proofs.Common.{Ok, Err, arith}
use Rattle.classfile.specs.Faults.{IsBytes}
use Rattle.image_parser.specs.reading.Files.{last_name}
use Rattle.image_parser.proofs.FileLemmas.{read_is, read_class, refused_class}
use Rattle.image_parser.proofs.files.class_in.Goals as goal

pub returns-in-Ok : goal.returns-in-Ok
returns-in-Ok c =
    let fits : IsBytes c.args.run.now = λ i. omega (arith, c.type_inv.run i) in
    read_class c.args.index (last_name c.args.files.now) c.args.run.now c.in-Ok.file c.in_order.result
    (read_is c.args.run.now fits (Ok c.in-Ok.file) c.in-Ok.ensures.only_text c.in-Ok.ensures.only_fault)
    c.in_order.ensures

pub returns-in-Err : goal.returns-in-Err
returns-in-Err c =
    let fits : IsBytes c.args.run.now = λ i. omega (arith, c.type_inv.run i) in
    rw (c.of_class.ensures) (refused_class c.args.index (last_name c.args.files.now) c.args.run.now c.in-Err.fault
    (read_is c.args.run.now fits (Err c.in-Err.fault) c.in-Err.ensures.only_text c.in-Err.ensures.only_fault))
