use Rattle.std.proofs.Common.{◌<◌, ◌^◌, arith}
use Rattle.classfile.specs.Faults.{IsBytes}
use Rattle.image_parser.proofs.ImageLemmas.{counted, files_fail, has_counted}
use Rattle.image_parser.proofs.image.files_in.Goals as goal

pub returns-in-Ok-clause-files : goal.returns-in-Ok-clause-files
returns-in-Ok-clause-files c =
    let fits : IsBytes c.args.parts.now = λ i. omega (arith, c.type_inv.parts i) in
    let read = c.count_at-count in
    let short : read.result.0 < 2 ^ 32 = omega arith in
    has_counted c.args.parts.now fits c.requires read.result.0 read.result.1.now c.in-Ok.read.0.items
    c.in-Ok.read.1.now short read.ensures.count read.ensures.rest c.in-Ok.ensures.text

pub returns-in-Err-clause-fault : goal.returns-in-Err-clause-fault
returns-in-Err-clause-fault c =
    let fits : IsBytes c.args.parts.now = λ i. omega (arith, c.type_inv.parts i) in
    let read = c.count_at-count in
    let short : read.result.0 < 2 ^ 32 = omega arith in
    let is = counted c.args.parts.now fits c.requires read.result.0 read.result.1.now
    read.ensures.count read.ensures.rest in
    rw (c.of_files.ensures) (files_fail c.args.parts.now read.result.0 read.result.1.now c.in-Err.fault short is
    c.in-Err.ensures.fault)
