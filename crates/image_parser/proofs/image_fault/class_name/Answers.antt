use Rattle.std.proofs.Common.{ap}
use Rattle.classfile.specs.Printing.{units_of}
use Rattle.image_parser.proofs.ImageLemmas.{if_named}
use Rattle.image_parser.proofs.image_fault.class_name.Goals as goal

pub returns : goal.returns
returns c =
    if_named c.spelled.result.now c.from_modified_utf8.result c.spelled.ensures.modified
    (ap units_of c.spelled.ensures.value) c.from_modified_utf8.ensures
