use Rattle.image_writer.specs.ImageTexts.{told_of}
use Rattle.cli.proofs.RenewedLemmas.{some_short}
use Rattle.product_cases.proofs.image_sinks.failing.Goals as goal

pub writes_text-requires : goal.writes_text-requires
writes_text-requires c =
    some_short c.args.bytes.now c.in-Ok.image.program.family (told_of c.in-Ok.image) c.in-Ok.ensures.text
