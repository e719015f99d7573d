use Rattle.std.proofs.Common.{inl}
use Rattle.image_writer.specs.ImageTexts.{told_of}
use Rattle.cli.proofs.RenewedLemmas.{is_renewed, refused_renewal, same_text, some_short}
use Rattle.cli.proofs.renewing.renewed_image.Goals as goal

pub image_text-requires : goal.image_text-requires
image_text-requires c =
    some_short c.args.bytes.now c.in-Ok.image.program.family (told_of c.in-Ok.image) c.in-Ok.ensures.text

pub returns-in-Ok-image_text-clause-image : goal.returns-in-Ok-image_text-clause-image
returns-in-Ok-image_text-clause-image c =
    is_renewed c.args.bytes.now c.in-Ok-image_text.renewed.items c.in-Ok.image c.in-Ok.ensures.text
    c.image_text.ensures.image c.in-Ok-image_text.ensures.text

pub returns-in-Ok-image_text-clause-same : goal.returns-in-Ok-image_text-clause-same
returns-in-Ok-image_text-clause-same c = λ family regions is.
    same_text c.args.bytes.now c.in-Ok-image_text.renewed.items c.in-Ok.image family regions is
    (c.in-Ok.ensures.only_text family regions (inl is)) c.in-Ok-image_text.ensures.text

pub returns-clause-refusal : goal.returns-clause-refusal
returns-clause-refusal c =
    refused_renewal c.args.bytes.now c.in-Err.fault c.of_image.result c.in-Err.ensures.fault
    c.of_image.ensures.memory c.of_image.ensures.other
