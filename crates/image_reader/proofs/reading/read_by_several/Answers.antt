use Rattle.std.proofs.Common.{arith}
use Rattle.image_reader.proofs.ReadAgainLemmas.{image_read, image_refused, no_memory}
use Rattle.image_reader.proofs.reading.read_by_several.Goals as goal

pub image_of-requires : goal.image_of-requires
image_of-requires g c =
    let parsed = c.in-Ok.ensures in
    record { program = parsed.program; fits = parsed.text.fits; short = parsed.text.short; files = parsed.files }

pub returns-in-Ok-image_of : goal.returns-in-Ok-image_of
returns-in-Ok-image_of g c =
    let image = c.in-Ok-image_of.ensures in
    image_read c.args.bytes.now (λ i. omega (arith, c.type_inv.bytes i)) c.in-Ok.parsed c.in-Ok-image_of.image
    c.in-Ok.ensures image.family image.told image.program image.files

pub returns-in-Err-image_of : goal.returns-in-Err-image_of
returns-in-Err-image_of g c = no_memory c.args.bytes.now

pub returns-in-Err : goal.returns-in-Err
returns-in-Err g c = image_refused c.args.bytes.now c.in-Err.wrong c.in-Err.ensures
