use Rattle.std.proofs.Common.{◌∙◌, List, Option, ap, subst, sym}
use Rattle.program.specs.Tables.{Tables}
use Rattle.region_shape.specs.Regions.{environment_of}
use Rattle.image_format.specs.Reached.{IsDropped}
use Rattle.image_format.specs.Regions.{ImageRegion}
use Rattle.image_parser.specs.Parsings.{told_in}
use Rattle.image_reader.proofs.ImagesLemmas.{small, whole}
use Rattle.image_reader.proofs.RenewedLemmas.{gathered, read_as_written}
use Rattle.image_reader.proofs.reading.renewed.Goals as goal

pub gather-requires : goal.gather-requires
gather-requires c =
    let P = c.args.parsed.program in
    let env = environment_of c.args.parsed.regions in
    let holds = c.requires.files.holds.holds in
    record {
      whole = whole c.args.parsed.version P c.requires.program env c.requires.fits holds;
      small = small c.args.parsed.version P c.requires.program env c.requires.fits holds;
    }

pub image_text-requires : goal.image_text-requires
image_text-requires c = rw c.in_ok-image.ensures.program c.requires.short

pub reached_image-requires : goal.reached_image-requires
reached_image-requires c =
    let again = read_as_written c.as_slice.result.now c.in_ok-image.image c.in-Ok.again
    (c.as_slice.ensures.value ∙ c.in_ok-text.ensures.text) c.in_ok-text.ensures.image c.in-Ok.ensures in
    record {
      version = again.0;
      program = c.in-Ok.ensures.program;
      fits = c.in-Ok.ensures.text.fits;
      files = c.in-Ok.ensures.files;
    }

pub returns-in-Ok-clause-family : goal.returns-in-Ok-clause-family
returns-in-Ok-clause-family c =
    let again = read_as_written c.as_slice.result.now c.in_ok-image.image c.in-Ok.again
    (c.as_slice.ensures.value ∙ c.in_ok-text.ensures.text) c.in_ok-text.ensures.image c.in-Ok.ensures in
    rw c.reached_image.ensures (again.1 ∙ ap (λ (P : Tables). P.family) c.in_ok-image.ensures.program)

pub returns-in-Ok-clause-told : goal.returns-in-Ok-clause-told
returns-in-Ok-clause-told c =
    let P = c.args.parsed.program in
    let env = environment_of c.args.parsed.regions in
    let holds = c.requires.files.holds.holds in
    let again = read_as_written c.as_slice.result.now c.in_ok-image.image c.in-Ok.again
    (c.as_slice.ensures.value ∙ c.in_ok-text.ensures.text) c.in_ok-text.ensures.image c.in-Ok.ensures in
    rw c.reached_image.ensures
    (subst (λ (told : List (Option ImageRegion)). IsDropped (told_in c.args.parsed) told) (sym again.2)
    (gathered c.in_ok-image.image P env c.in_ok-image.ensures.program c.requires.program
    (whole c.args.parsed.version P c.requires.program env c.requires.fits holds)
    (small c.args.parsed.version P c.requires.program env c.requires.fits holds) c.in_ok-image.ensures.cut))
