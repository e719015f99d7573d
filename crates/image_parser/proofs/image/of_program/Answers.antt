use Rattle.std.proofs.Common.{refl, subst}
use Rattle.program.specs.Tables.{Tables}
use Rattle.image_parser.specs.reading.Flagged.{RegionsHeld}
use Rattle.image_parser.proofs.ImageLemmas.{files_held, parts_held, regions_fail}
use Rattle.image_parser.proofs.image.of_program.Goals.{After-classes-classes}
use Rattle.image_parser.proofs.image.of_program.Goals as goal

held : (c : After-classes-classes)
    → RegionsHeld c.args.version c.args.program c.read_regions.new.program c.args.rest.now c.in-Ok.regions
held c =
    subst (λ (P : Tables). RegionsHeld c.args.version P c.read_regions.new.program c.args.rest.now c.in-Ok.regions)
    c.hash_strings_by.ensures c.in-Ok.ensures.text

pub returns-in-Ok-clause-text : goal.returns-in-Ok-clause-text
returns-in-Ok-clause-text c = (
  refl,
  parts_held c.args.version c.args.program c.read_regions.new.program c.args.rest.now c.in-Ok.regions (held c)
      c.classes-classes.ensures.fits c.args.parts.now c.requires.linked,
)

pub returns-in-Ok-clause-files : goal.returns-in-Ok-clause-files
returns-in-Ok-clause-files c =
    files_held c.args.version c.args.program c.read_regions.new.program c.args.rest.now c.in-Ok.regions (held c)
    c.classes-classes.ensures.fits c.requires.program c.requires.own_strings

pub returns-in-Err-clause-fault : goal.returns-in-Err-clause-fault
returns-in-Err-clause-fault c =
    regions_fail c.args.version c.args.parts.now c.args.program.family c.args.rest.now c.in-Err.fault
    c.of_regions.result
    c.requires.linked (rw c.hash_strings_by.ensures at c.in-Err.ensures.fault)
    (rw (c.family.ensures, c.in-Err.ensures.family, c.hash_strings_by.ensures) at c.of_regions.ensures)
