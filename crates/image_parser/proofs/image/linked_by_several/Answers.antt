use Rattle.image_parser.proofs.ImageLemmas.{link_fails}
use Rattle.image_parser.proofs.image.linked_by_several.Goals as goal

pub returns-in-Ok-link_by-clause-linked : goal.returns-in-Ok-link_by-clause-linked
returns-in-Ok-link_by-clause-linked g c =
    record {
      files = c.in-Ok.files.items;
      has = rw c.in-Ok.is at c.requires.files;
      links = c.in-Ok-link_by.ensures.links;
      of = c.in-Ok-link_by.ensures.family;
    }

pub returns-in-Err-link_by-clause-fault : goal.returns-in-Err-link_by-clause-fault
returns-in-Err-link_by-clause-fault g c =
    rw (c.of_link.ensures) (link_fails c.args.parts.now c.in-Ok.files.items c.in-Ok.rest.now c.in-Err-link_by.fault
    (rw c.in-Ok.is at c.requires.files) c.in-Err-link_by.ensures.fault)
