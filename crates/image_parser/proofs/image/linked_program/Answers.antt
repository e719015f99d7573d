use Rattle.image_parser.proofs.ImageLemmas.{link_fails}
use Rattle.image_parser.proofs.image.linked_program.Goals as goal

pub returns-in-Ok-link-clause-linked : goal.returns-in-Ok-link-clause-linked
returns-in-Ok-link-clause-linked c =
    record {
      files = c.in-Ok.files.items;
      has = rw c.in-Ok.is at c.requires.files;
      links = c.in-Ok-link.ensures.links;
      of = c.in-Ok-link.ensures.family;
    }

pub returns-in-Err-link-clause-fault : goal.returns-in-Err-link-clause-fault
returns-in-Err-link-clause-fault c =
    rw (c.of_link.ensures) (link_fails c.args.parts.now c.in-Ok.files.items c.in-Ok.rest.now c.in-Err-link.fault
    (rw c.in-Ok.is at c.requires.files) c.in-Err-link.ensures.fault)
