use Rattle.program.proofs.LinksLemmas.{family_links}
use Rattle.program.proofs.assembly.frame_of.Goals as goal

pub linked-requires : goal.linked-requires
linked-requires c = family_links c.args.files.items c.in-Ok.family c.in-Ok.ensures.links c.in-Ok.ensures.ok
