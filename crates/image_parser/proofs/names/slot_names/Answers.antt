use Rattle.image_parser.proofs.NamesLemmas.{no_slot, slot_decided}
use Rattle.image_parser.proofs.names.slot_names.Goals as goal

pub returns-in-Some : goal.returns-in-Some
returns-in-Some c =
    slot_decided c.args.regions.now c.args.slots.now c.args.slot c.in-Some.value c.names_there.result c.in-Some.ensures
    c.names_there.ensures

pub returns-in-None : goal.returns-in-None
returns-in-None c = no_slot c.args.regions.now c.args.slots.now c.args.slot c.in-None.ensures
