use Rattle.image_parser.proofs.NamesLemmas.{kept_decided, no_kept}
use Rattle.image_parser.proofs.names.kept_names.Goals as goal

pub returns-in-Some : goal.returns-in-Some
returns-in-Some c =
    kept_decided c.args.regions.now c.args.pool.now c.args.place _ c.in-Some.kept.now c.slots_name.result
    c.in-Some.ensures c.slots_name.ensures

pub returns-in-None : goal.returns-in-None
returns-in-None c = no_kept c.args.regions.now c.args.pool.now c.args.place c.in-None.ensures
