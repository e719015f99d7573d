use Rattle.image_parser.proofs.ObjectReadsLemmas.{kept_held}
use Rattle.image_parser.proofs.kept_objects.kept_at.Goals as goal

pub returns-clause-value : goal.returns-clause-value
returns-clause-value c =
    kept_held c.args.program.now c.object_at.new.program c.args.version c.args.count c.args.least c.in_ok-number.number
    c.args.bytes.now c.in_ok-number.rest.now c.in_ok-object.rest.now c.in_ok-object.object c.in_ok-number.ensures.value
    c.in_ok-object.ensures
