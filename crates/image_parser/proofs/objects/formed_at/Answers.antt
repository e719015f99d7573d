use Rattle.image_parser.proofs.ObjectReadsLemmas.{object_held}
use Rattle.image_parser.proofs.objects.formed_at.Goals as goal

pub returns : goal.returns
returns c =
    object_held c.args.program.now c.class_at.new.program c.slots_at.new.program c.args.form c.args.bytes.now
    c.in_ok-class.rest.now c.in_ok-slots.rest.now c.in_ok-class.class c.in_ok-slots.slots c.in_ok-class.ensures
    c.in_ok-slots.ensures
