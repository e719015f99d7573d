use Rattle.image_parser.proofs.ObjectReadsLemmas.{class_held}
use Rattle.image_parser.proofs.objects.class_at.Goals as goal

pub returns : goal.returns
returns c =
    class_held c.args.program.now c.class_for.new.program c.args.form c.args.bytes.now c.in_ok-name.name.now
    c.in_ok-name.rest.now c.in_ok-class.class c.in_ok-name.ensures.name c.in_ok-class.ensures
