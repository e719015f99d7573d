use Rattle.image_parser.proofs.ObjectReadsLemmas.{objects_held}
use Rattle.image_parser.proofs.kept_objects.objects_at.Goals as goal

pub of_objects-requires : goal.of_objects-requires
of_objects-requires c = rw c.from.ensures c.in_ok-objects.ensures.ascending

pub returns : goal.returns
returns c =
    objects_held c.args.program.now c.so_many_at.new.program c.args.version c.args.count c.in_ok-many.many
    c.args.bytes.now c.in_ok-many.rest.now c.in_ok-objects.rest.now c.in_ok-objects.objects.items c.in_ok-pool.pool
    c.in_ok-many.ensures.value c.in_ok-objects.ensures.ascending (rw c.from.ensures at c.in_ok-pool.ensures)
    c.in_ok-objects.ensures.value
