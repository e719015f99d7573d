use Rattle.vm_state.specs.Pools.{pool_by}
use Rattle.vm_state.specs.Statics.{field_in}
use Rattle.image_parser.proofs.ObjectReadsLemmas.{region_held}
use Rattle.image_parser.proofs.kept_objects.counted_region_at.Goals as goal

pub returns : goal.returns
returns c =
    region_held c.args.program.now c.statics_at.new.program c.objects_at.new.program c.args.version c.args.class
    c.args.count c.args.bytes.now c.in_ok-fields.rest.now c.in_ok-objects.rest.now (field_in c.in_ok-fields.fields)
    (pool_by c.in_ok-objects.objects) (rw (c.deref.ensures.value, c.in_ok-kinds.ensures) at c.in_ok-fields.ensures)
    c.in_ok-objects.ensures
