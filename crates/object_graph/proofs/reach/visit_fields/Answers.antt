use Rattle.vm_state.specs.Statics.{field_in}
use Rattle.object_graph.proofs.PlaceLemmas.{fields_none, fields_more}
use Rattle.object_graph.proofs.reach.visit_fields.Goals as goal

pub loop-field-init : goal.loop-field-init
loop-field-init c = fields_none c.args.regions.now c.args.found.now (field_in c.args.fields.now)

pub loop-field-preserved : goal.loop-field-preserved
loop-field-preserved c =
    fields_more c.args.regions.now (field_in c.args.fields.now) c.loop-field.field c.get.result c.args.found.now
    c.loop-field.found c.visit_value.new.found c.get.ensures c.loop-field.invariant c.in_ok-visit_value.ensures
