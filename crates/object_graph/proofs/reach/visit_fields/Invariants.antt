use Rattle.vm_state.specs.Statics.{field_in}
use Rattle.place_set.specs.steps.Adds.{Adds}
use Rattle.object_graph.specs.steps.Places.{IsInFields}
use Rattle.object_graph.proofs.reach.visit_fields.Given as goal

abbrev pub invariant-loop-field : goal.invariant-loop-field
invariant-loop-field l = Adds l.fn.found (IsInFields l.regions (field_in l.fields) l.field) l.found
