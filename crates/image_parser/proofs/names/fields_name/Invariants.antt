use Rattle.vm_state.specs.Statics.{field_in}
use Rattle.image_parser.specs.reading.Named.{AllBelow, NamesThere}
use Rattle.image_parser.proofs.names.fields_name.Given as goal

abbrev pub invariant-loop-field : goal.invariant-loop-field
invariant-loop-field l = AllBelow (λ k. NamesThere l.regions (field_in l.fields k)) l.field
