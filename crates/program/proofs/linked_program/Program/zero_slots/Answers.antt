use Rattle.std.proofs.Common.{map, ap, ◌∙◌}
use Rattle.program.specs.InstanceFields.{slots_of}
use Rattle.program.specs.Programs.{zero_of}
use Rattle.program.specs.Tables.{Tables}
use Rattle.program.proofs.linked_program.Program.zero_slots.Goals as goal

pub returns-in-Some : goal.returns-in-Some
returns-in-Some c =
    c.in_ok-slots.ensures
    ∙ c.self.invariant.1.zeros c.args.class c.in-Some.zeros.now c.in-Some.ensures
    ∙ ap (λ (tables : Tables). map zero_of (slots_of tables.family c.args.class)) c.self.view_is
