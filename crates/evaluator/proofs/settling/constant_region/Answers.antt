use Rattle.std.proofs.Common.{rules}
use Rattle.machine.specs.Linked.{program_of}
use Rattle.evaluator.proofs.StoreLemmas.{begins}
use Rattle.evaluator.proofs.settling.constant_region.Goals as goal

pub returns : goal.returns
returns c =
    begins (program_of c.args.program.now) c.args.class c.in_ok-fields.fields c.set_constants.new.self
    c.new.result (search rules) (search rules) c.new.ensures
