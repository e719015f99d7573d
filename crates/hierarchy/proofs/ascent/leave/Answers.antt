use Rattle.hierarchy.proofs.AscentsLemmas.{ascent_leave}
use Rattle.hierarchy.proofs.ascent.leave.Goals as goal

pub returns-clause-ascending : goal.returns-clause-ascending
returns-clause-ascending c = λ family from.
    ascent_leave family from _ _ _ _ c.args.class c.in_ok-add.field-0 c.in_ok-add.ensures.ok
