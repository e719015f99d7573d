use Rattle.std.proofs.Common.{sym}
use Rattle.explain.proofs.CallersLemmas.{first_back, last_back, no_second, none_back}
use Rattle.explain.proofs.paths.caller_of.Goals as goal

pub returns-in_default : goal.returns-in_default
returns-in_default c P callee way =
    none_back P c.args.uses.now c.args.search.now c.args.place callee way (sym c.in_default.ensures)

pub returns-in-Some-step_at : goal.returns-in-Some-step_at
returns-in-Some-step_at c P callee way =
    first_back P c.args.uses.now c.args.search.now c.args.place callee way c.in-Some-step_at.step c.in-Some.finder
    (sym c.in-Some.ensures) c.in-Some-step_at.ensures.0 c.in-Some-step_at.ensures.1

pub returns-in_default-finder_of : goal.returns-in_default-finder_of
returns-in_default-finder_of c P callee way =
    no_second P c.args.uses.now c.args.search.now c.args.place callee way c.in-Some.finder (sym c.in-Some.ensures)
    c.in_default-step_at.ensures (sym c.in_default-finder_of.ensures)

pub returns : goal.returns
returns c P callee way =
    last_back P c.args.uses.now c.args.search.now c.args.place callee way c.in-Some.finder c.in-Some-finder_of.before
    c.step_at-2.result (sym c.in-Some.ensures) c.in_default-step_at.ensures (sym c.in-Some-finder_of.ensures)
    c.step_at-2.ensures
