use Rattle.std.proofs.Common.{◌∙◌, option_and_then, sym, ap}
use Rattle.explain.specs.steps.Refused.{depended}
use Rattle.explain.proofs.ChainsLemmas.{next_is}
use Rattle.explain.proofs.RootsLemmas.{leads_one, leads_self}
use Rattle.explain.proofs.blamed.next_of.Goals as goal

pub returns-in-Some : goal.returns-in-Some
returns-in-Some c = λ verdicts at.
    leads_one verdicts c.args.class c.in-Some.next
    (next_is verdicts c.args.class c.in-Some.next
    (c.in-Some.ensures ∙ sym (ap (option_and_then depended) at)))

pub returns-in-None : goal.returns-in-None
returns-in-None c = λ verdicts at. leads_self verdicts c.args.class
