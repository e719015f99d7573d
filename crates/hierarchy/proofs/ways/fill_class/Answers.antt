use Rattle.std.proofs.Common.{ℕ, List, subst}
use Rattle.hierarchy.specs.steps.DeclarationBits.{Knows}
use Rattle.hierarchy.proofs.KnownLemmas.{known_next}
use Rattle.hierarchy.proofs.ways.fill_class.Goals as goal

pub returns-clause-filled : goal.returns-clause-filled
returns-clause-filled c = λ family declares done d k n small there mine parents up are.
    known_next family declares d k n c.args.rows.now c.args.class c.below.result done c.requires
    (c.below.ensures family declares c.args.class d k n small there mine
    (subst (λ (l : List ℕ). Knows family declares l d k n c.above.result) parents
    (c.above.ensures family declares d k n small (λ p has. are p (up p has)))))
    are
