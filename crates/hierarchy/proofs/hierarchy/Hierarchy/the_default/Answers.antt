use Rattle.hierarchy.proofs.DefaultsLemmas.{no_default, no_method}
use Rattle.hierarchy.proofs.hierarchy.Hierarchy.the_default.Goals as goal

pub returns : goal.returns
returns c = λ name is.
    no_default c.args.self.now.family name c.args.class
    (λ some. (let yes = c.has_parents.ensures.1 some in let no = c.if-has_parents.false in cc))

pub returns-then-is_undeclared : goal.returns-then-is_undeclared
returns-then-is_undeclared c = λ name is.
    no_method c.args.self.now.family name c.args.class
    (λ i. c.is_undeclared.ensures name i is c.if-is_undeclared.true)
