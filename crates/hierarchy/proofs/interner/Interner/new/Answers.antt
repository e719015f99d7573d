use Rattle.std.proofs.Common.{◌∙◌, ap, slice_get}
use Rattle.hierarchy.proofs.BuiltInTextsLemmas.{first_is_empty}
use Rattle.hierarchy.proofs.interner.Interner.new.Goals as goal

pub returns-clause-first : goal.returns-clause-first
returns-clause-first c = ap (λ ts. slice_get ts 0) c.in_ok-push_built_in.ensures.texts ∙ first_is_empty
