use Rattle.std.proofs.Common.{subst}
use Rattle.hierarchy.specs.Texts.{AreDistinct}
use Rattle.hierarchy.proofs.HeldTextsLemmas.{distinct}
use Rattle.hierarchy.proofs.interner.Interner.count.Goals as goal

pub returns : goal.returns
returns c = subst AreDistinct c.self.view_is (distinct c.self.inside.texts.keys c.len.ensures.unique)
