use Rattle.std.proofs.Common.{◌≡◌, true, false}
use Rattle.explain.proofs.marks.stands_at.Goals as goal

pub returns-in-None : goal.returns-in-None
returns-in-None c = (
  λ yes. absurd (let no : false ≡ true = yes in cc),
  λ stands. absurd (c.in-None.ensures c.args.method stands),
)
