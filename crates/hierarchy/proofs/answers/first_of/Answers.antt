use Rattle.std.proofs.Common.{◌≡◌, ◌+◌}
use Rattle.hierarchy.proofs.AmongLemmas.{read_at}
use Rattle.hierarchy.proofs.answers.first_of.Goals as goal

pub returns-in-Some-get : goal.returns-in-Some-get
returns-in-Some-get c = λ m is.
    let same : c.in-Some-get.declaration.now.member ≡ m = cc in (
      c.in-Some.bit,
      c.in-Some-get.declaration.now,
      c.in-Some.ensures.some.0,
      c.in-Some.ensures.some.1,
      read_at c.args.declared.now (c.args.start + c.in-Some.bit) c.get.result c.in-Some-get.declaration
          c.get.ensures.lookup.1 c.get.ensures.lookup.0 c.in-Some-get.is,
      same,
    )
