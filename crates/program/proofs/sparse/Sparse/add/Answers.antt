use Rattle.std.proofs.Common.{arith}
use Rattle.program.proofs.SparseLemmas.{item_entries}
use Rattle.program.proofs.sparse.Sparse.add.Goals as goal

pub returns-clause-entries : goal.returns-clause-entries
returns-clause-entries g c =
    let few = c.requires.places.few in
    rw (
      c.push_reserved.ensures.items,
      c.in_ok-reserve.ensures.items,
      c.in_ok-push-2.ensures.items,
      c.in-Some.is,
      c.as_slice.ensures.value,
    )
    (item_entries c.args.self.now.places.items c.args.self.now.items.items c.in-Some.item c.requires.places
    (omega (arith, c.requires.few, few)))
