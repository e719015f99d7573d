use Rattle.std.proofs.Common.{length, sym, ap, ◌∙◌, arith}
use Rattle.vm_state.proofs.ListLemmas.{drop_item}
use Rattle.vm_state.proofs.row.RowObjectsIterator.next.Goals as goal

pub returns-in-Some-clause-steps : goal.returns-in-Some-clause-steps
returns-in-Some-clause-steps c =
    sym c.self.view_is
    ∙ drop_item c.self.inside.row c.self.inside.place c.in-Some.item (sym (sym c.in-Some.is ∙ c.get.ensures))

pub returns-in-Some-clause-goes : goal.returns-in-Some-clause-goes
returns-in-Some-clause-goes c =
    record {
      on = λ _. (tt, tt, omega (arith, ap length (returns-in-Some-clause-steps c)));
      keeps = tt;
      rests =
          λ _. tt;
    }
