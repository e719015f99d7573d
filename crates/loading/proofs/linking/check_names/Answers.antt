use Rattle.std.proofs.Common.{List, ℕ, inr, sym, subst}
use Rattle.loading.specs.Files.{IsTwice, IsTaken, IsLeast, twice, taken}
use Rattle.loading.proofs.FilesTwiceLemmas.{none_twice}
use Rattle.loading.proofs.linking.check_names.Goals as goal

pub returns-in-Some-clause-fault : goal.returns-in-Some-clause-fault
returns-in-Some-clause-fault c =
    inr (twice c.requires.few
    (subst (λ (z : List ℕ). IsLeast (IsTwice c.args.files.now) z) (sym c.in_ok-name.ensures) c.in-Some.ensures))

pub returns-in-Some-first_taken-clause-fault : goal.returns-in-Some-first_taken-clause-fault
returns-in-Some-first_taken-clause-fault c =
    inr (taken c.requires.few (none_twice c.args.files.now c.in_default.ensures)
    (subst (λ (z : List ℕ). IsLeast (IsTaken c.args.files.now) z) (sym c.in_ok-name-2.ensures)
    c.in-Some-first_taken.ensures))
