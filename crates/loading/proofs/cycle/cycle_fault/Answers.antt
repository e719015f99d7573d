use Rattle.std.proofs.Common.{◌≡◌, inr, sym, subst}
use Rattle.classfile.specs.Units.{units_text}
use Rattle.loading.specs.declared.given.GivenClass.{GivenClass}
use Rattle.loading.specs.Names.{name_of}
use Rattle.loading.proofs.LinkingGraphLemmas.{fault_of_cycle}
use Rattle.loading.proofs.cycle.cycle_fault.Goals as goal

pub returns-in-Ok : goal.returns-in-Ok
returns-in-Ok c =
    let class = c.index-classes-number.result in
    let name = c.in-Ok.name in
    let named : units_text name ≡ name_of class.file =
    subst (λ (x : GivenClass). units_text name ≡ name_of x.file) (sym c.index-classes-number.is) c.in-Ok.ensures in
    inr (fault_of_cycle c.args.classes.now c.args.number class name c.requires.number c.requires.least
    c.index-classes-number.is named)
