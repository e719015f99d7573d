use Rattle.std.proofs.Common.{}
use Rattle.program.proofs.RuntimePoolLemmas.{field_resolved}
use Rattle.program.specs.RuntimePool.{IsRuntimeConstant}
use Rattle.program.proofs.resolver.Resolver.resolved_now.Goals as goal

pub returns-in-Fieldref-clause-held : goal.returns-in-Fieldref-clause-held
returns-in-Fieldref-clause-held c =
    field_resolved _ _ _ _ _ _ _ c.in-Fieldref.is c.field_constant.ensures.held

pub returns-in_ok-held-in-Methodref-clause-held : goal.returns-in_ok-held-in-Methodref-clause-held
returns-in_ok-held-in-Methodref-clause-held c = λ strings plain.
    rw c.in-Methodref.is (IsRuntimeConstant.method c.in_ok-held-in-Methodref.ensures.held)

pub returns-in_ok-held-in-InterfaceMethodref-clause-held : goal.returns-in_ok-held-in-InterfaceMethodref-clause-held
returns-in_ok-held-in-InterfaceMethodref-clause-held c = λ strings plain.
    rw c.in-InterfaceMethodref.is
    (IsRuntimeConstant.interface_method c.in_ok-held-in-InterfaceMethodref.ensures.held)

pub returns-in_default-clause-held : goal.returns-in_default-clause-held
returns-in_default-clause-held c = λ strings plain.
    c.plain.ensures strings plain c.in_default.not-Fieldref c.in_default.not-Methodref
    c.in_default.not-InterfaceMethodref
