use Rattle.std.proofs.Common.{ap, ◌∙◌, rules, w32, w64}
use Rattle.std.proofs.lemmas.Int.{to_z-of_z}
use Rattle.program.specs.declared.runtime_constant.RuntimeConstant.TheVariants as runtime
use Rattle.program.specs.RuntimePool.{IsRuntimeConstant}
use Rattle.program.proofs.RuntimePoolLemmas.{constant_is, other_constant}
use Rattle.program.proofs.resolver.Resolver.plain.Goals as goal

pub returns-in-Integer : goal.returns-in-Integer
returns-in-Integer c = λ strings plain f m i.
    constant_is _ strings _ _ _ _ _ _ c.in-Integer.is
    (ap runtime.Int (to_z-of_z w32 c.int_of_bits.result (search rules) ∙ c.int_of_bits.ensures)) IsRuntimeConstant.int

pub returns-in-Long : goal.returns-in-Long
returns-in-Long c = λ strings plain f m i.
    constant_is _ strings _ _ _ _ _ _ c.in-Long.is
    (ap runtime.Long (to_z-of_z w64 c.long_of_halves.result (search rules) ∙ c.long_of_halves.ensures))
    IsRuntimeConstant.long

pub returns-in-Float : goal.returns-in-Float
returns-in-Float c = λ strings plain f m i. rw c.in-Float.is IsRuntimeConstant.float

pub returns-in-Double : goal.returns-in-Double
returns-in-Double c = λ strings plain f m i. rw c.in-Double.is IsRuntimeConstant.double

pub returns-in-Class : goal.returns-in-Class
returns-in-Class c = λ strings plain f m i. rw c.in-Class.is (IsRuntimeConstant.class c.class_at.ensures)

pub returns-in-MethodHandle : goal.returns-in-MethodHandle
returns-in-MethodHandle c = λ strings plain f m i. rw c.in-MethodHandle.is IsRuntimeConstant.method_handle

pub returns-in-MethodType : goal.returns-in-MethodType
returns-in-MethodType c = λ strings plain f m i. rw c.in-MethodType.is IsRuntimeConstant.method_type

pub returns-in_default : goal.returns-in_default
returns-in_default c = λ strings plain f m i.
    let d = c.in_default in
    other_constant _ strings _ _ _ d.not-Integer d.not-Float d.not-Long d.not-Double d.not-Class f m i
    d.not-MethodHandle d.not-MethodType plain
