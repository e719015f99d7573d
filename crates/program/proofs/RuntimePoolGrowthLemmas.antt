-- What stays when texts get numbers.
use Rattle.std.proofs.Common.{ℕ, List, [], ◌∷◌}
use Rattle.std.specs.List.{AllZip}
use Rattle.classfile.specs.ClassFile.{ClassFile}
use Rattle.classfile.specs.declared.constant.Constant.{Constant}
use Rattle.program.specs.declared.class.Class.{Class}
use Rattle.program.specs.declared.runtime_constant.RuntimeConstant.{RuntimeConstant}
use Rattle.loading.specs.declared.given.GivenClass.{GivenClass}
use Rattle.loading.specs.Families.{Family}
use Rattle.loading.specs.Names.{text_at}
use Rattle.hierarchy.specs.steps.GrowingTexts.{KeepsNumbers}
use Rattle.program.specs.RuntimePool.{IsRuntimeConstant}
use Rattle.program.specs.Programs.{IsLinkedClass}
use Rattle.program.specs.steps.Frames.{IsBareClass}

pub constant_kept : {family : Family} {old new : List (List ℕ)} {f : ClassFile} {index : ℕ} {constant : Constant}
    {held : RuntimeConstant}
    → KeepsNumbers old new
    → IsRuntimeConstant family old f index constant held → IsRuntimeConstant family new f index constant held
constant_kept keeps IsRuntimeConstant.int = IsRuntimeConstant.int
constant_kept keeps IsRuntimeConstant.long = IsRuntimeConstant.long
constant_kept keeps IsRuntimeConstant.float = IsRuntimeConstant.float
constant_kept keeps IsRuntimeConstant.double = IsRuntimeConstant.double
constant_kept {f = f} keeps (IsRuntimeConstant.string {utf8 = utf8} {n = n} at) =
    IsRuntimeConstant.string (keeps n (text_at f utf8) at)
constant_kept keeps (IsRuntimeConstant.class named) = IsRuntimeConstant.class named
constant_kept keeps (IsRuntimeConstant.field r resolves) = IsRuntimeConstant.field r resolves
constant_kept keeps (IsRuntimeConstant.method resolves) = IsRuntimeConstant.method resolves
constant_kept keeps (IsRuntimeConstant.interface_method resolves) = IsRuntimeConstant.interface_method resolves
constant_kept keeps IsRuntimeConstant.utf8 = IsRuntimeConstant.utf8
constant_kept keeps IsRuntimeConstant.unusable = IsRuntimeConstant.unusable
constant_kept keeps IsRuntimeConstant.name_and_type = IsRuntimeConstant.name_and_type
constant_kept keeps IsRuntimeConstant.method_handle = IsRuntimeConstant.method_handle
constant_kept keeps IsRuntimeConstant.method_type = IsRuntimeConstant.method_type
constant_kept keeps IsRuntimeConstant.invoke_dynamic = IsRuntimeConstant.invoke_dynamic

pub class_kept : {family : Family} {old new : List (List ℕ)} {f : ClassFile} {class : Class} → KeepsNumbers old new
    → IsLinkedClass family old f class
    → IsLinkedClass family new f class
class_kept keeps was = record {
  statics = was.statics;
  signatures = was.signatures;
  methods = was.methods;
  initializer = was.initializer;
  main = was.main;
  runtime_pool = record {
    count = was.runtime_pool.count;
    each = λ index constant held at also.
        constant_kept keeps (was.runtime_pool.each index constant held at also);
  };
}

pub classes_kept : (family : Family) (old new : List (List ℕ)) → KeepsNumbers old new
    → (givens : List GivenClass) (classes : List Class)
    → AllZip (λ (given : GivenClass) (class : Class). IsLinkedClass family old given.file class) givens classes
    → AllZip (λ (given : GivenClass) (class : Class). IsLinkedClass family new given.file class) givens classes
classes_kept family old new keeps [] [] all = tt
classes_kept family old new keeps [] (class ∷ classes) all = absurd all
classes_kept family old new keeps (given ∷ givens) [] all = absurd all
classes_kept family old new keeps (given ∷ givens) (class ∷ classes) all =
    (class_kept keeps all.0, classes_kept family old new keeps givens classes all.1)

bare_class_kept : {family : Family} {old new : List (List ℕ)} {f : ClassFile} {class : Class} → KeepsNumbers old new
    → IsBareClass family old f class
    → IsBareClass family new f class
bare_class_kept keeps was = record {
  statics = was.statics;
  signatures = was.signatures;
  methods = was.methods;
  initializer = was.initializer;
  main = was.main;
  runtime_pool = record {
    count = was.runtime_pool.count;
    each = λ index constant held at also.
        constant_kept keeps (was.runtime_pool.each index constant held at also);
  };
}

pub bare_classes_kept : (family : Family) (old new : List (List ℕ)) → KeepsNumbers old new
    → (givens : List GivenClass) (classes : List Class)
    → AllZip (λ (given : GivenClass) (class : Class). IsBareClass family old given.file class) givens classes
    → AllZip (λ (given : GivenClass) (class : Class). IsBareClass family new given.file class) givens classes
bare_classes_kept family old new keeps [] [] all = tt
bare_classes_kept family old new keeps [] (class ∷ classes) all = absurd all
bare_classes_kept family old new keeps (given ∷ givens) [] all = absurd all
bare_classes_kept family old new keeps (given ∷ givens) (class ∷ classes) all =
    (bare_class_kept keeps all.0, bare_classes_kept family old new keeps givens classes all.1)
