-- Why the superinterfaces of a class are not answered.
use Rattle.std.specs.Prelude.{◌≡◌, List}
use Rattle.std.specs.List.{Contains}
use Rattle.classfile.specs.ClassFile.{ClassFile}
use Rattle.loading.specs.declared.fault.BadParent.TheVariants as bad
use Rattle.loading.specs.declared.given.Superclass.{Superclass}
use Rattle.loading.specs.declared.parents.InterfaceFault.{InterfaceFault}
use Rattle.loading.specs.declared.parents.InterfaceFault.TheVariants.{Memory, Bad}
use Rattle.loading.specs.Files.{HasLeastBadParent}
use Rattle.loading.specs.steps.Linking.{HasBadInterface}
use Rattle.loading.specs.steps.FoundNames.{IsNoInterface}

-- memory ran out, or they are bad
abbrev pub FailsFor : List ClassFile → ClassFile → InterfaceFault → Type 0
FailsFor files f Memory = Unit {0}
FailsFor files f (Bad kind) = HasBadInterface files f kind

-- memory ran out, or one of the classes is no interface
abbrev pub FailsAmong : List ClassFile → List Superclass → InterfaceFault → Type 0
FailsAmong files classes Memory = Unit {0}
FailsAmong files classes (Bad kind) = (kind ≡ bad.NoInterface)
    × ((class : Superclass) × Contains classes class × IsNoInterface files class)

-- memory ran out, or this is the least kind of what is wrong with the class's parents
abbrev pub IsLeastFor : List ClassFile → ClassFile → InterfaceFault → Type 0
IsLeastFor files f Memory = Unit {0}
IsLeastFor files f (Bad kind) = HasLeastBadParent files f kind
