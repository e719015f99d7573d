-- The fault of a class whose superinterfaces are not answered.
use Rattle.std.proofs.Common.{List}
use Rattle.classfile.specs.ClassFile.{ClassFile}
use Rattle.loading.specs.declared.given.Superclass.{Superclass}
use Rattle.loading.specs.declared.parents.InterfaceFault.{InterfaceFault}
use Rattle.loading.specs.declared.parents.InterfaceFault.TheVariants.{Memory, Bad}
use Rattle.loading.specs.steps.InterfaceFaults.{FailsFor, IsLeastFor}
use Rattle.loading.specs.steps.Linking.{AreNamed, IsSuperclass}
use Rattle.loading.proofs.FilesParentLemmas.{least_interface}

pub least_for : (files : List ClassFile) (f : ClassFile) (class : Superclass) (fault : InterfaceFault) → AreNamed files
    → IsSuperclass files f class
    → FailsFor files f fault → IsLeastFor files f fault
least_for files f class Memory n is fails = tt
least_for files f class (Bad kind) n is fails = least_interface files f class kind n is fails
