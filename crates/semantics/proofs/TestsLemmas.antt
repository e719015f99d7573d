-- Small facts on tests and options.
use Rattle.std.proofs.Common.{◌≡◌, true, Some}
use Rattle.vm_state.specs.declared.value.Maker.{Maker}
use Rattle.vm_state.specs.declared.value.Maker.TheVariants.{Class, Thread}
use Rattle.std.proofs.Common.{ap, eqb-true}
use Rattle.vm_state.specs.SharedState.{same_maker}

pub from_some : {A : Type 0} {a b : A} → Some a ≡ Some b → a ≡ b
from_some h = cc

pub same_maker-true : (m n : Maker) → same_maker m n ≡ true → m ≡ n
same_maker-true (Class c) (Class d) h = ap Class (eqb-true c d h)
same_maker-true (Thread t) (Thread u) h = ap Thread (eqb-true t u h)
same_maker-true (Class c) (Thread t) h = cc
same_maker-true (Thread t) (Class c) h = cc
