-- What instructions keep of the names and values that they are given.
use Rattle.std.proofs.Common.{◌≡◌, ℤ, true, Some, subst}
use Rattle.vm_state.specs.declared.value.Value.{Value}
use Rattle.vm_state.specs.declared.value.Value.TheVariants as values
use Rattle.vm_state.specs.declared.value.Name.{Name}
use Rattle.vm_state.specs.Values.{name_of, value_of}
use Rattle.semantics.specs.Lawful.{Names, Knows, KnowsName}
use Rattle.semantics.proofs.FrameMovesLemmas.{name_known}

-- It holds of the values that instructions make up, and of a reference to an object where N holds of the object's name.
pub record IsKept (N : Name → Type 0) (Q : Value → Type 0) : Type 0 where
  pub int : (n : ℤ) → Q (values.Int n)
  pub long : (n : ℤ) → Q (values.Long n)
  pub null : Q values.Null
  pub out : Q values.Out
  pub reference : (x : Name) → N x → Q (value_of x)
  pub name : (v : Value) → Q v → (x : Name) → name_of v ≡ Some x → N x

-- that a name is known
pub names_kept : (known : Names) → IsKept (λ x. known x ≡ true) (Knows known)
names_kept known = record {
  int = λ n. tt;
  long = λ n. tt;
  null = tt;
  out = tt;
  reference = name_known known;
  name = λ v h x is. subst (KnowsName known) is h;
}
