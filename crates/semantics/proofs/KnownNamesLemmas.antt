-- What is known where fewer names are known is known where more are.
use Rattle.std.proofs.Common.{◌≡◌, true, List, [], ◌∷◌, Option, Some, None, refl}
use Rattle.std.specs.List.{AllByRecursion}
use Rattle.vm_state.specs.declared.value.Value.{Value}
use Rattle.vm_state.specs.declared.value.Name.{Name}
use Rattle.vm_state.specs.declared.frame.Frame.{Frame}
use Rattle.vm_state.specs.Values.{name_of}
use Rattle.semantics.specs.Lawful.{Names, KnowsName, Knows, KnowsAll, KnowsSome, KnowsSlots, KnowsFrame}
use Rattle.semantics.specs.helpers.Lawful.{KnowsFrames}

-- the first knows no more than the second
abbrev pub Fewer : Names → Names → Type 0
Fewer p q = (x : Name) → p x ≡ true → q x ≡ true

pub all-mono : {X : Type 0} (P Q : X → Type 0) → ((x : X) → P x → Q x) → (xs : List X) → AllByRecursion P xs
    → AllByRecursion Q xs
all-mono P Q h [] k = tt
all-mono P Q h (x ∷ xs) k = (h x k.0, all-mono P Q h xs k.1)

pub KnowsName-mono : (p q : Names) → Fewer p q → (o : Option Name) → KnowsName p o → KnowsName q o
KnowsName-mono p q h None k = tt
KnowsName-mono p q h (Some x) k = h x k

pub Knows-mono : (p q : Names) → Fewer p q → (v : Value) → Knows p v → Knows q v
Knows-mono p q h v k = KnowsName-mono p q h (name_of v) k

pub KnowsAll-mono : (p q : Names) → Fewer p q → (vs : List Value) → KnowsAll p vs → KnowsAll q vs
KnowsAll-mono p q h vs k = all-mono (Knows p) (Knows q) (Knows-mono p q h) vs k

pub KnowsSome-mono : (p q : Names) → Fewer p q → (o : Option Value) → KnowsSome p o → KnowsSome q o
KnowsSome-mono p q h None k = tt
KnowsSome-mono p q h (Some v) k = Knows-mono p q h v k

pub KnowsSlots-mono : (p q : Names) → Fewer p q → (o : Option (List Value)) → KnowsSlots p o → KnowsSlots q o
KnowsSlots-mono p q h None k = tt
KnowsSlots-mono p q h (Some vs) k = KnowsAll-mono p q h vs k

pub KnowsFrame-mono : (p q : Names) → Fewer p q → (f : Frame) → KnowsFrame p f → KnowsFrame q f
KnowsFrame-mono p q h f k = (
  KnowsAll-mono p q h f.operands.values k.0,
  all-mono (KnowsSome p) (KnowsSome q) (KnowsSome-mono p q h) f.locals
      k.1,
)

pub KnowsFrames-mono : (p q : Names) → Fewer p q → (fs : List Frame) → KnowsFrames p fs → KnowsFrames q fs
KnowsFrames-mono p q h fs k = all-mono (KnowsFrame p) (KnowsFrame q) (KnowsFrame-mono p q h) fs k

-- ---- where each name is known

abbrev pub any : Names
any x = true

pub any-name : (o : Option Name) → KnowsName any o
any-name None = tt
any-name (Some x) = refl

pub any-all : (vs : List Value) → KnowsAll any vs
any-all [] = tt
any-all (v ∷ vs) = (any-name (name_of v), any-all vs)

pub any-slots : (o : Option (List Value)) → KnowsSlots any o
any-slots None = tt
any-slots (Some vs) = any-all vs

any-locals : (os : List (Option Value)) → AllByRecursion (KnowsSome any) os
any-locals [] = tt
any-locals (None ∷ os) = (tt, any-locals os)
any-locals (Some v ∷ os) = (any-name (name_of v), any-locals os)

pub any-frame : (f : Frame) → KnowsFrame any f
any-frame f = (any-all f.operands.values, any-locals f.locals)
