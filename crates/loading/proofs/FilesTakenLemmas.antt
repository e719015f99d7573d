-- Files that have the name of a built-in class.
use Rattle.std.proofs.Common.{◌≡◌, ◌≢◌, ℕ, ◌≤◌, true, false, List, ◌∷◌, length, Option, Some, None, refl, sym, subst}
use Rattle.std.specs.List.{slice_get}
use Rattle.std.specs.Option.{MatchOption, is_some}
use Rattle.classfile.specs.ClassFile.{ClassFile}
use Rattle.built_in.specs.declared.class_id.BuiltIn.{BuiltIn}
use Rattle.built_in.specs.ClassNames.{name_of_built_in}
use Rattle.loading.specs.Names.{name_of, Precedes}
use Rattle.loading.specs.Files.{IsBuiltIn, IsTaken, IsLeast, No}
use Rattle.loading.specs.steps.Linking.{Ascend, ArePlain}
use Rattle.loading.proofs.LinkingPlaceLemmas.{NoneBefore, member_at, not_below, none_at_all}

-- what a look-up says
pub found_built_in : (o : Option BuiltIn) (name : List ℕ) → MatchOption o ((c : BuiltIn) → name_of_built_in c ≢ name)
    (λ c. name_of_built_in c ≡ name)
    → is_some o ≡ true → IsBuiltIn name
found_built_in None name says e = absurd cc
found_built_in (Some class) name says e = (class, says)

pub found_none : (o : Option BuiltIn) (name : List ℕ) → MatchOption o ((c : BuiltIn) → name_of_built_in c ≢ name)
    (λ c. name_of_built_in c ≡ name)
    → is_some o ≡ false → IsBuiltIn name → ⊥
found_none None name says e (class, is) = says class is
found_none (Some class) name says e built = cc

abbrev pub HasTakenName : ClassFile → Type 0
HasTakenName f = IsBuiltIn (name_of f)

abbrev pub HasArrayName : ClassFile → Type 0
HasArrayName f = (rest : List ℕ) × (name_of f ≡ 91 ∷ rest)

pub least_taken : (files : List ClassFile) (n : ℕ) (f : ClassFile) → Ascend files → slice_get files n ≡ Some f
    → NoneBefore HasTakenName files n
    → IsBuiltIn (name_of f) → IsLeast (IsTaken files) (name_of f)
least_taken files n f up at-f none built = (((f, (member_at files n f at-f, refl)), built), least)
  where
    least : (other : List ℕ) → IsTaken files other → Precedes other (name_of f) → ⊥
    least other ((g, (in-g, is-g)), taken) low =
        not_below HasTakenName files n f up at-f none g in-g (subst (λ (z : List ℕ). IsBuiltIn z) (sym is-g) taken)
        (subst (λ (z : List ℕ). Precedes z (name_of f)) (sym is-g) low)

pub none_taken : (files : List ClassFile) (n : ℕ) → length files ≤ n → NoneBefore HasTakenName files n
    → No (IsTaken files)
none_taken files n all none name ((g, (in-g, is-g)), taken) =
    none_at_all HasTakenName files n all none g in-g (subst (λ (z : List ℕ). IsBuiltIn z) (sym is-g) taken)

pub none_array : (files : List ClassFile) (n : ℕ) → length files ≤ n → NoneBefore HasArrayName files n → ArePlain files
none_array files n all none f in-f rest is = none_at_all HasArrayName files n all none f in-f (rest, is)
