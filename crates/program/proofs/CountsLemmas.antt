-- How many methods a class of a linked program has.
use Rattle.std.proofs.Common.{◌≡◌, ℕ, List, [], ◌∷◌, Option, Some, None, slice_get, length, refl, ap, suc}
use Rattle.std.specs.List.{AllZip}
use Rattle.classfile.specs.ClassFile.{ClassFile}
use Rattle.classfile.specs.declared.member.Member.{Member}
use Rattle.loading.specs.Families.{file_of, file_in}
use Rattle.loading.specs.declared.given.GivenClass.{GivenClass}
use Rattle.program.specs.declared.class.Class.{Class}
use Rattle.program.specs.Programs.{IsLinkedClass, IsProgram, IsImplementation}
use Rattle.program.specs.Tables.{Tables, implementations_of}
use Rattle.program.proofs.PoolFieldsLemmas.{zip_none, zip_some}

same_length : {A B : Type 0} (R : A → B → Type 0) (xs : List A) (ys : List B) → AllZip R xs ys → length xs ≡ length ys
same_length R [] [] all = refl
same_length R [] (y ∷ ys) all = absurd all
same_length R (x ∷ xs) [] all = absurd all
same_length R (x ∷ xs) (y ∷ ys) all = ap suc (same_length R xs ys all.1)

abbrev pub methods_if : Option ClassFile → List Member
methods_if None = []
methods_if (Some f) = f.methods

-- each method of its class file has one implementation
pub methods_counted : (P : Tables) → IsProgram P → (c : ℕ)
    → length (methods_if (file_in P.family c)) ≡ length (implementations_of (slice_get P.classes c))
methods_counted P fits c = by (slice_get P.family c) refl
  where
    by : (o : Option GivenClass) → slice_get P.family c ≡ o
        → length (methods_if (file_of (slice_get P.family c))) ≡ length (implementations_of (slice_get P.classes c))
    by None at = rw (
      at,
      zip_none (λ (given : GivenClass) (class : Class). IsLinkedClass P.family P.strings given.file class)
          P.family P.classes c fits.classes at,
    ) refl
    by (Some given) at =
        let held = zip_some (λ (given : GivenClass) (class : Class). IsLinkedClass P.family P.strings given.file class)
        P.family P.classes c given fits.classes at in
        rw (at, held.1) (same_length (IsImplementation P.family given.file) given.file.methods held.0.methods
        held.2.methods)

-- each class file has one class
pub classes_counted : (P : Tables) → IsProgram P → length P.family ≡ length P.classes
classes_counted P fits =
    same_length (λ (given : GivenClass) (class : Class). IsLinkedClass P.family P.strings given.file class)
    P.family P.classes
    fits.classes
