-- What is wrong with entries in a linked program is wrong with them in every linked program of the same family.
use Rattle.std.proofs.Common.{◌≡◌, ◌∙◌, ℕ, zero, suc, List, [], ◌∷◌, Option, Some, IsSome, slice_get}
use Rattle.std.proofs.Common.{refl, sym, subst, take}
use Rattle.std.specs.List.{AllZip}
use Rattle.classfile.specs.Units.{units_text}
use Rattle.loading.specs.declared.given.GivenClass.{GivenClass}
use Rattle.loading.specs.Families.{Family, name_in}
use Rattle.program.specs.declared.class.Class.{Class}
use Rattle.program.specs.Programs.{AreClasses, IsLinkedClass, IsProgram}
use Rattle.program.specs.Tables.{Tables, main_if, main_in}
use Rattle.init_engine.specs.declared.fault.EntryFault.{EntryFault}
use Rattle.init_engine.specs.Starts.{AreEntries, EntriesFail, IsAtFault, IsEntry, IsFirstAtFault}
use Rattle.init_engine.specs.Starts as starts

-- classes of the same files have the same `main`
same_mains : (G : Family) (s t : List (List ℕ)) (F : Family) (xs ys : List Class)
    → AllZip (λ (given : GivenClass) (class : Class). IsLinkedClass G s given.file class) F xs
    → AllZip (λ (given : GivenClass) (class : Class). IsLinkedClass G t given.file class) F ys → (c : ℕ)
    → main_if (slice_get xs c) ≡ main_if (slice_get ys c)
same_mains G s t [] [] [] are also c = refl
same_mains G s t [] [] (b ∷ ys) are also c = absurd also
same_mains G s t [] (a ∷ xs) ys are also c = absurd are
same_mains G s t (g ∷ F) [] bs are also c = absurd are
same_mains G s t (g ∷ F) (a ∷ xs) [] are also c = absurd also
same_mains G s t (g ∷ F) (a ∷ xs) (b ∷ ys) are also zero = are.0.main ∙ sym also.0.main
same_mains G s t (g ∷ F) (a ∷ xs) (b ∷ ys) are also (suc c) = same_mains G s t F xs ys are.1 also.1 c

module _ (P Q : Tables) (is : IsProgram P) (also : IsProgram Q) (family : P.family ≡ Q.family) where
  mains : (c : ℕ) → main_in P c ≡ main_in Q c
  mains c =
      same_mains P.family P.strings Q.strings P.family P.classes Q.classes is.classes
      (subst (λ (F : Family). AreClasses F Q.strings Q.classes) (sym family) also.classes) c

  named : (name : List ℕ) (c : ℕ) → name_in P.family c ≡ Some (units_text name)
      → name_in Q.family c ≡ Some (units_text name)
  named name c at = subst (λ (F : Family). name_in F c ≡ Some (units_text name)) family at

  back : (name : List ℕ) (c : ℕ) → name_in Q.family c ≡ Some (units_text name)
      → name_in P.family c ≡ Some (units_text name)
  back name c at = subst (λ (F : Family). name_in F c ≡ Some (units_text name)) (sym family) at

  still_entry : (name : List ℕ) (c : ℕ) → IsEntry P name c → IsEntry Q name c
  still_entry name c entry = record {
    named = named name c entry.named;
    main = subst (λ (o : Option ℕ). IsSome o) (mains c) entry.main;
  }

  still_entries : (names : List (List ℕ)) (cs : List ℕ) → AreEntries P names cs → AreEntries Q names cs
  still_entries [] [] all = all
  still_entries [] (c ∷ cs) all = absurd all
  still_entries (name ∷ names) [] all = absurd all
  still_entries (name ∷ names) (c ∷ cs) all = (still_entry name c all.0, still_entries names cs all.1)

  still_at_fault : {name : List ℕ} {place : ℕ} {fault : EntryFault} → IsAtFault P name place fault
      → IsAtFault Q name place fault
  still_at_fault {name} (starts.unknown none) = starts.unknown (λ c at. none c (back name c at))
  still_at_fault {name} (starts.no_main c at lacks) = starts.no_main c (named name c at) (sym (mains c) ∙ lacks)

  pub still_fail : {names : List (List ℕ)} {fault : EntryFault} → EntriesFail P names fault
      → EntriesFail Q names fault
  still_fail (starts.count wrong) = starts.count wrong
  still_fail {names} (starts.first few bad) =
      starts.first few (record {
        place = bad.place;
        name = bad.name;
        before = bad.before;
        runnable = still_entries (take bad.place names) bad.before bad.runnable;
        here = bad.here;
        wrong = still_at_fault bad.wrong;
      })
