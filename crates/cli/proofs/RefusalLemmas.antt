-- What the layers below refuse, as refusals.
use Rattle.std.proofs.Common.{◌≡◌, ◌≢◌, ℕ, ◌+◌, ◌<◌, ◌⊎◌, inl, inr, List, [], ◌∷◌, ◌++◌, length, take, Some}
use Rattle.std.proofs.Common.{get_or}
use Rattle.std.proofs.Common.{slice_get, sym, ap, subst, refl, ◌∙◌, Vec, Result, Ok, Err, IfOk, IfErr, OnOk}
use Rattle.std.proofs.lemmas.List.{map_more, take-map}
use Rattle.std.proofs.lemmas.Option.{slice_get-map}
use Rattle.classfile.specs.ClassFile.{ClassFile}
use Rattle.classfile.specs.Class.{IsClassText}
use Rattle.classfile.specs.FirstFault.{IsFirstFault}
use Rattle.classfile.specs.declared.fault.ClassFault.{ClassFault}
use Rattle.classfile.specs.declared.fault.ClassFault.TheVariants as faults
use Rattle.loading.proofs.ZipLemmas.{pairs_push}
use Rattle.loading.specs.Families.{IsFamilyOf}
use Rattle.loading.specs.Files.{LinkFails, Links}
use Rattle.loading.specs.declared.fault.LinkFault.{LinkFault}
use Rattle.loading.specs.declared.fault.LinkFault.TheVariants as link_faults
use Rattle.program.specs.Programs.{HasOwnStrings, IsProgram}
use Rattle.program.specs.Tables.{Tables}
use Rattle.init_engine.specs.Starts.{EntriesFail, IsEntryCount}
use Rattle.init_engine.specs.declared.fault.EntryFault.{EntryFault}
use Rattle.init_engine.specs.declared.fault.EntryFault.TheVariants as entry_faults
use Rattle.cli.specs.declared.fault.CommandFault.{CommandFault}
use Rattle.cli.specs.declared.fault.CommandFault.TheVariants.{Class, Link, Entry, Memory}
use Rattle.cli.specs.Runs.{texts_of, AreClassFiles, IsProgramOf, NotLinked, class, link, IsRefused}
use Rattle.cli.specs.Runs.{unlinked, entry}
use Rattle.cli.specs.steps.Refusals.{IsBadAt, bad, IsNoClassFile, first, IsUnlinkable, unlinkable, IsRefusedEntry}
use Rattle.cli.specs.steps.Refusals.{refused, MakesProgram}

-- ---- one layer's fault

pub bad_at : (place : ℕ) (text : List ℕ) (fault : ClassFault) (r : CommandFault) → IsFirstFault text fault
    → (fault ≡ faults.Memory → r ≡ Memory) → (fault ≢ faults.Memory → r ≡ Class place fault)
    → (r ≡ Memory) ⊎ IsBadAt place text r
bad_at place text faults.Memory r is memory other = inl (memory refl)
bad_at place text fault r is memory other =
    inr (subst (λ (x : CommandFault). IsBadAt place text x) (sym (other (λ e. cc))) (bad is))

is_no_memory : (files : List ClassFile) (fault : LinkFault) → LinkFails files fault → fault ≢ link_faults.Memory
is_no_memory files link_faults.Memory fails = elim fails [ ]
is_no_memory files fault fails = λ e. cc

pub unlinkable_by : (files : List ClassFile) (fault : LinkFault) (r : CommandFault)
    → (fault ≡ link_faults.Memory) ⊎ LinkFails files fault → (fault ≡ link_faults.Memory → r ≡ Memory)
    → (fault ≢ link_faults.Memory → r ≡ Link fault) → (r ≡ Memory) ⊎ IsUnlinkable files r
unlinkable_by files fault r (inl e) memory other = inl (memory e)
unlinkable_by files fault r (inr fails) memory other =
    inr (subst (λ (x : CommandFault). IsUnlinkable files x) (sym (other (is_no_memory files fault fails)))
    (unlinkable fails))

pub refused_by : (P : Tables) (names : List (List ℕ)) (fault : EntryFault) (r : CommandFault)
    → (fault ≡ entry_faults.Memory) ⊎ EntriesFail P names fault → (fault ≡ entry_faults.Memory → r ≡ Memory)
    → (fault ≢ entry_faults.Memory → r ≡ Entry fault) → (r ≡ Memory) ⊎ IsRefusedEntry P names r
refused_by P names entry_faults.Memory r fails memory other = inl (memory refl)
refused_by P names fault r (inl e) memory other = inl (memory e)
refused_by P names fault r (inr fails) memory other =
    inr (subst (λ (x : CommandFault). IsRefusedEntry P names x) (sym (other (λ e. cc))) (refused fails))

-- ---- class files one by one

pub files_more : {A : Type 0} (files : List (Vec ℕ A)) (i : ℕ) (d file : Vec ℕ A) (c : ClassFile)
    (old new : List ClassFile)
    → i < length files → file ≡ get_or files i d → new ≡ old ++ c ∷ [] → IsClassText file.items c
    → AreClassFiles (texts_of (take i files)) old → AreClassFiles (texts_of (take (i + 1) files)) new
files_more {A} files i d file c old new within read pushed text all =
    let front : texts_of (take (i + 1) files) ≡ texts_of (take i files) ++ file.items ∷ [] =
    map_more (λ (f : Vec ℕ A). f.items) files i d within
    ∙ ap (λ (f : Vec ℕ A). texts_of (take i files) ++ f.items ∷ []) (sym read) in
    rw (front, pushed) (pairs_push IsClassText (texts_of (take i files)) old file.items c all text)

no_class_file : {A : Type 0} {r : CommandFault} (files : List (Vec ℕ A)) (i : ℕ) (file : Vec ℕ A) (before : List
    ClassFile)
    → slice_get files i ≡ Some file → AreClassFiles (texts_of (take i files)) before → IsBadAt i file.items r
    → IsNoClassFile (texts_of files) r
no_class_file {A} files i file before at all (bad breaks) =
    first (record {
      before = before;
      well = subst (λ (ts : List (List ℕ)). AreClassFiles ts before)
          (sym (take-map (λ (f : Vec ℕ A). f.items) i files)) all;
      text = file.items;
      here = slice_get-map (λ (f : Vec ℕ A). f.items) files i ∙ rw at refl;
      breaks = breaks;
    })

pub first_bad : {A : Type 0} (files : List (Vec ℕ A)) (i : ℕ) (file : Vec ℕ A) (before : List ClassFile) (r :
    CommandFault)
    → slice_get files i ≡ Some file → AreClassFiles (texts_of (take i files)) before
    → (r ≡ Memory) ⊎ IsBadAt i file.items r → (r ≡ Memory) ⊎ IsNoClassFile (texts_of files) r
first_bad files i file before r at all (inl memory) = inl memory
first_bad files i file before r at all (inr wrong) = inr (no_class_file files i file before at all wrong)

-- ---- layer over layer

not_class : {texts : List (List ℕ)} {r : CommandFault} → IsNoClassFile texts r → NotLinked texts r
not_class (first wrong) = class wrong

pub not_read : (texts : List (List ℕ)) (r : CommandFault) → (r ≡ Memory) ⊎ IsNoClassFile texts r
    → MakesProgram texts (Err r)
not_read texts r (inl memory) = record { program = tt; refusal = inl memory }
not_read texts r (inr wrong) = record { program = tt; refusal = inr (not_class wrong) }

not_link : {texts : List (List ℕ)} {files : List ClassFile} {r : CommandFault} → AreClassFiles texts files
    → IsUnlinkable files r → NotLinked texts r
not_link are (unlinkable fails) = link are fails

pub linked_or_not : (texts : List (List ℕ)) (files : List ClassFile) (r : Result Tables CommandFault)
    → AreClassFiles texts files → OnOk r (Links files)
    → IfOk r (λ P. IsFamilyOf files P.family × IsProgram P) → IfOk r HasOwnStrings
    → IfErr r (λ refusal. (refusal ≡ Memory) ⊎ IsUnlinkable files refusal) → MakesProgram texts r
linked_or_not texts files (Ok P) are links (family, program) own wrong = record {
  program = record {
    files = files;
    are = are;
    links = links;
    family = family;
    program = program;
    own_strings = own;
  };
  refusal = tt;
}
linked_or_not texts files (Err refusal) are links program own (inl memory) =
    record { program = tt; refusal = inl memory }
linked_or_not texts files (Err refusal) are links program own (inr wrong) =
    record { program = tt; refusal = inr (not_link are wrong) }

pub refused_texts : (texts names : List (List ℕ)) (r : CommandFault) → IsEntryCount (length names)
    → (r ≡ Memory) ⊎ NotLinked texts r → (r ≡ Memory) ⊎ IsRefused texts names r
refused_texts texts names r counted (inl memory) = inl memory
refused_texts texts names r counted (inr wrong) = inr (unlinked counted wrong)

refused_entry : {texts names : List (List ℕ)} {P : Tables} {r : CommandFault} → IsEntryCount (length names)
    → IsProgramOf texts P → IsRefusedEntry P names r → IsRefused texts names r
refused_entry counted program (refused fails) = entry counted program fails

pub refused_entries : (texts names : List (List ℕ)) (P : Tables) (r : CommandFault) → IsEntryCount (length names)
    → IsProgramOf texts P → (r ≡ Memory) ⊎ IsRefusedEntry P names r → (r ≡ Memory) ⊎ IsRefused texts names r
refused_entries texts names P r counted program (inl memory) = inl memory
refused_entries texts names P r counted program (inr wrong) = inr (refused_entry counted program wrong)
