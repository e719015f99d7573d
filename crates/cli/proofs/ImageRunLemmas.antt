-- What is wrong with an image, or with its entries, as refusals.
use Rattle.std.proofs.Common.{◌≡◌, ◌≢◌, ◌⊎◌, inl, inr, ℕ, List, length, sym, subst, refl}
use Rattle.object_graph.specs.Images.{ImageTables}
use Rattle.image_parser.specs.ImageFaults.{ImageFails}
use Rattle.image_parser.specs.declared.image_fault.ImageFault.{ImageFault}
use Rattle.image_parser.specs.declared.image_fault.ImageFault.TheVariants as image_faults
use Rattle.program.specs.Programs.{IsProgram}
use Rattle.init_engine.specs.Starts.{EntriesFail, IsEntryCount}
use Rattle.init_engine.specs.declared.fault.EntryFault.{EntryFault}
use Rattle.init_engine.specs.declared.fault.EntryFault.TheVariants as entry_faults
use Rattle.cli.specs.declared.fault.CommandFault.{CommandFault}
use Rattle.cli.specs.declared.fault.CommandFault.TheVariants.{Image, Entry, Memory}
use Rattle.cli.specs.ImageRuns.{IsNoRun, IsSomeTextOf, image, entry}

pub refused_image : (bytes : List ℕ) (names : List (List ℕ)) (fault : ImageFault) (r : CommandFault)
    → IsEntryCount (length names) → (fault ≡ image_faults.Memory) ⊎ ImageFails bytes fault
    → (fault ≡ image_faults.Memory → r ≡ Memory)
    → (fault ≢ image_faults.Memory → r ≡ Image fault) → (r ≡ Memory) ⊎ IsNoRun bytes names r
refused_image bytes names fault r counted (inl e) memory other = inl (memory e)
refused_image bytes names image_faults.Memory r counted (inr fails) memory other = inl (memory refl)
refused_image bytes names fault r counted (inr fails) memory other =
    inr (subst (λ (x : CommandFault). IsNoRun bytes names x) (sym (other (λ e. cc))) (image counted fails))

pub refused_entry_of : (bytes : List ℕ) (names : List (List ℕ)) (I : ImageTables) (fault : EntryFault) (r :
    CommandFault)
    → IsEntryCount (length names) → IsProgram I.program → IsSomeTextOf bytes I
    → (fault ≡ entry_faults.Memory) ⊎ EntriesFail I.program names fault
    → (fault ≡ entry_faults.Memory → r ≡ Memory) → (fault ≢ entry_faults.Memory → r ≡ Entry fault)
    → (r ≡ Memory) ⊎ IsNoRun bytes names r
refused_entry_of bytes names I fault r counted program of (inl e) memory other = inl (memory e)
refused_entry_of bytes names I entry_faults.Memory r counted program of (inr fails) memory other = inl (memory refl)
refused_entry_of bytes names I fault r counted program of (inr fails) memory other =
    inr (subst (λ (x : CommandFault). IsNoRun bytes names x) (sym (other (λ e. cc))) (entry I counted program of fails))
