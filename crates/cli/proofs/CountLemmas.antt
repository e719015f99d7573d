-- A wrong number of entries is told just where there is one.
use Rattle.std.proofs.Common.{◌≡◌, ◌↔◌, ◌⊎◌, inl, inr, ℕ, List, Result, Err, length}
use Rattle.program.specs.Tables.{Tables}
use Rattle.init_engine.specs.declared.fault.EntryFault.{EntryFault}
use Rattle.init_engine.specs.declared.fault.EntryFault.TheVariants.{Count}
use Rattle.init_engine.specs.Starts.{EntriesFail, IsAtFault, IsEntryCount}
use Rattle.init_engine.specs.Starts as starts
use Rattle.cli.specs.declared.fault.CommandFault.{CommandFault}
use Rattle.cli.specs.declared.fault.CommandFault.TheVariants.{Entry, Memory}
use Rattle.cli.specs.ImageRuns.{IsNoRun}
use Rattle.cli.specs.ImageRuns as image_runs
use Rattle.cli.specs.Runs.{IsRefused}
use Rattle.cli.specs.Runs as runs
use Rattle.cli.proofs.EntriesLemmas.{no_count}

same_fault : (x y : EntryFault) → Entry x ≡ Entry y → x ≡ y
same_fault x y is = cc

abbrev refused : (T : Type 0) → CommandFault → Result T CommandFault
refused T r = Err r

same_refusal : {T : Type 0} (r q : CommandFault) → refused T r ≡ refused T q → r ≡ q
same_refusal r q is = cc

not_at_count : {P : Tables} {name : List ℕ} {place : ℕ} {fault : EntryFault} → IsAtFault P name place fault
    → fault ≡ Count → ⊥
not_at_count (starts.unknown none) is = cc
not_at_count (starts.no_main c named none) is = cc

few_fail_otherwise : {P : Tables} {names : List (List ℕ)} {fault : EntryFault} → EntriesFail P names fault
    → fault ≡ Count → IsEntryCount (length names) → ⊥
few_fail_otherwise (starts.count wrong) is few = no_count few wrong
few_fail_otherwise (starts.first counted bad) is few = not_at_count bad.wrong is

-- ---- of class files

not_count : {texts names : List (List ℕ)} {r : CommandFault} → IsRefused texts names r → r ≡ Entry Count
    → IsEntryCount (length names) → ⊥
not_count (runs.count wrong) is few = wrong few
not_count (runs.unlinked counted (runs.class bad)) is few = cc
not_count (runs.unlinked counted (runs.link are fails)) is few = cc
not_count (runs.entry {fault} counted of fails) is few = few_fail_otherwise fails (same_fault fault Count is) few

pub told_count : {T : Type 0} (texts names : List (List ℕ)) (r : CommandFault) → (r ≡ Memory) ⊎ IsRefused texts names r
    → IsEntryCount (length names) → (refused T r ≡ refused T (Entry Count)) ↔ (¬ IsEntryCount (length names))
told_count {T} texts names r told few = (not_told told, λ none. absurd (none few))
  where
    not_told : (r ≡ Memory) ⊎ IsRefused texts names r → refused T r ≡ refused T (Entry Count)
        → ¬ IsEntryCount (length names)
    not_told (inl memory) is = let same = same_refusal {T = T} r (Entry Count) is in absurd cc
    not_told (inr wrong) is = not_count wrong (same_refusal {T = T} r (Entry Count) is)

-- ---- of an image

not_count_of_image : {bytes : List ℕ} {names : List (List ℕ)} {r : CommandFault} → IsNoRun bytes names r
    → r ≡ Entry Count → IsEntryCount (length names) → ⊥
not_count_of_image (image_runs.count wrong) is few = wrong few
not_count_of_image (image_runs.image counted fails) is few = cc
not_count_of_image (image_runs.entry I {fault} counted program of fails) is few =
    few_fail_otherwise fails (same_fault fault Count is) few

pub told_count_of_image : {T : Type 0} (bytes : List ℕ) (names : List (List ℕ)) (r : CommandFault)
    → (r ≡ Memory) ⊎ IsNoRun bytes names r → IsEntryCount (length names)
    → (refused T r ≡ refused T (Entry Count)) ↔ (¬ IsEntryCount (length names))
told_count_of_image {T} bytes names r told few = (not_told told, λ none. absurd (none few))
  where
    not_told : (r ≡ Memory) ⊎ IsNoRun bytes names r → refused T r ≡ refused T (Entry Count)
        → ¬ IsEntryCount (length names)
    not_told (inl memory) is = let same = same_refusal {T = T} r (Entry Count) is in absurd cc
    not_told (inr wrong) is = not_count_of_image wrong (same_refusal {T = T} r (Entry Count) is)
