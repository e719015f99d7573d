-- What was done that words ask for, and its status.
use Rattle.std.proofs.Common.{◌≡◌, ◌≢◌, ◌⊎◌, inl, inr, ◌∙◌, ℕ, ◌==◌, List, refl, sym, ap, if◌then◌else◌}
use Rattle.std.proofs.Common.{subst}
use Rattle.std.specs.Borrow.{Bor}
use Rattle.std.specs.Global.{Vec}
use Rattle.std.specs.List.{flat_map}
use Rattle.command_line.specs.CommandLine.{AsksHelp}
use Rattle.command_line.specs.Files.{files_of, with_files}
use Rattle.command_line.specs.Requests.{IsLine, texts}
use Rattle.command_line.specs.declared.request.Request.{Request}
use Rattle.cli.specs.declared.status.Status.{Status}
use Rattle.cli.specs.declared.status.Status.TheVariants.{Done, Refused, Words, Failed, Stuck, Limit, Ended}
use Rattle.cli.specs.Done.{AskFor, HoldsWithLists, IsNoRequest}
use Rattle.cli.specs.Files.{Contents}
use Rattle.cli.specs.Outputs.{AreListsApart}
use Rattle.cli.specs.declared.lists.Given.{Given}
use Rattle.cli.specs.steps.Lists.{AreGivenAs, names_of}
use Rattle.cli.proofs.ListLemmas.{names_given}
use Rattle.cli.specs.CommandFault.{refusal_status}
use Rattle.cli.specs.Status.{IsOver, code_of}
use Rattle.cli.specs.declared.fault.CommandFault.{CommandFault}
use Rattle.cli.specs.declared.fault.CommandFault.TheVariants as refusals

-- ---- words with the names of lists in their place

-- what is done with the names that words give
pub with_lists : (holds : Contents) (asked : Request) (names : Vec (Bor (List ℕ))) (given : List Given)
    (P : Request → Type 0) (request : Request) → AreGivenAs holds (texts (files_of asked)) given
    → texts names.items ≡ flat_map names_of given → request ≡ with_files asked names → P request
    → HoldsWithLists holds asked P
with_lists holds asked names given P request all is made has = record {
  names = names;
  given = names_given holds (texts (files_of asked)) (texts names.items) given all is;
  has = subst P made has;
}

-- what files held that nothing was written to since
pub held_before : (holds now : Contents) (asked : Request) (P : Contents → Request → Type 0) → now ≡ holds
    → HoldsWithLists now asked (P now) → HoldsWithLists holds asked (P holds)
held_before holds now asked P same has =
    subst (λ (h : Contents). HoldsWithLists h asked (P h)) same has

-- what words ask for
pub asked_for : (words : List (List ℕ)) (holds now : Contents) (asked : Request) (P : Contents → Request → Type 0)
    → IsLine words asked → AreListsApart asked → now ≡ holds → HoldsWithLists now asked (P now)
    → AskFor words holds (P holds)
asked_for words holds now asked P read apart same has = record {
  asked = asked;
  read = read;
  lists = apart;
  has = held_before holds now asked P same has;
}

-- ---- words that are no request

pub help_if_over : (words : List (List ℕ)) (status : Status) → IsOver status → IsNoRequest words status
    → AsksHelp words
help_if_over words Done over asked = asked
help_if_over words Refused over asked = absurd over
help_if_over words Words over asked = absurd over
help_if_over words Failed over asked = absurd over
help_if_over words Stuck over asked = asked
help_if_over words Limit over asked = asked
help_if_over words Ended over asked = asked

pub help_asked : (words : List (List ℕ)) (status : Status) → status ≢ Words → AsksHelp words → IsNoRequest words status
help_asked words Done told asked = asked
help_asked words Refused told asked = tt
help_asked words Words told asked = absurd (told refl)
help_asked words Failed told asked = asked
help_asked words Stuck told asked = asked
help_asked words Limit told asked = asked
help_asked words Ended told asked = asked

-- ---- refusals

-- a command that was refused is not over
pub refused_is_not_over : (refusal : CommandFault) → ¬ IsOver (refusal_status refusal)
refused_is_not_over refusals.Memory = λ over. over
refused_is_not_over (refusals.Class place fault) = λ over. over
refused_is_not_over (refusals.Link fault) = λ over. over
refused_is_not_over (refusals.Image fault) = λ over. over
refused_is_not_over (refusals.Entry fault) = λ over. over
refused_is_not_over (refusals.Option text) = λ over. over
refused_is_not_over refusals.Budget = λ over. over
refused_is_not_over (refusals.Wave fault) = λ over. over
refused_is_not_over (refusals.File name cause) = λ over. over
refused_is_not_over (refusals.List name) = λ over. over
refused_is_not_over (refusals.Text line) = λ over. over
refused_is_not_over (refusals.Turn line) = λ over. over
refused_is_not_over refusals.Spawn = λ over. over
refused_is_not_over refusals.Device = λ over. over

-- ---- numbers of statuses

status_at : ℕ → Status
status_at n =
    if n == 0 then Done else
    (if n == 1 then Refused else
    (if n == 2 then Words else
    (if n == 3 then Failed else (if n == 4 then Stuck else (if n == 5 then Limit else Ended)))))

at_its_number : (s : Status) → status_at (code_of s) ≡ s
unfolding status_at
at_its_number Done = refl
at_its_number Refused = refl
at_its_number Words = refl
at_its_number Failed = refl
at_its_number Stuck = refl
at_its_number Limit = refl
at_its_number Ended = refl

-- a status has one number
pub one_status : (s t : Status) → code_of s ≡ code_of t → s ≡ t
one_status s t same = sym (at_its_number s) ∙ (ap status_at same ∙ at_its_number t)
