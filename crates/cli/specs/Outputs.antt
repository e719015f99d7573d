-- What words name for output, beside what they name for input.
use Rattle.std.specs.Prelude.{◌≢◌, ℕ, List, [], ◌∷◌, Some, IfSome, ⊤}
use Rattle.std.specs.List.{All}
use Rattle.command_line.specs.Requests.{texts}
use Rattle.command_line.specs.declared.request.Build.{Build}
use Rattle.command_line.specs.declared.request.Request.{Request}
use Rattle.command_line.specs.declared.request.Request.TheVariants as requests
use Rattle.cli.specs.Lists.{list_of}

-- no input has the name of this output
abbrev pub IsNoneOf : List ℕ → List (List ℕ) → Type 0
IsNoneOf output inputs = All (λ (input : List ℕ). input ≢ output) inputs

-- a build's report, where the words name a file for it, has the name of no input and not that of the image
abbrev pub IsReportApart : Build → Type 0
IsReportApart words = IfSome words.report
    (λ name. IsNoneOf name.now (texts words.building.files.items) × (name.now ≢ words.image.now))

-- and so has its page, where the words name a file for it, and it has not the report's name
abbrev pub IsPageApart : Build → Type 0
IsPageApart words = IfSome words.page (λ name. IsNoneOf name.now (texts words.building.files.items)
    × (name.now ≢ words.image.now) × IfSome words.report (λ report. name.now ≢ report.now))

-- what a request has written has the name of nothing that it has read, and of nothing else that it has written
abbrev pub IsApart : Request → Type 0
IsApart (requests.Build words) =
    IsNoneOf words.image.now (texts words.building.files.items) × IsReportApart words × IsPageApart words
IsApart (requests.Report words) = IfSome words.page (λ name. IsNoneOf name.now (texts words.building.files.items))
IsApart (requests.Renew words) = IsNoneOf words.new.now (words.image.now ∷ [])
IsApart (requests.Run words) = IfSome words.journal (λ name. IsNoneOf name.now (words.image.now ∷ []))
IsApart _ = ⊤

-- none of these words names the list that this output is
abbrev pub IsNoListOf : List ℕ → List (List ℕ) → Type 0
IsNoListOf output words = All (λ (word : List ℕ). list_of word ≢ Some output) words

-- what a request has written has the name of no list that its words name
abbrev pub AreListsApart : Request → Type 0
AreListsApart (requests.Build words) =
    IsNoListOf words.image.now (texts words.building.files.items)
    × IfSome words.report (λ name. IsNoListOf name.now (texts words.building.files.items))
    × IfSome words.page (λ name. IsNoListOf name.now (texts words.building.files.items))
AreListsApart (requests.Report words) =
    IfSome words.page (λ name. IsNoListOf name.now (texts words.building.files.items))
AreListsApart _ = ⊤
