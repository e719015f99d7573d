-- The page of a build, and the file that gets it.
use Rattle.std.specs.Prelude.{◌≡◌, ℕ, Bool, List, Option, Some, None}
use Rattle.std.specs.Borrow.{Bor}
use Rattle.options.specs.Classes.{AreClasses, IsForced}
use Rattle.building.specs.Builds.{patterns_in}
use Rattle.building.specs.declared.build.Built.{Built}
use Rattle.report_page.specs.Pages.{IsPage}
use Rattle.cli.specs.Files.{AreBytesOf, Contents, OthersStay}

-- The page of a build within this budget, where those classes are forced that a list of patterns says.
pub record IsPageBy (answer : Built) (run_time : Option (List ℕ)) (budget : ℕ) (text : List ℕ) : Type 0 where
  pub at_run_time : List Bool
  pub forced : AreClasses at_run_time (IsForced answer.image.program.family (patterns_in run_time))
  pub page : IsPage answer.image answer.verdicts at_run_time budget text

-- The file of this name holds a page, if there is a name, and no other file was changed.
abbrev pub IsPagePut : Contents → Contents → Option (Bor (List ℕ)) → List ℕ → Type 0
IsPagePut old new None text = new ≡ old
IsPagePut old new (Some name) text = AreBytesOf (new name.now) text × OthersStay old new name.now
