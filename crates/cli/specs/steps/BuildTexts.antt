-- The texts of a build.
use Rattle.std.specs.Prelude.{◌≡◌, ℕ, List, true, is_some}
use Rattle.building.specs.Builds.{text_of}
use Rattle.building.specs.declared.build.BuildOptions.{BuildOptions}
use Rattle.building.specs.declared.build.Built.{Built}
use Rattle.report.specs.Texts.{report_text}
use Rattle.command_line.specs.declared.request.Build.{Build}
use Rattle.cli.specs.Builds.{IsBuildOfClassFiles}
use Rattle.cli.specs.Done.{AreWritten}
use Rattle.cli.specs.Files.{Contents}
use Rattle.cli.specs.ImageBuilds.{IsBuiltText}
use Rattle.cli.specs.ImageRuns.{IsTextOf}
use Rattle.cli.specs.Pages.{IsPageBy, IsPagePut}
use Rattle.cli.specs.declared.build_texts.BuildTexts.{BuildTexts}
use Rattle.cli.specs.declared.build_texts.Wanted.{Wanted}

-- which texts of a build the words ask for, besides the image's
abbrev pub wanted_of : Build → Wanted
wanted_of words = record { report = is_some words.report; page = is_some words.page }

-- They are of one build of class files: the text of its image, and its report and its page where these are wanted.
pub record AreTextsOfBuild (files : List (List ℕ)) (options : BuildOptions) (wanted : Wanted) (made : BuildTexts)
    : Type 0 where
  pub answer : Built
  pub build : IsBuildOfClassFiles files options answer
  pub built : IsBuiltText files (text_of options.run_time) (text_of options.build_time) options.budget
      made.image.items
  pub text : IsTextOf made.image.items answer.image
  pub report : wanted.report ≡ true → made.report.items ≡ report_text answer.image answer.verdicts
  pub page : wanted.page ≡ true → IsPageBy answer (text_of options.run_time) options.budget made.page.items

-- The page is written, where the words name a file for it, and then the others.
pub record AreAllWritten (old new : Contents) (words : Build) (made : BuildTexts) : Type 0 where
  pub between : Contents
  pub page : IsPagePut old between words.page made.page.items
  pub written : AreWritten between new words.image.now words.report made.image.items made.report.items
