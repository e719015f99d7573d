-- What the command `explain` has done.
use Rattle.std.specs.Prelude.{◌≡◌, ◌≢◌, ◌⊎◌, ℕ, List, [], ◌∷◌, Option, Some, Bool, codes}
use Rattle.std.specs.Io.KnownBytes.{Appends}
use Rattle.classfile.specs.Units.{units_text}
use Rattle.loading.specs.Families.{name_in}
use Rattle.program.specs.Tables.{Tables}
use Rattle.options.specs.Classes.{AreClasses, IsForced}
use Rattle.explain.specs.AllTexts.{IsAllText}
use Rattle.explain.specs.Texts.{IsClassText}
use Rattle.building.specs.Builds.{patterns_in, text_of}
use Rattle.building.specs.declared.build.Built.{Built}
use Rattle.command_line.specs.declared.request.Explain.{Explain}
use Rattle.cli.specs.Entries.{entry_names}
use Rattle.cli.specs.Files.{Contents}
use Rattle.cli.specs.Requested.{IsAskedBuild}

-- The words are the name of one class, with dots, and this is the given class of that name.
pub record IsClassOf (P : Tables) (words : List ℕ) (c : ℕ) : Type 0 where
  pub name : List ℕ
  pub only : entry_names words ≡ name ∷ []
  pub named : name_in P.family c ≡ Some (units_text name)

-- The text is the one on the class of that name.
pub record IsExplanationOfClass (answer : Built) (at_run_time : List Bool) (budget : ℕ) (words text : List ℕ)
    : Type 0 where
  pub class : ℕ
  pub is : IsClassOf answer.image.program words class
  pub told : IsClassText answer.image answer.verdicts at_run_time budget class text

-- The text is the one on all classes where the words say `all`, and else the one on the class of their name.
abbrev pub IsExplanationOf : Built → List Bool → ℕ → List ℕ → List ℕ → Type 0
IsExplanationOf answer at_run_time budget words text =
    ((words ≡ codes "all") × IsAllText answer.image answer.verdicts at_run_time budget text)
    ⊎ ((words ≢ codes "all") × IsExplanationOfClass answer at_run_time budget words text)

-- The text is told where those classes are forced that a list of patterns says.
pub record IsExplanationBy (answer : Built) (run_time : Option (List ℕ)) (budget : ℕ) (words text : List ℕ)
    : Type 0 where
  pub at_run_time : List Bool
  pub forced : AreClasses at_run_time (IsForced answer.image.program.family (patterns_in run_time))
  pub told : IsExplanationOf answer at_run_time budget words text

-- The class files are built in memory, and this is told of that build, as the words say.
pub record IsExplained (holds : Contents) (words : Explain) (text : List ℕ) : Type 0 where
  pub answer : Built
  pub asked : IsAskedBuild holds words.building answer
  pub told : IsExplanationBy answer (text_of words.building.run_time) words.building.budget words.class.now text

-- The text of such an explanation went out.
pub record HasExplained (holds : Contents) (words : Explain) (before after : Option (List ℕ)) : Type 0 where
  pub text : List ℕ
  pub is : IsExplained holds words text
  pub sent : Appends before after text
