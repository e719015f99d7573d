-- Inputs one by one, none of which has the name of an output, and what outputs get.
use Rattle.std.proofs.Common.{◌≡◌, ◌≢◌, ◌∙◌, ℕ, ◌+◌, ◌<◌, List, [], ◌∷◌, ◌++◌, Bool, true, false, length, take, get_or}
use Rattle.std.proofs.Common.{refl, sym, subst, Option, Some, None, is_some}
use Rattle.std.proofs.lemmas.List.{map_more}
use Rattle.std.specs.Borrow.{Bor}
use Rattle.std.proofs.lemmas.List.Elements.{All-push}
use Rattle.building.specs.Builds.{text_of as list_of}
use Rattle.building.specs.declared.build.BuildOptions.{BuildOptions}
use Rattle.building.specs.declared.build.Built.{Built}
use Rattle.report.specs.Texts.{report_text}
use Rattle.command_line.specs.Requests.{texts}
use Rattle.command_line.specs.declared.request.Build.{Build}
use Rattle.command_line.specs.declared.request.Building.{Building}
use Rattle.cli.specs.declared.build_texts.BuildTexts.{BuildTexts}
use Rattle.cli.specs.Builds.{IsBuildOfClassFiles}
use Rattle.cli.specs.Done.{AreBothWritten, AreWritten, HasBuilt, HasPage}
use Rattle.cli.specs.Files.{AreBytesOf, AreTextsOf, Contents, OthersStay}
use Rattle.cli.specs.ImageBuilds.{IsBuiltText}
use Rattle.cli.specs.Outputs.{IsNoneOf}
use Rattle.cli.specs.Requested.{options_of}
use Rattle.cli.specs.Pages.{IsPageBy, IsPagePut}
use Rattle.cli.specs.steps.BuildTexts.{AreAllWritten, AreTextsOfBuild, wanted_of}

-- one more input
pub inputs_more : (output : List ℕ) (inputs : List (Bor (List ℕ))) (i : ℕ) (d : Bor (List ℕ)) (one : Bool)
    → i < length inputs → (output ≡ (get_or inputs i d).now → one ≡ true) → one ≡ false
    → IsNoneOf output (texts (take i inputs)) → IsNoneOf output (texts (take (i + 1) inputs))
inputs_more output inputs i d one within same apart all =
    let input = (get_or inputs i d).now in
    let front : texts (take (i + 1) inputs) ≡ texts (take i inputs) ++ input ∷ [] =
    map_more (λ (word : Bor (List ℕ)). word.now) inputs i d within in
    rw front
    (All-push (λ (other : List ℕ). other ≢ output) (texts (take i inputs)) input all
    (λ is. let yes = same (sym is) in cc))

-- ---- the outputs of a build

-- the report's file, and then the image's
pub both_written : (old mid new : Contents) (image report bytes text : List ℕ) → report ≢ image
    → AreBytesOf (mid report) text → OthersStay old mid report → AreBytesOf (new image) bytes
    → OthersStay mid new image → AreBothWritten old new image report bytes text
both_written old mid new image report bytes text apart told before written after = record {
  written = written;
  told = subst (λ (held : Option (List ℕ)). AreBytesOf held text) (sym (after report apart)) told;
  others = λ other beside_image beside_report. after other beside_image ∙ before other beside_report;
}

retold : (old new : Contents) (image : List ℕ) (report : Option (Bor (List ℕ))) (bytes text told : List ℕ)
    → (is_some report ≡ true → text ≡ told) → AreWritten old new image report bytes text
    → AreWritten old new image report bytes told
retold old new image None bytes text told same written = written
retold old new image (Some name) bytes text told same written =
    subst (λ (t : List ℕ). AreBothWritten old new image name.now bytes t) (same refl) written

paged : (old new : Contents) (words : Building) (answer : Built) (page : Option (Bor (List ℕ))) (text : List ℕ)
    → (is_some page ≡ true → IsPageBy answer (list_of words.run_time) words.budget text) → IsPagePut old new page text
    → HasPage old new page answer words
paged old new words answer None text is put = put
paged old new words answer (Some name) text is put = record {
  page = text;
  is = is refl;
  written = put.0;
  others = put.1;
}

module _ (old mid : Contents) (words : Build) (files : List (List ℕ)) (options : BuildOptions) (made : BuildTexts)
    (asked : options ≡ options_of words.building) (of : AreTextsOfBuild files options (wanted_of words) made) where
  -- the page of a build is written
  pub has_page : IsPagePut old mid words.page made.page.items → HasPage old mid words.page of.answer words.building
  has_page put =
      paged old mid words.building of.answer words.page made.page.items
      (λ wanted. subst (λ (o : BuildOptions). IsPageBy of.answer (list_of o.run_time) o.budget made.page.items) asked
      (of.page wanted)) put

-- what the texts of a build are written to
pub has_built : (old mid new : Contents) (words : Build) (files : List (List ℕ)) (options : BuildOptions)
    (made : BuildTexts) → AreTextsOf old (texts words.building.files.items) files
    → options ≡ options_of words.building → mid ≡ old
    → AreTextsOfBuild files options (wanted_of words) made → AreAllWritten mid new words made
    → HasBuilt old new words
has_built old mid new words files options made held asked same of all = record {
  answer = of.answer;
  asked = record {
    files = files;
    held = held;
    build = subst (λ (o : BuildOptions). IsBuildOfClassFiles files o of.answer) asked of.build;
  };
  bytes = made.image.items;
  built = subst (λ (o : BuildOptions).
      IsBuiltText files (list_of o.run_time) (list_of o.build_time) o.budget made.image.items) asked of.built;
  text = of.text;
  between = all.between;
  page = has_page old all.between words files options made asked of
      (subst (λ (h : Contents). IsPagePut h all.between words.page made.page.items) same all.page);
  written = retold all.between new words.image.now words.report made.image.items made.report.items
      (report_text of.answer.image of.answer.verdicts) of.report all.written;
}
