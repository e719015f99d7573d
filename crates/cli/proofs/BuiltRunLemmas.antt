-- What is built is run as it was built.
use Rattle.std.proofs.Common.{◌≡◌, ◌∙◌, ℕ, List, Option, Some, None, sym, subst}
use Rattle.std.specs.Borrow.{Bor}
use Rattle.building.specs.Builds.{text_of}
use Rattle.cli.specs.Done.{AreWritten}
use Rattle.cli.specs.Files.{AreBytesOf, Contents}
use Rattle.cli.specs.ImageBuilds.{IsBuiltText}
use Rattle.cli.specs.Laws.{BuiltImagesAreRun}
use Rattle.cli.proofs.NotRunLemmas.{known_bytes}

image_written : (old new : Contents) (image : List ℕ) (report : Option (Bor (List ℕ))) (bytes text : List ℕ)
    → AreWritten old new image report bytes text → AreBytesOf (new image) bytes
image_written old new image None bytes text written = written.0
image_written old new image (Some report) bytes text written = written.written

pub built_images : BuiltImagesAreRun
built_images old new words bytes list I w made known begun =
    let asked = words.building in
    let told : made.bytes ≡ bytes =
    known_bytes (new words.image.now) bytes made.bytes known
    (image_written made.between new words.image.now words.report made.bytes _ made.written) in
    let same : made.bytes ≡ begun.bytes =
    told ∙ sym (known_bytes (new words.image.now) bytes begun.bytes known begun.held) in
    record {
      files = made.asked.files;
      held = made.asked.held;
      of = begun.built made.asked.files (text_of asked.run_time) (text_of asked.build_time) asked.budget
          (subst (λ (b : List ℕ). IsBuiltText made.asked.files (text_of asked.run_time) (text_of asked.build_time)
          asked.budget b) same made.built);
    }
