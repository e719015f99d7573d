-- What is read as an image is written as the text of that image.
use Rattle.std.proofs.Common.{◌≡◌, ◌≢◌, ◌⊎◌, ◌∙◌, inl, inr, ℕ, List, Option, sym, subst, refl}
use Rattle.loading.specs.Families.{Family}
use Rattle.object_graph.specs.Images.{ImageTables}
use Rattle.image_format.specs.Regions.{ImageRegion}
use Rattle.image_format.specs.declared.version.Version.TheVariants.{Two}
use Rattle.image_format.specs.Images.{AreShort, ImageText, SomeText}
use Rattle.image_format.specs.Texts.{image_text}
use Rattle.image_parser.specs.ImageFaults.{ImageFails}
use Rattle.image_parser.specs.declared.image_fault.ImageFault.{ImageFault}
use Rattle.image_parser.specs.declared.image_fault.ImageFault.TheVariants as image_faults
use Rattle.image_writer.specs.ImageTexts.{told_of, text_of}
use Rattle.command_line.specs.declared.request.Renew.{Renew}
use Rattle.cli.specs.Done.{HasRenewed}
use Rattle.cli.specs.Files.{AreBytesOf, Contents, OthersStay}
use Rattle.cli.specs.Renewals.{IsNoImage, IsRenewed, no_image}
use Rattle.cli.specs.declared.fault.CommandFault.{CommandFault}
use Rattle.cli.specs.declared.fault.CommandFault.TheVariants.{Image, Memory}

pub some_short : (bytes : List ℕ) (family : Family) (regions : List (Option ImageRegion))
    → SomeText bytes family regions → AreShort family
some_short bytes family regions (inl text) = text.short
some_short bytes family regions (inr old) = old.text.short

pub is_renewed : (bytes renewed : List ℕ) (I : ImageTables) → SomeText bytes I.program.family (told_of I)
    → ImageText (text_of I) I.program.family (told_of I) → renewed ≡ text_of I → IsRenewed bytes renewed
is_renewed bytes renewed I read written e = record {
  family = I.program.family;
  regions = told_of I;
  read = read;
  written = subst (λ (b : List ℕ). ImageText b I.program.family (told_of I)) (sym e) written;
}

-- a text of version 2 is written as it was
pub same_text : (bytes renewed : List ℕ) (I : ImageTables) (family : Family) (regions : List (Option ImageRegion))
    → ImageText bytes family regions → (I.program.family ≡ family) × (told_of I ≡ regions) → renewed ≡ text_of I
    → renewed ≡ bytes
same_text bytes renewed I family regions is (files, told) e =
    e ∙ (λ i. image_text Two (files i) (told i)) ∙ sym is.spelled

pub refused_renewal : (bytes : List ℕ) (fault : ImageFault) (r : CommandFault)
    → (fault ≡ image_faults.Memory) ⊎ ImageFails bytes fault → (fault ≡ image_faults.Memory → r ≡ Memory)
    → (fault ≢ image_faults.Memory → r ≡ Image fault) → (r ≡ Memory) ⊎ IsNoImage bytes r
refused_renewal bytes fault r (inl e) memory other = inl (memory e)
refused_renewal bytes image_faults.Memory r (inr fails) memory other = inl (memory refl)
refused_renewal bytes fault r (inr fails) memory other =
    inr (subst (λ (x : CommandFault). IsNoImage bytes x) (sym (other (λ e. cc))) (no_image fails))

-- ---- the file that gets it

pub has_renewed : (old mid new : Contents) (words : Renew) (bytes renewed : List ℕ)
    → AreBytesOf (old words.image.now) bytes → IsRenewed bytes renewed → mid ≡ old
    → AreBytesOf (new words.new.now) renewed → OthersStay mid new words.new.now → HasRenewed old new words
has_renewed old mid new words bytes renewed held is same made others = record {
  bytes = bytes;
  held = held;
  renewed = renewed;
  is = is;
  written = made;
  others = subst (λ (h : Contents). OthersStay h new words.new.now) same others;
}
