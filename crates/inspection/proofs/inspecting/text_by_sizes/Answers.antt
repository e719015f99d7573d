use Rattle.std.proofs.Common.{◌≡◌, ◌<◌, ℕ, List, Result, Ok, Err, IfOk, length, subst, sym}
use Rattle.std.specs.List.{All}
use Rattle.object_graph.specs.Images.{ImageTables}
use Rattle.image_writer.specs.ImageTexts.{region_sizes}
use Rattle.inspection.specs.Largest.{AreLargest}
use Rattle.inspection.specs.Texts.{IsInspection, text_on}
use Rattle.inspection.proofs.LargestLemmas.{largest_within}
use Rattle.inspection.proofs.inspecting.text_by_sizes.Goals as goal

-- the text is said of the largest classes
is_said : {S E : Type 0} (bytes_of : S → List ℕ) (bytes : List ℕ) (I : ImageTables) (sizes largest said : List ℕ)
    (result : Result S E) → sizes ≡ region_sizes I → AreLargest 10 sizes largest → said ≡ largest
    → IfOk result (λ text. bytes_of text ≡ text_on bytes I said)
    → IfOk result (λ text. IsInspection bytes I (bytes_of text))
is_said bytes_of bytes I sizes largest said (Ok text) by are same is = record {
  largest = largest;
  are = subst (λ (l : List ℕ). AreLargest 10 l largest) by are;
  is = subst (λ (l : List ℕ). bytes_of text ≡ text_on bytes I l) same is;
}
is_said bytes_of bytes I sizes largest said (Err error) by are same is = tt

pub text_on-requires-clause-classes : goal.text_on-requires-clause-classes
text_on-requires-clause-classes c =
    subst (λ (l : List ℕ). All (λ (class : ℕ). class < length c.args.sizes.now) l) (sym c.as_slice.ensures.value)
    (largest_within 10 c.args.sizes.now c.in_ok-classes.classes.items c.in_ok-classes.ensures)

pub returns : goal.returns
returns c =
    is_said _ c.args.bytes.now c.args.image.now c.args.sizes.now c.in_ok-classes.classes.items c.as_slice.result.now
    c.text_on.result c.requires.sizes c.in_ok-classes.ensures c.as_slice.ensures.value c.text_on.ensures
