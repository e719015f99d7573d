-- The files of a family make one program, where the files that it was made of do.
use Rattle.std.proofs.Common.{◌≡◌, ◌∙◌, ℕ, zero, suc, [], ◌∷◌, List, option_map, slice_get, refl, sym, ap}
use Rattle.std.proofs.lemmas.List.{length-map}
use Rattle.classfile.specs.ClassFile.{ClassFile}
use Rattle.loading.specs.declared.given.GivenClass.{GivenClass}
use Rattle.loading.specs.Families.{Family, IsFamily, IsFamilyOf, file_in}
use Rattle.loading.specs.Files.{IsTwice, Links, No}
use Rattle.loading.specs.Names.{name_of}
use Rattle.loading.proofs.FilesMovedLemmas.{links_moved}
use Rattle.loading.proofs.NamesLemmas.{precedes_not_same}
use Rattle.program.specs.Programs.{files_of}

file_at : (family : Family) (i : ℕ) → slice_get (files_of family) i ≡ file_in family i
file_at [] i = refl
file_at (given ∷ family) zero = refl
file_at (given ∷ family) (suc i) = file_at family i

none_twice : (family : Family) → IsFamily family → No (IsTwice (files_of family))
none_twice family is name (i, j, f, g, less, at-f, at-g, is-f, is-g) =
    precedes_not_same (name_of f) (name_of g)
    (is.ascending i j (name_of f) (name_of g) less (ap (option_map name_of) (sym (file_at family i) ∙ at-f))
    (ap (option_map name_of) (sym (file_at family j) ∙ at-g)))
    (is-f ∙ sym is-g)

pub family_links : (files : List ClassFile) (family : Family) → Links files → IsFamilyOf files family
    → Links (files_of family)
family_links files family links of =
    links_moved files (files_of family)
    (record {
      has = λ f among. (of.members f).0 among;
      back = λ f among. (of.members f).1 among;
      twice = λ name twice. absurd (links.distinct name twice);
      once = λ name twice. absurd (none_twice family of.fits name twice);
      count = length-map family (λ (given : GivenClass). given.file) ∙ of.count;
    })
    links
