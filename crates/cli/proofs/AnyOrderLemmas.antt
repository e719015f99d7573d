-- Class files' bytes in another order.
use Rattle.std.proofs.Common.{◌≡◌, ℕ, List, subst}
use Rattle.std.specs.List.Sorted.{IsPermutation}
use Rattle.classfile.specs.ClassFile.{ClassFile}
use Rattle.classfile.specs.Class.{IsClassText}
use Rattle.program.proofs.OneProgramLemmas.{one_program_of_files, still_fail, still_family, still_link}
use Rattle.cli.specs.AnyOrder.{OneProgram, StillNotLinked, StillProgram}
use Rattle.cli.specs.Runs.{AreClassFiles, link}
use Rattle.cli.proofs.OneRefusalLemmas.{same_files}
use Rattle.cli.proofs.PermutationLemmas.{partners_moved}

-- texts in another order are their class files in that order
pub class_files_moved : (texts moved : List (List ℕ)) (files : List ClassFile) → IsPermutation texts moved
    → AreClassFiles texts files
    → (others : List ClassFile) × AreClassFiles moved others × IsPermutation files others
class_files_moved texts moved files same are = partners_moved IsClassText texts moved files same are

pub still_program : StillProgram
still_program texts moved P same of =
    let (others, are, moves) = class_files_moved texts moved of.files same of.are in
    record {
      files = others;
      are = are;
      links = still_link of.files others moves of.links;
      family = still_family of.files others P.family moves of.family;
      program = of.program;
      own_strings = of.own_strings;
    }

pub one_program : OneProgram
one_program texts moved P Q same of other =
    let (files, are, moves) = class_files_moved texts moved of.files same of.are in
    let these : files ≡ other.files = same_files moved files other.files are other.are in
    one_program_of_files of.files other.files P Q of.links (subst (IsPermutation of.files) these moves) of.family
    of.program of.own_strings other.family other.program other.own_strings

pub still_not_linked : StillNotLinked
still_not_linked texts moved fault same (link {files} are fails) =
    let (others, also, moves) = class_files_moved texts moved files same are in
    link also (still_fail files others fault moves fails)
