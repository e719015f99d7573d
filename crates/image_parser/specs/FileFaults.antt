-- The class files of an image in turn, each after its length, and how bytes fail to begin with so many.
use Rattle.std.specs.Prelude.{◌≡◌, ℕ, zero, suc, ◌+◌, ◌<◌, ◌^◌, List, [], ◌∷◌, ◌++◌, length, Option, Some, None}
use Rattle.std.specs.Prelude.{Result, Ok, Err}
use Rattle.std.specs.List.{All, flat_map}
use Rattle.std.specs.Int.{w32}
use Rattle.classfile.specs.declared.fault.ClassFault.{ClassFault}
use Rattle.classfile.specs.declared.fault.ClassFault.TheVariants as class_faults
use Rattle.classfile.specs.Class.{IsClassFile, IsClassText}
use Rattle.classfile.specs.ClassFile.{ClassFile}
use Rattle.classfile.specs.FirstFault.{FirstFault}
use Rattle.classfile.specs.Spelling.{u4}
use Rattle.classfile.specs.Text.{class_text}
use Rattle.classfile.specs.Faults.{Either, Number}
use Rattle.loading.specs.Names.{name_of, Precedes}
use Rattle.image_format.specs.Texts.{file_text}
use Rattle.image_parser.specs.declared.fault.FilesFault.{FilesFault}
use Rattle.image_parser.specs.declared.fault.FilesFault.TheVariants as faults

-- ---- one class file

-- fewer bytes than these
abbrev pub CutFile : ℕ → List ℕ → FilesFault → Type 0
CutFile count bytes fault = (length bytes < count) × (fault ≡ faults.Truncated)

-- so many bytes, after their count of 32 bits
abbrev pub IsSized : List ℕ → List ℕ → Type 0
IsSized run text = (length run < 2 ^ 32) × (text ≡ u4 (length run) ++ run)

abbrev pub SizedFails : List ℕ → FilesFault → Type 0
SizedFails = Either (Number w32) (CutFile 4) CutFile

-- the name comes after that of the file before, if there is one
abbrev pub IsAfter : Option (List ℕ) → List ℕ → Type 0
IsAfter None name = Unit {0}
IsAfter (Some before) name = Precedes before name

-- a class file that may stand after one of that name
pub record IsFileAfter (before : Option (List ℕ)) (file : ClassFile) (text : List ℕ) : Type 0 where
  pub fits : IsClassFile file
  pub short : length (class_text file) < 2 ^ 32
  pub after : IsAfter before (name_of file)
  pub spelled : text ≡ file_text file

-- a fault of a class file among those of an image
abbrev pub of_class : ℕ → ClassFault → FilesFault
of_class index class_faults.Memory = faults.Memory
of_class index fault = faults.Class index fault

-- the bytes are no class file, or one whose name does not come after
pub data RunFails (index : ℕ) (before : Option (List ℕ)) (run : List ℕ) : FilesFault → Type 0 where
  class : (fault : ClassFault) → FirstFault run fault → RunFails index before run (of_class index fault)
  order : (file : ClassFile) → IsClassText run file → ¬ IsAfter before (name_of file)
      → RunFails index before run faults.Order

abbrev pub FileFails : ℕ → Option (List ℕ) → List ℕ → FilesFault → Type 0
FileFails index before = Either IsSized SizedFails (λ run rest. RunFails index before run)

-- ---- so many, from a number on

-- the first of so many that fails
abbrev pub FilesFailFrom : ℕ → ℕ → Option (List ℕ) → List ℕ → FilesFault → Type 0
FilesFailFrom zero index before bytes fault = ⊥
FilesFailFrom (suc n) index before bytes fault = Either (IsFileAfter before) (FileFails index before)
    (λ file. FilesFailFrom n (index + 1) (Some (name_of file))) bytes fault

-- each name comes after the one before
abbrev pub Ascending : Option (List ℕ) → List ClassFile → Type 0
Ascending before [] = Unit {0}
Ascending before (file ∷ files) = IsAfter before (name_of file) × Ascending (Some (name_of file)) files

pub record AreFilesAfter (before : Option (List ℕ)) (count : ℕ) (files : List ClassFile) (text : List ℕ) : Type 0 where
  pub many : length files ≡ count
  pub fits : All IsClassFile files
  pub short : All (λ (file : ClassFile). length (class_text file) < 2 ^ 32) files
  pub ascending : Ascending before files
  pub spelled : text ≡ flat_map file_text files

-- so many class files, with ascending names
abbrev pub AreFiles : ℕ → List ClassFile → List ℕ → Type 0
AreFiles = AreFilesAfter None

abbrev pub FilesFail : ℕ → List ℕ → FilesFault → Type 0
FilesFail count = FilesFailFrom count 0 None

-- ---- what a function returned, seen by view, is what reading gives, unless memory ran out

abbrev pub FailsFile : {Y : Type 0} → FilesFault → Result Y FilesFault → Type 0
FailsFile faults.Memory read = Unit {0}
FailsFile e read = read ≡ Err e

abbrev pub GivesFile : {X Y : Type 0} → (X → Y) → Result X FilesFault → Result Y FilesFault → Type 0
GivesFile view (Ok x) read = read ≡ Ok (view x)
GivesFile view (Err e) read = FailsFile e read
