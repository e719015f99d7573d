-- Readers of class files.
use Rattle.std.specs.Prelude.{ℕ, zero, suc, ◌+◌, ◌-◌, Bool, true, cond, List, [], ◌∷◌, ◌++◌, length, Option, Some}
use Rattle.std.specs.Prelude.{None, option_map, slice_get, Result, Ok, Err}
use Rattle.std.specs.Cmp.Lexicographic.{slice_cmp}
use Rattle.std.specs.Int.{w32}
use Rattle.std.specs.Ordering.{is_lt, nat_cmp}
use Rattle.classfile.specs.declared.fault.ClassFault.{ClassFault}
use Rattle.classfile.specs.ClassFile.{ClassFile}
use Rattle.classfile.specs.reading.Class.{class_of}
use Rattle.classfile.specs.reading.Numbers.{◌>>=◌}
use Rattle.loading.specs.Names.{name_of}
use Rattle.image_parser.specs.declared.fault.RegionFault.{RegionFault}
use Rattle.image_parser.specs.declared.fault.RegionFault.TheVariants as parts
use Rattle.image_parser.specs.declared.fault.FilesFault.{FilesFault}
use Rattle.image_parser.specs.declared.fault.FilesFault.TheVariants as faults
use Rattle.image_parser.specs.FileFaults.{of_class}
use Rattle.image_parser.specs.reading.Results.{number_at, run_at}

-- a fault of a run of bytes among those of class files
abbrev pub of_run : RegionFault → FilesFault
of_run parts.Memory = faults.Memory
of_run parts.Truncated = faults.Truncated
of_run parts.Shape = faults.Truncated

abbrev pub outside : {X : Type 0} → Result X RegionFault → Result X FilesFault
outside (Ok x) = Ok x
outside (Err e) = Err (of_run e)

unfoldable pub counted_at : List ℕ → Result (List ℕ × List ℕ) RegionFault
counted_at bytes = number_at w32 bytes >>= λ count. run_at count.0 count.1

abbrev pub sized_at : List ℕ → Result (List ℕ × List ℕ) FilesFault
sized_at bytes = outside (counted_at bytes)

-- the name of the last file
abbrev pub last_name : List ClassFile → Option (List ℕ)
last_name files = option_map name_of (slice_get files (length files - 1))

abbrev pub is_after : Option (List ℕ) → List ℕ → Bool
is_after None name = true
is_after (Some before) name = is_lt (slice_cmp nat_cmp before name)

abbrev pub in_class : ℕ → Result ClassFile ClassFault → Result ClassFile FilesFault
in_class index (Ok x) = Ok x
in_class index (Err e) = Err (of_class index e)

abbrev pub in_order : Option (List ℕ) → ClassFile → Result ClassFile FilesFault
in_order before file = cond (is_after before (name_of file)) (Ok file) (Err faults.Order)

abbrev pub class_in : ℕ → Option (List ℕ) → List ℕ → Result ClassFile FilesFault
class_in index before run = in_class index (class_of run) >>= in_order before

unfoldable pub file_at : ℕ → Option (List ℕ) → List ℕ → Result (ClassFile × List ℕ) FilesFault
file_at index before bytes =
    sized_at bytes >>= λ run. class_in index before run.0 >>= λ file. Ok (file, run.1)

unfoldable pub files_at : ℕ → ℕ → Option (List ℕ) → List ℕ → Result (List ClassFile × List ℕ) FilesFault
files_at zero index before bytes = Ok ([], bytes)
files_at (suc n) index before bytes = file_at index before bytes
    >>= λ file. files_at n (index + 1) (Some (name_of file.0)) file.1
    >>= λ files. Ok (file.0 ∷ files.0, files.1)

-- the same after some files
abbrev pub after_files : List ClassFile → Result (List ClassFile × List ℕ) FilesFault
    → Result (List ClassFile × List ℕ) FilesFault
after_files files (Ok p) = Ok (files ++ p.0, p.1)
after_files files (Err e) = Err e

-- what stands after so many, of which the lengths alone are read
unfoldable pub past : ℕ → List ℕ → Result (List ℕ) FilesFault
past zero bytes = Ok bytes
past (suc n) bytes = sized_at bytes >>= λ run. past n run.1

-- the first, if there is one, comes after a name
abbrev pub meets : Option (List ℕ) → List ClassFile → Bool
meets before [] = true
meets before (file ∷ files) = is_after before (name_of file)
