-- Reading class files in turn, as a loop does.
use Rattle.std.proofs.Common.{◌≡◌, ℕ, suc, ◌-◌, ◌+◌, ◌≤◌, ◌<◌, List, [], ◌∷◌, ◌++◌, length, Option, Some, Result, Ok}
use Rattle.std.proofs.Common.{Err, refl, sym, ap, subst, ◌∙◌, append_assoc, arith, slice_get}
use Rattle.std.specs.Prelude.{option_map}
use Rattle.std.proofs.lemmas.List.{append-nil, length-append}
use Rattle.classfile.specs.declared.fault.ClassFault.{ClassFault}
use Rattle.classfile.specs.declared.fault.ClassFault.TheVariants as class_faults
use Rattle.classfile.specs.Class.{IsClassText}
use Rattle.classfile.specs.ClassFile.{ClassFile}
use Rattle.classfile.specs.Faults.{IsBytes}
use Rattle.classfile.specs.FirstFault.{FirstFault}
use Rattle.classfile.specs.Gives.{Gives as GivesClass, Fails as FailsClass}
use Rattle.classfile.specs.reading.Class.{class_of}
use Rattle.classfile.specs.reading.Numbers.{◌>>=◌}
use Rattle.classfile.proofs.ClassLawful.{class_is_text, fault_is_first}
use Rattle.loading.specs.Names.{name_of}
use Rattle.image_parser.specs.declared.fault.RegionFault.{RegionFault}
use Rattle.image_parser.specs.declared.fault.RegionFault.TheVariants as parts
use Rattle.image_parser.specs.declared.fault.FilesFault.{FilesFault}
use Rattle.image_parser.specs.declared.fault.FilesFault.TheVariants as faults
use Rattle.image_parser.specs.FileFaults.{of_class, FailsFile, GivesFile}
use Rattle.image_parser.specs.reading.Files.{of_run, outside, last_name, in_class, in_order, class_in, file_at}
use Rattle.image_parser.specs.reading.Files.{files_at, after_files}
use Rattle.image_parser.specs.reading.Results.{Fails}

-- a fault of a run of bytes is that of the class file
pub outside_fails : {X : Type 0} (e : RegionFault) (r : Result X RegionFault) → Fails e r
    → FailsFile (of_run e) (outside r)
outside_fails parts.Memory r h = tt
outside_fails parts.Truncated r h = rw h refl
outside_fails parts.Shape r h = rw h refl

-- ---- the class file that bytes are

gives_class : (run : List ℕ) → IsBytes run → (result o : Result ClassFile ClassFault) → class_of run ≡ o
    → ((class : ClassFile) → IsClassText run class → GivesClass {Y = ClassFile} (λ c. c) result (Ok class))
    → ((fault : ClassFault) → FirstFault run fault → GivesClass {Y = ClassFile} (λ c. c) result (Err fault))
    → GivesClass {Y = ClassFile} (λ c. c) result o
gives_class run fits result (Ok class) e text fault = text class (class_is_text run class fits e)
gives_class run fits result (Err f) e text fault = fault f (fault_is_first run f fits e)

pub read_is : (run : List ℕ) → IsBytes run → (result : Result ClassFile ClassFault)
    → ((class : ClassFile) → IsClassText run class → GivesClass {Y = ClassFile} (λ c. c) result (Ok class))
    → ((fault : ClassFault) → FirstFault run fault → GivesClass {Y = ClassFile} (λ c. c) result (Err fault))
    → GivesClass {Y = ClassFile} (λ c. c) result (class_of run)
read_is run fits result text fault = gives_class run fits result (class_of run) refl text fault

class_fails : (index : ℕ) (before : Option (List ℕ)) (e : ClassFault) (r : Result ClassFile ClassFault)
    → FailsClass e r
    → FailsFile (of_class index e) (in_class index r >>= in_order before)
class_fails index before class_faults.Memory r h = tt
class_fails index before (class_faults.Truncated at) r h = rw h refl
class_fails index before (class_faults.Extra at) r h = rw h refl
class_fails index before class_faults.Magic r h = rw h refl
class_fails index before (class_faults.Version major minor) r h = rw h refl
class_fails index before (class_faults.Tag at) r h = rw h refl
class_fails index before (class_faults.Index at) r h = rw h refl
class_fails index before (class_faults.Utf8 at) r h = rw h refl
class_fails index before (class_faults.Descriptor at) r h = rw h refl
class_fails index before (class_faults.Attribute at) r h = rw h refl

pub refused_class : (index : ℕ) (before : Option (List ℕ)) (run : List ℕ) (e : ClassFault)
    → FailsClass e (class_of run)
    → FailsFile (of_class index e) (class_in index before run)
refused_class index before run e h = class_fails index before e (class_of run) h

pub read_class : (index : ℕ) (before : Option (List ℕ)) (run : List ℕ) (file : ClassFile)
    (result : Result ClassFile FilesFault) → class_of run ≡ Ok file
    → GivesFile {Y = ClassFile} (λ x. x) result (in_order before file)
    → GivesFile {Y = ClassFile} (λ x. x) result (class_in index before run)
read_class index before run file result e h =
    let same : in_order before file ≡ class_in index before run = rw e refl in
    let P : Result ClassFile FilesFault → Type 0 = λ z. GivesFile {Y = ClassFile} (λ x. x) result z in
    subst P same h

-- ---- one after the other

abbrev One : Type 0
One = Result (ClassFile × List ℕ) FilesFault

abbrev Many : Type 0
Many = Result (List ClassFile × List ℕ) FilesFault

abbrev add_one : ℕ → ℕ → ClassFile × List ℕ → Many
add_one n index file = files_at n (index + 1) (Some (name_of file.0)) file.1
    >>= λ files. Ok (file.0 ∷ files.0, files.1)

after_fault : (e : FilesFault) (items : List ClassFile) (r : One) (f : ClassFile × List ℕ → Many) (goal : Many)
    → FailsFile e r → after_files items (r >>= f) ≡ goal → FailsFile e goal
after_fault faults.Memory items r f goal h one = tt
after_fault faults.Truncated items r f goal h one =
    sym one ∙ ap (λ (z : One). after_files items (z >>= f)) h
after_fault (faults.Class index fault) items r f goal h one =
    sym one ∙ ap (λ (z : One). after_files items (z >>= f)) h
after_fault faults.Order items r f goal h one =
    sym one ∙ ap (λ (z : One). after_files items (z >>= f)) h

pub file_fails : (e : FilesFault) (first : ℕ) {n i : ℕ} (items : List ClassFile) (before : Option (List ℕ))
    (bytes : List ℕ) {goal : Many}
    → i < n → FailsFile e (file_at (first + i) before bytes)
    → after_files items (files_at (n - i) (first + i) before bytes) ≡ goal
    → FailsFile e goal
unfolding files_at
file_fails e first {n} {i} items before bytes {goal} lt h so_far =
    let k : n - i ≡ suc (n - (i + 1)) = omega arith in
    let one : after_files items (files_at (suc (n - (i + 1))) (first + i) before bytes) ≡ goal = rw k at so_far in
    after_fault e items (file_at (first + i) before bytes) (add_one (n - (i + 1)) (first + i)) goal h one

abbrev whole : List ClassFile → List ℕ → Many
whole files rest = Ok (files, rest)

more : (items : List ClassFile) (file : ClassFile) (r : Many)
    → after_files items (r >>= λ files. Ok (file ∷ files.0, files.1)) ≡ after_files (items ++ file ∷ []) r
more items file (Ok p) =
    ap (λ (z : List ClassFile). whole z p.1) (sym (append_assoc items (file ∷ []) p.0))
more items file (Err e) = refl

last_at : (items : List ClassFile) (file : ClassFile) → slice_get (items ++ file ∷ []) (length items) ≡ Some file
last_at [] file = refl
last_at (x ∷ items) file = last_at items file

pub last_of : (items : List ClassFile) (file : ClassFile) → last_name (items ++ file ∷ []) ≡ Some (name_of file)
last_of items file =
    let many : length (items ++ file ∷ []) - 1 ≡ length items = omega (arith, length-append items (file ∷ [])) in
    ap (λ (k : ℕ). option_map name_of (slice_get (items ++ file ∷ []) k)) many
    ∙ ap (λ (z : Option ClassFile). option_map name_of z) (last_at items file)

pub next_file : (first : ℕ) {n i : ℕ} (items : List ClassFile) (bytes : List ℕ) {file : ClassFile} {after : List ℕ}
    {goal : Many} → i < n → file_at (first + i) (last_name items) bytes ≡ Ok (file, after)
    → after_files items (files_at (n - i) (first + i) (last_name items) bytes) ≡ goal
    → after_files (items ++ file ∷ []) (files_at (n - (i + 1)) (first + (i + 1)) (last_name (items ++ file ∷ [])) after)
    ≡ goal
unfolding files_at
next_file first {n} {i} items bytes {file} {after} {goal} lt h so_far =
    let k : n - i ≡ suc (n - (i + 1)) = omega arith in
    let up : first + (i + 1) ≡ first + i + 1 = omega arith in
    let one : after_files items (files_at (n - i) (first + i) (last_name items) bytes)
    ≡ after_files items (add_one (n - (i + 1)) (first + i) (file, after)) = rw (k, h) refl in
    let named : after_files (items ++ file ∷ []) (files_at (n - (i + 1)) (first + (i + 1)) (last_name
    (items ++ file ∷ [])) after)
    ≡ after_files (items ++ file ∷ []) (files_at (n - (i + 1)) (first + i + 1) (Some (name_of file)) after) =
    rw (up, last_of items file) refl in
    named ∙ sym (more items file (files_at (n - (i + 1)) (first + i + 1) (Some (name_of file)) after)) ∙ sym one
    ∙ so_far

pub all_files : {n i : ℕ} (first : ℕ) (items : List ClassFile) (before : Option (List ℕ)) (bytes : List ℕ) {goal : Many}
    → n ≤ i → after_files items (files_at (n - i) first before bytes) ≡ goal → goal ≡ Ok (items, bytes)
unfolding files_at
all_files {n} {i} first items before bytes {goal} le so_far =
    let k : n - i ≡ 0 = omega arith in
    let one : after_files items (files_at (n - i) first before bytes) ≡ Ok (items ++ [], bytes) = rw k refl in
    sym so_far ∙ one ∙ ap (λ (z : List ClassFile). whole z bytes) (append-nil items)
