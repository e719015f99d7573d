-- Class files in two halves.
use Rattle.std.proofs.Common.{◌≡◌, ℕ, zero, suc, ◌+◌, ◌-◌, ◌<◌, ◌≤◌, Bool, true, cond, List, [], ◌∷◌, ◌++◌, length}
use Rattle.std.proofs.Common.{Option, Some, None, Result, Ok, Err, refl, sym, ap, subst, ◌∙◌, arith, inl, inr}
use Rattle.std.proofs.Common.{slice_get}
use Rattle.std.specs.Prelude.{option_map}
use Rattle.classfile.specs.ClassFile.{ClassFile}
use Rattle.classfile.specs.reading.Class.{class_of}
use Rattle.classfile.specs.reading.Numbers.{◌>>=◌}
use Rattle.classfile.proofs.Lawful.{bind_ok, bind_err, ok_is}
use Rattle.loading.specs.Names.{name_of}
use Rattle.image_parser.specs.declared.fault.FilesFault.{FilesFault}
use Rattle.image_parser.specs.declared.fault.FilesFault.TheVariants as faults
use Rattle.image_parser.specs.FileFaults.{FailsFile, GivesFile}
use Rattle.image_parser.specs.reading.Files.{sized_at, last_name, is_after, in_class, in_order, class_in, file_at}
use Rattle.image_parser.specs.reading.Files.{files_at, after_files, past, meets}

abbrev One : Type 0
One = Result (ClassFile × List ℕ) FilesFault

abbrev Many : Type 0
Many = Result (List ClassFile × List ℕ) FilesFault

abbrev add_file : ClassFile → List ClassFile × List ℕ → Many
add_file file files = Ok (file ∷ files.0, files.1)

abbrev add_one : ℕ → ℕ → ClassFile × List ℕ → Many
add_one n i file = files_at n (i + 1) (Some (name_of file.0)) file.1 >>= λ files. Ok (file.0 ∷ files.0, files.1)

abbrev with_rest : List ℕ → ClassFile → One
with_rest rest file = Ok (file, rest)

abbrev in_run : ℕ → Option (List ℕ) → List ℕ × List ℕ → One
in_run i before run = class_in i before run.0 >>= λ file. Ok (file, run.1)

-- ---- the lengths alone

fails_on : {X Y : Type 0} (e : FilesFault) (r : Result X FilesFault) (f : X → Result Y FilesFault)
    (goal : Result Y FilesFault) → FailsFile e r → (r >>= f) ≡ goal → FailsFile e goal
fails_on faults.Memory r f goal h one = tt
fails_on {X} faults.Truncated r f goal h one = sym one ∙ ap (λ (z : Result X FilesFault). z >>= f) h
fails_on {X} (faults.Class index fault) r f goal h one = sym one ∙ ap (λ (z : Result X FilesFault). z >>= f) h
fails_on {X} faults.Order r f goal h one = sym one ∙ ap (λ (z : Result X FilesFault). z >>= f) h

pub past_fails : (e : FilesFault) {n i : ℕ} (rest : List ℕ) {goal : Result (List ℕ) FilesFault}
    → i < n → FailsFile e (sized_at rest) → past (n - i) rest ≡ goal → FailsFile e goal
unfolding past
past_fails e {n} {i} rest {goal} lt h so_far =
    let k : n - i ≡ suc (n - (i + 1)) = omega arith in
    let one : past (suc (n - (i + 1))) rest ≡ goal = rw k at so_far in
    fails_on e (sized_at rest) (λ run. past (n - (i + 1)) run.1) goal h one

pub past_next : {n i : ℕ} (rest : List ℕ) {front after : List ℕ} {goal : Result (List ℕ) FilesFault}
    → i < n → sized_at rest ≡ Ok (front, after) → past (n - i) rest ≡ goal → past (n - (i + 1)) after ≡ goal
unfolding past
past_next {n} {i} rest {front} {after} {goal} lt h so_far =
    let k : n - i ≡ suc (n - (i + 1)) = omega arith in
    let one : past (n - i) rest ≡ past (n - (i + 1)) after = rw (k, h) refl in
    sym one ∙ so_far

pub past_all : {n i : ℕ} (rest : List ℕ) {goal : Result (List ℕ) FilesFault} → n ≤ i → past (n - i) rest ≡ goal
    → goal ≡ Ok rest
unfolding past
past_all {n} {i} rest {goal} le so_far =
    let k : n - i ≡ 0 = omega arith in
    let one : past (n - i) rest ≡ Ok rest = rw k refl in
    sym so_far ∙ one

rest_of : (i : ℕ) (before : Option (List ℕ)) (bytes : List ℕ) (x : ClassFile × List ℕ) → file_at i before bytes ≡ Ok x
    → (run : List ℕ × List ℕ) × (sized_at bytes ≡ Ok run) × (run.1 ≡ x.1)
unfolding file_at
rest_of i before bytes x e =
    let s = bind_ok (sized_at bytes) (in_run i before) x e in
    let t = bind_ok (class_in i before s.0.0) (with_rest s.0.1) x s.2 in
    let all : (t.0, s.0.1) ≡ x = ok_is (t.0, s.0.1) x t.2 in
    (s.0, s.1, ap (λ (q : ClassFile × List ℕ). q.1) all)

-- the first file, and those after it
record Parts (n i : ℕ) (before : Option (List ℕ)) (bytes : List ℕ) (files : List ClassFile) (rest : List ℕ)
    : Type 0 where
  pub file : ClassFile × List ℕ
  pub read : file_at i before bytes ≡ Ok file
  pub more : List ClassFile
  pub after : files_at n (i + 1) (Some (name_of file.0)) file.1 ≡ Ok (more, rest)
  pub all : file.0 ∷ more ≡ files

parts_of : (n i : ℕ) (before : Option (List ℕ)) (bytes : List ℕ) (files : List ClassFile) (rest : List ℕ)
    → files_at (suc n) i before bytes ≡ Ok (files, rest) → Parts n i before bytes files rest
unfolding files_at
parts_of n i before bytes files rest e =
    let b = bind_ok (file_at i before bytes) (add_one n i) (files, rest) e in
    let t = bind_ok (files_at n (i + 1) (Some (name_of b.0.0)) b.0.1) (add_file b.0.0) (files, rest) b.2 in
    let p : (b.0.0 ∷ t.0.0, t.0.1) ≡ (files, rest) = ok_is (b.0.0 ∷ t.0.0, t.0.1) (files, rest) t.2 in
    let ends : t.0.1 ≡ rest = ap (λ (q : List ClassFile × List ℕ). q.1) p in
    record {
      file = b.0;
      read = b.1;
      more = t.0.0;
      after = t.1 ∙ ap (λ (z : List ℕ). Ok (t.0.0, z)) ends;
      all = ap (λ (q : List ClassFile × List ℕ). q.0) p;
    }

passes : (n i : ℕ) (before : Option (List ℕ)) (bytes : List ℕ) (files : List ClassFile) (rest : List ℕ)
    → files_at n i before bytes ≡ Ok (files, rest) → past n bytes ≡ Ok rest
unfolding files_at past
passes zero i before bytes files rest e =
    let p : ([], bytes) ≡ (files, rest) = ok_is ([], bytes) (files, rest) e in
    ap (λ (q : List ClassFile × List ℕ). Ok q.1) p
passes (suc n) i before bytes files rest e =
    let b = parts_of n i before bytes files rest e in
    let r = rest_of i before bytes b.file b.read in
    let on : past n b.file.1 ≡ Ok rest = passes n (i + 1) (Some (name_of b.file.0)) b.file.1 b.more rest b.after in
    ap (λ (z : Result (List ℕ × List ℕ) FilesFault). z >>= λ run. past n run.1) r.1
    ∙ ap (λ (z : List ℕ). past n z) r.2 ∙ on

-- ---- one half after the other

-- the name of the last file, or the one before all
abbrev end_name : Option (List ℕ) → List ClassFile → Option (List ℕ)
end_name before [] = before
end_name before (file ∷ files) = end_name (Some (name_of file)) files

after_nil : (r : Many) → after_files [] r ≡ r
after_nil (Ok p) = refl
after_nil (Err e) = refl

after_cons : (file : ClassFile) (files : List ClassFile) (r : Many)
    → (after_files files r >>= λ files. Ok (file ∷ files.0, files.1)) ≡ after_files (file ∷ files) r
after_cons file files (Ok p) = refl
after_cons file files (Err e) = refl

splits : (n k m i j : ℕ) (before : Option (List ℕ)) (bytes : List ℕ) (files : List ClassFile) (rest : List ℕ) (r : Many)
    → m ≡ n + k → j ≡ i + n → files_at n i before bytes ≡ Ok (files, rest)
    → files_at k j (end_name before files) rest ≡ r → files_at m i before bytes ≡ after_files files r
unfolding files_at
splits zero k m i j before bytes files rest r is at e h =
    let count : m ≡ k = omega (arith, is) in
    let place : j ≡ i = omega (arith, at) in
    let p : ([], bytes) ≡ (files, rest) = ok_is ([], bytes) (files, rest) e in
    let none : [] ≡ files = ap (λ (q : List ClassFile × List ℕ). q.0) p in
    let same : bytes ≡ rest = ap (λ (q : List ClassFile × List ℕ). q.1) p in
    let P : List ClassFile → List ℕ → Type 0 = λ z w. files_at k j (end_name before z) w ≡ r in
    let Q : List ℕ → Type 0 = λ w. P [] w in
    let R : List ClassFile → Type 0 = λ z. P z rest in
    let one : files_at k j before bytes ≡ r = subst Q (sym same) (subst R (sym none) h) in
    let two : files_at k i before bytes ≡ r = rw place at one in
    let three : files_at m i before bytes ≡ r = rw count two in
    three ∙ sym (after_nil r) ∙ ap (λ (z : List ClassFile). after_files z r) none
splits (suc n) k m i j before bytes files rest r is at e h =
    let b = parts_of n i before bytes files rest e in
    let count : m ≡ suc (n + k) = omega (arith, is) in
    let place : j ≡ i + 1 + n = omega (arith, at) in
    let P : List ClassFile → Type 0 = λ z. files_at k j (end_name before z) rest ≡ r in
    let one : files_at k j (end_name (Some (name_of b.file.0)) b.more) rest ≡ r = subst P (sym b.all) h in
    let on : files_at (n + k) (i + 1) (Some (name_of b.file.0)) b.file.1 ≡ after_files b.more r =
    splits n k (n + k) (i + 1) j (Some (name_of b.file.0)) b.file.1 b.more rest r refl place b.after one in
    let first : files_at m i before bytes ≡ (file_at i before bytes >>= add_one (n + k) i) = rw count refl in
    first ∙ ap (λ (z : One). z >>= add_one (n + k) i) b.read
    ∙ ap (λ (z : Many). z >>= λ files. Ok (b.file.0 ∷ files.0, files.1)) on
    ∙ after_cons b.file.0 b.more r ∙ ap (λ (z : List ClassFile). after_files z r) b.all

same_file : (i : ℕ) (before : Option (List ℕ)) (bytes : List ℕ) (x : ClassFile × List ℕ) → file_at i None bytes ≡ Ok x
    → is_after before (name_of x.0) ≡ true → file_at i before bytes ≡ Ok x
unfolding file_at
same_file i before bytes x e after =
    let s = bind_ok (sized_at bytes) (in_run i None) x e in
    let t = bind_ok (class_in i None s.0.0) (with_rest s.0.1) x s.2 in
    let c = bind_ok (in_class i (class_of s.0.0)) (in_order None) t.0 t.1 in
    let file : c.0 ≡ t.0 = ok_is c.0 t.0 c.2 in
    let all : (t.0, s.0.1) ≡ x = ok_is (t.0, s.0.1) x t.2 in
    let is : c.0 ≡ x.0 = file ∙ ap (λ (q : ClassFile × List ℕ). q.0) all in
    let ordered : in_order before x.0 ≡ Ok x.0 = rw after refl in
    let read : in_class i (class_of s.0.0) ≡ Ok x.0 = c.1 ∙ ap (λ (z : ClassFile). Ok z) is in
    let class : class_in i before s.0.0 ≡ Ok x.0 =
    ap (λ (z : Result ClassFile FilesFault). z >>= in_order before) read ∙ ordered in
    ap (λ (z : Result (List ℕ × List ℕ) FilesFault). z >>= in_run i before) s.1
    ∙ ap (λ (z : Result ClassFile FilesFault). z >>= with_rest s.0.1) class
    ∙ ap (λ (z : List ℕ). with_rest z x.0) (ap (λ (q : ClassFile × List ℕ). q.1) all)

seam : (n i : ℕ) (before : Option (List ℕ)) (bytes : List ℕ) (files : List ClassFile) (rest : List ℕ)
    → files_at n i None bytes ≡ Ok (files, rest) → meets before files ≡ true
    → files_at n i before bytes ≡ Ok (files, rest)
unfolding files_at
seam zero i before bytes files rest e h = e
seam (suc n) i before bytes files rest e h =
    let b = parts_of n i None bytes files rest e in
    let P : List ClassFile → Type 0 = λ z. meets before z ≡ true in
    let one : is_after before (name_of b.file.0) ≡ true = subst P (sym b.all) h in
    ap (λ (z : One). z >>= add_one n i) (same_file i before bytes b.file b.read one)
    ∙ ap (λ (z : Many). z >>= add_file b.file.0) b.after ∙ ap (λ (z : List ClassFile). Ok (z, rest)) b.all

last_after : (file x : ClassFile) (files : List ClassFile) → last_name (file ∷ x ∷ files) ≡ last_name (x ∷ files)
last_after file x files =
    let one : length (file ∷ x ∷ files) - 1 ≡ suc (length files) = omega arith in
    let two : length (x ∷ files) - 1 ≡ length files = omega arith in
    rw (one, two) refl

ends_with : (file : ClassFile) (files : List ClassFile)
    → end_name (Some (name_of file)) files ≡ last_name (file ∷ files)
ends_with file [] = refl
ends_with file (x ∷ files) = ends_with x files ∙ sym (last_after file x files)

ends : (files : List ClassFile) → end_name None files ≡ last_name files
ends [] = refl
ends (file ∷ files) = ends_with file files

pub both_halves : (low high count first up : ℕ) (bytes middle : List ℕ) (files more : List ClassFile) (after rest : List ℕ)
    → count ≡ low + high → up ≡ first + low → past low bytes ≡ Ok middle
    → files_at low first None bytes ≡ Ok (files, after) → files_at high up None middle ≡ Ok (more, rest)
    → meets (last_name files) more ≡ true → files_at count first None bytes ≡ Ok (files ++ more, rest)
both_halves low high count first up bytes middle files more after rest is at passed front back met =
    let two = seam high up (last_name files) middle more rest back met in
    let there : middle ≡ after = ok_is middle after (sym passed ∙ passes low first None bytes files after front) in
    let P : List ℕ → Type 0 = λ z. files_at high up (last_name files) z ≡ Ok (more, rest) in
    let Q : Option (List ℕ) → Type 0 = λ z. files_at high up z after ≡ Ok (more, rest) in
    splits low high count first up None bytes files after (Ok (more, rest)) is at front
    (subst Q (sym (ends files)) (subst P there two))

-- ---- what fails in the first half

front_is_first : (n k m i : ℕ) (before : Option (List ℕ)) (bytes : List ℕ) (e : FilesFault) → m ≡ n + k
    → files_at n i before bytes ≡ Err e → files_at m i before bytes ≡ Err e
unfolding files_at
front_is_first zero k m i before bytes e is h = absurd cc
front_is_first (suc n) k m i before bytes e is h =
    let count : m ≡ suc (n + k) = omega (arith, is) in
    let first : files_at m i before bytes ≡ (file_at i before bytes >>= add_one (n + k) i) = rw count refl in
    elim (bind_err (file_at i before bytes) (add_one n i) e h) [
      | inl here ↦ first ∙ ap (λ (z : One). z >>= add_one (n + k) i) here
      | inr (x, read, there) ↦
          elim (bind_err (files_at n (i + 1) (Some (name_of x.0)) x.1) (add_file x.0) e there) [
            | inl later ↦
                first ∙ ap (λ (z : One). z >>= add_one (n + k) i) read
                ∙ ap (λ (z : Many). z >>= add_file x.0)
                (front_is_first n k (n + k) (i + 1) (Some (name_of x.0)) x.1 e refl later)
            | inr (y, read-y, never) ↦ absurd cc
          ]
    ]

pub front_fails : (e : FilesFault) (low high count first : ℕ) (bytes : List ℕ) → count ≡ low + high
    → FailsFile e (files_at low first None bytes) → FailsFile e (files_at count first None bytes)
front_fails faults.Memory low high count first bytes is h = tt
front_fails faults.Truncated low high count first bytes is h =
    front_is_first low high count first None bytes faults.Truncated is h
front_fails (faults.Class index fault) low high count first bytes is h =
    front_is_first low high count first None bytes (faults.Class index fault) is h
front_fails faults.Order low high count first bytes is h =
    front_is_first low high count first None bytes faults.Order is h

pub joined_gives : {X Y : Type 0} (view : X → Y) (result : Result X FilesFault) {one other : Result Y FilesFault}
    → other ≡ one → GivesFile view result one → GivesFile view result other
joined_gives {X} {Y} view result is h =
    let P : Result Y FilesFault → Type 0 = λ z. GivesFile view result z in
    subst P (sym is) h

-- ---- what was answered

pub at_ok : {X Y : Type 0} (view : X → Y) (read : Result Y FilesFault) {result : Result X FilesFault} {x : X}
    → result ≡ Ok x → GivesFile view result read → read ≡ Ok (view x)
at_ok {X} {Y} view read {result} {x} is h =
    let P : Result X FilesFault → Type 0 = λ z. GivesFile view z read in
    subst P is h

pub at_err : {X Y : Type 0} (view : X → Y) (read : Result Y FilesFault) {result : Result X FilesFault} {e : FilesFault}
    → result ≡ Err e → GivesFile view result read → FailsFile e read
at_err {X} {Y} view read {result} {e} is h =
    let P : Result X FilesFault → Type 0 = λ z. GivesFile view z read in
    subst P is h
