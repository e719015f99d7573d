-- Readers of class files are lawful.
use Rattle.std.proofs.Common.{◌≡◌, ℕ, zero, suc, ◌+◌, ◌<◌, ◌^◌, ◌⊎◌, Bool, true, false, cond, List, [], ◌∷◌, ◌++◌}
use Rattle.std.proofs.Common.{length, Option, Some, None}
use Rattle.std.proofs.Common.{Result, Ok, Err, refl, sym, ap, subst, ◌∙◌, arith, inl, inr}
use Rattle.std.specs.Bool.{Decides}
use Rattle.std.specs.Cmp.Lexicographic.{slice_cmp}
use Rattle.std.specs.declared.cmp.Ordering.{Ordering}
use Rattle.std.specs.declared.cmp.Ordering.TheVariants.{Less, Equal, Greater}
use Rattle.std.specs.Int.{w32}
use Rattle.std.specs.List.{flat_map}
use Rattle.std.specs.Ordering.{is_lt, nat_cmp}
use Rattle.std.specs.Prelude.{IfOk, IfErr}
use Rattle.std.proofs.lemmas.List.Elements.{All-nil, All-cons, All-head, All-tail}
use Rattle.classfile.specs.declared.fault.ClassFault.{ClassFault}
use Rattle.classfile.specs.Class.{IsClassFile}
use Rattle.classfile.specs.ClassFile.{ClassFile}
use Rattle.classfile.specs.Spelling.{u4}
use Rattle.classfile.specs.Text.{class_text}
use Rattle.classfile.specs.reading.Class.{class_of}
use Rattle.classfile.specs.Faults.{Either, Number, IsBytes}
use Rattle.classfile.specs.reading.Numbers.{◌>>=◌}
use Rattle.classfile.proofs.ClassLawful.{class_is_text, text_is_class, fault_is_first, first_is_fault}
use Rattle.classfile.proofs.Lawful.{Lawful, Both, Is, Mapped, IsBytes-back, fits_as, bind_ok, bind_err, ok_is, wide32}
use Rattle.classfile.proofs.Lawful.{pure_lawful, map_lawful, then_lawful, restated}
use Rattle.classfile.proofs.RuleLawful.{append_equal, IsBytes-front, good_ok}
use Rattle.loading.specs.Names.{name_of}
use Rattle.image_format.specs.Texts.{file_text}
use Rattle.image_parser.specs.declared.fault.RegionFault.{RegionFault}
use Rattle.image_parser.specs.declared.fault.RegionFault.TheVariants as parts
use Rattle.image_parser.specs.declared.fault.FilesFault.{FilesFault}
use Rattle.image_parser.specs.declared.fault.FilesFault.TheVariants as faults
use Rattle.image_parser.specs.FileFaults.{IsSized, SizedFails, IsAfter, IsFileAfter, of_class, RunFails, FileFails}
use Rattle.image_parser.specs.FileFaults.{FilesFailFrom, AreFilesAfter, AreFiles, FilesFail, FailsFile, GivesFile}
use Rattle.image_parser.specs.FileFaults.RunFails.{class, order}
use Rattle.image_parser.specs.RegionFaults.{Cut, CutNumber}
use Rattle.image_parser.specs.Regions.{Begins}
use Rattle.image_parser.specs.reading.Files.{of_run, outside, counted_at, sized_at, is_after, in_class, in_order}
use Rattle.image_parser.specs.reading.Files.{class_in, file_at, files_at}
use Rattle.image_parser.proofs.NumberLawful.{run_after_lawful}

-- ---- the same faults in other words

refit : {E X : Type 0} {r : List ℕ → Result (X × List ℕ) E} {S : X → List ℕ → Type 0} {F G : List ℕ → E → Type 0}
    → Lawful r S F → ((bytes : List ℕ) (f : E) → F bytes f → G bytes f)
    → ((bytes : List ℕ) (f : E) → G bytes f → F bytes f) → Lawful r S G
refit one there back = record {
  takes = one.takes;
  again = one.again;
  blames = λ bytes f fits e. there bytes f (one.blames bytes f fits e);
  blamed = λ bytes f fits h. one.blamed bytes f fits (back bytes f h);
}

-- ---- a value made of what was read, or its fault

record Turns {E X Y : Type 0} (S : X → List ℕ → Type 0) (T : Y → List ℕ → Type 0) (G : X → E → Type 0)
    (make : X → Result Y E) : Type 0 where
  made : (x : X) (text : List ℕ) (y : Y) → IsBytes text → S x text → make x ≡ Ok y → T y text
  again : (y : Y) (text : List ℕ) → T y text → (x : X) × (S x text × (make x ≡ Ok y))
  blames : (x : X) (text : List ℕ) (f : E) → IsBytes text → S x text → make x ≡ Err f → G x f
  blamed : (x : X) (text : List ℕ) (f : E) → IsBytes text → S x text → G x f → make x ≡ Err f

bound_err : {E A B : Type 0} (r : Result A E) (f : A → B) (d : E) → (r >>= λ a. Ok (f a)) ≡ Err d → r ≡ Err d
bound_err (Ok x) f d e = absurd cc
bound_err (Err c) f d e = let q : c ≡ d = cc in rw q refl

turned_lawful : {E X Y : Type 0} {S : X → List ℕ → Type 0} {F : List ℕ → E → Type 0} (T : Y → List ℕ → Type 0)
    (G : X → E → Type 0) (r : List ℕ → Result (X × List ℕ) E) (make : X → Result Y E) → Lawful r S F
    → Turns S T G make
    → Lawful (λ bytes. r bytes >>= λ p. make p.0 >>= λ y. Ok (y, p.1)) T (Either S F (λ x rest. G x))
turned_lawful {E} {X} {Y} T G r make one turns =
    let pack : List ℕ → Y → Result (Y × List ℕ) E = λ rest y. Ok (y, rest) in
    let go : X × List ℕ → Result (Y × List ℕ) E = λ p. make p.0 >>= pack p.1 in
    record {
      takes = λ bytes y rest fits e.
          let b = bind_ok (r bytes) go (y, rest) e in
          let m = bind_ok (make b.0.0) (pack b.0.1) (y, rest) b.2 in
          let p : (m.0, b.0.1) ≡ (y, rest) = ok_is (m.0, b.0.1) (y, rest) m.2 in
          let t = one.takes bytes b.0.0 b.0.1 fits b.1 in
          let rest-is : b.0.1 ≡ rest = ap (λ (q : Y × List ℕ). q.1) p in
          let y-is : m.0 ≡ y = ap (λ (q : Y × List ℕ). q.0) p in
          let front = IsBytes-front t.text b.0.1 (fits_as bytes (t.text ++ b.0.1) t.parts fits) in
          record {
            text = t.text;
            spelled = turns.made b.0.0 t.text y front t.spelled (m.1 ∙ ap (λ (z : Y). Ok z) y-is);
            parts = t.parts ∙ ap (λ (z : List ℕ). t.text ++ z) rest-is;
            rest_fits = fits_as b.0.1 rest rest-is t.rest_fits;
          };
      again = λ y text rest t.
          let m = turns.again y text t in
          ap (λ (z : Result (X × List ℕ) E). z >>= go) (one.again m.0 text rest m.1.0) ∙ rw m.1.1 refl;
      blames = λ bytes f fits e.
          elim (bind_err (r bytes) go f e) [
            | inl here ↦ inl (one.blames bytes f fits here)
            | inr (x, is, there) ↦
                let t = one.takes bytes x.0 x.1 fits is in
                let front = IsBytes-front t.text x.1 (fits_as bytes (t.text ++ x.1) t.parts fits) in
                inr (record {
                  value = x.0;
                  text = t.text;
                  rest = x.1;
                  spelled = t.spelled;
                  parts = t.parts;
                  next = turns.blames x.0 t.text f front t.spelled (bound_err (make x.0) (λ y. (y, x.1)) f there);
                })
          ];
      blamed = λ bytes f fits h.
          elim h [
            | inl here ↦ ap (λ (z : Result (X × List ℕ) E). z >>= go) (one.blamed bytes f fits here)
            | inr w ↦
                let is : r bytes ≡ Ok (w.value, w.rest) = ap r w.parts ∙ one.again w.value w.text w.rest w.spelled in
                let front = IsBytes-front w.text w.rest (fits_as bytes (w.text ++ w.rest) w.parts fits) in
                ap (λ (z : Result (X × List ℕ) E). z >>= go) is
                ∙ rw (turns.blamed w.value w.text f front w.spelled w.next) refl
          ];
    }

-- ---- a run of bytes after its length

outside_ok : {X : Type 0} (r : Result X RegionFault) (x : X) → outside r ≡ Ok x → r ≡ Ok x
outside_ok (Ok y) x e = cc
outside_ok (Err f) x e = absurd cc

outside_err : {X : Type 0} (r : Result X RegionFault) (f : FilesFault) → outside r ≡ Err f
    → (e : RegionFault) × ((r ≡ Err e) × (f ≡ of_run e))
outside_err (Ok y) f e = absurd cc
outside_err (Err g) f e = (g, (refl, cc))

abbrev Outside : (List ℕ → RegionFault → Type 0) → List ℕ → FilesFault → Type 0
Outside F bytes f = (e : RegionFault) × (F bytes e × (f ≡ of_run e))

outside_lawful : {X : Type 0} (r : List ℕ → Result (X × List ℕ) RegionFault) (S : X → List ℕ → Type 0)
    (F : List ℕ → RegionFault → Type 0) → Lawful r S F → Lawful (λ bytes. outside (r bytes)) S (Outside F)
outside_lawful {X} r S F one = record {
  takes = λ bytes x rest fits e. one.takes bytes x rest fits (outside_ok (r bytes) (x, rest) e);
  again = λ x text rest s. ap (λ (z : Result (X × List ℕ) RegionFault). outside z) (one.again x text rest s);
  blames = λ bytes f fits e.
      let g = outside_err (r bytes) f e in (g.0, (one.blames bytes g.0 fits g.1.0, g.1.1));
  blamed = λ bytes f fits h.
      ap (λ (z : Result (X × List ℕ) RegionFault). outside z) (one.blamed bytes h.0 fits h.1.0)
      ∙ ap (λ (z : FilesFault). Err z) (sym h.1.1);
}

abbrev Counted : List ℕ → RegionFault → Type 0
Counted = Either (Number w32) (CutNumber w32) Cut

counted_lawful : Lawful counted_at IsSized Counted
unfolding counted_at
counted_lawful = run_after_lawful w32 wide32

cut_there : (bytes : List ℕ) (f : FilesFault) → Outside Counted bytes f → SizedFails bytes f
cut_there bytes f (e, (inl cut, is)) = inl (cut.0, is ∙ ap of_run cut.1)
cut_there bytes f (e, (inr w, is)) = inr (record {
  value = w.value;
  text = w.text;
  rest = w.rest;
  spelled = w.spelled;
  parts = w.parts;
  next = (w.next.0, is ∙ ap of_run w.next.1);
})

cut_back : (bytes : List ℕ) (f : FilesFault) → SizedFails bytes f → Outside Counted bytes f
cut_back bytes f (inl cut) = (parts.Truncated, (inl (cut.0, refl), cut.1))
cut_back bytes f (inr w) = (
  parts.Truncated,
  (
    inr (record {
      value = w.value;
      text = w.text;
      rest = w.rest;
      spelled = w.spelled;
      parts = w.parts;
      next = (w.next.0, refl);
    }),
    w.next.1,
  ),
)

sized_lawful : Lawful sized_at IsSized SizedFails
sized_lawful = refit (outside_lawful counted_at IsSized Counted counted_lawful) cut_there cut_back

-- ---- a class file

less_is : (o : Ordering) → is_lt o ≡ true → o ≡ Less
less_is Less e = refl
less_is Equal e = absurd cc
less_is Greater e = absurd cc

after_decides : (before : Option (List ℕ)) (name : List ℕ) → Decides (is_after before name) (IsAfter before name)
after_decides None name = (λ e. tt, λ h. refl)
after_decides (Some before) name = (λ e. less_is (slice_cmp nat_cmp before name) e, λ h. rw h refl)

good_err : {E A : Type 0} (b : Bool) (d f : E) (x : A) → cond b (Ok x) (Err d) ≡ Err f → (b ≡ false) × (f ≡ d)
good_err true d f x e = absurd cc
good_err false d f x e = (refl, cc)

class_ok : (index : ℕ) (r : Result ClassFile ClassFault) (file : ClassFile) → in_class index r ≡ Ok file → r ≡ Ok file
class_ok index (Ok x) file e = cc
class_ok index (Err f) file e = absurd cc

class_err : (index : ℕ) (r : Result ClassFile ClassFault) (f : FilesFault) → in_class index r ≡ Err f
    → (e : ClassFault) × ((r ≡ Err e) × (f ≡ of_class index e))
class_err index (Ok x) f e = absurd cc
class_err index (Err g) f e = (g, (refl, cc))

run_fits : (run text : List ℕ) → IsBytes text → IsSized run text → IsBytes run
run_fits run text fits s = IsBytes-back (u4 (length run)) run (fits_as text (u4 (length run) ++ run) s.1 fits)

class_made : (index : ℕ) (before : Option (List ℕ)) (run text : List ℕ) (file : ClassFile) → IsBytes text
    → IsSized run text → class_in index before run ≡ Ok file → IsFileAfter before file text
class_made index before run text file fits s e =
    let b = bind_ok (in_class index (class_of run)) (in_order before) file e in
    let g = good_ok (is_after before (name_of b.0)) faults.Order b.0 file b.2 in
    let read = class_ok index (class_of run) b.0 b.1 ∙ ap (λ (z : ClassFile). Ok z) g.1 in
    let t = class_is_text run file (run_fits run text fits s) read in
    let after : is_after before (name_of file) ≡ true =
    ap (λ (z : ClassFile). is_after before (name_of z)) (sym g.1) ∙ g.0 in
    record {
      fits = t.fits;
      short = (let P : List ℕ → Type 0 = λ z. length z < 2 ^ 32 in subst P t.spelled s.0);
      after = (after_decides before (name_of file)).0 after;
      spelled = s.1 ∙ ap (λ (z : List ℕ). u4 (length z) ++ z) t.spelled;
    }

class_again : (index : ℕ) (before : Option (List ℕ)) (file : ClassFile) (text : List ℕ) → IsFileAfter before file text
    → (run : List ℕ) × (IsSized run text × (class_in index before run ≡ Ok file))
class_again index before file text t =
    let read = text_is_class (class_text file) file (record { spelled = refl; fits = t.fits }) in
    let after = (after_decides before (name_of file)).1 t.after in
    (class_text file, ((t.short, t.spelled), rw (read, after) refl))

class_blames : (index : ℕ) (before : Option (List ℕ)) (run text : List ℕ) (f : FilesFault) → IsBytes text
    → IsSized run text → class_in index before run ≡ Err f → RunFails index before run f
class_blames index before run text f fits s e =
    elim (bind_err (in_class index (class_of run)) (in_order before) f e) [
      | inl here ↦
          let g = class_err index (class_of run) f here in
          let P : FilesFault → Type 0 = λ z. RunFails index before run z in
          subst P (sym g.1.1) (class g.0 (fault_is_first run g.0 (run_fits run text fits s) g.1.0))
      | inr (file, is, there) ↦
          let g = good_err (is_after before (name_of file)) faults.Order f file there in
          let read = class_is_text run file (run_fits run text fits s) (class_ok index (class_of run) file is) in
          let P : FilesFault → Type 0 = λ z. RunFails index before run z in
          subst P (sym g.1) (order file read (λ h. let on = (after_decides before (name_of file)).1 h in
          let off = g.0 in cc))
    ]

not_after : (before : Option (List ℕ)) (name : List ℕ) (t : Bool) → is_after before name ≡ t → ¬ IsAfter before name
    → is_after before name ≡ false
not_after before name true e h = absurd (h ((after_decides before name).0 e))
not_after before name false e h = e

class_blamed : (index : ℕ) (before : Option (List ℕ)) (run text : List ℕ) (f : FilesFault) → IsBytes text
    → IsSized run text → RunFails index before run f → class_in index before run ≡ Err f
class_blamed index before run text f fits s (class fault first) =
    rw (first_is_fault run fault (run_fits run text fits s) first) refl
class_blamed index before run text f fits s (order file is late) =
    rw (text_is_class run file is, not_after before (name_of file) (is_after before (name_of file)) refl late) refl

file_lawful : (index : ℕ) (before : Option (List ℕ))
    → Lawful (file_at index before) (IsFileAfter before) (FileFails index before)
unfolding file_at
file_lawful index before =
    turned_lawful (IsFileAfter before) (RunFails index before) sized_at (class_in index before) sized_lawful (record {
      made = λ run text file fits s e. class_made index before run text file fits s e;
      again = class_again index before;
      blames = λ run text f fits s e. class_blames index before run text f fits s e;
      blamed = λ run text f fits s h. class_blamed index before run text f fits s h;
    })

-- ---- one after the other

abbrev join : ClassFile → List ClassFile → List ClassFile
join file files = file ∷ files

abbrev Rest : ℕ → ClassFile → List ClassFile → List ℕ → Type 0
Rest n file = Mapped (join file) (AreFilesAfter (Some (name_of file)) n)

files_there : (n : ℕ) (before : Option (List ℕ)) (files : List ClassFile) (text : List ℕ)
    → Both (IsFileAfter before) (Rest n) files text → AreFilesAfter before (suc n) files text
files_there n before files text s =
    let one = s.first in
    let others = s.second in
    let rest = others.spelled in
    let both : AreFilesAfter before (suc n) (join s.value others.value) text = record {
      many = ap suc rest.many;
      fits = All-cons IsClassFile s.value others.value one.fits rest.fits;
      short = All-cons (λ (file : ClassFile). length
          (class_text file) < 2 ^ 32) s.value others.value one.short rest.short;
      ascending = (one.after, rest.ascending);
      spelled = s.parts ∙ append_equal s.front (file_text s.value) s.back (flat_map file_text others.value) one.spelled
          rest.spelled;
    } in
    let P : List ClassFile → Type 0 = λ z. AreFilesAfter before (suc n) z text in subst P (sym others.is) both

files_back : (n : ℕ) (before : Option (List ℕ)) (files : List ClassFile) (text : List ℕ)
    → AreFilesAfter before (suc n) files text → Both (IsFileAfter before) (Rest n) files text
files_back n before [] text s = let none = s.many in absurd cc
files_back n before (file ∷ files) text s = record {
  value = file;
  front = file_text file;
  back = flat_map file_text files;
  first = record {
    fits = All-head IsClassFile file files s.fits;
    short = All-head (λ (f : ClassFile). length (class_text f) < 2 ^ 32) file files s.short;
    after = s.ascending.0;
    spelled = refl;
  };
  second = record {
    value = files;
    spelled = record {
      many = (let many = s.many in omega (arith, many));
      fits = All-tail IsClassFile file files s.fits;
      short = All-tail (λ (f : ClassFile). length (class_text f) < 2 ^ 32) file files s.short;
      ascending = s.ascending.1;
      spelled = refl;
    };
    is = refl;
  };
  parts = s.spelled;
}

none_there : (before : Option (List ℕ)) (files : List ClassFile) (text : List ℕ) → Is [] files text
    → AreFilesAfter before zero files text
none_there before [] text s = record {
  many = refl;
  fits = All-nil IsClassFile;
  short = All-nil (λ (file : ClassFile). length (class_text file) < 2 ^ 32);
  ascending = tt;
  spelled = s.1;
}
none_there before (file ∷ files) text s = let some = s.0 in absurd cc

none_back : (before : Option (List ℕ)) (files : List ClassFile) (text : List ℕ) → AreFilesAfter before zero files text
    → Is [] files text
none_back before [] text s = (refl, s.spelled)
none_back before (file ∷ files) text s = let some = s.many in absurd cc

files_lawful_from : (n index : ℕ) (before : Option (List ℕ))
    → Lawful (files_at n index before) (AreFilesAfter before n) (FilesFailFrom n index before)
unfolding files_at
files_lawful_from zero index before = restated (pure_lawful []) (none_there before) (none_back before)
files_lawful_from (suc n) index before =
    restated (then_lawful (file_at index before)
    (λ bytes file. files_at n (index + 1) (Some (name_of file.0)) file.1 >>= λ files. Ok
    (join file.0 files.0, files.1))
    (file_lawful index before)
    (λ bytes file text s. map_lawful (join file) (files_at n (index + 1) (Some (name_of file)))
    (AreFilesAfter (Some (name_of file)) n) (FilesFailFrom n (index + 1) (Some (name_of file)))
    (files_lawful_from n (index + 1) (Some (name_of file)))))
    (files_there n before) (files_back n before)

pub files_lawful : (count : ℕ) → Lawful (files_at count 0 None) (AreFiles count) (FilesFail count)
files_lawful count = files_lawful_from count 0 None

-- ---- what the reader answers, unless memory runs out

pub files_text : {Y : Type 0} (count : ℕ) (view : Y → List ClassFile × List ℕ) (result : Result Y FilesFault)
    (bytes : List ℕ) → IsBytes bytes → GivesFile view result (files_at count 0 None bytes)
    → IfOk result (λ y. Begins (AreFiles count) bytes (view y).0 (view y).1)
files_text count view (Ok y) bytes fits e =
    let t = (files_lawful count).takes bytes (view y).0 (view y).1 fits e in
    record { text = t.text; spelled = t.spelled; parts = t.parts }
files_text count view (Err f) bytes fits e = tt

refused : (count : ℕ) (f : FilesFault) (bytes : List ℕ) → IsBytes bytes → FailsFile f (files_at count 0 None bytes)
    → (f ≡ faults.Memory) ⊎ FilesFail count bytes f
refused count faults.Memory bytes fits e = inl refl
refused count faults.Truncated bytes fits e = inr ((files_lawful count).blames bytes faults.Truncated fits e)
refused count (faults.Class i c) bytes fits e = inr ((files_lawful count).blames bytes (faults.Class i c) fits e)
refused count faults.Order bytes fits e = inr ((files_lawful count).blames bytes faults.Order fits e)

pub files_fault : {Y : Type 0} (count : ℕ) (view : Y → List ClassFile × List ℕ) (result : Result Y FilesFault)
    (bytes : List ℕ) → IsBytes bytes → GivesFile view result (files_at count 0 None bytes)
    → IfErr result (λ f. (f ≡ faults.Memory) ⊎ FilesFail count bytes f)
files_fault count view (Ok y) bytes fits e = tt
files_fault count view (Err f) bytes fits e = refused count f bytes fits e
