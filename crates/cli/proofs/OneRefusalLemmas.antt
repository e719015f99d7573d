-- Texts make a program, or are refused for one fault.
use Rattle.std.proofs.Common.{◌≡◌, ℕ, zero, suc, ◌<◌, List, [], ◌∷◌, Some, slice_get, take}
use Rattle.std.proofs.Common.{refl, sym, ap, subst, ◌∙◌, inl, inr, arith}
use Rattle.std.specs.List.{All}
use Rattle.std.proofs.lemmas.Bool.{cases_lt}
use Rattle.classfile.specs.ClassFile.{ClassFile}
use Rattle.classfile.specs.Class.{IsClassText}
use Rattle.classfile.specs.Faults.{IsBytes}
use Rattle.classfile.specs.FirstFault.{FirstFault}
use Rattle.classfile.specs.declared.fault.ClassFault.{ClassFault}
use Rattle.classfile.proofs.ClassLawful.{exactly_one, text_is_class}
use Rattle.loading.specs.Files.{LinkFails}
use Rattle.loading.specs.declared.fault.LinkFault.{LinkFault}
use Rattle.loading.proofs.FilesFaultLemmas.{not_both, one_fault}
use Rattle.loading.proofs.ZipLemmas.{partner_of}
use Rattle.semantics.proofs.TestsLemmas.{from_some}
use Rattle.program.specs.Tables.{Tables}
use Rattle.building.proofs.OneFaultLemmas.{at_all}
use Rattle.cli.specs.declared.fault.CommandFault.{CommandFault}
use Rattle.cli.specs.declared.fault.CommandFault.TheVariants.{Link}
use Rattle.cli.specs.Runs.{AreClassFiles, IsFirstBad, IsProgramOf, NotLinked}
use Rattle.cli.specs.Runs as runs
use Rattle.cli.specs.Laws.{LinkedAreNotRefused, OneRefusal}

-- ---- class files of texts

same_file : (text : List ℕ) (f g : ClassFile) → IsClassText text f → IsClassText text g → f ≡ g
same_file text f g is also = let one = text_is_class text f is in let other = text_is_class text g also in cc

pub same_files : (texts : List (List ℕ)) (fs gs : List ClassFile) → AreClassFiles texts fs → AreClassFiles texts gs
    → fs ≡ gs
same_files [] [] [] are also = refl
same_files [] [] (g ∷ gs) are also = absurd also
same_files [] (f ∷ fs) gs are also = absurd are
same_files (text ∷ texts) [] gs are also = absurd are
same_files (text ∷ texts) (f ∷ fs) [] are also = absurd also
same_files (text ∷ texts) (f ∷ fs) (g ∷ gs) are also =
    let here : f ≡ g = same_file text f g are.0 also.0 in
    let rest : fs ≡ gs = same_files texts fs gs are.1 also.1 in
    cc

pub kept : {A : Type 0} (n : ℕ) (xs : List A) (k : ℕ) (x : A) → k < n → slice_get xs k ≡ Some x
    → slice_get (take n xs) k ≡ Some x
kept zero xs k x less at = absurd (omega arith)
kept (suc n) [] k x less at = at
kept (suc n) (y ∷ ys) zero x less at = at
kept (suc n) (y ∷ ys) (suc k) x less at = kept n ys k x (omega arith) at

-- ---- a text that is no class file

module _ (texts : List (List ℕ)) (bytes : All IsBytes texts) where
  pub none_bad : (place : ℕ) (fault : ClassFault) (files : List ClassFile) → AreClassFiles texts files
      → IsFirstBad texts place fault → ⊥
  none_bad place fault files are bad =
      let (f, is) = partner_of IsClassText texts files place bad.text are bad.here in
      (exactly_one bad.text (at_all IsBytes texts place bad.text bad.here bytes)).not_both f fault is bad.breaks

  not_before : (i j : ℕ) (x y : ClassFault) → i < j → IsFirstBad texts i x → IsFirstBad texts j y → ⊥
  not_before i j x y less bad later =
      let (f, is) =
      partner_of IsClassText (take j texts) later.before i bad.text later.well
      (kept j texts i bad.text less bad.here) in
      (exactly_one bad.text (at_all IsBytes texts i bad.text bad.here bytes)).not_both f x is bad.breaks

  one_bad_place : (i j : ℕ) (x y : ClassFault) → IsFirstBad texts i x → IsFirstBad texts j y → i ≡ j
  one_bad_place i j x y bad other =
      elim (cases_lt i j) [
        | inl less ↦ absurd (not_before i j x y less bad other)
        | inr past ↦ elim (cases_lt j i) [
          | inl less ↦ absurd (not_before j i y x less other bad)
          | inr up ↦ omega arith
        ]
      ]

  one_bad_fault : (i j : ℕ) (x y : ClassFault) → IsFirstBad texts i x → IsFirstBad texts j y → x ≡ y
  one_bad_fault i j x y bad other =
      let place : i ≡ j = one_bad_place i j x y bad other in
      let text : other.text ≡ bad.text =
      from_some (sym other.here ∙ ap (λ (k : ℕ). slice_get texts k) (sym place) ∙ bad.here) in
      (exactly_one bad.text (at_all IsBytes texts i bad.text bad.here bytes)).one_fault x y bad.breaks
      (subst (λ (t : List ℕ). FirstFault t y) text other.breaks)

  -- ---- class files that do not link

  pub none_unlinked : (P : Tables) (files : List ClassFile) (fault : LinkFault) → IsProgramOf texts P
      → AreClassFiles texts files → LinkFails files fault → ⊥
  none_unlinked P files fault of are fails =
      not_both of.files fault of.links
      (subst (λ (fs : List ClassFile). LinkFails fs fault) (same_files texts files of.files are of.are) fails)

  one_link_fault : (fs gs : List ClassFile) (x y : LinkFault) → AreClassFiles texts fs → AreClassFiles texts gs
      → LinkFails fs x → LinkFails gs y → x ≡ y
  one_link_fault fs gs x y are also fails other =
      one_fault gs x y (subst (λ (hs : List ClassFile). LinkFails hs x) (same_files texts fs gs are also) fails) other

  -- ---- refusals

  none : (P : Tables) (r : CommandFault) → IsProgramOf texts P → NotLinked texts r → ⊥
  none P r of (runs.class {place} {fault} bad) = none_bad place fault of.files of.are bad
  none P r of (runs.link {files} {fault} are fails) = none_unlinked P files fault of are fails

  one : (r q : CommandFault) → NotLinked texts r → NotLinked texts q → r ≡ q
  one r q (runs.class {place = i} {fault = x} bad) (runs.class {place = j} {fault = y} other) =
      let place : i ≡ j = one_bad_place i j x y bad other in
      let fault : x ≡ y = one_bad_fault i j x y bad other in
      cc
  one r q (runs.class {place} {fault} bad) (runs.link {files} are fails) =
      absurd (none_bad place fault files are bad)
  one r q (runs.link {files} are fails) (runs.class {place} {fault} bad) =
      absurd (none_bad place fault files are bad)
  one r q (runs.link {files = fs} {fault = x} are fails) (runs.link {files = gs} {fault = y} also other) =
      ap (λ (fault : LinkFault). Link fault) (one_link_fault fs gs x y are also fails other)

pub linked_are_not_refused_lem : LinkedAreNotRefused
linked_are_not_refused_lem texts P r bytes of wrong = none texts bytes P r of wrong

pub one_refusal_lem : OneRefusal
one_refusal_lem texts r q bytes wrong other = one texts bytes r q wrong other
