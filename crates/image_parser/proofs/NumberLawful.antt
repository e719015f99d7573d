-- Readers of numbers and runs are lawful: where they fail the bytes are cut.
use Rattle.std.proofs.Common.{◌≡◌, ◌∙◌, ℕ, ◌<◌, List, ◌++◌, length, arith, refl, sym, ap}
use Rattle.std.specs.Int.{Width, to_be_bytes, w64}
use Rattle.std.proofs.lemmas.Nat.{be_bytes_8, from_be_bytes-to_be_bytes_8}
use Rattle.classfile.specs.Faults.{Either, Number, Run, limit_of}
use Rattle.classfile.specs.reading.Numbers.{◌>>=◌}
use Rattle.classfile.proofs.Lawful.{Lawful, Both, IsWide, cut_run_lawful, cut_number_lawful, restated, then_lawful}
use Rattle.classfile.proofs.RuleLawful.{append_equal}
use Rattle.image_parser.specs.declared.fault.RegionFault.TheVariants as faults
use Rattle.image_parser.specs.RegionFaults.{Cut, CutNumber}
use Rattle.image_parser.specs.reading.Results.{number_at, run_at}

pub wide64 : IsWide w64
wide64 = record {
  len = λ n. refl;
  back = λ bytes len fits. be_bytes_8 bytes _ len fits refl;
  again = λ n lt. from_be_bytes-to_be_bytes_8 n lt;
  below = λ bytes fits. omega (arith, fits 0, fits 1, fits 2, fits 3, fits 4, fits 5, fits 6, fits 7);
}

run_lawful : (count : ℕ) → Lawful (run_at count) (Run count) (Cut count)
run_lawful count = cut_run_lawful count (λ bytes. faults.Truncated)

pub number_lawful : (w : Width) (wide : IsWide w) → Lawful (number_at w) (Number w) (CutNumber w)
number_lawful w wide = cut_number_lawful w wide (λ bytes. faults.Truncated)

-- ---- a run after its length

module _ (w : Width) where
  abbrev IsAfterLength : List ℕ → List ℕ → Type 0
  IsAfterLength run text = (length run < limit_of w) × (text ≡ to_be_bytes w (length run) ++ run)

  there : (run text : List ℕ) → Both (Number w) Run run text → IsAfterLength run text
  there run text s =
      let short : length run < limit_of w = rw (s.second.0) s.first.0 in (
        short,
        s.parts ∙ append_equal s.front (to_be_bytes w (length run)) s.back run
            (s.first.1 ∙ ap (λ (n : ℕ). to_be_bytes w n) (sym s.second.0)) s.second.1,
      )

  back : (run text : List ℕ) → IsAfterLength run text → Both (Number w) Run run text
  back run text s = record {
    value = length run;
    front = to_be_bytes w (length run);
    back = run;
    first = (s.0, refl);
    second = (refl, refl);
    parts = s.1;
  }

  pub run_after_lawful : IsWide w
      → Lawful (λ bytes. number_at w bytes >>= λ count. run_at count.0 count.1) IsAfterLength
      (Either (Number w) (CutNumber w) Cut)
  run_after_lawful wide =
      restated (then_lawful (number_at w) (λ bytes count. run_at count.0 count.1) (number_lawful w wide)
      (λ bytes count text s. run_lawful count)) there back
