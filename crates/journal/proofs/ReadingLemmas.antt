-- Journals, read line by line.
use Rattle.std.proofs.Common.{◌≡◌, ◌≢◌, ℕ, ◌+◌, ◌<◌, ◌≤◌, ◌^◌, ◌++◌, List, [], ◌∷◌, length, replicate, take, get_or}
use Rattle.std.proofs.Common.{refl, sym, ap, subst, ◌∙◌, arith, length-append, append_assoc, append-nil, ◌⊎◌, inl, inr}
use Rattle.std.proofs.lemmas.List.{take_more}
use Rattle.init_engine.specs.Schedules.{schedule_of, AreRuns}
use Rattle.init_engine.proofs.ScheduleLemmas.{schedule_of-more}
use Rattle.journal.specs.declared.fault.JournalFault.{JournalFault}
use Rattle.journal.specs.declared.fault.JournalFault.TheVariants.{Memory, Text}
use Rattle.journal.specs.Journals.JournalFails.{line as fails}
use Rattle.journal.specs.Journals.{JournalFails, IsFirstFault, IsRun, MayFollow, in_row}
use Rattle.journal.specs.Journals.{last_in_row, line_of, lines_of}
use Rattle.journal.specs.Journals.AreLines.{none, more}
use Rattle.journal.specs.steps.Adding.{IsAdded, IsReadSo}
use Rattle.journal.proofs.LineLemmas.{same_run, some_bytes}
use Rattle.journal.proofs.RunsLemmas.{last_more}

pub lines_of-append : (xs ys : List (ℕ × ℕ)) → lines_of (xs ++ ys) ≡ lines_of xs ++ lines_of ys
lines_of-append [] ys = refl
lines_of-append (x ∷ xs) ys =
    ap (λ r. line_of x ++ r) (lines_of-append xs ys) ∙ sym (append_assoc (line_of x) (lines_of xs) (lines_of ys))

pub lines_of-more : (xs : List (ℕ × ℕ)) (r : ℕ × ℕ) → lines_of (xs ++ r ∷ []) ≡ lines_of xs ++ line_of r
lines_of-more xs r = lines_of-append xs (r ∷ []) ∙ ap (λ t. lines_of xs ++ t) (append-nil (line_of r))

-- a text written run by run
pub written_more : (xs : List (ℕ × ℕ)) (i : ℕ) (d : ℕ × ℕ) (old new : List ℕ) → i < length xs
    → old ≡ lines_of (take i xs) → new ≡ old ++ line_of (get_or xs i d) → new ≡ lines_of (take (i + 1) xs)
written_more xs i d old new within was made =
    made ∙ (ap (λ t. t ++ line_of (get_or xs i d)) was ∙ (sym (lines_of-more (take i xs) (get_or xs i d))
    ∙ ap lines_of (sym (take_more xs i d within))))

pub read_none : (text : List ℕ) (now : List (ℕ × ℕ)) → now ≡ [] → IsReadSo text text 1 now
read_none text now is = record {
  before = [];
  lines = none;
  whole = refl;
  counted = refl;
  runs = subst AreRuns (sym is) tt;
  schedule = ap schedule_of is;
  last = λ t. ap (last_in_row t) is;
}

pub read_more : (text rest tail : List ℕ) (line : ℕ) (now new : List (ℕ × ℕ)) (r : ℕ × ℕ) → IsReadSo text rest line now
    → rest ≡ line_of r ++ tail → IsAdded now r new → IsReadSo text tail (line + 1) new
read_more text rest tail line now new r so is added =
    let follows : MayFollow so.before r = (added.0, subst (λ k. k + r.1 < 2 ^ 64) (so.last r.0) added.1.fits) in
    record {
      before = so.before ++ r ∷ [];
      lines = more so.lines follows;
      whole =
          so.whole ∙ (ap (λ t. lines_of so.before ++ t) is ∙ (sym (append_assoc (lines_of so.before) (line_of r) tail)
          ∙ ap (λ t. t ++ tail) (sym (lines_of-more so.before r))));
      counted = omega (arith, so.counted, length-append so.before (r ∷ []));
      runs = added.1.runs;
      schedule =
          added.1.schedule ∙ (ap (λ t. t ++ replicate r.1 r.0) so.schedule ∙ sym (schedule_of-more so.before r.0 r.1));
      last = λ t. added.1.last t ∙ (ap (λ k. in_row t k r) (so.last t) ∙ sym (last_more t so.before r));
    }

pub no_line : (text rest : List ℕ) (line : ℕ) (now : List (ℕ × ℕ)) → IsReadSo text rest line now → 0 < length rest
    → ((r : ℕ × ℕ) (tail : List ℕ) → IsRun r → rest ≢ line_of r ++ tail) → IsFirstFault text line
no_line text rest line now so some wrong = record {
  before = so.before;
  rest = rest;
  lines = so.lines;
  whole = so.whole;
  more = some;
  counted = so.counted;
  fault = λ r tail e follows. wrong r tail follows.0 e;
}

pub no_room : (text rest tail : List ℕ) (line : ℕ) (now : List (ℕ × ℕ)) (r : ℕ × ℕ) → IsReadSo text rest line now
    → rest ≡ line_of r ++ tail → IsRun r → ¬ (last_in_row r.0 now + r.1 < 2 ^ 64) → IsFirstFault text line
no_room text rest tail line now r so is run wrong = record {
  before = so.before;
  rest = rest;
  lines = so.lines;
  whole = so.whole;
  more = omega (arith, ap length is, length-append (line_of r) tail, some_bytes r);
  counted = so.counted;
  fault = λ s end e follows.
      let same = same_run r s tail end run follows.0 (sym is ∙ e) in
      wrong (subst (λ k. k < 2 ^ 64) (ap (λ k. last_in_row k so.before + s.1) (sym same.0)
      ∙ (ap (λ k. last_in_row r.0 so.before + k) (sym same.1) ∙ ap (λ k. k + r.1) (sym (so.last r.0)))) follows.1);
}

count_small : (xs : List (ℕ × ℕ)) → length xs ≤ length (lines_of xs)
count_small [] = omega arith
count_small (x ∷ xs) = omega (arith, count_small xs, length-append (line_of x) (lines_of xs), some_bytes x)

pub line_small : (text rest : List ℕ) (line : ℕ) (now : List (ℕ × ℕ)) → IsReadSo text rest line now
    → line + length rest ≤ length text + 1
line_small text rest line now so =
    omega (arith, so.counted, count_small so.before, ap length so.whole, length-append (lines_of so.before) rest)

-- a line that can't be added is at fault, but for want of memory
pub line_fails : (text rest tail : List ℕ) (line : ℕ) (now : List (ℕ × ℕ)) (r : ℕ × ℕ) (fault : JournalFault)
    → IsReadSo text rest line now → rest ≡ line_of r ++ tail → IsRun r
    → (fault ≡ Memory) ⊎ ((fault ≡ Text line) × ¬ (last_in_row r.0 now + r.1 < 2 ^ 64))
    → (fault ≡ Memory) ⊎ JournalFails text fault
line_fails text rest tail line now r fault so is run (inl memory) = inl memory
line_fails text rest tail line now r fault so is run (inr wrong) =
    inr (subst (JournalFails text) (sym wrong.0) (fails (no_room text rest tail line now r so is run wrong.1)))
