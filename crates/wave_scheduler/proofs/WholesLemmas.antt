-- The regions of settled classes are whole.
use Rattle.std.proofs.Common.{◌≡◌, ℕ, zero, suc, ◌+◌, ◌≤◌, Bool, List, Option, Some, None}
use Rattle.std.proofs.Common.{refl, sym, subst, ◌∙◌, arith}
use Rattle.vm_state.specs.SharedState.{Region}
use Rattle.semantics.proofs.TestsLemmas.{from_some}
use Rattle.program.specs.Tables.{Tables}
use Rattle.region_shape.specs.Counts.{AreClosed}
use Rattle.region_shape.specs.Laws.{IsLinked, IsFromFile, HaveShape}
use Rattle.region_shape.specs.Sizes.{IsWithin}
use Rattle.region_shape.specs.Texts.{HaveTexts}
use Rattle.region_shape.specs.Wholes.{AreWhole}
use Rattle.region_shape.proofs.LawsLemmas.{settled_have_shape_lem, settled_are_within_lem, settled_name_objects_lem}
use Rattle.region_shape.proofs.NamesLemmas.{names_wider}
use Rattle.region_shape.proofs.TextsLemmas.{settled_have_texts_lem}
use Rattle.wave_scheduler.specs.Settled.{Wave, Settled, HasWave, region_in, below}
use Rattle.wave_scheduler.specs.Settled.{LeavesRegion, AreSettled}
use Rattle.wave_scheduler.specs.Wholes.{SettledAreWhole, SettledAreSmall}
use Rattle.wave_scheduler.proofs.SettledLemmas.{same_wave, from_below, below_there}

module _ (P : Tables) (forced : List Bool) (budget : ℕ) (S : Settled) (linked : IsLinked P)
    (from : (c : ℕ) → IsFromFile P c) (are : AreSettled P forced budget S) where
  leaves : (c n : ℕ) (r : Region) → HasWave S c n → region_in S c ≡ Some r → LeavesRegion P budget S c n r
  leaves c n r at has =
      let (none, wave, own, held, is) = are.each c (Wave n) at in
      subst (LeavesRegion P budget S c n) (from_some (sym held ∙ has)) is

  -- at hand below a wave there is none of a class of that wave
  not_yet : (c n : ℕ) → HasWave S c n → below S n c ≡ None
  not_yet c n at = by (below S n c) refl
    where
      by : (o : Option Region) → below S n c ≡ o → o ≡ None
      by None is = refl
      by (Some r) is =
          absurd (let (m, here, less, has) = from_below S n c r is in
          let same = same_wave S c m n here at in omega arith)

  -- what is at hand in a wave is at hand in a later one
  later : (m n d : ℕ) (r : Region) → m ≤ n → below S m d ≡ Some r → below S n d ≡ Some r
  later m n d r more is =
      let (k, at, less, has) = from_below S m d r is in below_there S n d k r at has (omega arith)

  shape_below : (limit n : ℕ) → n ≤ limit → HaveShape P (below S n)
  shape_below zero n small d r is =
      absurd (let (k, at, less, has) = from_below S n d r is in omega arith)
  shape_below (suc limit) n small d r is =
      let (k, at, less, has) = from_below S n d r is in
      let (cost, settles, within) = leaves d k r at has in
      settled_have_shape_lem P linked (below S k) (shape_below limit k (omega arith)) d cost r (from d) settles

  closed_below : (limit n : ℕ) → n ≤ limit → AreClosed (below S n)
  closed_below zero n small d r is =
      absurd (let (k, at, less, has) = from_below S n d r is in omega arith)
  closed_below (suc limit) n small d r is =
      let (k, at, less, has) = from_below S n d r is in
      let (cost, settles, within) = leaves d k r at has in
      names_wider (below S k) (below S n) d r (λ e q here. later k n e q (omega arith) here)
      (settled_name_objects_lem P linked.program (below S k) (closed_below limit k (omega arith)) d cost r
      (not_yet d k at) settles)

  texts_below : (limit n : ℕ) → n ≤ limit → HaveTexts P (below S n)
  texts_below zero n small d r is =
      absurd (let (k, at, less, has) = from_below S n d r is in omega arith)
  texts_below (suc limit) n small d r is =
      let (k, at, less, has) = from_below S n d r is in
      let (cost, settles, within) = leaves d k r at has in
      settled_have_texts_lem P linked.program (below S k) (texts_below limit k (omega arith)) d cost r settles

  all_there : (n d : ℕ) (r : Region) → below S n d ≡ Some r → region_in S d ≡ Some r
  all_there n d r is = (let (m, at, less, has) = from_below S n d r is in has)

  in_wave : (d : ℕ) (r : Region) → region_in S d ≡ Some r → (n : ℕ) × (below S n d ≡ Some r)
  in_wave d r has =
      let (n, at) = are.only d r has in (n + 1, below_there S (n + 1) d n r at has (omega arith))

  whole : AreWhole P (region_in S)
  whole = record {
    shape = λ d r has. let (n, is) = in_wave d r has in shape_below n n (omega arith) d r is;
    closed = λ d r has.
        let (n, is) = in_wave d r has in
        names_wider (below S n) (region_in S) d r (λ e q here. all_there n e q here)
        (closed_below n n (omega arith) d r is);
    texts = λ d r has. let (n, is) = in_wave d r has in texts_below n n (omega arith) d r is;
  }

  small : (c : ℕ) (r : Region) → region_in S c ≡ Some r → IsWithin budget r
  small c r has =
      let (n, at) = are.only c r has in
      let (cost, settles, within) = leaves c n r at has in
      let sizes =
      settled_are_within_lem P linked (below S n) (shape_below n n (omega arith)) c cost r (from c) settles in
      record {
        count = omega (arith, sizes.count, within);
        arrays = λ k o at. omega (arith, sizes.arrays k o at, within);
      }

pub settled_are_small_lem : SettledAreSmall
settled_are_small_lem P forced budget S linked from are = small P forced budget S linked from are

pub settled_are_whole_lem : SettledAreWhole
settled_are_whole_lem P forced budget S linked from are = whole P forced budget S linked from are
