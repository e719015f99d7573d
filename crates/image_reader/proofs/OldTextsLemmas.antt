-- What is told of regions that are cut is what is told of the whole ones, without the objects that are not reached.
use Rattle.std.proofs.Common.{◌≡◌, ◌∙◌, inl, inr, ℕ, zero, suc, ◌+◌, ◌<◌, ◌≤◌, Bool, true, false, List, [], ◌∷◌, ◌++◌}
use Rattle.std.proofs.Common.{length, map, Option, Some, None, option_map, refl, sym, ap, ap₂, arith}
use Rattle.std.specs.List.{filter, range_with_len}
use Rattle.std.proofs.lemmas.List.Elements.{filter-append}
use Rattle.vm_state.specs.declared.object.Object.{Object}
use Rattle.vm_state.specs.SharedState.{Region}
use Rattle.vm_state.proofs.ListLemmas.{tested}
use Rattle.semantics.specs.Quiet.{Environment}
use Rattle.program.specs.Programs.{IsProgram}
use Rattle.program.specs.Tables.{Tables, statics_in}
use Rattle.region_shape.specs.Wholes.{AreWhole}
use Rattle.region_shape.specs.declared.regions.Region.{Region as Held}
use Rattle.region_shape.specs.Regions.{environment_of}
use Rattle.object_graph.specs.declared.name_set.ObjectName.{ObjectName}
use Rattle.object_graph.specs.Cuts.{IsCutAt, IsCutOf, IsCutRegion}
use Rattle.object_graph.specs.Images.{AreSmall, ImageTables}
use Rattle.object_graph.specs.Reached.{IsReached}
use Rattle.image_format.specs.Regions.{ImageRegion, KeptObject}
use Rattle.image_format.specs.declared.version.Version.TheVariants as versions
use Rattle.image_format.specs.Images.{OldText, VersionText}
use Rattle.image_format.specs.Reached.{IsDropped, kept_from, kept_in}
use Rattle.image_format.specs.Told.{told_fields, told_if, told_objects, told_region, told_regions}
use Rattle.image_format.proofs.DroppedLemmas.{keeps_of, keeps_reached}
use Rattle.image_format.proofs.RowsLemmas.{told_from}
use Rattle.image_writer.specs.ImageTexts.{told_of}
use Rattle.object_graph.proofs.ProgramsLemmas.{class_count}
use Rattle.object_graph.proofs.ToldReachedLemmas.{reached_told, reached_again}

module _ (P : Tables) (whole part : Environment)
    (no_more : (c : ℕ) (r : Region) → whole c ≡ Some r → (n : ℕ) → r.pool.count ≤ n → r.pool.at n ≡ None)
    (within : (c : ℕ) (r : Region) → whole c ≡ Some r → c < length P.family) (cut : IsCutOf P whole part) where
  abbrev all : List (Option ImageRegion)
  all = told_regions P whole

  abbrev keeps : ℕ → ℕ → Bool
  keeps = keeps_of all

  abbrev name : ℕ → ℕ → ObjectName
  name c n = record { class = c; number = n }

  kept_reached : (c n : ℕ) → keeps c n ≡ true → IsReached P whole (name c n)
  kept_reached c n kept = reached_again P whole no_more within c n ((keeps_reached all c n).0 kept)

  reached_kept : (c n : ℕ) → IsReached P whole (name c n) → keeps c n ≡ true
  reached_kept c n reached = (keeps_reached all c n).1 (reached_told P whole no_more within (name c n) reached)

  -- ---- the objects of a class

  module _ (c : ℕ) (w r : Region) (is : IsCutRegion (IsReached P whole) c w r) where
    abbrev left : List KeptObject → List KeptObject
    left = filter (λ (kept : KeptObject). keeps c kept.number)

    one_left : (n : ℕ) → told_if P.strings n (r.pool.at n) ≡ left (told_if P.strings n (w.pool.at n))
    one_left n = elim (tested (keeps c n)) [
      | inl kept ↦ ap (told_if P.strings n) (is.kept n (kept_reached c n kept)) ∙ stays (w.pool.at n) kept
      | inr other ↦ ap (told_if P.strings n) (gone (r.pool.at n) refl other) ∙ goes (w.pool.at n) other
    ]
      where
        stays : (o : Option Object) → keeps c n ≡ true → told_if P.strings n o ≡ left (told_if P.strings n o)
        stays None kept = refl
        stays (Some o) kept = rw kept refl

        gone : (o : Option Object) → r.pool.at n ≡ o → keeps c n ≡ false → r.pool.at n ≡ None
        gone None at other = at
        gone (Some o) at other =
            let kept : keeps c n ≡ true = reached_kept c n (is.only n o at) in
            absurd (let clash : false ≡ true = sym other ∙ kept in cc)

        goes : (o : Option Object) → keeps c n ≡ false → [] ≡ left (told_if P.strings n o)
        goes None other = refl
        goes (Some o) other = rw other refl

    from_left : (low k : ℕ) → told_from P.strings r.pool.at low k ≡ left (told_from P.strings w.pool.at low k)
    from_left low zero = refl
    from_left low (suc k) =
        ap₂ (λ (xs ys : List KeptObject). xs ++ ys) (one_left low) (from_left (low + 1) k)
        ∙ sym (filter-append (λ (kept : KeptObject). keeps c kept.number) (told_if P.strings low (w.pool.at low))
        (told_from P.strings w.pool.at (low + 1) k))

    region_left : told_region P c r ≡ kept_in (keeps c) (told_region P c w)
    region_left = λ i. record {
      count = is.count i;
      statics = told_fields P.strings (is.fields i) (length (statics_in P c));
      objects = objects i;
    }
      where
        objects : told_objects P.strings r.pool ≡ left (told_objects P.strings w.pool)
        objects =
            ap (told_from P.strings r.pool.at 0) is.count ∙ from_left 0 w.pool.count

  -- ---- all classes

  class_left : (c : ℕ)
      → option_map (told_region P c) (part c) ≡ option_map (kept_in (keeps c)) (option_map (told_region P c) (whole c))
  class_left c = by (whole c) (part c) (cut c)
    where
      by : (w r : Option Region) → IsCutAt (IsReached P whole) c w r
          → option_map (told_region P c) r ≡ option_map (kept_in (keeps c)) (option_map (told_region P c) w)
      by None None is = refl
      by None (Some r) is = absurd is
      by (Some w) None is = absurd is
      by (Some w) (Some r) is = ap Some (region_left c w r is)

  classes_left : (low k : ℕ)
      → map (λ c. option_map (told_region P c) (part c)) (range_with_len low k)
      ≡ kept_from keeps low (map (λ c. option_map (told_region P c) (whole c)) (range_with_len low k))
  classes_left low zero = refl
  classes_left low (suc k) =
      ap₂ (λ (x : Option ImageRegion) (xs : List (Option ImageRegion)). x ∷ xs) (class_left low)
      (classes_left (low + 1) k)

  pub regions_dropped : IsDropped all (told_regions P part)
  regions_dropped = record {
    keeps = keeps;
    reached = keeps_reached all;
    is = classes_left 0 (length P.family);
  }

-- a region that is whole is one of a class that the cut ones are of
cut_there : (P : Tables) (whole part : Environment) → IsCutOf P whole part → (n : ℕ)
    → ((c : ℕ) (r : Region) → part c ≡ Some r → c < n) → (c : ℕ) (r : Region) → whole c ≡ Some r → c < n
cut_there P whole part cut n below c r here = by (whole c) (part c) refl here (cut c)
  where
    by : (w p : Option Region) → part c ≡ p → w ≡ Some r → IsCutAt (IsReached P whole) c w p → c < n
    by None p at some is = absurd cc
    by (Some w) None at some is = absurd is
    by (Some w) (Some q) at some is = below c q at

pub old_text : (I : ImageTables) (whole : List (Option Held)) (bytes : List ℕ) → IsProgram I.program
    → AreWhole I.program (environment_of whole) → AreSmall I.program (environment_of I.regions)
    → IsCutOf I.program (environment_of whole) (environment_of I.regions)
    → VersionText versions.One bytes I.program.family (told_of (record { program = I.program; regions = whole }))
    → OldText bytes I.program.family (told_of I)
old_text I whole bytes program shape small cut text =
    let P = I.program in
    let env = environment_of whole in
    let part = environment_of I.regions in
    let low : (c : ℕ) (r : Region) → part c ≡ Some r → c < length P.family =
    λ c r here. omega (arith, small.classes c r here, class_count P program) in
    record {
      all = told_regions P env;
      text = text;
      dropped = regions_dropped P env part (λ c r here. (shape.shape c r here).no_more)
          (cut_there P env part cut (length P.family) low) cut;
    }
