-- The headline of what is built, by the names of entries: from the numbers of their classes.
use Rattle.std.proofs.Common.{◌≡◌, ◌∙◌, ◌⊎◌, inl, inr, ℕ, List, sym, ap, subst}
use Rattle.semantics.specs.Images.{image_start}
use Rattle.semantics.specs.Worlds.{Observation, Shows, World, lazy_start}
use Rattle.loading.specs.Families.{IsFamily}
use Rattle.machine.specs.Linked.{program_of}
use Rattle.object_graph.specs.Images.{ImageTables, start_image}
use Rattle.init_engine.specs.declared.fault.EntryFault.{EntryFault}
use Rattle.init_engine.specs.Starts.{EntriesFail, IsStart, StandForEntries}
use Rattle.init_engine.proofs.EntryLemmas.{one_list}
use Rattle.image_reader.specs.Starts.{IsImageStart}
use Rattle.building.specs.Builds.{StartsShowTheSame}
use Rattle.cli.specs.Headline.{BothStart, ClassFilesToImage, ImageToClassFiles, NeitherStarts, TakesTheSameEntries}
use Rattle.cli.proofs.EntriesLemmas.{never_both, one_fault, stands_or_fails}

-- ---- what shows

module _ (I : ImageTables) (fits : IsFamily I.program.family) (names : List (List ℕ)) (lazy image : World)
    (start : IsStart I.program names lazy) (from : IsImageStart I names image) where
  -- the image's start is that of the classes of the lazy start
  image_is : image ≡ image_start (program_of I.program) (start_image I) start.classes
  image_is =
      from.start
      ∙ ap (λ (cs : List ℕ). image_start (program_of I.program) (start_image I) cs)
      (one_list I.program fits names from.classes start.classes from.entries start.entries)

  abbrev Sees : Observation → World → Type 0
  Sees s w = Shows (program_of I.program) w s

  module _ (shows : StartsShowTheSame I) (s : Observation) where
    there : Shows (program_of I.program) lazy s → Shows (program_of I.program) image s
    there shown = subst (Sees s) (sym image_is) ((shows start.classes s).0 (subst (Sees s) start.start shown))

    back : Shows (program_of I.program) image s → Shows (program_of I.program) lazy s
    back shown = subst (Sees s) (sym start.start) ((shows start.classes s).1 (subst (Sees s) image_is shown))

module _ (I : ImageTables) (fits : IsFamily I.program.family) (shows : StartsShowTheSame I) where
  pub shows_image : ClassFilesToImage I
  shows_image = λ names lazy image s start from. there I fits names lazy image start from shows s

  pub shows_class_files : ImageToClassFiles I
  shows_class_files = λ names lazy image s start from. back I fits names lazy image start from shows s

-- ---- entries

module _ (I : ImageTables) (fits : IsFamily I.program.family) (names : List (List ℕ)) where
  both : (cs : List ℕ) → StandForEntries I.program names cs → BothStart I names
  both cs stand = record {
    lazy = lazy_start (program_of I.program) cs;
    image = image_start (program_of I.program) (start_image I) cs;
    lazily = λ w. (
      λ start. start.start
          ∙ ap (λ (ds : List ℕ). lazy_start (program_of I.program) ds)
          (one_list I.program fits names start.classes cs start.entries stand),
      λ is. record { classes = cs; entries = stand; start = is },
    );
    from_image = λ w. (
      λ start. start.start
          ∙ ap (λ (ds : List ℕ). image_start (program_of I.program) (start_image I) ds)
          (one_list I.program fits names start.classes cs start.entries stand),
      λ is. record { classes = cs; entries = stand; start = is },
    );
    no_fault = λ fault fails. never_both I.program fits names stand fails;
  }

  neither : (fault : EntryFault) → EntriesFail I.program names fault → NeitherStarts I names
  neither fault fails = record {
    fault = fault;
    one_fault = λ other. (
      λ also. one_fault I.program fits names also fails,
      λ is. subst (λ (f : EntryFault). EntriesFail I.program names f) (sym is) fails,
    );
    lazily = λ w start. never_both I.program fits names start.entries fails;
    from_image = λ w start. never_both I.program fits names start.entries fails;
  }

  alike : BothStart I names ⊎ NeitherStarts I names
  alike = elim (stands_or_fails I.program fits names) [
    | inl stand ↦ inl (both stand.0 stand.1)
    | inr wrong ↦ inr (neither wrong.0 wrong.1)
  ]

pub entries_alike : (I : ImageTables) → IsFamily I.program.family → TakesTheSameEntries I
entries_alike I fits = λ names. alike I fits names
