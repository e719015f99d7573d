-- What holds of an image that is built holds of one that is read of its text.
use Rattle.std.proofs.Common.{◌≡◌, ◌∙◌, inl, inr, ℕ, List, Option, is_some, sym, ap, subst}
use Rattle.semantics.specs.Images.{Image as Start, image_start}
use Rattle.semantics.specs.Quiet.{Environment}
use Rattle.semantics.specs.Settling.{constant_region}
use Rattle.semantics.specs.Worlds.{World}
use Rattle.program.specs.Tables.{Tables}
use Rattle.region_shape.specs.Regions.{environment_of}
use Rattle.machine.specs.Linked.{program_of}
use Rattle.wave_scheduler.specs.Settled.{region_in}
use Rattle.object_graph.specs.Cuts.{IsCutOf}
use Rattle.object_graph.specs.Images.{ImageTables, region_or, start_image}
use Rattle.image_format.specs.Images.{SomeText}
use Rattle.image_writer.specs.ImageTexts.{told_of}
use Rattle.image_reader.specs.Readings.{IsOfOwnStrings, IsSameImage}
use Rattle.image_reader.specs.Starts.{IsImageStart}
use Rattle.cli.specs.Headline.{BothStart, NeitherStarts, TakesTheSameEntries}
use Rattle.cli.specs.ImageBuilds.{IsImageOf, IsReadAsBuilt}

module _ (I J : ImageTables) (same : IsSameImage I J) where
  -- the regions of the one, over the program of the other
  abbrev between : ImageTables
  between = record { program = J.program; regions = I.regions }

  abbrev start_of : Environment → Start
  start_of env = record {
    holds = λ c. is_some (env c);
    region = λ c. region_or (constant_region (program_of J.program) c) (env c);
  }

  starts : start_image J ≡ start_image between
  starts = ap start_of same.regions

  abbrev world : List ℕ → Start → World
  world classes start = image_start (program_of J.program) start classes

  back : (names : List (List ℕ)) (w : World) → IsImageStart J names w → IsImageStart between names w
  back names w is = record {
    classes = is.classes;
    entries = is.entries;
    start = is.start ∙ ap (world is.classes) starts;
  }

  there : (names : List (List ℕ)) (w : World) → IsImageStart between names w → IsImageStart J names w
  there names w is = record {
    classes = is.classes;
    entries = is.entries;
    start = is.start ∙ sym (ap (world is.classes) starts);
  }

  both_start : (names : List (List ℕ)) → BothStart between names → BothStart J names
  both_start names both = record {
    lazy = both.lazy;
    image = both.image;
    lazily = both.lazily;
    from_image = λ w.
        (λ is. (both.from_image w).0 (back names w is), λ is. there names w ((both.from_image w).1 is));
    no_fault = both.no_fault;
  }

  neither_starts : (names : List (List ℕ)) → NeitherStarts between names → NeitherStarts J names
  neither_starts names neither = record {
    fault = neither.fault;
    one_fault = neither.one_fault;
    lazily = neither.lazily;
    from_image = λ w is. neither.from_image w (back names w is);
  }

  same_entries : TakesTheSameEntries between → TakesTheSameEntries J
  same_entries takes names = elim (takes names) [
    | inl both ↦ inl (both_start names both)
    | inr neither ↦ inr (neither_starts names neither)
  ]

  cut_again : (whole : Environment) → IsCutOf J.program whole (environment_of I.regions)
      → IsCutOf J.program whole (environment_of J.regions)
  cut_again whole cut = subst (IsCutOf J.program whole) (sym same.regions) cut

  module _ (texts : List (List ℕ)) (run_time build_time : Option (List ℕ)) (budget : ℕ) where
    of_same : IsImageOf texts run_time build_time budget between → IsImageOf texts run_time build_time budget J
    of_same of = record {
      program = of.program;
      outcomes = of.outcomes;
      built = record {
        settled = of.built.settled;
        by = of.built.by;
        cut = cut_again (region_in of.built.settled) of.built.cut;
        told = of.built.told;
      };
      exact = record {
        forced = of.exact.forced;
        are = of.exact.are;
        analysis = of.exact.analysis;
        is = of.exact.is;
        whole = of.exact.whole;
        exactly = of.exact.exactly;
        cut = cut_again of.exact.whole of.exact.cut;
      };
      shows = record {
        to_image = λ names lazy image s first second.
            of.shows.to_image names lazy image s first (back names image second);
        to_class_files = λ names lazy image s first second.
            of.shows.to_class_files names lazy image s first (back names image second);
      };
      entries = same_entries of.entries;
    }

    -- an image that is the same is built as well
    pub read_back : IsImageOf texts run_time build_time budget I → IsImageOf texts run_time build_time budget J
    read_back of =
        of_same (subst
        (λ (P : Tables). IsImageOf texts run_time build_time budget (record { program = P; regions = I.regions }))
        (sym same.program) of)

-- bytes that are read as the image whose text they are
pub read_as_built : (bytes : List ℕ) (J : ImageTables)
    → ((I : ImageTables) → IsOfOwnStrings I → SomeText bytes I.program.family (told_of I) → IsSameImage I J)
    → IsReadAsBuilt bytes J
read_as_built bytes J same texts run_time build_time budget is =
    read_back is.image J (same is.image is.own_strings (inl is.text)) texts run_time build_time budget is.of
