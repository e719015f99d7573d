-- The headline for settled regions.
use Rattle.semantics.proofs.ExactImagesLemmas.{lazy_to_image_lem, image_to_lazy_lem}
use Rattle.machine.proofs.LawsLemmas.{table_is_lawful_lem}
use Rattle.machine.specs.Linked.{program_of}
use Rattle.wave_scheduler.specs.Laws.{SettledShowTheSame}
use Rattle.wave_scheduler.proofs.ExactLemmas.{settled_are_exact_lem}
use Rattle.wave_scheduler.proofs.AnalysisLemmas.{has_analysis_lem}

pub settled_show_the_same_lem : SettledShowTheSame
settled_show_the_same_lem P forced budget S I entries is fits within are image s =
    let (A, analysis, parents) = has_analysis_lem P forced budget is fits within in
    let exact = settled_are_exact_lem P forced budget S A I are analysis image in
    let lawful = table_is_lawful_lem P is in (
      lazy_to_image_lem (program_of P) A I entries lawful parents exact s,
      image_to_lazy_lem (program_of P) A I entries lawful parents exact s,
    )
