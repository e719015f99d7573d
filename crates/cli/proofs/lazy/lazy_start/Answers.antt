use Rattle.std.proofs.lemmas.Result.{IfErr-weaker}
use Rattle.cli.specs.Runs.{texts_of}
use Rattle.cli.specs.declared.lazy.LazyStart.{LazyStart}
use Rattle.cli.proofs.BeginsLemmas.{program_kept}
use Rattle.cli.proofs.RefusalLemmas.{refused_entries, refused_texts}
use Rattle.cli.proofs.lazy.lazy_start.Goals as goal

pub returns-in-Ok-clause-program : goal.returns-in-Ok-clause-program
returns-in-Ok-clause-program c =
    program_kept (λ (s : LazyStart). s.program) (texts_of c.args.files.now) c.in-Ok.program c.started.result
    c.in-Ok.ensures.program c.started.ensures.program

pub returns-in-Ok-clause-refusal : goal.returns-in-Ok-clause-refusal
returns-in-Ok-clause-refusal c =
    IfErr-weaker c.started.result _ _
    (λ r wrong. refused_entries (texts_of c.args.files.now) c.args.entries.now c.in-Ok.program r c.requires
    c.in-Ok.ensures.program wrong) c.started.ensures.refusal

pub returns-in-Err-clause-refusal : goal.returns-in-Err-clause-refusal
returns-in-Err-clause-refusal c =
    refused_texts (texts_of c.args.files.now) c.args.entries.now c.in-Err.refusal c.requires
    c.in-Err.ensures.refusal
