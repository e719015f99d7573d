use Rattle.std.proofs.Common.{◌≡◌, ◌∙◌, length, ap}
use Rattle.loading.specs.Families.{Family}
use Rattle.program.specs.Tables.{Tables}
use Rattle.program.proofs.CountsLemmas.{classes_counted}
use Rattle.program.proofs.linked_program.Program.given_count.Goals as goal

pub returns-clause-value : goal.returns-clause-value
returns-clause-value c =
    ap (λ (family : Family). length family)
    (c.classes.ensures.value ∙ c.family.ensures ∙ ap (λ (P : Tables). P.family) c.self.view_is)
    ∙ classes_counted c.args.self.now c.classes-classes.ensures.fits
