use Rattle.std.proofs.lemmas.Result.{err_from_is_err_and}
use Rattle.image_parser.specs.reading.Objects.{elements_at}
use Rattle.image_parser.proofs.objects.elements_at.Goals as goal

pub returns-in_err-rest : goal.returns-in_err-rest
unfolding elements_at
returns-in_err-rest c =
    let p = err_from_is_err_and c.from_residual-in_err-rest.result c.from_residual-in_err-rest.ensures.1 in
    rw (p.1, p.2, ← c.kind_of_elements-kind.ensures) c.in_err-rest.ensures
