use Rattle.std.proofs.Common.{ap, sym, ◌∙◌}
use Rattle.loading.specs.Names.{text_at}
use Rattle.loading.proofs.FoundNamesLemmas.{named_there, nothing_there}
use Rattle.loading.proofs.parents.name_index_at.Goals as goal

pub returns-in-Some : goal.returns-in-Some
returns-in-Some c =
    let there = c.in-Some.ensures.lookup in
    named_there c.args.file.now c.constants.result.now c.from.result c.args.index c.in-Some.constant.now
    c.constants.ensures.fits c.constants.ensures.value c.from.ensures there.3.0 there.1
    ∙ ap (text_at c.args.file.now) (sym c.name_index.ensures)

pub returns-in-None : goal.returns-in-None
returns-in-None c =
    nothing_there c.args.file.now c.constants.result.now c.from.result c.args.index c.constants.ensures.fits
    c.constants.ensures.value c.from.ensures c.in-None.ensures.lookup.3
