use Rattle.std.proofs.Common.{◌∙◌, [], List, ℕ, Option, ap, unwrap_or}
use Rattle.std.proofs.lemmas.Option.{unwrap_or-slice_get}
use Rattle.image_writer.proofs.values.string_of.Goals as goal

pub returns-in-None : goal.returns-in-None
returns-in-None c =
    ap (λ (o : Option (List ℕ)). unwrap_or o []) c.in-None.ensures
    ∙ unwrap_or-slice_get c.args.program.now.strings c.args.number []
