use Rattle.classfile.proofs.Utf8Lemmas.{inserted_is_found}
use Rattle.classfile.proofs.earlier.note_first.Goals as goal

pub returns-clause-after : goal.returns-clause-after
returns-clause-after c =
    inserted_is_found c.args.by_utf8.now c.insert.new.self c.args.hash c.args.text c.args.index c.requires.hash
    c.requires.none
    c.in_ok-insert.ensures.updates
