use Rattle.hierarchy.proofs.WindowsLemmas.{notes_there}
use Rattle.hierarchy.proofs.windows.note_class.Goals as goal

pub returns-then-class-own-clause-notes : goal.returns-then-class-own-clause-notes
returns-then-class-own-clause-notes c =
    notes_there c.args.own.now c.args.class c.args.here c.args.same c.if-class-own.true
