use Rattle.std.proofs.Common.{Option, subst, sym}
use Rattle.use_graph.specs.declared.mark.Evidence.{Evidence}
use Rattle.use_graph.specs.Uses.{Tells}
use Rattle.explain.proofs.marks.shown_mark.Goals as goal

pub returns-in_default : goal.returns-in_default
returns-in_default c = λ mark told.
    subst (λ (o : Option Evidence). Tells c.args.program.now c.args.class mark o) (sym c.in_default.ensures)
    (told c.args.class)

pub path_if-requires-clause-runs : goal.path_if-requires-clause-runs
path_if-requires-clause-runs c =
    let (mark, told) = c.requires.told in
    (subst (λ (o : Option Evidence). Tells c.args.program.now c.args.class mark o) (sym c.in-Some.ensures)
    (told c.args.class)).0

pub returns : goal.returns
returns c = λ mark told. record {
  evidence = subst (λ (o : Option Evidence). Tells c.args.program.now c.args.class mark o) (sym c.in-Some.ensures)
      (told c.args.class);
  path = c.in_ok-path.ensures.path;
  none = c.in_ok-path.ensures.none;
}
