use Rattle.std.proofs.Common.{◌↔◌, IsTrue, sym, subst}
use Rattle.use_graph.specs.declared.callee.Callee.{Callee}
use Rattle.use_graph.specs.Code.{MayRunFor}
use Rattle.explain.proofs.calls.may_run_for.Goals as goal

pub returns-in-Selected : goal.returns-in-Selected
returns-in-Selected c =
    subst (λ (x : Callee). IsTrue c.is_selected.result
    ↔ MayRunFor c.args.program.now x c.args.method.class c.args.method.index) (sym c.in-Selected.is)
    c.is_selected.ensures
