use Rattle.std.proofs.Common.{◌∙◌, List, sym, subst}
use Rattle.use_graph.specs.declared.code.Deed.{Deed}
use Rattle.use_graph.specs.steps.Deeds.{CallsBy}
use Rattle.use_graph.proofs.DeedsLemmas.{calls_by}
use Rattle.use_graph.proofs.CallGraphLemmas.{led_body, leads_of_number}
use Rattle.use_graph.proofs.PartsLemmas.{leading}
use Rattle.use_graph.proofs.call_graph.add_numbered.Goals as goal

pub add_calls-requires : goal.add_calls-requires
add_calls-requires c =
    let P = c.args.program.now in
    let method = c.in-Some.method in record {
      growing = c.requires.growing;
      caller = method;
      from = sym c.in-Some.ensures.value;
      calls = λ e j by. calls_by P method.class method.index e j
          (subst (λ (l : List Deed). CallsBy P l e j) (c.deref.ensures.value ∙ c.in_ok-deeds.ensures) by);
    }

pub returns : goal.returns
returns c =
    let method = c.in-Some.method in
    leading c.in_ok-add_calls.ensures
    (leads_of_number c.args.program.now c.args.numbers.now c.add_calls.new.graph c.args.number method
    (sym c.in-Some.ensures.value)
    (led_body c.args.program.now c.args.numbers.now c.add_calls.new.graph c.args.number method c.deref.result.now
    (c.deref.ensures.value ∙ c.in_ok-deeds.ensures) c.in_ok-add_calls.ensures.leads))
