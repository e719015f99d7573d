use Rattle.std.proofs.Common.{◌↔◌, ℕ}
use Rattle.std.specs.List.{Contains}
use Rattle.std.proofs.lemmas.Result.{IfOk-weaker}
use Rattle.use_graph.specs.Uses.{IsUse}
use Rattle.use_graph.proofs.SearchingLemmas.{are_used_by}
use Rattle.use_graph.proofs.search.used_by.Goals as goal

pub returns-in-Ok-clause-members : goal.returns-in-Ok-clause-members
returns-in-Ok-clause-members c =
    IfOk-weaker c.others.result _ (λ classes. (e : ℕ) → Contains classes.items e
    ↔ IsUse c.args.program.now c.args.class e)
    (λ classes members. are_used_by c.args.program.now c.args.graph.now c.args.class c.args.reached.now.items
    c.requires.graph c.requires.reached c.given_count-limit.result c.add_all_used.new.used.items classes.items
    c.given_count-limit.ensures.value c.in-Ok.ensures members) c.others.ensures.members
