use Rattle.std.proofs.Common.{◌≡◌, ℕ, subst, arith}
use Rattle.use_graph.proofs.OthersLemmas.{Others, others_next}
use Rattle.use_graph.proofs.search.add_others.Goals as goal

pub loop-other-preserved : goal.loop-other-preserved
loop-other-preserved c =
    others_next c.args.used.now.items c.args.class c.loop-other.other c.loop-other.classes.items
    c.add_other.new.classes.items c.loop-other.invariant c.in_ok-add_other.ensures

pub returns-clause-members : goal.returns-clause-members
returns-clause-members c =
    let end : c.loop-other.other ≡ c.args.limit = omega (arith, c.loop-other-test.false, c.loop-other.auto.other-end) in
    (subst (λ (n : ℕ). Others c.args.used.now.items c.args.class n c.loop-other.classes.items) end
    c.loop-other.invariant).members
