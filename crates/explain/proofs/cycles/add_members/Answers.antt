use Rattle.std.proofs.Common.{◌≡◌, ℕ, subst, arith}
use Rattle.explain.specs.steps.Pairs.{HavePairs}
use Rattle.explain.proofs.CyclesLemmas.{have_none}
use Rattle.explain.proofs.cycles.add_members.Goals as goal

pub loop-class-init : goal.loop-class-init
loop-class-init c =
    have_none c.args.uses.now c.args.components.now.numbers c.args.firsts.now c.args.seconds.now c.requires.none
    c.requires.also

pub add_member-requires-clause-few : goal.add_member-requires-clause-few
add_member-requires-clause-few c = c.requires.vertices.few

pub add_member-requires-clause-vertex : goal.add_member-requires-clause-vertex
add_member-requires-clause-vertex c = omega (arith, c.requires.vertices.vertices, c.loop-class-test.true)

pub returns : goal.returns
returns c =
    let end : c.loop-class.class ≡ c.args.limit = omega arith in
    subst (λ (n : ℕ). HavePairs c.args.uses.now c.args.components.now.numbers n c.loop-class.firsts
    c.loop-class.seconds) end c.loop-class.invariant
