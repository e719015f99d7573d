use Rattle.std.proofs.Common.{◌≡◌, ℕ, List, length, sym, subst, arith}
use Rattle.initializer_analysis.specs.declared.labels.Least.{Least}
use Rattle.initializer_analysis.specs.steps.Cycles.{HaveMembers}
use Rattle.initializer_analysis.proofs.CyclesLemmas.{members_none, members_more}
use Rattle.initializer_analysis.proofs.cycles.add_members.Goals as goal

pub loop-class-init : goal.loop-class-init
loop-class-init c =
    let numbers = c.args.components.now.numbers in
    subst (λ (table : List Least). HaveMembers c.args.uses.now numbers 0 table) (sym c.requires.none)
    (members_none c.args.uses.now numbers (length numbers))

pub add_member-requires-clause-few : goal.add_member-requires-clause-few
add_member-requires-clause-few c = c.requires.vertices.few

pub add_member-requires-clause-vertex : goal.add_member-requires-clause-vertex
add_member-requires-clause-vertex c = omega (arith, c.requires.vertices.vertices, c.loop-class-test.true)

pub loop-class-preserved : goal.loop-class-preserved
loop-class-preserved c =
    members_more c.args.uses.now c.args.components.now.numbers c.loop-class.class c.loop-class.table
    c.add_member.new.table c.loop-class.invariant c.add_member.ensures

pub returns : goal.returns
returns c =
    let end : c.loop-class.class ≡ c.args.limit = omega arith in
    subst (λ (n : ℕ). HaveMembers c.args.uses.now c.args.components.now.numbers n c.loop-class.table) end
    c.loop-class.invariant
