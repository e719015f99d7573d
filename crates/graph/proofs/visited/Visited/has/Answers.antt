use Rattle.std.proofs.Common.{◌≡◌, ◌<◌, ◌≤◌, ℕ, Bool, List, false, get_or, length, arith}
use Rattle.std.proofs.lemmas.Grind.{common_steps}
use Rattle.std.proofs.lemmas.Bool.Decides.{nat_tests}
use Rattle.graph.proofs.FlagsLemmas.{flag_tells}
use Rattle.graph.proofs.visited.Visited.has.Goals as goal

read_flag : (flags : List Bool) (m n : ℕ) (b : Bool) → m < n → n ≡ length flags → b ≡ get_or flags m b
    → b ≡ get_or flags m false
read_flag flags m n b h e read = grind (arith, common_steps)

past_flags : (flags : List Bool) (m n : ℕ) (b : Bool) → n ≤ m → n ≡ length flags → b ≡ false → b ≡ get_or flags m false
past_flags flags m n b h e f = grind (arith, common_steps)

pub returns-then-member-len : goal.returns-then-member-len
returns-then-member-len c =
    flag_tells c.self.inside.flags.items c.args.self.now c.self.inside.order.items c.args.member c.index.result.now
    c.self.view_is c.self.invariant
    (read_flag c.self.inside.flags.items c.args.member c.len.result c.index.result.now c.if-member-len.true
    (omega (arith, c.len.ensures)) c.index.ensures)

pub returns-else-member-len : goal.returns-else-member-len
returns-else-member-len c =
    flag_tells c.self.inside.flags.items c.args.self.now c.self.inside.order.items c.args.member _ c.self.view_is
    c.self.invariant
    (past_flags c.self.inside.flags.items c.args.member c.len.result _ c.if-member-len.false
    (omega (arith, c.len.ensures)) (grind (arith, nat_tests)))
