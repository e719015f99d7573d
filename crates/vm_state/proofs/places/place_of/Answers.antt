use Rattle.std.proofs.Common.{◌≡◌, ◌<◌, ◌≤◌, ◌-◌, ◌+◌, inl, inr, rules, arith}
use Rattle.vm_state.proofs.KeptLemmas.{below_or_not, get_before, get_after}
use Rattle.vm_state.proofs.places.place_of.Goals as goal

pub returns-then-number-plain-clause-before : goal.returns-then-number-plain-clause-before
returns-then-number-plain-clause-before c i d h =
    let inside : c.args.number < c.args.plain = search rules in
    let is = get_before c.args.plain i d c.args.later.now (omega (arith, h, inside)) in
    omega (arith, h, is)

pub returns-then-number-plain-clause-after : goal.returns-then-number-plain-clause-after
returns-then-number-plain-clause-after c d h =
    let inside : c.args.number < c.args.plain = search rules in
    let is = get_before c.args.plain c.args.number d c.args.later.now inside in
    omega (arith, is)

pub returns-else-number-plain-clause-before : goal.returns-else-number-plain-clause-before
returns-else-number-plain-clause-before c i d h =
    let outside : c.args.plain ≤ c.args.number = search rules in
    elim (below_or_not i c.args.plain) [
      | inl first ↦ let is = get_before c.args.plain i d c.args.later.now first in omega (arith, is, first, outside)
      | inr later ↦
          let is = get_after c.args.plain i d c.args.later.now later in
          let below = c.place_in.ensures.before (i - c.args.plain) d (omega (arith, h, later)) in
          omega (arith, is, below)
    ]

pub returns-else-number-plain-clause-after : goal.returns-else-number-plain-clause-after
returns-else-number-plain-clause-after c d h =
    let place = c.args.plain + c.place_in.result in
    let is = get_after c.args.plain place d c.args.later.now (omega arith) in
    let there : place - c.args.plain ≡ c.place_in.result = omega arith in
    let above = c.place_in.ensures.after d (omega (arith, h)) in
    rw (is, there) above
