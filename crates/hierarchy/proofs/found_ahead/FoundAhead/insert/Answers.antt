use Rattle.std.proofs.Common.{Some, cond, ap, ◌∙◌}
use Rattle.hierarchy.specs.steps.FoundAhead.{found_in}
use Rattle.hierarchy.specs.declared.member_key.ClassMember.{ClassMember}
use Rattle.hierarchy.proofs.MemberKeysLemmas.{member_by_order}
use Rattle.hierarchy.proofs.found_ahead.FoundAhead.insert.Goals as goal

pub returns : goal.returns
returns c = λ class key.
    let member : ClassMember = record { class = c.args.class; key = c.args.key } in
    let other : ClassMember = record { class = class; key = key } in
    c.in_ok-insert.ensures.updates.0 other
    ∙ ap (λ b. cond b (Some c.args.member) (found_in c.args.self.now class key)) (member_by_order member other)
