use Rattle.std.proofs.Common.{◌≡◌, Some, None, cond, ap, ◌∙◌, rules}
use Rattle.std.specs.BTreeMap.{get}
use Rattle.hierarchy.specs.steps.MemberKeys.{key_order}
use Rattle.hierarchy.specs.steps.Reaches.{number_in}
use Rattle.hierarchy.specs.declared.member_key.MemberKey.{MemberKey}
use Rattle.hierarchy.proofs.MemberKeysLemmas.{key_by_order}
use Rattle.hierarchy.proofs.ReachTableLemmas.{rows_kept, numbers_within, numbers_apart}
use Rattle.hierarchy.proofs.reach_table.ReachTable.number_of.Goals as goal

pub returns-clause-table : goal.returns-clause-table
returns-clause-table c =
    let find = number_in c.args.self.now in
    let after = λ (q : MemberKey). get key_order c.insert.new.self q in
    let rows = c.args.self.now.rows.items in
    let none : find c.args.key ≡ None = search rules in
    let updates = λ (q : MemberKey). c.in_ok-insert.ensures.updates.0 q
    ∙ ap (λ b. cond b (Some c.len-number.result) (find q)) (key_by_order c.args.key q) in
    record {
      within = numbers_within find after rows c.push.new.self.items c.args.key c.new.result none
          (search (rules, updates)) c.in_ok-push.ensures.items c.requires.within;
      apart = numbers_apart find after rows c.push.new.self.items c.args.key c.new.result none
          (search (rules, updates)) c.in_ok-push.ensures.items c.requires.within c.requires.apart;
    }

pub returns-clause-kept : goal.returns-clause-kept
returns-clause-kept c =
    let find = number_in c.args.self.now in
    let after = λ (q : MemberKey). get key_order c.insert.new.self q in
    let none : find c.args.key ≡ None = search rules in
    let updates = λ (q : MemberKey). c.in_ok-insert.ensures.updates.0 q
    ∙ ap (λ b. cond b (Some c.len-number.result) (find q)) (key_by_order c.args.key q) in
    rows_kept find after c.args.self.now.rows.items c.push.new.self.items c.args.key c.new.result none
    (search (rules, updates)) c.in_ok-push.ensures.items c.requires.within c.new.ensures.items
