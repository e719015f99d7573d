use Rattle.std.proofs.lemmas.Result.{err_from_is_err_and}
use Rattle.classfile.specs.reading.Members.{member_at}
use Rattle.classfile.proofs.RepeatLemmas.{next_item, item_fails, all_items}
use Rattle.classfile.proofs.member.push_members_at.Goals as goal

pub returns-in_err-member : goal.returns-in_err-member
returns-in_err-member c =
    let p = err_from_is_err_and c.from_residual.result c.from_residual.ensures.1 in
    rw (p.1, p.2) (item_fails (member_at c.args.kind c.args.pool.now c.args.total) c.in_err-member.field-0.0 _ _
    c.loop-index-test.true c.in_err-member.ensures.value c.loop-index.invariant.reads)

pub loop-index-preserved : goal.loop-index-preserved
loop-index-preserved c = record {
  reads = rw (c.in_ok-push.ensures.items, c.in_ok-member.ensures.members)
      (next_item (member_at c.args.kind c.args.pool.now c.args.total) c.loop-index-test.true
      c.in_ok-member.ensures.value
      c.loop-index.invariant.reads);
  finds = rw (c.in_ok-push.ensures.items, c.in_ok-member.ensures.members) c.in_ok-member.ensures.finds;
}

pub returns : goal.returns
returns c = all_items (member_at c.args.kind c.args.pool.now c.args.total) c.loop-index-test.false
    c.loop-index.invariant.reads
