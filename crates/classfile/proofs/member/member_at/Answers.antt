use Rattle.std.proofs.Common.{List, ℕ, rules}
use Rattle.std.specs.Borrow.{Bor}
use Rattle.classfile.proofs.EarlierMemberLemmas.{named_member}
use Rattle.classfile.proofs.ReadInPairsLemmas.{member_in_parts}
use Rattle.classfile.proofs.member.member_at.Goals as goal

pub is_declared-requires-clause-name : goal.is_declared-requires-clause-name
is_declared-requires-clause-name c = rw c.as_slice.ensures c.in_ok-name.ensures.texts.0

pub is_declared-requires-clause-descriptor : goal.is_declared-requires-clause-descriptor
is_declared-requires-clause-descriptor c = rw c.as_slice.ensures c.in_ok-name.ensures.texts.1

pub returns-clause-finds : goal.returns-clause-finds
returns-clause-finds c =
    named_member (λ (rest : Bor (List ℕ)). rest.now) c.member_body_at.result c.args.kind c.as_slice-2.result.now
    c.args.total _ _ _ _ _ _ c.member_body_at.ensures (rw c.as_slice.ensures at c.in_ok-is_declared.ensures.finds)

pub returns-in_err-access_flags-clause-value : goal.returns-in_err-access_flags-clause-value
returns-in_err-access_flags-clause-value c =
    rw (member_in_parts c.args.kind c.args.pool.now c.args.total c.args.earlier.now.members.items c.args.bytes.now)
    (search rules)

pub returns-in_err-name-clause-value : goal.returns-in_err-name-clause-value
returns-in_err-name-clause-value c =
    rw (member_in_parts c.args.kind c.args.pool.now c.args.total c.args.earlier.now.members.items c.args.bytes.now)
    (search rules)

pub returns-then-branch-clause-value : goal.returns-then-branch-clause-value
returns-then-branch-clause-value c =
    rw (member_in_parts c.args.kind c.args.pool.now c.args.total c.args.earlier.now.members.items c.args.bytes.now)
    (search rules)

pub returns-clause-value : goal.returns-clause-value
returns-clause-value c =
    rw (member_in_parts c.args.kind c.args.pool.now c.args.total c.args.earlier.now.members.items c.args.bytes.now)
    (search rules)
