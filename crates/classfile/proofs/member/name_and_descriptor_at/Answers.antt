use Rattle.classfile.proofs.EarlierMemberLemmas.{utf8_index_has_utf8, descriptor_has_utf8}
use Rattle.classfile.proofs.member.name_and_descriptor_at.Goals as goal

pub returns-clause-texts : goal.returns-clause-texts
returns-clause-texts c = (
  utf8_index_has_utf8 c.args.pool.now c.args.total c.args.bytes.now c.in_ok-name.name c.in_ok-name.rest.now
      (rw c.as_slice.ensures at c.in_ok-name.ensures),
  descriptor_has_utf8 c.args.kind c.args.pool.now c.args.total c.in_ok-name.rest.now c.in_ok-descriptor.descriptor
      c.in_ok-descriptor.rest.now c.in_ok-descriptor.ensures,
)
