use Rattle.program.specs.RuntimePool.{IsRuntimeConstant}
use Rattle.program.proofs.runtime_pool.is_unnamed.Goals as goal

pub returns-in-Utf8 : goal.returns-in-Utf8
returns-in-Utf8 c = λ same family strings f index. rw c.in-Utf8.is IsRuntimeConstant.utf8

pub returns-in-NameAndType : goal.returns-in-NameAndType
returns-in-NameAndType c = λ same family strings f index. rw c.in-NameAndType.is IsRuntimeConstant.name_and_type

pub returns-in-Unusable : goal.returns-in-Unusable
returns-in-Unusable c = λ same family strings f index. rw c.in-Unusable.is IsRuntimeConstant.unusable
