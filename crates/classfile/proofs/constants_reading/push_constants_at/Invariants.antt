use Rattle.std.proofs.Common.{◌≡◌, ◌-◌, false}
use Rattle.classfile.specs.reading.Constants.{is_after_wide, with_front, constants_from}
use Rattle.classfile.proofs.constants_reading.push_constants_at.Given as goal

abbrev pub invariant-loop-index : goal.invariant-loop-index
invariant-loop-index l =
    with_front l.constants.items
    (constants_from (l.count - l.index) (is_after_wide l.before) l.total l.count l.index l.rest)
    ≡ with_front l.fn.constants.items (constants_from (l.count - 1) false l.total l.count 1 l.bytes)
