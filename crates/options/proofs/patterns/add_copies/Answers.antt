use Rattle.std.proofs.Common.{map}
use Rattle.std.specs.String.{string_bytes}
use Rattle.options.proofs.ListLemmas.{copied_more}
use Rattle.options.proofs.patterns.add_copies.Goals as goal

pub loop-item-preserved : goal.loop-item-preserved
loop-item-preserved c =
    copied_more c.args.items.now c.loop-item.item-index _ (map string_bytes c.loop-item.texts.items)
    (map string_bytes c.add_copy.new.texts.items) c.loop-item-test.true c.loop-item.invariant c.in_ok-add_copy.ensures
