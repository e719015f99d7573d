use Rattle.options.proofs.SortedNamesLemmas.{dotted_more, dotted_whole}
use Rattle.options.proofs.sorted_names.add_ended.Goals as goal

pub loop-byte-preserved : goal.loop-byte-preserved
loop-byte-preserved c =
    dotted_more c.args.name.now c.loop-byte.byte-index c.dot_of.result c.loop-byte.bytes.items c.push.new.self.items
    c.loop-byte-test.true c.loop-byte.invariant c.in_ok-push.ensures.items c.dot_of.ensures

pub returns : goal.returns
returns c =
    dotted_whole c.args.name.now c.loop-byte.byte-index c.loop-byte.bytes.items c.push-2.new.self.items
    c.loop-byte-test.false c.loop-byte.invariant c.in_ok-push-2.ensures.items
