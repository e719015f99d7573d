use Rattle.std.proofs.Common.{◌≤◌, length, arith}
use Rattle.audit.proofs.PlacesLemmas.{below_none, below_more, below_all}
use Rattle.audit.proofs.places.add_all.Goals as goal

pub loop-number-init : goal.loop-number-init
loop-number-init c =
    below_none c.args.program.now c.args.uses.now c.requires.uses c.args.entries.now c.args.places.now.items
    c.requires.none

pub loop-number-preserved : goal.loop-number-preserved
loop-number-preserved c =
    below_more c.args.program.now c.args.uses.now c.requires.uses c.args.entries.now c.loop-number.number
    c.loop-number.places.items c.add_method.new.places.items c.loop-number.invariant c.in_ok-add_method.ensures

pub returns : goal.returns
returns c =
    let whole : length c.args.uses.now.methods ≤ c.loop-number.number = omega arith in
    below_all c.args.program.now c.args.uses.now c.requires.uses c.args.entries.now c.loop-number.number
    c.loop-number.places.items whole c.loop-number.invariant
