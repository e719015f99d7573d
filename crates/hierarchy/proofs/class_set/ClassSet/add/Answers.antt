use Rattle.std.proofs.Common.{◌<◌, length, sym, true, refl, arith}
use Rattle.hierarchy.proofs.FlagLemmas.{has_room, flagged_more, flag_tells, joins_free}
use Rattle.hierarchy.proofs.class_set.ClassSet.add.Goals as goal

pub returns-then-self-class : goal.returns-then-self-class
returns-then-self-class c =
    let own = c.self.inside in (
      (flag_tells own.flags own.members c.args.self.now own.count c.args.class true c.self.view_is c.self.invariant
          (sym c.if-self-class.true)).0 refl,
      refl,
    )

pub bounds-self-inside-self-inside : goal.bounds-self-inside-self-inside
bounds-self-inside-self-inside c =
    let own = c.self.inside in
    let room : own.count < length own.members = has_room own.flags own.members own.count c.args.class (omega arith)
    (omega arith) c.if-self-class.false c.self.invariant in
    omega arith

pub invariant_of-self : goal.invariant_of-self
invariant_of-self c =
    let own = c.self.inside in
    let room : own.count < length own.members = has_room own.flags own.members own.count c.args.class (omega arith)
    (omega arith) c.if-self-class.false c.self.invariant in
    flagged_more own.flags own.members own.count c.args.class room (omega arith) c.if-self-class.false c.self.invariant

pub returns : goal.returns
returns c =
    let own = c.self.inside in
    let room : own.count < length own.members = has_room own.flags own.members own.count c.args.class (omega arith)
    (omega arith) c.if-self-class.false c.self.invariant in
    joins_free own.flags own.members c.args.self.now own.count c.args.class room c.self.view_is c.if-self-class.false
    c.self.invariant
