use Rattle.std.proofs.Common.{◌≡◌, false, get_or, arith}
use Rattle.std.proofs.lemmas.Grind.{common_steps}
use Rattle.hierarchy.proofs.FlagLemmas.{flag_tells}
use Rattle.hierarchy.proofs.class_set.ClassSet.has.Goals as goal

pub returns-in-Some : goal.returns-in-Some
returns-in-Some c =
    let own = c.self.inside in
    let read : c.in-Some.flag.now ≡ get_or own.flags c.args.class false = grind (arith, common_steps) in
    flag_tells own.flags own.members c.args.self.now own.count c.args.class c.in-Some.flag.now c.self.view_is
    c.self.invariant read

pub returns-in-None : goal.returns-in-None
returns-in-None c =
    let own = c.self.inside in
    let read : false ≡ get_or own.flags c.args.class false = grind (arith, common_steps) in
    flag_tells own.flags own.members c.args.self.now own.count c.args.class false c.self.view_is c.self.invariant read
