use Rattle.std.proofs.Common.{arith}
use Rattle.image_parser.proofs.RegionsHeldLemmas.{flags_answered, flags_fail, flags_family}
use Rattle.image_parser.proofs.flags.read_flags.Goals as goal

pub returns-clause-flags : goal.returns-clause-flags
returns-clause-flags c =
    flags_answered c.args.version c.args.program.now c.flags_at.new.program
    (rw (← c.family.ensures) c.classes-classes.ensures.fits) c.args.bytes.now (λ i. omega (arith, c.type_inv.bytes i))
    (λ y. (y.0, y.1.now)) c.flags_at.result c.flags_at.ensures

pub returns-clause-fault : goal.returns-clause-fault
returns-clause-fault c =
    flags_fail c.args.version c.args.program.now c.flags_at.new.program
    (rw (← c.family.ensures) c.classes-classes.ensures.fits) c.args.bytes.now (λ i. omega (arith, c.type_inv.bytes i))
    (λ y. (y.0, y.1.now)) c.flags_at.result c.flags_at.ensures

pub returns-clause-family : goal.returns-clause-family
returns-clause-family c =
    flags_family c.args.version c.args.program.now c.flags_at.new.program
    (rw (← c.family.ensures) c.classes-classes.ensures.fits) c.args.bytes.now (λ i. omega (arith, c.type_inv.bytes i))
    (λ y. (y.0, y.1.now)) c.flags_at.result c.flags_at.ensures
