use Rattle.image_parser.proofs.values.body_at.Goals as goal

pub returns-in-Int : goal.returns-in-Int
returns-in-Int c = rw c.in-Int.is (c.int_at.ensures c.args.program.now)

pub returns-in-Long : goal.returns-in-Long
returns-in-Long c = rw c.in-Long.is (c.long_at.ensures c.args.program.now)

pub returns-in-Object : goal.returns-in-Object
returns-in-Object c = rw c.in-Object.is (c.reference_at.ensures c.args.program.now)
