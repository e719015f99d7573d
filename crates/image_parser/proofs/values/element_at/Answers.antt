use Rattle.image_parser.specs.reading.Values.{element_at}
use Rattle.image_parser.proofs.values.element_at.Goals as goal

pub returns-in-Byte : goal.returns-in-Byte
unfolding element_at
returns-in-Byte c = rw c.in-Byte.is (c.byte_at.ensures c.args.program.now)

pub returns-in-Char : goal.returns-in-Char
unfolding element_at
returns-in-Char c = rw c.in-Char.is (c.char_at.ensures c.args.program.now)

pub returns-in-Short : goal.returns-in-Short
unfolding element_at
returns-in-Short c = rw c.in-Short.is (c.short_at.ensures c.args.program.now)

pub returns-in-Int : goal.returns-in-Int
unfolding element_at
returns-in-Int c = rw c.in-Int.is (c.bare_int_at.ensures c.args.program.now)

pub returns-in-Long : goal.returns-in-Long
unfolding element_at
returns-in-Long c = rw c.in-Long.is (c.long_at.ensures c.args.program.now)
