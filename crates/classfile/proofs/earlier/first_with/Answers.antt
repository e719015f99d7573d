use Rattle.std.proofs.Common.{◌≡◌, None, sym}
use Rattle.classfile.specs.reading.Earlier.{find_utf8}
use Rattle.classfile.proofs.earlier.first_with.Goals as goal

pub note_first-requires-clause-none : goal.note_first-requires-clause-none
note_first-requires-clause-none c = sym (rw (c.in-None.is, c.hash_of-hash.ensures) at c.get.ensures.value)

pub returns-in-None-clause-first : goal.returns-in-None-clause-first
returns-in-None-clause-first c =
    let none : find_utf8 c.args.by_utf8.now c.args.text.now ≡ None = sym (rw (c.in-None.is, c.hash_of-hash.ensures) at
    c.get.ensures.value) in
    rw none c.note_first.ensures.first
