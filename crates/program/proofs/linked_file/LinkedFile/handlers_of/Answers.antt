use Rattle.std.proofs.Common.{◌≡◌, ◌<◌, length, get_or, sym, ◌∙◌, arith}
use Rattle.std.proofs.lemmas.Option.{same_Some, slice_get-get_or}
use Rattle.classfile.specs.declared.exceptions.ExceptionHandler.{ExceptionHandler}
use Rattle.program.specs.Handlers.{IsHandler}
use Rattle.program.proofs.ZipLemmas.{one_more}
use Rattle.program.proofs.linked_file.LinkedFile.handlers_of.Goals as goal

pub loop-entry-preserved : goal.loop-entry-preserved
loop-entry-preserved c =
    let entries = c.args.entries.now in
    let i = c.loop-entry.entry-index in
    let none : ExceptionHandler = record { start_pc = 0; end_pc = 0; handler_pc = 0; catch_type = 0 } in
    let entry = get_or entries i none in
    let within : i < length entries = omega (arith, c.loop-entry-test.true) in
    let is : entry ≡ get_or entries i entry =
    same_Some _ _ (sym (slice_get-get_or entries i none within) ∙ slice_get-get_or entries i entry within) in
    one_more (IsHandler c.args.self.now.family.now c.args.self.now.file.now) entries
    c.loop-entry.handlers.items c.push.new.self.items i entry c.handler_of.result within is
    c.loop-entry.invariant
    c.handler_of.ensures c.in_ok-push.ensures.items
