use Rattle.std.proofs.Common.{refl, subst}
use Rattle.std.specs.List.{AllZip}
use Rattle.program.specs.Handlers.{IsHandler}
use Rattle.program.proofs.methods.code_of.Goals as goal

pub returns : goal.returns
returns c = record {
  max_stack = refl;
  max_locals = refl;
  descriptor = refl;
  returns = c.returns_of.ensures;
  handlers =
      subst (λ entries. AllZip (IsHandler c.args.linked.now.family.now c.args.linked.now.file.now) entries
      c.in_ok-handlers.handlers) c.as_slice.ensures c.in_ok-handlers.ensures;
  body = c.in_ok-body.ensures;
}
