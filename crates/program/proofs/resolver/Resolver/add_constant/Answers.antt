use Rattle.std.proofs.Common.{◌∙◌, refl, sym}
use Rattle.program.specs.declared.runtime_constant.RuntimeConstant.TheVariants as runtime
use Rattle.program.proofs.RuntimePoolLemmas.{same_entry}
use Rattle.program.proofs.StringsLemmas.{gains_held}
use Rattle.program.proofs.resolver.Resolver.add_constant.Goals as goal

pub returns-in-Some-clause-held : goal.returns-in-Some-clause-held
returns-in-Some-clause-held c =
    let e = c.in-Some.ensures in
    let held = c.in-Some.held in (
      held,
      same_entry c.args.self.now.hierarchy.now.family c.args.strings.now c.args.self.now.file.now e.0 c.args.index
          c.args.constant.now held (e.1 ∙ sym c.requires.here)
          (c.requires.pool e.0 c.args.constant.now held e.1 e.2),
      c.in_ok-push-2.ensures,
    )

pub returns-in-Some-clause-gains : goal.returns-in-Some-clause-gains
returns-in-Some-clause-gains c =
    let e = c.in-Some.ensures in
    gains_held (c.requires.pool e.0 c.args.constant.now c.in-Some.held e.1 e.2)

pub returns-then-is_unnamed-clause-held : goal.returns-then-is_unnamed-clause-held
returns-then-is_unnamed-clause-held c = (
  runtime.Other,
  c.if-is_unnamed.ensures refl c.args.self.now.hierarchy.now.family c.args.strings.now c.args.self.now.file.now
      c.args.index,
  c.in_ok-push.ensures,
)

pub returns-then-is_unnamed-clause-gains : goal.returns-then-is_unnamed-clause-gains
returns-then-is_unnamed-clause-gains c =
    gains_held (c.if-is_unnamed.ensures refl c.args.self.now.hierarchy.now.family c.args.strings.now
    c.args.self.now.file.now c.args.index)
