use Rattle.std.proofs.Common.{◌≡◌, ap, ◌∙◌}
use Rattle.program.specs.declared.runtime_constant.RuntimeConstant.TheVariants as runtime
use Rattle.program.specs.Fields.{field_kind}
use Rattle.program.specs.References.{key_at}
use Rattle.program.proofs.resolver.Resolver.field_constant.Goals as goal

pub returns-clause-held : goal.returns-clause-held
returns-clause-held c =
    let target = c.in_ok-target.ensures.target in
    let descriptor = (key_at c.args.self.now.file.now c.args.name_and_type).descriptor in
    let kind : c.field_kind-kind.result ≡ field_kind descriptor = c.field_kind-kind.ensures
    ∙ ap field_kind c.descriptor_at.ensures in (
      target.0,
      target.1,
      ap (λ k. runtime.Field k c.in_ok-target.target) kind
          ∙ ap (runtime.Field (field_kind descriptor)) target.2,
    )
