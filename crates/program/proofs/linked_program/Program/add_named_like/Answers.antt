use Rattle.std.proofs.Common.{subst, ap}
use Rattle.std.specs.Result.{OnOk}
use Rattle.loading.specs.Families.{Family}
use Rattle.hierarchy.specs.Selectable.{AddsNamedLike}
use Rattle.program.specs.Tables.{Tables}
use Rattle.program.proofs.linked_program.Program.add_named_like.Goals as goal

pub returns : goal.returns
returns c =
    subst (λ (family : Family). OnOk c.add_named_like.result
    (AddsNamedLike family c.args.member c.args.methods.now.items c.add_named_like.new.methods.items))
    (ap (λ (P : Tables). P.family) c.self.view_is) c.add_named_like.ensures
