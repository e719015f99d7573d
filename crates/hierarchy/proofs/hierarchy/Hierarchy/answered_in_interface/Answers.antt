use Rattle.std.proofs.Common.{◌≡◌, None, sym, ◌∙◌}
use Rattle.hierarchy.specs.MemberLookup.{method_in}
use Rattle.hierarchy.specs.Resolution.{ResolvesMethod}
use Rattle.hierarchy.proofs.DefaultsLemmas.{none_by}
use Rattle.hierarchy.proofs.hierarchy.Hierarchy.answered_in_interface.Goals as goal

pub returns : goal.returns
returns c = λ name m is are e.
    let lacks : method_in c.args.self.now.family name c.args.answer.now.class ≡ None =
    sym (c.find.ensures name is) ∙ none_by c.find.result (sym c.is_some.ensures ∙ c.if-is_some.false) in
    ResolvesMethod.above_interface c.requires.class lacks (c.answered_among_interfaces.ensures name m is are e)
