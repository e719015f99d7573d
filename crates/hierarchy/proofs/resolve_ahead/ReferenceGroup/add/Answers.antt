use Rattle.std.proofs.Common.{◌<◌, length, sym, subst, ◌∙◌}
use Rattle.std.specs.List.{All}
use Rattle.std.proofs.lemmas.List.Elements.{All-push}
use Rattle.loading.specs.Families.{Family}
use Rattle.hierarchy.specs.steps.Answers.{IsAnswer}
use Rattle.hierarchy.specs.declared.answers.Answer.{Answer}
use Rattle.hierarchy.proofs.resolve_ahead.ReferenceGroup.add.Goals as goal

pub returns : goal.returns
returns c =
    let h = c.args.hierarchy.now in
    let group = c.declare.new.self in
    let are = c.in_ok-declare.ensures.group in
    let small : c.args.asked.now.class < length h.family =
    subst (λ (f : Family). c.args.asked.now.class < length f) (c.classes.ensures.value ∙ c.family.ensures)
    c.if-not-is_given.false in
    let Is : Answer → Type 0 = IsAnswer h c.args.wanted group.declared.items 0 in
    record {
      declared = are.declared;
      wholes = are.wholes;
      answers = subst (All Is) (sym c.in_ok-push.ensures.items)
          (All-push Is group.answers.items c.unknown.result are.answers
          (c.unknown.ensures.unknown h c.args.wanted group.declared.items small c.in_ok-declare.ensures.whole));
    }
