use Rattle.std.proofs.Common.{rules, [], ◌≡◌, ◌∷◌, ◌<◌, reverse, length, ap, ◌∙◌}
use Rattle.std.proofs.lemmas.List.Elements.{All-tail}
use Rattle.hierarchy.specs.steps.Ascents.{class_of}
use Rattle.hierarchy.proofs.AscentsLemmas.{reverse_push}
use Rattle.hierarchy.proofs.ascent.go_on.Goals as goal

pub step-requires-clause-within : goal.step-requires-clause-within
step-requires-clause-within c =
    let visits : reverse c.loop-visit.ascent.todo.items ≡ c.in-Some.visit ∷ reverse c.pop.new.self.items =
    ap reverse c.in-Some.ensures.items ∙ reverse_push c.pop.new.self.items c.in-Some.visit in
    All-tail (λ visit. class_of visit < length c.args.family.now) c.in-Some.visit (reverse c.pop.new.self.items)
    (rw visits at c.loop-visit.invariant.within)

pub loop-visit-preserved : goal.loop-visit-preserved
loop-visit-preserved c =
    let visits : reverse c.loop-visit.ascent.todo.items ≡ c.in-Some.visit ∷ reverse c.pop.new.self.items =
    ap reverse c.in-Some.ensures.items ∙ reverse_push c.pop.new.self.items c.in-Some.visit in
    record {
      room = record {
        entered = c.in_ok-step.ensures.room.entered ∙ c.loop-visit.invariant.room.entered;
        left = c.in_ok-step.ensures.room.left ∙ c.loop-visit.invariant.room.left;
      };
      within = c.in_ok-step.ensures.steps.within;
      ascending = λ from w. c.in_ok-step.ensures.ascending from (rw visits at (c.loop-visit.invariant.ascending from
          w));
    }

pub returns-clause-ascending : goal.returns-clause-ascending
returns-clause-ascending c = λ from w.
    let empty : c.loop-visit.ascent.todo.items ≡ [] = search rules in
    rw (ap reverse empty) at (c.loop-visit.invariant.ascending from w)
