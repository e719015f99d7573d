use Rattle.std.proofs.Common.{subst}
use Rattle.std.proofs.lemmas.List.Elements.{All-contains}
use Rattle.hierarchy.specs.steps.Answers.{IsAnswer}
use Rattle.hierarchy.specs.steps.Declarations.{IsWhole}
use Rattle.hierarchy.proofs.DeclarationsLemmas.{wholes_on, whole_still}
use Rattle.hierarchy.proofs.resolve_ahead.ReferenceGroup.declare.Goals as goal

pub returns-then-ends_with_key-clause-whole : goal.returns-then-ends_with_key-clause-whole
returns-then-ends_with_key-clause-whole c =
    let h = c.args.hierarchy.now in
    let group = c.args.self.now in
    let there = c.ends_with_key.ensures c.if-ends_with_key.true in
    let answer = All-contains (IsAnswer h c.args.wanted group.declared.items 0) group.answers.items there.0
    c.requires.answers there.1 in
    subst (IsWhole h c.args.wanted group.declared.items) there.2 answer.whole

pub returns : goal.returns
returns c =
    let h = c.args.hierarchy.now in
    let old = c.args.self.now.declared.items in
    let new = c.add_declarations.new.declared.items in
    let goes = c.in_ok-add_declarations.ensures.goes in
    let whole = c.in_ok-add_declarations.ensures.whole in
    record {
      group = record {
        declared = goes.are;
        wholes = wholes_on h c.args.wanted c.args.key old new goes c.requires.wholes whole;
        answers = λ i d small.
            let before = c.requires.answers i d small in
            record {
              within = before.within;
              whole = whole_still h c.args.wanted c.args.key old new goes _ before.whole;
              tells = λ name numbers.
                  let told = before.tells name numbers in
                  record { first = told.first; none = told.none; defaults = told.defaults };
            };
      };
      whole = whole;
    }
