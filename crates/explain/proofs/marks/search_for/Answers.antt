use Rattle.std.proofs.Common.{◌≡◌, ◌∙◌, ℕ, List, [], None, Some, length, slice_get, sym, ap, subst}
use Rattle.use_graph.proofs.ReachedLemmas.{are_reached, none_run}
use Rattle.explain.specs.steps.Trees.{IsTree}
use Rattle.explain.proofs.TreesLemmas.{tree_none}
use Rattle.explain.proofs.marks.search_for.Goals as goal

pub returns-in_ok-run-in-Some-clause-searched : goal.returns-in_ok-run-in-Some-clause-searched
returns-in_ok-run-in-Some-clause-searched c =
    let (m, begins, number) = c.in-Some.ensures in
    record {
      reached = are_reached c.args.program.now c.args.uses.now.methods c.args.uses.now.calls c.requires.uses.methods
          c.requires.uses.calls c.args.class m c.in-Some.start begins number c.run.new.self.seen.items
          c.in_ok-run-in-Some.ensures.members;
      tree = c.in_ok-run-in-Some.ensures.tree;
      root = λ v at. (
        m,
        begins,
        (let two : Some c.in-Some.start ≡ Some v = sym c.in_ok-run-in-Some.ensures.root ∙ at in
            let same : c.in-Some.start ≡ v = cc in
            subst (λ (n : ℕ). slice_get c.args.uses.now.methods n ≡ Some (record { class = c.args.class; index = m }))
            same number),
      );
    }

pub returns-in-None-clause-searched : goal.returns-in-None-clause-searched
returns-in-None-clause-searched c = record {
  reached = none_run c.args.program.now c.args.uses.now.methods c.args.class c.clear.new.self.seen.items
      c.in-None.ensures (ap length c.clear.ensures.none);
  tree = subst (λ (l : List ℕ). IsTree c.args.uses.now.calls l c.clear.new.self.finders.items)
      (sym c.clear.ensures.none)
      (subst (λ (l : List ℕ). IsTree c.args.uses.now.calls [] l) (sym c.clear.ensures.unfound)
      (tree_none c.args.uses.now.calls));
  root = λ v at. absurd (let none : None ≡ Some v =
      sym (ap (λ (l : List ℕ). slice_get l 0) c.clear.ensures.none) ∙ at in
      cc);
}
