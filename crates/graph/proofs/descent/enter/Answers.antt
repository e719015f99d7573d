use Rattle.std.proofs.Common.{◌∷◌, [], ◌∙◌, rules}
use Rattle.std.proofs.lemmas.List.Elements.{Contains-append_left, Contains-push}
use Rattle.graph.proofs.DescendingLemmas.{descent_root}
use Rattle.graph.proofs.descent.enter.Goals as goal

pub returns-then-has-clause-descending : goal.returns-then-has-clause-descending
returns-then-has-clause-descending c = rw c.requires.empty c.requires.descending

pub returns-clause-limit : goal.returns-clause-limit
returns-clause-limit c = c.go_down.ensures.limit ∙ c.requires.limit

pub returns-clause-has : goal.returns-clause-has
returns-clause-has c = rw c.in_ok-go_down.ensures.seen (Contains-push c.args.descent.now.seen.items c.args.root)

pub returns-clause-keeps : goal.returns-clause-keeps
returns-clause-keeps c =
    λ x h. rw c.in_ok-go_down.ensures.seen (Contains-append_left c.args.descent.now.seen.items (c.args.root ∷ []) x h)

pub returns-clause-descending : goal.returns-clause-descending
returns-clause-descending c =
    let w = c.args.descent.now in
    let new = c.go_down.new.descent in
    rw (c.in_ok-go_down.ensures.passed, c.in_ok-go_down.ensures.finished)
    (descent_root c.args.graph.now w.seen.items new.seen.items new.path.items w.passed.items w.finished.items
    c.args.root
    c.requires.root (search rules) c.in_ok-go_down.ensures.seen (rw c.requires.empty at c.in_ok-go_down.ensures.path)
    c.requires.descending)
