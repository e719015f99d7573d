use Rattle.std.proofs.Common.{◌≡◌, ap, sym, ◌∙◌, arith, ◌++◌, ◌∷◌, [], refl}
use Rattle.journal.proofs.RunsLemmas.{extends_other, extends_same, too_many}
use Rattle.journal.proofs.runs.add_steps.Goals as goal

pub returns-then-last-thread-clause-added : goal.returns-then-last-thread-clause-added
returns-then-last-thread-clause-added c _ =
    extends_other c.args.runs.now.items c.pop.new.self.items c.push_reserved-then-last-thread-2.new.self.items
    c.in-Some.last c.in-Some.count c.args.thread c.args.steps c.in-Some.ensures.items c.requires.runs
    c.if-last-thread.true c.requires.some (omega arith)
    (c.push_reserved-then-last-thread-2.ensures.items
    ∙ ap (λ r. r ++ (c.args.thread, c.args.steps) ∷ []) c.push_reserved-then-last-thread.ensures.items)

pub returns-in-Some-checked_add-clause-added : goal.returns-in-Some-checked_add-clause-added
returns-in-Some-checked_add-clause-added c _ =
    extends_same c.args.runs.now.items c.pop.new.self.items c.push_reserved-in-Some-checked_add.new.self.items
    c.in-Some.last c.in-Some.count c.args.thread c.args.steps c.in-Some.ensures.items c.requires.runs
    c.if-last-thread.false c.in-Some-checked_add.ensures.0
    (c.push_reserved-in-Some-checked_add.ensures.items
    ∙ ap (λ k. c.pop.new.self.items ++ (c.args.thread, k) ∷ []) c.in-Some-checked_add.ensures.1)

pub returns-in-None-clause-full : goal.returns-in-None-clause-full
returns-in-None-clause-full c _ =
    too_many c.args.runs.now.items c.pop.new.self.items c.in-Some.last c.in-Some.count c.args.thread c.args.steps
    c.in-Some.ensures.items c.requires.runs c.if-last-thread.false (omega (arith, c.in-None.ensures))
