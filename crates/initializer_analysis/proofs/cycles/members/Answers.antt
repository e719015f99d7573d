use Rattle.std.proofs.Common.{◌≡◌, ℕ, ◌<◌, All, length, replicate, sym, ap, ◌∙◌, subst}
use Rattle.std.proofs.lemmas.List.{length-replicate}
use Rattle.initializer_analysis.specs.steps.LeastReached.{no_labels}
use Rattle.initializer_analysis.proofs.cycles.members.Goals as goal

pub with_members-requires-clause-numbers : goal.with_members-requires-clause-numbers
with_members-requires-clause-numbers c =
    let numbers = c.args.components.now.numbers in
    let count : length c.in-Ok.table.items ≡ length numbers =
    ap length c.in-Ok.ensures ∙ length-replicate c.len.result no_labels ∙ c.len.ensures in
    subst (λ (n : ℕ). All (λ (k : ℕ). k < n) numbers) (sym count) c.requires.numbers

pub with_members-requires-clause-none : goal.with_members-requires-clause-none
with_members-requires-clause-none c = c.in-Ok.ensures ∙ ap (λ (n : ℕ). replicate n no_labels) c.len.ensures

pub returns-in-Ok-clause-len : goal.returns-in-Ok-clause-len
returns-in-Ok-clause-len c =
    c.with_members.ensures.len
    ∙ ap length c.in-Ok.ensures
    ∙ length-replicate c.len.result no_labels
    ∙ c.len.ensures
