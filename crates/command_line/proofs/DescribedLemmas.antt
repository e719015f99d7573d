-- One more command in the program.
use Rattle.std.proofs.Common.{◌≡◌, ◌∙◌, ◌+◌, ◌<◌, ℕ, List, ap, fold, get_or, length, sym, take}
use Rattle.std.proofs.lemmas.List.Sums.{fold_more}
use Rattle.clap.specs.Simple.{App}
use Rattle.command_line.specs.declared.commands.Description.{Description}
use Rattle.command_line.specs.steps.Described.{with_description}

pub one_more : (start old new : App) (descriptions : List Description) (i : ℕ) (d : Description)
    → i < length descriptions → old ≡ fold with_description start (take i descriptions)
    → new ≡ with_description old (get_or descriptions i d)
    → new ≡ fold with_description start (take (i + 1) descriptions)
one_more start old new descriptions i d within before is =
    is ∙ ap (λ (app : App). with_description app (get_or descriptions i d)) before
    ∙ sym (fold_more with_description start descriptions i d within)
