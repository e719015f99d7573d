use Rattle.std.proofs.Common.{◌∙◌, sym, ap, reverse}
use Rattle.std.proofs.lemmas.List.{reverse-reverse}
use Rattle.vm_state.proofs.initialization.LevelList.outermost_first.Goals as goal

pub returns : goal.returns
returns c =
    c.as_slice.ensures.value ∙ sym (reverse-reverse c.self.inside.levels.items) ∙ ap reverse c.self.view_is
