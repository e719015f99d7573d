use Rattle.std.proofs.Common.{◌∙◌, sym, ap, length}
use Rattle.vm_state.proofs.OutputLemmas.{prints_count}
use Rattle.vm_state.proofs.output.Output.count.Goals as goal

pub returns : goal.returns
returns c =
    let o = c.self.inside in
    let counted = prints_count o.bytes.items 0 o.ends.items o.threads.items (length o.bytes.items) c.self.invariant in
    ap length c.as_slice.ensures.value ∙ sym counted ∙ ap length c.self.view_is
