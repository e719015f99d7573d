use Rattle.std.proofs.Common.{◌≡◌, ◌∙◌, sym, ap, drop, length, arith}
use Rattle.std.proofs.lemmas.List.{take_rest}
use Rattle.vm_state.specs.Output.{text_of}
use Rattle.vm_state.specs.steps.Output.{start_of}
use Rattle.vm_state.proofs.OutputLemmas.{prints_count, start_within, text_after}
use Rattle.vm_state.proofs.output.Output.text_from.Goals as goal

pub start_of-start-requires : goal.start_of-start-requires
start_of-start-requires c =
    let o = c.self.inside in
    let counted = prints_count o.bytes.items 0 o.ends.items o.threads.items (length o.bytes.items) c.self.invariant in
    let same = ap length c.self.view_is in
    let ends = ap length c.as_slice.ensures.value in omega (arith, c.requires, counted, same, ends)

pub between-requires-clause-order : goal.between-requires-clause-order
between-requires-clause-order c =
    let o = c.self.inside in
    let within = start_within 0 o.ends.items o.threads.items (length o.bytes.items) c.args.number c.self.invariant in
    let start : c.start_of-start.result ≡ start_of 0 o.ends.items c.args.number =
    c.start_of-start.ensures ∙ ap (λ es. start_of 0 es c.args.number) c.as_slice.ensures.value in
    let all = ap length c.as_slice-bytes.ensures.value in omega (arith, within, start, all)

pub returns : goal.returns
returns c =
    let o = c.self.inside in
    let counted = prints_count o.bytes.items 0 o.ends.items o.threads.items (length o.bytes.items) c.self.invariant in
    let same = ap length c.self.view_is in
    let bytes = c.as_slice-bytes.result.now in
    let start : c.start_of-start.result ≡ start_of 0 o.ends.items c.args.number =
    c.start_of-start.ensures ∙ ap (λ es. start_of 0 es c.args.number) c.as_slice.ensures.value in
    let all : bytes ≡ o.bytes.items = c.as_slice-bytes.ensures.value in
    let text = text_after o.bytes.items 0 o.ends.items o.threads.items c.args.number c.self.invariant
    (omega (arith, c.requires, counted, same)) in
    c.between.ensures ∙ take_rest bytes c.start_of-start.result
    ∙ ap (λ bs. drop c.start_of-start.result bs) all ∙ ap (λ n. drop n o.bytes.items) start ∙ sym text
    ∙ ap (λ ps. text_of (drop c.args.number ps)) c.self.view_is
