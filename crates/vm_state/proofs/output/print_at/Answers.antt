use Rattle.std.proofs.Common.{◌≤◌, ◌∙◌, Some, sym, ap, get_or, length, arith}
use Rattle.std.proofs.lemmas.Option.{slice_get_past}
use Rattle.vm_state.specs.steps.Output.{between, prints_in}
use Rattle.vm_state.proofs.OutputLemmas.{cover_length, print_is, print_within, prints_count}
use Rattle.vm_state.proofs.output.print_at.Goals as goal

pub bounds-threads-number : goal.bounds-threads-number
bounds-threads-number c =
    let even = cover_length 0 c.args.ends.now c.args.threads.now (length c.args.bytes.now) c.requires in
    omega (arith, c.if-number-ends.true, even)

pub between-requires-clause-order : goal.between-requires-clause-order
between-requires-clause-order c =
    let a = c.args in
    let within = print_within 0 a.ends.now a.threads.now (length a.bytes.now) a.number 0 c.requires
    c.if-number-ends.true in
    rw c.start_of.ensures within.0

pub between-requires-clause-within : goal.between-requires-clause-within
between-requires-clause-within c =
    let a = c.args in
    (print_within 0 a.ends.now a.threads.now (length a.bytes.now) a.number 0 c.requires c.if-number-ends.true).1

pub returns-then-number-ends : goal.returns-then-number-ends
returns-then-number-ends c =
    let a = c.args in
    let end = get_or a.ends.now a.number 0 in
    let text = c.between.ensures ∙ ap (λ from. between a.bytes.now from end) c.start_of.ensures in
    let is = print_is a.bytes.now 0 a.ends.now a.threads.now (length a.bytes.now) a.number 0 c.requires
    c.if-number-ends.true in
    ap (λ t. Some (record { thread = get_or a.threads.now a.number 0; text = t })) text ∙ sym is

pub returns-else-number-ends : goal.returns-else-number-ends
returns-else-number-ends c =
    let a = c.args in
    let counted = prints_count a.bytes.now 0 a.ends.now a.threads.now (length a.bytes.now) c.requires in
    let past : length (prints_in a.bytes.now 0 a.ends.now a.threads.now) ≤ a.number =
    omega (arith, counted, c.if-number-ends.false) in
    sym (slice_get_past (prints_in a.bytes.now 0 a.ends.now a.threads.now) a.number past)
