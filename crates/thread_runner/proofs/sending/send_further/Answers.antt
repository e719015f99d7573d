use Rattle.std.proofs.Common.{◌≡◌, ◌+◌, ℕ, ◌∙◌, sym, ap, subst, drop, length}
use Rattle.vm_state.specs.Output.{text_of}
use Rattle.thread_runner.specs.Sendings.{SendsOn, sent_of}
use Rattle.thread_runner.proofs.SendingLemmas.{all_sent, rest_sent, rest_whole}
use Rattle.thread_runner.proofs.sending.send_further.Goals as goal

pub returns-then-whole-clause-sends : goal.returns-then-whole-clause-sends
returns-then-whole-clause-sends g c =
    let ps = c.args.printed.now in
    let rest = c.split_at.result.1.now in
    let n = c.put_all-count.result.0 in
    let before = g.S.Sink.got c.args.sink.now in
    let after = g.S.Sink.got c.put_all-count.new.sink in
    let is : rest ≡ drop c.args.within (text_of (drop c.args.from ps)) =
    c.split_at.ensures.back ∙ ap (drop c.args.within) c.text_from.ensures in
    let sends = rest_sent ps c.args.from c.args.within n rest before after c.requires is
    c.put_all-count.ensures.within c.put_all-count.ensures.got in
    let end : sent_of ps c.args.from (c.args.within + n) ≡ sent_of ps c.count.result 0 =
    rest_whole ps c.args.from c.args.within n rest c.requires is (c.put_all-count.ensures.all c.if-whole.true)
    ∙ sym (all_sent ps) ∙ ap (λ k. sent_of ps k 0) (sym c.count.ensures) in
    subst (λ k. SendsOn (text_of ps) (sent_of ps c.args.from c.args.within) k before after) end sends

pub returns-else-whole-clause-sends : goal.returns-else-whole-clause-sends
returns-else-whole-clause-sends g c =
    let ps = c.args.printed.now in
    let rest = c.split_at.result.1.now in
    let is : rest ≡ drop c.args.within (text_of (drop c.args.from ps)) =
    c.split_at.ensures.back ∙ ap (drop c.args.within) c.text_from.ensures in
    rest_sent ps c.args.from c.args.within c.put_all-count.result.0 rest (g.S.Sink.got c.args.sink.now)
    (g.S.Sink.got c.put_all-count.new.sink) c.requires is c.put_all-count.ensures.within c.put_all-count.ensures.got
