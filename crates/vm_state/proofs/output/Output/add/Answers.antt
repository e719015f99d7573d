use Rattle.std.proofs.Common.{◌≡◌, ◌+◌, ◌++◌, ◌∷◌, [], ◌∙◌, sym, ap, length, arith}
use Rattle.std.proofs.lemmas.List.{length-append}
use Rattle.vm_state.proofs.OutputLemmas.{cover_more, print_added}
use Rattle.vm_state.proofs.output.Output.add.Goals as goal

module _ (c : goal.After-push_reserved-2) where
  all : c.extend_from_slice.new.self.items ≡ c.self.inside.bytes.items ++ c.args.text.now
  all = c.in_ok-extend_from_slice.ensures.items

  long : length c.as_slice.result.now ≡ length c.self.inside.bytes.items + length c.args.text.now
  long = ap length (c.as_slice.ensures.value ∙ all) ∙ length-append c.self.inside.bytes.items c.args.text.now

  ends : c.push_reserved.new.self.items ≡ c.self.inside.ends.items ++ length c.as_slice.result.now ∷ []
  ends = c.push_reserved.ensures.items
      ∙ ap (λ es. es ++ length c.as_slice.result.now ∷ []) c.in_ok-reserve.ensures.items

  threads : c.push_reserved-2.new.self.items ≡ c.self.inside.threads.items ++ c.args.thread ∷ []
  threads = c.push_reserved-2.ensures.items ∙ ap (λ ts. ts ++ c.args.thread ∷ []) c.in_ok-reserve-2.ensures.items

pub invariant_of-self-2 : goal.invariant_of-self-2
invariant_of-self-2 c =
    let old = c.self.inside in
    let whole : length c.extend_from_slice.new.self.items ≡ length c.as_slice.result.now =
    sym (ap length c.as_slice.ensures.value) in
    rw (ends c, threads c, whole)
    (cover_more 0 old.ends.items old.threads.items (length old.bytes.items) (length c.as_slice.result.now)
    c.args.thread c.self.invariant (omega (arith, long c)))

pub returns-clause-ok : goal.returns-clause-ok
returns-clause-ok c =
    let old = c.self.inside in
    rw (all c, ends c, threads c)
    (print_added old.bytes.items c.args.text.now 0 old.ends.items old.threads.items c.args.thread
    (length c.as_slice.result.now) c.self.invariant (long c)
    ∙ ap (λ ps. ps ++ record { thread = c.args.thread; text = c.args.text.now } ∷ []) c.self.view_is)
