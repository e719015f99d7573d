use Rattle.std.proofs.Common.{◌≡◌, ◌≤◌, ◌∙◌, ◌∷◌, [], ◌++◌, ◌+◌, ℕ, List, length, sym, ap, subst, arith, rules}
use Rattle.use_graph.specs.steps.Numbers.{NumbersBelow}
use Rattle.use_graph.proofs.NumbersLemmas.{numbers_one, are_methods}
use Rattle.use_graph.proofs.numbers.number_all.Goals as goal

pub loop-class-preserved : goal.loop-class-preserved
loop-class-preserved c =
    let P = c.args.program.now in
    let firsts = c.loop-class.firsts.items in
    let old = c.loop-class.methods.items in
    let new = c.number_class.new.methods.items in
    let count : c.len.result ≡ length old = search rules in
    subst (λ (l : List ℕ). NumbersBelow P (c.loop-class.class + 1) l new)
    (sym (c.in_ok-push.ensures.items ∙ ap (λ (n : ℕ). firsts ++ n ∷ []) count))
    (numbers_one P c.loop-class.class firsts old new c.loop-class.invariant c.in_ok-number_class.ensures.adds
    c.in_ok-number_class.ensures.few)

pub returns-clause-methods : goal.returns-clause-methods
returns-clause-methods c =
    let P = c.args.program.now in
    let whole : length P.classes ≤ c.loop-class.class = omega (arith, c.given_count-class-end.ensures.value) in
    are_methods P c.loop-class.class c.loop-class.firsts.items c.loop-class.methods.items whole c.loop-class.invariant
