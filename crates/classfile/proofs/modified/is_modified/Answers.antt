use Rattle.std.proofs.Common.{List, ℕ, arith, ap, ◌∙◌}
use Rattle.classfile.specs.reading.Modified.{is_modified}
use Rattle.classfile.proofs.ModifiedLemmas.{all_after, is_shorter, one_step, two_step, three_step}
use Rattle.classfile.proofs.modified.is_modified.Goals as goal

pub loop-rest-preserved-in-len1-up : goal.loop-rest-preserved-in-len1-up
loop-rest-preserved-in-len1-up c =
    ap (λ (z : List ℕ). is_modified z) (all_after 1 c.loop-rest.rest.now)
    ∙ one_step c.loop-rest.rest.now c.in-len1-up.len_at_least c.if-is_one.ensures ∙ c.loop-rest.invariant

pub loop-rest-preserved-in-len2-up : goal.loop-rest-preserved-in-len2-up
loop-rest-preserved-in-len2-up c =
    ap (λ (z : List ℕ). is_modified z) (all_after 2 c.loop-rest.rest.now)
    ∙ two_step c.loop-rest.rest.now c.in-len2-up.len_at_least c.if-is_one.ensures c.if-is_two.ensures
    ∙ c.loop-rest.invariant

pub loop-rest-preserved : goal.loop-rest-preserved
loop-rest-preserved c =
    ap (λ (z : List ℕ). is_modified z) (all_after 3 c.loop-rest.rest.now)
    ∙ three_step c.loop-rest.rest.now c.in-len3-up.len_at_least c.if-is_one.ensures c.if-is_two.ensures
    c.if-is_three.ensures
    ∙ c.loop-rest.invariant

pub loop-rest-smaller : goal.loop-rest-smaller
loop-rest-smaller c = is_shorter 3 c.loop-rest.rest.now (omega arith) c.in-len3-up.len_at_least

pub loop-rest-smaller-in-len1-up : goal.loop-rest-smaller-in-len1-up
loop-rest-smaller-in-len1-up c = is_shorter 1 c.loop-rest.rest.now (omega arith) c.in-len1-up.len_at_least

pub loop-rest-smaller-in-len2-up : goal.loop-rest-smaller-in-len2-up
loop-rest-smaller-in-len2-up c = is_shorter 2 c.loop-rest.rest.now (omega arith) c.in-len2-up.len_at_least
