use Rattle.std.proofs.Common.{ℕ, List, [], ◌∷◌, ◌++◌, get_or, take, sym, ap, ◌∙◌, append_assoc, arith}
use Rattle.std.proofs.lemmas.List.{take_more}
use Rattle.hierarchy.specs.Search.{firsts}
use Rattle.hierarchy.proofs.FirstsLemmas.{firsts_joins}
use Rattle.hierarchy.proofs.ascent.Ascent.leave_all.Goals as goal

pub loop-class-preserved : goal.loop-class-preserved
loop-class-preserved c =
    let old : List ℕ = c.args.self.now.left.items in
    let classes : List ℕ = c.args.classes.now in
    let k = c.loop-class.class-index in
    let class : ℕ = get_or classes k 0 in
    record {
      entered = c.loop-class.invariant.entered;
      limit = c.in_ok-add.ensures.limit ∙ c.loop-class.invariant.limit;
      left = firsts_joins c.in_ok-add.field-0 (old ++ take k classes) c.loop-class.self.left.items c.add.new.self.items
          class c.loop-class.invariant.left c.in_ok-add.ensures.ok
          ∙ ap firsts (append_assoc old (take k classes) (class ∷ [])
          ∙ ap (λ (xs : List ℕ). old ++ xs) (sym (take_more classes k 0 (omega arith))));
    }
