use Rattle.std.proofs.Common.{◌≡◌, ℕ, List, true, false, Some, [], ◌∷◌, ◌++◌, get_or, sym, ap, subst}
use Rattle.std.proofs.Common.{◌∙◌, arith, append-nil}
use Rattle.std.specs.List.{filter}
use Rattle.loading.specs.Families.{interfaces_in}
use Rattle.hierarchy.specs.Initialization.{is_initialized_first}
use Rattle.hierarchy.specs.Search.{firsts}
use Rattle.hierarchy.specs.steps.InterfaceOrders.{Gathers}
use Rattle.hierarchy.proofs.GatheredLemmas.{gathers_own, gathers_flagged}
use Rattle.hierarchy.proofs.short_orders.list_of.Goals as goal
use Rattle.hierarchy.proofs.short_orders.list_of.Goals.{then-first-class+in_ok-leave_all, else-first-class}

pub returns-clause-gathered : goal.returns-clause-gathered
returns-clause-gathered c list is =
    let family = c.args.family.now in
    let class = c.args.class in
    let seen : List ℕ = c.gather.new.ascent.left.items in
    let left : List ℕ = c.if-first-class.ascent.left.items in
    let whole : c.in_ok-gather.field-0 ≡ true = c.if-not-branch.false in
    let above : Gathers family (interfaces_in family class) seen = c.in_ok-gather.ensures.gathered whole in
    let told : get_or c.args.first.now class false ≡ is_initialized_first family class =
    c.requires.first.tell class (omega (arith, c.requires.first.count, c.requires.class)) in
    let own : Gathers family (class ∷ []) left =
    elim c.if-first-class.branch [
      | then-first-class+in_ok-leave_all w ↦
          gathers_own family class seen left true c.requires.fits c.requires.interface above
          (sym told ∙ w.if-first-class.true)
          (ap (λ v. v.left.items) w.ascent-is ∙ w.in_ok-leave_all.ensures.left)
      | else-first-class w ↦
          gathers_own family class seen left false c.requires.fits c.requires.interface above
          (sym told ∙ w.if-first-class.false)
          (ap (λ v. v.left.items) w.ascent-is ∙ c.in_ok-gather.ensures.once whole ∙ ap firsts (sym (append-nil seen)))
    ] in
    let kept : c.new.result ≡ [] ++ filter (λ i. get_or c.args.first.now i false) left =
    c.new.ensures ∙ c.in_ok-add_flagged.ensures.added
    ∙ ap (λ (xs : List ℕ). xs ++ filter (λ i. get_or c.args.first.now i false) c.left-2.result.now.items)
    c.new-list.ensures.items
    ∙ ap (λ s. filter (λ i. get_or c.args.first.now i false) s.items) c.left-2.ensures in
    subst (λ (xs : List ℕ). Gathers family (class ∷ []) xs) (same c.new.result list is)
    (gathers_flagged family (class ∷ []) left c.new.result c.args.first.now
    c.requires.first own kept)
  where
    same : (xs ys : List ℕ) → Some xs ≡ Some ys → xs ≡ ys
    same xs ys e = cc
