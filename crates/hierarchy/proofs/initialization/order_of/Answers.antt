use Rattle.std.proofs.Common.{◌≡◌, ℕ, List, true, false, ◌++◌, get_or, sym, ap, subst, ◌∙◌}
use Rattle.std.specs.List.{filter}
use Rattle.loading.specs.Families.{is_interface_in, interfaces_in, superclasses_in}
use Rattle.hierarchy.specs.steps.InterfaceOrders.{AddsInterfaces, Gathers}
use Rattle.hierarchy.specs.Initialization.{IsInitializationOrder, interface}
use Rattle.hierarchy.proofs.GatheredLemmas.{flagged_added}
use Rattle.hierarchy.proofs.InterfaceOrdersLemmas.{class_order}
use Rattle.hierarchy.proofs.initialization.order_of.Goals as goal

pub returns-then-is_interface-clause-order : goal.returns-then-is_interface-clause-order
returns-then-is_interface-clause-order c =
    let is : is_interface_in c.args.family.now c.args.class ≡ true = sym c.is_interface.ensures
    ∙ c.if-is_interface.true in
    subst (λ (order : List ℕ). IsInitializationOrder c.args.family.now c.args.class order)
    (sym (c.new-then-is_interface.ensures ∙ c.new.ensures.items)) (interface is)

pub returns-clause-order : goal.returns-clause-order
returns-clause-order c =
    let family = c.args.family.now in
    let class = c.args.class in
    let seen : List ℕ = c.left.result.now.items in
    let order : List ℕ = c.add_flagged.new.numbers.items in
    let is : is_interface_in family class ≡ false = sym c.is_interface.ensures ∙ c.if-is_interface.false in
    let gathered : Gathers family (interfaces_in family class) seen = rw c.left.ensures
    c.in_ok-leave_above.ensures.gathered in
    let added : order ≡ superclasses_in family class ++ filter (λ i. get_or c.args.first.now i false) seen =
    c.in_ok-add_flagged.ensures.added
    ∙ ap (λ (xs : List ℕ). xs ++ filter (λ i. get_or c.args.first.now i false) seen) c.in_ok-order.ensures.value in
    let adds : AddsInterfaces family (interfaces_in family class) (superclasses_in family class) order =
    flagged_added family (interfaces_in family class) seen (superclasses_in family class) order c.args.first.now
    c.requires.fits c.requires.first (c.requires.fits.interfaces class) gathered added in
    subst (λ (order : List ℕ). IsInitializationOrder family class order) (sym c.new-2.ensures)
    (class_order family class order is adds)
