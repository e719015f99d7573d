use Rattle.std.proofs.Common.{◌+◌, ◌∙◌, List, take, get_or, pos, sym, subst, arith}
use Rattle.std.proofs.lemmas.Option.{get_or_from_slice_get, slice_get-get_or}
use Rattle.vm_state.specs.declared.value.Value.TheVariants.{Int}
use Rattle.place_set.specs.declared.set.Place.{Place}
use Rattle.place_set.specs.steps.Adds.{Adds}
use Rattle.object_graph.specs.steps.Places.{HoldPlace}
use Rattle.object_graph.proofs.PlaceLemmas.{hold_none, hold_more, hold_all}
use Rattle.object_graph.proofs.reach.visit_values.Goals as goal
use Rattle.object_graph.proofs.reach.visit_values.Goals.{in-Some+in_ok-visit_value, in_default}

pub loop-slot-init : goal.loop-slot-init
loop-slot-init c = hold_none c.args.regions.now c.args.found.now

pub loop-slot-preserved : goal.loop-slot-preserved
loop-slot-preserved c =
    let regions = c.args.regions.now in
    let slots = c.args.slots.now in
    let slot = c.loop-slot.slot in
    let old = c.args.found.now in
    let Next : List Place → Type 0 = λ found. Adds old (HoldPlace regions (take (slot + 1) slots)) found in
    elim c.match-get.branch [
      | in-Some+in_ok-visit_value w ↦
          let there = get_or_from_slice_get slots slot w.in-Some.value w.in-Some.value (sym w.in-Some.ensures) in
          subst Next (sym w.found-is)
          (hold_more regions slots slot w.in-Some.value old c.loop-slot.found w.visit_value.new.found
          (omega (arith, c.len-slot-end.ensures)) (sym there) c.loop-slot.invariant w.in_ok-visit_value.ensures)
      | in_default w ↦
          absurd (w.in_default.not-Some (get_or slots slot (Int (pos 0))) (c.get.ensures
          ∙ slice_get-get_or slots slot (Int (pos 0)) (omega (arith, c.len-slot-end.ensures))))
    ]

pub returns : goal.returns
returns c =
    hold_all c.args.regions.now c.args.slots.now c.loop-slot.slot c.args.found.now c.loop-slot.found
    (omega (arith, c.len-slot-end.ensures)) c.loop-slot.invariant
