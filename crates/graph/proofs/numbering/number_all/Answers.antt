use Rattle.std.proofs.Common.{ℕ, ◌+◌, ◌-◌, ◌<◌, ◌≤◌, length, slice_index, arith}
use Rattle.std.specs.List.{Contains}
use Rattle.graph.specs.steps.Numbering.{Gathering}
use Rattle.graph.proofs.NumberedLemmas.{numbered_next, later_more, later_all}
use Rattle.graph.proofs.numbering.number_all.Goals as goal

pub loop-place-preserved : goal.loop-place-preserved
loop-place-preserved c =
    let back = c.args.back.now in
    let order = c.args.order.now in
    let old = c.loop-place.seen.items in
    let new = c.number_component.new.seen.items in
    let numbers = c.number_component.new.numbers in
    let place : ℕ = c.loop-place.place - 1 in
    let later : (k : ℕ) → place + 1 ≤ k → k < length order → Contains old (slice_index order k) =
    λ k low high. c.loop-place.invariant.later k (omega arith) high in
    let gathers : Gathering back (slice_index order place) old c.loop-place.numbers new numbers (length new) =
    c.in_ok-number_component.ensures.gathers in
    record {
      limit = omega (arith, c.in_ok-number_component.ensures.limit, c.loop-place.invariant.limit);
      small = omega (arith, c.loop-place.invariant.small);
      numbered = numbered_next back order old c.loop-place.numbers new numbers place c.requires.order
          (omega (arith, c.loop-place.invariant.small)) later c.in_ok-number_component.ensures.distinct
          c.in_ok-number_component.ensures.few gathers
          c.loop-place.invariant.numbered;
      later = later_more order old new place (λ x h. gathers.keeps x h) gathers.starts later;
    }

pub returns-clause-all : goal.returns-clause-all
returns-clause-all c = λ v small.
    later_all c.args.back.now c.args.order.now c.loop-place.seen.items v c.requires.order.each
    (λ k low high. c.loop-place.invariant.later k (omega arith) high) small
