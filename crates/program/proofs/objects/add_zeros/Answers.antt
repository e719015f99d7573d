use Rattle.std.proofs.Common.{map, sym, ap, subst, ◌∙◌, append-nil}
use Rattle.std.proofs.lemmas.List.{map-append}
use Rattle.program.specs.InstanceFields.{slots_of}
use Rattle.program.specs.Programs.{zero_of}
use Rattle.program.specs.steps.Slots.{IsChain, slots_if}
use Rattle.program.proofs.SlotsLemmas.{added_at}
use Rattle.program.proofs.EachSlotLemmas.{class_next, fewer_left}
use Rattle.program.proofs.objects.add_zeros.Goals as goal

pub loop-next-init : goal.loop-next-init
loop-next-init c =
    let family = c.args.family.now in
    let class = c.args.class in
    let is : IsChain family (slots_of family class) c.chain-next.result =
    subst (IsChain family (slots_of family class)) (sym c.chain-next.ensures) (c.requires.tables.chains class) in
    record {
      zeros = rw c.requires.empty (ap (map zero_of) is.nearest
          ∙ sym (append-nil (map zero_of (slots_if family c.chain-next.result.nearest))));
      adds = is.adds;
    }

pub loop-next-preserved : goal.loop-next-preserved
loop-next-preserved c =
    let family = c.args.family.now in
    record {
      zeros = class_next family c.classes-classes.ensures.fits c.classes-classes.ensures.within c.in-Some.adding
          (map zero_of) (map-append zero_of) c.loop-next.next c.above-next.result.nearest c.added.result.now
          c.loop-next.slots.items c.add_zeros_of.new.slots.items (map zero_of (slots_of family c.args.class))
          c.in-Some.is c.above-next.ensures.nearest
          (c.added.ensures ∙ added_at family c.args.tables.now.added c.requires.tables.added c.in-Some.adding)
          c.in_ok-add_zeros_of.ensures c.loop-next.invariant.zeros;
      adds = c.above-next.ensures.adds;
    }

pub loop-next-smaller : goal.loop-next-smaller
loop-next-smaller c =
    fewer_left c.args.family.now c.classes-classes.ensures.fits c.classes-classes.ensures.within c.in-Some.adding
    c.loop-next.next c.above-next.result.nearest c.in-Some.is c.above-next.ensures.nearest c.loop-next.invariant.adds

pub returns : goal.returns
returns c = sym (rw c.in_default.is at c.loop-next.invariant.zeros)
