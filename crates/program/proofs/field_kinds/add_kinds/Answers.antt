use Rattle.std.proofs.Common.{refl, sym, subst, ◌∙◌, append-nil}
use Rattle.program.specs.InstanceFields.{slots_of}
use Rattle.program.specs.steps.Slots.{IsChain, slots_if}
use Rattle.program.proofs.SlotsLemmas.{added_at}
use Rattle.program.proofs.EachSlotLemmas.{class_next, fewer_left}
use Rattle.program.proofs.field_kinds.add_kinds.Goals as goal

pub loop-next-init : goal.loop-next-init
loop-next-init c =
    let family = c.args.family.now in
    let class = c.args.class in
    let is : IsChain family (slots_of family class) c.chain-next.result =
    subst (IsChain family (slots_of family class)) (sym c.chain-next.ensures) (c.requires.tables.chains class) in
    record {
      kinds = rw c.requires.empty (is.nearest
          ∙ sym (append-nil (slots_if family c.chain-next.result.nearest)));
      adds = is.adds;
    }

pub loop-next-preserved : goal.loop-next-preserved
loop-next-preserved c =
    let family = c.args.family.now in
    record {
      kinds = class_next family c.classes-classes.ensures.fits c.classes-classes.ensures.within c.in-Some.adding
          (λ kinds. kinds) (λ front back. refl) c.loop-next.next c.above-next.result.nearest c.added.result.now
          c.loop-next.kinds.items c.add_kinds_of.new.kinds.items (slots_of family c.args.class) c.in-Some.is
          c.above-next.ensures.nearest
          (c.added.ensures ∙ added_at family c.args.tables.now.added c.requires.tables.added c.in-Some.adding)
          c.in_ok-add_kinds_of.ensures c.loop-next.invariant.kinds;
      adds = c.above-next.ensures.adds;
    }

pub loop-next-smaller : goal.loop-next-smaller
loop-next-smaller c =
    fewer_left c.args.family.now c.classes-classes.ensures.fits c.classes-classes.ensures.within c.in-Some.adding
    c.loop-next.next c.above-next.result.nearest c.in-Some.is c.above-next.ensures.nearest c.loop-next.invariant.adds

pub returns : goal.returns
returns c = sym (rw c.in_default.is at c.loop-next.invariant.kinds)
