use Rattle.std.proofs.Common.{◌≡◌, ℕ, ◌<◌, List, length, take, get_or, refl, sym, subst, ◌∙◌, arith}
use Rattle.std.specs.List.{Contains}
use Rattle.std.proofs.lemmas.List.{length-set, take_all}
use Rattle.program.specs.declared.slots.SlotChain.{SlotChain}
use Rattle.program.specs.InstanceFields.{slots_of}
use Rattle.program.specs.steps.Slots.{IsChain, chain_in}
use Rattle.program.proofs.SlotsLemmas.{all_chains, chain_came, chains_next}
use Rattle.program.proofs.slots.find_chains.Goals as goal

pub loop-class-init : goal.loop-class-init
loop-class-init c = record { count = c.requires.count; chains = λ d there. absurd (omega (arith, there.1)) }

pub chain_of-chain-requires-clause-above : goal.chain_of-chain-requires-clause-above
chain_of-chain-requires-clause-above c = λ d e.
    let family = c.args.family.now in
    let order = c.parents_first-order.result.now in
    let i = c.loop-class.class-index in
    subst (λ (chains : List SlotChain). IsChain family (slots_of family d) (chain_in chains d))
    (sym c.deref.ensures.value)
    (chain_came family order c.loop-class.chains.items i (get_or order i 0) c.parents_first-order.ensures
    (omega arith) refl c.loop-class.invariant.chains d e)

pub index_mut-requires : goal.index_mut-requires
index_mut-requires c =
    let order = c.parents_first-order.result.now in
    let i = c.loop-class.class-index in
    let small : i < length order = omega arith in
    let within : get_or order i 0 < length c.args.family.now = c.parents_first-order.ensures.within i 0 small in
    omega (arith, within, c.loop-class.invariant.count)

pub loop-class-preserved : goal.loop-class-preserved
loop-class-preserved c =
    let family = c.args.family.now in
    let order = c.parents_first-order.result.now in
    let i = c.loop-class.class-index in
    let chains = c.loop-class.chains.items in
    let class = get_or order i 0 in
    let small : i < length order = omega arith in
    let within : class < length family = c.parents_first-order.ensures.within i 0 small in
    record {
      count = length-set chains class c.chain_of-chain.result ∙ c.loop-class.invariant.count;
      chains = chains_next family order chains _ i class c.chain_of-chain.result small refl
          (omega (arith, within, c.loop-class.invariant.count)) refl c.chain_of-chain.ensures
          c.loop-class.invariant.chains;
    }

pub returns : goal.returns
returns c =
    let family = c.args.family.now in
    let order = c.parents_first-order.result.now in
    let all : take c.loop-class.class-index order ≡ order = take_all c.loop-class.class-index order (omega arith) in
    all_chains family c.classes-classes.ensures.fits c.classes-classes.ensures.within order c.loop-class.chains.items
    c.loop-class.invariant.count c.parents_first-order.ensures.whole
    (λ d there. c.loop-class.invariant.chains d (subst (λ (xs : List ℕ). Contains xs d) (sym all) there))
