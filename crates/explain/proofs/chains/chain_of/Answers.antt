use Rattle.std.proofs.Common.{◌≡◌, ◌∙◌, ℕ, ◌+◌, List, [], ◌∷◌, ◌++◌, length, ap, sym, subst}
use Rattle.std.proofs.lemmas.List.{length_push}
use Rattle.explain.specs.Chains.{Chained, alone, on, DependsOn}
use Rattle.explain.proofs.ChainsLemmas.{chain_uses, next_is}
use Rattle.explain.proofs.chains.chain_of.Goals as goal

pub loop-init : goal.loop-init
loop-init c =
    let e : c.push.new.self.items ≡ c.args.class ∷ [] =
    c.in_ok-push.ensures.items ∙ ap (λ (l : List ℕ). l ++ c.args.class ∷ []) c.new-chain.ensures.items in record {
      chain = subst (λ (l : List ℕ). Chained (DependsOn c.args.verdicts.now) c.args.class l c.args.class) (sym e) alone;
      len = ap length e;
    }

pub loop-preserved : goal.loop-preserved
loop-preserved c = record {
  chain = subst (λ (l : List ℕ). Chained (DependsOn c.args.verdicts.now) c.args.class l c.in-Some.next)
      (sym c.in_ok-push-2.ensures.items)
      (on c.loop.invariant.chain (next_is c.args.verdicts.now c.loop.last c.in-Some.next c.in-Some.ensures));
  len = ap length c.in_ok-push-2.ensures.items
      ∙ length_push c.loop.chain.items c.in-Some.next
      ∙ ap (λ (n : ℕ). n + 1) c.loop.invariant.len;
}

pub returns-in_default-clause-uses : goal.returns-in_default-clause-uses
returns-in_default-clause-uses c P so =
    chain_uses P c.args.verdicts.now c.args.class c.loop.chain.items c.loop.last c.loop.invariant.chain so

pub returns-clause-uses : goal.returns-clause-uses
returns-clause-uses c P so =
    chain_uses P c.args.verdicts.now c.args.class c.loop.chain.items c.loop.last c.loop.invariant.chain so
