use Rattle.std.proofs.Common.{◌↔◌, ◌⊎◌, ◌≤◌, ◌<◌, ℕ, length, subst, arith}
use Rattle.std.specs.List.{Contains}
use Rattle.hierarchy.specs.declared.member.DeclaredMember.{DeclaredMember}
use Rattle.use_graph.specs.steps.Searching.{IsMethodAt, AddsMethod}
use Rattle.use_graph.proofs.CollectedLemmas.{collected_none, collected_more, collected_all}
use Rattle.use_graph.proofs.ListedLemmas.{listed_none, listed_more}
use Rattle.use_graph.proofs.search.add_methods.Goals as goal

pub loop-place-init : goal.loop-place-init
loop-place-init c = record {
  collected = collected_none (IsMethodAt c.args.graph.now.methods) c.args.reached.now.items c.args.methods.now.items;
  listed = listed_none c.args.graph.now.methods c.args.reached.now.items c.args.methods.now.items c.requires;
}

pub loop-place-preserved : goal.loop-place-preserved
loop-place-preserved c =
    let low : c.loop-place.place < length c.args.reached.now.items = omega arith in
    let methods = c.args.graph.now.methods in
    let reached = c.args.reached.now.items in record {
      collected = collected_more (IsMethodAt methods) reached c.args.methods.now.items c.loop-place.methods.items
          c.add_method.new.methods.items c.loop-place.place 0 low c.loop-place.invariant.collected
          (subst (λ (v : ℕ). (m : DeclaredMember) → Contains c.add_method.new.methods.items m
          ↔ (Contains c.loop-place.methods.items m ⊎ IsMethodAt methods v m)) c.at.ensures.value
          c.in_ok-add_method.ensures.all);
      listed = listed_more methods reached c.loop-place.place c.loop-place.methods.items
          c.len-place-end.ensures.distinct low c.in_ok-add_method.ensures.numbered c.loop-place.invariant.listed
          c.add_method.new.methods.items
          (subst (λ (v : ℕ). AddsMethod methods v c.loop-place.methods.items c.add_method.new.methods.items)
          c.at.ensures.value c.in_ok-add_method.ensures.adds);
    }

pub returns-clause-all : goal.returns-clause-all
returns-clause-all c =
    let whole : length c.args.reached.now.items ≤ c.loop-place.place = omega arith in
    collected_all (IsMethodAt c.args.graph.now.methods) c.args.reached.now.items c.args.methods.now.items
    c.loop-place.methods.items c.loop-place.place whole c.loop-place.invariant.collected

pub returns-clause-once : goal.returns-clause-once
returns-clause-once c = c.loop-place.invariant.listed.once
