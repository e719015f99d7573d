use Rattle.std.proofs.Common.{ℕ, refl, slice_index, arith}
use Rattle.std.proofs.lemmas.List.Elements.{Contains-get_or}
use Rattle.explain.proofs.TreesLemmas.{adds_none, adds_joined, here_joined, tree_joined}
use Rattle.explain.proofs.search.add_vertices.Goals as goal

pub loop-vertex-init : goal.loop-vertex-init
loop-vertex-init c = record {
  limit = refl;
  adds = adds_none c.args.seen.now.items;
  tree = λ graph u at row tree. (tree, at);
}

pub loop-vertex-preserved : goal.loop-vertex-preserved
loop-vertex-preserved c =
    let items = c.loop-vertex.seen.items in
    let new = c.add_found.new.seen.items in
    let finders = c.loop-vertex.finders.items in
    let newer = c.add_found.new.finders.items in
    let v : ℕ = slice_index c.args.vertices.now c.loop-vertex.vertex-index in
    record {
      limit = omega (arith, c.loop-vertex.invariant.limit, c.add_found.ensures.limit);
      adds = adds_joined c.args.seen.now.items c.args.vertices.now items new finders newer c.loop-vertex.vertex-index v
          c.args.place (omega arith) refl c.loop-vertex.invariant.adds c.in_ok-add_found.ensures.joins;
      tree = λ graph u at row tree. (let (before, here) = c.loop-vertex.invariant.tree graph u at row tree in (
        tree_joined graph items finders new newer v c.args.place u c.in_ok-add_found.ensures.joins here
            (rw row (Contains-get_or c.args.vertices.now c.loop-vertex.vertex-index 0 (omega arith))) before,
        here_joined items new finders newer v c.args.place c.args.place u c.in_ok-add_found.ensures.joins here,
      ));
    }

pub returns-clause-tree : goal.returns-clause-tree
returns-clause-tree c graph u at row tree = (c.loop-vertex.invariant.tree graph u at row tree).0
