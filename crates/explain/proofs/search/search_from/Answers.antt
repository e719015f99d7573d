use Rattle.std.proofs.Common.{◌≡◌, ◌∙◌, ℕ, [], ◌∷◌, List, slice_get, slice_index, ap, sym, subst, arith}
use Rattle.graph.specs.Rows.{successors_of}
use Rattle.graph.proofs.AddsLemmas.{Searching, searching_first, searching_next, searching_done, reached_from_one}
use Rattle.explain.specs.steps.Trees.{IsTree}
use Rattle.explain.proofs.TreesLemmas.{adds_first, first_joined, first_kept, tree_first, stands_at}
use Rattle.explain.proofs.search.search_from.Goals as goal

pub loop-next-init : goal.loop-next-init
loop-next-init c =
    let (new, newer) = first_joined c.args.seen.now.items c.args.finders.now.items c.add_found.new.seen.items
    c.add_found.new.finders.items c.args.from 0 c.requires.none c.requires.unfound c.in_ok-add_found.ensures.joins in
    record {
      limit = omega (arith, c.requires.limit, c.add_found.ensures.limit);
      searching = subst (λ (l : List ℕ). Searching c.args.graph.now (c.args.from ∷ []) l 0) (sym new)
          (searching_first c.args.graph.now (c.args.from ∷ []) (c.args.from ∷ []) (adds_first c.args.from));
      tree = subst (λ (l : List ℕ). IsTree c.args.graph.now l c.add_found.new.finders.items) (sym new)
          (subst (λ (l : List ℕ). IsTree c.args.graph.now (c.args.from ∷ []) l) (sym newer)
          (tree_first c.args.graph.now c.args.from 0));
      root = ap (λ (l : List ℕ). slice_get l 0) new;
    }

pub loop-next-preserved : goal.loop-next-preserved
loop-next-preserved c =
    let graph = c.args.graph.now in
    let here : ℕ = slice_index c.loop-next.seen.items c.loop-next.next in
    let row : c.successors.result.now ≡ successors_of graph here =
    c.successors.ensures.value ∙ ap (λ (v : ℕ). successors_of graph v) c.at-vertex.ensures.value in
    record {
      limit = omega (arith, c.loop-next.invariant.limit, c.add_vertices.ensures.limit);
      searching = searching_next graph (c.args.from ∷ []) c.loop-next.seen.items c.add_vertices.new.seen.items
          c.loop-next.next
          (omega arith) c.loop-next.invariant.searching (rw row at c.in_ok-add_vertices.ensures.adds);
      tree = c.in_ok-add_vertices.ensures.tree graph here
          (stands_at c.loop-next.seen.items c.loop-next.next (omega arith)) (sym row) c.loop-next.invariant.tree;
      root = first_kept c.loop-next.seen.items c.successors.result.now c.add_vertices.new.seen.items c.args.from
          c.in_ok-add_vertices.ensures.adds c.loop-next.invariant.root;
    }

pub returns-clause-members : goal.returns-clause-members
returns-clause-members c m =
    let done = searching_done c.args.graph.now (c.args.from ∷ []) c.loop-next.seen.items c.loop-next.next (omega arith)
    c.loop-next.invariant.searching in (
      λ h. (reached_from_one c.args.graph.now c.args.from m).0 ((done m).0 h),
      λ h. (done m).1 ((reached_from_one c.args.graph.now c.args.from m).1 h),
    )
