use Rattle.std.proofs.Common.{◌≡◌, ℕ, List, true, sym, subst, ◌∙◌, arith, rules}
use Rattle.std.specs.List.{Contains}
use Rattle.std.proofs.lemmas.List.Elements.{Contains-push}
use Rattle.std.proofs.lemmas.Option.{slice_get_within}
use Rattle.std.proofs.lemmas.Bool.{not-false}
use Rattle.use_graph.proofs.PartsLemmas.{part_grouped, joined_at_end}
use Rattle.use_graph.proofs.call_graph.add_group.Goals as goal

pub returns : goal.returns
returns c =
    let growing = c.requires.growing in
    let added = c.in_ok-add_like.ensures in
    let fresh : c.in_ok-add.field-0 ≡ true = search (rules, not-false) in
    let joined = joined_at_end c.in_ok-add.field-0 c.args.groups.now.items c.add.new.self.items c.args.number fresh
    c.in_ok-add.ensures.ok in
    record {
      growing = record {
        few = growing.few;
        limit = c.add.ensures.limit ∙ growing.limit;
        part = part_grouped c.args.program.now c.args.numbers.now c.args.graph.now c.add_like.new.graph
            c.args.groups.now.items c.add.new.self.items c.args.number c.group_vertex-vertex.result c.args.method
            growing.part c.requires.number added.len c.group_vertex-vertex.ensures joined added.extends added.all;
      };
      grows = added.extends.keeps;
      leads = subst (λ (l : List ℕ). Contains l c.args.number) (sym joined)
          (Contains-push c.args.groups.now.items c.args.number);
    }

pub add_like-requires-clause-from : goal.add_like-requires-clause-from
add_like-requires-clause-from c =
    omega (
      arith,
      c.group_vertex-vertex.ensures,
      c.requires.growing.part.vertices,
      slice_get_within c.args.numbers.now c.args.number c.args.method c.requires.number,
    )

pub add_like-requires-clause-vertices : goal.add_like-requires-clause-vertices
add_like-requires-clause-vertices c = omega (arith, c.requires.growing.part.vertices)

pub add-requires : goal.add-requires
add-requires c =
    omega (
      arith,
      c.requires.growing.limit,
      slice_get_within c.args.numbers.now c.args.number c.args.method c.requires.number,
    )
