use Rattle.object_graph.proofs.ListedLemmas.{names_more, distinct_more}
use Rattle.object_graph.proofs.listing.add_all_names.Goals as goal

pub loop-class-preserved : goal.loop-class-preserved
loop-class-preserved c = record {
  listed = names_more c.args.regions.now c.loop-class.class c.loop-class.names.items c.add_names.new.names.items
      c.loop-class.invariant.listed c.in_ok-add_names.ensures.all;
  distinct = distinct_more c.args.regions.now c.loop-class.class c.loop-class.invariant.distinct
      c.add_names.ensures.ascending;
}
