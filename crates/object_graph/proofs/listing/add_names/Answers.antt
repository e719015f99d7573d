use Rattle.std.proofs.Common.{◌+◌, List, ◌++◌, ◌≡◌, take, sym, ap, subst, arith}
use Rattle.std.specs.declared.vec.Vec.{Vec}
use Rattle.std.specs.declared.alloc.Global.{Global}
use Rattle.object_graph.proofs.RowPlaceLemmas.{none_held}
use Rattle.object_graph.specs.declared.name_set.ObjectName.{ObjectName}
use Rattle.object_graph.specs.steps.Listed.{names_of}
use Rattle.object_graph.specs.steps.Places.{pool_in}
use Rattle.object_graph.proofs.ListedLemmas.{one_name}
use Rattle.object_graph.proofs.listing.add_names.Goals as goal
use Rattle.object_graph.proofs.listing.add_names.Goals.{in-Some+in_ok-push, in_default}

abbrev items_of : Vec ObjectName Global → List ObjectName
items_of v = v.items

pub loop-index-preserved : goal.loop-index-preserved
loop-index-preserved c =
    let os = (pool_in c.args.regions.now c.args.class).objects in
    let old = c.args.names.now.items in
    let Next : List ObjectName → Type 0 =
    λ names. names ≡ old ++ names_of c.args.class (take (c.loop-index.index + 1) os) in
    elim c.match-object_at.branch [
      | in-Some+in_ok-push w ↦
          subst Next (ap items_of (sym w.names-is))
          (one_name c.args.class os c.loop-index.index w.in-Some.held.0 w.in-Some.held.1.now old
          c.loop-index.names.items w.push.new.self.items w.in-Some.ensures.value c.loop-index.invariant
          w.in_ok-push.ensures.items)
      | in_default w ↦
          absurd (none_held os c.loop-index.index c.object_at.result _ c.object_at.ensures.value
          w.in_default.not-Some (omega (arith, c.count_in-index-end.ensures.all)))
    ]
