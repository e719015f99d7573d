use Rattle.std.proofs.Common.{ℕ, List, subst, sym}
use Rattle.vm_state.specs.declared.object.Object.{Object}
use Rattle.vm_state.specs.Objects.{AscendsFrom}
use Rattle.object_graph.proofs.KeptLemmas.{kept_rises}
use Rattle.object_graph.proofs.cutting.found_pool.Goals as goal

pub of_objects-requires : goal.of_objects-requires
of_objects-requires c =
    let P : List (ℕ × Object) → Type 0 = λ os. AscendsFrom 0 os c.in_ok-count.count in
    subst P (sym c.in-Ok.ensures)
    (kept_rises c.args.found.now c.args.class 0 0 c.in_ok-count.objects.items c.in_ok-count.count
    c.in_ok-count.ensures.ascending)
