use Rattle.std.proofs.Common.{◌≡◌, ◌∙◌, ◌++◌, ◌+◌, ℕ, List, map, take, sym, ap, subst, arith}
use Rattle.std.specs.declared.vec.Vec.{Vec}
use Rattle.std.specs.declared.alloc.Global.{Global}
use Rattle.std.specs.List.{flat_map}
use Rattle.std.proofs.lemmas.List.{take_all}
use Rattle.vm_state.specs.declared.object.Object.{Object}
use Rattle.object_graph.proofs.RowPlaceLemmas.{none_held}
use Rattle.image_format.specs.declared.version.Version.TheVariants.{Two}
use Rattle.image_format.specs.Texts.{kept_text}
use Rattle.image_format.specs.Told.{told_kept}
use Rattle.image_writer.proofs.PlacedLemmas.{low_at, sized_at, text_more}
use Rattle.image_writer.proofs.objects.push_objects.Goals as goal
use Rattle.image_writer.proofs.objects.push_objects.Goals.{in-Some+in_ok-push_kept, in_default}

abbrev items_of : Vec ℕ Global → List ℕ
items_of v = v.items

pub returns : goal.returns
returns c =
    c.loop-place.invariant
    ∙ ap (λ (z : List (ℕ × Object)). c.args.out.now.items
    ++ flat_map (kept_text Two c.args.program.now.family) (map (told_kept c.args.program.now.strings) z))
    (take_all c.loop-place.place c.args.objects.now.objects (omega (arith, c.len-place-end.ensures.all)))

pub loop-place-preserved : goal.loop-place-preserved
loop-place-preserved c =
    let os = c.args.objects.now.objects in
    let place = c.loop-place.place in
    let family = c.args.program.now.family in
    let strings = c.args.program.now.strings in
    let front = c.args.out.now.items in
    let Next : List ℕ → Type 0 =
    λ out. out ≡ front ++ flat_map (kept_text Two family) (map (told_kept strings) (take (place + 1) os)) in
    elim c.match-at.branch [
      | in-Some+in_ok-push_kept w ↦
          subst Next (ap items_of (sym w.out-is))
          (text_more os place w.in-Some.held.0 w.in-Some.held.1.now w.in-Some.ensures family strings
          c.loop-place.out.items w.push_kept.new.out.items front c.loop-place.invariant w.in_ok-push_kept.ensures)
      | in_default w ↦
          absurd (none_held os place c.at.result _ c.at.ensures w.in_default.not-Some
          (omega (arith, c.len-place-end.ensures.all)))
    ]

pub push_kept-requires-clause-sized : goal.push_kept-requires-clause-sized
push_kept-requires-clause-sized c =
    sized_at c.args.objects.now.objects c.loop-place.place c.in-Some.held.0 c.in-Some.held.1.now c.in-Some.ensures
    c.args.program.now c.requires.sized

pub overflow_cast-number : goal.overflow_cast-number
overflow_cast-number c =
    let low = low_at c.args.objects.now.objects c.loop-place.place c.in-Some.held.0 c.in-Some.held.1.now
    c.in-Some.ensures c.requires.numbers in
    omega (arith, low)
