use Rattle.std.proofs.Common.{refl, ◌∙◌}
use Rattle.std.proofs.lemmas.Option.{slice_get-get_or}
use Rattle.hierarchy.proofs.WindowsLemmas.{noted_none, noted_more, noted_past}
use Rattle.hierarchy.proofs.windows.note.Goals as goal

pub loop-place-init : goal.loop-place-init
loop-place-init c = record {
  len = refl;
  mask = c.of_key-mask.ensures.mask;
  noted = noted_none c.args.declared.now c.args.start c.clear.new.own c.clear.ensures.here c.clear.ensures.same;
}

pub loop-place-preserved : goal.loop-place-preserved
loop-place-preserved c =
    let declared = c.args.declared.now in
    let place = c.loop-place.place in
    record {
      len = c.note_class.ensures.len ∙ c.loop-place.invariant.len;
      mask = c.changed_to-mask.ensures.mask;
      noted = noted_more declared c.args.start place _
          (slice_get-get_or declared place _ c.loop-place-test.true) c.loop-place.own c.note_class.new.own
          c.note_class.ensures.len c.bit_of-here.result c.changed_to-mask.result c.changed_to-mask.ensures.key
          c.changed_to-mask.ensures.mask c.bit_of-here.ensures c.note_class.ensures.notes c.loop-place.invariant.noted;
    }

pub returns-clause-len : goal.returns-clause-len
returns-clause-len c = c.loop-place.invariant.len ∙ c.clear.ensures.len

pub returns-clause-noted : goal.returns-clause-noted
returns-clause-noted c = noted_past c.args.declared.now c.args.start c.loop-place.place c.loop-place.own
    c.loop-place-test.false c.loop-place.invariant.noted
