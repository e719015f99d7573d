use Rattle.std.proofs.Common.{◌≡◌, ◌∙◌, ◌-◌, [], ◌∷◌, ◌++◌, arith, refl}
use Rattle.std.proofs.lemmas.Result.{err_from_is_err_and}
use Rattle.image_parser.specs.RegionFaults.{above}
use Rattle.image_parser.specs.reading.Held.{HoldsKept}
use Rattle.image_parser.specs.reading.Objects.{kept_at}
use Rattle.image_parser.proofs.ChainLemmas.{next_link, link_fails, all_links, first_least, within, next_least}
use Rattle.image_parser.proofs.ChainLemmas.{least_within, not_below}
use Rattle.image_parser.proofs.ObjectReadsLemmas.{ascends_more, ascends_up}
use Rattle.image_parser.proofs.ReadsLemmas.{grows_more, grows_none, held_all}
use Rattle.image_parser.proofs.StaysLemmas.{kept_stays}
use Rattle.image_parser.proofs.kept_objects.push_objects_at.Goals as goal

pub loop-index-init : goal.loop-index-init
loop-index-init c =
    let all : c.args.many - 0 ≡ c.args.many = omega arith in
    record {
      reads = record {
        told = [];
        grows = rw c.requires.none (grows_none HoldsKept c.args.program.now);
        reads = rw all refl;
      };
      least = first_least c.args.version c.args.count;
      ascends = rw c.requires.none (omega arith);
    }

pub returns-in_err-number-clause-value : goal.returns-in_err-number-clause-value
returns-in_err-number-clause-value c =
    let p = err_from_is_err_and c.from_residual.result c.from_residual.ensures.1 in
    let so_far = c.loop-index.invariant.reads in
    let family = so_far.grows.adds.family in
    rw (p.1, p.2) (
      link_fails (kept_at c.args.version c.args.program.now.family c.args.count) above c.in_err-number.field-0.0
          c.loop-index.least _ _ c.loop-index-test.true (rw family at c.in_err-number.ensures.value.0) so_far.reads,
      c.in_err-number.ensures.value.1 ∙ family,
    )

pub loop-index-preserved : goal.loop-index-preserved
loop-index-preserved c =
    let so_far = c.loop-index.invariant.reads in
    let family = so_far.grows.adds.family in
    let h = c.in_ok-number.ensures.value in
    record {
      reads = record {
        told = so_far.told ++ h.told ∷ [];
        grows = rw (c.in_ok-push.ensures.items, c.from.ensures)
            (grows_more HoldsKept kept_stays c.args.program.now c.loop-index.program c.kept_at.new.program so_far.told
            c.loop-index.objects.items (c.in_ok-number.number, c.in_ok-number.object) _ _ so_far.grows h);
        reads =
            let next = next_link (kept_at c.args.version c.args.program.now.family c.args.count) above
            c.loop-index.least _ _ c.loop-index-test.true (rw family at h.is) so_far.reads in
            rw h.holds.0 next;
      };
      least = next_least c.args.version c.args.count c.args.many c.loop-index._index c.loop-index.least
          c.in_ok-number.number c.loop-index.invariant.least c.loop-index-test.true c.requires.many
          c.in_ok-number.ensures.number;
      ascends =
          rw (c.in_ok-push.ensures.items, c.from.ensures)
          (ascends_more 0 c.loop-index.least c.args.count c.loop-index.objects.items c.in_ok-number.number
          c.in_ok-number.object c.loop-index.invariant.ascends
          (not_below c.args.version c.args.count c.loop-index.least c.in_ok-number.number
          c.in_ok-number.ensures.number));
    }

pub overflow_add-least : goal.overflow_add-least
overflow_add-least c =
    let le = within c.args.version c.args.count c.args.many c.loop-index._index c.loop-index.least
    c.in_ok-number.number c.loop-index.invariant.least c.loop-index-test.true c.requires.many
    c.in_ok-number.ensures.number in
    omega (arith, le)

pub returns-clause-value : goal.returns-clause-value
returns-clause-value c =
    let so_far = c.loop-index.invariant.reads in
    held_all HoldsKept c.args.program.now c.loop-index.program so_far.told c.loop-index.objects.items _ _ so_far.grows
    (all_links (kept_at c.args.version c.args.program.now.family c.args.count) above c.loop-index.least _ _
    c.loop-index-test.false so_far.reads)

pub returns-clause-ascending : goal.returns-clause-ascending
returns-clause-ascending c =
    ascends_up 0 c.loop-index.least c.args.count c.loop-index.objects.items c.loop-index.invariant.ascends
    (least_within c.args.version c.args.count c.args.many c.loop-index._index c.loop-index.least
    c.loop-index.invariant.least (omega arith) c.requires.many)
