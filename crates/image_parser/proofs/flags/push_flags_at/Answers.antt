use Rattle.std.proofs.Common.{◌≡◌, ◌∙◌, ◌-◌, [], ◌∷◌, ◌++◌, arith, refl}
use Rattle.std.proofs.lemmas.Result.{err_from_is_err_and}
use Rattle.region_shape.specs.Regions.{environment_of}
use Rattle.image_parser.specs.reading.Flags.{flag_in}
use Rattle.image_parser.proofs.FlagLemmas.{next_flag, flag_fails, all_flags}
use Rattle.image_parser.proofs.FlagReadsLemmas.{below_more, below_none}
use Rattle.image_parser.proofs.flags.push_flags_at.Goals as goal

pub loop-class-init : goal.loop-class-init
loop-class-init c =
    let all : c.args.count - 0 ≡ c.args.count = omega arith in
    record { told = []; below = rw c.requires (below_none c.args.program.now); reads = rw all refl }

pub returns-in_err-region : goal.returns-in_err-region
returns-in_err-region c =
    let p = err_from_is_err_and c.from_residual.result c.from_residual.ensures.1 in
    let so_far = c.loop-class.invariant in
    let family = so_far.below.adds.family in
    rw (p.1, p.2) (
      flag_fails (flag_in c.args.version c.args.program.now.family) c.in_err-region.field-0.0 _ _
          c.loop-class-test.true (rw family at c.in_err-region.ensures.0) so_far.reads,
      c.in_err-region.ensures.1 ∙ family,
    )

pub loop-class-preserved : goal.loop-class-preserved
loop-class-preserved c =
    let so_far = c.loop-class.invariant in
    let family = so_far.below.adds.family in
    let h = c.in_ok-region.ensures in
    record {
      told = so_far.told ++ h.told ∷ [];
      below =
          below_more c.args.program.now c.loop-class.program c.flag_in.new.program so_far.told c.loop-class.class
          (environment_of c.loop-class.regions) (environment_of c.add_region.new.regions) _ _ _ so_far.below h
          (c.in_ok-add_region.ensures c.flag_in.new.program.strings so_far.told h.told so_far.below.count);
      reads =
          next_flag (flag_in c.args.version c.args.program.now.family) _ _ c.loop-class-test.true (rw family at h.is)
          so_far.reads;
    }

pub returns : goal.returns
returns c =
    let so_far = c.loop-class.invariant in
    record {
      told = so_far.told;
      is =
          all_flags (flag_in c.args.version c.args.program.now.family) _ _ c.loop-class-test.false so_far.reads;
      holds = so_far.below.holds;
      adds = so_far.below.adds;
      same = so_far.below.same;
    }
