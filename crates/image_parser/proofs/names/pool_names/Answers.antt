use Rattle.std.proofs.Common.{arith, refl}
use Rattle.image_parser.specs.reading.Named.{KeptNames}
use Rattle.image_parser.proofs.NamesLemmas.{kept_of_pool, more_below, pool_of_kept}
use Rattle.image_parser.proofs.names.pool_names.Goals as goal

pub loop-place-init : goal.loop-place-init
loop-place-init c = λ k low. absurd (omega (arith, low))

pub loop-place-preserved : goal.loop-place-preserved
loop-place-preserved c =
    more_below (KeptNames c.args.regions.now c.args.pool.now) c.loop-place.place c.loop-place.invariant
    (c.kept_names.ensures.0 (let on = c.if-not-kept_names.false in cc))

pub returns-then-not-kept_names : goal.returns-then-not-kept_names
returns-then-not-kept_names c = (
  λ e. absurd cc,
  λ h. let on = c.kept_names.ensures.1 (kept_of_pool c.args.regions.now c.args.pool.now c.len-place-end.ensures.pool
      c.loop-place.place h) in
      let off = c.if-not-kept_names.true in cc,
)

pub returns : goal.returns
returns c = (
  λ e. pool_of_kept c.args.regions.now c.args.pool.now c.len-place-end.ensures.pool
      (λ k low. c.loop-place.invariant k (omega (arith, low, c.len-place-end.ensures.all))),
  λ h. refl,
)
