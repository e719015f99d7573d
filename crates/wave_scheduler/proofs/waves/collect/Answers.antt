use Rattle.std.proofs.Common.{ℕ, ◌<◌, List, length, slice_index, take, subst, sym, ◌∙◌, add-one, option_map, arith}
use Rattle.std.proofs.lemmas.List.{length-map, take_all}
use Rattle.loading.specs.Families.{Family, IsFamily, AreParentsWithin}
use Rattle.region_shape.specs.Regions.{environment_of, region_of, region_in}
use Rattle.wave_scheduler.specs.Outcomes.{outcome_of, settled_of}
use Rattle.wave_scheduler.specs.steps.Finding.{TriesThese}
use Rattle.wave_scheduler.specs.steps.Waves.{AreTriedBelow}
use Rattle.wave_scheduler.proofs.FindingLemmas.{region_seen, none_seen}
use Rattle.wave_scheduler.proofs.CrewsLemmas.{lent_has}
use Rattle.wave_scheduler.proofs.TaintedLemmas.{searched, vertex_low}
use Rattle.wave_scheduler.proofs.TryingLemmas.{tries_none, tries_all, goes_on, can_run, nothing_yet}
use Rattle.wave_scheduler.proofs.TryingLemmas.{next_done, wave_at, low_at}
use Rattle.wave_scheduler.proofs.TriesLemmas.{waves_go_on_lem}
use Rattle.wave_scheduler.proofs.waves.collect.Goals as goal

pub loop-class-init : goal.loop-class-init
loop-class-init g c =
    let (forced, are) = c.requires.wave.judged in
    record {
      tries = tries_none c.args.wave.terms.program.now forced c.args.wave.terms.budget c.args.wave.terms.verdicts.now
          c.args.wave.number
          (settled_of c.args.settled.now) c.classes-tables.ensures.fits
          (subst IsFamily c.family.ensures c.classes-given.ensures.fits)
          (subst (λ (f : Family). AreParentsWithin f) c.family.ensures c.classes-given.ensures.within) are
          c.requires.wave.tried;
      tainted = c.requires.wave.tainted;
    }

pub try_class-requires-clause-searched : goal.try_class-requires-clause-searched
try_class-requires-clause-searched g c = λ κs alive.
    searched c.args.wave.terms.program.now (settled_of c.loop-class.settled) c.loop-class.tainted
    c.loop-class.invariant.tainted

pub try_class-requires-clause-vertex : goal.try_class-requires-clause-vertex
try_class-requires-clause-vertex g c = λ κs alive.
    let (forced, are) = c.requires.wave.judged in
    let members = c.args.wave.classes.now in
    let i = c.loop-class.class-index in
    vertex_low c.args.wave.terms.program.now (settled_of c.loop-class.settled) c.loop-class.tainted
    c.loop-class.invariant.tainted (slice_index members i)
    (low_at c.args.wave.terms.program.now forced c.args.wave.terms.verdicts.now c.args.wave.number members i are
    c.requires.wave.members (omega arith))

pub try_class-requires-clause-class : goal.try_class-requires-clause-class
try_class-requires-clause-class g c =
    let (forced, are) = c.requires.wave.judged in
    let members = c.args.wave.classes.now in
    let i = c.loop-class.class-index in
    let low : slice_index members i < length c.args.wave.terms.program.now.classes =
    low_at c.args.wave.terms.program.now forced c.args.wave.terms.verdicts.now c.args.wave.number members i are
    c.requires.wave.members (omega arith) in
    omega (arith, c.loop-class.invariant.tries.count, length-map c.loop-class.settled.verdicts outcome_of)

pub try_class-requires-clause-place : goal.try_class-requires-clause-place
try_class-requires-clause-place g c =
    let (forced, are) = c.requires.wave.judged in
    let members = c.args.wave.classes.now in
    let i = c.loop-class.class-index in
    let low : slice_index members i < length c.args.wave.terms.program.now.classes =
    low_at c.args.wave.terms.program.now forced c.args.wave.terms.verdicts.now c.args.wave.number members i are
    c.requires.wave.members (omega arith) in
    omega (arith, c.loop-class.invariant.tries.regions, length-map c.loop-class.settled.regions (option_map region_of))

pub try_class-requires-clause-none : goal.try_class-requires-clause-none
try_class-requires-clause-none g c = λ κs alive.
    let (forced, are) = c.requires.wave.judged in
    let members = c.args.wave.classes.now in
    let i = c.loop-class.class-index in
    let held = c.loop-class.settled.regions in
    none_seen (region_in held (slice_index members i)) (region_seen held (slice_index members i)
    ∙ nothing_yet c.args.wave.terms.program.now forced c.args.wave.terms.budget c.args.wave.terms.verdicts.now
    c.args.wave.number
    (settled_of c.args.settled.now) c.classes-tables.ensures.fits
    (subst IsFamily c.family.ensures c.classes-given.ensures.fits)
    (subst (λ (f : Family). AreParentsWithin f) c.family.ensures c.classes-given.ensures.within) are
    c.requires.wave.tried (take i members) (settled_of c.loop-class.settled) c.loop-class.tainted
    c.loop-class.invariant.tries c.loop-class.invariant.tainted (slice_index members i)
    (wave_at c.args.wave.terms.verdicts.now c.args.wave.number members i c.requires.wave.members (omega arith))
    (c.requires.wave.members.once i (omega arith)))

pub try_class-requires-clause-run : goal.try_class-requires-clause-run
try_class-requires-clause-run g c = λ κs alive.
    let (forced, are) = c.requires.wave.judged in
    let members = c.args.wave.classes.now in
    let i = c.loop-class.class-index in
    can_run c.args.wave.terms.program.now forced c.args.wave.terms.budget c.args.wave.terms.verdicts.now
    c.args.wave.number
    (settled_of c.args.settled.now) c.classes-tables.ensures.fits
    (subst IsFamily c.family.ensures c.classes-given.ensures.fits)
    (subst (λ (f : Family). AreParentsWithin f) c.family.ensures c.classes-given.ensures.within) are
    c.requires.wave.tried (take i members) (settled_of c.loop-class.settled) c.loop-class.tainted
    c.loop-class.invariant.tries c.loop-class.invariant.tainted (slice_index members i)
    (wave_at c.args.wave.terms.verdicts.now c.args.wave.number members i c.requires.wave.members (omega arith))
    (c.requires.wave.members.once i (omega arith)) (environment_of c.loop-class.settled.regions)
    (λ d. region_seen c.loop-class.settled.regions d)

pub loop-class-preserved : goal.loop-class-preserved
loop-class-preserved g c =
    let (forced, are) = c.requires.wave.judged in
    let members = c.args.wave.classes.now in
    let i = c.loop-class.class-index in
    let P = c.args.wave.terms.program.now in
    let new = settled_of c.try_class.new.settled in
    let (tries, tainted) = goes_on P forced c.args.wave.terms.budget c.args.wave.terms.verdicts.now c.args.wave.number
    (settled_of c.args.settled.now) c.classes-tables.ensures.fits
    (subst IsFamily c.family.ensures c.classes-given.ensures.fits)
    (subst (λ (f : Family). AreParentsWithin f) c.family.ensures c.classes-given.ensures.within) are
    c.requires.wave.tried (take i members) (settled_of c.loop-class.settled) c.loop-class.tainted
    c.loop-class.invariant.tries c.loop-class.invariant.tainted (slice_index members i)
    (wave_at c.args.wave.terms.verdicts.now c.args.wave.number members i c.requires.wave.members (omega arith))
    (c.requires.wave.members.once i (omega arith)) (environment_of g.W.Lent.regions)
    (environment_of c.loop-class.settled.regions)
    (λ d r here. lent_has c.args.settled.now c.args.wave.number g.W.Lent.regions c.requires.regions d r here)
    (λ d. region_seen c.loop-class.settled.regions d) new c.try_class.new.tainted c.in_ok-try_class.ensures in
    record {
      tries = subst (λ (done : List ℕ). TriesThese P c.args.wave.terms.budget c.args.wave.terms.verdicts.now
          c.args.wave.number done
          (settled_of c.args.settled.now) new) (sym (next_done members i (omega arith))) tries;
      tainted = tainted;
    }

pub returns : goal.returns
returns g c =
    let (forced, are) = c.requires.wave.judged in
    let members = c.args.wave.classes.now in
    let P = c.args.wave.terms.program.now in
    let judged = c.args.wave.terms.verdicts.now in
    let old = settled_of c.args.settled.now in
    let new = settled_of c.loop-class.settled in
    let all : TriesThese P c.args.wave.terms.budget judged c.args.wave.number members old new =
    subst (λ (done : List ℕ). TriesThese P c.args.wave.terms.budget judged c.args.wave.number done old new)
    (take_all c.loop-class.class-index members (omega arith)) c.loop-class.invariant.tries in
    record {
      tried = subst (λ (n : ℕ). AreTriedBelow P c.args.wave.terms.budget judged n new) (sym
          (add-one c.args.wave.number))
          (waves_go_on_lem P forced c.args.wave.terms.budget judged c.args.wave.number old new are c.requires.wave.tried
          (tries_all P forced c.args.wave.terms.budget judged c.args.wave.number old c.classes-tables.ensures.fits
          (subst IsFamily c.family.ensures c.classes-given.ensures.fits)
          (subst (λ (f : Family). AreParentsWithin f) c.family.ensures c.classes-given.ensures.within) are
          c.requires.wave.tried members new c.requires.wave.members all));
      tainted = c.loop-class.invariant.tainted;
    }
