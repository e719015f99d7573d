use Rattle.std.proofs.Common.{◌≡◌, ◌∷◌, [], None, subst, arith}
use Rattle.vm_state.specs.Segments.{frames_of}
use Rattle.semantics.specs.Steps.{Going}
use Rattle.program.specs.Tables.{Tables}
use Rattle.thread_runner.specs.Fronts.{FrontReach, IsRunOf, LeadsOn}
use Rattle.thread_runner.specs.Unshared.{unshared_step}
use Rattle.thread_runner.proofs.FrontLemmas.{has_segment, is_run_of, leads_on, no_step}
use Rattle.thread_runner.proofs.front.run_front.Goals as goal

pub returns-then-count-eq0 : goal.returns-then-count-eq0
returns-then-count-eq0 g c =
    subst (λ (P : Tables). unshared_step P c.args.done.now (Going (c.args.front ∷ []) []) ≡ None) c.requires.program
    (no_step c.args.program.now c.args.front c.args.most c.in-Ok.count c.args.start c.run_unshared.new.frames
    c.requires.start c.args.done.now c.requires.some c.if-count-eq0.true c.in-Ok.ensures.steps c.in-Ok.ensures.ends)

pub unreachable-requires : goal.unreachable-requires
unreachable-requires g c =
    has_segment c.args.program.now c.args.front c.args.most c.in-Ok.count c.args.start c.run_unshared.new.frames
    c.requires.start c.args.done.now c.in-Ok.ensures.steps c.in_default.is

pub invariant_of-result : goal.invariant_of-result
invariant_of-result g c =
    let s : FrontReach = record {
      from = c.args.front;
      asked = c.in-Ok.asked.items;
      count = c.in-Ok.count;
      to = frames_of c.in-Some.to;
    } in (
      omega (arith, c.if-count-eq0.false),
      subst (λ (P : Tables). LeadsOn P s) c.requires.program
          (leads_on c.args.program.now c.args.front c.args.most c.in-Ok.count c.args.start c.run_unshared.new.frames
          c.requires.start c.in-Some.to c.in-Some.is c.in-Ok.asked.items c.in-Ok.ensures.wide),
    )

pub returns-in-Some : goal.returns-in-Some
returns-in-Some g c =
    let s : FrontReach = record {
      from = c.args.front;
      asked = c.in-Ok.asked.items;
      count = c.in-Ok.count;
      to = frames_of c.in-Some.to;
    } in
    subst (λ (P : Tables). IsRunOf P c.args.done.now c.args.most c.args.front s) c.requires.program
    (is_run_of c.args.program.now c.args.front c.args.most c.in-Ok.count c.args.start c.run_unshared.new.frames
    c.requires.start c.in-Some.to c.in-Some.is c.in-Ok.asked.items c.args.done.now c.in-Ok.ensures.steps
    c.in-Ok.ensures.wide c.in-Ok.ensures.most c.in-Ok.ensures.ends)
