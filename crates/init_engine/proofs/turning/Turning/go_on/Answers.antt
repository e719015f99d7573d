use Rattle.machine.specs.Linked.{program_of}
use Rattle.init_engine.specs.contracts.turning.Turning.{the_view}
use Rattle.init_engine.proofs.SliceLemmas.{has_turned, is_slice}
use Rattle.init_engine.proofs.turning.Turning.go_on.Goals as goal

pub returns-clause-turns : goal.returns-clause-turns
returns-clause-turns c =
    rw (← c.self.view_is) (λ first limit under.
    has_turned (program_of c.args.program.now) first limit c.in_ok-place.over (the_view c.self.inside)
    (the_view (record {
      world = c.run_rounds.new.world;
      table = c.run_rounds.new.table;
      schedule = c.run_rounds.new.schedule;
      place = c.in_ok-place.place;
    })) c.run_rounds.new.allowance under c.in_ok-place.ensures.turns c.run_rounds.ensures.threads
    c.in_ok-place.ensures.halted)

pub returns-clause-slice : goal.returns-clause-slice
returns-clause-slice c =
    rw (← c.self.view_is)
    (is_slice c.args.steps c.args.bytes _ c.in_ok-place.over _ _ _ c.in_ok-place.ensures.spends
    c.in_ok-place.ensures.halted)
