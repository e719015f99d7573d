use Rattle.init_engine.proofs.SliceLemmas.{turn_prints}
use Rattle.init_engine.proofs.rounds.step.Goals as goal

pub returns-clause-prints : goal.returns-clause-prints
returns-clause-prints c =
    turn_prints c.in_ok-turn.turn c.args.text.now c.text_at.result c.saturating_sub.result c.args.world.now.printed
    c.step.new.self.printed c.requires.text c.in_ok-turn.ensures.prints c.saturating_sub.ensures
    (rw (c.printed-2.ensures, c.count-prints.ensures, c.printed.ensures) at c.text_at.ensures.none)
    (rw (c.printed-2.ensures, c.count-prints.ensures, c.printed.ensures) at c.text_at.ensures.some)
