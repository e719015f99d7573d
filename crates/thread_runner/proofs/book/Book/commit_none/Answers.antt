use Rattle.std.proofs.Common.{None, refl}
use Rattle.init_engine.specs.Turns.{world_of}
use Rattle.thread_runner.proofs.BookLemmas.{front_counts_if}
use Rattle.thread_runner.proofs.book.Book.commit_none.Goals as goal

pub returns-clause-answer : goal.returns-clause-answer
returns-clause-answer g c =
    front_counts_if g.O.Origin.program c.args.self.now.past c.args.thread None c.count_steps.result
    c.count_steps.new.self.past (world_of c.args.self.now.past.world) 0 refl refl
    (c.is_full.ensures.no c.if-is_full.false) tt c.count_steps.ensures.answer
