use Rattle.std.proofs.Common.{◌≡◌, ◌≤◌, length, subst}
use Rattle.thread_runner.specs.Kept.{Pages, printed_text}
use Rattle.thread_runner.specs.Sendings.{AreOfPrints}
use Rattle.thread_runner.proofs.SendingLemmas.{prints_sent, place_within}
use Rattle.thread_runner.proofs.book.Book.world.Goals as goal

pub returns-clause-sent : goal.returns-clause-sent
returns-clause-sent g c =
    subst (λ (b : Pages). b.sent ≤ length (printed_text b)) c.self.view_is
    (place_within c.self.inside.world.printed c.self.inside.prints c.self.inside.bytes c.self.invariant.place)

pub returns-clause-prints : goal.returns-clause-prints
returns-clause-prints g c =
    subst (λ (b : Pages). b.part ≡ 0 → AreOfPrints b.past.world.printed b.sent) c.self.view_is
    (prints_sent c.self.inside.world.printed c.self.inside.prints c.self.inside.bytes c.self.invariant.place)
