use Rattle.std.proofs.Common.{◌≤◌, length, subst}
use Rattle.thread_runner.specs.Kept.{Pages, printed_text}
use Rattle.thread_runner.proofs.SendingLemmas.{place_within}
use Rattle.thread_runner.proofs.book.Book.sent.Goals as goal

pub returns-clause-within : goal.returns-clause-within
returns-clause-within g c =
    subst (λ (b : Pages). b.sent ≤ length (printed_text b)) c.self.view_is
    (place_within c.self.inside.world.printed c.self.inside.prints c.self.inside.bytes c.self.invariant.place)
