use Rattle.cli.proofs.JournaledLemmas.{flush_failed}
use Rattle.cli.proofs.by_threads.flushed.Goals as goal

pub returns-in-Err-flush : goal.returns-in-Err-flush
returns-in-Err-flush g c = λ limit P first before is.
    flush_failed limit P first before (g.W.Write.contents c.args.out.now) (g.W.Write.contents c.flush.new.self)
    c.in-Ok.ran (rw c.in-Ok.is at is) c.flush.ensures.bytes
