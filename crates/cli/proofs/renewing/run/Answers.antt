use Rattle.std.proofs.lemmas.Result.{on_ok_weaker}
use Rattle.cli.specs.Renewals.{IsRenewed}
use Rattle.cli.proofs.RenewedLemmas.{has_renewed}
use Rattle.cli.proofs.renewing.run.Goals as goal

pub returns-clause-renewed : goal.returns-clause-renewed
returns-clause-renewed g c =
    let is : IsRenewed c.in_ok-bytes.bytes.items c.as_slice-2.result.now =
    rw (c.as_slice.ensures.value, ← c.as_slice-2.ensures.value) at c.in_ok-renewed.ensures.image in
    on_ok_weaker c.put.result
    (λ made. has_renewed (g.F.Files.holds c.args.files.now) (g.F.Files.holds c.get.new.files)
    (g.F.Files.holds c.put.new.files) c.args.words.now c.in_ok-bytes.bytes.items c.as_slice-2.result.now
    c.in_ok-bytes.ensures.bytes is c.get.ensures.same made c.put.ensures.others)
    c.put.ensures.made
