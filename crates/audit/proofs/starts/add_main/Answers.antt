use Rattle.std.proofs.Common.{◌≡◌, Some, None, refl}
use Rattle.audit.specs.steps.Reaching.{IsMainVertex}
use Rattle.audit.proofs.PlacesLemmas.{one_added, nothing_added}
use Rattle.audit.proofs.starts.add_main.Goals as goal

pub returns-in_ok-push-in-Some : goal.returns-in_ok-push-in-Some
returns-in_ok-push-in-Some c =
    one_added c.args.from.now.items c.push.new.self.items c.in-Some.vertex
    (IsMainVertex c.args.program.now c.args.uses.now.methods c.args.entry) c.in_ok-push-in-Some.ensures.items
    ((c.in-Some.ensures c.in-Some.vertex).0 refl) (λ y a.
    (let two : Some c.in-Some.vertex ≡ Some y = (c.in-Some.ensures y).1 a in
    let same : c.in-Some.vertex ≡ y = cc in same))

pub returns-in-None : goal.returns-in-None
returns-in-None c =
    nothing_added c.args.from.now.items (IsMainVertex c.args.program.now c.args.uses.now.methods c.args.entry) (λ y a.
    (let two : None ≡ Some y = (c.in-None.ensures y).1 a in cc))
