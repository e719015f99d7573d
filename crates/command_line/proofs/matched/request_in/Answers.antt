use Rattle.std.proofs.Common.{◌≡◌, None, Option, Some, rules, subst}
use Rattle.clap.specs.Simple.{app_of}
use Rattle.command_line.proofs.LineLemmas.{fault_told, line_of, nothing_of}
use Rattle.command_line.specs.Requests.{texts}
use Rattle.command_line.specs.declared.request.Request.{Request}
use Rattle.command_line.specs.steps.Faults.{AskedByMatches, IsWhatHolds}
use Rattle.command_line.proofs.matched.request_in.Goals as goal

pub returns-in-Ok-Some : goal.returns-in-Ok-Some
returns-in-Ok-Some c =
    let some : c.in-Ok-Some.field-0 ≡ Some c.in-Ok-Some.request = search rules in
    let asks = subst (λ (o : Option Request). IsWhatHolds (AskedByMatches c.in-Ok.matches) o) some c.in-Ok-Some.ensures in
    line_of (app_of c.args.program.now) (texts c.args.words.now) c.in-Ok.matches c.in-Ok-Some.request c.requires
    c.in-Ok.ensures.ok.2 c.in-Ok.ensures.kinds asks

pub returns-in-Ok-None : goal.returns-in-Ok-None
returns-in-Ok-None c =
    let none : c.in-Ok-None.field-0 ≡ None = search rules in
    let asks = subst (λ (o : Option Request). IsWhatHolds (AskedByMatches c.in-Ok.matches) o) none c.in-Ok-None.ensures in
    nothing_of (app_of c.args.program.now) (texts c.args.words.now) c.in-Ok.matches c.missing.result c.requires
    c.in-Ok.ensures.ok.2 c.in-Ok.ensures.kinds asks c.missing.ensures

pub returns : goal.returns
returns c =
    fault_told (app_of c.args.program.now) (texts c.args.words.now) c.in-Err.error c.fault_of.result c.requires
    c.in-Err.ensures.kinds c.fault_of.ensures.memory c.fault_of.ensures.kind
