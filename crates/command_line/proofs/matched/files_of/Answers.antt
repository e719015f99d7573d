use Rattle.std.proofs.Common.{◌≡◌, ◌∙◌, rules, [], List, Option, unwrap_or, ap, codes, ℕ}
use Rattle.std.proofs.lemmas.Result.{IfOk-weaker}
use Rattle.clap.proofs.WalkLemmas.{raw_values-rows}
use Rattle.clap.specs.Matches.{found_of}
use Rattle.command_line.specs.Requests.{texts}
use Rattle.command_line.proofs.matched.files_of.Goals as goal

abbrev or_none : Option (List (List ℕ)) → List (List ℕ)
or_none o = unwrap_or o []

pub returns-in-Some : goal.returns-in-Some
returns-in-Some c =
    let is = raw_values-rows (found_of c.args.matches.now) (codes "file") in
    IfOk-weaker c.from_slice.result _ _ (λ files same. ap texts same ∙ ap or_none (c.in-Some.ensures ∙ is))
    c.from_slice.ensures.items

pub returns-in-None : goal.returns-in-None
returns-in-None c =
    let none : c.new.result.items ≡ [] = search rules in
    ap texts none ∙ ap or_none (c.in-None.ensures ∙ raw_values-rows (found_of c.args.matches.now) (codes "file"))
