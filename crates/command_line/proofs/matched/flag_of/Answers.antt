use Rattle.std.proofs.Common.{◌∙◌}
use Rattle.clap.proofs.WalkLemmas.{one_text-rows}
use Rattle.clap.specs.Matches.{found_of}
use Rattle.command_line.proofs.matched.flag_of.Goals as goal

pub returns : goal.returns
returns c =
    let is = one_text-rows (found_of c.args.matches.now) c.args.id.now in
    record {
      none = λ e. c.get_flag.ensures.none (is ∙ e);
      yes = λ e. c.get_flag.ensures.value (is ∙ e);
      no = λ e. c.get_flag.ensures.other (is ∙ e);
    }
