use Rattle.clap.specs.Matches.{found_of}
use Rattle.command_line.proofs.MatchesLemmas.{number_read}
use Rattle.command_line.proofs.matched.count_of.Goals as goal

pub returns : goal.returns
returns c =
    number_read 32 (found_of c.args.matches.now) c.args.id.now c.get_one.result c.get_one.ensures.none
    c.get_one.ensures.value
