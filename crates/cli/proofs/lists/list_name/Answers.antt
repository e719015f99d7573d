use Rattle.std.proofs.Common.{None, lit<, sym}
use Rattle.std.proofs.lemmas.Str.Pattern.{strip_prefix_char}
use Rattle.cli.proofs.ListLemmas.{no_list}
use Rattle.cli.proofs.lists.list_name.Goals as goal

pub returns-in-None : goal.returns-in-None
returns-in-None c =
    sym (no_list c.args.word.now (strip_prefix_char 64 c.args.word.now None c.in-None.ensures.cases (lit< tt)))
