use Rattle.std.proofs.lemmas.Iterator.{YieldsList-from_chars}
use Rattle.std.proofs.lemmas.Iterator.Consumers.{YieldsList-end}
use Rattle.cli.proofs.SlashLemmas.{slash_more, slashed_text}
use Rattle.cli.proofs.entries.slashed.Goals as goal

pub loop-character-preserved : goal.loop-character-preserved
loop-character-preserved c =
    slash_more c.loop-character.yielded c.in-Some.character c.slash_of.result _ _ c.loop-character.invariant
    c.slash_of.ensures c.in_ok-push.ensures.bytes

pub returns : goal.returns
returns c =
    let end' = YieldsList-end (YieldsList-from_chars c.args.text.now c.utf8.text cc) c.loop-character.yielded _
    c.loop-character.yielded_by _ _ c.in-None.is c.next.ensures.steps in
    slashed_text c.args.text.now _ c.loop-character.yielded c.utf8.text end'.0 c.loop-character.invariant
