use Rattle.std.proofs.Common.{string_bytes}
use Rattle.std.proofs.lemmas.List.{get_or_default}
use Rattle.inspection.specs.Texts.{hex_of}
use Rattle.inspection.proofs.TextsLemmas.{piece_more}
use Rattle.inspection.proofs.digest.digest_text.Goals as goal

pub loop-byte-preserved : goal.loop-byte-preserved
loop-byte-preserved c =
    piece_more hex_of _ c.loop-byte.byte-index _ (string_bytes c.loop-byte.text) (string_bytes c.add_byte.new.text)
    c.loop-byte-test.true (get_or_default _ c.loop-byte.byte-index _ _ c.loop-byte-test.true) c.loop-byte.invariant
    c.in_ok-add_byte.ensures
