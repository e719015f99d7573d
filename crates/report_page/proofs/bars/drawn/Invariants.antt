use Rattle.std.proofs.Common.{◌≡◌, take, string_bytes}
use Rattle.std.specs.List.{flat_map}
use Rattle.report_page.specs.Pictures.{bar_text}
use Rattle.report_page.proofs.bars.drawn.Given as goal

abbrev pub invariant-loop-bar : goal.invariant-loop-bar
invariant-loop-bar l = string_bytes l.drawn ≡ flat_map bar_text (take l.bar-index l.bars)
