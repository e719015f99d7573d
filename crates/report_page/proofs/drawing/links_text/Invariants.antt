use Rattle.std.proofs.Common.{◌≡◌, take, string_bytes}
use Rattle.std.specs.List.{flat_map}
use Rattle.report_page.specs.Pictures.{link_text}
use Rattle.report_page.proofs.drawing.links_text.Given as goal

abbrev pub invariant-loop-link : goal.invariant-loop-link
invariant-loop-link l = string_bytes l.drawn ≡ flat_map link_text (take l.link-index l.links)
