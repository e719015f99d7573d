use Rattle.std.proofs.Common.{◌≡◌, take, string_bytes}
use Rattle.std.specs.List.{flat_map}
use Rattle.report_page.specs.Pictures.{node_text}
use Rattle.report_page.proofs.drawing.nodes_text.Given as goal

abbrev pub invariant-loop-node : goal.invariant-loop-node
invariant-loop-node l =
    string_bytes l.drawn ≡ flat_map (λ node. node_text l.family node) (take l.node-index l.nodes)
