use Rattle.loading.proofs.PlaceLemmas.{place_in}
use Rattle.explain.proofs.CallersLemmas.{has_root, is_path}
use Rattle.explain.proofs.marks.path_for.Goals as goal

pub unreachable-requires : goal.unreachable-requires
unreachable-requires c =
    let (v, among, is) = (c.requires.searched.reached c.args.method).1 c.requires.runs in
    let (place, at) = place_in c.args.search.now.seen.items v among in
    c.in_default.ensures place (v, at, is)

pub path_to-requires-clause-root : goal.path_to-requires-clause-root
path_to-requires-clause-root c =
    has_root c.args.program.now c.args.uses.now c.args.class c.args.search.now c.requires.searched

pub path_to-requires-clause-here : goal.path_to-requires-clause-here
path_to-requires-clause-here c = (c.args.method, c.in-Some.ensures)

pub returns : goal.returns
returns c =
    is_path c.args.program.now c.args.uses.now c.args.class c.in-Some.place c.args.search.now
    c.in_ok-path.path.items c.args.method c.requires.searched c.in-Some.ensures c.in_ok-path.ensures
